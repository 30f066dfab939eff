use Rattle.std.proofs.Common.{◌≡◌, ◌+◌, ℕ, subst, drop, length, None, Some, ◌∙◌, ap, sym, arith, List}
use Rattle.std.specs.Prelude.{String, string_bytes}
use Rattle.std.specs.declared.alloc.Global.{Global}
use Rattle.std.proofs.lemmas.List.{length-map}
use Rattle.std.specs.List.{flat_map}
use Rattle.cqf_admission.specs.Branches.{AreNodes, branch_of, branches_of, fault_in}
use Rattle.cqf_admission.proofs.FaultLemmas.{fault_within, goes_on, room_for}
use Rattle.cqf_admission.proofs.NodeLemmas.{nodes_here, nodes_next}
use Rattle.cqf_admission.proofs.branches.first_fault_of.Goals as goal

pub overflow_add-result : goal.overflow_add-result
overflow_add-result c =
    let d = c.args.domain.now in
    let branch = c.branch-item.result in
    let found : fault_in d c.args.check (branch_of branch.items) ≡ Some c.in-Some.index =
    ap (λ (xs : List (String Global)). fault_in d c.args.check (branch_of xs)) (sym c.as_slice.ensures.value) ∙ sym c.fault_of.ensures ∙ c.in-Some.is in
    let within = fault_within d c.args.check (branch_of branch.items) c.in-Some.index found in
    let room = room_for d c.args.check c.args.paths.now c.loop-branch.branch-index c.loop-branch.before branch c.loop-branch-test.true
    (sym c.branch-item.is) c.loop-branch.invariant.0 in
    record { fits = omega (arith, within, room, length-map branch.items string_bytes, c.requires) }

pub fault_of-requires : goal.fault_of-requires
fault_of-requires c =
    subst (λ (xs : List (String Global)). AreNodes c.args.domain.now (branch_of xs) c.loop-branch.rest.now) (sym c.as_slice.ensures.value)
    (nodes_here c.args.domain.now c.args.paths.now c.loop-branch.branch-index c.branch-item.result c.loop-branch.rest.now
    c.loop-branch-test.true (sym c.branch-item.is) c.loop-branch.invariant.1)

pub loop-branch-preserved : goal.loop-branch-preserved
loop-branch-preserved c =
    let d = c.args.domain.now in
    let index = c.loop-branch.branch-index in
    let branch = c.branch-item.result in
    let is = sym c.branch-item.is in
    let none : fault_in d c.args.check (branch_of branch.items) ≡ None =
    ap (λ (xs : List (String Global)). fault_in d c.args.check (branch_of xs)) (sym c.as_slice.ensures.value) ∙ sym c.fault_of.ensures ∙ c.in_default.is in
    let counted : c.len-before.result ≡ length branch.items =
    omega (arith, c.len-before.ensures, c.as_slice.ensures.len, ap (λ (xs : List (String Global)). length xs) c.as_slice.ensures.value) in
    let counted_too : c.len.result ≡ length branch.items =
    omega (arith, c.len.ensures, c.as_slice.ensures.len, ap (λ (xs : List (String Global)). length xs) c.as_slice.ensures.value) in (
      goes_on d c.args.check c.args.paths.now index c.loop-branch.before branch c.loop-branch-test.true is c.loop-branch.invariant.0
          (c.loop-branch.before + c.len-before.result) (ap (λ (n : ℕ). c.loop-branch.before + n) counted) none,
      subst (AreNodes d (flat_map (λ b. b) (branches_of (drop (index + 1) c.args.paths.now)))) (sym c.nodes_after-rest.ensures)
          (nodes_next d c.args.paths.now index branch c.loop-branch.rest.now c.loop-branch-test.true is c.loop-branch.invariant.1
          c.len.result counted_too),
    )
