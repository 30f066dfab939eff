use Rattle.std.proofs.Common.{◌∙◌, ap, not, sym, arith}
use Rattle.std.specs.Prelude.{is_none, string_bytes}
use Rattle.std.proofs.lemmas.List.{length-map}
use Rattle.cqf_admission.specs.Branches.{branch_of}
use Rattle.cqf_admission.proofs.NodeLemmas.{none_unknown, unknown_found}
use Rattle.cqf_admission.proofs.branches.unknown_index.Goals as goal

pub returns-then-is_none : goal.returns-then-is_none
returns-then-is_none c =
    unknown_found c.args.domain.now (branch_of c.args.branch.now) c.loop-index.index
    (omega (arith, c.loop-index-test.true, length-map c.args.branch.now string_bytes))
    (ap is_none (sym c.node_of.ensures) ∙ ap not c.if-is_none.ensures) c.loop-index.invariant

pub returns : goal.returns
returns c =
    none_unknown c.args.domain.now (branch_of c.args.branch.now)
    (λ k h. c.loop-index.invariant k (omega (arith, h, c.loop-index-test.false, length-map c.args.branch.now string_bytes)))
