use Rattle.std.proofs.Common.{◌∙◌, ◌-◌, List, ℕ, arith, subst, sym}
use Rattle.cqf_model.specs.declared.topology.Node.TheVariants.{Bridge}
use Rattle.cqf_network.specs.Ends.{is_in, open_to}
use Rattle.cqf_network.specs.Steps.{IsFirstInto}
use Rattle.cqf_network.specs.Paths.{has_room}
use Rattle.cqf_network.proofs.StepLemmas.{none_more, one_more}
use Rattle.cqf_network.proofs.link_paths.+path_into.Goals as goal

pub returns-in_err-found-clause-first : goal.returns-in_err-found-clause-first
returns-in_err-found-clause-first t c =
    let next = open_to c.args.room.links.now (has_room c.args.room.left.now c.args.room.cost) in
    rw c.from_residual.ensures
    (λ path end short. none_more next (is_in c.args.ends.now) (is_in c.before-before.result) (Bridge c.args.from) (c.args.most - 1)
    c.before-before.ensures (sym c.hold.ensures ∙ c.if-hold.false) c.in_err-found.ensures.first path end (omega (arith, short)))

pub returns-clause-first : goal.returns-clause-first
returns-clause-first t c =
    let next = open_to c.args.room.links.now (has_room c.args.room.left.now c.args.room.cost) in
    subst (λ (path : List ℕ). IsFirstInto next (is_in c.args.ends.now) (Bridge c.args.from) path c.in_ok-link.end) (sym c.push.ensures.items)
    (one_more next (is_in c.args.ends.now) (is_in c.before-before.result) (Bridge c.args.from) c.in_ok-found.found.end c.in_ok-link.end
    c.in_ok-found.found.path.items c.in_ok-link.link c.before-before.ensures (sym c.hold.ensures ∙ c.if-hold.false) c.in_ok-found.ensures.first c.in_ok-link.ensures)
