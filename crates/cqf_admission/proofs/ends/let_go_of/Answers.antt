use Rattle.std.proofs.Common.{◌≡◌, ◌++◌, ◌∷◌, [], ◌∙◌}
use Rattle.cqf_admission.proofs.LetGo.{held_yet, one_taken}
use Rattle.cqf_admission.proofs.ends.let_go_of.Goals as goal

pub let_go-requires : goal.let_go-requires
let_go-requires c =
    let last : c.loop-number.slot.items ≡ c.pop.new.self.items ++ c.in-Some.number ∷ [] = c.in-Some.ensures.items in
    held_yet c.args.slot.now.items c.args.holdings.now.rows c.loop-number.slot.items c.loop-number.holdings.rows c.loop-number.invariant.0 c.in-Some.number
    c.pop.new.self.items last c.requires.held c.requires.once

pub loop-number-preserved : goal.loop-number-preserved
loop-number-preserved c =
    let last : c.loop-number.slot.items ≡ c.pop.new.self.items ++ c.in-Some.number ∷ [] = c.in-Some.ensures.items in
    let held = held_yet c.args.slot.now.items c.args.holdings.now.rows c.loop-number.slot.items c.loop-number.holdings.rows c.loop-number.invariant.0
    c.in-Some.number c.pop.new.self.items last c.requires.held c.requires.once in (
      one_taken c.args.slot.now.items c.args.holdings.now.rows c.loop-number.slot.items c.loop-number.holdings.rows c.loop-number.invariant.0 c.in-Some.number
          c.pop.new.self.items last c.let_go.new.self.rows held.inside c.let_go.ensures.rows,
      c.let_go.ensures.links ∙ c.loop-number.invariant.1,
    )
