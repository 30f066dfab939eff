use Rattle.std.proofs.Common.{◌≡◌, ◌∙◌, ◌∷◌, [], ℕ, ap, arith, length}
use Rattle.cqf_lists.specs.Lists.{each_below}
use Rattle.cqf_model.specs.History.{held_in, seals}
use Rattle.cqf_program_placing.specs.ActiveCycles.{left_emptiest}
use Rattle.cqf_program_placing.proofs.rooms.lefts.Goals as goal

pub returns : goal.returns
returns c =
    let d = c.args.domain.now in
    let entries = c.args.admission.now.entries in
    let all : c.loop-link.link ≡ length d.links = omega (arith, c.loop-link.auto.link-end, c.loop-link-test.false, c.links-link-end.ensures) in
    c.loop-link.invariant ∙ ap (λ (n : ℕ). each_below (λ l. left_emptiest d (held_in d entries (seals entries)) c.args.every l ∷ []) n) all
