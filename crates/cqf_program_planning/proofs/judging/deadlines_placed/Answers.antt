use Rattle.std.proofs.Common.{◌∙◌, ◌++◌, ℕ, Option, append-nil, ap, map, sym}
use Rattle.cqf_model.specs.History.{Asked}
use Rattle.cqf_program_placing.specs.Settled.{SettledStream}
use Rattle.cqf_program_planning.proofs.PlacedLemmas.{made_end, made_step, those_from}
use Rattle.cqf_program_planning.proofs.judging.deadlines_placed.Goals as goal

pub loop-index-preserved : goal.loop-index-preserved
loop-index-preserved c =
    let deadline : (SettledStream × Asked) → Option ℕ = λ one. one.0.deadline in
    made_step c.args.streams.now c.args.outcomes.now c.loop-index.index c.index-streams-index.result c.index-outcomes-index.result c.loop-index-test.true
    c.requires c.index-streams-index.is c.index-outcomes-index.is deadline (map deadline (those_from c.args.streams.now c.args.outcomes.now 0))
    c.loop-index.deadlines.items c.put_deadline.new.deadlines.items c.loop-index.invariant c.in_ok-put_deadline.ensures

pub returns : goal.returns
returns c =
    let deadline : (SettledStream × Asked) → Option ℕ = λ one. one.0.deadline in
    let done = c.loop-index.deadlines.items in
    sym (append-nil done)
    ∙ ap (λ x. done ++ x) (sym (made_end deadline c.args.streams.now c.args.outcomes.now c.loop-index.index c.loop-index-test.false))
    ∙ sym c.loop-index.invariant
