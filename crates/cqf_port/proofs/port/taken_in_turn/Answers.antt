use Rattle.std.proofs.Common.{rules, List, subst}
use Rattle.std.proofs.lemmas.List.{take_all}
use Rattle.cqf_model.specs.declared.ports.Arrival.{Arrival}
use Rattle.cqf_port.specs.Progress.{IsKeptByAll}
use Rattle.cqf_port.proofs.Begun.{kept_next}
use Rattle.cqf_port.proofs.port.taken_in_turn.Goals as goal

pub loop-index-init : goal.loop-index-init
loop-index-init c = λ port some. search rules

pub loop-index-preserved : goal.loop-index-preserved
loop-index-preserved c = kept_next c.args.arrivals.now c.requires c.loop-index.index c.loop-index-test.true c.loop-index.progress
    c.after_arrival-progress.result c.loop-index.newest c.from.result c.loop-index.invariant c.from.ensures c.after_arrival-progress.ensures

pub returns : goal.returns
returns c = subst (λ (xs : List Arrival). IsKeptByAll xs c.loop-index.progress c.loop-index.newest)
    (take_all c.loop-index.index c.args.arrivals.now c.loop-index-test.false) c.loop-index.invariant
