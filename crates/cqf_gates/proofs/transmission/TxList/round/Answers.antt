-- A round has a positive duration.
use Rattle.std.proofs.Common.{◌<◌, subst, sym, ◌∙◌, ap}
use Rattle.cqf_model.specs.GateList.{round_of}
use Rattle.cqf_gates.proofs.OpenSpans.{round_positive}
use Rattle.cqf_gates.proofs.transmission.TxList.round.Goals as goal

pub returns-clause-some : goal.returns-clause-some
returns-clause-some c = subst (λ n. 0 < n) (sym (c.length_of.ensures.value ∙ ap round_of c.entries.ensures.value))
    (round_positive c.args.self.now c.entries.ensures.facts)
