use Rattle.std.proofs.Common.{◌≡◌, ◌∙◌, ap, arith, sym}
use Rattle.cqf_program_summary.specs.declared.hops.rounds.Round.{Round}
use Rattle.cqf_program_summary.specs.Hops.Rounds.{kept_in, no_round, starts_before}
use Rattle.cqf_program_summary.proofs.InRounds.{none_before}
use Rattle.cqf_program_summary.proofs.hops.steps.LegsUnderWay.at_first.Goals as goal

pub returns-clause-stands : goal.returns-clause-stands
returns-clause-stands c = λ starts source are. record {
  is = are;
  reported = omega (arith, c.requires, ap (λ (r : Round). r.cycles) c.no_round.ensures);
  kept = c.clear.ensures.items ∙ sym (ap (kept_in source no_round) (none_before starts))
      ∙ ap (λ (r : Round). kept_in source r (starts_before r.cycles starts)) (sym c.no_round.ensures);
}
