-- The starts of a run's first cycles, and when frames are whole by them.
use Rattle.std.proofs.Common.{◌≡◌, ◌∙◌, ◌+◌, ◌-◌, ◌<◌, ◌≤◌, ◌++◌, ◌==◌, ◌&&◌, ℕ, List, None, Contains, ap, arith, length, option_map, subst, sym}
use Rattle.std.specs.Option.{option_or}
use Rattle.std.specs.Prelude.{suc, zero}
use Rattle.std.proofs.lemmas.List.Folds.{find-append}
use Rattle.cqf_lists.proofs.EachBelow.{contains_below, contains_from_below}
use Rattle.cqf_lists.proofs.Members.{contains_from_map}
use Rattle.cqf_instants.specs.Meaning.{Given as GivenRun}
use Rattle.cqf_instants.specs.Progress.{starts_of_cycle}
use Rattle.cqf_instants.proofs.Steps.{starts_more}
use Rattle.cqf_model.specs.declared.frames.Started.{Started}
use Rattle.cqf_model.specs.Book.{batch, started, starts_in}
use Rattle.cqf_model.specs.Domain.{Domain}
use Rattle.cqf_program_runs.specs.Deliveries.{start_on, whole_instant, whole_on}
use Rattle.cqf_program_runs.specs.Deliveries.UnderWay.{starts_written}
use Rattle.cqf_program_runs.proofs.Fates.{none_found}
use Rattle.cqf_program_runs.proofs.KeptSlots.{not_these, or_none}

-- a start of a cycle has the cycle's number
pub of_its_cycle : (given : GivenRun) (cycle : ℕ) (s : Started) → Contains (starts_of_cycle given cycle) s → s.cycle.0 ≡ cycle
of_its_cycle given cycle s among =
    let on = contains_from_below (starts_in given.run.domain given.net.carried cycle) (length given.run.domain.links) s among in
    let sent = contains_from_map (started cycle on.0) (batch given.run.domain given.net.carried on.0 cycle) s on.2 in
    sym (ap (λ (z : Started). z.cycle.0) sent.2)

-- a start of the first cycles has a lower number, and is among the starts of more cycles
pub written_in : (given : GivenRun) (cycles : ℕ) (s : Started) → Contains (starts_written given cycles) s → s.cycle.0 < cycles
written_in given cycles s among =
    let at = contains_from_below (starts_of_cycle given) cycles s among in
    omega (arith, at.1, of_its_cycle given at.0 s at.2)

pub written_later : (given : GivenRun) (cycles more : ℕ) (s : Started) → cycles ≤ more → Contains (starts_written given cycles) s → Contains (starts_written given more) s
written_later given cycles more s fewer among =
    let at = contains_from_below (starts_of_cycle given) cycles s among in
    contains_below (starts_of_cycle given) more at.0 s (omega (arith, at.1, fewer)) at.2

module _ (d : Domain) (starts : List Started) (frame link : ℕ) where
  -- a frame without a start is whole nowhere
  pub none_starts : ((s : Started) → Contains starts s → s.frame ≡ frame → ⊥) → start_on starts frame link ≡ None
  none_starts none =
      none_found (λ (z : Started). (z.frame == frame) && (z.link == link)) starts (λ s c. not_these s.frame s.link frame link (λ own _. none s c own))

  pub none_whole : ((s : Started) → Contains starts s → s.frame ≡ frame → ⊥) → whole_on d starts frame link ≡ None
  none_whole none = ap (option_map (whole_instant d)) (none_starts none)

-- all starts of a frame are returned if the last one is
module _ (given : GivenRun) (d : Domain) (reported frame link : ℕ) where
  by_more : (k : ℕ) → ((s : Started) → Contains (starts_written given (reported + k)) s → s.frame ≡ frame → s.cycle.0 < reported) →
      start_on (starts_written given (reported + k)) frame link ≡ start_on (starts_written given reported) frame link
  by_more zero early = (let same : reported + 0 ≡ reported = omega arith in ap (λ (n : ℕ). start_on (starts_written given n) frame link) same)
  by_more (suc k) early =
      let next : reported + k + 1 ≡ reported + suc k = omega arith in
      let before = starts_written given (reported + k) in
      let more = starts_of_cycle given (reported + k) in
      let is : before ++ more ≡ starts_written given (reported + suc k) = starts_more given (reported + k) ∙ ap (starts_written given) next in
      ap (λ (ss : List Started). start_on ss frame link) (sym is)
      ∙ find-append (λ (z : Started). (z.frame == frame) && (z.link == link)) before more
      ∙ ap (option_or (start_on before frame link)) (none_starts d more frame link (λ s among own.
      let early_one = early s (contains_below (starts_of_cycle given) (reported + suc k) (reported + k) s (omega arith) among) own in
      absurd (omega (arith, early_one, of_its_cycle given (reported + k) s among))))
      ∙ or_none (start_on before frame link)
      ∙ by_more k (λ s among own. early s (written_later given (reported + k) (reported + suc k) s (omega arith) among) own)

  pub all_written : (cycles : ℕ) → reported ≤ cycles → ((s : Started) → Contains (starts_written given cycles) s → s.frame ≡ frame → s.cycle.0 < reported) →
      whole_on d (starts_written given reported) frame link ≡ whole_on d (starts_written given cycles) frame link
  all_written cycles fewer early =
      let is : reported + (cycles - reported) ≡ cycles = omega (arith, fewer) in
      ap (option_map (whole_instant d))
      (sym (by_more (cycles - reported) (subst (λ (n : ℕ). (s : Started) → Contains (starts_written given n) s → s.frame ≡ frame → s.cycle.0 < reported) (sym is) early))
      ∙ ap (λ (n : ℕ). start_on (starts_written given n) frame link) is)
