-- A link's sums are those of the covered offers' hops.
use Rattle.std.proofs.Common.{◌≡◌, ℕ, ◌<◌, List, Bool, true, false, cond, ap, ◌∙◌, subst, arith, refl, Contains, length, ◌==◌, ◌&&◌, nat_lt}
use Rattle.std.proofs.Common.{if◌then◌else◌, le-ltb, ne_eqb}
use Rattle.std.proofs.lemmas.Bool.{lt-ltb}
use Rattle.cqf_lists.proofs.EachBelow.{length-singles}
use Rattle.cqf_lists.proofs.Sums.{sum_none}
use Rattle.cqf_model.specs.declared.frames.Offered.{Offered}
use Rattle.cqf_model.specs.declared.frames.Started.{Started}
use Rattle.cqf_model.specs.History.{table_at}
use Rattle.cqf_model.specs.HistoryBook.{run_of_history}
use Rattle.cqf_model.specs.Run.{Run}
use Rattle.cqf_model.specs.Policing.{Verdict}
use Rattle.cqf_laws_history.specs.HistoryLaws.{TablesAreOrderly}
use Rattle.cqf_laws_coverage.specs.Counted.{AreCountedHops, HistoryIsCounted, IsCounted, StartsAreHops, counts_frames, counts_in, counts_octets}
use Rattle.cqf_laws_coverage.proofs.Matched.{sum_same}
use Rattle.cqf_laws_shift.proofs.Octets.{of_batch}

-- if the second test fails, nothing counts
pub second_fails : (a b : Bool) (n : ℕ) → b ≡ false → (if a && b then n else 0) ≡ 0
second_fails true true n e = absurd (cc)
second_fails true false n e = refl
second_fails false b n e = refl

-- and if it passes, the first test decides
pub second_passes : (a b : Bool) (n : ℕ) → b ≡ true → (if a then n else 0) ≡ (if a && b then n else 0)
second_passes true true n e = refl
second_passes true false n e = absurd (cc)
second_passes false b n e = refl

module _ (run : Run) (verdict : Offered → Verdict) (starts : List Started) (hops : AreCountedHops run verdict starts)
    (in_run : (s : Started) → Contains starts s → s.cycle.0 < length run.tables) (link : ℕ) where
  -- the cycles of the run
  abbrev cycles : ℕ
  cycles = length run.tables

  pub is_counted : IsCounted run.domain (length run.tables) run.offers verdict starts link
  is_counted = record {
    frames =
        sum_same (λ (s : Started). cond (s.link == link) 1 0) (λ (s : Started). counts_frames link cycles s.link s.cycle.0 s.octets) starts
        (λ s c. second_passes (s.link == link) (nat_lt s.cycle.0 cycles) 1 (lt-ltb s.cycle.0 cycles (in_run s c)))
        ∙ hops (counts_frames link cycles) (λ l c octets past. second_fails (l == link) (nat_lt c cycles) 1 (le-ltb c cycles past));
    octets =
        sum_same (λ (s : Started). if s.link == link then s.octets else 0) (λ (s : Started). counts_octets link cycles s.link s.cycle.0 s.octets) starts
        (λ s c. second_passes (s.link == link) (nat_lt s.cycle.0 cycles) s.octets (lt-ltb s.cycle.0 cycles (in_run s c)))
        ∙ hops (counts_octets link cycles) (λ l c octets past. second_fails (l == link) (nat_lt c cycles) octets (le-ltb c cycles past));
    column = λ cycle within. hops (counts_in link cycle)
        (λ l c octets past. second_fails (l == link) (c == cycle) octets (ne_eqb c cycle (λ e. omega (arith, e, past, within))));
    later = λ cycle past. sum_none (λ (s : Started). if (s.link == link) && (s.cycle.0 == cycle) then s.octets else 0) starts
        (λ s c. second_fails (s.link == link) (s.cycle.0 == cycle) s.octets (ne_eqb s.cycle.0 cycle (λ e. omega (arith, e, past, in_run s c))));
  }

-- the law
pub history_is_counted : StartsAreHops → TablesAreOrderly → HistoryIsCounted
history_is_counted are_hops orderly d entries offers background cycles book verdict link accepted legal offered following is decided =
    let run = run_of_history d entries offers background cycles in
    let one = is.is_book in
    subst (λ (n : ℕ). IsCounted d n offers verdict book.starts link) (length-singles (table_at d entries) cycles)
    (is_counted run verdict book.starts
    (are_hops run book verdict accepted (orderly d entries cycles legal is.sealed) offered following one decided)
    (λ s c.
    let b = of_batch run one.net.carried (length run.tables) s (subst (λ (xs : List Started). Contains xs s) one.are_starts c) in
    omega (arith, b.in_run, ap (λ (z : Started). z.cycle.0) b.of.is))
    link)
