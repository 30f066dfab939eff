-- What leaves by a link in a cycle is within the link's budget.
use Rattle.std.proofs.Common.{◌≡◌, ℕ, ◌<◌, ◌≤◌, List, Bool, true, false, sym, ap, ◌∙◌, subst, arith, refl, AllPairs, Contains, length, eqb-true, eq-eqb}
use Rattle.std.proofs.Common.{◌==◌, ◌&&◌, if◌then◌else◌}
use Rattle.std.proofs.lemmas.Bool.{and_from, and_parts, cond-true}
use Rattle.cqf_units.specs.Timing.{wire_of}
use Rattle.cqf_lists.proofs.Pairs.{pairs_weaker}
use Rattle.cqf_model.specs.declared.frames.Sent.{Sent}
use Rattle.cqf_model.specs.declared.frames.Started.{Started}
use Rattle.cqf_model.specs.Book.{starts_of}
use Rattle.cqf_model.specs.Domain.{cycle_of}
use Rattle.cqf_model.specs.Run.{Run}
use Rattle.cqf_model.specs.Policing.{Carried}
use Rattle.cqf_model.specs.Promise.{wire_in_cycle}
use Rattle.cqf_laws_shift.proofs.Apart.{AreApart}
use Rattle.cqf_laws_coverage.specs.InOneCycle.{octets_summed}
use Rattle.cqf_laws_coverage.proofs.Matched.{sum_le_own}
use Rattle.cqf_laws_shift.proofs.Octets.{of_batch}

-- what counts passes both tests
counts_so : (a b : Bool) (n : ℕ) → 0 < (if a && b then n else 0) → ((a && b) ≡ true) × ((if a && b then n else 0) ≡ n)
counts_so true true n some = (refl, refl)
counts_so true false n some = absurd (omega (arith, some))
counts_so false b n some = absurd (omega (arith, some))

module _ (run : Run) (carried : Carried) (apart : AllPairs AreApart (starts_of run.domain (length run.tables) carried)) (link cycle : ℕ) where
  -- the starts of the run
  abbrev starts : List Started
  starts = starts_of run.domain (length run.tables) carried

  -- what a start counts on the link in the cycle, and what a frame takes of the wire
  abbrev of_start : Started → ℕ
  of_start s = if (s.link == link) && (s.cycle.0 == cycle) then s.octets else 0

  abbrev of_sent : Sent → ℕ
  of_sent sent = if cycle_of run.domain sent.start.0 == cycle then wire_of sent.octets else 0

  -- whether a start is that of a frame
  abbrev match : Started → Sent → Bool
  match s sent = (s.link == link) && (s.frame == sent.frame)

  -- each start is that of a frame, which takes no less
  has : (s : Started) → Contains starts s → 0 < of_start s → (sent : Sent) × Contains (carried link) sent × (match s sent ≡ true) × (of_start s ≤ of_sent sent)
  has s c some =
      let counts = counts_so (s.link == link) (s.cycle.0 == cycle) s.octets some in
      let parts = and_parts (s.link == link) (s.cycle.0 == cycle) counts.0 in
      let b = of_batch run carried (length run.tables) s c in
      let links : b.link ≡ link = ap (λ (z : Started). z.link) b.of.is ∙ eqb-true s.link link parts.0 in
      let cycles : cycle_of run.domain b.of.sent.start.0 ≡ cycle =
      b.of.in_cycle ∙ ap (λ (z : Started). z.cycle.0) b.of.is ∙ eqb-true s.cycle.0 cycle parts.1 in
      let frames : s.frame ≡ b.of.sent.frame = ap (λ (z : Started). z.frame) (sym b.of.is) in
      let octets : b.of.sent.octets ≡ s.octets = ap (λ (z : Started). z.octets) b.of.is in
      let takes = cond-true (cycle_of run.domain b.of.sent.start.0 == cycle) (wire_of b.of.sent.octets) 0
      (eq-eqb (cycle_of run.domain b.of.sent.start.0) cycle cycles) in (
        b.of.sent,
        subst (λ (l : ℕ). Contains (carried l) b.of.sent) links b.of.inside,
        and_from (s.link == link) (s.frame == b.of.sent.frame) parts.0 (eq-eqb s.frame b.of.sent.frame frames),
        omega (arith, counts.1, takes, octets),
      )

  -- so what starts is no more than what the link sends in the cycle takes of the wire
  pub within_wire : octets_summed link cycle starts ≤ wire_in_cycle run.domain carried link cycle
  within_wire = sum_le_own of_start of_sent match starts (carried link) has (λ sent.
      pairs_weaker AreApart (λ (a b : Started). match a sent ≡ true → match b sent ≡ true → ⊥) starts
      (λ a b ca cb differ ma mb.
      let p = and_parts (a.link == link) (a.frame == sent.frame) ma in
      let q = and_parts (b.link == link) (b.frame == sent.frame) mb in
      differ (eqb-true a.frame sent.frame p.1 ∙ sym (eqb-true b.frame sent.frame q.1)) (eqb-true a.link link p.0 ∙ sym (eqb-true b.link link q.0)))
      apart)
