-- An offer changes only the counter of the row in force.
use Rattle.cqf_units.specs.Timing.{counted_of}
use Rattle.cqf_model.specs.Table.{reserved_in}
use Rattle.std.proofs.Common.{◌≡◌, ℕ, ◌+◌, Bool, true, false, Some, sym, ap, ◌∙◌, refl, inl, inr, ◌==◌, ◌&&◌, nat_le, if◌then◌else◌, eq-eqb}
use Rattle.std.proofs.lemmas.Bool.{and_from, and_parts, cases_Bool}
use Rattle.cqf_lists.proofs.Members.{find_member, find_some}
use Rattle.cqf_lists.proofs.Pairs.{one_of_pairs}
use Rattle.cqf_model.proofs.Texts.{is_text_same}
use Rattle.cqf_model.specs.declared.topology.Row.{Row}
use Rattle.cqf_model.specs.Domain.{is_text}
use Rattle.cqf_model.specs.History.{streams_of}
use Rattle.cqf_model.specs.Shift.{offer_cycle}
use Rattle.cqf_model.specs.Table.{begins_at, is_held}
use Rattle.cqf_laws_coverage.specs.Judged.{CounterOfTheRow, CountersOfOthers}
use Rattle.cqf_laws_coverage.specs.Rows.{OneIsInForce}

-- a step, by its tests
by_tests : (here named begins fits : Bool) (used more : ℕ) → here ≡ true → named ≡ true →
    (if (here && named && begins) && fits then more else used) ≡ (if begins && fits then more else used)
by_tests true true begins fits used more a b = refl
by_tests true false begins fits used more a b = absurd (cc)
by_tests false named begins fits used more a b = absurd (cc)

not_named : (here named begins fits : Bool) (used more : ℕ) → named ≡ false → (if (here && named && begins) && fits then more else used) ≡ used
not_named true true begins fits used more e = absurd (cc)
not_named true false begins fits used more e = refl
not_named false named begins fits used more e = refl

-- the step of the row in force
pub counter_of_the_row : CounterOfTheRow
counter_of_the_row d entries x row used found =
    let cycle = offer_cycle d x in
    let member = find_member (λ (r : Row). is_text r.name x.offer.stream && is_held r cycle) (streams_of d entries) row found in
    by_tests (offer_cycle d x == cycle) (is_text row.name x.offer.stream) (begins_at d row x.offer.bridge) (nat_le (used + counted_of d.overhead x.offer.octets) (reserved_in row 0 cycle))
    used (used + counted_of d.overhead x.offer.octets) (eq-eqb cycle cycle refl) (and_parts (is_text row.name x.offer.stream) (is_held row cycle) member.1).0

-- and the step of another row
pub counters_of_others : OneIsInForce → CountersOfOthers
counters_of_others one d entries x other used legal in_run among held differ =
    let cycle = offer_cycle d x in
    let rows = streams_of d entries in
    let test : Row → Bool = λ (r : Row). is_text r.name x.offer.stream && is_held r cycle in
    elim (cases_Bool (is_text other.name x.offer.stream)) [
      | inr f ↦ not_named (offer_cycle d x == cycle) (is_text other.name x.offer.stream) (begins_at d other x.offer.bridge)
          (nat_le (used + counted_of d.overhead x.offer.octets) (reserved_in other 0 cycle)) used (used + counted_of d.overhead x.offer.octets) f
      | inl t ↦
          let passes = and_from (is_text other.name x.offer.stream) (is_held other cycle) t held in
          let found = find_some test rows other among passes in
          let member = find_member test rows found.0 found.1 in
          let parts = and_parts (is_text found.0.name x.offer.stream) (is_held found.0 cycle) member.1 in
          let names : found.0.name ≡ other.name =
          is_text_same found.0.name x.offer.stream parts.0 ∙ sym (is_text_same other.name x.offer.stream t) in
          let same : found.0 ≡ other =
          one_of_pairs (λ (a b : Row). is_held a cycle ≡ true → is_held b cycle ≡ true → a.name ≡ b.name → ⊥) rows found.0 other
          (one d entries cycle legal in_run) member.0 among
          (λ apart. apart parts.1 held names) (λ apart. apart held parts.1 (sym names)) in
          absurd (differ (found.1 ∙ ap (λ (r : Row). Some r) same))
    ]
