-- A link's octets in each cycle give its octets in all, and the most in one cycle.
use Rattle.std.proofs.Common.{◌≡◌, ℕ, zero, suc, ◌+◌, ◌-◌, ◌<◌, ◌≤◌, ◌⊎◌, ◌∷◌, [], List, Bool, true, false, inl, inr}
use Rattle.std.proofs.Common.{sym, ap, ◌∙◌, arith, refl, sum, sum_by, fold, max}
use Rattle.std.proofs.Common.{get_or, ◌==◌, ◌&&◌, nat_le, if◌then◌else◌, le-leb, eq-eqb, ne_eqb}
use Rattle.std.proofs.lemmas.Bool.{cases_eq, cases_lt, lt-leb}
use Rattle.std.proofs.lemmas.List.Sums.{sum_by-cons}
use Rattle.cqf_lists.proofs.Sums.{sum_member, sum_none, sum_plus}
use Rattle.cqf_model.specs.declared.frames.Started.{Started}
use Rattle.cqf_model.specs.OnLinks.{octets_on}
use Rattle.cqf_laws_coverage.specs.InOneCycle.{IsMost, most_on, octets_summed}
use Rattle.cqf_laws_coverage.specs.Counted.{ColumnsReport}
use Rattle.cqf_laws_coverage.proofs.InOneCycle.{most_is_most, most_is_one}
use Rattle.cqf_laws_coverage.proofs.Counts.{second_fails, second_passes}
use Rattle.cqf_laws_coverage.proofs.Matched.{sum_same}

-- the maximum is at least its initial value
most_begins : (a : ℕ) (xs : List ℕ) → a ≤ fold max a xs
most_begins a [] = omega arith
most_begins a (x ∷ xs) = omega (arith, most_begins (max a x) xs)

-- and at least each element
most_bounds : (a : ℕ) (xs : List ℕ) (k : ℕ) → get_or xs k 0 ≤ fold max a xs
most_bounds a [] k = omega arith
most_bounds a (x ∷ xs) zero = omega (arith, most_begins (max a x) xs)
most_bounds a (x ∷ xs) (suc k) = most_bounds (max a x) xs k

-- and it is the initial value or an element
most_reached : (a : ℕ) (xs : List ℕ) → (fold max a xs ≡ a) ⊎ ((k : ℕ) × (get_or xs k 0 ≡ fold max a xs))
most_reached a [] = inl refl
most_reached a (x ∷ xs) = elim (most_reached (max a x) xs) [
  | inr found ↦ inr (suc found.0, found.1)
  | inl same ↦ elim (cases_lt a x) [
    | inl less ↦ inr (0, omega (arith, same, less))
    | inr more ↦ inl (omega (arith, same, more))
  ]
]

module _ (starts : List Started) (link : ℕ) where
  -- what a start counts from a cycle on, and in it
  abbrev from : ℕ → Started → ℕ
  from first s = if (s.link == link) && nat_le first s.cycle.0 then s.octets else 0

  abbrev within : ℕ → Started → ℕ
  within cycle s = if (s.link == link) && (s.cycle.0 == cycle) then s.octets else 0

  -- what it counts in a cycle and from the next one on is what it counts from that cycle on
  parted : (first : ℕ) (s : Started) → within first s + from (first + 1) s ≡ from first s
  parted first s = by (s.link == link) (s.cycle.0 == first) (nat_le (first + 1) s.cycle.0) (nat_le first s.cycle.0) tests
    where
      -- by the tests
      by : (on here later begun : Bool) →
          ((here ≡ true) × (later ≡ false) × (begun ≡ true)) ⊎ ((here ≡ false) × (later ≡ begun)) →
          (if on && here then s.octets else 0) + (if on && later then s.octets else 0) ≡ (if on && begun then s.octets else 0)
      by on here later begun (inl now) = rw (now.0, now.1, now.2) (at_once on)
        where
          at_once : (on : Bool) → (if on && true then s.octets else 0) + (if on && false then s.octets else 0) ≡ (if on && true then s.octets else 0)
          at_once true = omega arith
          at_once false = omega arith
      by on here later begun (inr apart) = rw (apart.0, apart.1) (elsewhere on)
        where
          elsewhere : (on : Bool) → (if on && false then s.octets else 0) + (if on && begun then s.octets else 0) ≡ (if on && begun then s.octets else 0)
          elsewhere true = omega arith
          elsewhere false = omega arith

      -- the cycle is this one, or it isn't
      tests : (((s.cycle.0 == first) ≡ true) × (nat_le (first + 1) s.cycle.0 ≡ false) × (nat_le first s.cycle.0 ≡ true))
          ⊎ (((s.cycle.0 == first) ≡ false) × (nat_le (first + 1) s.cycle.0 ≡ nat_le first s.cycle.0))
      tests = elim (cases_eq s.cycle.0 first) [
        | inl e ↦ inl (eq-eqb s.cycle.0 first e, lt-leb (first + 1) s.cycle.0 (omega (arith, e)), le-leb first s.cycle.0 (omega (arith, e)))
        | inr differ ↦ inr (
          ne_eqb s.cycle.0 first differ,
          elim (cases_lt first s.cycle.0) [
            | inl later ↦ le-leb (first + 1) s.cycle.0 (omega (arith, later)) ∙ sym (le-leb first s.cycle.0 (omega (arith, later)))
            | inr early ↦ (let less : s.cycle.0 < first = omega (arith, differ, early) in
                lt-leb (first + 1) s.cycle.0 (omega (arith, less)) ∙ sym (lt-leb first s.cycle.0 less))
          ],
        )
      ]

  -- a list of the link's octets in each cycle from one cycle on gives its octets from there on
  summed : (column : List ℕ) (first : ℕ) → ((k : ℕ) → get_or column k 0 ≡ octets_summed link (first + k) starts) → sum column ≡ sum_by (from first) starts
  summed [] first each = sym (sum_none (from first) starts (λ s c. elim (cases_lt s.cycle.0 first) [
    | inl early ↦ second_fails (s.link == link) (nat_le first s.cycle.0) s.octets (lt-leb first s.cycle.0 early)
    | inr late ↦ (let own : within s.cycle.0 s ≤ octets_summed link s.cycle.0 starts = sum_member (within s.cycle.0) starts s c in
        let index : first + (s.cycle.0 - first) ≡ s.cycle.0 = omega (arith, late) in
        let none : 0 ≡ octets_summed link s.cycle.0 starts = each (s.cycle.0 - first) ∙ ap (λ (c : ℕ). octets_summed link c starts) index in
        let here = second_passes (s.link == link) (s.cycle.0 == s.cycle.0) s.octets (eq-eqb s.cycle.0 s.cycle.0 refl) in
        let begun = second_passes (s.link == link) (nat_le first s.cycle.0) s.octets (le-leb first s.cycle.0 late) in
        omega (arith, own, none, here, begun))
  ]))
  summed (x ∷ column) first each =
      let next : (k : ℕ) → get_or column k 0 ≡ octets_summed link (first + 1 + k) starts =
      λ k. each (suc k) ∙ (let e : first + suc k ≡ first + 1 + k = omega arith in ap (λ (c : ℕ). octets_summed link c starts) e) in
      let here : x ≡ octets_summed link first starts = each 0 ∙ (let e : first + 0 ≡ first = omega arith in ap (λ (c : ℕ). octets_summed link c starts) e) in
      let parts : sum_by (λ s. within first s + from (first + 1) s) starts ≡ sum_by (from first) starts =
      sum_same (λ s. within first s + from (first + 1) s) (from first) starts (λ s c. parted first s) in
      omega (
        arith,
        sum_by-cons (λ (n : ℕ). n) x column,
        here,
        summed column (first + 1) next,
        sum_plus (within first) (from (first + 1)) starts,
        parts,
      )

  -- from the first cycle on all count
  all_count : sum_by (from 0) starts ≡ octets_on link starts
  all_count = sum_same (from 0) (λ (s : Started). if s.link == link then s.octets else 0) starts
      (λ s c. sym (second_passes (s.link == link) (nat_le 0 s.cycle.0) s.octets (le-leb 0 s.cycle.0 (omega arith))))

  -- the maximum is the most in one cycle
  greatest : (column : List ℕ) → ((k : ℕ) → get_or column k 0 ≡ octets_summed link k starts) → IsMost link starts (fold max 0 column)
  greatest column each = record {
    no_more = λ cycle. omega (arith, each cycle, most_bounds 0 column cycle);
    reached = elim (most_reached 0 column) [
      | inl none ↦ inl none
      | inr found ↦ inr (found.0, sym (each found.0) ∙ found.1)
    ];
  }

-- the law
pub columns_report : ColumnsReport
columns_report starts link column each = record {
  octets = summed starts link column 0 (λ k. each k ∙ (let e : k ≡ 0 + k = omega arith in ap (λ (c : ℕ). octets_summed link c starts) e))
      ∙ all_count starts link;
  most = most_is_one link starts (fold max 0 column) (most_on link starts) (greatest starts link column each) (most_is_most link starts);
}
