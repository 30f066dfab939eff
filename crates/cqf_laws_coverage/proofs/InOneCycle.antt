-- The most octets that a link has in one cycle is a unique number.
use Rattle.std.proofs.Common.{◌≡◌, ℕ, zero, suc, ◌<◌, ◌≤◌, ◌==◌, ◌&&◌, ◌⊎◌, ◌∷◌, [], Bool, true, false, List, inl, inr}
use Rattle.std.proofs.Common.{Contains, fold, max, if◌then◌else◌, refl, ap, subst, arith}
use Rattle.std.proofs.lemmas.Bool.{cases_lt, eqb-true}
use Rattle.cqf_lists.proofs.Sums.{sum_some}
use Rattle.cqf_model.specs.declared.frames.Started.{Started}
use Rattle.cqf_laws_coverage.specs.InOneCycle.{IsMost, MostIsTheGreatest, most_on, octets_summed}

module _ {X : Type 0} (f : X → ℕ) where
  -- the maximum is at least its initial value
  greatest_begins : (a : ℕ) (xs : List X) → a ≤ fold (λ most x. max most (f x)) a xs
  greatest_begins a [] = omega arith
  greatest_begins a (x ∷ xs) = omega (arith, greatest_begins (max a (f x)) xs)

  -- and at least each element
  greatest_bounds : (a : ℕ) (xs : List X) (x : X) → Contains xs x → f x ≤ fold (λ most x. max most (f x)) a xs
  greatest_bounds a [] x among = absurd (omega (arith, among.1))
  greatest_bounds a (y ∷ ys) x (zero, inside, is) = omega (arith, greatest_begins (max a (f y)) ys, ap f is)
  greatest_bounds a (y ∷ ys) x (suc k, inside, is) = greatest_bounds (max a (f y)) ys x (k, omega (arith, inside), is)

  -- and it is the initial value or an element
  greatest_reached : (a : ℕ) (xs : List X) → (fold (λ most x. max most (f x)) a xs ≡ a) ⊎ ((x : X) × (f x ≡ fold (λ most x. max most (f x)) a xs))
  greatest_reached a [] = inl refl
  greatest_reached a (x ∷ xs) = elim (greatest_reached (max a (f x)) xs) [
    | inr found ↦ inr found
    | inl same ↦ elim (cases_lt a (f x)) [
      | inl less ↦ inr (x, omega (arith, same, less))
      | inr more ↦ inl (omega (arith, same, more))
    ]
  ]

-- a start that counts in a cycle is on the link and of the cycle
counts_in : (on in_cycle : Bool) (octets : ℕ) → 0 < (if on && in_cycle then octets else 0) → (on ≡ true) × (in_cycle ≡ true)
counts_in true true octets some = (refl, refl)
counts_in true false octets some = absurd (omega (arith, some))
counts_in false in_cycle octets some = absurd (omega (arith, some))

-- the most that a link has in one cycle is such a number
pub most_is_most : MostIsTheGreatest
most_is_most link starts =
    let in_cycle_of : Started → ℕ = λ start. octets_summed link start.cycle.0 starts in
    record {
      no_more = λ cycle. elim (sum_some (λ (start : Started). if (start.link == link) && (start.cycle.0 == cycle) then start.octets else 0) starts) [
        | inl none ↦ omega (arith, none)
        | inr some ↦
            let counts = counts_in (some.0.link == link) (some.0.cycle.0 == cycle) some.0.octets some.2 in
            let same : some.0.cycle.0 ≡ cycle = eqb-true some.0.cycle.0 cycle counts.1 in
            subst (λ (c : ℕ). octets_summed link c starts ≤ most_on link starts) same (greatest_bounds in_cycle_of 0 starts some.0 some.1)
      ];
      reached = elim (greatest_reached in_cycle_of 0 starts) [
        | inl none ↦ inl none
        | inr found ↦ inr (found.0.cycle.0, found.1)
      ];
    }

-- of two such numbers, neither is greater
most_within : (link : ℕ) (starts : List Started) (one two : ℕ) → IsMost link starts one → IsMost link starts two → one ≤ two
most_within link starts one two first second = elim first.reached [
  | inl none ↦ omega (arith, none)
  | inr found ↦ omega (arith, found.1, second.no_more found.0)
]

-- so there is only one
pub most_is_one : (link : ℕ) (starts : List Started) (one two : ℕ) → IsMost link starts one → IsMost link starts two → one ≡ two
most_is_one link starts one two first second =
    omega (arith, most_within link starts one two first second, most_within link starts two one second first)
