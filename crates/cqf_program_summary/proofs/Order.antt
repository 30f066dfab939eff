-- Legs in order: of any two one comes before the other.
use Rattle.std.proofs.Common.{ℕ, ◌≡◌, ◌≢◌, ◌∙◌, ◌<◌, ◌≤◌, ◌⊎◌, ◌∷◌, [], List, AllPairs, Contains, inl, inr, arith, subst, sym}
use Rattle.std.specs.List.Sorted.{IsPermutation}
use Rattle.std.proofs.lemmas.Bool.{cases_lt, cases_order}
use Rattle.std.proofs.lemmas.List.Sorted.{Contains-permutation, IsPermutation-cons, IsPermutation-middle, IsPermutation-refl, IsPermutation-sym, IsPermutation-trans}
use Rattle.cqf_lists.proofs.Members.{contains_cases, contains_here, contains_later, contains_none}
use Rattle.cqf_lists.proofs.Pairs.{pairs_cons, pairs_head, pairs_none, pairs_one, pairs_tail, same_ordered}
use Rattle.cqf_program_summary.specs.declared.hops.legs.Leg.{Leg}
use Rattle.cqf_program_summary.specs.Hops.Legs.{AreApart, AreByFrame, IsBefore, frame_of, instant_of, link_of}

-- three numbers before three
abbrev pub Before : ℕ → ℕ → ℕ → ℕ → ℕ → ℕ → Type 0
Before a b c d e f = (a < d) ⊎ ((a ≡ d) × ((b < e) ⊎ ((b ≡ e) × (c < f))))

before_then : (a b c d e f g h i : ℕ) → Before a b c d e f → Before d e f g h i → Before a b c g h i
before_then a b c d e f g h i p q = elim p [
  | inl lt ↦ elim q [
    | inl next ↦ inl (omega (arith, lt, next))
    | inr same ↦ inl (omega (arith, lt, same.0))
  ]
  | inr first ↦ elim q [
    | inl next ↦ inl (omega (arith, first.0, next))
    | inr second ↦ inr (
      first.0 ∙ second.0,
      elim first.1 [
        | inl lt ↦ elim second.1 [
          | inl next ↦ inl (omega (arith, lt, next))
          | inr same ↦ inl (omega (arith, lt, same.0))
        ]
        | inr third ↦ elim second.1 [
          | inl next ↦ inl (omega (arith, third.0, next))
          | inr last ↦ inr (third.0 ∙ last.0, omega (arith, third.1, last.1))
        ]
      ],
    )
  ]
]

not_itself : (a b c : ℕ) → Before a b c a b c → ⊥
not_itself a b c p = elim p [
  | inl lt ↦ omega (arith, lt)
  | inr same ↦ elim same.1 [ inl lt ↦ omega (arith, lt) | inr more ↦ omega (arith, more.1) ]
]

-- of two triples of numbers that aren't the same, one is before the other
either : (a b c d e f : ℕ) → (a ≡ d → b ≡ e → c ≡ f → ⊥) → Before a b c d e f ⊎ Before d e f a b c
either a b c d e f differ = elim (cases_order a d) [
  | inl same ↦ elim (cases_order b e) [
    | inl alike ↦ elim (cases_order c f) [
      | inl equal ↦ absurd (differ same alike equal)
      | inr other ↦ elim other [ inl lt ↦ inl (inr (same, inr (alike, lt))) | inr gt ↦ inr (inr (sym same, inr (sym alike, gt))) ]
    ]
    | inr other ↦ elim other [ inl lt ↦ inl (inr (same, inl lt)) | inr gt ↦ inr (inr (sym same, inl gt)) ]
  ]
  | inr other ↦ elim other [ inl lt ↦ inl (inl lt) | inr gt ↦ inr (inl gt) ]
]

-- the same of legs
pub leg_then : (x y z : Leg) → IsBefore x y → IsBefore y z → IsBefore x z
leg_then x y z p q =
    before_then (frame_of x) (instant_of x) (link_of x) (frame_of y) (instant_of y) (link_of y) (frame_of z) (instant_of z) (link_of z) p q

pub leg_one_way : (x y : Leg) → IsBefore x y → IsBefore y x → ⊥
leg_one_way x y p q = not_itself (frame_of x) (instant_of x) (link_of x) (leg_then x y x p q)

leg_either : (x y : Leg) → AreApart x y → IsBefore x y ⊎ IsBefore y x
leg_either x y apart = either (frame_of x) (instant_of x) (link_of x) (frame_of y) (instant_of y) (link_of y) apart

-- two lists in order with the same members are the same
pub one_order : (xs ys : List Leg) → AllPairs IsBefore xs → AllPairs IsBefore ys → ((z : Leg) → Contains xs z → Contains ys z) →
    ((z : Leg) → Contains ys z → Contains xs z) → xs ≡ ys
one_order xs ys first second to from = same_ordered IsBefore leg_one_way xs ys first second to from

-- a leg more in a list in order
insert : (x : Leg) (ys : List Leg) → AllPairs IsBefore ys → ((y : Leg) → Contains ys y → AreApart x y) →
    (zs : List Leg) × IsPermutation (x ∷ ys) zs × AllPairs IsBefore zs
insert x [] in_order apart = (x ∷ [], IsPermutation-refl (x ∷ []), pairs_one IsBefore x)
insert x (y ∷ ys) in_order apart = elim (leg_either x y (apart y (contains_here y ys))) [
  | inl first ↦ (
    x ∷ (y ∷ ys),
    IsPermutation-refl (x ∷ (y ∷ ys)),
    pairs_cons IsBefore x (y ∷ ys)
        (λ z c. elim (contains_cases y ys z c) [
          | inl e ↦ subst (λ (w : Leg). IsBefore x w) e first
          | inr k ↦ leg_then x y z first (pairs_head IsBefore y ys z in_order k)
        ])
        in_order,
  )
  | inr following ↦
      let rest = insert x ys (pairs_tail IsBefore y ys in_order) (λ z c. apart z (contains_later y ys z c)) in (
        y ∷ rest.0,
        IsPermutation-trans (x ∷ (y ∷ ys)) (y ∷ (x ∷ ys)) (y ∷ rest.0)
            (IsPermutation-sym (y ∷ (x ∷ ys)) (x ∷ (y ∷ ys)) (IsPermutation-middle (y ∷ []) x ys))
            (IsPermutation-cons y (x ∷ ys) rest.0 rest.1),
        pairs_cons IsBefore y rest.0
            (λ z c. elim (contains_cases x ys z (Contains-permutation rest.0 (x ∷ ys) z (IsPermutation-sym (x ∷ ys) rest.0 rest.1) c)) [
              | inl e ↦ subst (λ (w : Leg). IsBefore y w) e following
              | inr k ↦ pairs_head IsBefore y ys z in_order k
            ])
            rest.2,
      )
]

-- legs can be put in order if no two tie
pub in_some_order : (xs : List Leg) → AllPairs AreApart xs → (zs : List Leg) × AreByFrame xs zs
in_some_order [] apart = ([], record { same = IsPermutation-refl []; in_order = pairs_none IsBefore })
in_some_order (x ∷ xs) apart =
    let rest = in_some_order xs (pairs_tail AreApart x xs apart) in
    let more = insert x rest.0 rest.1.in_order (λ y c. pairs_head AreApart x xs y apart
    (Contains-permutation rest.0 xs y (IsPermutation-sym xs rest.0 rest.1.same) c)) in (
      more.0,
      record {
        same = IsPermutation-trans (x ∷ xs) (x ∷ rest.0) more.0 (IsPermutation-cons x xs rest.0 rest.1.same) more.1;
        in_order = more.2;
      },
    )
