-- Decidable statements about finitely many things.
use Rattle.std.proofs.Common.{◌≡◌, ℕ, ◌<◌, ◌≤◌, ◌⊎◌, List, length, inl, inr, arith, subst}
use Rattle.std.specs.Prelude.{Contains, slice_index_or, zero, suc}
use Rattle.std.proofs.lemmas.Bool.{cases_lt}
use Rattle.std.proofs.lemmas.List.Elements.{All-contains, All-from_get_or, Contains-get_or}

-- it is decided whether a statement holds
abbrev pub Decided : Type 0 → Type 0
Decided P = P ⊎ (P → ⊥)

-- a conjunction is decided if both statements are
pub decided_both : {P Q : Type 0} → Decided P → Decided Q → Decided (P × Q)
decided_both (inl p) (inl q) = inl (p, q)
decided_both (inl p) (inr never) = inr (λ w. never w.1)
decided_both (inr never) q = inr (λ w. never w.0)

-- an implication is decided if both statements are
pub decided_if : {P Q : Type 0} → Decided P → Decided Q → Decided (P → Q)
decided_if p (inl q) = inl (λ x. q)
decided_if (inl p) (inr never) = inr (λ f. never (f p))
decided_if (inr other) (inr never) = inl (λ p. absurd (other p))

-- a negation is decided if the statement is
pub decided_not : {P : Type 0} → Decided P → Decided (P → ⊥)
decided_not (inl p) = inr (λ f. f p)
decided_not (inr never) = inl never

-- a statement is decided if an equivalent one is
pub decided_like : {P Q : Type 0} → (P → Q) → (Q → P) → Decided P → Decided Q
decided_like to from (inl p) = inl (to p)
decided_like to from (inr never) = inr (λ q. never (from q))

-- a strict inequality is decided
pub decided_lt : (m n : ℕ) → Decided (m < n)
decided_lt m n = elim (cases_lt m n) [ inl l ↦ inl l | inr g ↦ inr (λ l. omega (arith, l, g)) ]

-- an inequality is decided
pub decided_le : (m n : ℕ) → Decided (m ≤ n)
decided_le m n = elim (cases_lt n m) [ inl l ↦ inr (λ g. omega (arith, l, g)) | inr g ↦ inl g ]

-- a statement about all numbers below a bound is decided if it is for each
pub decided_below : (P : ℕ → Type 0) → ((k : ℕ) → Decided (P k)) → (n : ℕ) → Decided ((k : ℕ) → k < n → P k)
decided_below P decided zero = inl (λ k l. absurd (omega (arith, l)))
decided_below P decided (suc n) =
    decided_like {P = ((k : ℕ) → k < n → P k) × P n}
    (λ w k l. elim (cases_lt k n) [ inl m ↦ w.0 k m | inr g ↦ let e : n ≡ k = omega (arith, l, g) in subst P e w.1 ])
    (λ f. (λ k l. f k (omega (arith, l)), f n (omega arith)))
    (decided_both (decided_below P decided n) (decided n))

-- a statement about all members of a list is decided if it is for each
pub decided_members : {X : Type 0} (P : X → Type 0) → ((x : X) → Decided (P x)) → X → (xs : List X) → Decided ((x : X) → Contains xs x → P x)
decided_members P decided d xs =
    decided_like {P = (k : ℕ) → k < length xs → P (slice_index_or xs k d)}
    (λ f x h. All-contains P xs x (All-from_get_or P xs d f) h)
    (λ f k l. f (slice_index_or xs k d) (Contains-get_or xs k d l))
    (decided_below (λ k. P (slice_index_or xs k d)) (λ k. decided (slice_index_or xs k d)) (length xs))

-- of the numbers below a bound with a property, one with the greatest measure
pub record IsBest (P : ℕ → Type 0) (measure : ℕ → ℕ) (n k : ℕ) : Type 0 where
  pub below : k < n
  pub holds : P k
  pub best : (j : ℕ) → j < n → P j → measure j ≤ measure k

-- among the numbers below a bound, there is a best one with the property, or none has it
pub best_below : (P : ℕ → Type 0) (measure : ℕ → ℕ) → ((k : ℕ) → Decided (P k)) → (n : ℕ) → ((k : ℕ) × IsBest P measure n k) ⊎ ((k : ℕ) → k < n → P k → ⊥)
best_below P measure decided zero = inr (λ k l p. omega (arith, l))
best_below P measure decided (suc n) = further P measure n (best_below P measure decided n) (decided n)
  where
    -- the same with one more number
    further : (P : ℕ → Type 0) (measure : ℕ → ℕ) (n : ℕ) → ((k : ℕ) × IsBest P measure n k) ⊎ ((k : ℕ) → k < n → P k → ⊥) → Decided (P n) →
        ((k : ℕ) × IsBest P measure (suc n) k) ⊎ ((k : ℕ) → k < suc n → P k → ⊥)
    further P measure n (inl w) (inr never) =
        inl (
          w.0,
          record {
            below = omega (arith, w.1.below);
            holds = w.1.holds;
            best = λ j l p. elim (cases_lt j n) [ inl m ↦ w.1.best j m p | inr g ↦ (let e : j ≡ n = omega (arith, l, g) in absurd (never (subst P e p))) ];
          },
        )
    further P measure n (inr none) (inr never) =
        inr (λ k l p. elim (cases_lt k n) [ inl m ↦ none k m p | inr g ↦ (let e : k ≡ n = omega (arith, l, g) in never (subst P e p)) ])
    further P measure n (inr none) (inl p) =
        inl (
          n,
          record {
            below = omega arith;
            holds = p;
            best = λ j l q. elim (cases_lt j n) [
              | inl m ↦ absurd (none j m q)
              | inr g ↦
                  (let e : j ≡ n = omega (arith, l, g) in subst (λ (x : ℕ). measure j ≤ measure x) e (omega arith))
            ];
          },
        )
    further P measure n (inl w) (inl p) =
        elim (cases_lt (measure w.0) (measure n)) [
          | inl less ↦ inl (
            n,
            record {
              below = omega arith;
              holds = p;
              best = λ j l q. elim (cases_lt j n) [
                | inl m ↦ omega (arith, less, w.1.best j m q)
                | inr g ↦
                    (let e : j ≡ n = omega (arith, l, g) in subst (λ (x : ℕ). measure j ≤ measure x) e (omega arith))
              ];
            },
          )
          | inr more ↦ inl (
            w.0,
            record {
              below = omega (arith, w.1.below);
              holds = w.1.holds;
              best = λ j l q. elim (cases_lt j n) [
                | inl m ↦ w.1.best j m q
                | inr g ↦
                    (let e : n ≡ j = omega (arith, l, g) in subst (λ (x : ℕ). measure x ≤ measure w.0) e more)
              ];
            },
          )
        ]
