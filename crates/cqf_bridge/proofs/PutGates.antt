-- Inserting a gate among others, and the gates beside it.
use Rattle.std.proofs.Common.{◌≡◌, ◌≢◌, ℕ, List, [], ◌∷◌, ◌∙◌, ◌⊎◌, inl, inr, sym, ap, refl, find, Contains, Some, None, subst}
use Rattle.std.specs.Prelude.{◌==◌, if◌then◌else◌}
use Rattle.std.proofs.lemmas.Bool.{cases_eq, cond-false, cond-true, eq-eqb, ne_eqb}
use Rattle.cqf_lists.proofs.Members.{contains_cases, contains_here, contains_later, contains_none}
use Rattle.cqf_bridge.specs.declared.cycle_gate.KeptGate.{KeptGate}
use Rattle.cqf_bridge.specs.Gates.{with_gate}

-- an inserted gate is the one of its number
pub gate_put : (gates : List KeptGate) (g : KeptGate) → find (λ (k : KeptGate). k.number == g.number) (with_gate gates g) ≡ Some g
gate_put [] g = cond-true (g.number == g.number) (Some g) None (eq-eqb g.number g.number refl)
gate_put (x ∷ gates) g = elim (cases_eq x.number g.number) [
  | inl same ↦
      ap (find (λ (k : KeptGate). k.number == g.number)) (cond-true (x.number == g.number) (g ∷ gates) (x ∷ with_gate gates g) (eq-eqb x.number g.number same))
      ∙ cond-true (g.number == g.number) (Some g) (find (λ (k : KeptGate). k.number == g.number) gates) (eq-eqb g.number g.number refl)
  | inr other ↦
      ap (find (λ (k : KeptGate). k.number == g.number)) (cond-false (x.number == g.number) (g ∷ gates) (x ∷ with_gate gates g)
      (ne_eqb x.number g.number other))
      ∙ cond-false (x.number == g.number) (Some x) (find (λ (k : KeptGate). k.number == g.number) (with_gate gates g)) (ne_eqb x.number g.number other)
      ∙ gate_put gates g
]

-- the gates of other numbers are as they were
pub gate_beside : (gates : List KeptGate) (g : KeptGate) (number : ℕ) → g.number ≢ number →
    find (λ (k : KeptGate). k.number == number) (with_gate gates g) ≡ find (λ (k : KeptGate). k.number == number) gates
gate_beside [] g number apart = cond-false (g.number == number) (Some g) None (ne_eqb g.number number apart)
gate_beside (x ∷ gates) g number apart = elim (cases_eq x.number g.number) [
  | inl same ↦
      ap (find (λ (k : KeptGate). k.number == number)) (cond-true (x.number == g.number) (g ∷ gates) (x ∷ with_gate gates g) (eq-eqb x.number g.number same))
      ∙ cond-false (g.number == number) (Some g) (find (λ (k : KeptGate). k.number == number) gates) (ne_eqb g.number number apart)
      ∙ sym (cond-false (x.number == number) (Some x) (find (λ (k : KeptGate). k.number == number) gates) (ne_eqb x.number number (λ e. apart (sym same ∙ e))))
  | inr other ↦
      ap (find (λ (k : KeptGate). k.number == number)) (cond-false (x.number == g.number) (g ∷ gates) (x ∷ with_gate gates g) (ne_eqb x.number g.number other))
      ∙ ap (λ rest. if x.number == number then Some x else rest) (gate_beside gates g number apart)
]

-- a gate that is kept then was kept before, or is the inserted one
pub kept_cases : (gates : List KeptGate) (g k : KeptGate) → Contains (with_gate gates g) k → Contains gates k ⊎ (g ≡ k)
kept_cases [] g k held = elim (contains_cases g [] k held) [ inl e ↦ inr e | inr never ↦ absurd (contains_none k never) ]
kept_cases (x ∷ gates) g k held = elim (cases_eq x.number g.number) [
  | inl same ↦
      elim (contains_cases g gates k (subst (λ (gs : List KeptGate). Contains gs k)
      (cond-true (x.number == g.number) (g ∷ gates) (x ∷ with_gate gates g) (eq-eqb x.number g.number same)) held)) [
        | inl e ↦ inr e
        | inr old ↦ inl (contains_later x gates k old)
      ]
  | inr other ↦
      elim (contains_cases x (with_gate gates g) k (subst (λ (gs : List KeptGate). Contains gs k)
      (cond-false (x.number == g.number) (g ∷ gates) (x ∷ with_gate gates g) (ne_eqb x.number g.number other)) held)) [
        | inl e ↦ inl (subst (Contains (x ∷ gates)) e (contains_here x gates))
        | inr later ↦ elim (kept_cases gates g k later) [
          | inl old ↦ inl (contains_later x gates k old)
          | inr e ↦ inr e
        ]
      ]
]
