-- Lists that are written index by index.
use Rattle.std.proofs.Common.{ℕ, ◌≡◌, ◌≢◌, ◌+◌, ◌<◌, List, length, get_or, set, inl, inr, sym, subst, arith}
use Rattle.std.proofs.lemmas.Bool.{cases_lt}
use Rattle.std.proofs.lemmas.List.{get_or-set_same, get_or-set_other}

-- a property of each element written so far is one of one more
pub each_written : {X : Type 0} (P : ℕ → X → Type 0) (xs : List X) (i index : ℕ) (x d : X) → index ≡ i → i < length xs →
    ((k : ℕ) → k < i → P k (get_or xs k d)) → P i x → (k : ℕ) → k < i + 1 → P k (get_or (set xs index x) k d)
each_written P xs i index x d at inside before here k below = elim (cases_lt k i) [
  | inl earlier ↦
      let differs : k ≢ index = λ same. omega arith in
      subst (P k) (sym (get_or-set_other xs index k x d differs)) (before k earlier)
  | inr last ↦
      let same : i ≡ k = omega arith in
      let written : P i (get_or (set xs index x) index d) = subst (P i) (sym (get_or-set_same xs index x d (omega arith))) here in
      let at_i : P i (get_or (set xs index x) i d) = subst (λ n. P i (get_or (set xs index x) n d)) at written in
      subst (λ n. P n (get_or (set xs index x) n d)) same at_i
]
