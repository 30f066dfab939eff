-- Gates that are looked up by number, and what they count.
use Rattle.std.proofs.Common.{◌≡◌, ◌<◌, ℕ, zero, suc, true, false, List, [], ◌∷◌, ◌++◌, ◌∙◌, sym, ap, refl, arith}
use Rattle.std.proofs.Common.{length, map, find, get_or, position, Contains, Some, None, ◌*◌}
use Rattle.std.specs.Prelude.{◌==◌, is_some, slice_set}
use Rattle.std.proofs.lemmas.Bool.{cond-false, cond-true, eq-eqb, eqb-true}
use Rattle.std.proofs.lemmas.List.Quantifiers.{position-Some}
use Rattle.cqf_lists.proofs.Any.{none_member, position_any}
use Rattle.cqf_lists.proofs.Members.{contains_here, contains_later}
use Rattle.cqf_model.specs.declared.gates.StreamEntry.{StreamEntry}
use Rattle.cqf_bridge.specs.declared.cycle_gate.KeptGate.{KeptGate}
use Rattle.cqf_bridge.specs.Gates.{gate_or, with_gate}

-- the gate of a number is at this index, and another gate of the number replaces it there
pub record FoundAt (number : ℕ) (gates : List KeptGate) (index : ℕ) (k : KeptGate) : Type 0 where
  pub found : find (λ (g : KeptGate). g.number == number) gates ≡ Some k
  pub of_number : k.number ≡ number
  pub placed : (g : KeptGate) → g.number ≡ number → slice_set gates index g ≡ with_gate gates g
  pub numbers : (g : KeptGate) → g.number ≡ number → map (λ (h : KeptGate). h.number) gates ≡ map (λ (h : KeptGate). h.number) (slice_set gates index g)

-- the first index with the number
at_first : (number index : ℕ) (gates : List KeptGate) (k : KeptGate) → index < length gates → k ≡ get_or gates index k →
    ((get_or gates index k).number == number) ≡ true → ((j : ℕ) → j < index → ((get_or gates j k).number == number) ≡ false) → FoundAt number gates index k
at_first number index [] k inside is here before = absurd (omega (arith, inside))
at_first number zero (x ∷ gates) k inside is test before =
    let same : x.number ≡ number = eqb-true x.number number test in
    record {
      found = cond-true (x.number == number) (Some x) (find (λ (g : KeptGate). g.number == number) gates) test ∙ ap Some (sym is);
      of_number = ap (λ (g : KeptGate). g.number) is ∙ same;
      placed = λ g e. sym (cond-true (x.number == g.number) (g ∷ gates) (x ∷ with_gate gates g) (eq-eqb x.number g.number (same ∙ sym e)));
      numbers = λ g e. ap (λ (n : ℕ). n ∷ map (λ (h : KeptGate). h.number) gates) (same ∙ sym e);
    }
at_first number (suc index) (x ∷ gates) k inside is here before =
    let test : (x.number == number) ≡ false = before 0 (omega arith) in
    let rest = at_first number index gates k (omega (arith, inside)) is here (λ j less. before (suc j) (omega (arith, less))) in
    record {
      found = cond-false (x.number == number) (Some x) (find (λ (g : KeptGate). g.number == number) gates) test ∙ rest.found;
      of_number = rest.of_number;
      placed = λ g e.
          ap (λ (gs : List KeptGate). x ∷ gs) (rest.placed g e)
          ∙ sym (cond-false (x.number == g.number) (g ∷ gates) (x ∷ with_gate gates g) (ap (λ (n : ℕ). x.number == n) e ∙ test));
      numbers = λ g e. ap (λ (ns : List ℕ). x.number ∷ ns) (rest.numbers g e);
    }

-- the gate at the index of a number
pub found_at : (number : ℕ) (gates : List KeptGate) (index : ℕ) (k : KeptGate) →
    position (λ (g : KeptGate). g.number == number) gates ≡ Some index → k ≡ get_or gates index k → FoundAt number gates index k
found_at number gates index k is at =
    let p = position-Some (λ (g : KeptGate). g.number == number) gates index k is in
    at_first number index gates k p.0 at p.1 p.2

-- a gate of a number that no other has is appended
after_others : (number : ℕ) (gates : List KeptGate) → ((k : KeptGate) → Contains gates k → (k.number == number) ≡ false) →
    (find (λ (g : KeptGate). g.number == number) gates ≡ None) × ((g : KeptGate) → g.number ≡ number → with_gate gates g ≡ gates ++ g ∷ [])
after_others number [] none = (refl, λ g e. refl)
after_others number (x ∷ gates) none =
    let test = none x (contains_here x gates) in
    let rest = after_others number gates (λ k held. none k (contains_later x gates k held)) in (
      cond-false (x.number == number) (Some x) (find (λ (g : KeptGate). g.number == number) gates) test ∙ rest.0,
      λ g e.
          cond-false (x.number == g.number) (g ∷ gates) (x ∷ with_gate gates g) (ap (λ (n : ℕ). x.number == n) e ∙ test)
          ∙ ap (λ (gs : List KeptGate). x ∷ gs) (rest.1 g e),
    )

-- a number that has no index
pub not_found : (number : ℕ) (gates : List KeptGate) → position (λ (g : KeptGate). g.number == number) gates ≡ None →
    (find (λ (g : KeptGate). g.number == number) gates ≡ None) × ((g : KeptGate) → g.number ≡ number → with_gate gates g ≡ gates ++ g ∷ [])
not_found number gates is =
    let none = sym (position_any (λ (g : KeptGate). g.number == number) gates) ∙ ap is_some is in
    after_others number gates (λ k held. none_member (λ (g : KeptGate). g.number == number) gates k none held)

-- a gate that is made for a number has seen no frame
pub own_gate : (cycle_time : ℕ) (entries : List StreamEntry) (number : ℕ) →
    gate_or cycle_time entries (Some (record { number = number; cycle = 0; taken = 0 })) ≡ gate_or cycle_time entries None
own_gate cycle_time entries number =
    let at_first : 0 * cycle_time ≡ 0 = omega arith in
    λ i. record { entries = entries; last = at_first i; taken = 0 }
