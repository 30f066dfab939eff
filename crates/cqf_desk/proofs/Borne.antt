-- The meaning of tests of a desk's seats.
use Rattle.std.proofs.Common.{◌≡◌, ◌↔◌, ℕ, ◌<◌, ◌==◌, Bool, List, true, false, refl, sym, ◌∙◌}
use Rattle.std.specs.List.{list_any}
use Rattle.cqf_desk.specs.Closing.{AreItsSeats}
use Rattle.cqf_desk.specs.Desk.{Sitting}

-- a number that no seat has isn't one of the desk's
pub none_there : (count : ℕ) (seats : List Sitting) (number : ℕ) (found : Bool) → number < count → found
    ≡ list_any (λ (s : Sitting). s.number == number) seats →
    found ≡ false → AreItsSeats count seats → false ≡ true
none_there count seats number found below is none all = sym none ∙ is ∙ all.each number below

-- a test that is true if and only if this holds
pub decides : {X : Type 0} (so : Bool) → (so ≡ true → X) → (so ≡ false → X → ⊥) → (so ≡ true) ↔ X
decides true holds fails = (holds, λ _. refl)
decides false holds fails = (holds, λ x. absurd (fails refl x))
