-- Among links that haven't reached the end, the one that has sent the fewest cycles waits for none.
use Rattle.std.proofs.Common.{◌≡◌, ℕ, zero, suc, ◌-◌, ◌≤◌, length, inl, inr, arith, subst}
use Rattle.std.proofs.lemmas.Bool.{cases_lt}
use Rattle.cqf_model.specs.Domain.{bridge_of}
use Rattle.cqf_model.proofs.LinkEnds.{enters_inside}
use Rattle.cqf_laws_relay.specs.Hindmost.{SomeLinkCanGoOn}

-- a number up to a bound with the least size
record IsLeast (size : ℕ → ℕ) (most least : ℕ) : Type 0 where
  inside : least ≤ most
  none_less : (k : ℕ) → k ≤ most → size least ≤ size k

-- there is one
some_least : (size : ℕ → ℕ) (most : ℕ) → (least : ℕ) × IsLeast size most least
some_least size zero =
    (0, record { inside = omega arith; none_less = λ k le. let is : 0 ≡ k = omega (arith, le) in subst (λ (n : ℕ). size 0 ≤ size n) is (omega arith) })
some_least size (suc most) =
    let w = some_least size most in
    let up_to : (least : ℕ) → size least ≤ size w.0 → size least ≤ size (suc most) → (k : ℕ) → k ≤ suc most → size least ≤ size k =
    λ least small last k le. elim (cases_lt k (suc most)) [
      | inl before ↦ omega (arith, small, w.1.none_less k (omega (arith, before)))
      | inr from ↦ let is : suc most ≡ k = omega (arith, from, le) in subst (λ (n : ℕ). size least ≤ size n) is last
    ] in
    elim (cases_lt (size (suc most)) (size w.0)) [
      | inl less ↦ (suc most, record { inside = omega arith; none_less = up_to (suc most) (omega (arith, less)) (omega arith) })
      | inr more ↦ (w.0, record { inside = omega (arith, w.1.inside); none_less = up_to w.0 (omega arith) more })
    ]

-- the law
pub some_link_can_go_on : SomeLinkCanGoOn
some_link_can_go_on d tables links l inside not_over =
    let far : ℕ → ℕ = λ k. length (links k) in
    let w = some_least far (length d.links - 1) in
    let no_farther : far w.0 ≤ far l = w.1.none_less l (omega (arith, inside)) in
    record {
      link = w.0;
      inside = omega (arith, inside, w.1.inside);
      not_over = omega (arith, no_farther, not_over);
      can = λ cycle m come enter lead.
          let there = enters_inside d m (bridge_of d w.0) enter in
          let as_far : far w.0 ≤ far m = w.1.none_less m (omega (arith, there)) in
          omega (arith, as_far, come);
    }
