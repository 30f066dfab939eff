-- Starts that are added to those before.
use Rattle.std.proofs.Common.{ℕ, ◌≡◌, ◌≤◌, inl, inr, List, [], ◌++◌, ◌-◌, length, take, drop, length-drop, refl, sym, ap, ◌∙◌, append_assoc, arith}
use Rattle.std.proofs.lemmas.List.{append-nil, take_all}
use Rattle.std.proofs.lemmas.List.Elements.{Contains-append_cases}
use Rattle.cqf_model.specs.Port.{Transmission}
use Rattle.cqf_port.specs.Progress.{AreMore}

-- no further start
pub none_more : (starts : List Transmission) (lowest : ℕ) → AreMore starts starts lowest
none_more starts lowest = record {
  made = [];
  value = sym (append-nil starts);
  not_before = λ index s started. absurd (omega (arith, started.1));
}

-- more and then more again
pub more_again : (before between after : List Transmission) (lowest later : ℕ) → AreMore before between lowest → AreMore between after later
    → lowest ≤ later → AreMore before after lowest
more_again before between after lowest later first then in_order = record {
  made = first.made ++ then.made;
  value = then.value ∙ ap (λ (starts : List Transmission). starts ++ then.made) first.value ∙ rw append_assoc refl;
  not_before = λ index s started. elim (Contains-append_cases first.made then.made (index, s) started) [
    | inl early ↦ first.not_before index s early
    | inr late ↦ omega (arith, then.not_before index s late)
  ];
}

-- a slice from an index to the end
pub range_to_end : {X : Type 0} (n : ℕ) (xs : List X) → take (length xs - n) (drop n xs) ≡ drop n xs
range_to_end n xs = take_all (length xs - n) (drop n xs) (omega (arith, length-drop n xs))
