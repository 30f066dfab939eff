-- The line of a fault, as it is printed.
use Rattle.std.proofs.Common.{◌≡◌, ◌∙◌, ◌++◌, ◌∷◌, [], ℕ, List, Option, Some, None, ap, sym, append_assoc, codes}
use Rattle.std.specs.Prelude.{IfSome}
use Rattle.std.specs.Fmt.{◌++?◌}
use Rattle.cqf_output.specs.Stops.{fault_line}

-- what is printed, with a line feed at its end, is the line
pub fault_line-printed : (part line : List ℕ) (text : Option (List ℕ)) →
    IfSome (Some (codes "cqf: ") ++? (Some part ++? (Some (codes ": ") ++? (text ++? Some (10 ∷ []))))) (λ bytes. line ≡ bytes) →
    IfSome text (λ fault. line ≡ fault_line part fault)
fault_line-printed part line None printed = tt
fault_line-printed part line (Some fault) printed =
    printed ∙ ap (λ rest. codes "cqf: " ++ rest) (ap (λ rest. part ++ rest) (sym (append_assoc (codes ": ") fault (10 ∷ [])))
    ∙ sym (append_assoc part (codes ": " ++ fault) (10 ∷ [])))
