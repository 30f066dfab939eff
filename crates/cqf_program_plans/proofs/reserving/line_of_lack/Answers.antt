use Rattle.std.proofs.Common.{◌≡◌, ◌∙◌, ◌++◌, ◌∷◌, [], ℕ, List, ap, sym, append_assoc, codes}
use Rattle.std.specs.Fmt.{decimal}
use Rattle.cqf_program_plans.proofs.reserving.line_of_lack.Goals as goal

-- the line feed follows all of it
ends : (index octets needed : List ℕ) →
    index ++ (codes ": BelowTraffic " ++ (octets ++ (codes " " ++ (needed ++ 10 ∷ [])))) ≡ (index ++ (codes ": BelowTraffic " ++ (octets ++ (codes " " ++ needed)))) ++ 10 ∷ []
ends index octets needed =
    ap (λ (rest : List ℕ). index ++ (codes ": BelowTraffic " ++ rest)) (sym (append_assoc octets (codes " " ++ needed) (10 ∷ [])))
    ∙ sym (append_assoc index (codes ": BelowTraffic " ++ (octets ++ (codes " " ++ needed))) (10 ∷ []))

pub returns : goal.returns
returns c =
    c.in_ok-line.ensures.ok
    ∙ ap (λ (rest : List ℕ). codes "cqf: stream " ++ rest) (ends (decimal c.args.lack.index) (decimal c.args.lack.octets) (decimal c.args.lack.needed))
