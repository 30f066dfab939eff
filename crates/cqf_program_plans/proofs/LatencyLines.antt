-- The line of a latency whose frames may miss their deadline.
use Rattle.std.proofs.Common.{◌≡◌, ◌∙◌, ◌++◌, ◌∷◌, [], ℕ, List, Option, Some, append_assoc, ap, codes, decimal, sym}
use Rattle.cqf_output.specs.Stops.{fault_line}
use Rattle.cqf_program_plans.specs.declared.latency.latencies.Verdict.{Verdict}
use Rattle.cqf_program_plans.specs.Latency.Text.{name_of_verdict, text_of_deadline, text_of_verdict}

-- the line feed follows the deadline
pub written_line : (stream listener most name : List ℕ) (verdict : Verdict) (deadline : ℕ) (due : Option Verdict) (set : Option ℕ) →
    name ≡ name_of_verdict verdict → due ≡ Some verdict → set ≡ Some deadline →
    codes "cqf: latency: "
    ++ (stream
    ++ (codes " at "
    ++ (listener
    ++ (codes ": " ++ (name ++ (codes ", most " ++ (most ++ (codes ", deadline " ++ (decimal deadline ++ 10 ∷ [])))))))))
    ≡ fault_line (codes "latency")
    (stream
    ++ (codes " at "
    ++ (listener ++ (codes ": " ++ (text_of_verdict due ++ (codes ", most " ++ (most ++ (codes ", deadline " ++ text_of_deadline set))))))))
written_line stream listener most name verdict deadline due set named is has =
    let z : List ℕ = 10 ∷ [] in
    let last = codes ", deadline " ++ decimal deadline in
    let after_name = codes ", most " ++ (most ++ last) in
    let after_listener = codes ": " ++ (name ++ after_name) in
    let after_stream = codes " at " ++ (listener ++ after_listener) in
    let inwards : (stream ++ after_stream) ++ z ≡ stream
    ++ (codes " at " ++ (listener ++ (codes ": " ++ (name ++ (codes ", most " ++ (most ++ (codes ", deadline " ++ (decimal deadline ++ z)))))))) =
    append_assoc stream after_stream z
    ∙ ap (λ t. stream ++ (codes " at " ++ t)) (append_assoc listener after_listener z
    ∙ ap (λ t. listener ++ (codes ": " ++ t)) (append_assoc name after_name z
    ∙ ap (λ t. name ++ (codes ", most " ++ t)) (append_assoc most last z))) in
    let line : List ℕ → List ℕ → List ℕ = λ v d. fault_line (codes "latency")
    (stream ++ (codes " at " ++ (listener ++ (codes ": " ++ (v ++ (codes ", most " ++ (most ++ (codes ", deadline " ++ d)))))))) in
    ap (λ t. codes "cqf: latency: " ++ t) (sym inwards)
    ∙ ap (λ v. line v (decimal deadline)) (named ∙ ap text_of_verdict (sym is))
    ∙ ap (λ d. line (text_of_verdict due) (text_of_deadline d)) (sym has)
