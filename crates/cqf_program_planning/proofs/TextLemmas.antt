-- Lines that are made of pieces.
use Rattle.std.proofs.Common.{◌≡◌, ◌∙◌, ℕ, ◌++◌, ◌∷◌, [], List, false, Bool, Some, ap, append_assoc, codes, if◌then◌else◌, refl, sym}
use Rattle.std.specs.Prelude.{◌==◌}
use Rattle.std.specs.Fmt.{decimal}
use Rattle.std.specs.List.{join_with_byte}
use Rattle.cqf_report.specs.Written.{line_of_fields}
use Rattle.cqf_output.specs.Stops.{fault_line}
use Rattle.cqf_program_planning.specs.declared.candidates.CandidateFault.{CandidateFault}
use Rattle.cqf_program_planning.specs.Choosing.{bad_line, candidate_fault_text}

-- four fields, and a line of twice as many
pub four_fields : (a b c d : List ℕ) → a ++ (44 ∷ (b ++ (44 ∷ (c ++ (44 ∷ d))))) ≡ join_with_byte 44 (a ∷ b ∷ c ∷ d ∷ [])
four_fields a b c d = refl

pub eight_fields : (a b c d e f g h : List ℕ) →
    join_with_byte 44 (a ∷ b ∷ c ∷ d ∷ []) ++ (44 ∷ (join_with_byte 44 (e ∷ f ∷ g ∷ h ∷ []) ++ 10 ∷ []))
    ≡ line_of_fields (a ∷ b ∷ c ∷ d ∷ e ∷ f ∷ g ∷ h ∷ [])
eight_fields a b c d e f g h = simp append_assoc

-- the line of one of several that aren't good
pub bad_line_many : (count cycle_time : ℕ) (found : CandidateFault) → (count == 1) ≡ false →
    codes "cqf: plan: no cycle of "
    ++ (decimal count ++ (codes " is good; at " ++ (decimal cycle_time ++ (codes " " ++ (candidate_fault_text found ++ 10 ∷ [])))))
    ≡ bad_line count cycle_time (Some found)
bad_line_many count cycle_time found several =
    sym (ap (λ (one : Bool). fault_line (codes "plan") (if one then candidate_fault_text found
    else codes "no cycle of " ++ (decimal count ++ (codes " is good; at " ++ (decimal cycle_time ++ (codes " " ++ candidate_fault_text found)))))) several
    ∙ pieces (decimal count) (decimal cycle_time) (candidate_fault_text found))
  where
    pieces : (n t f : List ℕ) →
        fault_line (codes "plan") (codes "no cycle of " ++ (n ++ (codes " is good; at " ++ (t ++ (codes " " ++ f)))))
        ≡ codes "cqf: plan: no cycle of " ++ (n ++ (codes " is good; at " ++ (t ++ (codes " " ++ (f ++ 10 ∷ [])))))
    pieces n t f = simp append_assoc
