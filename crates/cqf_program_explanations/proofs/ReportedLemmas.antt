-- Texts of lines.
use Rattle.std.proofs.Common.{◌≡◌, ℕ, ◌≤◌, ◌++◌, List, [], ◌∷◌, length, arith}
use Rattle.std.specs.List.{flat_map}
use Rattle.std.proofs.lemmas.Grind.{common_steps, flat_map-append}
use Rattle.cqf_program_explanations.specs.Explanations.{AreReportedLines, reported_line}

-- twenty lines or fewer are printed
pub few_lines : (start : List ℕ) (lines : List (List ℕ)) (text : List ℕ) → length lines ≤ 20 → text ≡ flat_map (reported_line start) lines → AreReportedLines 21 start text
few_lines start lines text few is = record { lines = lines; few = omega arith; text_is = is }

-- and so they are with one more line
pub one_more : (start : List ℕ) (lines : List (List ℕ)) (line text : List ℕ) → length lines ≤ 20 → text ≡ flat_map (reported_line start) lines ++ reported_line start line →
    AreReportedLines 21 start text
one_more start lines line text few is = record {
  lines = lines ++ line ∷ [];
  few = grind (arith, common_steps);
  text_is = grind (arith, common_steps, flat_map-append (reported_line start) lines (line ∷ []));
}
