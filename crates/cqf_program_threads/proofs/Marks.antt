-- Marks of one cycle on a link's trace, as a book has them.
use Rattle.std.proofs.Common.{◌≡◌, ◌∙◌, ◌+◌, ◌<◌, ◌++◌, ℕ, List, [], ◌∷◌, ap, eqb-true, filter, get_or, inl, inr, length, map, refl, sym, take}
use Rattle.std.proofs.lemmas.Bool.{cases_Bool, cond-false, cond-true}
use Rattle.std.proofs.lemmas.Grind.{flat_map-append}
use Rattle.std.proofs.lemmas.List.{map_more}
use Rattle.cqf_model.specs.declared.frames.Started.{Started}
use Rattle.cqf_model.specs.Domain.{Domain, cycle_of}
use Rattle.cqf_report.specs.Books.{lines_of_starts, started_fields}
use Rattle.cqf_report.specs.Written.{line_of_fields}
use Rattle.cqf_trace.specs.declared.trace.Mark.{Mark}
use Rattle.cqf_trace.specs.Traces.{is_in, reported_on, started_by, started_in}

module _ (d : Domain) (cycle link : ℕ) where
  -- each of them is of the cycle
  pub written_in_cycle : (marks : List Mark) → reported_on d cycle link marks ≡ map (started_in cycle link) (filter (is_in d cycle) marks)
  written_in_cycle [] = refl
  written_in_cycle (m ∷ marks) = elim (cases_Bool (is_in d cycle m)) [
    | inl here ↦
        ap (map (started_by d link)) (cond-true (is_in d cycle m) (m ∷ filter (is_in d cycle) marks) (filter (is_in d cycle) marks) here)
        ∙ ap (λ (n : ℕ). started_in n link m ∷ reported_on d cycle link marks) (eqb-true (cycle_of d m.start.0) cycle here)
        ∙ ap (λ (xs : List Started). started_in cycle link m ∷ xs) (written_in_cycle marks)
        ∙ ap (map (started_in cycle link))
        (sym (cond-true (is_in d cycle m) (m ∷ filter (is_in d cycle) marks) (filter (is_in d cycle) marks) here))
    | inr apart ↦
        ap (map (started_by d link)) (cond-false (is_in d cycle m) (m ∷ filter (is_in d cycle) marks) (filter (is_in d cycle) marks) apart)
        ∙ written_in_cycle marks
        ∙ ap (map (started_in cycle link))
        (sym (cond-false (is_in d cycle m) (m ∷ filter (is_in d cycle) marks) (filter (is_in d cycle) marks) apart))
  ]

  -- they are found in their order
  pub written_of_own : (marks own : List Mark) → filter (is_in d cycle) marks ≡ own → map (started_in cycle link) own ≡ reported_on d cycle link marks
  written_of_own marks own is = ap (map (started_in cycle link)) (sym is) ∙ sym (written_in_cycle marks)

-- the next one's line comes after those before
pub marks_more : (what : List ℕ) (d : Domain) (f : Mark → Started) (own : List Mark) (k : ℕ) (some : Mark) (started : Started) → k < length own
    → started ≡ f (get_or own k some)
    → lines_of_starts what d (map f (take k own)) ++ lines_of_starts what d (started ∷ []) ≡ lines_of_starts what d (map f (take (k + 1) own))
marks_more what d f own k some started inside is =
    let front = lines_of_starts what d (map f (take k own)) in
    ap (λ (s : Started). front ++ lines_of_starts what d (s ∷ [])) is
    ∙ sym (flat_map-append (λ (s : Started). line_of_fields (started_fields what d s)) (map f (take k own)) (f (get_or own k some) ∷ []))
    ∙ ap (lines_of_starts what d) (sym (map_more f own k some inside))
