-- The lines of lists end to end.
use Rattle.std.proofs.Common.{◌≡◌, ◌∙◌, ◌+◌, ◌++◌, ℕ, suc, List, ap, arith, sym}
use Rattle.std.proofs.lemmas.Grind.{flat_map-append}
use Rattle.cqf_lists.specs.Lists.{each_below}
use Rattle.cqf_model.specs.declared.frames.Dropped.{Dropped}
use Rattle.cqf_model.specs.declared.frames.Started.{Started}
use Rattle.cqf_model.specs.Domain.{Domain}
use Rattle.cqf_report.specs.Books.{dropped_fields, lines_of_drops, lines_of_starts, started_fields}
use Rattle.cqf_report.specs.Written.{line_of_fields}

-- the next number
next : (n : ℕ) → suc n ≡ n + 1
next n = omega arith

-- with one list more, its lines come after those before
pub starts_more : (what : List ℕ) (d same : Domain) (lists : ℕ → List Started) (n : ℕ) (starts : List Started) → same ≡ d → starts ≡ lists n →
    lines_of_starts what d (each_below lists n) ++ lines_of_starts what same starts ≡ lines_of_starts what d (each_below lists (n + 1))
starts_more what d same lists n starts is here =
    let front = lines_of_starts what d (each_below lists n) in
    ap (λ (e : Domain). front ++ lines_of_starts what e starts) is
    ∙ ap (λ (xs : List Started). front ++ lines_of_starts what d xs) here
    ∙ sym (flat_map-append (λ (started : Started). line_of_fields (started_fields what d started)) (each_below lists n) (lists n))
    ∙ ap (λ (k : ℕ). lines_of_starts what d (each_below lists k)) (next n)

pub drops_more : (d same : Domain) (lists : ℕ → List Dropped) (n : ℕ) (drops : List Dropped) → same ≡ d → drops ≡ lists n →
    lines_of_drops d (each_below lists n) ++ lines_of_drops same drops ≡ lines_of_drops d (each_below lists (n + 1))
drops_more d same lists n drops is here =
    let front = lines_of_drops d (each_below lists n) in
    ap (λ (e : Domain). front ++ lines_of_drops e drops) is
    ∙ ap (λ (xs : List Dropped). front ++ lines_of_drops d xs) here
    ∙ sym (flat_map-append (λ (dropped : Dropped). line_of_fields (dropped_fields d dropped)) (each_below lists n) (lists n))
    ∙ ap (λ (k : ℕ). lines_of_drops d (each_below lists k)) (next n)
