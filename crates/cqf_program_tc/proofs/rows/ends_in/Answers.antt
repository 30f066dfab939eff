use Rattle.std.proofs.Common.{◌≡◌, ◌∙◌, ◌-◌, ◌==◌, Option, Some, None, ap, false, length, sym, ℕ}
use Rattle.std.specs.Prelude.{slice_get}
use Rattle.std.specs.Option.{option_map_or}
use Rattle.cqf_program_tc.proofs.NotedRows.{is_last-at}
use Rattle.cqf_program_tc.proofs.rows.ends_in.Goals as goal

pub returns-in-Some : goal.returns-in-Some
returns-in-Some c =
    let indices = c.args.indices.now in
    let there : slice_get indices (length indices - 1) ≡ Some c.in-Some.last.now = sym c.in-Some.ensures.value in
    sym (is_last-at c.args.index indices
    ∙ ap (λ (found : Option ℕ). option_map_or (λ (last : ℕ). last == c.args.index) found false) there)

pub returns-in-None : goal.returns-in-None
returns-in-None c =
    let indices = c.args.indices.now in
    let there : slice_get indices (length indices - 1) ≡ None = sym c.in-None.ensures.value in
    sym (is_last-at c.args.index indices
    ∙ ap (λ (found : Option ℕ). option_map_or (λ (last : ℕ). last == c.args.index) found false) there)
