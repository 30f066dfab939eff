use Rattle.std.proofs.Common.{◌≡◌, ◌∙◌, ◌∷◌, [], List, ℕ, ap, length, map}
use Rattle.std.specs.Prelude.{slice_index_or}
use Rattle.cqf_lists.specs.Lists.{each_below}
use Rattle.cqf_program_plans.specs.Latency.Text.{latencies_from}
use Rattle.cqf_program_diff.specs.Element.{ElementText}
use Rattle.cqf_program_diff.specs.Figures.{latency_element, load_element, load_elements}
use Rattle.cqf_program_diff.proofs.Held.{held_by_rows}
use Rattle.cqf_program_diff.proofs.figures.figures_of.Goals as goal

pub returns : goal.returns
returns c =
    let d = c.args.domain.now in
    let rows = c.args.rows.now in
    let latencies : c.in_ok-latencies.latencies.items ≡ map latency_element (latencies_from d rows c.args.deadlines.now c.args.times.now) =
    c.in_ok-latencies.ensures ∙ ap (map latency_element) (c.as_slice-all.ensures.value ∙ c.in_ok-found.ensures) in
    let loads : c.in_ok-loads.loads.items ≡ load_elements d rows =
    held_by_rows d rows c.in_ok-costs.costs.items c.in_ok-loads.loads.items c.in_ok-costs.ensures
    (c.in_ok-loads.ensures
    ∙ ap (λ (costs : List ℕ). each_below (λ l. load_element d l (slice_index_or costs l 0) ∷ []) (length d.links)) c.as_slice-by_link.ensures.value) in
    λ i. record { latencies = latencies i; loads = loads i }
