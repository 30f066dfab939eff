use Rattle.std.proofs.Common.{ℕ, ◌-◌, decimal, [], ◌∷◌, ap, ◌∙◌}
use Rattle.cqf_model.specs.Domain.{budget}
use Rattle.cqf_admission.specs.Costs.{most_cost}
use Rattle.cqf_output.proofs.WriterLemmas.{Puts-as, Puts-then}
use Rattle.cqf_topology.specs.NodeNames.{name_of_link}
use Rattle.cqf_report.proofs.LineLemmas.{Puts-field}
use Rattle.cqf_program_plans.specs.Load.Fitting.{fits_in, fits_on, rate_on, streams_on}
use Rattle.cqf_program_plans.specs.Load.Text.{left_text, used_text}
use Rattle.cqf_program_plans.proofs.load.reported.put_line.Goals as goal

pub returns : goal.returns
returns g c =
    let d = c.args.domain.now in
    let rows = c.args.listing.now in
    let l = c.args.link in
    let most = budget d l in
    let held = most_cost rows l in
    let is_most = c.budget_on-most.ensures.value in
    let is_cost = c.cost_on-cost.ensures.cost in
    let is_held = c.from-held.ensures ∙ is_cost in
    let left = left_text most held in
    let fits = decimal (fits_on d rows l) in
    let streams = decimal (streams_on rows l) in
    let used = used_text most held in
    let put_rate = Puts-as _ (decimal (rate_on d l)) (ap decimal c.rate_on.ensures) c.put_number.ensures in
    let put_most = Puts-as _ (decimal most) (ap decimal is_most) c.put_number-2.ensures in
    let put_held = Puts-as _ (decimal held) (ap decimal is_cost) c.put_number-3.ensures in
    let put_left = Puts-as (left_text c.budget_on-most.result c.from-held.result) left
    (ap (λ (n : ℕ). left_text n c.from-held.result) is_most ∙ ap (left_text most) is_held) c.put_left.ensures in
    let put_fits = Puts-as (decimal (fits_in c.overhead.result (c.budget_on-most.result - c.cost_on-cost.result))) fits
    (ap (λ (n : ℕ). decimal (fits_in n (c.budget_on-most.result - c.cost_on-cost.result))) c.overhead.ensures.value
    ∙ ap (λ (n : ℕ). decimal (fits_in d.overhead (n - c.cost_on-cost.result))) is_most ∙ ap (λ (n : ℕ). decimal (fits_in d.overhead (most - n))) is_cost)
    c.put_fits.ensures in
    let put_streams = Puts-as _ streams (ap decimal c.streams_on.ensures) c.put_number-4.ensures in
    let put_used = Puts-as (used_text c.budget_on-most.result c.from-held.result) used
    (ap (λ (n : ℕ). used_text n c.from-held.result) is_most ∙ ap (used_text most) is_held) c.put_used.ensures in
    Puts-field (name_of_link d l) (decimal (rate_on d l)) (decimal most ∷ decimal held ∷ left ∷ fits ∷ streams ∷ used ∷ []) c.put_link.ensures
    c.put_byte.ensures
    (Puts-field (decimal (rate_on d l)) (decimal most) (decimal held ∷ left ∷ fits ∷ streams ∷ used ∷ []) put_rate c.put_byte-2.ensures
    (Puts-field (decimal most) (decimal held) (left ∷ fits ∷ streams ∷ used ∷ []) put_most c.put_byte-3.ensures
    (Puts-field (decimal held) left (fits ∷ streams ∷ used ∷ []) put_held c.put_byte-4.ensures
    (Puts-field left fits (streams ∷ used ∷ []) put_left c.put_byte-5.ensures
    (Puts-field fits streams (used ∷ []) put_fits c.put_byte-6.ensures
    (Puts-field streams used [] put_streams c.put_byte-7.ensures
    (Puts-then used (10 ∷ []) put_used c.put_byte-8.ensures)))))))
