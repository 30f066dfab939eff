use Rattle.std.proofs.Common.{ℕ, ◌+◌, decimal, [], ◌∷◌, ap, ◌∙◌}
use Rattle.cqf_model.specs.Domain.{budget}
use Rattle.cqf_output.proofs.WriterLemmas.{Puts-as, Puts-then}
use Rattle.cqf_report.proofs.LineLemmas.{Puts-field}
use Rattle.cqf_topology.specs.NodeNames.{name_of_link}
use Rattle.cqf_units.specs.Timing.{cost_of}
use Rattle.cqf_program_plans.specs.Load.Text.{used_text}
use Rattle.cqf_program_plans.proofs.load.streams.put_stream.Goals as goal

pub returns : goal.returns
returns g c =
    let d = c.args.domain.now in
    let l = c.args.link in
    let row = c.args.row.now in
    let link = name_of_link d l in
    let octets = decimal row.octets in
    let cost = decimal (cost_of d.overhead row.octets) in
    let every = decimal (row.pace.pause + 1) in
    let share = used_text (budget d l) (cost_of d.overhead row.octets) in
    let is_budget = c.budget_on-budget.ensures.value in
    let is_cost = c.cost_in_octets-cost.ensures ∙ ap (λ (n : ℕ). cost_of n row.octets) c.overhead.ensures.value in
    let put_stream = Puts-as c.as_bytes.result.now row.name c.as_bytes.ensures.value c.put.ensures in
    let put_cost = Puts-as _ cost (ap decimal is_cost) c.put_number-2.ensures in
    let put_every = Puts-as _ every (ap decimal c.every_of.ensures) c.put_number-3.ensures in
    let put_share = Puts-as (used_text c.budget_on-budget.result c.cost_in_octets-cost.result) share
    (ap (λ (n : ℕ). used_text n c.cost_in_octets-cost.result) is_budget ∙ ap (used_text (budget d l)) is_cost) c.put_share.ensures in
    Puts-field link row.name (octets ∷ cost ∷ every ∷ share ∷ []) c.put_link.ensures c.put_byte.ensures
    (Puts-field row.name octets (cost ∷ every ∷ share ∷ []) put_stream c.put_byte-2.ensures
    (Puts-field octets cost (every ∷ share ∷ []) c.put_number.ensures c.put_byte-3.ensures
    (Puts-field cost every (share ∷ []) put_cost c.put_byte-4.ensures
    (Puts-field every share [] put_every c.put_byte-5.ensures
    (Puts-then share (10 ∷ []) put_share c.put_byte-6.ensures)))))
