-- A plan as it is compared, step by step.
use Rattle.std.proofs.Common.{◌≡◌, ◌∙◌, Err, List, Ok, Option, Result, ap, map, sym, ℕ}
use Rattle.cqf_lists.specs.Results.{and_then}
use Rattle.cqf_admission.specs.Asking.{asked_by, asked_paced}
use Rattle.cqf_edge.specs.declared.edge.AccessTimes.{AccessTimes}
use Rattle.cqf_edge.specs.EdgeFlows.{EdgeFlowsText}
use Rattle.cqf_model.specs.declared.topology.Row.{Row}
use Rattle.cqf_model.specs.Domain.{Domain}
use Rattle.cqf_model.specs.declared.limits.Limits.{Limits}
use Rattle.cqf_model.specs.History.{Asked, Recorded, held_in}
use Rattle.cqf_network.specs.NetworkDomain.{NetworkDomain}
use Rattle.cqf_output.specs.Stops.{IsRefused}
use Rattle.cqf_output.specs.declared.stops.Stop.{Stop}
use Rattle.cqf_program_plans.specs.Compile.Output.{HoldsAll}
use Rattle.cqf_program_plans.specs.Edges.{open_edges_of_part}
use Rattle.cqf_program_plans.specs.Reserving.{requests_at}
use Rattle.cqf_program_scenario.proofs.AskedTexts.{asked_texts}
use Rattle.cqf_program_scenario.specs.Networks.{domain_of, network_of_part}
use Rattle.cqf_topology.specs.declared.paced.PacedRequest.{PacedRequest}
use Rattle.cqf_topology.specs.PacedText.{PacedText, paced_text}
use Rattle.cqf_program_diff.specs.declared.description.OwnElements.{OwnElements}
use Rattle.cqf_program_diff.specs.Description.{Description, described_from, description_of, description_with, figures_for}
use Rattle.cqf_program_diff.specs.DescriptionValues.{described}
use Rattle.cqf_program_diff.specs.Figures.{FiguresText, figures_of}

-- the figures of admitted streams
pub figures_held : (d : Domain) (streams : List Asked) (rows : List Row) (deadlines : List (Option ℕ)) (times : List (Option AccessTimes)) (figures : FiguresText) →
    HoldsAll d streams rows → figures ≡ figures_of d rows deadlines times → figures_for d streams deadlines times ≡ Ok figures
figures_held d streams rows deadlines times figures held is =
    ap (λ (found : Result (List Recorded) (List ℕ)). and_then found (λ entries. Ok (figures_of d (held_in d entries 0) deadlines times))) held.admitted
    ∙ ap Ok (ap (λ (all : List Row). figures_of d all deadlines times) (sym held.held) ∙ sym is)

-- the description by its figures, or by their fault
figures_lead : (network : NetworkDomain) (d : Domain) (edge : EdgeFlowsText) (requests : List PacedRequest) (figures : Result FiguresText (List ℕ)) →
    d ≡ domain_of network → requests_at d edge.flows ≡ Ok (map paced_text requests) →
    figures_for d (map asked_paced requests) edge.deadlines edge.times ≡ figures
    → described_from network edge ≡ and_then figures (λ found. Ok (description_with network edge found))
figures_lead network d edge requests figures same requests_are figures_are =
    let asked : requests_at (domain_of network) edge.flows ≡ Ok (map paced_text requests) =
    ap (λ (x : Domain). requests_at x edge.flows) (sym same) ∙ requests_are in
    let found : figures_for (domain_of network) (map asked_by (map paced_text requests)) edge.deadlines edge.times ≡ figures =
    (λ i. figures_for (sym same i) (asked_texts requests i) edge.deadlines edge.times) ∙ figures_are in
    let reported : Result FiguresText (List ℕ) → Result Description (List ℕ) = λ all. and_then all (λ fs. Ok (description_with network edge fs)) in
    ap (λ (all : Result (List PacedText) (List ℕ)).
    and_then all (λ rs. reported (figures_for (domain_of network) (map asked_by rs) edge.deadlines edge.times))) asked
    ∙ ap reported found

-- the whole description
pub described_is : (network : NetworkDomain) (d : Domain) (edge : EdgeFlowsText) (own : OwnElements) (requests : List PacedRequest) (figures : FiguresText) →
    d ≡ domain_of network → ((all : FiguresText) → described own all ≡ description_with network edge all) → requests_at d edge.flows ≡ Ok (map paced_text requests) →
    figures_for d (map asked_paced requests) edge.deadlines edge.times ≡ Ok figures → described_from network edge ≡ Ok (described own figures)
described_is network d edge own requests figures same own_are requests_are figures_are =
    figures_lead network d edge requests (Ok figures) same requests_are figures_are ∙ ap Ok (sym (own_are figures))

-- a stream that isn't admitted refuses the description
pub figures_refused : (network : NetworkDomain) (d : Domain) (edge : EdgeFlowsText) (requests : List PacedRequest) (stop : Stop) → d ≡ domain_of network →
    requests_at d edge.flows ≡ Ok (map paced_text requests) → IsRefused (figures_for d (map asked_paced requests) edge.deadlines edge.times) stop
    → IsRefused (described_from network edge) stop
figures_refused network d edge requests stop same requests_are refused = record {
  statuses = refused.statuses;
  line = λ one. figures_lead network d edge requests (Err stop.text.items) same requests_are (refused.line one);
  memory = refused.memory;
}

-- the description of a text is that of its network with its streams
pub description_by : (limits : Limits) (text : List ℕ) (network : NetworkDomain) (edge : Result EdgeFlowsText (List ℕ)) →
    network_of_part limits text ≡ Ok network → open_edges_of_part network text ≡ edge → description_of limits text ≡ and_then edge (described_from network)
description_by limits text network edge network_is edge_is =
    ap (λ (found : Result NetworkDomain (List ℕ)). and_then found (λ all. and_then (open_edges_of_part all text) (described_from all))) network_is
    ∙ ap (λ (found : Result EdgeFlowsText (List ℕ)). and_then found (described_from network)) edge_is

-- streams that are refused refuse it
pub edges_refused : (limits : Limits) (text : List ℕ) (network : NetworkDomain) (stop : Stop) → network_of_part limits text ≡ Ok network →
    IsRefused (open_edges_of_part network text) stop → IsRefused (description_of limits text) stop
edges_refused limits text network stop network_is refused = record {
  statuses = refused.statuses;
  line = λ one. description_by limits text network (Err stop.text.items) network_is (refused.line one);
  memory = refused.memory;
}
