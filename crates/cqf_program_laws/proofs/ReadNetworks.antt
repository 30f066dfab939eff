-- A network that is read with its cycle time chosen satisfies `IsNetwork`, and its domain is well-formed.
use Rattle.std.proofs.Common.{◌≡◌, ◌∙◌, [], ℕ, List, Ok, ap, subst, sym}
use Rattle.cqf_model.specs.declared.limits.Limits.{Limits}
use Rattle.cqf_model.specs.Domain.{Domain}
use Rattle.cqf_topology.specs.declared.faults.DomainFault.TheVariants as domain
use Rattle.cqf_topology.specs.DomainText.{IsDomain, first_taken, if_so}
use Rattle.cqf_topology.proofs.Refusals.{and_then-Ok, refuse-Ok}
use Rattle.cqf_network.specs.declared.faults.NetworkFault.TheVariants.{Domain as OfDomain, NoAccessLink}
use Rattle.cqf_network.specs.Edges.{Edge, first_long_delay, first_long_gap, first_long_guard, first_long_sync, first_misplaced, first_twice, joined}
use Rattle.cqf_network.specs.NetworkDomain.{IsReadableNetwork, IsNetwork, NetworkDomain, checked, is_guard_too_long, is_too_many, name_taken, network_of_text}
use Rattle.cqf_network.specs.NetworkDomain.{open_cycle, network_with, with_edges, with_names}
use Rattle.cqf_network.specs.NetworkText.{NetworkText, one_of_text}
use Rattle.cqf_network.proofs.CheckedLemmas.{passes_network}
use Rattle.cqf_network.proofs.InsideLemmas.{all_joined}
use Rattle.cqf_network.proofs.OpenLemmas.{open_is_open, passed_is_network}
use Rattle.cqf_network.proofs.ReadLemmas.{one_draft_limits, one_readable}
use Rattle.cqf_program_scenario.specs.Lines.{domain_line}
use Rattle.cqf_program_scenario.specs.Networks.{domain_of, domain_of_part, network_of_part}
use Rattle.cqf_program_plans.proofs.CompileLemmas.{same_ok}
use Rattle.cqf_program_laws.proofs.Scripts.{lined, stepped}

-- a network whose edges pass the checks is what the text says with them
with_these_edges : (text : NetworkText) (edges : List Edge) (network : NetworkDomain) → with_edges text edges ≡ Ok network → network_with text edges ≡ network
with_these_edges text edges network e =
    let a = refuse-Ok (first_twice edges) (λ (element : ℕ). OfDomain (domain.LinkTwice element)) _ network e in
    let c = refuse-Ok (if_so (is_guard_too_long text)) (λ (u : Unit {0}). OfDomain domain.GuardTooLong) _ network a.1 in
    let k = refuse-Ok (first_long_guard text.candidates text.guard edges) (λ (element : ℕ). OfDomain (domain.LinkGuardTooLong element)) _ network c.1 in
    let f = refuse-Ok (first_long_delay text.sync text.guard edges) (λ (element : ℕ). OfDomain (domain.DelayTooLong element)) _ network k.1 in
    let g = refuse-Ok (first_long_gap text.guard edges) (λ (element : ℕ). OfDomain (domain.GapTooLong element)) _ network f.1 in
    let h = refuse-Ok (if_so (is_too_many text edges)) (λ (u : Unit {0}). OfDomain domain.TooMany) _ network g.1 in
    let m = refuse-Ok (first_long_sync text.sync edges) (λ (element : ℕ). OfDomain (domain.SyncTooLong element)) _ network h.1 in
    let n = refuse-Ok (first_misplaced edges) NoAccessLink (Ok (network_with text edges)) network m.1 in
    same_ok (network_with text edges) network n.1

-- one that passes all checks, and the limits of its text
pub record IsChecked (text : NetworkText) (network : NetworkDomain) : Type 0 where
  pub is_network : IsNetwork network
  pub limits_are : network.limits ≡ text.limits

checked_is : (text : NetworkText) (network : NetworkDomain) → IsReadableNetwork text → checked text ≡ Ok network → IsChecked text network
checked_is text network readable passed =
    let (bridges_apart, rest) = refuse-Ok (first_taken [] text.bridges) name_taken _ network passed in
    let (stations_apart, numbered) = refuse-Ok (first_taken text.bridges text.stations) name_taken (with_names text) network rest in
    let (edges, joined_are, checks) = and_then-Ok (joined text.bridges text.stations 0 text.links) (with_edges text) network numbered in
    let same = with_these_edges text edges network checks in
    record {
      is_network = subst IsNetwork same (passed_is_network text edges readable (passes_network text edges network checks)
          (all_joined text.bridges text.stations 0 text.links edges readable.links_are_read joined_are) bridges_apart stations_apart);
      limits_are = ap (λ (s : NetworkDomain). s.limits) (sym same);
    }

-- that of a part, within limits
pub record IsReadNetwork (limits : Limits) (network : NetworkDomain) : Type 0 where
  pub is_network : IsNetwork network
  pub limits_are : network.limits ≡ limits

pub network_is_read : (limits : Limits) (text : List ℕ) (network : NetworkDomain) → network_of_part limits text ≡ Ok network → IsReadNetwork limits network
network_is_read limits text network h =
    let (draft, read, passed) = and_then-Ok (one_of_text limits text) checked network (lined domain_line (network_of_text limits text) network h) in
    let is = checked_is draft network (one_readable limits text draft read) passed in
    record { is_network = is.is_network; limits_are = is.limits_are ∙ one_draft_limits limits text draft read }

-- its domain
pub domain_is_read : (limits : Limits) (text : List ℕ) (d : Domain) → domain_of_part limits text ≡ Ok d → IsDomain d × (d.limits ≡ limits)
domain_is_read limits text d h =
    let a = stepped (network_of_part limits text) (λ (network : NetworkDomain). Ok (domain_of network)) d h in
    let is = network_is_read limits text a.0 a.1 in
    subst (λ (x : Domain). IsDomain x × (x.limits ≡ limits)) (same_ok (domain_of a.0) d a.2)
    (is.is_network.domains (open_cycle a.0) (open_is_open a.0 is.is_network), is.limits_are)
