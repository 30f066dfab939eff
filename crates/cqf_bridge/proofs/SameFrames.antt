-- A bridge at whose ports the same arrives in two runs follows both.
use Rattle.std.proofs.Common.{◌≡◌, ℕ, ◌+◌, ◌*◌, ◌<◌, if◌then◌else◌, List, [], ◌++◌, length, map, sym, ap, refl, ◌∙◌, subst}
use Rattle.cqf_lists.proofs.EachBelow.{same_below}
use Rattle.cqf_model.specs.declared.ports.Start.{Start}
use Rattle.cqf_model.specs.declared.topology.Row.{Row}
use Rattle.cqf_model.specs.Book.{background_in, started_backed}
use Rattle.cqf_model.specs.Domain.{leaves}
use Rattle.cqf_model.specs.Network.{Network, QueuedFrame, backed_in, comes_before}
use Rattle.cqf_model.specs.Run.{Run}
use Rattle.cqf_laws_network.specs.NetworkLaws.{HaveOnePast, HaveTheSameTables, PortsGetThePast, with_tables}
use Rattle.cqf_laws_cycle.specs.PageLaws.{on_links_of}
use Rattle.cqf_laws_cycle.specs.RunSteps.{KeepsItsCycles}
use Rattle.cqf_bridge.specs.BridgeState.{BridgeState}
use Rattle.cqf_bridge.specs.Follows.{FollowsTheNetwork, HasSentOfTheNetwork, HasTaken, IsOfRun}

-- a bridge of a run is one of the run with other tables
of_other_tables : (run : Run) (others : List (List Row)) (b : BridgeState) → IsOfRun (with_tables run others) b → IsOfRun run b
of_other_tables run others b is = record { domain = is.domain; inside = is.inside; not_spent = is.not_spent; links = is.links }

module _ (run : Run) (others : List (List Row)) (net more : Network) (b : BridgeState)
    (same : (l : ℕ) → comes_before run more.carried l b.received ≡ comes_before (with_tables run others) net.carried l b.received) where
  -- if the same arrives at each port, the bridge follows both networks
  pub follows_both : FollowsTheNetwork (with_tables run others) net b → FollowsTheNetwork run more b
  follows_both f = record {
    of_run = of_other_tables run others b f.of_run;
    turn = f.turn;
    ports = λ r held. subst (λ (frames : List QueuedFrame). HasTaken run.domain (b.received * run.domain.cycle_time) frames r)
        (sym (same r.link)) (f.ports r held);
  }

  -- and if the same background frames start in the cycle, it has sent as both do
  pub has_sent_both : on_links_of run.domain b.number (background_in run.domain net.backed b.received)
      ≡ on_links_of run.domain b.number (background_in run.domain more.backed b.received) →
      HasSentOfTheNetwork (with_tables run others) net b → HasSentOfTheNetwork run more b
  has_sent_both others_same f = record {
    of_run = of_other_tables run others b f.of_run;
    turn = f.turn;
    ports = λ r held. (let backed = backed_in run.domain run.background r.link b.received in
        subst (λ (frames : List QueuedFrame). HasTaken run.domain ((b.received + 1) * run.domain.cycle_time) (frames ++ backed) r)
        (sym (same r.link)) (f.ports r held));
    background = f.background ∙ others_same;
  }

-- what arrives at a port before a cycle depends on no table of the cycle or later ones
pub same_before_cycle : PortsGetThePast → (run : Run) (others : List (List Row)) (net : Network) (cycle : ℕ) → HaveTheSameTables cycle run.tables others →
    (l : ℕ) → comes_before (with_tables run others) net.carried l cycle ≡ comes_before run net.carried l cycle
same_before_cycle ports run others net cycle tables l =
    let past : HaveOnePast run others net.carried net.carried cycle = record { tables = tables; links = λ m inside. refl } in
    sym (ports run others net.carried net.carried cycle l past)

-- a longer run keeps what its beginning sends of background frames on a bridge's links
pub same_background : (run : Run) (others : List (List Row)) (cycles cycle bridge : ℕ) (net more : Network) → KeepsItsCycles run others cycles net more →
    cycle < cycles → on_links_of run.domain bridge (background_in run.domain net.backed cycle)
    ≡ on_links_of run.domain bridge (background_in run.domain more.backed cycle)
same_background run others cycles cycle bridge net more keeps within =
    let d = run.domain in
    same_below (λ l. if leaves d l bridge then background_in d net.backed cycle l else [])
    (λ l. if leaves d l bridge then background_in d more.backed cycle l else [])
    (length d.links)
    (λ l inside. ap (λ (starts : List Start). if leaves d l bridge then map (started_backed cycle l) starts else [])
    (sym (keeps.sends_background l cycle within)))
