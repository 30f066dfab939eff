-- A bridge that sends a cycle of the network.
use Rattle.std.proofs.Common.{◌≡◌, ℕ, ◌+◌, ◌*◌, ◌<◌, false, true, List, ◌++◌, length, map, sym, ap, refl, ◌∙◌, subst, Contains}
use Rattle.std.specs.List.{flat_map, zip}
use Rattle.std.proofs.lemmas.List.Folds.{flat_map-map}
use Rattle.std.proofs.lemmas.Simd.{map-map}
use Rattle.std.proofs.lemmas.Slice.Zip.{firsts-zip}
use Rattle.cqf_lists.proofs.Made.{flat_map_same, map_same}
use Rattle.cqf_lists.proofs.Members.{contains_from_map, contains_map}
use Rattle.cqf_lists.proofs.Numbers.{kept_number, made_of_kept}
use Rattle.cqf_model.specs.declared.frames.Backed.{Backed}
use Rattle.cqf_model.specs.Book.{background_in}
use Rattle.cqf_model.specs.Domain.{Domain, leaves}
use Rattle.cqf_model.specs.Network.{Network, comes_before}
use Rattle.cqf_model.specs.Port.{Transmission}
use Rattle.cqf_model.specs.Run.{Run}
use Rattle.cqf_laws_cycle.specs.Gathered.{PortsGetTheirBackground, backed_for}
use Rattle.cqf_laws_cycle.specs.PageLaws.{on_links_of}
use Rattle.cqf_laws_cycle.specs.PortCycle.{PortStartsTheBatch, waits_in}
use Rattle.cqf_bridge.specs.Batch.{LinkBatch}
use Rattle.cqf_agenda.specs.Links.{links_from}
use Rattle.cqf_bridge.specs.BridgeState.{BridgeState, background_from, batch_from, end_of_cycle, port_after, port_with}
use Rattle.cqf_bridge.specs.PortRecord.{AreDemanded, PortRecord}
use Rattle.cqf_bridge.specs.Cycles.{GivesTheBatches, SendsOfTheRun}
use Rattle.cqf_bridge.specs.Follows.{HasSentOfTheNetwork, HasTaken, IsOfRun, batch_of, batches_from}
use Rattle.cqf_bridge.proofs.SentPorts.{background_is, batch_is, port_has_sent}

-- a port of the run's bridge has a link of the domain, which leaves the bridge
pub port_of_link : (run : Run) (b : BridgeState) → IsOfRun run b → (r : PortRecord) → Contains b.ports r →
    (r.link < length run.domain.links) × (leaves run.domain r.link b.number ≡ true)
port_of_link run b is r held =
    kept_number (λ l. leaves run.domain l b.number) (length run.domain.links) r.link
    (subst (λ (ls : List ℕ). Contains ls r.link) is.links (contains_map (λ (p : PortRecord). p.link) b.ports r held))

module _ (run : Run) (cycles cycle : ℕ) (net : Network) (before after : BridgeState) (given given_after : List LinkBatch)
    (makes_batch : PortStartsTheBatch) (gets : PortsGetTheirBackground) (h : SendsOfTheRun run cycles cycle net before after given given_after) where
  -- the background frames that it is given
  abbrev handed : List Backed
  handed = backed_for run.domain run.background before.number cycle

  -- its ports, with what each makes of the cycle
  abbrev sent_ports : List (PortRecord × List Transmission)
  sent_ports = zip before.ports h.sends.made

  -- one of its ports
  port_held : (x : PortRecord × List Transmission) → Contains sent_ports x → Contains before.ports x.0
  port_held x held =
      subst (λ (rs : List PortRecord). Contains rs x.0) (firsts-zip before.ports h.sends.made h.sends.one_each)
      (contains_map (λ (p : PortRecord × List Transmission). p.0) sent_ports x held)

  -- it has what arrives at it before the cycle
  port_has : (x : PortRecord × List Transmission) → Contains sent_ports x →
      HasTaken run.domain (cycle * run.domain.cycle_time) (comes_before run net.carried x.0.link cycle) x.0
  port_has x held =
      subst (λ (n : ℕ). HasTaken run.domain (n * run.domain.cycle_time) (comes_before run net.carried x.0.link n) x.0) (sym h.next.0)
      (h.follows.ports x.0 (port_held x held))

  -- and makes the starts that are demanded of it
  port_makes : (x : PortRecord × List Transmission) → Contains sent_ports x → AreDemanded (port_with handed x.0) (end_of_cycle run.domain cycle) x.1
  port_makes x held =
      subst (λ (d : Domain). AreDemanded (port_with handed x.0) (end_of_cycle d cycle) x.1) h.follows.of_run.domain (h.sends.demanded x held)

  -- the links of its ports are those that leave it
  links_of_ports : map (λ (x : PortRecord × List Transmission). x.0.link) sent_ports ≡ links_from run.domain before.number
  links_of_ports =
      sym (map-map (λ (r : PortRecord). r.link) (λ (x : PortRecord × List Transmission). x.0) sent_ports)
      ∙ ap (map (λ (r : PortRecord). r.link)) (firsts-zip before.ports h.sends.made h.sends.one_each)
      ∙ h.follows.of_run.links

  -- its batches are the network's
  batches_are : map (batch_from cycle handed) sent_ports ≡ batches_from run.domain net.carried before.number cycle
  batches_are =
      map_same (batch_from cycle handed) (λ (x : PortRecord × List Transmission). batch_of run.domain net.carried cycle x.0.link) sent_ports
      (λ x held. (let own = port_of_link run before h.follows.of_run x.0 (port_held x held) in
      batch_is run cycles cycle before.number net h.compiled h.within_run makes_batch gets x.0 own.0 own.1 (port_has x held) x.1 (port_makes x held)))
      ∙ sym (map-map (batch_of run.domain net.carried cycle) (λ (x : PortRecord × List Transmission). x.0.link) sent_ports)
      ∙ ap (map (batch_of run.domain net.carried cycle)) links_of_ports

  -- and so are its background frames
  others_are : flat_map (background_from cycle handed) sent_ports ≡ on_links_of run.domain before.number (background_in run.domain net.backed cycle)
  others_are =
      let by_link = background_in run.domain net.backed cycle in
      flat_map_same (background_from cycle handed) (λ (x : PortRecord × List Transmission). by_link x.0.link) sent_ports
      (λ x held. (let own = port_of_link run before h.follows.of_run x.0 (port_held x held) in
      background_is run cycles cycle before.number net h.compiled h.within_run makes_batch gets x.0 own.0 own.1 (port_has x held) x.1 (port_makes x held)))
      ∙ sym (flat_map-map by_link (λ (x : PortRecord × List Transmission). x.0.link) sent_ports)
      ∙ ap (flat_map by_link) links_of_ports
      ∙ made_of_kept (λ l. leaves run.domain l before.number) by_link (length run.domain.links)

  -- the bridge after the cycle
  abbrev following : BridgeState
  following = record {
    domain = run.domain;
    number = before.number;
    sent = cycle + 1;
    received = cycle;
    spent = false;
    ports = map (port_after run.domain cycle handed) sent_ports;
    background = flat_map (background_from cycle handed) sent_ports;
  }

  -- it is the result of the call
  is_after : after ≡ following
  is_after = h.sends.bridge ∙ (λ i. record {
    domain = h.follows.of_run.domain i;
    number = before.number;
    sent = (h.next.1 ∙ sym h.next.0) i + 1;
    received = sym h.next.0 i;
    spent = false;
    ports = map (port_after (h.follows.of_run.domain i) cycle handed) sent_ports;
    background = flat_map (background_from cycle handed) sent_ports;
  })

  -- and has sent as the network does
  after_has_sent : HasSentOfTheNetwork run net following
  after_has_sent = record {
    of_run = record {
      domain = refl;
      inside = h.follows.of_run.inside;
      not_spent = refl;
      links = map-map (λ (r : PortRecord). r.link) (port_after run.domain cycle handed) sent_ports ∙ links_of_ports;
    };
    turn = refl;
    ports = λ r held. (let f = contains_from_map (port_after run.domain cycle handed) sent_ports r held in
        let own = port_of_link run before h.follows.of_run f.0.0 (port_held f.0 f.1) in
        subst (λ (p : PortRecord). HasTaken run.domain ((cycle + 1) * run.domain.cycle_time) (waits_in run net.carried p.link cycle) p) f.2
        (port_has_sent run cycles cycle before.number net h.compiled h.within_run makes_batch gets f.0.0 own.0 own.1 (port_has f.0 f.1) f.0.1
        (port_makes f.0 f.1)));
    background = others_are;
  }

  -- so the call returns the network's batches
  pub cycle_is_sent : GivesTheBatches run cycle net before after given given_after
  cycle_is_sent = record {
    batches = h.sends.batches ∙ ap (λ (xs : List LinkBatch). given ++ xs) batches_are;
    background = ap (λ (b : BridgeState). b.background) is_after ∙ others_are;
    number = ap (λ (b : BridgeState). b.number) is_after;
    cycle_same = ap (λ (b : BridgeState). b.received) is_after;
    has_sent = subst (HasSentOfTheNetwork run net) (sym is_after) after_has_sent;
  }
