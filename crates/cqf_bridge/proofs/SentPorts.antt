-- A port that sends a cycle of the network.
use Rattle.std.proofs.Common.{◌≡◌, ℕ, ◌+◌, ◌*◌, ◌<◌, true, List, [], ◌∷◌, ◌++◌, length, map, filter, sym, ap, refl, ◌∙◌, arith, subst}
use Rattle.std.specs.List.{flat_map, zip}
use Rattle.std.proofs.lemmas.List.{map-append}
use Rattle.cqf_model.specs.declared.frames.Backed.{Backed}
use Rattle.cqf_model.specs.declared.frames.Sent.{Sent}
use Rattle.cqf_model.specs.declared.ports.Arrival.{Arrival}
use Rattle.cqf_model.specs.Book.{background_in, started_backed}
use Rattle.cqf_model.specs.Domain.{leaves}
use Rattle.cqf_model.specs.Network.{Network, QueuedFrame, arrivals_of, backed_frame, backed_in, backed_of, comes_before, sent_of}
use Rattle.cqf_model.specs.Port.{AreLegal, PortRules, Transmission}
use Rattle.cqf_model.specs.Run.{Run}
use Rattle.cqf_laws_cycle.specs.BridgeCycle.{IsCompiledNetwork}
use Rattle.cqf_laws_cycle.specs.Gathered.{PortsGetTheirBackground, backed_for, is_for_link}
use Rattle.cqf_laws_cycle.specs.PortCycle.{MakesTheBatch, PortStartsTheBatch, StartsInCycle, waits_in}
use Rattle.cqf_bridge.specs.Batch.{LinkBatch}
use Rattle.cqf_bridge.specs.BridgeState.{background_from, backed_on, batch_from, end_of_cycle, port_after, port_with}
use Rattle.cqf_bridge.specs.PortRecord.{AreDemanded, PortRecord, frame_with, recorded, rules_on}
use Rattle.cqf_bridge.specs.Follows.{HasTaken, batch_of, streams_of_starts}
use Rattle.cqf_bridge.proofs.LinkLists.{bridge_it_leaves}

-- frames from their arrivals and streams, side by side
pub frames_again : (frames : List QueuedFrame) → map frame_with (zip (arrivals_of frames) (streams_of_starts frames)) ≡ frames
frames_again [] = refl
frames_again (x ∷ frames) = ap (λ (xs : List QueuedFrame). x ∷ xs) (frames_again frames)

-- a batch of these frames
abbrev batch_with : ℕ → ℕ → List Sent → LinkBatch
batch_with link cycle frames = record { link = link; cycle = cycle; frames = frames }

module _ (run : Run) (cycles cycle number : ℕ) (net : Network) (compiled : IsCompiledNetwork run cycles net) (in_cycles : cycle < cycles)
    (makes_batch : PortStartsTheBatch) (gets : PortsGetTheirBackground) (r : PortRecord)
    (in_links : r.link < length run.domain.links) (leaves_it : leaves run.domain r.link number ≡ true)
    (has : HasTaken run.domain (cycle * run.domain.cycle_time) (comes_before run net.carried r.link cycle) r) (made : List Transmission)
    (demanded : AreDemanded (port_with (backed_for run.domain run.background number cycle) r) (end_of_cycle run.domain cycle) made) where
  -- the bridge's background frames of the cycle
  abbrev all_backed : List Backed
  all_backed = backed_for run.domain run.background number cycle

  -- the port's own
  abbrev own_backed : List QueuedFrame
  own_backed = backed_in run.domain run.background r.link cycle

  -- what arrived before the cycle
  abbrev came : List QueuedFrame
  came = comes_before run net.carried r.link cycle

  -- what the port has when it sends the cycle
  abbrev queue : List QueuedFrame
  queue = waits_in run net.carried r.link cycle

  -- it gets its own
  gets_own : backed_on r.link all_backed ≡ own_backed
  gets_own =
      let d = run.domain in
      ap (λ (b : ℕ). map backed_frame (filter (is_for_link r.link) (backed_for d run.background b cycle)))
      (sym (bridge_it_leaves d r.link number in_links leaves_it))
      ∙ gets d run.background r.link cycle in_links

  -- so its arrivals are those of the frames that it has
  arrivals_with : (port_with all_backed r).port.arrivals ≡ arrivals_of queue
  arrivals_with =
      (λ i. has.arrivals i ++ arrivals_of (gets_own i))
      ∙ sym (map-append (λ (x : QueuedFrame). x.arrival) came own_backed)

  -- and its streams are theirs
  streams_with : (port_with all_backed r).streams ≡ streams_of_starts queue
  streams_with =
      (λ i. has.streams i ++ streams_of_starts (gets_own i))
      ∙ sym (map-append (λ (x : QueuedFrame). x.stream) came own_backed)

  -- what is demanded of it is legal for these
  legal_then : AreLegal (rules_on run.domain r.link) (arrivals_of queue) ((cycle + 1) * run.domain.cycle_time) (r.port.starts ++ made)
  legal_then =
      let end = (cycle + 1) * run.domain.cycle_time in
      subst (λ (xs : List Arrival). AreLegal (rules_on run.domain r.link) xs end (r.port.starts ++ made)) arrivals_with
      (subst (λ (rules : PortRules). AreLegal rules (port_with all_backed r).port.arrivals end (r.port.starts ++ made)) has.rules demanded.legal)

  -- some of it is before the cycle, and the rest in it
  starts_in_cycle : StartsInCycle run.domain r.link cycle queue r.port.starts made
  starts_in_cycle = record {
    legal = legal_then;
    sooner = λ index s h. has.legal.before_end index s h;
    later = λ index s h. omega (arith, demanded.later index s h, has.reached);
  }

  -- so it makes the batch
  makes : MakesTheBatch run net r.link cycle made
  makes = makes_batch run cycles cycle r.link net r.port.starts made compiled in_cycles in_links starts_in_cycle

  -- what it has recorded is what it has
  recorded_is : recorded (port_with all_backed r) ≡ queue
  recorded_is = (λ i. map frame_with (zip (arrivals_with i) (streams_with i))) ∙ frames_again queue

  -- its batch is the network's
  pub batch_is : batch_from cycle all_backed (r, made) ≡ batch_of run.domain net.carried cycle r.link
  batch_is =
      ap (batch_with r.link cycle)
      (ap (λ (frames : List QueuedFrame). flat_map (sent_of frames) made) recorded_is ∙ sym makes.batch_made)

  -- and so are the background frames that it starts
  pub background_is : background_from cycle all_backed (r, made) ≡ background_in run.domain net.backed cycle r.link
  background_is =
      ap (map (started_backed cycle r.link))
      (ap (λ (frames : List QueuedFrame). flat_map (backed_of frames) made) recorded_is ∙ sym makes.background_made)

  -- and then it has run to the cycle's end
  pub port_has_sent : HasTaken run.domain ((cycle + 1) * run.domain.cycle_time) queue (port_after run.domain cycle all_backed (r, made))
  port_has_sent =
      record { rules = has.rules; reached = refl; arrivals = arrivals_with; streams = streams_with; legal = legal_then }
