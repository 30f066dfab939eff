-- Networks with other stream gates at inner bridges. A bridge is inner for a frame that came by a link. There, a lenient gate lets pass
-- all that the stream's own gate lets pass, and perhaps more: a gate may be missing, count to a larger number, or be closed late. At the
-- edge, where frames are offered, each stream has its own gate. What a frame's class is, and by which ports it goes on, is as in the model:
-- the definitions below repeat those of `Policing`, `Network`, `Book` and `Loose` of the model with the inner gates as a parameter.
use Rattle.std.specs.Prelude.{ℕ, ◌≡◌, ◌+◌, ◌*◌, ◌<◌, ◌≤◌, ◌++◌, List, [], ◌∷◌, Bool, true, ◌==◌, Option, Some, Contains, filter, length, map}
use Rattle.cqf_lists.specs.Lists.{each_below}
use Rattle.cqf_units.specs.Timing.{counted_of}
use Rattle.cqf_model.specs.declared.frames.Sent.{Sent}
use Rattle.cqf_model.specs.declared.topology.Row.{Row}
use Rattle.cqf_model.specs.Book.{Contents, background_of, drops_of, starts_of}
use Rattle.cqf_model.specs.Domain.{Domain, bridge_of, cycle_of}
use Rattle.cqf_model.specs.Loose.{ComesWithin, Slack}
use Rattle.cqf_model.specs.Network.{Network, QueuedFrame, Sends, backed_in, compiled_lists, queued_to}
use Rattle.cqf_model.specs.Run.{Run, end_of_run}
use Rattle.cqf_model.specs.StreamGate.{within}
use Rattle.cqf_model.specs.Table.{hop_number_after, reserved_in, table_of}
use Rattle.cqf_model.specs.Policing.{Carried, Policed, Received, Ingress, AtEdge, Relayed, came_by, received_before, verdict_by, within_gate}
use Rattle.cqf_laws_shift.specs.Edge.{octets_before}

-- for each bridge a test of frames that came by a link: after the earlier frames there, by the stream's row
abbrev pub InnerGates : Type 0
InnerGates = ℕ → List Policed → Row → Received → Bool

-- each test passes all that the stream's own gate passes
abbrev pub AreLenient : Domain → InnerGates → Type 0
AreLenient d gates = (bridge : ℕ) (earlier : List Policed) (row : Row) (x : Received) → within_gate d earlier row x ≡ true →
    gates bridge earlier row x ≡ true

-- ---- some inner gates

-- the streams' own gates
abbrev pub own_gates : Domain → InnerGates
own_gates d = λ bridge earlier row x. within_gate d earlier row x

-- no gates: each frame of a row passes
abbrev pub no_gates : InnerGates
no_gates = λ bridge earlier row x. true

-- how many octets of a row's frames at a hop number pass a bridge in a cycle, any number if there is no limit
abbrev pub InnerLimits : Type 0
InnerLimits = ℕ → Row → ℕ → ℕ → Option ℕ

-- gates that count the octets of each cycle up to these limits; of each frame they count what the streams' own gates count
abbrev pub counting_gates : Domain → InnerLimits → InnerGates
counting_gates d limit = λ bridge earlier row x. within (limit bridge row (hop_number_after row (came_by x.ingress)) (cycle_of d x.at))
    (octets_before d row.no (cycle_of d x.at) earlier + counted_of d.overhead x.octets)

-- no limit is below what the stream reserves
abbrev pub HaveRoom : InnerLimits → Type 0
HaveRoom limit = (bridge : ℕ) (row : Row) (hop_number cycle most : ℕ) → limit bridge row hop_number cycle ≡ Some most → reserved_in row hop_number cycle ≤ most

-- ---- a network with them

-- whether a frame passes: at the edge the stream's own gate, after a link the inner gate
abbrev pub passes_by : Domain → InnerGates → ℕ → List Policed → Received → Ingress → (Row → Bool)
passes_by d gates bridge earlier x (AtEdge name) = λ row. within_gate d earlier row x
passes_by d gates bridge earlier x (Relayed m number) = λ row. gates bridge earlier row x

-- a frame with its verdict, after the earlier frames
abbrev pub police_by : Domain → InnerGates → List (List Row) → ℕ → List Policed → Received → Policed
police_by d gates tables bridge earlier x = let cycle = cycle_of d x.at in
    record { received = x; verdict = verdict_by d (table_of tables cycle) bridge cycle (passes_by d gates bridge earlier x x.ingress) x.ingress }

-- the frames one after the other, each with its verdict after those before it
abbrev pub police_all_by : Domain → InnerGates → List (List Row) → ℕ → List Policed → List Received → List Policed
police_all_by d gates tables bridge earlier [] = []
police_all_by d gates tables bridge earlier (x ∷ xs) =
    police_by d gates tables bridge earlier x ∷ police_all_by d gates tables bridge (earlier ++ police_by d gates tables bridge earlier x ∷ []) xs

-- all that arrives at a bridge before an instant, with its verdicts
abbrev pub policed_by : Run → InnerGates → Carried → ℕ → ℕ → List Policed
policed_by run gates carried bridge end = police_all_by run.domain gates run.tables bridge [] (received_before run carried bridge end)

-- the streams' frames that are queued to a port in a cycle
abbrev pub queued_by_gates : Run → InnerGates → Carried → ℕ → ℕ → List QueuedFrame
queued_by_gates run gates carried l cycle = filter (λ (x : QueuedFrame). cycle_of run.domain x.arrival.at.0 == cycle)
    (queued_to run.domain l (policed_by run gates carried (bridge_of run.domain l) ((cycle + 1) * run.domain.cycle_time)))

-- what arrives at a port in a cycle, and in the first cycles
abbrev pub comes_in_by : Run → InnerGates → Carried → ℕ → ℕ → List QueuedFrame
comes_in_by run gates carried l cycle = backed_in run.domain run.background l cycle ++ queued_by_gates run gates carried l cycle

abbrev pub comes_before_by : Run → InnerGates → Carried → ℕ → ℕ → List QueuedFrame
comes_before_by run gates carried l cycles = each_below (comes_in_by run gates carried l) cycles

-- each link sends what its compiled gate list demands, given what is heard of the other links, what is offered, and its background frames,
-- up to the end of the run. A link that the domain doesn't have sends nothing
pub record IsNetworkWith (run : Run) (gates : InnerGates) (net : Network) (heard : Carried) : Type 0 where
  pub sends : (l : ℕ) → l < length run.domain.links →
      Sends run.domain (compiled_lists run.domain l) (end_of_run run) l (comes_before_by run gates heard l (length run.tables)) (net.carried l) (net.backed l)
  pub no_others : (l : ℕ) → length run.domain.links ≤ l → (net.carried l ≡ []) × (net.backed l ≡ [])

-- the book of such a network in which all nodes have the same clock and each link has its stated delay
pub record IsBookWith (run : Run) (gates : InnerGates) (book : Contents) : Type 0 where
  pub net : Network
  pub legal : IsNetworkWith run gates net net.carried
  pub are_starts : book.starts ≡ starts_of run.domain (length run.tables) net.carried
  pub are_background : book.background ≡ background_of run.domain (length run.tables) net.backed
  pub are_drops : book.drops ≡ drops_of run.domain (length run.tables) (length run.offers)
      (λ bridge. policed_by run gates net.carried bridge (end_of_run run))

-- such a network in which clocks differ and delays vary
pub record IsLooseNetworkWith (run : Run) (slack : Slack) (gates : InnerGates) (net : Network) (heard : Carried) : Type 0 where
  pub goes : IsNetworkWith run gates net heard
  pub noted : ℕ → Sent → Sent
  pub are : (l : ℕ) → heard l ≡ map (noted l) (net.carried l)
  pub each : (l : ℕ) (sent : Sent) → l < length run.domain.links → Contains (net.carried l) sent → ComesWithin run.domain slack l sent (noted l sent)
