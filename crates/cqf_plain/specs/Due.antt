-- The next starts of the bridges' ports, and cycles in which nothing happens.
use Rattle.std.specs.Prelude.{ℕ, ◌≡◌, ◌≤◌, ◌⊎◌, List, [], Contains, IsSome}
use Rattle.std.specs.BTreeMap.{is_at}
use Rattle.std.specs.List.{flat_map}
use Rattle.std.specs.Map.{lookup}
use Rattle.std.specs.Ordering.{nat_cmp, ordering_then}
use Rattle.std.specs.declared.cmp.Ordering.{Ordering}
use Rattle.cqf_units.specs.declared.timing.Nanos.{Nanos}
use Rattle.cqf_port.specs.NextStart.{StartsNext, StartsNoMore}
use Rattle.cqf_bridge.specs.PortRecord.{PortRecord}
use Rattle.cqf_bridge.specs.Quiet.{passed}
use Rattle.cqf_agenda.specs.Agenda.{background_at, offers_listed_at}
use Rattle.cqf_plain.specs.declared.driven.RunBridge.{RunBridge}

-- an instant, and the link on which a frame starts then
abbrev pub Moment : Type 0
Moment = Nanos × ℕ

-- moments are ordered by instant, then link
abbrev pub by_moment : Moment → Moment → Ordering
by_moment a b = ordering_then (nat_cmp a.0.0 b.0.0) (nat_cmp a.1 b.1)

-- the entries of a map from moments to numbers
abbrev pub Moments : Type 0
Moments = List (Moment × ℕ)

-- a moment is one of them
abbrev pub IsAmong : Moments → Moment → Type 0
IsAmong due k = IsSome (lookup (is_at (by_moment k)) due)

-- the next start of a port is one of them, or there would be no start
abbrev pub IsNoted : Moments → PortRecord → Type 0
IsNoted due r = StartsNoMore r.port ⊎ ((t : Nanos) × StartsNext r.port t.0 × IsAmong due (t, r.link))

-- moments are exactly the next starts of these ports
pub record AreNextStarts (due : Moments) (ports : List PortRecord) : Type 0 where
  pub noted : (r : PortRecord) → Contains ports r → IsNoted due r
  pub only : (k : Moment) → IsAmong due k → (r : PortRecord) × Contains ports r × StartsNext r.port k.0.0 × (k.1 ≡ r.link)

-- none of them is before an instant
abbrev pub NoneBefore : ℕ → Moments → Type 0
NoneBefore end due = (k : Moment) → IsAmong due k → end ≤ k.0.0

-- the ports of all bridges
abbrev pub ports_of : List RunBridge → List PortRecord
ports_of bridges = flat_map (λ (s : RunBridge). s.bridge.ports) bridges

-- the run has neither offers nor background frames for a bridge in a cycle
pub record HasNothing (cycle : ℕ) (s : RunBridge) : Type 0 where
  pub no_offers : offers_listed_at s.agenda cycle ≡ []
  pub no_background : background_at s.agenda cycle ≡ []

-- the run has neither offers nor background frames for any of the bridges in a cycle
abbrev pub NothingComes : ℕ → List RunBridge → Type 0
NothingComes cycle bridges = (s : RunBridge) → Contains bridges s → HasNothing cycle s

-- a bridge that has passed over a cycle
abbrev pub driven_past : ℕ → RunBridge → RunBridge
driven_past cycle s = record s { bridge = passed cycle s.bridge }
