-- A bridge's part of a run's offers and background frames.
use Rattle.std.specs.Prelude.{ℕ, ◌==◌, Bool}
use Rattle.cqf_model.specs.declared.frames.Backed.{Backed}
use Rattle.cqf_model.specs.declared.frames.Offered.{Offered}
use Rattle.cqf_model.specs.Domain.{Domain, leaves}

-- an offer is at the bridge
abbrev pub is_offered_to : ℕ → Offered → Bool
is_offered_to bridge x = x.offer.bridge == bridge

-- a background frame is for a link that leaves the bridge
abbrev pub is_backed_from : Domain → ℕ → Backed → Bool
is_backed_from d bridge x = leaves d x.background.link bridge
