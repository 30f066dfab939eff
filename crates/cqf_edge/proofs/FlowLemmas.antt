-- Streams at their edge bridges, one after the other.
use Rattle.std.proofs.Common.{◌≡◌, ◌∷◌, [], List, Option, refl}
use Rattle.cqf_edge.specs.declared.edge.Passage.{Passage}
use Rattle.cqf_edge.specs.EdgeFlows.{flows_at_edge}

-- none come of none
pub none_after : (passages : List (Option Passage)) → flows_at_edge passages [] ≡ []
none_after [] = refl
none_after (p ∷ passages) = refl
