use Rattle.std.specs.Prelude.{◌≡◌, ◌+◌, ◌≤◌, ◌++◌, length, map, take, vec_capacity, vec_len}
use Rattle.cqf_model.specs.Policing.{offer_received}
use Rattle.cqf_bridge.specs.Taking.{received_as}
use Rattle.cqf_bridge.proofs.gathering.gather_offers.Given as goal

-- the offers below the index follow the frames, and there is room for the others
abbrev pub invariant-loop-offered : goal.invariant-loop-offered
invariant-loop-offered l =
    (map received_as l.frames.items ≡ map received_as l.fn.frames.items ++ map offer_received (take l.offered-index l.offers))
    × (vec_len l.frames + length l.offers ≤ vec_capacity l.frames + l.offered-index)
