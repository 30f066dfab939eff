-- The background frames of a run in order of instant.
use Rattle.std.specs.Prelude.{ℕ, ◌==◌, Bool, List, filter, nat_lt}
use Rattle.cqf_lists.specs.Lists.{each_below}
use Rattle.cqf_model.specs.declared.frames.Backed.{Backed}
use Rattle.cqf_model.specs.declared.frames.Background.{Background}
use Rattle.cqf_model.specs.Network.{numbered_background}

-- the background frame arrives before an instant
abbrev pub is_early : ℕ → Backed → Bool
is_early end x = nat_lt x.background.at.0 end

-- the background frame arrives at an instant
abbrev pub is_at : ℕ → Backed → Bool
is_at t x = x.background.at.0 == t

-- the background frames before an instant, by instant, then index
abbrev pub by_instant : List Background → ℕ → List Backed
by_instant background end = each_below (λ t. filter (is_at t) (numbered_background background)) end
