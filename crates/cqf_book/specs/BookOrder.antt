-- The order of a book's drops and starts.
use Rattle.std.specs.Prelude.{ℕ, ◌<◌, ◌==◌, ◌&&◌, Bool, List, filter}
use Rattle.cqf_model.specs.declared.frames.Dropped.{Dropped}
use Rattle.cqf_model.specs.declared.frames.Started.{Started}
use Rattle.cqf_lists.specs.Lists.{each_below}

-- the drop's cycle, bridge and frame are below these
pub record IsDropBelow (cycles bridges frames : ℕ) (drop : Dropped) : Type 0 where
  pub cycle : drop.cycle.0 < cycles
  pub bridge : drop.bridge < bridges
  pub frame : drop.frame < frames

-- the drop has this cycle, bridge and frame
abbrev pub is_drop_of : ℕ → ℕ → ℕ → Dropped → Bool
is_drop_of cycle bridge frame drop = (drop.cycle.0 == cycle) && ((drop.bridge == bridge) && (drop.frame == frame))

-- the drops for each cycle, bridge and frame below these bounds, in this order
abbrev pub in_book_order : ℕ → ℕ → ℕ → List Dropped → List Dropped
in_book_order cycles bridges frames drops =
    each_below (λ cycle. each_below (λ bridge. each_below (λ frame. filter (is_drop_of cycle bridge frame) drops) frames) bridges) cycles

-- the start's cycle, link and instant are below these
pub record IsStartBelow (cycles links instants : ℕ) (start : Started) : Type 0 where
  pub cycle : start.cycle.0 < cycles
  pub link : start.link < links
  pub instant : start.start.0 < instants

-- the start has this cycle, link and instant
abbrev pub is_start_of : ℕ → ℕ → ℕ → Started → Bool
is_start_of cycle link instant start = (start.cycle.0 == cycle) && ((start.link == link) && (start.start.0 == instant))

-- the starts for each cycle, link and instant below these bounds, in this order
abbrev pub starts_in_book_order : ℕ → ℕ → ℕ → List Started → List Started
starts_in_book_order cycles links instants starts =
    each_below (λ cycle. each_below (λ link. each_below (λ instant. filter (is_start_of cycle link instant) starts) instants) links) cycles
