-- A stable sort puts drops, and starts, into the order of a book.
use Rattle.std.proofs.Common.{ℕ, ◌≡◌, List, refl}
use Rattle.std.specs.List.{All}
use Rattle.std.proofs.lemmas.List.Elements.{All-weaker}
use Rattle.cqf_model.specs.declared.frames.Dropped.{Dropped}
use Rattle.cqf_model.specs.declared.frames.Reason.TheVariants.{Unknown}
use Rattle.cqf_model.specs.declared.frames.Started.{Started}
use Rattle.cqf_book.specs.BookOrder.{IsDropBelow, IsStartBelow, in_book_order, starts_in_book_order}
use Rattle.cqf_book.proofs.ThreeKeys.{SortsByThree, IsBelow, sorted_by_three}

-- a drop's keys: its cycle
abbrev pub cycle_of_drop : Dropped → ℕ
cycle_of_drop drop = drop.cycle.0

-- its bridge
abbrev pub bridge_of_drop : Dropped → ℕ
bridge_of_drop drop = drop.bridge

-- and its frame
abbrev pub frame_of_drop : Dropped → ℕ
frame_of_drop drop = drop.frame

-- a drop with any three keys
abbrev some_drop : ℕ → ℕ → ℕ → Dropped
some_drop cycle bridge frame = record { cycle = record { 0 = cycle }; bridge = bridge; frame = frame; octets = 0; reason = Unknown }

-- sorted by cycle, bridge and frame
pub sorted_drops : (before after : List Dropped) → SortsByThree cycle_of_drop bridge_of_drop frame_of_drop before after
    → (cycles bridges frames : ℕ) → All (IsDropBelow cycles bridges frames) before → after ≡ in_book_order cycles bridges frames before
sorted_drops before after sorts cycles bridges frames below =
    sorted_by_three cycle_of_drop bridge_of_drop frame_of_drop some_drop (λ a b c. refl) (λ a b c. refl) (λ a b c. refl)
    before after sorts cycles bridges frames
    (All-weaker (IsDropBelow cycles bridges frames) (IsBelow cycle_of_drop bridge_of_drop frame_of_drop cycles bridges frames)
    (λ x b. record { of_first = b.cycle; of_second = b.bridge; of_third = b.frame }) before below)

-- a start's keys: its cycle
abbrev pub cycle_of_start : Started → ℕ
cycle_of_start start = start.cycle.0

-- its link
abbrev pub link_of_start : Started → ℕ
link_of_start start = start.link

-- and its instant
abbrev pub instant_of_start : Started → ℕ
instant_of_start start = start.start.0

-- a start with any three keys
abbrev some_start : ℕ → ℕ → ℕ → Started
some_start cycle link instant = record { cycle = record { 0 = cycle }; link = link; frame = 0; octets = 0; start = record { 0 = instant } }

-- sorted by cycle, link and instant
pub sorted_starts : (before after : List Started) → SortsByThree cycle_of_start link_of_start instant_of_start before after
    → (cycles links instants : ℕ) → All (IsStartBelow cycles links instants) before → after ≡ starts_in_book_order cycles links instants before
sorted_starts before after sorts cycles links instants below =
    sorted_by_three cycle_of_start link_of_start instant_of_start some_start (λ a b c. refl) (λ a b c. refl) (λ a b c. refl)
    before after sorts cycles links instants
    (All-weaker (IsStartBelow cycles links instants) (IsBelow cycle_of_start link_of_start instant_of_start cycles links instants)
    (λ x b. record { of_first = b.cycle; of_second = b.link; of_third = b.instant }) before below)
