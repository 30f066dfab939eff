-- The starts and drops of streams' frames in a book, by frame.
use Rattle.std.specs.Prelude.{ℕ, ◌≡◌, ◌<◌, ◌-◌, ◌==◌, ◌&&◌, ◌++◌, ◌⊎◌, AllPairs, Bool, true, List, [], Option, Some, None, IsPermutation, bytes_eq, filter, map, slice_get}
use Rattle.std.specs.Option.{option_map_or}
use Rattle.cqf_model.specs.declared.frames.Offer.{Offer}
use Rattle.cqf_model.specs.Book.{Contents}
use Rattle.cqf_program_summary.specs.declared.hops.legs.Leg.{Leg}
use Rattle.cqf_program_summary.specs.declared.hops.legs.Leg.TheVariants as leg

-- all starts and drops of a book
abbrev pub legs_of_book : Contents → List Leg
legs_of_book book = map leg.Started book.starts ++ map leg.Dropped book.drops

-- the frame of a leg
abbrev pub frame_of : Leg → ℕ
frame_of (leg.Started started) = started.frame
frame_of (leg.Dropped dropped) = dropped.frame

-- the instant at which the frame starts, and its link; 0 for a dropped frame, which starts nowhere
abbrev pub instant_of : Leg → ℕ
instant_of (leg.Started started) = started.start.0
instant_of (leg.Dropped dropped) = 0

abbrev pub link_of : Leg → ℕ
link_of (leg.Started started) = started.link
link_of (leg.Dropped dropped) = 0

-- the name of the stream that a frame claims; a frame's number is that of its offer, from 1
abbrev pub stream_of : List Offer → ℕ → List ℕ
stream_of offers frame = option_map_or (λ (offer : Offer). offer.stream) (slice_get offers (frame - 1)) []

-- the wanted frames: those of a stream, if one is named; a single one, if its number is given
pub record Wanted : Type 0 where
  pub stream : Option (List ℕ)
  pub frame : Option ℕ

abbrev pub is_stream : Option (List ℕ) → List ℕ → Bool
is_stream None name = true
is_stream (Some stream) name = bytes_eq name stream

abbrev pub is_frame : Option ℕ → ℕ → Bool
is_frame None number = true
is_frame (Some frame) number = number == frame

abbrev pub is_wanted : List Offer → Wanted → ℕ → Bool
is_wanted offers wanted frame = is_frame wanted.frame frame && is_stream wanted.stream (stream_of offers frame)

-- the wanted starts and drops
abbrev pub wanted_legs : List Offer → Wanted → Contents → List Leg
wanted_legs offers wanted book = filter (λ (x : Leg). is_wanted offers wanted (frame_of x)) (legs_of_book book)

-- a leg is before another: of an earlier frame; or of the same frame at an earlier instant; or also at the same
-- instant, on a link with a lower number
abbrev pub IsBefore : Leg → Leg → Type 0
IsBefore a b = (frame_of a < frame_of b)
    ⊎ ((frame_of a ≡ frame_of b) × ((instant_of a < instant_of b) ⊎ ((instant_of a ≡ instant_of b) × (link_of a < link_of b))))

-- two legs aren't of the same frame at the same instant on the same link
abbrev pub AreApart : Leg → Leg → Type 0
AreApart a b = frame_of a ≡ frame_of b → instant_of a ≡ instant_of b → link_of a ≡ link_of b → ⊥

-- the same legs by frame, then instant, then link: of any two, the earlier in the list is before the later
pub record AreByFrame (legs sorted : List Leg) : Type 0 where
  pub same : IsPermutation legs sorted
  pub in_order : AllPairs IsBefore sorted
