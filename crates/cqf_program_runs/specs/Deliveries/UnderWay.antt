-- The frames under way: what is kept of them while a pass returns the starts of a run.
use Rattle.std.specs.Prelude.{ℕ, ◌≡◌, ◌≢◌, ◌+◌, ◌^◌, ◌≤◌, ◌<◌, ◌++◌, ◌==◌, All, Contains, List, [], ◌∷◌, Option, Some, None}
use Rattle.std.specs.Prelude.{drop, length, map, position, slice_get, slice_index_or}
use Rattle.std.specs.Global.{Global}
use Rattle.std.specs.Option.{option_and_then, option_or}
use Rattle.std.specs.declared.vec.Vec.{Vec}
use Rattle.cqf_units.specs.Timing.{cycle_at}
use Rattle.cqf_units.specs.declared.timing.Nanos.{Nanos}
use Rattle.cqf_instants.specs.Meaning.{Given as GivenRun}
use Rattle.cqf_instants.specs.Progress.{IsBasisOf}
use Rattle.cqf_instants.specs.declared.basis.Basis.{Basis}
use Rattle.cqf_instants_run.specs.declared.judged.EdgeVerdict.{EdgeVerdict}
use Rattle.cqf_instants_run.specs.declared.judged.EdgeVerdict.TheVariants.{Covered, Dropped}
use Rattle.cqf_model.specs.declared.frames.Offer.{Offer}
use Rattle.cqf_model.specs.declared.frames.Started.{Started}
use Rattle.cqf_model.specs.declared.topology.Hop.{Hop}
use Rattle.cqf_model.specs.declared.topology.Row.{Row}
use Rattle.cqf_model.specs.Book.{starts_of}
use Rattle.cqf_model.specs.Domain.{Domain}
use Rattle.cqf_model.specs.Table.{residence}
use Rattle.cqf_laws_timing.specs.Latency.{whole_of}
use Rattle.cqf_program_plans.specs.Latency.Text.{listeners_of}
use Rattle.cqf_program_runs.specs.declared.deliveries.under_way.UnderWay.{UnderWay}
use Rattle.cqf_program_runs.specs.Deliveries.{whole_on}

-- a start's frame is whole at an instant that fits in 64 bits
abbrev pub IsInTime : Domain → Started → Type 0
IsInTime d s = whole_of d s < 2 ^ 64

-- the index, among a row's listeners, of the listener at the end of a link
abbrev pub column_of : Domain → Row → ℕ → Option ℕ
column_of d row link = position (λ (hop : Hop). hop.link == link) (listeners_of d row)

-- when a frame of a row is whole at the end of a link, by what is kept of it
abbrev pub whole_in : Domain → Row → List (Option Nanos) → ℕ → Option Nanos
whole_in d row slot link = option_and_then (λ (column : ℕ). slice_index_or slot column None) (column_of d row link)

-- the row by which an offer with this verdict goes on, and that of the offer at an index
abbrev pub row_judged : List Row → EdgeVerdict → Option Row
row_judged rows (Covered index) = slice_get rows index
row_judged rows (Dropped reason) = None

abbrev pub row_at : List Row → List EdgeVerdict → ℕ → Option Row
row_at rows edge_verdicts index = option_and_then (row_judged rows) (slice_get edge_verdicts index)

-- what is kept of each frame
abbrev pub slots_of : List (Vec (Option Nanos) Global) → List (List (Option Nanos))
slots_of slots = map (λ (slot : Vec (Option Nanos) Global). slot.items) slots

-- what is kept of a frame of a row says when it is whole at each of the row's listeners
abbrev pub WritesWhole : Domain → Option Row → List (Option Nanos) → (ℕ → Option Nanos) → Type 0
WritesWhole d found slot whole = (row : Row) (link column : ℕ) → found ≡ Some row → column_of d row link ≡ Some column →
    slice_index_or slot column None ≡ whole link

-- no row has more than `width` listeners
abbrev pub HaveListeners : Domain → List Row → ℕ → Type 0
HaveListeners d rows width = (row : Row) → Contains rows row → length (listeners_of d row) ≤ width

-- slots of one width, with room for each row, say by the given starts when the frames of the offers from index `index`
-- on are whole
pub record AreSlots (d : Domain) (rows : List Row) (edge_verdicts : List EdgeVerdict) (starts : List Started) (index width : ℕ)
    (slots : List (List (Option Nanos))) : Type 0 where
  pub room : HaveListeners d rows width
  pub wide : (following : ℕ) → following < length slots → length (slice_index_or slots following []) ≡ width
  pub write : (following : ℕ) → following < length slots →
      WritesWhole d (row_at rows edge_verdicts (index + following)) (slice_index_or slots following []) (whole_on d starts (index + following + 1))

-- an instant is kept in a column if none is kept there yet
pub record KeepsFirst (before after : List (Option Nanos)) (column : ℕ) (whole : Nanos) : Type 0 where
  pub as_many : length after ≡ length before
  pub own : column < length before → slice_index_or after column None ≡ option_or (slice_index_or before column None) (Some whole)
  pub others : (other : ℕ) → other ≢ column → slice_index_or after other None ≡ slice_index_or before other None

-- the same, in the slot at an index
pub record KeepsInSlot (before after : List (List (Option Nanos))) (following column : ℕ) (whole : Nanos) : Type 0 where
  pub as_many : length after ≡ length before
  pub own : KeepsFirst (slice_index_or before following []) (slice_index_or after following []) column whole
  pub others : (other : ℕ) → other ≢ following → slice_index_or after other [] ≡ slice_index_or before other []

-- the starts `more` are noted after any earlier starts
pub record NotesAll (d : Domain) (rows : List Row) (edge_verdicts : List EdgeVerdict) (index : ℕ) (more : List Started)
    (before after : List (List (Option Nanos))) : Type 0 where
  pub as_many : length after ≡ length before
  pub noted : (starts : List Started) (width : ℕ) → AreSlots d rows edge_verdicts starts index width before →
      AreSlots d rows edge_verdicts (starts ++ more) index width after

-- the starts of a run's first cycles
abbrev pub starts_written : GivenRun → ℕ → List Started
starts_written given cycles = starts_of given.run.domain cycles given.net.carried

-- all starts that a pass returns are in time
pub record WritesInTime (d : Domain) (basis : Basis) : Type 0 where
  pub given : GivenRun
  pub is : IsBasisOf given basis
  pub in_time : All (IsInTime d) (starts_written given basis.cycles)

-- the starts that the pass has returned are noted, for each run to which the pass belongs
abbrev pub NotesWritten : Domain → List Row → List EdgeVerdict → ℕ → UnderWay → UnderWay → Type 0
NotesWritten d rows edge_verdicts index old new = (given : GivenRun) (width : ℕ) → IsBasisOf given old.pass.basis →
    AreSlots d rows edge_verdicts (starts_written given old.pass.reported) index width (slots_of old.slots.items) →
    AreSlots d rows edge_verdicts (starts_written given new.pass.reported) index width (slots_of new.slots.items)

-- the starts of the cycles up to `last` are returned
pub record WritesUpTo (d : Domain) (rows : List Row) (edge_verdicts : List EdgeVerdict) (index last : ℕ) (old new : UnderWay) : Type 0 where
  pub basis : new.pass.basis ≡ old.pass.basis
  pub hop_number : new.hop_number ≡ old.hop_number
  pub as_many : length new.slots.items ≡ length old.slots.items
  pub counted : new.reported ≡ new.pass.reported
  pub within : old.reported ≤ old.pass.basis.cycles → new.reported ≤ old.pass.basis.cycles
  pub no_more : (most : ℕ) → old.reported ≤ most → last < most → new.reported ≤ most
  pub all : (cycle : ℕ) → cycle ≤ last → cycle < old.pass.basis.cycles → cycle < new.reported
  pub noted : NotesWritten d rows edge_verdicts index old new

-- the first slot is emptied and becomes the last
pub record GoesOn (old new : UnderWay) : Type 0 where
  pub pass : new.pass ≡ old.pass
  pub reported : new.reported ≡ old.reported
  pub hop_number : new.hop_number ≡ old.hop_number
  pub as_many : length new.slots.items ≡ length old.slots.items
  pub emptied : List (Option Nanos)
  pub as_wide : length emptied ≡ length (slice_index_or (slots_of old.slots.items) 0 [])
  pub none : (column : ℕ) → slice_index_or emptied column None ≡ None
  pub slots : slots_of new.slots.items ≡ drop 1 (slots_of old.slots.items) ++ emptied ∷ []

-- if one offer comes `frames` positions after another, its cycle is at least `hop_number` cycles after the other's
abbrev pub IsWideFor : ℕ → ℕ → List Offer → ℕ → Type 0
IsWideFor cycle_time hop_number offers frames = (index : ℕ) (early late : Offer) → slice_get offers index ≡ Some early →
    slice_get offers (index + frames) ≡ Some late → cycle_at cycle_time early.at.0 + hop_number ≤ cycle_at cycle_time late.at.0

-- no frame of a row is under way for more than `hop_number` cycles
abbrev pub HopNumbersAreWithin : List Row → ℕ → Type 0
HopNumbersAreWithin rows hop_number = (row : Row) → Contains rows row → residence row ≤ hop_number

-- `many` slots in which nothing is kept
pub record AreEmptySlots (width many : ℕ) (slots : List (List (Option Nanos))) : Type 0 where
  pub count : length slots ≡ many
  pub wide : (following : ℕ) → following < many → length (slice_index_or slots following []) ≡ width
  pub none : (following column : ℕ) → slice_index_or (slice_index_or slots following []) column None ≡ None

-- no start is returned yet, and there is room for all that will be kept
pub record IsLaid (d : Domain) (rows : List Row) (offers : List Offer) (under_way : UnderWay) : Type 0 where
  pub width : ℕ
  pub fresh : under_way.reported ≡ 0
  pub hop_numbers : HopNumbersAreWithin rows under_way.hop_number
  pub room : HaveListeners d rows width
  pub some : 0 < length under_way.slots.items
  pub enough : IsWideFor d.cycle_time under_way.hop_number offers (length under_way.slots.items)
  pub empty : AreEmptySlots width (length under_way.slots.items) (slots_of under_way.slots.items)
