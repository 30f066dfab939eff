-- The verdict on an offer, by the rows that were ever accepted and a counter for each row; offers are taken in the order of their
-- list.
use Rattle.cqf_units.specs.Timing.{counted_of}
use Rattle.cqf_model.specs.Table.{reserved_in}
use Rattle.std.specs.Prelude.{true, ℕ, ◌&&◌, ◌≡◌, ◌+◌, ◌-◌, ◌≤◌, ◌<◌, List, Option, Some, None, not, if◌then◌else◌}
use Rattle.std.specs.Prelude.{nat_le, AllPairs, Contains, slice_get, take}
use Rattle.cqf_model.specs.declared.frames.Background.{Background}
use Rattle.cqf_model.specs.declared.frames.Offer.{Offer}
use Rattle.cqf_model.specs.declared.frames.Offered.{Offered}
use Rattle.cqf_model.specs.declared.frames.Reason.TheVariants.{Unknown, Withdrawn, OtherBridge, Octets}
use Rattle.cqf_model.specs.declared.topology.Row.{Row}
use Rattle.cqf_model.specs.Book.{Contents}
use Rattle.cqf_model.specs.Domain.{Domain, IsAccepted}
use Rattle.cqf_model.specs.History.{IsLegalHistory, Recorded, seals, streams_of}
use Rattle.cqf_model.specs.HistoryBook.{IsBookOfHistory, run_of_history}
use Rattle.cqf_model.specs.Run.{AreBackground, AreOffers}
use Rattle.cqf_model.specs.Shift.{offer_cycle, offers_before, take_octets, taken_by}
use Rattle.cqf_model.specs.Table.{begins_at, is_held, is_live}
use Rattle.cqf_model.specs.Policing.{Verdict, Queued, DroppedFor, numbered}
use Rattle.cqf_model.specs.Promise.{IsDecided}
use Rattle.cqf_laws_coverage.specs.Counted.{IsCounted}
use Rattle.cqf_laws_coverage.specs.Rows.{as_of, row_in_force}

-- offers are in order of instant
abbrev pub StandInOrder : List Offer → Type 0
StandInOrder offers = AllPairs (λ (a b : Offer). a.at.0 ≤ b.at.0) offers

-- if offers are in order of instant, the offers before an offer are those that precede it in the list
abbrev pub OffersBeforeStandBefore : Type 0
OffersBeforeStandBefore = (offers : List Offer) (x : Offered) → StandInOrder offers → Contains (numbered offers) x →
    offers_before offers x ≡ take (x.frame - 1) (numbered offers)

-- what the offers that precede an offer have taken of a row in the offer's cycle
abbrev pub used_before : Domain → List Offer → Offered → Row → ℕ
used_before d offers x row = taken_by d row (offer_cycle d x) (take (x.frame - 1) (numbered offers))

-- one more offer is one more step
abbrev pub CountersGoOn : Type 0
CountersGoOn = (d : Domain) (row : Row) (cycle index : ℕ) (offers : List Offer) (x : Offered) → slice_get (numbered offers) index ≡ Some x →
    taken_by d row cycle (take (index + 1) (numbered offers)) ≡ take_octets d row cycle (taken_by d row cycle (take index (numbered offers))) x

-- before the first offer of a cycle nothing is taken in it
abbrev pub CountersBegin : Type 0
CountersBegin = (d : Domain) (row : Row) (cycle index : ℕ) (offers : List Offer) →
    ((y : Offered) → Contains (take index (numbered offers)) y → offer_cycle d y < cycle) → taken_by d row cycle (take index (numbered offers)) ≡ 0

-- an offer's step for the row in force: if the row's tree begins at the offer's bridge, and at least the offer's octets are left,
-- they are used
abbrev pub CounterOfTheRow : Type 0
CounterOfTheRow = (d : Domain) (entries : List Recorded) (x : Offered) (row : Row) (used : ℕ) →
    row_in_force d entries (offer_cycle d x) x.offer.stream ≡ Some row →
    take_octets d row (offer_cycle d x) used x
    ≡ (if begins_at d row x.offer.bridge && nat_le (used + counted_of d.overhead x.offer.octets) (reserved_in row 0 (offer_cycle d x))
    then used + counted_of d.overhead x.offer.octets
    else used)

-- an offer uses nothing of each other row that is held in the offer's cycle
abbrev pub CountersOfOthers : Type 0
CountersOfOthers = (d : Domain) (entries : List Recorded) (x : Offered) (other : Row) (used : ℕ) → IsLegalHistory d entries →
    offer_cycle d x < seals entries → Contains (streams_of d entries) other → is_held other (offer_cycle d x) ≡ true →
    (row_in_force d entries (offer_cycle d x) x.offer.stream ≡ Some other → ⊥) → take_octets d other (offer_cycle d x) used x ≡ used

-- the verdict on an offer by the row in force, and by what is used of it so far: the code's four tests
abbrev pub judged_by : Domain → ℕ → (Row → ℕ) → Offered → Option Row → Verdict
judged_by d cycle used x None = DroppedFor Unknown
judged_by d cycle used x (Some row) =
    if not (is_live row cycle) then DroppedFor Withdrawn
    else (if not (begins_at d row x.offer.bridge) then DroppedFor OtherBridge
    else (if not (nat_le (used row + counted_of d.overhead x.offer.octets) (reserved_in row 0 cycle)) then DroppedFor Octets
    else Queued (as_of cycle row)))

abbrev pub judged_of : Domain → List Recorded → List Offer → Offered → Verdict
judged_of d entries offers x =
    judged_by d (offer_cycle d x) (used_before d offers x) x (row_in_force d entries (offer_cycle d x) x.offer.stream)

-- the verdict on an offer by the row in force is what the definitions say
abbrev pub OffersAreJudged : Type 0
OffersAreJudged =
    (d : Domain) (entries : List Recorded) (offers : List Offer) (background : List Background) (cycles : ℕ) (x : Offered) → cycles ≤ seals entries →
    StandInOrder offers → Contains (numbered offers) x → offer_cycle d x < cycles →
    IsDecided (run_of_history d entries offers background cycles) x (judged_of d entries offers x)

-- so a book's sums by link are those of the hops of the offers with these verdicts
abbrev pub ReportIsCounted : Type 0
ReportIsCounted =
    (d : Domain) (entries : List Recorded) (offers : List Offer) (background : List Background) (cycles : ℕ) (book : Contents) (link : ℕ) →
    IsAccepted d → IsLegalHistory d entries → AreOffers d offers → AreBackground d background → StandInOrder offers →
    IsBookOfHistory d entries offers background cycles book →
    IsCounted d cycles offers (judged_of d entries offers) book.starts link
