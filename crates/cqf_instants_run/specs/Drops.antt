-- The drops of some offers, by their verdicts.
use Rattle.std.specs.Prelude.{ℕ, ◌≡◌, ◌+◌, if◌then◌else◌, nat_lt, List, [], ◌∷◌, Option, Some, None, length, slice_get}
use Rattle.cqf_units.specs.Timing.{cycle_at}
use Rattle.cqf_model.specs.declared.frames.Background.{Background}
use Rattle.cqf_model.specs.declared.frames.Dropped.{Dropped}
use Rattle.cqf_model.specs.declared.frames.Offer.{Offer}
use Rattle.cqf_model.specs.declared.topology.Row.{Row}
use Rattle.cqf_model.specs.Book.{Contents}
use Rattle.cqf_model.specs.Domain.{Domain}
use Rattle.cqf_model.specs.History.{IsLegalHistory, Recorded}
use Rattle.cqf_model.specs.HistoryBook.{IsBookOfHistory}
use Rattle.cqf_model.specs.Run.{AreBackground}
use Rattle.cqf_instants_run.specs.declared.judged.EdgeVerdict.{EdgeVerdict}
use Rattle.cqf_instants_run.specs.declared.judged.EdgeVerdict.TheVariants as edge_verdict
use Rattle.cqf_instants_run.specs.Coverage.{AreJudged}

-- the drop of an offer in a cycle if its verdict is a drop
abbrev pub drop_judged : ℕ → ℕ → Offer → EdgeVerdict → Option Dropped
drop_judged cycle frame offer (edge_verdict.Covered row) = None
drop_judged cycle frame offer (edge_verdict.Dropped reason) =
    Some (record { cycle = record { 0 = cycle }; bridge = offer.bridge; frame = frame; octets = offer.octets; reason = reason })

-- the drop of an offer if its verdict is a drop and its cycle is one of the first `cycles` cycles, else none
abbrev pub drop_within : ℕ → ℕ → ℕ → Offer → EdgeVerdict → Option Dropped
drop_within cycle_time cycles frame offer judged = let cycle = cycle_at cycle_time offer.at.0 in
    if nat_lt cycle cycles then drop_judged cycle frame offer judged else None

-- an optional drop as a list
abbrev pub where_any : Option Dropped → List Dropped
where_any None = []
where_any (Some drop) = drop ∷ []

-- the drop of the offer at an index, with the verdict at the same index
abbrev pub drop_by_both : ℕ → ℕ → ℕ → Option Offer → Option EdgeVerdict → List Dropped
drop_by_both cycle_time cycles frame None judged = []
drop_by_both cycle_time cycles frame (Some offer) None = []
drop_by_both cycle_time cycles frame (Some offer) (Some judged) = where_any (drop_within cycle_time cycles frame offer judged)

abbrev pub drop_at : ℕ → ℕ → List Offer → List EdgeVerdict → ℕ → List Dropped
drop_at cycle_time cycles offers edge_verdicts index =
    drop_by_both cycle_time cycles (index + 1) (slice_get offers index) (slice_get edge_verdicts index)

-- the drops are those of each book of a history with these offers, for any background frames
abbrev pub AreDropsOfHistory : Domain → List Recorded → List Offer → ℕ → List Dropped → Type 0
AreDropsOfHistory d entries offers cycles drops =
    (background : List Background) (book : Contents) → AreBackground d background → IsBookOfHistory d entries offers background cycles book → drops ≡ book.drops

-- the drops are those of each legal history that judges the offers by these verdicts
abbrev pub AreDropsBy : Domain → List Offer → ℕ → List EdgeVerdict → List Dropped → Type 0
AreDropsBy d offers cycles edge_verdicts drops =
    (entries : List Recorded) (rows : List Row) → IsLegalHistory d entries →
    AreJudged d entries rows offers (length offers) edge_verdicts → AreDropsOfHistory d entries offers cycles drops
