-- Streams that are placed, each with its outcome.
use Rattle.std.proofs.Common.{◌≡◌, All, List, [], ◌∷◌, None, ap, length, refl, subst, suc, sym, true}
use Rattle.std.specs.Prelude.{⊤}
use Rattle.std.proofs.lemmas.List.Elements.{All-cons, All-nil, All-tail, All-head}
use Rattle.cqf_model.specs.Domain.{Domain}
use Rattle.cqf_model.specs.History.{Asked, Recorded}
use Rattle.cqf_program_placing.specs.Placing.{ArePlacedFrom, BeginsEarly, IsPlacing, PlacedOr, Placed, Unplaced, reserved_on, active_cycles_on}
use Rattle.cqf_program_placing.specs.Settled.{IsPlaceable, SettledStream, is_paced}
use Rattle.cqf_program_placing.specs.ActiveCycles.{IsGoodEvery}
use Rattle.cqf_program_placing.proofs.Stepping.{active_cycles_good, every_is_good_in, first_is_early}
use Rattle.cqf_program_planning.specs.Judging.{first_unplaced, flow_of, flows_placed}
use Rattle.cqf_program_planning.specs.Steps.{AreTurned, IsTurned}
use Rattle.cqf_program_planning.proofs.AllPlaced.{IsGranted, granted_by}

-- a stream is placed with this request, after some entries
pub record IsPlacedSomewhere (d : Domain) (stream : SettledStream) (asked : Asked) : Type 0 where
  pub entries : List Recorded
  pub after : List Recorded
  pub placed : IsPlacing d entries stream (Placed asked) after

-- each of some streams has an outcome, and is placed so if it is placed
abbrev pub IsPlacedIf : Domain → SettledStream → PlacedOr → Type 0
IsPlacedIf d stream (Placed asked) = IsPlacedSomewhere d stream asked
IsPlacedIf d stream (Unplaced found) = ⊤

abbrev pub AreEachPlaced : Domain → List SettledStream → List PlacedOr → Type 0
AreEachPlaced d [] [] = Unit {0}
AreEachPlaced d [] (become ∷ more) = ⊥
AreEachPlaced d (stream ∷ streams) [] = ⊥
AreEachPlaced d (stream ∷ streams) (become ∷ more) = IsPlacedIf d stream become × AreEachPlaced d streams more

-- streams that are placed one after the other are
placed_if : (d : Domain) (entries after : List Recorded) (stream : SettledStream) (become : PlacedOr) → IsPlacing d entries stream become after →
    IsPlacedIf d stream become
placed_if d entries after stream (Placed asked) is = record { entries = entries; after = after; placed = is }
placed_if d entries after stream (Unplaced found) is = tt

pub each_placed : (d : Domain) (entries : List Recorded) (streams : List SettledStream) (outcomes : List PlacedOr) (end : List Recorded) →
    ArePlacedFrom d entries streams outcomes end → AreEachPlaced d streams outcomes
each_placed d entries [] [] end h = tt
each_placed d entries [] (become ∷ more) end h = absurd h
each_placed d entries (stream ∷ streams) [] end h = absurd h
each_placed d entries (stream ∷ streams) (become ∷ more) end h =
    (placed_if d entries h.0 stream become h.1, each_placed d h.0 streams more end h.2)

-- each has an outcome
pub length-placed : (d : Domain) (streams : List SettledStream) (outcomes : List PlacedOr) → AreEachPlaced d streams outcomes → length outcomes ≡ length streams
length-placed d [] [] h = refl
length-placed d [] (become ∷ more) h = absurd h
length-placed d (stream ∷ streams) [] h = absurd h
length-placed d (stream ∷ streams) (become ∷ more) h = ap (λ n. suc n) (length-placed d streams more h.1)

-- a stream that is placed is granted
pub granted_somewhere : (d : Domain) (stream : SettledStream) (asked : Asked) → (is : IsPlacedSomewhere d stream asked) →
    IsGranted d is.entries stream asked is.after
granted_somewhere d stream asked is = granted_by d is.entries stream (reserved_on d.overhead d.cycle_time d.sync stream) asked is.after refl is.placed

-- so it is offered early
one_early : (d : Domain) (stream : SettledStream) (become : PlacedOr) → is_paced stream.pacing ≡ true → IsPlacedIf d stream become → BeginsEarly become
one_early d stream (Unplaced found) paced is = tt
one_early d stream (Placed asked) paced is =
    first_is_early d.cycle_time stream.pacing stream.traffic asked.phase paced (granted_somewhere d stream asked is).phase

-- so is each
pub early_placed : (d other : Domain) (streams : List SettledStream) (outcomes : List PlacedOr) → All (IsPlaceable other) streams →
    AreEachPlaced d streams outcomes → All BeginsEarly outcomes
early_placed d other [] [] placeable h = All-nil BeginsEarly
early_placed d other [] (become ∷ more) placeable h = absurd h
early_placed d other (stream ∷ streams) [] placeable h = absurd h
early_placed d other (stream ∷ streams) (become ∷ more) placeable h =
    let first : IsPlaceable other stream = All-head (IsPlaceable other) stream streams placeable in
    All-cons BeginsEarly become more (one_early d stream become first.paced h.0)
    (early_placed d other streams more (All-tail (IsPlaceable other) stream streams placeable) h.1)

-- and it is offered in one of some cycles
one_turned : (d : Domain) (stream : SettledStream) (asked : Asked) → is_paced stream.pacing ≡ true → IsPlacedSomewhere d stream asked →
    IsTurned (flow_of d.cycle_time stream asked)
one_turned d stream asked paced is =
    let granted = granted_somewhere d stream asked is in
    let good : IsGoodEvery asked.every =
    subst IsGoodEvery (sym granted.every) (every_is_good_in (active_cycles_on d.cycle_time stream) (active_cycles_good d.cycle_time stream.pacing stream.traffic paced)) in
    record { some = good.some; few = good.few }

-- so is each, if all are placed
pub turned_placed : (d other : Domain) (streams : List SettledStream) (outcomes : List PlacedOr) → All (IsPlaceable other) streams →
    AreEachPlaced d streams outcomes → first_unplaced streams outcomes ≡ None → AreTurned streams (flows_placed d.cycle_time streams outcomes)
turned_placed d other [] [] placeable h none = record { each = refl; turned = All-nil IsTurned }
turned_placed d other [] (become ∷ more) placeable h none = absurd h
turned_placed d other (stream ∷ streams) [] placeable h none = absurd h
turned_placed d other (stream ∷ streams) (Placed asked ∷ more) placeable h none =
    let first : IsPlaceable other stream = All-head (IsPlaceable other) stream streams placeable in
    let rest = turned_placed d other streams more (All-tail (IsPlaceable other) stream streams placeable) h.1 none in
    record {
      each = ap (λ n. suc n) rest.each;
      turned = All-cons IsTurned (flow_of d.cycle_time stream asked) (flows_placed d.cycle_time streams more) (one_turned d stream asked first.paced h.0) rest.turned;
    }
turned_placed d other (stream ∷ streams) (Unplaced found ∷ more) placeable h none = absurd (cc)
