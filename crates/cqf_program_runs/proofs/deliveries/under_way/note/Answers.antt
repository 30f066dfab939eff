use Rattle.std.proofs.Common.{◌≡◌, ◌∙◌, ◌+◌, ◌-◌, List, Option, Some, ap, arith, subst, sym}
use Rattle.std.proofs.lemmas.Bool.{false≢true}
use Rattle.std.proofs.lemmas.List.{length-map}
use Rattle.std.specs.Global.{Global}
use Rattle.std.specs.Option.{option_and_then}
use Rattle.std.specs.declared.vec.Vec.{Vec}
use Rattle.cqf_units.specs.declared.timing.Nanos.{Nanos}
use Rattle.cqf_model.specs.declared.topology.Row.{Row}
use Rattle.cqf_program_runs.specs.Deliveries.UnderWay.{KeepsInSlot, column_of, row_at, slots_of}
use Rattle.cqf_program_runs.proofs.KeptSlots.{column_found, column_of_station, noted_there, passed_over, station_there}
use Rattle.cqf_program_runs.proofs.deliveries.under_way.note.Goals as goal

pub returns-then-frame-index : goal.returns-then-frame-index
returns-then-frame-index c =
    let ended = c.args.ended.now in
    passed_over ended.domain.now ended.rows.now ended.edge_verdicts.now c.args.index c.args.start.now (slots_of c.args.slots.now.items)
    (λ following row column below found at own. absurd (omega (arith, c.if-frame-index.true, own)))

pub returns-then-not-ends_in_station : goal.returns-then-not-ends_in_station
returns-then-not-ends_in_station c =
    let ended = c.args.ended.now in
    passed_over ended.domain.now ended.rows.now ended.edge_verdicts.now c.args.index c.args.start.now (slots_of c.args.slots.now.items)
    (λ following row column below found at own.
    false≢true (sym c.if-not-ends_in_station.true ∙ c.ends_in_station.ensures ∙ column_of_station ended.domain.now row c.args.start.now.link column at))

pub returns-then-following-len : goal.returns-then-following-len
returns-then-following-len c =
    let ended = c.args.ended.now in
    let slots : List (Vec (Option Nanos) Global) = c.args.slots.now.items in
    passed_over ended.domain.now ended.rows.now ended.edge_verdicts.now c.args.index c.args.start.now (slots_of slots)
    (λ following row column below found at own.
    absurd (omega (
      arith,
      own,
      below,
      c.if-following-len.true,
      c.len.ensures,
      c.args.slots.now.ok.0,
      length-map slots (λ (slot : Vec (Option Nanos) Global). slot.items),
    )))

pub whole_of-requires-clause-link : goal.whole_of-requires-clause-link
whole_of-requires-clause-link c =
    station_there c.args.ended.now.domain.now c.args.start.now.link (sym c.ends_in_station.ensures ∙ c.if-not-ends_in_station.false)

pub returns-in-Some : goal.returns-in-Some
returns-in-Some c =
    let ended = c.args.ended.now in
    let d = ended.domain.now in
    let s = c.args.start.now in
    let index = c.args.index in
    let following = s.frame - 1 - index in
    let slots : List (Vec (Option Nanos) Global) = c.args.slots.now.items in
    let after = slots_of c.keep_in.new.slots.items in
    let found = column_found d (row_at ended.rows.now ended.edge_verdicts.now (s.frame - 1)) s.link c.in-Some.column (sym c.column_at.ensures ∙ c.in-Some.is) in
    let here : s.frame - 1 ≡ index + following = omega (arith, c.if-frame-index.false) in
    let own : s.frame ≡ index + following + 1 = omega (arith, c.if-frame-index.false) in
    noted_there d ended.rows.now ended.edge_verdicts.now index s (slots_of slots) after found.0 following c.in-Some.column own
    (omega (arith, c.if-following-len.false, c.len.ensures, c.args.slots.now.ok.0, length-map slots (λ (slot : Vec (Option Nanos) Global). slot.items)))
    (ap (row_at ended.rows.now ended.edge_verdicts.now) (sym here) ∙ found.1) found.2
    (subst (λ (whole : Nanos). KeepsInSlot (slots_of slots) after following c.in-Some.column whole) c.whole_of.ensures c.keep_in.ensures)

pub returns-in_default : goal.returns-in_default
returns-in_default c =
    let ended = c.args.ended.now in
    let d = ended.domain.now in
    let s = c.args.start.now in
    passed_over d ended.rows.now ended.edge_verdicts.now c.args.index s (slots_of c.args.slots.now.items)
    (λ following row column below found at own.
    let here : s.frame - 1 ≡ c.args.index + following = omega (arith, own) in
    let there : option_and_then (λ (r : Row). column_of d r s.link) (row_at ended.rows.now ended.edge_verdicts.now (s.frame - 1)) ≡ Some column =
    ap (λ (o : Option Row). option_and_then (λ (r : Row). column_of d r s.link) o) (ap (row_at ended.rows.now ended.edge_verdicts.now) here ∙ found) ∙ at in
    c.in_default.not-Some column (c.column_at.ensures ∙ there))
