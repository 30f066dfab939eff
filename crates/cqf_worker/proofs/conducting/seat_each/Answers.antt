use Rattle.std.proofs.Common.{◌≡◌, ◌+◌, Global, Vec, arith, length}
use Rattle.std.specs.Vec.Iter.{into_iter_items}
use Rattle.cqf_admission.specs.declared.entries.Command.{Command}
use Rattle.cqf_worker.proofs.Seating.{all_seated, seats_left}
use Rattle.cqf_worker.proofs.conducting.seat_each.Goals as goal

-- there is a seat for each administrator
pub unreachable-requires : goal.unreachable-requires
unreachable-requires c =
    let left : length (into_iter_items c.loop-commands.left) ≡ length (into_iter_items c.loop-commands.commands-iterator) + 1 =
    seats_left (λ (v : Vec Command Global). v.items) c.loop-commands.administrators.items (into_iter_items c.loop-commands.left) c.args.seats.items
    c.loop-commands.yielded (into_iter_items c.loop-commands.commands-iterator) c.args.admins.items c.loop-commands.invariant.seats c.requires
    c.loop-commands.invariant.commands c.loop-commands.invariant.given in
    omega (arith, left, c.in_default.ensures.cases.0, c.loop-commands.left.rest.ok.0)

-- and one for the conductor
pub unreachable-requires-in_default-next : goal.unreachable-requires-in_default-next
unreachable-requires-in_default-next c =
    let left : length (into_iter_items c.loop-commands.left) ≡ length (into_iter_items c.loop-commands.commands-iterator) + 1 =
    seats_left (λ (v : Vec Command Global). v.items) c.loop-commands.administrators.items (into_iter_items c.loop-commands.left) c.args.seats.items
    c.loop-commands.yielded (into_iter_items c.loop-commands.commands-iterator) c.args.admins.items c.loop-commands.invariant.seats c.requires
    c.loop-commands.invariant.commands c.loop-commands.invariant.given in
    omega (arith, left, c.in_default-next.ensures.cases.0, c.loop-commands.left.rest.ok.0)

-- each has the seat of its number
pub returns-clause-ok : goal.returns-clause-ok
returns-clause-ok c =
    let none : length (into_iter_items c.loop-commands.commands-iterator) ≡ 0 =
    omega (arith, c.in-None.ensures.steps.0, c.loop-commands.commands-iterator.rest.ok.0) in
    all_seated (λ (v : Vec Command Global). v.items) c.loop-commands.administrators.items (into_iter_items c.loop-commands.left) c.args.seats.items
    (into_iter_items c.next-2.new.self) c.loop-commands.yielded (into_iter_items c.loop-commands.commands-iterator) c.args.admins.items
    c.in-Some-next-2.conductor c.loop-commands.invariant.seats c.requires c.loop-commands.invariant.commands c.loop-commands.invariant.given none
    c.in-Some-next-2.ensures.items
