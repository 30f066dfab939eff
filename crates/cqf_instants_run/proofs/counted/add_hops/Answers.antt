use Rattle.std.proofs.Common.{◌+◌, ◌<◌, None, arith, get_or}
use Rattle.std.proofs.lemmas.List.{get_or_default}
use Rattle.cqf_model.specs.declared.topology.Hop.{Hop}
use Rattle.cqf_instants_run.proofs.Adding.{hop_more, room_for_hop, width_for_hop}
use Rattle.cqf_instants_run.proofs.counted.add_hops.Goals as goal

pub add_hop-requires-clause-width : goal.add_hop-requires-clause-width
add_hop-requires-clause-width c in_run =
    let hops = c.args.hops.now in
    let i = c.loop-hop.hop-index in
    let none : Hop = record { link = 0; hop_number = 0; from = None } in
    let short : c.from.result < 256 = omega arith in
    width_for_hop c.args.cycles c.args.columns.now.items c.loop-hop.columns.items hops c.args.cycle.0 c.args.octets i (get_or hops i none) c.from.result
    c.loop-hop-test.true (get_or_default hops i none (get_or hops i none) c.loop-hop-test.true) c.from.ensures c.loop-hop.invariant
    (c.args.cycle.0 + c.from.result + 1) (c.requires.width c.from.result short in_run)

pub add_hop-requires-clause-room : goal.add_hop-requires-clause-room
add_hop-requires-clause-room c =
    let hops = c.args.hops.now in
    let i = c.loop-hop.hop-index in
    let none : Hop = record { link = 0; hop_number = 0; from = None } in
    room_for_hop c.args.cycles c.args.columns.now.items c.loop-hop.columns.items hops c.args.cycle.0 c.args.octets i (get_or hops i none) c.from.result
    c.loop-hop-test.true (get_or_default hops i none (get_or hops i none) c.loop-hop-test.true) c.from.ensures c.loop-hop.invariant c.requires.room

pub loop-hop-preserved : goal.loop-hop-preserved
loop-hop-preserved c =
    let hops = c.args.hops.now in
    let i = c.loop-hop.hop-index in
    let none : Hop = record { link = 0; hop_number = 0; from = None } in
    hop_more c.args.cycles c.args.columns.now.items c.loop-hop.columns.items hops c.args.cycle.0 c.args.octets i (get_or hops i none) c.from.result
    c.loop-hop-test.true (get_or_default hops i none (get_or hops i none) c.loop-hop-test.true) c.from.ensures c.loop-hop.invariant
    c.add_hop.new.columns.items c.add_hop.ensures
