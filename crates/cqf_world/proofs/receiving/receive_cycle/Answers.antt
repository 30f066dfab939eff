use Rattle.cqf_world.proofs.Posting.{memory_so, received_so, run_so}
use Rattle.cqf_world.proofs.receiving.receive_cycle.Goals as goal

pub receive-requires : goal.receive-requires
receive-requires c = record {
  offers = run_so c.args.bridge_driven.now c.args.table.now _ _ c.args.bridge_driven.now.bridge c.requires.may
      c.as_slice.ensures.value c.offers-offers.ensures;
}

pub returns-in-Ok-clause-ok : goal.returns-in-Ok-clause-ok
returns-in-Ok-clause-ok c =
    received_so c.args.bridge_driven.now c.args.table.now _ _ c.receive.new.self c.requires.may c.as_slice.ensures.value c.offers-offers.ensures
    c.in-Ok.drops.items
    c.in-Ok.ensures.receives

pub unreachable-requires : goal.unreachable-requires
unreachable-requires c =
    c.in_default.not-Memory (memory_so c.args.bridge_driven.now c.args.table.now _ _ c.receive.new.self c.requires.may c.as_slice.ensures.value
    c.offers-offers.ensures
    c.in-Err.fault c.in-Err.ensures.fault)
