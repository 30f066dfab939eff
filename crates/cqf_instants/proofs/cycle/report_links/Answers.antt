use Rattle.std.proofs.Common.{◌≡◌, ◌∙◌, ◌+◌, ◌<◌, [], List, ap, arith, length, subst, sym}
use Rattle.std.specs.Global.{Global}
use Rattle.std.specs.declared.vec.Vec.{Vec}
use Rattle.cqf_model.proofs.Represented.{few_links}
use Rattle.cqf_instants.specs.declared.queues.Waiting.{Waiting}
use Rattle.cqf_instants.specs.Queues.{cap_at, queue_at}
use Rattle.cqf_instants.proofs.Amounts.{queue_reported, queue_within, sums_rise}
use Rattle.cqf_instants.proofs.Idle.{sends_none}
use Rattle.cqf_instants.proofs.Sending.{all_inside, all_links, feeds_own, sends_more, space_more, whole_soon}
use Rattle.cqf_instants.proofs.cycle.report_links.Goals as goal

pub report_queue-requires-clause-hops : goal.report_queue-requires-clause-hops
report_queue-requires-clause-hops c w k =
    ((
    feeds_own c.requires.some.given c.args.branches.now c.loop-index.index c.args.cycle.number.0 c.args.now.now.items c.loop-index.now.items
    c.args.next.now.items c.loop-index.next.items c.args.starts.now.items c.loop-index.starts.items
    c.index_mut.result.now c.index_mut.result.now (c.loop-index.invariant.sends c.requires.some.given c.requires.some.can)
    (omega (arith, c.loop-index-test.true, (c.loop-index.invariant.sends c.requires.some.given c.requires.some.can).queues, c.requires.some.can.queues))
    c.index_mut.ensures.value
    (c.requires.some.can.feeds c.loop-index.index c.loop-index-test.true)).stands w k).hop

pub report_queue-requires-clause-inside : goal.report_queue-requires-clause-inside
report_queue-requires-clause-inside c = all_inside c.requires.some.given c.args.branches.now c.requires.some.can.are

pub report_queue-requires-clause-links : goal.report_queue-requires-clause-links
report_queue-requires-clause-links c =
    all_links c.requires.some.given c.args.branches.now (length c.loop-index.next.items) c.requires.some.can.are
    ((c.loop-index.invariant.sends c.requires.some.given c.requires.some.can).next_queues ∙ c.requires.some.can.next_queues
    ∙ sym (ap length c.requires.some.can.are_links))

pub report_queue-requires-clause-in_time : goal.report_queue-requires-clause-in_time
report_queue-requires-clause-in_time c sorted same rise =
    whole_soon c.requires.some.given c.loop-index.index c.args.cycle.number.0 sorted c.sender_at-sender.result c.requires.some.can.legal
    (omega (arith, c.loop-index-test.true, ap length c.requires.some.can.are_links))
    ((
    feeds_own c.requires.some.given c.args.branches.now c.loop-index.index c.args.cycle.number.0 c.args.now.now.items c.loop-index.now.items
    c.args.next.now.items c.loop-index.next.items c.args.starts.now.items c.loop-index.starts.items
    c.index_mut.result.now c.index_mut.result.now (c.loop-index.invariant.sends c.requires.some.given c.requires.some.can)
    (omega (arith, c.loop-index-test.true, (c.loop-index.invariant.sends c.requires.some.given c.requires.some.can).queues, c.requires.some.can.queues))
    c.index_mut.ensures.value
    (c.requires.some.can.feeds c.loop-index.index c.loop-index-test.true)).sends sorted same rise).in_time
    (c.sender_at-sender.ensures c.requires.some.given.run.domain c.requires.some.can.are_links)

pub loop-index-preserved : goal.loop-index-preserved
loop-index-preserved c = record {
  sends = λ given can.
      let at = c.loop-index.index in
      let below : at < length c.loop-index.now.items = omega (arith, c.loop-index-test.true, (c.loop-index.invariant.sends given can).queues, can.queues) in
      let few = few_links given.run.domain can.legal.accepted in
      let links = ap length can.are_links in
      sends_more c.gathered_is_queued.ensures.relayed given can.legal c.args.branches.now can.are at c.args.cycle.number.0 c.args.cycle.begins can.in_run
      (omega (arith, c.loop-index-test.true, few, links)) can.beginning c.sender_at-sender.result (c.sender_at-sender.ensures given.run.domain can.are_links)
      c.args.now.now.items c.loop-index.now.items c.args.next.now.items c.loop-index.next.items c.report_queue.new.next.items c.report_queue.new.queue
      c.index_mut.result.now c.index_mut.result.now
      c.args.starts.now.items c.loop-index.starts.items c.report_queue.new.starts.items c.index_mut.result.now.items
      (c.loop-index.invariant.sends given can) below c.index_mut.ensures.value
      (feeds_own given c.args.branches.now c.loop-index.index c.args.cycle.number.0 c.args.now.now.items c.loop-index.now.items
      c.args.next.now.items c.loop-index.next.items c.args.starts.now.items c.loop-index.starts.items
      c.index_mut.result.now c.index_mut.result.now (c.loop-index.invariant.sends given can)
      (omega (arith, c.loop-index-test.true, (c.loop-index.invariant.sends given can).queues, can.queues)) c.index_mut.ensures.value
      (can.feeds c.loop-index.index c.loop-index-test.true)) c.report_queue.ensures.reports;
  few =
      let so_far = c.loop-index.invariant.sends c.requires.some.given c.requires.some.can in
      let below : c.loop-index.index < length c.loop-index.now.items =
      omega (arith, c.loop-index-test.true, so_far.queues, c.requires.some.can.queues) in
      omega (
        arith,
        queue_reported _ _ _ _ _ _ _ _ _ _ _ c.report_queue.ensures.reports,
        queue_within c.args.now.now.items c.loop-index.now.items c.loop-index.index c.index_mut.result.now c.index_mut.result.now
            (length c.loop-index.starts.items) below c.index_mut.ensures.value so_far.capacity c.loop-index.invariant.few,
      );
  capacity = c.report_queue.ensures.capacity ∙ c.loop-index.invariant.capacity;
}

pub report_queue-requires-clause-starts_space : goal.report_queue-requires-clause-starts_space
report_queue-requires-clause-starts_space c =
    let so_far = c.loop-index.invariant.sends c.requires.some.given c.requires.some.can in
    let below : c.loop-index.index < length c.loop-index.now.items =
    omega (arith, c.loop-index-test.true, so_far.queues, c.requires.some.can.queues) in
    omega (
      arith,
      queue_within c.args.now.now.items c.loop-index.now.items c.loop-index.index c.index_mut.result.now c.index_mut.result.now
          (length c.loop-index.starts.items) below c.index_mut.ensures.value so_far.capacity c.loop-index.invariant.few,
      sums_rise (cap_at c.args.now.now.items) (c.loop-index.index + 1) (length c.args.links.now) (omega (arith, c.loop-index-test.true)),
      c.requires.room,
      c.loop-index.invariant.capacity,
    )

pub report_queue-requires-clause-space : goal.report_queue-requires-clause-space
report_queue-requires-clause-space c sorted same rise =
    let given = c.requires.some.given in
    let can = c.requires.some.can in
    let links = ap length can.are_links in
    space_more c.gathered_is_queued.ensures.queue c.queue_has_room.ensures c.gathered_is_queued.ensures.relayed given can.legal c.args.branches.now
    can.are c.loop-index.index
    c.args.cycle.number.0 can.in_run (omega (arith, c.loop-index-test.true, few_links given.run.domain can.legal.accepted, links))
    (omega (arith, c.loop-index-test.true, links)) can.few_offers
    c.sender_at-sender.result (c.sender_at-sender.ensures given.run.domain can.are_links)
    c.args.now.now.items c.loop-index.now.items c.args.next.now.items c.loop-index.next.items c.args.starts.now.items c.loop-index.starts.items
    c.index_mut.result.now.items sorted (c.loop-index.invariant.sends given can)
    ((
    feeds_own c.requires.some.given c.args.branches.now c.loop-index.index c.args.cycle.number.0 c.args.now.now.items c.loop-index.now.items
    c.args.next.now.items c.loop-index.next.items c.args.starts.now.items c.loop-index.starts.items
    c.index_mut.result.now c.index_mut.result.now (c.loop-index.invariant.sends c.requires.some.given c.requires.some.can)
    (omega (arith, c.loop-index-test.true, (c.loop-index.invariant.sends c.requires.some.given c.requires.some.can).queues, c.requires.some.can.queues))
    c.index_mut.ensures.value
    (c.requires.some.can.feeds c.loop-index.index c.loop-index-test.true)))
    can.room same rise

-- if no frame waits, nothing is sent
pub returns-then-not-waits-clause-sends : goal.returns-then-not-waits-clause-sends
returns-then-not-waits-clause-sends c given can =
    sends_none given c.args.branches.now c.args.links.now c.args.cycle.number.0 c.args.cycle.begins c.args.now.now.items c.args.next.now.items can
    (λ l. subst (λ (queues : List (Vec Waiting Global)). queue_at queues l ≡ []) c.as_slice.ensures.value (c.waits.ensures c.if-not-waits.true l))
    c.args.starts.now.items
