use Rattle.std.proofs.Common.{◌∙◌, ◌+◌, ◌*◌, ◌++◌, ◌∷◌, [], ◌≤◌, ℕ, ap, ap₂, length, subst, sym, refl, arith, get_or, take}
use Rattle.std.proofs.lemmas.List.{length-append}
use Rattle.std.proofs.lemmas.List.Elements.{Contains-get_or}
use Rattle.cqf_instants.specs.declared.queues.Waiting.{Waiting}
use Rattle.cqf_instants.specs.Queues.{after_hop, branch_at, hops_to, in_pace, start_of_queue}
use Rattle.cqf_instants.proofs.Adding.{Adds-then, space_part}
use Rattle.cqf_units.specs.Timing.{time_of}
use Rattle.cqf_instants.proofs.Pace.{few_ticks, fewer_ticks, offset_more, over_in_time, pace_more, pace_room, reported_more, whole_in_time}
use Rattle.cqf_instants.proofs.link.report_link.Goals as goal

pub overflow_cast-whole : goal.overflow_cast-whole
overflow_cast-whole c =
    let h = whole_in_time c.args.queue.now c.loop-frame.frame-index c.args.sender.octet_time c.args.sender.delay c.loop-frame.offset c.from-octets.result
    (record { at = 0; hop = 0; frame = 0; octets = 0; source = 0 })
    c.loop-frame-test.true c.loop-frame.invariant.offset c.from-octets.ensures c.requires.in_time in
    omega (arith, h, c.from.ensures, c.time_in_ticks-sent.ensures)

pub time_in_ticks-sent-requires : goal.time_in_ticks-sent-requires
time_in_ticks-sent-requires c =
    fewer_ticks c.from-octets.result c.args.sender.octet_time c.loop-frame.offset c.args.sender.delay
    (over_in_time c.args.queue.now c.loop-frame.frame-index c.args.sender.octet_time c.args.sender.delay c.loop-frame.offset c.from-octets.result
    (record { at = 0; hop = 0; frame = 0; octets = 0; source = 0 })
    c.loop-frame-test.true c.loop-frame.invariant.offset c.from-octets.ensures c.requires.in_time)

pub time_in_ticks-slot-requires : goal.time_in_ticks-slot-requires
time_in_ticks-slot-requires c =
    few_ticks c.from-octets.result c.args.sender.octet_time c.loop-frame.offset c.args.sender.delay
    (over_in_time c.args.queue.now c.loop-frame.frame-index c.args.sender.octet_time c.args.sender.delay c.loop-frame.offset c.from-octets.result
    (record { at = 0; hop = 0; frame = 0; octets = 0; source = 0 })
    c.loop-frame-test.true c.loop-frame.invariant.offset c.from-octets.ensures c.requires.in_time)

pub bounds-branches-frame : goal.bounds-branches-frame
bounds-branches-frame c = c.requires.hops _ (Contains-get_or c.args.queue.now c.loop-frame.frame-index _ c.loop-frame-test.true)

pub loop-frame-preserved : goal.loop-frame-preserved
loop-frame-preserved c =
    let r = c.args.sender.octet_time in
    let queue = c.args.queue.now in
    let index = c.loop-frame.frame-index in
    let none : Waiting = record { at = 0; hop = 0; frame = 0; octets = 0; source = 0 } in
    let w = get_or queue index none in
    let branch = branch_at c.args.branches.now w.hop in
    record {
      offset = ap (λ (n : ℕ). c.loop-frame.offset + n) c.time_in_ticks-slot.ensures
          ∙ offset_more queue index r c.loop-frame.offset c.from-octets.result none
          c.loop-frame-test.true c.loop-frame.invariant.offset c.from-octets.ensures;
      starts = reported_more (start_of_queue c.args.cycle.number.0 c.args.sender.link c.args.cycle.begins) queue index r
          c.loop-frame.offset none c.args.starts.now.items c.loop-frame.starts.items c.push_reserved.new.self.items _
          c.loop-frame-test.true c.loop-frame.invariant.offset c.loop-frame.invariant.starts c.push_reserved.ensures.items refl;
      count = omega (
        arith,
        ap length c.push_reserved.ensures.items,
        length-append c.loop-frame.starts.items (record {
          cycle = c.args.cycle.number;
          link = c.args.sender.link;
          frame = w.frame;
          octets =
              w.octets;
          start = record { 0 = c.args.cycle.begins + c.loop-frame.offset };
        } ∷ []),
        c.loop-frame.invariant.count,
      );
      capacity = c.push_reserved.ensures.capacity ∙ c.loop-frame.invariant.capacity;
      next = Adds-then c.args.next.now.items c.loop-frame.next.items c.pass_on.new.queues.items _ _ _ c.loop-frame.invariant.next
          c.pass_on.ensures (λ l. pace_more (after_hop c.args.sender c.args.branches.now l) queue index r
          c.loop-frame.offset none c.loop-frame-test.true c.loop-frame.invariant.offset
          ∙ ap₂ (λ (sent delay : ℕ). in_pace (after_hop c.args.sender c.args.branches.now l) r 0 (take index queue)
          ++ hops_to c.args.branches.now branch.next branch.many
          (record { at = c.loop-frame.offset + sent + delay; hop = w.hop; frame = w.frame; octets = w.octets; source = c.args.sender.link }) l)
          (sym (c.time_in_ticks-sent.ensures ∙ ap (λ (n : ℕ). time_of (n + 8) r) c.from-octets.ensures)) (sym c.from.ensures));
    }

pub pass_on-requires-clause-space : goal.pass_on-requires-clause-space
pass_on-requires-clause-space c =
    let r = c.args.sender.octet_time in
    let queue = c.args.queue.now in
    let index = c.loop-frame.frame-index in
    let none : Waiting = record { at = 0; hop = 0; frame = 0; octets = 0; source = 0 } in
    let w = get_or queue index none in
    let branch = branch_at c.args.branches.now w.hop in
    space_part c.args.next.now.items c.loop-frame.next.items (λ l. in_pace (after_hop c.args.sender c.args.branches.now l) r 0 queue)
    (λ l. in_pace (after_hop c.args.sender c.args.branches.now l) r 0 (take index queue)) _ c.requires.space c.loop-frame.invariant.next
    (λ l. subst (λ (more : ℕ). length (in_pace (after_hop c.args.sender c.args.branches.now l) r 0 (take index queue)) + more
    ≤ length (in_pace (after_hop c.args.sender c.args.branches.now l) r 0 queue))
    (ap₂ (λ (sent delay : ℕ). length (hops_to c.args.branches.now branch.next branch.many
    (record { at = c.loop-frame.offset + sent + delay; hop = w.hop; frame = w.frame; octets = w.octets; source = c.args.sender.link }) l))
    (sym (c.time_in_ticks-sent.ensures ∙ ap (λ (n : ℕ). time_of (n + 8) r) c.from-octets.ensures)) (sym c.from.ensures))
    (pace_room (after_hop c.args.sender c.args.branches.now l) queue index r c.loop-frame.offset none c.loop-frame-test.true c.loop-frame.invariant.offset))

pub push_reserved-requires : goal.push_reserved-requires
push_reserved-requires c =
    omega (arith, c.loop-frame.starts.ok.0, c.loop-frame.invariant.count, c.loop-frame.invariant.capacity, c.loop-frame-test.true, c.requires.starts_space)
