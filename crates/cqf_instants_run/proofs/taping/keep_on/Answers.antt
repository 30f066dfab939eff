use Rattle.std.proofs.Common.{◌<◌, ◌∙◌, ◌+◌, List, ap, arith, eqb-true, length, refl, subst, sym, take}
use Rattle.std.proofs.lemmas.List.{take_all}
use Rattle.cqf_model.specs.declared.ports.Arrival.{Arrival}
use Rattle.cqf_model.specs.declared.ports.Start.{Start}
use Rattle.cqf_port.specs.PortState.{AreTaken}
use Rattle.cqf_trace.specs.declared.trace.Trace.{Trace}
use Rattle.cqf_instants_run.proofs.Feeds.{some_in}
use Rattle.cqf_instants_run.proofs.Traces.{HasBesides, all_taken, given_after, none_besides, none_more, nothing_taken, one_besides}
use Rattle.cqf_instants_run.proofs.taping.keep_on.Goals as goal
use Rattle.cqf_instants_run.proofs.taping.keep_on.Goals.{then-is_low+in_ok-push, else-is_low}

-- its port may take what it is given
pub starts_of_port-requires-clause-taken : goal.starts_of_port-requires-clause-taken
starts_of_port-requires-clause-taken c =
    let some : 0 < length c.args.frames.items =
    omega (arith, c.args.frames.ok.0, some_in c.args.frames.len (sym c.is_empty.ensures ∙ c.if-is_empty.false)) in
    subst (λ (xs : List Arrival). AreTaken xs)
    (sym (given_after c.args.domain.now c.args.frames.items c.put_marks.new.arrivals.items c.as_slice.result.now c.args.trace.now.starts.items some
    c.in_ok-put_marks.ensures c.as_slice.ensures.value))
    c.requires.taken

-- at first none is appended
pub loop-start-init : goal.loop-start-init
loop-start-init c = none_besides c.args.trace.now

-- a start of a background frame is appended, and another one is skipped
pub loop-start-preserved : goal.loop-start-preserved
loop-start-preserved c =
    let made = c.as_slice-start-items.result.now in
    elim c.if-is_low.branch [
      | then-is_low+in_ok-push w ↦
          one_besides made c.loop-start.start-index _ _ c.loop-start-test.true refl c.args.trace.now c.loop-start.trace c.loop-start.invariant c.if-is_low.trace
          (sym c.is_low.ensures ∙ w.if-is_low.true) (ap (λ (t : Trace). t.link) w.trace-is) (ap (λ (t : Trace). t.starts) w.trace-is)
          (ap (λ (t : Trace). t.background.items) w.trace-is ∙ w.in_ok-push.ensures.items)
      | else-is_low w ↦
          subst (λ (t : Trace). HasBesides (take (c.loop-start.start-index + 1) made) c.args.trace.now t) (sym w.trace-is)
          (none_more made c.loop-start.start-index _ _ c.loop-start-test.true refl c.args.trace.now c.loop-start.trace c.loop-start.invariant
          (sym c.is_low.ensures ∙ w.if-is_low.false))
    ]

-- if nothing is given, none starts
pub returns-then-is_empty : goal.returns-then-is_empty
returns-then-is_empty c =
    nothing_taken c.args.domain.now c.args.end.0 c.args.frames.items c.args.trace.now
    (omega (arith, c.args.frames.ok.0, eqb-true c.args.frames.len 0 (sym c.is_empty.ensures ∙ c.if-is_empty.true)))

-- in the end all are appended
pub returns : goal.returns
returns c =
    let some : 0 < length c.args.frames.items =
    omega (arith, c.args.frames.ok.0, some_in c.args.frames.len (sym c.is_empty.ensures ∙ c.if-is_empty.false)) in
    let all = take_all c.loop-start.start-index c.as_slice-start-items.result.now c.loop-start-test.false ∙ c.as_slice-start-items.ensures.value in
    all_taken c.args.domain.now c.args.end.0 c.args.frames.items c.args.trace.now c.loop-start.trace c.put_marks.new.arrivals.items c.in_ok-made.made.items
    (given_after c.args.domain.now c.args.frames.items c.put_marks.new.arrivals.items c.as_slice.result.now c.args.trace.now.starts.items some
    c.in_ok-put_marks.ensures c.as_slice.ensures.value)
    c.in_ok-made.ensures (subst (λ (xs : List Start). HasBesides xs c.args.trace.now c.loop-start.trace) all c.loop-start.invariant)
