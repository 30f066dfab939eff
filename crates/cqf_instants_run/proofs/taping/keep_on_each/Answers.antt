use Rattle.std.proofs.Common.{◌≡◌, ◌∙◌, ◌++◌, ◌∷◌, ◌<◌, [], List, ap, append_assoc, ap₂, arith, get_or, length, map, refl, subst, sym}
use Rattle.std.specs.Vec.Iter.{into_iter_items}
use Rattle.std.proofs.lemmas.List.{length-append}
use Rattle.cqf_lists.specs.ByNumber.{lists_of}
use Rattle.cqf_model.specs.declared.ports.Arrival.{Arrival}
use Rattle.cqf_port.specs.PortState.{AreTaken}
use Rattle.cqf_trace.specs.declared.trace.Mark.{Mark}
use Rattle.cqf_instants_run.specs.Feeding.{fed}
use Rattle.cqf_instants_run.specs.Taping.{arrival_of_mark}
use Rattle.cqf_instants_run.proofs.Traces.{all_take, as_many_traces, next_has, next_link, next_marks, next_there, none_take}
use Rattle.cqf_instants_run.proofs.Tellings.{below_all, list_there}
use Rattle.cqf_instants_run.proofs.taping.keep_on_each.Goals as goal

-- at first no trace has its background frames
pub loop-frames-init : goal.loop-frames-init
loop-frames-init c = (
  c.into_iter-frames-iterator.ensures.into_iter_gives.0,
  refl,
  none_take c.args.domain.now c.args.end.0 (λ k. get_or (lists_of c.args.lists.items) k []) c.args.traces.now,
)

-- the next trace is there
pub bounds-traces-index : goal.bounds-traces-index
bounds-traces-index c =
    let all : c.loop-frames.yielded ++ c.in-Some.frames ∷ into_iter_items c.next.new.self ≡ c.args.lists.items =
    ap (λ xs. c.loop-frames.yielded ++ xs) (sym c.in-Some.ensures.steps.0) ∙ c.loop-frames.invariant.0 in
    let is_link : c.loop-frames.index < length c.args.domain.now.links =
    omega (arith, below_all c.loop-frames.yielded c.in-Some.frames _ c.args.lists.items c.loop-frames.index all c.loop-frames.invariant.1, c.requires.one_each)
    in
    next_there c.args.domain.now c.args.end.0 (λ k. get_or (lists_of c.args.lists.items) k []) c.args.traces.now c.loop-frames.traces c.loop-frames.index
    c.loop-frames.invariant.2 c.requires.links is_link

-- and its offset fits
pub offset_bounds-traces-index : goal.offset_bounds-traces-index
offset_bounds-traces-index c =
    let all : c.loop-frames.yielded ++ c.in-Some.frames ∷ into_iter_items c.next.new.self ≡ c.args.lists.items =
    ap (λ xs. c.loop-frames.yielded ++ xs) (sym c.in-Some.ensures.steps.0) ∙ c.loop-frames.invariant.0 in
    omega (
      arith,
      below_all c.loop-frames.yielded c.in-Some.frames _ c.args.lists.items c.loop-frames.index all c.loop-frames.invariant.1,
      c.requires.few,
    )

-- its link is there
pub keep_on-requires-clause-link : goal.keep_on-requires-clause-link
keep_on-requires-clause-link c =
    let all : c.loop-frames.yielded ++ c.in-Some.frames ∷ into_iter_items c.next.new.self ≡ c.args.lists.items =
    ap (λ xs. c.loop-frames.yielded ++ xs) (sym c.in-Some.ensures.steps.0) ∙ c.loop-frames.invariant.0 in
    let is_link : c.loop-frames.index < length c.args.domain.now.links =
    omega (arith, below_all c.loop-frames.yielded c.in-Some.frames _ c.args.lists.items c.loop-frames.index all c.loop-frames.invariant.1, c.requires.one_each)
    in
    next_link c.args.domain.now c.args.end.0 (λ k. get_or (lists_of c.args.lists.items) k []) c.args.traces.now c.loop-frames.traces c.loop-frames.index
    c.loop-frames.invariant.2 c.requires.links is_link _

-- its port may take what it is given
pub keep_on-requires-clause-taken : goal.keep_on-requires-clause-taken
keep_on-requires-clause-taken c =
    let d = c.args.domain.now in
    let front = c.loop-frames.yielded in
    let index = c.loop-frames.index in
    let rest = into_iter_items c.next.new.self in
    let all : front ++ c.in-Some.frames ∷ rest ≡ c.args.lists.items =
    ap (λ xs. front ++ xs) (sym c.in-Some.ensures.steps.0) ∙ c.loop-frames.invariant.0 in
    let within : index < length c.args.lists.items = below_all front c.in-Some.frames rest c.args.lists.items index all c.loop-frames.invariant.1 in
    let is_link : index < length d.links = omega (arith, within, c.requires.one_each) in
    subst AreTaken
    (ap₂ (λ (xs : List Arrival) (ms : List Mark). fed xs (map (arrival_of_mark d) ms))
    (list_there front c.in-Some.frames rest c.args.lists.items index all c.loop-frames.invariant.1)
    (sym (next_marks d c.args.end.0 (λ k. get_or (lists_of c.args.lists.items) k []) c.args.traces.now c.loop-frames.traces index c.loop-frames.invariant.2
    c.requires.links is_link _)))
    (c.requires.taken index within)

-- one more trace has its background frames
pub loop-frames-preserved : goal.loop-frames-preserved
loop-frames-preserved c =
    let d = c.args.domain.now in
    let front = c.loop-frames.yielded in
    let index = c.loop-frames.index in
    let rest = into_iter_items c.next.new.self in
    let all : front ++ c.in-Some.frames ∷ rest ≡ c.args.lists.items =
    ap (λ xs. front ++ xs) (sym c.in-Some.ensures.steps.0) ∙ c.loop-frames.invariant.0 in
    let is_link : index < length d.links =
    omega (arith, below_all front c.in-Some.frames rest c.args.lists.items index all c.loop-frames.invariant.1, c.requires.one_each) in (
      append_assoc front (c.in-Some.frames ∷ []) rest ∙ all,
      omega (arith, length-append front (c.in-Some.frames ∷ []), c.loop-frames.invariant.1),
      next_has d c.args.end.0 (λ k. get_or (lists_of c.args.lists.items) k []) c.args.traces.now c.loop-frames.traces index c.loop-frames.invariant.2
          c.requires.links is_link c.in-Some.frames.items c.index-traces-index.result _
          (list_there front c.in-Some.frames rest c.args.lists.items index all c.loop-frames.invariant.1) c.in_ok-keep_on.ensures,
    )

-- in the end all have them
pub returns : goal.returns
returns c =
    let none = sym c.loop-frames.frames-iterator.rest.ok.0 ∙ c.in-None.ensures.steps.0 in
    let many = length-append c.loop-frames.yielded (into_iter_items c.loop-frames.frames-iterator) in
    all_take c.args.domain.now c.args.end.0 (λ k. get_or (lists_of c.args.lists.items) k []) c.args.traces.now c.loop-frames.traces c.loop-frames.index
    c.loop-frames.invariant.2
    (omega (
      arith,
      none,
      many,
      ap length c.loop-frames.invariant.0,
      c.loop-frames.invariant.1,
      c.requires.one_each,
      as_many_traces (length c.args.domain.now.links) c.args.traces.now c.requires.links,
    ))
