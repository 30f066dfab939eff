use Rattle.std.proofs.Common.{◌≡◌, ◌∙◌, ◌++◌, ◌∷◌, [], append_assoc, ap, arith, refl, sym}
use Rattle.std.specs.Vec.Iter.{into_iter_items}
use Rattle.std.proofs.lemmas.List.{length-append}
use Rattle.cqf_instants_run.proofs.Tellings.{all_reported, below_all, link_reported, taken_there}
use Rattle.cqf_instants_run.proofs.reporting.report_links.Goals as goal

-- at first there is no entry
pub loop-arrivals-init : goal.loop-arrivals-init
loop-arrivals-init c = (c.into_iter-arrivals-iterator.ensures.into_iter_gives.0, refl, λ backed each. c.new-starts.ensures.items)

-- the port's link is there
pub report_link-requires-clause-link : goal.report_link-requires-clause-link
report_link-requires-clause-link c =
    let all : c.loop-arrivals.yielded ++ c.in-Some.arrivals ∷ into_iter_items c.next.new.self ≡ c.args.lists.items =
    ap (λ xs. c.loop-arrivals.yielded ++ xs) (sym c.in-Some.ensures.steps.0) ∙ c.loop-arrivals.invariant.0 in
    omega (
      arith,
      below_all c.loop-arrivals.yielded c.in-Some.arrivals _ c.args.lists.items c.loop-arrivals.link all c.loop-arrivals.invariant.1,
      c.requires.one_each,
    )

-- it may take what it is given
pub report_link-requires-clause-taken : goal.report_link-requires-clause-taken
report_link-requires-clause-taken c =
    let all : c.loop-arrivals.yielded ++ c.in-Some.arrivals ∷ into_iter_items c.next.new.self ≡ c.args.lists.items =
    ap (λ xs. c.loop-arrivals.yielded ++ xs) (sym c.in-Some.ensures.steps.0) ∙ c.loop-arrivals.invariant.0 in
    taken_there c.loop-arrivals.yielded c.in-Some.arrivals _ c.args.lists.items c.loop-arrivals.link all c.loop-arrivals.invariant.1 c.requires.taken

-- the entries of the next link are appended
pub loop-arrivals-preserved : goal.loop-arrivals-preserved
loop-arrivals-preserved c =
    let front = c.loop-arrivals.yielded in
    let rest = into_iter_items c.next.new.self in
    let all : front ++ c.in-Some.arrivals ∷ rest ≡ c.args.lists.items = ap (λ xs. front ++ xs) (sym c.in-Some.ensures.steps.0)
    ∙ c.loop-arrivals.invariant.0 in (
      append_assoc front (c.in-Some.arrivals ∷ []) rest ∙ all,
      omega (arith, length-append front (c.in-Some.arrivals ∷ []), c.loop-arrivals.invariant.1),
      link_reported front c.in-Some.arrivals rest c.args.lists.items c.loop-arrivals.link all c.loop-arrivals.invariant.1 c.args.domain.now c.args.end.0 _ _
          c.loop-arrivals.invariant.2 c.in_ok-report_link.ensures,
    )

-- in the end those of all links are
pub returns : goal.returns
returns c =
    all_reported c.args.domain.now c.args.end.0 c.loop-arrivals.yielded (into_iter_items c.loop-arrivals.arrivals-iterator) c.args.lists.items c.loop-arrivals.link
    c.loop-arrivals.starts.items c.loop-arrivals.invariant.0 c.loop-arrivals.invariant.1 (sym c.loop-arrivals.arrivals-iterator.rest.ok.0
    ∙ c.in-None.ensures.steps.0)
    c.loop-arrivals.invariant.2
