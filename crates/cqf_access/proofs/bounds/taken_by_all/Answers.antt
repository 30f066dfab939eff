use Rattle.std.proofs.Common.{◌≡◌, ◌+◌, ◌<◌, ◌∙◌, sym, subst, arith, length, get_or, min}
use Rattle.std.proofs.lemmas.List.Elements.{All-more}
use Rattle.cqf_traffic.specs.TrafficText.{IsTrafficText, TrafficText, promise_of}
use Rattle.cqf_access.specs.Access.{taken_within}
use Rattle.cqf_access.specs.Bounding.{link_of}
use Rattle.cqf_access.proofs.Least.{taken_next}
use Rattle.cqf_access.proofs.bounds.taken_by_all.Goals as goal

pub loop-promise-preserved : goal.loop-promise-preserved
loop-promise-preserved c =
    let ts = c.args.promises.now in
    let n = c.loop-promise.promise-index in
    let item = c.promise-item.result in
    let link = link_of c.args.rate c.args.other in
    let inside : n < length ts = omega (arith, c.loop-promise-test.true) in
    let is : get_or ts n item ≡ item = sym c.promise-item.is in
    let takes : c.taken_within.result ≡ taken_within link c.args.time.0 (promise_of item) =
    c.taken_within.ensures.value in
    let next : c.min-sum-in-loop-promise.result ≡ min (c.loop-promise.sum + c.taken_within.result) (c.args.most.0 + 1) =
    c.min-sum-in-loop-promise.ensures
    ∙ (λ i. min (c.from.ensures i + c.taken_within.result) (c.from-in-loop-promise.ensures i + 1)) in (
      taken_next link ts n c.args.time.0 (c.args.most.0 + 1) item item c.loop-promise.sum c.taken_within.result c.min-sum-in-loop-promise.result inside is
          c.loop-promise.invariant.0 takes next,
      All-more IsTrafficText ts n item inside c.loop-promise.invariant.1
          (subst (λ (t : TrafficText). IsTrafficText t) (sym is) c.taken_within.ensures.range),
    )
