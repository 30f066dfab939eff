use Rattle.std.proofs.Common.{◌∙◌, ◌<◌, ℕ, ap, arith, length, refl, sym}
use Rattle.cqf_model.specs.Domain.{enters}
use Rattle.cqf_plain.proofs.HandedOut.{none_handed, one_handed, passed_by}
use Rattle.cqf_plain.proofs.handing.hand_out.Goals as goal

pub loop-batch-init : goal.loop-batch-init
loop-batch-init c = none_handed c.args.domain.now c.args.bridges.now.items

-- a batch of a link that ends in no bridge
pub loop-batch-preserved : goal.loop-batch-preserved
loop-batch-preserved c =
    passed_by c.args.domain.now c.loop-batch.yielded c.args.bridges.now.items c.loop-batch.bridges.items c.in-Some.batch
    (λ bridge. ap (λ (l : ℕ). enters c.args.domain.now l bridge) (sym c.link.ensures) ∙ c.in_default.ensures.none bridge) c.loop-batch.invariant

-- and a batch of a link that ends in one
pub loop-batch-preserved-in-Continue-1 : goal.loop-batch-preserved-in-Continue-1
loop-batch-preserved-in-Continue-1 c =
    let d = c.args.domain.now in
    let end = c.in-Some-bridge_at_end.ensures in
    let inside : c.from.result < length c.loop-batch.bridges.items = omega (arith, c.from.ensures, end.some.1, c.requires, c.loop-batch.invariant.as_many) in
    one_handed d c.loop-batch.yielded c.args.bridges.now.items c.loop-batch.bridges.items c.in-Some.batch c.index_mut.result.now _
    c.in-Some-bridge_at_end.bridge c.from.result
    (ap (λ (l : ℕ). enters d l c.in-Some-bridge_at_end.bridge) (sym c.link.ensures) ∙ end.some.0)
    (λ other ends. end.only other (ap (λ (l : ℕ). enters d l other) c.link.ensures ∙ ends)) c.from.ensures inside c.index_mut.ensures.value refl refl
    c.in_ok-push.ensures.items c.loop-batch.invariant
