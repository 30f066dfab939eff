use Rattle.std.proofs.Common.{rules, ◌≡◌, ◌∙◌, ◌<◌, ℕ, arith, false, length, refl}
use Rattle.cqf_model.specs.Domain.{enters}
use Rattle.cqf_agenda.proofs.LinkNumbers.{link_ending}
use Rattle.cqf_world.specs.Parts.{taken_of}
use Rattle.cqf_world.proofs.Coming.{one_coming, passed_by}
use Rattle.cqf_world.proofs.Standing.{count_kept}
use Rattle.cqf_world.proofs.sending.put_all.Goals as goal

pub loop-batch-preserved-in-Continue-1 : goal.loop-batch-preserved-in-Continue-1
loop-batch-preserved-in-Continue-1 c =
    let inside : c.from.result < length c.loop-batch.lines.items =
    omega (
      arith,
      link_ending c.args.domain.now c.in-Some-bridge_at_end._bridge c.link-link.result c.in-Some-bridge_at_end.ensures.some.0,
      c.requires,
      c.loop-batch.invariant.as_many,
      c.from.ensures,
    ) in
    one_coming c.args.domain.now c.loop-batch.yielded c.args.lines.now.items c.loop-batch.lines.items c.in-Some.batch c.index_mut.result.now _ c.from.result
    (c.from.ensures ∙ c.link-link.ensures) inside c.index_mut.ensures.value refl c.in_ok-push_back.ensures.items c.loop-batch.invariant

pub returns-in_err-push_back-clause-counts : goal.returns-in_err-push_back-clause-counts
returns-in_err-push_back-clause-counts c =
    count_kept taken_of c.loop-batch.lines.items c.from.result c.index_mut.result.now _ c.index_mut.ensures.value refl ∙ c.loop-batch.invariant.counts

pub loop-batch-preserved : goal.loop-batch-preserved
loop-batch-preserved c =
    let none : (bridge : ℕ) → enters c.args.domain.now c.in-Some.batch.link bridge ≡ false = search rules in
    passed_by c.args.domain.now c.loop-batch.yielded c.args.lines.now.items c.loop-batch.lines.items c.in-Some.batch none c.loop-batch.invariant
