use Rattle.std.proofs.Common.{◌<◌, arith, length, ap, List, ℕ}
use Rattle.cqf_lists.proofs.Numbers.{kept_length}
use Rattle.cqf_model.specs.Domain.{enters}
use Rattle.cqf_model.proofs.Represented.{few_links}
use Rattle.cqf_bridge.proofs.checking.incoming_links.Goals as goal

pub push-requires : goal.push-requires
push-requires c =
    let few : length c.loop-link.links.items < 4096 =
    omega (
      arith,
      ap (λ (ls : List ℕ). length ls) c.loop-link.invariant,
      kept_length (λ k. enters c.args.domain.now k c.args.number) c.loop-link.link,
      c.loop-link-test.true,
      c.links-link-end.ensures,
      few_links c.args.domain.now c.know.ensures.accepted,
    ) in
    (omega arith, few)
