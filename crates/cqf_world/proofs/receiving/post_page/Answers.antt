use Rattle.std.proofs.Common.{◌+◌, ap}
use Rattle.cqf_world.specs.declared.parts.WorldBridge.{WorldBridge}
use Rattle.cqf_world.proofs.Posting.{next_page}
use Rattle.cqf_world.proofs.receiving.post_page.Goals as goal

pub put_page-requires : goal.put_page-requires
put_page-requires c =
    next_page c.args.bridge_driven.now c.receive_cycle.new.bridge_driven c.args.table.now c.in_ok-drops.drops.items c.in_ok-drops.drops.items
    c.in_ok-page.page c.args.pages.now
    c.requires.next c.in_ok-drops.ensures.ok c.in_ok-page.ensures.ok

pub returns-clause-ok : goal.returns-clause-ok
returns-clause-ok c = record {
  between = c.receive_cycle.new.bridge_driven;
  drops = c.in_ok-drops.drops.items;
  page = c.in_ok-page.page;
  receives = c.in_ok-drops.ensures.ok;
  is_page = c.in_ok-page.ensures.ok;
  posted = c.in_ok-put_page.ensures.ok;
  none_taken = c.clear.ensures.items;
  same = ap (λ (k : WorldBridge). record k { posted = k.posted + 1; taken = c.clear.new.self }) c.make_page.ensures.same;
}
