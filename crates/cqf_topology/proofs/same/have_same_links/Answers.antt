use Rattle.std.proofs.Common.{sym, ◌∙◌}
use Rattle.cqf_topology.proofs.Alike.{alike_in, one_more_same}
use Rattle.cqf_topology.proofs.same.have_same_links.Goals as goal

pub loop-link-preserved : goal.loop-link-preserved
loop-link-preserved c =
    one_more_same c.args.one.now.links c.args.other.now.links c.loop-link.link c.link.result c.link-in-loop-link.result c.loop-link.invariant c.link.ensures
    c.link-in-loop-link.ensures (c.is_same_link.ensures.0 c.if-not-is_same_link.false)

pub returns-then-not-is_same_link : goal.returns-then-not-is_same_link
returns-then-not-is_same_link c = (
  λ none. absurd cc,
  λ same. sym c.if-not-is_same_link.true ∙ c.is_same_link.ensures.1 (alike_in c.args.one.now.links c.args.other.now.links c.loop-link.link
      c.link.result c.link-in-loop-link.result c.link.ensures c.link-in-loop-link.ensures same),
)
