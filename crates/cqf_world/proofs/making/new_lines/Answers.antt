use Rattle.std.proofs.Common.{refl}
use Rattle.cqf_world.proofs.NewParts.{one_line}
use Rattle.cqf_world.proofs.making.new_lines.Goals as goal

-- the next link has no batch under way
pub loop-link-preserved : goal.loop-link-preserved
loop-link-preserved c =
    one_line c.loop-link._link c.loop-link.lines.items _ _ c.loop-link.invariant refl c.new.ensures.items c.in_ok-push.ensures.items
