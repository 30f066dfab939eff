use Rattle.std.proofs.Common.{ap, sym, add-one}
use Rattle.cqf_lists.specs.Lists.{each_below}
use Rattle.cqf_output.proofs.WriterLemmas.{Puts-as, Puts-then}
use Rattle.cqf_program_tc.specs.Bridge.{if_left}
use Rattle.cqf_program_tc.specs.Env.{out_lines}
use Rattle.cqf_program_tc.proofs.env.put_links_out.Goals as goal

pub loop-link-preserved : goal.loop-link-preserved
loop-link-preserved g c =
    let text = if_left c.args.plan.domain.now c.args.bridge (out_lines c.args.plan.domain.now c.args.interfaces.now c.args.bridge) in
    let link = c.loop-link.link in
    Puts-as _ _ (sym (ap (each_below text) (add-one link))) (Puts-then (each_below text link) (text link) c.loop-link.invariant c.put_lines_of_link.ensures)
