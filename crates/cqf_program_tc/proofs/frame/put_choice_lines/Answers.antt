use Rattle.std.proofs.Common.{ap, sym, add-one}
use Rattle.cqf_lists.specs.Lists.{each_below}
use Rattle.cqf_output.proofs.WriterLemmas.{Puts-as, Puts-then}
use Rattle.cqf_program_tc.specs.Text.{choice_line}
use Rattle.cqf_program_tc.proofs.frame.put_choice_lines.Goals as goal

pub loop-bridge-preserved : goal.loop-bridge-preserved
loop-bridge-preserved g c =
    let text = choice_line c.args.domain.now in
    let bridge = c.loop-bridge.bridge in
    Puts-as _ _ (sym (ap (each_below text) (add-one bridge))) (Puts-then (each_below text bridge) (text bridge) c.loop-bridge.invariant
    c.put_choice_line.ensures)
