use Rattle.std.proofs.Common.{◌∙◌}
use Rattle.cqf_program_files.proofs.Scripts.{begins, next_line}
use Rattle.cqf_program_files.proofs.calls.script_of_calls.Goals as goal

pub loop-line-init : goal.loop-line-init
loop-line-init c = (begins c.args.text.now c.args.cycles _ c.new.ensures.items c.new-2.ensures.items, c.from.ensures)

pub loop-line-preserved : goal.loop-line-preserved
loop-line-preserved c =
    let position = c.following-position.ensures in
    let put = rw (c.bare-line.ensures, c.loop-line.invariant.1) at c.in_ok-put_for.ensures in
    let counted = rw (position.reached, c.bare-line.ensures) at position.counted in (
      rw (position.number, position.reached, c.bare-line.ensures) (next_line c.args.text.now c.loop-line.left.now c.in-Some.following.now c.in-Some.line.now c.args.cycles
          c.loop-line.position.number c.loop-line.position.reached c.loop-line.script c.put_for.new.self c.in-Some.ensures.lines c.loop-line.invariant.0 put
          c.in-Some.ensures.shorter counted),
      position.cycles ∙ c.loop-line.invariant.1,
    )
