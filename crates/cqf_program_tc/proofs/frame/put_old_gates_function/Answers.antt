use Rattle.std.proofs.Common.{List, subst, ℕ}
use Rattle.cqf_output.specs.Writer.{Puts}
use Rattle.cqf_output.proofs.WriterLemmas.{Puts-then}
use Rattle.cqf_program_tc.specs.Text.{old_gates_text}
use Rattle.cqf_program_tc.proofs.frame.put_old_gates_function.Goals as goal

pub returns : goal.returns
returns g c =
    subst (λ (last : List ℕ). Puts g.W.Write.contents c.args.writer.now c.put-15.new.self (old_gates_text last)) c.last_gate-last.ensures
    (Puts-then _ _ c.put.ensures
    (Puts-then _ _ c.put-2.ensures
    (Puts-then _ _ c.put-3.ensures
    (Puts-then _ _ c.put-4.ensures
    (Puts-then _ _ c.put-5.ensures
    (Puts-then _ _ c.put-6.ensures
    (Puts-then _ _ c.put-7.ensures
    (Puts-then _ _ c.put-8.ensures
    (Puts-then _ _ c.put-9.ensures
    (Puts-then _ _ c.put-10.ensures
    (Puts-then _ _ c.put-11.ensures
    (Puts-then _ _ c.put-12.ensures
    (Puts-then _ _ c.put-13.ensures
    (Puts-then _ _ c.put-14.ensures
    c.put-15.ensures))))))))))))))
