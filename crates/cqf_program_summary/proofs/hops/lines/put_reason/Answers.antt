use Rattle.std.proofs.Common.{[], ◌∷◌}
use Rattle.cqf_output.proofs.WriterLemmas.{Puts-then}
use Rattle.cqf_program_summary.proofs.hops.lines.put_reason.Goals as goal

pub returns : goal.returns
returns g c =
    let reason = c.args.reason.now in
    Puts-then (44 ∷ 44 ∷ 44 ∷ []) _ c.put.ensures (Puts-then reason (10 ∷ []) c.put-2.ensures c.put_byte.ensures)
