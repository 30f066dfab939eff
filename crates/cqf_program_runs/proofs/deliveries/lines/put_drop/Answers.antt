use Rattle.std.proofs.Common.{[], ◌∷◌}
use Rattle.cqf_output.proofs.WriterLemmas.{Puts-then}
use Rattle.cqf_program_runs.proofs.deliveries.lines.put_drop.Goals as goal

pub returns : goal.returns
returns g c =
    let last = c.args.last.now in
    Puts-then (44 ∷ 44 ∷ 44 ∷ 44 ∷ []) _ c.put.ensures (Puts-then last (10 ∷ []) c.put-2.ensures c.put_byte.ensures)
