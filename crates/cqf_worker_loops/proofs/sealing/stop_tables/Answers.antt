use Rattle.std.proofs.Common.{[], ◌∷◌, refl, arith, false}
use Rattle.std.proofs.lemmas.Bool.{false≢true}
use Rattle.cqf_worker_loops.specs.declared.carried.Carried.TheVariants.{Stop}
use Rattle.cqf_worker_loops.proofs.HandedTables.{handed_as, hands_next, hands_some, room_next}
use Rattle.cqf_worker_loops.proofs.sealing.stop_tables.Goals as goal

-- none was notified yet
pub loop-index-init : goal.loop-index-init
loop-index-init g c = (hands_some (Stop ∷ []) c.args.tables.now, refl)

-- the next pipe has room
pub report-requires : goal.report-requires
report-requires g c = record {
  room = omega (
    arith,
    room_next (Stop ∷ []) 0 c.args.tables.now c.loop-index.tables c.loop-index.index false c.index-tables-index.result
        c.loop-index.invariant.0 (λ index d inside. omega (arith, c.requires.room index d inside)) (omega arith),
  );
}

-- the next worker was notified
pub loop-index-preserved : goal.loop-index-preserved
loop-index-preserved g c = (
  hands_next (Stop ∷ []) c.args.tables.now c.loop-index.tables c.loop-index.index false c.index-tables-index.result c.report.new.end c.report.result false
      c.loop-index.invariant.0 (omega arith)
      (handed_as (Stop ∷ []) (Stop ∷ []) _ _ _ refl c.report.ensures.given c.report.ensures.gone) (λ is. absurd (false≢true is)),
  c.loop-index.invariant.1,
)

pub returns-clause-pipes : goal.returns-clause-pipes
returns-clause-pipes g c = c.loop-index.invariant.0.pipes

pub returns-clause-stopped : goal.returns-clause-stopped
returns-clause-stopped g c = c.loop-index.invariant.0.some
