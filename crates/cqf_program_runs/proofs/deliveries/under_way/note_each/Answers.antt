use Rattle.std.proofs.Common.{◌∷◌, [], List, subst, sym, take}
use Rattle.std.proofs.lemmas.List.{take_more}
use Rattle.cqf_model.specs.declared.frames.Started.{Started}
use Rattle.cqf_program_runs.specs.Deliveries.UnderWay.{NotesAll, slots_of}
use Rattle.cqf_program_runs.proofs.KeptSlots.{notes_then}
use Rattle.cqf_program_runs.proofs.deliveries.under_way.note_each.Goals as goal

pub loop-start-preserved : goal.loop-start-preserved
loop-start-preserved c =
    let ended = c.args.ended.now in
    let xs = c.args.starts.now in
    let k = c.loop-start.start-index in
    subst (λ (ss : List Started). NotesAll ended.domain.now ended.rows.now ended.edge_verdicts.now c.args.index ss (slots_of c.args.slots.now.items)
    (slots_of c.note.new.slots.items)) (sym (take_more xs k _ c.loop-start-test.true))
    (notes_then ended.domain.now ended.rows.now ended.edge_verdicts.now c.args.index (take k xs) (_ ∷ []) (slots_of c.args.slots.now.items)
    (slots_of c.loop-start.slots.items) (slots_of c.note.new.slots.items) c.loop-start.invariant c.note.ensures)
