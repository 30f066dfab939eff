use Rattle.std.proofs.Common.{◌∙◌, ◌++◌, ◌∷◌, [], ap, append_assoc, refl, rules, sym}
use Rattle.std.specs.Vec.Iter.{into_iter_items}
use Rattle.std.proofs.lemmas.Slice.Zip.{all_zipped_more}
use Rattle.cqf_worker_loops.specs.Workers.{Works}
use Rattle.cqf_worker.specs.Noting.{fault_of_worker}
use Rattle.cqf_worker.proofs.Notings.{notes_clean, notes_more}
use Rattle.cqf_worker.proofs.Zipped.{zipped_more}
use Rattle.cqf_worker.proofs.threads.join_workers.Goals as goal

-- no thread has ended yet
pub loop-handle-init : goal.loop-handle-init
loop-handle-init g c = (search rules, (λ clean. clean), (λ clean. search rules), ([], tt, (refl, c.new-workers.ensures.items)))

-- one more thread has ended
pub loop-handle-preserved : goal.loop-handle-preserved
loop-handle-preserved g c =
    let before = c.loop-handle.yielded in
    let so_far = c.loop-handle.invariant.3 in
    let one = c.join_worker.ensures in
    let clean_before = notes_clean fault_of_worker (Works c.in-Some.handle.promise.cycles c.in-Some.handle.promise.worker.value)
    c.loop-handle.faults c.join_worker.new.faults c.loop-handle.workers.items
    c.join_worker.new.workers.items one.0 one.2 one.1.0 in (
      append_assoc before (c.in-Some.handle ∷ []) (into_iter_items c.next.new.self) ∙ ap (λ xs. before ++ xs) (sym c.in-Some.ensures.steps.0)
          ∙ c.loop-handle.invariant.0,
      (λ clean. c.loop-handle.invariant.1 (clean_before clean).0),
      (λ clean. zipped_more _ c.in-Some.handle before c.loop-handle.workers.items c.join_worker.new.workers.items
          (c.loop-handle.invariant.2 (clean_before clean).0) (clean_before clean).1),
      (
        so_far.0 ++ one.0 ∷ [],
        all_zipped_more _ before so_far.0 c.in-Some.handle one.0 so_far.1 one.1,
        notes_more fault_of_worker c.args.faults.now c.loop-handle.faults c.join_worker.new.faults [] c.loop-handle.workers.items
            c.join_worker.new.workers.items so_far.0 one.0
            so_far.2 one.2,
      ),
    )
