use Rattle.std.proofs.Common.{◌∙◌, ◌++◌, ◌∷◌, [], ap, append_assoc, refl, rules, sym}
use Rattle.std.specs.Vec.Iter.{into_iter_items}
use Rattle.std.proofs.lemmas.Slice.Zip.{all_zipped_more}
use Rattle.cqf_worker.specs.Noting.{fault_of_caller}
use Rattle.cqf_worker.specs.Running.{CallsOf}
use Rattle.cqf_worker.proofs.Notings.{notes_clean, notes_more}
use Rattle.cqf_worker.proofs.Zipped.{zipped_more}
use Rattle.cqf_worker.proofs.threads.join_administrators.Goals as goal

-- no thread has ended yet
pub loop-handle-init : goal.loop-handle-init
loop-handle-init g c = (search rules, (λ clean. clean), (λ clean. search rules), ([], tt, (refl, c.new-seats.ensures.items)))

-- one more thread has ended
pub loop-handle-preserved : goal.loop-handle-preserved
loop-handle-preserved g c =
    let before = c.loop-handle.yielded in
    let so_far = c.loop-handle.invariant.3 in
    let one = c.join_administrator.ensures in
    let clean_before = notes_clean fault_of_caller (CallsOf c.in-Some.handle.promise.administrator.value) c.loop-handle.faults
    c.join_administrator.new.faults c.loop-handle.seats.items
    c.join_administrator.new.seats.items one.0 one.2 one.1.0 in (
      append_assoc before (c.in-Some.handle ∷ []) (into_iter_items c.next.new.self) ∙ ap (λ xs. before ++ xs) (sym c.in-Some.ensures.steps.0)
          ∙ c.loop-handle.invariant.0,
      (λ clean. c.loop-handle.invariant.1 (clean_before clean).0),
      (λ clean. zipped_more _ c.in-Some.handle before c.loop-handle.seats.items c.join_administrator.new.seats.items
          (c.loop-handle.invariant.2 (clean_before clean).0) (clean_before clean).1),
      (
        so_far.0 ++ one.0 ∷ [],
        all_zipped_more _ before so_far.0 c.in-Some.handle one.0 so_far.1 one.1,
        notes_more fault_of_caller c.args.faults.now c.loop-handle.faults c.join_administrator.new.faults [] c.loop-handle.seats.items
            c.join_administrator.new.seats.items so_far.0 one.0
            so_far.2 one.2,
      ),
    )
