use Rattle.std.proofs.Common.{rules, ◌≡◌, ◌∙◌, ◌++◌, ◌∷◌, ◌≤◌, [], All, ap, append_assoc, subst, sym}
use Rattle.std.specs.Vec.Iter.{into_iter_items}
use Rattle.std.proofs.lemmas.List.Elements.{All-rest}
use Rattle.cqf_model.specs.Limits.{most_cycles}
use Rattle.cqf_worker_loops.specs.Workers.{MayWork}
use Rattle.cqf_worker.proofs.Zipped.{holds_of_first, holds_of_more, mapped_more}
use Rattle.cqf_worker.proofs.threads.start_workers.Goals as goal

-- no thread runs yet
pub loop-worker-init : goal.loop-worker-init
loop-worker-init g c =
    let gives : into_iter_items c.into_iter-worker-iterator.result ≡ c.args.workers.items = search rules in
    (gives, search rules, search rules, subst (All (MayWork c.args.cycles)) (sym gives) c.requires.new)

-- the next worker may work, and its promise has the same number of cycles
pub spawn_with-requires-clause-runs : goal.spawn_with-requires-clause-runs
spawn_with-requires-clause-runs g c κs within =
    let may : MayWork c.args.cycles c.in-Some.worker = holds_of_first (MayWork c.args.cycles) c.in-Some.worker (into_iter_items c.next.new.self)
    (into_iter_items c.loop-worker.worker-iterator) c.in-Some.ensures.steps.0 c.loop-worker.invariant.3 in (
      (subst (λ count. count ≤ most_cycles) (sym may.has_cycles) c.requires.few, subst (λ count. MayWork count c.in-Some.worker) (sym may.has_cycles) may),
      search rules,
    )

-- one more thread
pub loop-worker-preserved : goal.loop-worker-preserved
loop-worker-preserved g c =
    let before = c.loop-worker.yielded in
    let rest = into_iter_items c.next.new.self in
    let steps = c.in-Some.ensures.steps.0 in (
      append_assoc before (c.in-Some.worker ∷ []) rest ∙ ap (λ xs. before ++ xs) (sym steps) ∙ c.loop-worker.invariant.0,
      mapped_more (λ h. h.promise.worker.value) c.in-Ok.handle c.loop-worker.handles.items c.push.new.self.items c.in-Some.worker before
          c.in_ok-push.ensures.items c.loop-worker.invariant.1 (search rules),
      holds_of_more (λ h. h.promise.cycles ≡ c.args.cycles) c.in-Ok.handle c.loop-worker.handles.items c.push.new.self.items c.in_ok-push.ensures.items
          c.loop-worker.invariant.2 (search rules),
      All-rest (MayWork c.args.cycles) c.in-Some.worker rest (into_iter_items c.loop-worker.worker-iterator) steps c.loop-worker.invariant.3,
    )
