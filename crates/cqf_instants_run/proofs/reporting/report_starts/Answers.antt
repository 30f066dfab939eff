use Rattle.std.proofs.Common.{◌∙◌, ◌++◌, ◌∷◌, [], List, ap, append-nil, filter, map, refl, sym}
use Rattle.std.proofs.lemmas.List.{take_all}
use Rattle.cqf_model.specs.declared.frames.Started.{Started}
use Rattle.cqf_model.specs.declared.ports.Start.{Start}
use Rattle.cqf_instants_run.specs.Sending.{is_low, reported}
use Rattle.cqf_instants_run.proofs.Tellings.{one_passed, one_reported}
use Rattle.cqf_instants_run.proofs.reporting.report_starts.Goals as goal
use Rattle.cqf_instants_run.proofs.reporting.report_starts.Goals.{then-is_low+in_ok-push, else-is_low}

-- at first there is no entry
pub loop-start-init : goal.loop-start-init
loop-start-init c = sym (append-nil c.args.starts.now.items)

-- the entry of a background frame's start is appended, and another start is skipped
pub loop-start-preserved : goal.loop-start-preserved
loop-start-preserved c =
    let made = c.args.made.now in
    let f = reported c.args.cycle_time.0 c.args.link in
    elim c.if-is_low.branch [
      | then-is_low+in_ok-push w ↦
          one_reported f is_low made c.loop-start.start-index _ _ c.loop-start-test.true refl c.args.starts.now.items c.loop-start.starts.items
          c.loop-start.invariant
          _ (sym c.is_low.ensures ∙ w.if-is_low.true)
          (ap (λ v. v.items) w.starts-is ∙ w.in_ok-push.ensures.items ∙ ap (λ (x : Started). c.loop-start.starts.items ++ x ∷ []) w.reported.ensures)
      | else-is_low w ↦
          ap (λ v. v.items) w.starts-is
          ∙ one_passed f is_low made c.loop-start.start-index _ _ c.loop-start-test.true refl c.args.starts.now.items c.loop-start.starts.items
          c.loop-start.invariant
          (sym c.is_low.ensures ∙ w.if-is_low.false)
    ]

-- in the end all are
pub returns : goal.returns
returns c =
    c.loop-start.invariant
    ∙ ap (λ (xs : List Start). c.args.starts.now.items ++ map (reported c.args.cycle_time.0 c.args.link) (filter is_low xs))
    (take_all c.loop-start.start-index c.args.made.now c.loop-start-test.false)
