use Rattle.std.proofs.Common.{◌∙◌, ◌≡◌, ◌≤◌, ℕ, List, ap, arith, sym}
use Rattle.arrayvec.specs.ArrayVec.{ArrayVec}
use Rattle.cqf_model.specs.declared.topology.Pace.{Pace}
use Rattle.cqf_model.specs.History.{held_in, seals}
use Rattle.cqf_program_placing.specs.declared.phases.BudgetShare.{BudgetShare}
use Rattle.cqf_program_placing.specs.ActiveCycles.{are_less, loads_down, loads_with, share_at, shares_with}
use Rattle.cqf_program_placing.proofs.Loads.{AreHeld, least_first, least_less, least_same, loads_held}
use Rattle.cqf_program_placing.proofs.phases.least_loaded.Goals as goal
use Rattle.cqf_program_placing.proofs.phases.least_loaded.Goals.{then-are_less, else-are_less}

pub loop-phase-init : goal.loop-phase-init
loop-phase-init c =
    let d = c.args.domain.now in
    let entries = c.args.admission.now.entries in
    let rows = held_in d entries (seals entries) in
    let loads : ℕ → List BudgetShare = loads_with d rows c.args.cost c.args.every c.args.tree.now in
    let held : (phase : ℕ) → AreHeld (loads phase) =
    λ phase. loads_held (shares_with d rows c.args.cost c.args.every phase) (λ hop. omega (arith, c.requires.some)) c.args.tree.now in
    least_first loads held c.loads_at-least.result.items
    (c.loads_at-least.ensures ∙ ap (λ (pace : Pace). loads_down (share_at d rows c.args.cost pace) c.args.tree.now) c.pace_by.ensures)

-- one more phase is checked
pub loop-phase-preserved : goal.loop-phase-preserved
loop-phase-preserved c =
    let d = c.args.domain.now in
    let entries = c.args.admission.now.entries in
    let rows = held_in d entries (seals entries) in
    let loads : ℕ → List BudgetShare = loads_with d rows c.args.cost c.args.every c.args.tree.now in
    let held : (phase : ℕ) → AreHeld (loads phase) =
    λ phase. loads_held (shares_with d rows c.args.cost c.args.every phase) (λ hop. omega (arith, c.requires.some)) c.args.tree.now in
    let new : List BudgetShare = c.loads_at-loads.result.items in
    let is : new ≡ loads c.loop-phase.phase =
    c.loads_at-loads.ensures ∙ ap (λ (pace : Pace). loads_down (share_at d rows c.args.cost pace) c.args.tree.now) c.pace_by-in-loop-phase.ensures in
    let reported : are_less new c.loop-phase.least.items ≡ c.are_less.result =
    (λ i. are_less (sym c.as_slice.ensures.value i) (sym c.as_slice-in-loop-phase.ensures.value i)) ∙ sym c.are_less.ensures in
    let items : ArrayVec BudgetShare → List BudgetShare = λ v. v.items in
    elim c.if-are_less.branch [
      | then-are_less w ↦
          least_less loads held c.loop-phase.phase c.loop-phase.first c.if-are_less.first c.loop-phase.least.items new c.if-are_less.least.items
          c.loop-phase.invariant is (reported ∙ w.if-are_less.true) w.first-is (ap items w.least-is)
      | else-are_less w ↦
          least_same loads held c.loop-phase.phase c.loop-phase.first c.if-are_less.first c.loop-phase.least.items new c.if-are_less.least.items
          c.loop-phase.invariant is (reported ∙ w.if-are_less.false) w.first-is (ap items w.least-is)
    ]
