use Rattle.std.proofs.Common.{◌∙◌, ◌+◌, ℕ, ap, arith, drop, sym}
use Rattle.cqf_program_runs.specs.Check.RefusedInLog.{refused_from}
use Rattle.cqf_program_runs.proofs.RefusedInLogs.{after_all, after_call, after_seal, at_call}
use Rattle.cqf_program_runs.proofs.check.refused_calls.first_refused.Goals as goal
use Rattle.cqf_program_runs.proofs.check.refused_calls.first_refused.Goals.{else-is_call, then-is_call+else-is_refused}

pub loop-logged-preserved : goal.loop-logged-preserved
loop-logged-preserved c =
    let log = c.args.log.now in
    let index = c.loop-logged.logged-index in
    elim c.if-is_call.branch [
      | then-is_call+else-is_refused w ↦ (
        ap (λ (n : ℕ). refused_from (n + 1) (drop (index + 1) log)) w.number-is
            ∙ after_call log index c.loop-logged.number c.loop-logged.invariant.0 _ c.loop-logged-test.true
            (sym c.is_call.ensures ∙ w.if-is_call.true) (sym w.is_refused.ensures ∙ w.if-is_refused.false),
        omega (arith, w.number-is, c.loop-logged.invariant.1),
      )
      | else-is_call w ↦ (
        ap (λ (n : ℕ). refused_from (n + 1) (drop (index + 1) log)) w.number-is
            ∙ after_seal log index c.loop-logged.number c.loop-logged.invariant.0 _ c.loop-logged-test.true (sym c.is_call.ensures ∙ w.if-is_call.false),
        omega (arith, w.number-is, c.loop-logged.invariant.1),
      )
    ]

pub returns-then-is_refused : goal.returns-then-is_refused
returns-then-is_refused c =
    at_call c.args.log.now c.loop-logged.logged-index c.loop-logged.number c.loop-logged.invariant.0 _ c.loop-logged-test.true
    (sym c.is_call.ensures ∙ c.if-is_call.true) (sym c.is_refused.ensures ∙ c.if-is_refused.true)

pub returns : goal.returns
returns c =
    after_all c.args.log.now c.loop-logged.logged-index c.loop-logged.number c.loop-logged.invariant.0 c.loop-logged-test.false
