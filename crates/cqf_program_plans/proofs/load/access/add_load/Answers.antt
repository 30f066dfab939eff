use Rattle.std.proofs.Common.{ℕ, ◌<◌, ◌∙◌, ap, arith, length, sym}
use Rattle.cqf_program_plans.specs.Load.Access.{loaded_by}
use Rattle.cqf_program_plans.proofs.AccessLoads.{added_none, added_there}
use Rattle.cqf_program_plans.proofs.load.access.add_load.Goals as goal

pub returns-then-handed-len-clause-value : goal.returns-then-handed-len-clause-value
returns-then-handed-len-clause-value c =
    let loads = c.args.loads.now.items in
    let index = c.args.handed.now.index in
    let below : index < length loads = omega (arith, c.if-handed-len.true, c.len.ensures) in
    added_there loads index _ c.index_mut.result.now c.add.new.self below c.index_mut.ensures.value
    (c.add.ensures ∙ ap (λ (taken : ℕ). loaded_by taken c.index_mut.result.now) c.taken_by-taken.ensures.value)

pub returns-else-handed-len-clause-value : goal.returns-else-handed-len-clause-value
returns-else-handed-len-clause-value c =
    sym (added_none c.args.loads.now.items c.args.handed.now.index _ (omega (arith, c.if-handed-len.false, c.len.ensures)))
