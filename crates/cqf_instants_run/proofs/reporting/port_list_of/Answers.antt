use Rattle.std.proofs.Common.{◌∙◌}
use Rattle.cqf_instants_run.proofs.Tellings.{own_guard, own_list}
use Rattle.cqf_instants_run.proofs.reporting.port_list_of.Goals as goal

pub compiled_list-requires-clause-some : goal.compiled_list-requires-clause-some
compiled_list-requires-clause-some c =
    (own_guard c.args.domain.now c.args.link c.link.result c.cycle_time-cycle_time.result.0 c.guard-guard.result.0 c.from.result
    c.cycle_time-cycle_time.ensures.accepted c.link.ensures c.cycle_time-cycle_time.ensures.value c.guard-guard.ensures
    (c.from.ensures ∙ c.guard_by-own.ensures)).0

pub compiled_list-requires-clause-within : goal.compiled_list-requires-clause-within
compiled_list-requires-clause-within c =
    (own_guard c.args.domain.now c.args.link c.link.result c.cycle_time-cycle_time.result.0 c.guard-guard.result.0 c.from.result
    c.cycle_time-cycle_time.ensures.accepted c.link.ensures c.cycle_time-cycle_time.ensures.value c.guard-guard.ensures
    (c.from.ensures ∙ c.guard_by-own.ensures)).1

pub returns : goal.returns
returns c =
    own_list c.args.domain.now c.args.link c.link.result c.cycle_time-cycle_time.result.0 c.guard-guard.result.0 c.from.result c.compiled_list.result
    c.link.ensures c.cycle_time-cycle_time.ensures.value c.guard-guard.ensures (c.from.ensures ∙ c.guard_by-own.ensures) c.compiled_list.ensures
