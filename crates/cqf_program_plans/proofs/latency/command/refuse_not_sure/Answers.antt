use Rattle.std.proofs.Common.{◌∙◌, ap, sym, option_copied}
use Rattle.cqf_lists.proofs.Members.{find_member}
use Rattle.cqf_program_plans.specs.Latency.Text.{is_not_sure}
use Rattle.cqf_program_plans.proofs.latency.command.refuse_not_sure.Goals as goal

pub latency_stop-requires : goal.latency_stop-requires
latency_stop-requires c =
    let found = sym c.first_not_sure.ensures ∙ ap option_copied c.in-Some.is in
    (find_member is_not_sure c.args.latencies.now c.in-Some.latency.now found).1
