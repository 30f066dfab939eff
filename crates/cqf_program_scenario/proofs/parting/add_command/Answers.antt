use Rattle.std.proofs.Common.{arith}
use Rattle.cqf_program_scenario.proofs.Commands.{AddsCommand-set}
use Rattle.cqf_program_scenario.proofs.parting.add_command.Goals as goal

pub returns-in_ok-push : goal.returns-in_ok-push
returns-in_ok-push c =
    AddsCommand-set c.args.lists.now.items c.from-index.result c.args.admin c.push.new.self c.index_mut.result.now _ c.args.command
    c.from-index.ensures (omega (arith, c.if-index-len.true, c.len.ensures, c.args.lists.now.ok.0)) c.index_mut.ensures.value c.in_ok-push.ensures.items
