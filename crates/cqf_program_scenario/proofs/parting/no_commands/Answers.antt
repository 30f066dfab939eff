use Rattle.cqf_program_scenario.proofs.Commands.{AreCommandsBy-none, AreCommandsBy-next}
use Rattle.cqf_program_scenario.proofs.parting.no_commands.Goals as goal

pub loop-admin-init : goal.loop-admin-init
loop-admin-init c = AreCommandsBy-none c.in_ok-lists.lists.items c.in_ok-lists.ensures.items

pub loop-admin-preserved : goal.loop-admin-preserved
loop-admin-preserved c =
    AreCommandsBy-next c.loop-admin._admin c.loop-admin.lists.items c.push.new.self.items c.new.result c.loop-admin.invariant c.new.ensures.items
    c.in_ok-push.ensures.items
