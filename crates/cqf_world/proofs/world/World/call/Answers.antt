use Rattle.std.proofs.Common.{refl}
use Rattle.cqf_world.proofs.Entering.{called_world, no_seal}
use Rattle.cqf_world.proofs.world.World.call.Goals as goal

pub invariant_of-self-in_default : goal.invariant_of-self-in_default
invariant_of-self-in_default c =
    called_world _ c.self.inside.tables.items c.self.inside.driven.items c.self.inside.lines.items c.self.inside.admission
    c.ask-answer.new.admission c.args.seat _
    c.ask-answer.result c.state_follows_history.ensures.counted c.closed_tables_stay.ensures c.self.invariant refl refl (no_seal c.args.command.now)
    c.ask-answer.ensures c.know.ensures.legal

pub invariant_of-self-in_default-2 : goal.invariant_of-self-in_default-2
invariant_of-self-in_default-2 c =
    called_world _ c.self.inside.tables.items c.self.inside.driven.items c.self.inside.lines.items c.self.inside.admission
    c.ask-answer.new.admission c.args.seat _
    c.ask-answer.result c.state_follows_history.ensures.counted c.closed_tables_stay.ensures c.self.invariant refl refl (no_seal c.args.command.now)
    c.ask-answer.ensures c.know.ensures.legal
