use Rattle.std.proofs.Common.{◌∙◌, ap, rules, sym, take}
use Rattle.std.proofs.lemmas.List.{places, with_items_is}
use Rattle.cqf_program_engine.proofs.EdgeLemmas.{HasRead-filled}
use Rattle.cqf_program_engine.proofs.filled.Filled.fill.Goals as goal

pub returns-in-Ok-clause-read : goal.returns-in-Ok-clause-read
returns-in-Ok-clause-read g c =
    HasRead-filled _ _ c.args.self.now c.self.inside.bytes.items c.make_room.new.bytes.items c.read_at.new.buffer _ c.self.inside.count c.in-Ok.count
    c.args.most (sym c.self.view_is) c.self.invariant c.make_room.ensures.front
    (c.in-Ok.ensures.front ∙ ap (take c.self.inside.count) c.as_mut_slice.ensures.value) c.in-Ok.ensures.ok c.in-Ok.ensures.few
    (with_items_is c.make_room.new.bytes c.read_at.new.buffer (search (rules, places)))
