use Rattle.std.proofs.Common.{refl, rules}
use Rattle.cqf_world.proofs.Sealing.{closed_world}
use Rattle.cqf_world.proofs.world.World.seal.Goals as goal

pub invariant_of-self-else-is_err : goal.invariant_of-self-else-is_err
invariant_of-self-else-is_err c =
    closed_world _ c.self.inside.tables.items c.close_cycle-closed.new.tables.items c.self.inside.driven.items c.self.inside.lines.items c.self.inside.admission
    c.close_cycle-closed.new.admission c.args.seat _ c.self.invariant c.self.view_is c.requires.goes_on c.requires.may refl refl
    (search rules) c.know.ensures.legal c.state_follows_history.ensures.counted c.closed_tables_stay.ensures
    c.tables_are_orderly.ensures.count c.shorter_book_is_the_beginning.ensures c.legal_network_exists.ensures c.longer_run_keeps_its_cycles.ensures
    c.longer_run_is_followed.ensures.longer c.longer_run_is_followed.ensures.longer_halfway
