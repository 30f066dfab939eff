use Rattle.cqf_worker.specs.Wires.{ins_at, outs_at}
use Rattle.cqf_worker.proofs.Unwiring.{all_fed, all_given, on_links, same_pipes}
use Rattle.cqf_worker.proofs.closing.close_pipes.Goals as goal

-- the ends are of the pipes on their links
pub close_links-requires : goal.close_links-requires
close_links-requires c =
    let wired = c.requires.wired in (
      wired.0,
      on_links wired.0 c.args.workers.items c.in_ok-parts.parts.ins.items ins_at c.in_ok-parts.ensures.all_ins wired.1.at_ins,
      on_links wired.0 c.args.workers.items c.in_ok-parts.parts.outs.items outs_at c.in_ok-parts.ensures.all_outs wired.1.at_outs,
    )

-- index by index the ends for tables are of one pipe
pub close_tables-requires : goal.close_tables-requires
close_tables-requires c = same_pipes c.args.tables.items c.args.workers.items c.in_ok-parts.parts c.in_ok-parts.ensures c.requires.tables

-- what was taken is a prefix of what was put
pub returns-clause-fed : goal.returns-clause-fed
returns-clause-fed c = all_fed c.args.workers.items c.in_ok-parts.parts c.in_ok-parts.ensures c.in_ok-close_links.ensures.fed

pub returns-clause-given : goal.returns-clause-given
returns-clause-given c = all_given c.args.tables.items c.args.workers.items c.in_ok-parts.parts c.in_ok-parts.ensures c.close_tables.ensures
