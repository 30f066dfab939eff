use Rattle.cqf_instants_run.proofs.OfParts.{parts_are_book}
use Rattle.cqf_instants_run.proofs.parts.book_of_parts.Goals as goal

pub returns-clause-book : goal.returns-clause-book
returns-clause-book c =
    parts_are_book c.tables_are_orderly.ensures.orderly c.book_of_history_is_there.ensures c.args.starts.items c.args.background.items c.args.drops.items
