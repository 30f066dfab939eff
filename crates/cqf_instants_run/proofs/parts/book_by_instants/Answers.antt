use Rattle.std.proofs.Common.{List, subst}
use Rattle.cqf_model.specs.declared.frames.Started.{Started}
use Rattle.cqf_model.specs.Book.{contents_of}
use Rattle.cqf_instants_run.specs.Parts.{AreBookOfHistory}
use Rattle.cqf_instants_run.proofs.OfParts.{quiet_parts_are_book}
use Rattle.cqf_instants_run.proofs.parts.book_by_instants.Goals as goal

pub returns-clause-book : goal.returns-clause-book
returns-clause-book c =
    let book = contents_of c.book_of_parts.result in
    quiet_parts_are_book c.args.starts.items c.args.drops.items book
    (subst (λ (none : List Started). AreBookOfHistory c.args.starts.items none c.args.drops.items book) c.new.ensures.items c.book_of_parts.ensures.book)
