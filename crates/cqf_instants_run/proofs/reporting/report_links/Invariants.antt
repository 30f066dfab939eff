-- The entries of the first links are appended.
use Rattle.std.proofs.Common.{◌≡◌, ◌++◌, [], get_or, length}
use Rattle.std.specs.Vec.Iter.{into_iter_items}
use Rattle.cqf_lists.specs.ByNumber.{lists_of}
use Rattle.cqf_instants_run.specs.Sending.{ReportsLinks}
use Rattle.cqf_instants_run.proofs.reporting.report_links.Given as goal

abbrev pub invariant-loop-arrivals : goal.invariant-loop-arrivals
invariant-loop-arrivals l =
    (l.yielded ++ into_iter_items l.arrivals-iterator ≡ l.fn.lists.items)
    × (length l.yielded ≡ l.link)
    × ReportsLinks l.domain l.end.0 (λ k. get_or (lists_of l.fn.lists.items) k []) l.link l.starts.items
