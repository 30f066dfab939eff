use Rattle.std.proofs.Common.{◌∙◌, [], List, ap, subst, sym}
use Rattle.cqf_program_summary.specs.declared.summary.fares.ListenerPath.{ListenerPath}
use Rattle.cqf_program_summary.specs.declared.summary.listing.ListedStream.{ListedStream}
use Rattle.cqf_program_summary.specs.Summary.Counting.{AreApart}
use Rattle.cqf_program_summary.specs.Summary.Listing.{MayBeSummed, cost_beside}
use Rattle.cqf_program_summary.specs.Summary.{paths_of}
use Rattle.cqf_program_summary.proofs.Apart.{paths_apart}
use Rattle.cqf_program_summary.proofs.Listed.{stream_summed}
use Rattle.cqf_program_summary.proofs.summary.fares.Fares.new.Goals as goal

pub paths_of-requires-clause-summable : goal.paths_of-requires-clause-summable
paths_of-requires-clause-summable c =
    let of = c.requires.listed in
    subst (λ (listed : ListedStream). MayBeSummed listed.row) (sym of.1) (stream_summed c.args.domain.now of.0 c.know.ensures.accepted)

pub invariant_of-result : goal.invariant_of-result
invariant_of-result c =
    let d = c.args.domain.now in
    let cost = cost_beside c.args.costs.now c.args.listed.now.row in
    let of = c.requires.listed in
    subst (λ (paths : List ListenerPath). AreApart paths)
    (sym (c.in_ok-paths.ensures ∙ ap (λ (listed : ListedStream). paths_of d cost [] listed.row) of.1))
    (paths_apart d c.know.ensures.names cost [] of.0)
