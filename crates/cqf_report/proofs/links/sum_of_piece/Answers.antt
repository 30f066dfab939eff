use Rattle.std.proofs.Common.{ap, ◌∙◌}
use Rattle.cqf_report.proofs.LinkCounts.{piece_fits, piece_summed}
use Rattle.cqf_report.proofs.links.sum_of_piece.Goals as goal

pub sum-requires-clause-fits : goal.sum-requires-clause-fits
sum-requires-clause-fits g c κs within xs h =
    let slice = ap (λ it. it.slice.now) c.map.ensures.base ∙ c.par_iter.ensures in
    piece_fits c.args.piece.now h.0 xs (h.1 ∙ slice) h.2 c.requires

pub returns : goal.returns
returns g c =
    let slice = ap (λ it. it.slice.now) c.map.ensures.base ∙ c.par_iter.ensures in
    let chain = c.sum.ensures.1 in
    c.sum.ensures.2 ∙ piece_summed c.args.piece.now chain.0 c.sum.ensures.0 (chain.1 ∙ slice) chain.2
