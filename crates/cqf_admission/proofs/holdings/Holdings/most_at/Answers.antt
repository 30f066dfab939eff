use Rattle.std.proofs.Common.{◌<◌, ◌∙◌, ap, map, subst, sym}
use Rattle.cqf_admission.specs.Holdings.{Stands, held_most_at, held_under, standing_of}
use Rattle.cqf_admission.proofs.Figures.{most_reported_at}
use Rattle.cqf_admission.proofs.holdings.Holdings.most_at.Goals as goal

pub returns : goal.returns
returns c =
    let hop = c.args.hop.now in
    let low : hop.link < c.self.inside.sums.links = subst (λ (h : Stands). hop.link < h.links) (sym c.self.view_is) c.requires.inside in
    c.most_at.ensures
    ∙ most_reported_at (map standing_of c.self.inside.rows.items) (held_under c.self.inside.by_name) c.self.inside.held.items c.self.inside.sums c.self.invariant
    hop.link c.args.pace hop.hop_number low
    ∙ ap (λ (h : Stands). held_most_at h.rows hop.link c.args.pace hop.hop_number) c.self.view_is
