use Rattle.std.proofs.Common.{◌<◌, ◌∙◌, ap, map, subst, sym}
use Rattle.cqf_admission.specs.Holdings.{Stands, held_most, held_under, standing_of}
use Rattle.cqf_admission.proofs.Figures.{most_reported}
use Rattle.cqf_admission.proofs.holdings.Holdings.most_of.Goals as goal

pub returns : goal.returns
returns c =
    let low : c.args.link < c.self.inside.sums.links = subst (λ (h : Stands). c.args.link < h.links) (sym c.self.view_is) c.requires in
    c.most_of.ensures
    ∙ most_reported (map standing_of c.self.inside.rows.items) (held_under c.self.inside.by_name) c.self.inside.held.items c.self.inside.sums c.self.invariant
    c.args.link low
    ∙ ap (λ (h : Stands). held_most h.rows c.args.link) c.self.view_is
