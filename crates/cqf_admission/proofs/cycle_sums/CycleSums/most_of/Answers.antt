use Rattle.std.proofs.Common.{◌<◌, ◌∙◌, ap, subst, sym}
use Rattle.cqf_admission.specs.ActiveCycles.{SumsByCycle, most_of}
use Rattle.cqf_admission.proofs.ActiveCycleLemmas.{greatest_is}
use Rattle.cqf_admission.proofs.cycle_sums.CycleSums.most_of.Goals as goal

pub returns : goal.returns
returns c =
    c.index.ensures
    ∙ greatest_is (record { links = c.self.inside.links; sums = c.self.inside.sums.items }) c.self.inside.greatest.items c.self.invariant c.from.result c.args.link
    c.index.result.now (subst (λ (by_cycle : SumsByCycle). c.args.link < by_cycle.links) (sym c.self.view_is) c.requires) c.from.ensures
    ∙ ap (λ (by_cycle : SumsByCycle). most_of by_cycle c.args.link) c.self.view_is
