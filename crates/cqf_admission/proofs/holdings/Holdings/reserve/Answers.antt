use Rattle.std.proofs.Common.{ap, map, refl}
use Rattle.cqf_admission.specs.Holdings.{standing_of}
use Rattle.cqf_admission.proofs.Figures.{figures_same}
use Rattle.cqf_admission.proofs.holdings.Holdings.reserve.Goals as goal

pub invariant_of-self : goal.invariant_of-self
invariant_of-self c =
    figures_same (map standing_of c.self.inside.rows.items) (map standing_of c.reserve_each.new.rows.items) c.self.inside.by_name c.self.inside.by_name
    c.self.inside.held.items c.reserve_each.new.held.items c.self.inside.sums c.self.inside.sums c.self.invariant
    (ap (map standing_of) c.reserve_each.ensures.rows) refl c.reserve_each.ensures.held refl
