use Rattle.std.proofs.Common.{◌≡◌, ◌+◌, ℕ, arith, subst, sym}
use Rattle.cqf_program_summary.specs.Summary.Counting.{FareWithin}
use Rattle.cqf_program_summary.proofs.Within.{paths_later}
use Rattle.cqf_program_summary.proofs.summary.fares.Fares.add_offer.Goals as goal

pub returns-clause-more : goal.returns-clause-more
returns-clause-more c = λ many is.
    let before = subst (FareWithin many) (sym c.self.view_is) is in
    let more : many + 1 + 200 ≡ many + 201 = omega arith in
    subst (λ (n : ℕ). FareWithin n c.add_each.new.self) more (c.add_each.ensures.more (many + 1) (record {
      offered = omega (arith, before.offered);
      dropped = omega (arith, before.dropped);
      paths = paths_later many 1 c.self.inside.paths.items before.paths;
    }))
