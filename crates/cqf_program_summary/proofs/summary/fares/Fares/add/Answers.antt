use Rattle.std.proofs.Common.{◌+◌, arith, rules, subst, sym}
use Rattle.std.proofs.lemmas.List.{places, with_items_is}
use Rattle.cqf_program_summary.specs.Summary.Counting.{AreApart, FareWithin, PathsWithin}
use Rattle.cqf_program_summary.proofs.Apart.{passage_apart}
use Rattle.cqf_program_summary.proofs.summary.fares.Fares.add.Goals as goal

pub invariant_of-self : goal.invariant_of-self
invariant_of-self c =
    let written = with_items_is c.self.inside.paths c.add_passage.new.paths (search (rules, places)) in
    subst AreApart (sym written) (subst AreApart (sym c.add_passage.ensures.paths)
    (passage_apart _ _ _ _ (subst AreApart (sym c.as_mut_slice.ensures.value) c.self.invariant)))

pub returns-clause-more : goal.returns-clause-more
returns-clause-more c = λ many is.
    let written = with_items_is c.self.inside.paths c.add_passage.new.paths (search (rules, places)) in
    let before = subst (FareWithin many) (sym c.self.view_is) is in
    record {
      offered = omega (arith, before.offered);
      dropped = omega (arith, before.dropped, c.drops_of.ensures.one);
      paths = subst (PathsWithin (many + 1)) (sym written)
          (c.add_passage.ensures.more many (subst (PathsWithin many) (sym c.as_mut_slice.ensures.value) before.paths));
    }
