use Rattle.std.proofs.Common.{◌≡◌, ◌∙◌, ◌+◌, ◌-◌, ◌∷◌, [], ℕ, List, ap, arith, get_or, subst, sym, take}
use Rattle.std.specs.Prelude.{fold}
use Rattle.std.proofs.lemmas.List.{take_more}
use Rattle.std.proofs.lemmas.List.Sums.{fold-append}
use Rattle.cqf_program_runs.specs.declared.deliveries.delivery.Delivery.{Delivery}
use Rattle.cqf_program_summary.specs.Summary.Counting.{FareWithin, fare_with}
use Rattle.cqf_program_summary.proofs.Within.{fare_later}
use Rattle.cqf_program_summary.proofs.summary.fares.Fares.add_each.Goals as goal

pub add-requires : goal.add-requires
add-requires c =
    let index = c.loop-index.index in
    let most : 3372220015 + index + (199 - index) ≡ 3372220214 = omega (arith, c.loop-index-test.true, c.requires.few) in
    subst (λ (n : ℕ). FareWithin n c.loop-index.self) most
    (fare_later (3372220015 + index) (199 - index) c.loop-index.self (c.loop-index.invariant.more 3372220015 c.requires.within))

pub loop-index-preserved : goal.loop-index-preserved
loop-index-preserved c =
    let index = c.loop-index.index in
    let here = c.args.here.now in
    let item = c.index-here-index.result in
    record {
      is = c.add.ensures.fare
          ∙ (λ i. fare_with (c.loop-index.invariant.is i) (c.index-here-index.is i))
          ∙ sym (ap (λ (xs : List Delivery). fold fare_with c.args.self.now xs) (take_more here index item c.loop-index-test.true)
          ∙ fold-append fare_with c.args.self.now (take index here) (get_or here index item ∷ []));
      more = λ many is.
          let more : many + index + 1 ≡ many + (index + 1) = omega arith in
          subst (λ (n : ℕ). FareWithin n c.add.new.self) more (c.add.ensures.more (many + index) (c.loop-index.invariant.more many is));
    }

pub returns-clause-more : goal.returns-clause-more
returns-clause-more c = λ many is.
    let index = c.loop-index.index in
    let most : many + index + (200 - index) ≡ many + 200 = omega (arith, c.loop-index.auto.index-end, c.requires.few) in
    subst (λ (n : ℕ). FareWithin n c.loop-index.self) most
    (fare_later (many + index) (200 - index) c.loop-index.self (c.loop-index.invariant.more many is))
