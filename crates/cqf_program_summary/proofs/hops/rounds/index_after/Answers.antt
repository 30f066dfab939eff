use Rattle.std.proofs.Common.{ℕ, ◌≡◌, ◌∙◌, ◌<◌, ◌≤◌, ◌⊎◌, Some, ap, arith, inl, inr, sym}
use Rattle.std.specs.Prelude.{slice_get}
use Rattle.std.proofs.lemmas.Bool.{cases_lt}
use Rattle.cqf_program_summary.proofs.hops.rounds.index_after.Goals as goal

pub loop-index-init : goal.loop-index-init
loop-index-init c = λ index offer more less at.
    let is : c.args.from ≡ index = omega (arith, more, less) in
    c.requires.first offer (ap (slice_get c.args.offers.now) is ∙ at)

pub loop-index-preserved : goal.loop-index-preserved
loop-index-preserved c = λ index offer more less at. elim (cases_lt index c.loop-index.index) [
  | inl before ↦ c.loop-index.invariant index offer more before at
  | inr following ↦
      let is : c.loop-index.index ≡ index = omega (arith, following, less) in
      omega (arith, c.cycle_there.ensures.is offer (ap (slice_get c.args.offers.now) is ∙ at))
]
