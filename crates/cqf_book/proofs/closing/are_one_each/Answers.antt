use Rattle.std.proofs.Common.{ℕ, ◌≡◌, ◌∙◌, ap, inl, inr, arith, count_by}
use Rattle.std.proofs.lemmas.Bool.{cases_lt}
use Rattle.cqf_book.specs.Shares.{is_of}
use Rattle.cqf_book.proofs.closing.are_one_each.Goals as goal

-- the bridge has one share too
pub loop-bridge-preserved : goal.loop-bridge-preserved
loop-bridge-preserved c = (
  c.loop-bridge.invariant.0,
  λ bridge below. elim (cases_lt bridge c.loop-bridge.bridge) [
    | inl earlier ↦ c.loop-bridge.invariant.1 bridge earlier
    | inr last ↦
        let same : bridge ≡ c.loop-bridge.bridge = omega arith in
        let one : count_by (is_of c.loop-bridge.bridge) c.args.shares.now ≡ 1 = omega arith in
        ap (λ (b : ℕ). count_by (is_of b) c.args.shares.now) same ∙ one
  ],
)
