use Rattle.std.proofs.Common.{◌∷◌, rules, sym, ◌∙◌, arith, map, refl, inl, inr}
use Rattle.std.proofs.lemmas.Bool.{false≢true}
use Rattle.cqf_worker_loops.specs.declared.carried.Carried.TheVariants.{Item}
use Rattle.cqf_worker_loops.specs.Handing.{tables_handed}
use Rattle.cqf_worker_loops.proofs.HandedTables.{handed_as, hands_next, hands_none, misses_next, misses_none}
use Rattle.cqf_worker_loops.proofs.sealing.hand_on.Goals.{then-not-hand, else-not-hand}
use Rattle.cqf_worker_loops.proofs.sealing.hand_on.Goals as goal

-- no end was given them yet
pub loop-index-init : goal.loop-index-init
loop-index-init g c = (
  hands_none (map Item (tables_handed c.args.block.now)) c.args.tables.now,
  refl,
  misses_none
      (map Item (tables_handed c.args.block.now)) c.args.tables.now,
)

-- the next end was given them, unless its worker has ended
pub loop-index-preserved : goal.loop-index-preserved
loop-index-preserved g c =
    let tables = map Item (tables_handed c.args.block.now) in (
      hands_next tables c.args.tables.now c.loop-index.tables c.loop-index.index c.loop-index.all c.index-tables-index.result
          c.hand.new.end c.hand.result c.if-not-hand.all c.loop-index.invariant.0 (omega arith)
          (handed_as tables (Item c.in_ok-first.first ∷ c.in_ok-following.following.items) _ _ _ (search rules) c.hand.ensures.given c.hand.ensures.gone)
          (λ is. elim c.if-not-hand.branch [
            | then-not-hand w ↦ absurd (false≢true (sym w.all-is ∙ is))
            | else-not-hand w ↦ (sym w.all-is ∙ is, search rules)
          ]),
      c.loop-index.invariant.1,
      misses_next tables c.args.tables.now c.loop-index.tables c.loop-index.index c.loop-index.all c.index-tables-index.result
          c.hand.new.end c.hand.result c.if-not-hand.all c.loop-index.invariant.0 (omega arith) c.loop-index.invariant.2 c.hand.ensures.gone
          (λ is. elim c.if-not-hand.branch [
            | then-not-hand w ↦ inr (search rules)
            | else-not-hand w ↦ inl (sym w.all-is ∙ is)
          ]),
    )

-- if one end wasn't, one of all is unchanged
pub returns-clause-missed : goal.returns-clause-missed
returns-clause-missed g c is =
    let missed = c.loop-index.invariant.2 is in
    (missed.0, omega (arith, missed.1, c.loop-index.invariant.1), missed.2)
