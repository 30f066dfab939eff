use Rattle.std.proofs.Common.{ℕ, ◌≡◌, List, Contains, arith, length, subst, sym, take}
use Rattle.std.proofs.lemmas.List.{drop_all}
use Rattle.cqf_lists.proofs.Members.{contains_none}
use Rattle.cqf_model.specs.declared.frames.Dropped.{Dropped}
use Rattle.cqf_program_summary.proofs.Laid.{after_rises, one_more_of}
use Rattle.cqf_program_summary.proofs.hops.rounds.drops_before.Goals as goal

pub loop-at-preserved : goal.loop-at-preserved
loop-at-preserved c =
    one_more_of c.args.drops.now c.loop-at.at c.args.frames _ c.loop-at-test.true c.loop-at.invariant c.if-drops-at.false

pub returns-then-drops-at-clause-following : goal.returns-then-drops-at-clause-following
returns-then-drops-at-clause-following c = after_rises c.args.drops.now c.loop-at.at c.args.frames _ c.loop-at-test.true c.requires.rise c.if-drops-at.true

pub returns-clause-before : goal.returns-clause-before
returns-clause-before c = λ x among.
    let all : c.loop-at.at ≡ length c.args.drops.now = omega arith in
    c.loop-at.invariant x (subst (λ (n : ℕ). Contains (take n c.args.drops.now) x) (sym all) among)

pub returns-clause-following : goal.returns-clause-following
returns-clause-following c = λ x among.
    absurd (contains_none x (subst (λ (xs : List Dropped). Contains xs x) (drop_all _ c.args.drops.now (omega arith)) among))
