use Rattle.std.proofs.Common.{◌≡◌, ◌∙◌, ◌+◌, ◌-◌, ℕ, ap, arith, subst, sym}
use Rattle.std.specs.Prelude.{slice_get}
use Rattle.std.proofs.lemmas.Option.{slice_get_within}
use Rattle.cqf_program_runs.proofs.InOrder.{EnoughBelow, enough_more, enough_same}
use Rattle.cqf_program_runs.proofs.deliveries.rooms.most_at_once.Goals as goal
use Rattle.cqf_program_runs.proofs.deliveries.rooms.most_at_once.Goals.{else-index-most, then-index-most+else-early-hop_number, then-index-most+then-early-hop_number}

pub loop-index-init : goal.loop-index-init
loop-index-init c = record {
  some = omega arith;
  few = omega arith;
  enough = λ p early late below at_early at_late. absurd (omega (arith, below));
}

pub loop-index-preserved : goal.loop-index-preserved
loop-index-preserved c =
    let n = c.args.domain.now.cycle_time in
    let offers = c.args.offers.now in
    let index = c.loop-index.index in
    let most = c.loop-index.most in
    let so_far = c.loop-index.invariant in
    let hop_number = c.from-hop_number.result in
    elim c.if-index-most.branch [
      | then-index-most+then-early-hop_number w ↦ record {
        some = omega (arith, w.most-is);
        few = omega (arith, w.most-is, so_far.few);
        enough = subst (λ (k : ℕ). EnoughBelow n offers hop_number (index + 1) k) (sym w.most-is)
            (enough_more n offers c.requires.order hop_number index most so_far.enough so_far.some);
      }
      | then-index-most+else-early-hop_number w ↦ record {
        some = omega (arith, w.most-is, so_far.some);
        few = omega (arith, w.most-is, so_far.few);
        enough = subst (λ (k : ℕ). EnoughBelow n offers hop_number (index + 1) k) (sym w.most-is)
            (enough_same n offers c.requires.order hop_number index most so_far.enough (λ p early late same at_early at_late.
            let first : p ≡ index - most = omega (arith, same) in
            omega (
              arith,
              w.if-early-hop_number.false,
              w.cycle_there-early.ensures.is early (ap (slice_get offers) (sym first) ∙ at_early),
              w.cycle_there-late.ensures.is late at_late,
            )));
      }
      | else-index-most w ↦ record {
        some = omega (arith, w.most-is, so_far.some);
        few = omega (arith, w.most-is, so_far.few);
        enough = subst (λ (k : ℕ). EnoughBelow n offers hop_number (index + 1) k) (sym w.most-is)
            (enough_same n offers c.requires.order hop_number index most so_far.enough (λ p early late same at_early at_late.
            absurd (omega (arith, same, w.if-index-most.false))));
      }
    ]

pub returns-clause-enough : goal.returns-clause-enough
returns-clause-enough c = λ index early late at_early at_late.
    let offers = c.args.offers.now in
    omega (
      arith,
      c.loop-index.invariant.enough index early late
          (omega (arith, slice_get_within offers (index + c.loop-index.most) late at_late, c.loop-index-test.false)) at_early at_late,
      c.from-hop_number.ensures,
    )
