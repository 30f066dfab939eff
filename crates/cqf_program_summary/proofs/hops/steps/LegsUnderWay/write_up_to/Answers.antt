use Rattle.std.proofs.Common.{ℕ, ◌≡◌, ◌∙◌, ◌+◌, ◌<◌, ◌≤◌, ◌++◌, List, ap, arith, length, refl, subst, sym}
use Rattle.std.specs.Prelude.{vec_capacity}
use Rattle.std.proofs.lemmas.Bool.{true≢false}
use Rattle.cqf_instants.specs.Progress.{AreStartsOf, Progress}
use Rattle.cqf_instants.specs.declared.basis.Basis.{Basis}
use Rattle.cqf_program_summary.specs.declared.hops.rounds.Round.{Round}
use Rattle.cqf_program_summary.specs.Hops.Rounds.{WritesKept, kept_in, legs_after, source_of, started_legs, starts_before}
use Rattle.cqf_program_summary.proofs.InRounds.{all_before, room_to_write, writes_more}
use Rattle.cqf_program_summary.proofs.hops.steps.LegsUnderWay.write_up_to.Goals as goal

pub loop-cycle-init : goal.loop-cycle-init
loop-cycle-init c = record {
  kept = record { basis = refl; reported = c.requires.reported; at = refl; here = refl; kept = λ starts stands. stands.kept };
  room = record { kept = omega arith; here = omega arith };
}

pub loop-cycle-preserved : goal.loop-cycle-preserved
loop-cycle-preserved c =
    let next = c.next_cycle.ensures.next c.if-not-next_cycle.false in
    let so = c.loop-cycle.invariant.kept in
    let room = c.loop-cycle.invariant.room in
    let index = c.loop-cycle._cycle in
    let old = c.loop-cycle.self.pass in
    let source = source_of c.args.run.now in
    let at_index : old.reported ≡ index = omega (arith, so.reported, next.in_run) in
    record {
      kept = record {
        basis = next.basis ∙ so.basis;
        reported = omega (arith, next.reported, at_index, next.in_run, ap (λ (b : Basis). b.cycles) next.basis);
        at = so.at;
        here = so.here;
        kept = λ starts stands.
            let are : AreStartsOf old.basis starts = subst (λ (b : Basis). AreStartsOf b starts) (sym so.basis) stands.is in
            writes_more starts source index old.basis are c.args.self.now.at c.loop-cycle.self.kept.items c.push_starts.new.legs.items old.reported
            c.starts.result.now at_index (omega (arith, at_index, next.in_run)) (so.kept starts stands)
            (c.in_ok-push_starts.ensures.ok
            ∙ ap (λ (r : Round). c.loop-cycle.self.kept.items ++ legs_after r.frames (started_legs source c.starts.result.now)) so.at)
            (c.starts.ensures ∙ next.starts are.given are.is);
      };
      room = record { kept = omega (arith, room.kept, c.in_ok-push_starts.ensures.capacity); here = room.here };
    }

pub returns-clause-ok : goal.returns-clause-ok
returns-clause-ok c =
    let all : c.loop-cycle._cycle ≡ c.args.cycles = omega (arith, c.requires.later) in
    subst (λ (n : ℕ). WritesKept (source_of c.args.run.now) n c.args.self.now c.loop-cycle.self) all c.loop-cycle.invariant.kept

pub returns-clause-capacity : goal.returns-clause-capacity
returns-clause-capacity c = c.loop-cycle.invariant.room

pub returns-then-not-next_cycle-clause-ok : goal.returns-then-not-next_cycle-clause-ok
returns-then-not-next_cycle-clause-ok c =
    let over = c.next_cycle.ensures.over c.if-not-next_cycle.true in
    let so = c.loop-cycle.invariant.kept in
    let source = source_of c.args.run.now in
    let index = c.loop-cycle._cycle in
    let basis = ap (λ (p : Progress). p.basis) over.same in
    let cycles = ap (λ (b : Basis). b.cycles) basis in
    let reported = ap (λ (p : Progress). p.reported) over.same in
    let last : c.loop-cycle.self.pass.basis.cycles ≤ index = omega (arith, over.all, so.reported) in
    record {
      basis = basis ∙ so.basis;
      reported = omega (arith, reported, cycles, over.all, last, c.loop-cycle-test.true);
      at = so.at;
      here = so.here;
      kept = λ starts stands.
          let are : AreStartsOf c.loop-cycle.self.pass.basis starts = subst (λ (b : Basis). AreStartsOf b starts) (sym so.basis) stands.is in
          let same : starts_before index starts ≡ starts_before c.args.cycles starts =
          all_before are.given c.loop-cycle.self.pass.basis.cycles starts are.are index last
          ∙ sym (all_before are.given c.loop-cycle.self.pass.basis.cycles starts are.are c.args.cycles (omega (arith, last, c.loop-cycle-test.true))) in
          so.kept starts stands ∙ ap (kept_in source c.args.self.now.at) same;
    }

pub returns-then-not-next_cycle-clause-capacity : goal.returns-then-not-next_cycle-clause-capacity
returns-then-not-next_cycle-clause-capacity c =
    record { kept = c.loop-cycle.invariant.room.kept; here = c.loop-cycle.invariant.room.here }

pub returns-in_err-push_starts-clause-succeeds : goal.returns-in_err-push_starts-clause-succeeds
returns-in_err-push_starts-clause-succeeds c = λ starts stands fits.
    let next = c.next_cycle.ensures.next c.if-not-next_cycle.false in
    let so = c.loop-cycle.invariant.kept in
    let index = c.loop-cycle._cycle in
    let old = c.loop-cycle.self.pass in
    let source = source_of c.args.run.now in
    let at_index : old.reported ≡ index = omega (arith, so.reported, next.in_run) in
    let are : AreStartsOf old.basis starts = subst (λ (b : Basis). AreStartsOf b starts) (sym so.basis) stands.is in
    absurd (true≢false (sym (c.in_err-push_starts.ensures.succeeds
    (subst (λ (r : Round). length c.loop-cycle.self.kept.items + length (legs_after r.frames (started_legs source c.starts.result.now))
    ≤ vec_capacity c.loop-cycle.self.kept) (sym so.at)
    (room_to_write starts source index c.args.cycles old.basis are c.args.self.now.at c.loop-cycle.self.kept.items old.reported c.starts.result.now _ _ at_index
    (omega (arith, at_index, next.in_run)) c.loop-cycle-test.true (so.kept starts stands) (c.starts.ensures ∙ next.starts are.given are.is) fits
    c.loop-cycle.invariant.room.kept)))))
