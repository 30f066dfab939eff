use Rattle.std.proofs.Common.{◌≡◌, ◌∙◌, ◌≤◌, List, ap, arith, length, refl, subst, sym}
use Rattle.std.proofs.lemmas.Bool.{true≢false}
use Rattle.cqf_program_summary.specs.declared.hops.legs.Leg.{Leg}
use Rattle.cqf_program_summary.specs.declared.hops.steps.LegsUnderWay.{LegsUnderWay}
use Rattle.cqf_program_summary.specs.Hops.Rounds.{legs_up_to, source_of}
use Rattle.cqf_program_summary.proofs.Going.{has_gone, room_of_drops, room_up_to}
use Rattle.cqf_program_summary.proofs.hops.steps.LegsUnderWay.go_through.Goals as goal

pub returns-clause-ok : goal.returns-clause-ok
returns-clause-ok c =
    let round = c.args.round.now in
    let mid = c.write_up_to.new.self in
    let reports = c.in_ok-write_up_to.ensures.ok in
    record {
      reported = reports.reported;
      at = refl;
      gone = λ starts stands.
          has_gone starts (source_of c.args.run.now) round c.args.self.now mid
          (record { pass = mid.pass; at = round; kept = c.keep_after.new.kept; here = c.push_drops.new.legs }) c.take_up_to.new.here.items stands reports
          c.requires.next refl refl
          (c.in_ok-take_up_to.ensures.ok ∙ ap (legs_up_to round.frames) c.as_slice.ensures.value)
          c.in_ok-push_drops.ensures.ok c.keep_after.ensures.legs c.keep_after.ensures.capacity;
    }

pub returns-clause-capacity : goal.returns-clause-capacity
returns-clause-capacity c =
    let room = c.in_ok-write_up_to.ensures.capacity in
    record {
      kept = omega (arith, room.kept, c.keep_after.ensures.capacity);
      here = omega (arith, room.here, c.in_ok-take_up_to.ensures.capacity, c.in_ok-push_drops.ensures.capacity);
    }

pub returns-in_err-write_up_to-clause-succeeds : goal.returns-in_err-write_up_to-clause-succeeds
returns-in_err-write_up_to-clause-succeeds c = λ starts stands room.
    absurd (true≢false (sym (c.in_err-write_up_to.ensures.succeeds starts stands room.for_kept)))

pub returns-in_err-take_up_to-clause-succeeds : goal.returns-in_err-take_up_to-clause-succeeds
returns-in_err-take_up_to-clause-succeeds c = λ starts stands room.
    absurd (true≢false (sym (c.in_err-take_up_to.ensures.succeeds
    (room_up_to starts (source_of c.args.run.now) c.args.round.now c.args.self.now c.write_up_to.new.self c.as_slice.result.now _ stands
    c.in_ok-write_up_to.ensures.ok room c.as_slice.ensures.value))))

pub returns-in_err-push_drops-clause-succeeds : goal.returns-in_err-push_drops-clause-succeeds
returns-in_err-push_drops-clause-succeeds c = λ starts stands room.
    absurd (true≢false (sym (c.in_err-push_drops.ensures.succeeds
    (room_of_drops starts (source_of c.args.run.now) c.args.round.now c.args.self.now c.write_up_to.new.self c.as_slice.result.now c.take_up_to.new.here.items _ _
    stands c.in_ok-write_up_to.ensures.ok room c.as_slice.ensures.value c.in_ok-take_up_to.ensures.ok c.in_ok-take_up_to.ensures.capacity))))
