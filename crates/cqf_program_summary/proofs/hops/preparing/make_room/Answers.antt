use Rattle.std.proofs.Common.{◌≡◌, ◌∙◌, ◌+◌, ap, arith, get_or, sym}
use Rattle.std.specs.Prelude.{min, suc}
use Rattle.cqf_program_summary.specs.declared.hops.rounds.Round.{Round}
use Rattle.cqf_program_summary.specs.Hops.Rounds.{no_round, round_before, source_of}
use Rattle.cqf_program_summary.proofs.Going.{rooms_more, round_after}
use Rattle.cqf_program_summary.proofs.hops.preparing.make_room.Goals as goal

pub loop-round-init : goal.loop-round-init
loop-round-init c = record {
  reported = omega (arith, c.requires.fresh, ap (λ (r : Round). r.cycles) c.requires.first);
  at = c.requires.first;
  rooms = λ starts stands. (stands, λ k below. absurd (omega (arith, below)));
}

pub go_through-requires-clause-next : goal.go_through-requires-clause-next
go_through-requires-clause-next c =
    round_after c.args.domain.now c.args.hop_number c.args.run.now.offers.now c.args.run.now.drops.now c.args.rounds.now c.loop-round.round-index
    c.loop-round.under_way.at c.requires.rounds c.loop-round-test.true c.loop-round.invariant.at

pub go_through-requires-clause-drops_within : goal.go_through-requires-clause-drops_within
go_through-requires-clause-drops_within c = (c.requires.rounds.each c.loop-round.round-index c.loop-round-test.true).goes_on.drops_within

pub loop-round-preserved : goal.loop-round-preserved
loop-round-preserved c =
    let gone = c.in_ok-go_through.ensures.ok in
    let rounds = c.args.rounds.now in
    let index = c.loop-round.round-index in
    let next : suc index ≡ index + 1 = omega arith in
    record {
      reported = gone.reported ∙ ap (λ (r : Round). min r.cycles c.go_through.new.self.pass.basis.cycles) (sym gone.at);
      at = gone.at ∙ ap (round_before rounds) next;
      rooms = λ starts stands.
          let so = c.loop-round.invariant.rooms starts stands in
          let went = gone.gone starts so.0 in (
            went.stands,
            rooms_more starts (source_of c.args.run.now) rounds index c.loop-round.under_way c.go_through.new.self c.loop-round.invariant.at
                c.in_ok-go_through.ensures.capacity went so.1,
          );
    }

pub returns : goal.returns
returns c = λ starts stands. λ k below.
    (c.loop-round.invariant.rooms starts stands).1 k (omega (arith, below, c.loop-round-test.false))
