use Rattle.std.proofs.Common.{◌≡◌, ◌∙◌, ◌++◌, [], List, ap, append-nil, arith, get_or, length, sym}
use Rattle.cqf_lists.proofs.Members.{contains_none}
use Rattle.cqf_lists.proofs.Pairs.{pairs_none}
use Rattle.cqf_output.specs.Writer.{Puts}
use Rattle.cqf_output.proofs.WriterLemmas.{Puts-as, Puts-then}
use Rattle.cqf_report.specs.Written.{line_of_fields}
use Rattle.cqf_program_summary.specs.declared.hops.legs.Leg.{Leg}
use Rattle.cqf_program_summary.specs.declared.hops.rounds.Round.{Round}
use Rattle.cqf_program_summary.specs.Hops.Legs.{IsBefore}
use Rattle.cqf_program_summary.specs.Hops.Rounds.{round_before, written_from}
use Rattle.cqf_program_summary.specs.Hops.Text.{hops_header, text_of_legs}
use Rattle.cqf_program_summary.proofs.Writing.{leg_frame, one_more_written, round_can, round_later, written_all}
use Rattle.cqf_program_summary.proofs.hops.lines.put_rounds.Goals as goal

pub loop-round-init : goal.loop-round-init
loop-round-init g c = λ starts can.
    let frames = ap (λ (r : Round). r.frames) c.requires.first in
    record {
      stands = c.requires.stands starts can.is;
      at = c.requires.first;
      kept_room = omega arith;
      here_room = omega arith;
      legs = [];
      in_order = pairs_none IsBefore;
      only = λ x among. absurd (contains_none x among);
      each = λ x among upto.
          absurd (omega (arith, frames, upto, (leg_frame starts (written_from c.args.domain.now c.args.run.now c.args.rounds.now c.args.under_way) can x among).0));
      put = Puts-as (line_of_fields hops_header) (line_of_fields hops_header ++ []) (sym (append-nil (line_of_fields hops_header))) c.put_header.ensures;
    }

pub put_round-requires-clause-reported : goal.put_round-requires-clause-reported
put_round-requires-clause-reported g c = (c.loop-round.invariant c.requires.can.0 c.requires.can.1).stands.reported

pub put_round-requires-clause-next : goal.put_round-requires-clause-next
put_round-requires-clause-next g c =
    let can = c.requires.can in
    let P = Puts g.W.Write.contents c.args.writer.now c.loop-round.writer in
    round_later can.0 (written_from c.args.domain.now c.args.run.now c.args.rounds.now c.args.under_way) can.1 c.loop-round.round-index c.loop-round-test.true
    c.loop-round.under_way c.loop-round.under_way P P P (c.loop-round.invariant can.0 can.1)

pub put_round-requires-clause-drops : goal.put_round-requires-clause-drops
put_round-requires-clause-drops g c = (c.requires.can.1.rounds.each c.loop-round.round-index c.loop-round-test.true).goes_on.drops_within

pub put_round-requires-clause-can : goal.put_round-requires-clause-can
put_round-requires-clause-can g c =
    let can = c.requires.can in
    let P = Puts g.W.Write.contents c.args.writer.now c.loop-round.writer in (
      can.0,
      round_can can.0 (written_from c.args.domain.now c.args.run.now c.args.rounds.now c.args.under_way) can.1 c.loop-round.round-index c.loop-round-test.true
          c.loop-round.under_way c.loop-round.under_way P P P (c.loop-round.invariant can.0 can.1),
    )

pub loop-round-preserved : goal.loop-round-preserved
loop-round-preserved g c = λ starts can.
    let reported = written_from c.args.domain.now c.args.run.now c.args.rounds.now c.args.under_way in
    let so_far = c.loop-round.invariant starts can in
    let W = g.W.Write.contents in
    let First = Puts W c.args.writer.now c.loop-round.writer in
    let More = Puts W c.loop-round.writer c.put_round.new.writer in
    let Whole = Puts W c.args.writer.now c.put_round.new.writer in
    one_more_written starts reported can c.loop-round.round-index c.loop-round-test.true c.loop-round.under_way c.put_round.new.under_way First More Whole so_far
    (λ a b p q. Puts-then a b p q)
    (c.put_round.ensures starts (round_can starts reported can c.loop-round.round-index c.loop-round-test.true c.loop-round.under_way c.put_round.new.under_way
    First More Whole so_far))

pub returns : goal.returns
returns g c = λ starts legs can are.
    let reported = written_from c.args.domain.now c.args.run.now c.args.rounds.now c.args.under_way in
    let so_far = c.loop-round.invariant starts can in
    let all : c.loop-round.round-index ≡ length c.args.rounds.now = omega arith in
    let frames = ap (λ (r : Round). r.frames) (so_far.at ∙ ap (round_before c.args.rounds.now) all) ∙ can.rounds.all in
    Puts-as _ (text_of_legs c.args.domain.now c.args.run.now.offers.now legs)
    (ap (text_of_legs c.args.domain.now c.args.run.now.offers.now)
    (written_all starts reported can so_far.legs legs c.loop-round.under_way.at.frames frames so_far.in_order so_far.only so_far.each are)) so_far.put
