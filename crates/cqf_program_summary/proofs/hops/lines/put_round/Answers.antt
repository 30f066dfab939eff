use Rattle.std.proofs.Common.{◌≡◌, ◌∙◌, All, AllPairs, List, ap, arith, subst, sym}
use Rattle.std.proofs.lemmas.Bool.{true≢false}
use Rattle.std.proofs.lemmas.List.Sorted.{All-permutation}
use Rattle.cqf_output.specs.Writer.{Puts}
use Rattle.cqf_program_summary.specs.declared.hops.legs.Leg.{Leg}
use Rattle.cqf_program_summary.specs.Hops.Gathered.{IsLegInTime}
use Rattle.cqf_program_summary.specs.Hops.Legs.{AreApart, AreByFrame}
use Rattle.cqf_program_summary.specs.Hops.Rounds.{source_of}
use Rattle.cqf_program_summary.specs.Hops.Text.{lines_of_legs}
use Rattle.cqf_program_summary.proofs.Going.{room_sorted, stands_sorted}
use Rattle.cqf_program_summary.proofs.hops.lines.put_round.Goals as goal

pub unreachable-requires : goal.unreachable-requires
unreachable-requires g c =
    let can = c.requires.can in
    true≢false (sym (c.in-Err.ensures.succeeds can.0 can.1.stands can.1.room))

pub sort_here-requires : goal.sort_here-requires
sort_here-requires g c =
    let can = c.requires.can in
    subst (λ (xs : List Leg). AllPairs AreApart xs) (sym (c.in-Ok.ensures.ok.gone can.0 can.1.stands).here) can.1.apart

pub put_each-requires : goal.put_each-requires
put_each-requires g c =
    let can = c.requires.can in
    let d = c.args.domain.now in
    subst (λ (xs : List Leg). All (IsLegInTime d) xs) (sym c.as_slice.ensures.value)
    (All-permutation (IsLegInTime d) c.go_through.new.self.here.items c.sort_here.new.self.here.items c.sort_here.ensures.here.same
    (subst (λ (xs : List Leg). All (IsLegInTime d) xs) (sym (c.in-Ok.ensures.ok.gone can.0 can.1.stands).here) can.1.in_time))

pub returns : goal.returns
returns g c = λ starts can.
    let mid = c.go_through.new.self in
    let new = c.sort_here.new.self in
    let gone = c.in-Ok.ensures.ok in
    let went = gone.gone starts can.stands in
    let rest = c.sort_here.ensures.rest in
    let W = g.W.Write.contents in
    record {
      stands = stands_sorted starts (source_of c.args.run.now) mid new went.stands rest.0 rest.1 rest.2;
      at = rest.1 ∙ gone.at;
      room = room_sorted c.args.under_way.now mid new c.in-Ok.ensures.capacity rest.2 c.sort_here.ensures.capacity;
      legs = new.here.items;
      are = subst (λ (xs : List Leg). AreByFrame xs new.here.items) went.here c.sort_here.ensures.here;
      put = subst (λ (xs : List Leg). Puts W c.args.writer.now c.put_each.new.writer (lines_of_legs c.args.domain.now c.args.run.now.offers.now xs))
          c.as_slice.ensures.value c.put_each.ensures;
    }
