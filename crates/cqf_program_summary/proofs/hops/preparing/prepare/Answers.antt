use Rattle.std.proofs.Common.{◌≡◌, ◌∙◌, ◌<◌, ◌≤◌, ℕ, List, AllPairs, Contains, ap, arith, length, refl, subst, sym}
use Rattle.std.specs.Prelude.{vec_capacity}
use Rattle.cqf_instants.specs.Progress.{AreStartsOf}
use Rattle.cqf_model.specs.declared.frames.Dropped.{Dropped}
use Rattle.cqf_model.specs.declared.frames.Offer.{Offer}
use Rattle.cqf_model.specs.declared.topology.Row.{Row}
use Rattle.cqf_model.specs.Book.{Contents}
use Rattle.cqf_model.specs.Run.{AreOffers}
use Rattle.cqf_model.specs.Table.{residence}
use Rattle.cqf_program_runs.specs.Check.Checked.{greatest_hop_number}
use Rattle.cqf_program_runs.specs.Deliveries.UnderWay.{HopNumbersAreWithin}
use Rattle.cqf_program_runs.proofs.Greatest.{none_greater}
use Rattle.cqf_program_runs.proofs.Judged.{edge_verdicts_decide}
use Rattle.cqf_program_scenario.specs.Calls.{history_of}
use Rattle.cqf_program_scenario.specs.Closing.{scenario_given}
use Rattle.cqf_program_summary.specs.declared.hops.rounds.Round.{Round}
use Rattle.cqf_program_summary.specs.Hops.Gathered.{wanted_by}
use Rattle.cqf_program_summary.specs.Hops.Rounds.{AreRounds, HaveRoom, Source}
use Rattle.cqf_program_summary.proofs.OfHops.{can_be_written, drops_in_number}
use Rattle.cqf_program_summary.proofs.hops.preparing.prepare.Goals as goal

pub drops_by_frame-requires-clause-book : goal.drops_by_frame-requires-clause-book
drops_by_frame-requires-clause-book c = let reported = c.in_ok-first.ensures.reports in (reported.0, reported.2)

pub lay_rounds-requires-clause-offers : goal.lay_rounds-requires-clause-offers
lay_rounds-requires-clause-offers c =
    subst (λ (os : List Offer). AreOffers c.args.given.now.domain os) (sym c.as_slice-offers.ensures.value) c.requires.may.offers

pub lay_rounds-requires-clause-rise : goal.lay_rounds-requires-clause-rise
lay_rounds-requires-clause-rise c =
    let reported = c.in_ok-first.ensures.reports in
    subst (λ (ds : List Dropped). AllPairs (λ (a b : Dropped). a.frame < b.frame) ds) (sym c.as_slice-by_frame.ensures.value)
    (c.in_ok-drops.ensures reported.0 reported.2).rise

pub lay_rounds-requires-clause-some : goal.lay_rounds-requires-clause-some
lay_rounds-requires-clause-some c = λ x among.
    let reported = c.in_ok-first.ensures.reports in
    (drops_in_number c.args.cycles (scenario_given c.args.given.now) reported.0 c.in_ok-drops.drops.items reported.2 (c.in_ok-drops.ensures reported.0 reported.2) x
    (subst (λ (ds : List Dropped). Contains ds x) c.as_slice-by_frame.ensures.value among)).0

pub lay_rounds-requires-clause-few : goal.lay_rounds-requires-clause-few
lay_rounds-requires-clause-few c = λ x among.
    let reported = c.in_ok-first.ensures.reports in
    let upto = (drops_in_number c.args.cycles (scenario_given c.args.given.now) reported.0 c.in_ok-drops.drops.items reported.2
    (c.in_ok-drops.ensures reported.0 reported.2) x (subst (λ (ds : List Dropped). Contains ds x) c.as_slice-by_frame.ensures.value among)).1 in
    omega (arith, upto, ap (λ (os : List Offer). length os) c.as_slice-offers.ensures.value)

pub returns : goal.returns
returns c =
    let given = c.args.given.now in
    let cycles = c.args.cycles in
    let s = scenario_given given in
    let d = given.domain in
    let history = c.requires.outcome.history in
    let rows = c.args.outcome.now.rows.items in
    let edge_verdicts = c.args.outcome.now.edge_verdicts.items in
    let hop_number = c.greatest_hop_number-hop_number.result in
    let drops = c.in_ok-drops.drops.items in
    let rounds = c.in_ok-rounds.rounds.items in
    let kept = vec_capacity c.in_ok-kept.kept in
    let here = vec_capacity c.in_ok-kept.here in
    let first = c.in_ok-first.ensures.reports in
    let reported = c.in_ok-pass.ensures.reports in
    let book = reported.0 in
    let is_book = reported.2 in
    let same : first.0 ≡ book = is_book.only first.0 first.2.is_book in
    let starts : AreStartsOf c.in_ok-first.first.basis book.starts =
    subst (λ (b : Contents). AreStartsOf c.in_ok-first.first.basis b.starts) same first.1 in
    let before : Source = record { offers = c.as_slice-offers.result.now; wanted = wanted_by c.args.choice; drops = c.as_slice-by_frame.result.now } in
    let source : Source = record { offers = given.offers.items; wanted = c.in_ok-wanted.wanted; drops = drops } in
    let moved : before ≡ source = λ i. record {
      offers = c.as_slice-offers.ensures.value i;
      wanted = sym c.in_ok-wanted.ensures i;
      drops = c.as_slice-by_frame.ensures.value i;
    } in
    let room : HaveRoom book.starts source rounds kept here =
    subst (λ (rs : List Round). HaveRoom book.starts source rs kept here) c.as_slice-laid.ensures.value
    (subst (λ (z : Source). HaveRoom book.starts z c.as_slice-laid.result.now kept here) moved (c.in_ok-kept.ensures book.starts starts)) in
    let are : AreRounds d hop_number given.offers.items drops rounds =
    subst (λ (z : Source). AreRounds d hop_number z.offers z.drops rounds) moved c.in_ok-rounds.ensures in
    let hop_numbers : HopNumbersAreWithin rows hop_number = λ row among.
    omega (arith, c.greatest_hop_number-hop_number.ensures, ap greatest_hop_number c.as_slice-rows.ensures.value, none_greater residence rows 0 row among) in
    let by = c.in_ok-drops.ensures book is_book in
    let orderly = c.tables_are_orderly.ensures.orderly d (history_of cycles s) cycles history.legal is_book.is_book.sealed in
    let decided = edge_verdicts_decide c.offers_are_judged.ensures cycles s book rows edge_verdicts is_book history.judged c.requires.may.in_order in
    record {
      book = book;
      is_book = is_book;
      can = can_be_written cycles s source book c.in_ok-pass.pass rows edge_verdicts hop_number kept here rounds is_book reported.1 c.in_ok-pass.ensures.fresh refl by
          orderly decided hop_numbers c.know.ensures.accepted c.requires.short are room;
      is_wanted = c.in_ok-wanted.ensures;
      drops = by;
    }
