-- A run that is followed advances by an offer.
use Rattle.std.proofs.Common.{[], ◌≡◌, ◌∙◌, ◌+◌, ◌<◌, ◌≤◌, ℕ, Option, Some, None, Contains, ap, arith, get_or, length, subst, sym}
use Rattle.std.specs.Prelude.{slice_get}
use Rattle.std.proofs.lemmas.List.{length-map}
use Rattle.std.proofs.lemmas.List.Elements.{All-contains}
use Rattle.std.proofs.lemmas.Option.{slice_get-get_or}
use Rattle.std.specs.Global.{Global}
use Rattle.std.specs.declared.vec.Vec.{Vec}
use Rattle.cqf_units.specs.Timing.{cycle_at}
use Rattle.cqf_units.specs.declared.timing.Nanos.{Nanos}
use Rattle.cqf_instants.specs.Meaning.{Given as GivenRun}
use Rattle.cqf_instants.specs.Progress.{Progress}
use Rattle.cqf_instants.specs.declared.basis.Basis.{Basis}
use Rattle.cqf_model.specs.declared.frames.Offer.{Offer}
use Rattle.cqf_model.specs.declared.frames.Started.{Started}
use Rattle.cqf_model.specs.declared.topology.Row.{Row}
use Rattle.cqf_laws_coverage.specs.Judged.{StandInOrder}
use Rattle.cqf_program_runs.specs.declared.deliveries.under_way.UnderWay.{UnderWay}
use Rattle.cqf_program_runs.specs.Deliveries.{whole_on}
use Rattle.cqf_program_runs.specs.Deliveries.Ending.{IsOver, Over}
use Rattle.cqf_program_runs.specs.Deliveries.Following.{IsAfter, IsBookAfter, IsFollowed}
use Rattle.cqf_program_runs.specs.Deliveries.UnderWay.{AreSlots, GoesOn, IsLaid, IsWideFor, WritesInTime, WritesUpTo, WritesWhole, row_at, slots_of, starts_written}
use Rattle.cqf_program_runs.proofs.InOrder.{in_order}
use Rattle.cqf_program_runs.proofs.KeptSlots.{row_at_within, slots_next}
use Rattle.cqf_program_runs.proofs.WrittenStarts.{all_written, none_whole, written_in, written_later}

-- the starts that the pass returns are in time
pub writes_in_time : (over : Over) (index : ℕ) (under_way : UnderWay) → IsFollowed over index under_way → WritesInTime over.domain under_way.pass.basis
writes_in_time over index under_way followed =
    record { given = followed.given; is = followed.book.is; in_time = followed.book.in_time }

module _ (over : Over) (index : ℕ) (old reported new : UnderWay) (offer : Offer) (at : slice_get over.offers index ≡ Some offer)
    (followed : IsFollowed over index old)
    (reports : WritesUpTo over.domain over.rows over.edge_verdicts index (cycle_at over.domain.cycle_time offer.at.0 + old.hop_number) old reported) where
  abbrev given : GivenRun
  given = followed.given

  abbrev cycles : ℕ
  cycles = old.pass.basis.cycles

  abbrev own : ℕ
  own = cycle_at over.domain.cycle_time offer.at.0

  -- a start of the run
  following : (s : Started) → Contains (starts_written given cycles) s → IsAfter over.domain.cycle_time old.hop_number over.offers s
  following s among = All-contains (IsAfter over.domain.cycle_time old.hop_number over.offers) (starts_written given cycles) s followed.book.following among

  slots : AreSlots over.domain over.rows over.edge_verdicts (starts_written given reported.pass.reported) index followed.width (slots_of reported.slots.items)
  slots = reports.noted given followed.width followed.book.is followed.slots

  within : reported.pass.reported ≤ cycles
  within = omega (arith, reports.within followed.within, reports.counted)

  some : 0 < length (slots_of reported.slots.items)
  some = omega (arith, followed.some, reports.as_many, length-map reported.slots.items (λ (slot : Vec (Option Nanos) Global). slot.items))

  -- what is kept of the offer's frame says when it is whole
  pub first_writes : WritesWhole over.domain (row_at over.rows over.edge_verdicts index) (get_or (slots_of reported.slots.items) 0 []) (over.whole (index + 1))
  first_writes row link column found at_column =
      let here : index + 0 ≡ index = omega arith in
      slots.write 0 some row link column (ap (row_at over.rows over.edge_verdicts) here ∙ found) at_column
      ∙ ap (λ (k : ℕ). whole_on over.domain (starts_written given reported.pass.reported) (k + 1) link) here
      ∙ all_written given over.domain reported.pass.reported (index + 1) link cycles within (λ s among frame.
      omega (arith, reports.counted, reports.all s.cycle.0 ((following s among).soon index offer at frame) (written_in given cycles s among)))
      ∙ sym (λ i. followed.book.whole i (index + 1) link)

  -- and nothing is known of the frame after the last one that is kept
  none_after : (row : Row) (link : ℕ) → row_at over.rows over.edge_verdicts (index + length (slots_of reported.slots.items)) ≡ Some row →
      whole_on over.domain (starts_written given reported.pass.reported) (index + length (slots_of reported.slots.items) + 1) link ≡ None
  none_after row link found =
      let many : length (slots_of reported.slots.items) ≡ length old.slots.items =
      length-map reported.slots.items (λ (slot : Vec (Option Nanos) Global). slot.items) ∙ reports.as_many in
      let last = index + length (slots_of reported.slots.items) in
      let inside : last < length over.offers = omega (arith, row_at_within over.rows over.edge_verdicts last row found, followed.is_over.judged) in
      let late = get_or over.offers last offer in
      let at_late : slice_get over.offers last ≡ Some late = slice_get-get_or over.offers last offer inside in
      let hop_numbers : own + old.hop_number ≤ cycle_at over.domain.cycle_time late.at.0 =
      followed.enough index offer late at (ap (λ (k : ℕ). slice_get over.offers (index + k)) (sym many) ∙ at_late) in
      let most : reported.reported ≤ own + old.hop_number + 1 = reports.no_more (own + old.hop_number + 1) (followed.early index offer (omega arith) at) (omega arith) in
      none_whole over.domain (starts_written given reported.pass.reported) (last + 1) link (λ s among frame.
      absurd (omega (
        arith,
        (following s (written_later given reported.pass.reported cycles s within among)).later last late at_late frame,
        written_in given reported.pass.reported s among,
        reports.counted,
        most,
        hop_numbers,
      )))

  -- so the run is followed from the next offer on
  pub goes_on : GoesOn reported new → IsFollowed over (index + 1) new
  goes_on on =
      let same_hop_number : new.hop_number ≡ old.hop_number = on.hop_number ∙ reports.hop_number in
      let same_basis : new.pass.basis ≡ old.pass.basis = ap (λ (p : Progress). p.basis) on.pass ∙ reports.basis in
      let same_written : new.pass.reported ≡ reported.pass.reported = ap (λ (p : Progress). p.reported) on.pass in
      let same_many : length new.slots.items ≡ length old.slots.items = on.as_many ∙ reports.as_many in
      record {
        given = given;
        width = followed.width;
        is_over = followed.is_over;
        ordered = followed.ordered;
        book = subst (λ (basis : Basis). IsBookAfter over new.hop_number basis given) (sym same_basis)
            (subst (λ (hop_number : ℕ). IsBookAfter over hop_number old.pass.basis given) (sym same_hop_number) followed.book);
        counted = on.reported ∙ reports.counted ∙ sym same_written;
        within = omega (arith, on.reported, reports.within followed.within, ap (λ (basis : Basis). basis.cycles) same_basis);
        some = omega (arith, followed.some, same_many);
        enough = subst (λ (many : ℕ). IsWideFor over.domain.cycle_time new.hop_number over.offers many) (sym same_many)
            (subst (λ (hop_number : ℕ). IsWideFor over.domain.cycle_time hop_number over.offers (length old.slots.items)) (sym same_hop_number) followed.enough);
        slots = subst (λ (n : ℕ). AreSlots over.domain over.rows over.edge_verdicts (starts_written given n) (index + 1) followed.width (slots_of new.slots.items))
            (sym same_written)
            (slots_next over.domain over.rows over.edge_verdicts (starts_written given reported.pass.reported) index followed.width on.emptied
            (slots_of reported.slots.items) (slots_of new.slots.items) some slots (on.as_wide ∙ slots.wide 0 some) on.none on.slots none_after);
        early = λ later later_offer after_it at_later.
            let rises = in_order over.domain.cycle_time over.offers followed.ordered index later offer later_offer (omega (arith, after_it)) at at_later in
            let most : reported.reported ≤ own + old.hop_number + 1 =
            reports.no_more (own + old.hop_number + 1) (followed.early index offer (omega arith) at) (omega arith) in
            omega (arith, on.reported, same_hop_number, most, rises);
      }

-- before any start is returned, the run is followed from the first offer on
pub followed_first : (over : Over) (under_way : UnderWay) (given : GivenRun) → IsOver over → StandInOrder over.offers → under_way.pass.reported ≡ 0 →
    IsLaid over.domain over.rows over.offers under_way → IsBookAfter over under_way.hop_number under_way.pass.basis given → IsFollowed over 0 under_way
followed_first over under_way given is_over ordered fresh laid book =
    let many : length (slots_of under_way.slots.items) ≡ length under_way.slots.items =
    length-map under_way.slots.items (λ (slot : Vec (Option Nanos) Global). slot.items) in
    record {
      given = given;
      width = laid.width;
      is_over = is_over;
      ordered = ordered;
      book = book;
      counted = laid.fresh ∙ sym fresh;
      within = omega (arith, laid.fresh);
      some = laid.some;
      enough = laid.enough;
      slots = subst (λ (n : ℕ). AreSlots over.domain over.rows over.edge_verdicts (starts_written given n) 0 laid.width (slots_of under_way.slots.items))
          (sym fresh)
          (record {
            room = laid.room;
            wide = λ following inside. laid.empty.wide following (omega (arith, inside, many));
            write = λ following inside row link column found at. laid.empty.none following column;
          });
      early = λ later offer following at. omega (arith, laid.fresh);
    }
