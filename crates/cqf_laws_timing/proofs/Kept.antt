-- A history that admits only streams of a list keeps the list's bounds and its verdicts.
use Rattle.std.proofs.Common.{◌%◌, ◌∙◌, sym, eqb-true, le_trans, List, Contains, ◌==◌}
use Rattle.std.proofs.lemmas.Bool.{and_parts}
use Rattle.std.proofs.lemmas.List.Elements.{All-contains}
use Rattle.cqf_model.specs.Table.{uses}
use Rattle.cqf_model.specs.History.{Asked, pace_of, tree_of}
use Rattle.cqf_model.specs.Run.{AreOffers, IsOffer}
use Rattle.cqf_model.proofs.Paces.{active_cycle_along, reserved_active_cycle}
use Rattle.cqf_laws_history.specs.StateLaws.{granted_row}
use Rattle.cqf_laws_history.proofs.ActiveCycles.{IsPaced, all_within_most, paced}
use Rattle.cqf_laws_shift.proofs.Came.{numbered_member}
use Rattle.cqf_laws_shift.proofs.Trees.{hop_uses}
use Rattle.std.proofs.Common.{◌≡◌, ℕ, ◌+◌, ◌<◌, ◌≤◌, Bool, true, false, length, refl, arith, nat_le, nat_lt, if◌then◌else◌}
use Rattle.std.proofs.lemmas.Bool.{leb-true, ltb-true}
use Rattle.cqf_lists.proofs.Members.{find_member}
use Rattle.cqf_model.specs.declared.frames.Background.{Background}
use Rattle.cqf_model.specs.declared.frames.Offer.{Offer}
use Rattle.cqf_model.specs.declared.topology.Row.{Row}
use Rattle.cqf_model.specs.Domain.{Domain, IsAccepted, is_text}
use Rattle.cqf_model.specs.History.{IsLegalHistory, Recorded, seals, tables_of}
use Rattle.cqf_model.specs.HistoryBook.{run_of_history}
use Rattle.cqf_model.specs.Loose.{slack_of}
use Rattle.cqf_model.specs.Shift.{InShift, offer_cycle}
use Rattle.cqf_model.specs.Table.{link_cost, table_of}
use Rattle.cqf_laws_history.specs.HistoryLaws.{TablesAreOrderly}
use Rattle.cqf_laws_shift.specs.MainLaw.{GatesMeanTheShift}
use Rattle.cqf_laws_shift.specs.Run.{RunBesideIsRunAlone}
use Rattle.cqf_laws_shift.proofs.CycleLaws.{CycleLaws}
use Rattle.cqf_laws_timing.specs.Latency.{IsTimely, least_of, most_of, whole_of}
use Rattle.cqf_laws_timing.specs.Streams.{AdmitsOnly, ArePaced, HistoryIsTimely, IsOfList, most_beside_all}
use Rattle.cqf_laws_timing.specs.Verdicts.{InTime, IsAsSaid, Late, MayBeLate, VerdictsHold, sure_of}
use Rattle.cqf_laws_timing.proofs.Listed.{rows_are_of_list, tables_cost_no_more}
use Rattle.cqf_laws_timing.proofs.Timely.{about_of, more_cost, shift_hop, starts_are_whole_within_held, timely}

-- a pace of the list is a valid one
list_paced : (streams : List Asked) → ArePaced streams → (asked : Asked) → Contains streams asked → IsPaced (pace_of asked)
list_paced streams each asked c =
    paced asked.every (eqb-true (80 % asked.every) 0 (and_parts (80 % asked.every == 0) (nat_lt asked.phase asked.every) (each asked c)).0)

-- the bound that a list has for the stream of a frame, and that what a table costs of the link in the frame's cycle is within it
pub record IsBoundedBy (d : Domain) (streams : List Asked) (tables : List (List Row)) (row : Row) (link cycle : ℕ) : Type 0 where
  pub of : IsOfList d streams row
  pub within : (table : ℕ) → link_cost (table_of tables table) link cycle ≤ most_beside_all d streams of.asked link

-- this holds for each frame in the shift of a history that admits only streams of the list
pub bounded_by : TablesAreOrderly → (d : Domain) (entries : List Recorded) (offers : List Offer) (background : List Background) (cycles : ℕ)
    (streams : List Asked) → IsAccepted d → IsLegalHistory d entries → AreOffers d offers → cycles ≤ seals entries → AdmitsOnly streams entries → ArePaced streams →
    (frame link cycle : ℕ) →
    (shift : InShift (run_of_history d entries offers background cycles) (length (tables_of d entries cycles)) frame link cycle) →
    IsBoundedBy d streams (tables_of d entries cycles) shift.row link cycle
bounded_by orderly d entries offers background cycles streams accepted legal offered sealed only each frame link cycle shift =
    let tables = tables_of d entries cycles in
    let at = offer_cycle d shift.x in
    let member = find_member (λ (r : Row). is_text r.name shift.x.offer.stream) (table_of tables at) shift.row shift.covered.named in
    let of = rows_are_of_list d entries streams cycles at shift.row only member.0 in
    let tree = tree_of d of.asked.paths in
    let pace = pace_of of.asked in
    let offer = All-contains (IsOffer d) offers shift.x.offer offered (numbered_member offers shift.x shift.covered.offered).0 in
    let active_cycle = reserved_active_cycle shift.row 0 at (omega (arith, shift.covered.within, offer.least, accepted.overhead_short)) in
    let along = active_cycle_along shift.row.pace shift.hop_number at active_cycle in
    let used : uses tree pace link cycle ≡ true =
    (λ i. uses (sym of.tree i) (sym of.pace i) link (shift.is_cycle i)) ∙ hop_uses shift.row shift.hop_number link (at + shift.hop_number) shift.is_hop along in
    let most = all_within_most (λ (a : Asked). granted_row d 0 0 a) streams tree pace link cycle (list_paced streams each)
    (list_paced streams each of.asked of.listed) used in
    record {
      of = of;
      within = λ table. le_trans (tables_cost_no_more orderly d entries streams cycles table link cycle legal sealed only) most;
    }

-- each start is timely by the list
pub history_is_timely : CycleLaws → RunBesideIsRunAlone → GatesMeanTheShift → TablesAreOrderly → HistoryIsTimely
history_is_timely laws beside means orderly d entries offers background cycles book streams accepted legal offered following is only each s c shift =
    let run = run_of_history d entries offers background cycles in
    let tables = tables_of d entries cycles in
    let good = orderly d entries cycles legal is.sealed in
    let bound = bounded_by orderly d entries offers background cycles streams accepted legal offered is.sealed only each s.frame s.link s.cycle.0 shift in
    let cost = link_cost (table_of tables s.cycle.0) s.link s.cycle.0 in
    let most = most_beside_all d streams bound.of.asked s.link in
    let whole = whole_of d s in
    let held = starts_are_whole_within_held laws beside means run book accepted good offered following is.is_book s c in
    let within = more_cost d (slack_of d) s.link s.cycle.0 cost most whole (bound.within s.cycle.0) (about_of d s.link s.cycle.0 cost whole accepted held) in
    let hop = shift_hop run s.frame s.link s.cycle.0 good shift in
    (bound.of, timely d s.link s.cycle.0 most whole shift.x.offer.at.0 shift.hop_number accepted hop.0 hop.1 shift.is_cycle within)

-- what a verdict says, by its tests
said_by : (b c : Bool) (at whole deadline : ℕ) → (b ≡ true → whole ≤ at + deadline) → (c ≡ true → at + deadline < whole) →
    IsAsSaid at whole deadline (if b then InTime else (if c then Late else MayBeLate))
said_by true c at whole deadline keeps misses = record { in_time = λ e. keeps refl; late = λ e. absurd cc }
said_by false true at whole deadline keeps misses = record { in_time = λ e. absurd cc; late = λ e. misses refl }
said_by false false at whole deadline keeps misses = record { in_time = λ e. absurd cc; late = λ e. absurd cc }

-- what is timely is as the verdict on any deadline says
pub timely_said : (d : Domain) (link hop_number cost at whole : ℕ) → IsTimely d link hop_number cost at whole → (deadline : ℕ) →
    IsAsSaid at whole deadline (sure_of (least_of d link hop_number) (most_of d link hop_number cost) deadline)
timely_said d link hop_number cost at whole is deadline =
    let least = least_of d link hop_number in
    let most = most_of d link hop_number cost in
    said_by (nat_le most deadline) (nat_lt deadline least) at whole deadline (λ e. in_time most (leb-true most deadline e) is.most)
    (λ e. late least (ltb-true deadline least e) is.least)
  where
    in_time : (most : ℕ) → most ≤ deadline → whole ≤ at + most → whole ≤ at + deadline
    in_time most less upto = omega (arith, less, upto)

    late : (least : ℕ) → deadline < least → at + least ≤ whole → at + deadline < whole
    late least more from = omega (arith, more, from)

-- so the verdicts hold
pub verdicts_hold : CycleLaws → RunBesideIsRunAlone → GatesMeanTheShift → TablesAreOrderly → VerdictsHold
verdicts_hold laws beside means orderly d entries offers background cycles book streams accepted legal offered following is only each s c shift =
    let both = history_is_timely laws beside means orderly d entries offers background cycles book streams accepted legal offered following is only each s c
    shift in
    (both.0, timely_said d s.link shift.hop_number (most_beside_all d streams both.0.asked s.link) shift.x.offer.at.0 (whole_of d s) both.1)
