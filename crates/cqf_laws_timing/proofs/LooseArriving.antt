-- A covered offer is heard in time in a loose network.
use Rattle.std.proofs.Common.{◌≡◌, ℕ, ◌+◌, ◌<◌, List, [], Contains, refl, sym, subst, arith}
use Rattle.std.specs.Prelude.{None}
use Rattle.cqf_lists.proofs.Members.{contains_map, find_member}
use Rattle.cqf_model.specs.declared.frames.Background.{Background}
use Rattle.cqf_model.specs.declared.frames.Offer.{Offer}
use Rattle.cqf_model.specs.declared.frames.Offered.{Offered}
use Rattle.cqf_model.specs.declared.frames.Sent.{Sent}
use Rattle.cqf_model.specs.declared.topology.Row.{Row}
use Rattle.cqf_model.specs.Domain.{Domain, cycle_of, is_text}
use Rattle.cqf_model.specs.History.{Asked, Branch, Recorded, refusal_of, tables_of}
use Rattle.cqf_model.specs.HistoryBook.{run_of_history}
use Rattle.cqf_model.specs.Loose.{slack_of}
use Rattle.cqf_model.specs.Network.{Network}
use Rattle.cqf_model.specs.Promise.{MeansTheShiftAs}
use Rattle.cqf_model.specs.Shift.{IsCovered, offer_cycle}
use Rattle.cqf_model.specs.Table.{IsHop, table_of}
use Rattle.cqf_model.specs.Policing.{Carried, whole_at}
use Rattle.cqf_model.proofs.Links.{accepted_with}
use Rattle.cqf_laws_history.specs.HistoryLaws.{TablesAreOrderly}
use Rattle.cqf_laws_history.specs.StateLaws.{granted_row}
use Rattle.cqf_laws_shift.proofs.Trees.{same_hop}
use Rattle.cqf_laws_loose.specs.LooseLaws.{LooseHistoryMeansTheShift}
use Rattle.cqf_laws_timing.specs.Latency.{IsTimely}
use Rattle.cqf_laws_timing.specs.Listeners.{BranchesEnd}
use Rattle.cqf_laws_timing.specs.LooseInTime.{ComesThroughLoosely, IsHeardInTime, ListenerHears, LooseConformingIsInTime, LoosePlannedIsInTime}
use Rattle.cqf_laws_timing.specs.LooseStreams.{IsHeardOf, IsLooseHistory, LooseHistoryIsTimely}
use Rattle.cqf_laws_timing.specs.Streams.{AdmitsOnly, AdmittedHaveNames, ArePaced, IsOfList, most_beside_all}
use Rattle.cqf_laws_timing.proofs.Arriving.{bounds_alike, granted_row_of, in_shift, one_asked, planned_covered}
use Rattle.cqf_laws_timing.proofs.Held.{granted_paced}
use Rattle.cqf_laws_timing.proofs.Kept.{timely_said}
use Rattle.cqf_laws_timing.proofs.Taking.{conforming_stream_is_covered}
use Rattle.cqf_laws_timing.proofs.Timely.{shift_hop}

module _ (orderly : TablesAreOrderly) (shifts : LooseHistoryMeansTheShift) (timely : LooseHistoryIsTimely) (ends : BranchesEnd) where
  module _ (d : Domain) (streams : List Asked) (entries : List Recorded) (offers : List Offer) (background : List Background) (cycles : ℕ)
      (net : Network) (heard : Carried) (is : IsLooseHistory d entries offers background cycles (slack_of d) net heard) (only : AdmitsOnly streams entries)
      (paced : ArePaced streams) (x : Offered) (row : Row) (covered : IsCovered (run_of_history d entries offers background cycles) x row) where
    -- what its links carry is what the shift says
    means : MeansTheShiftAs (run_of_history d entries offers background cycles) net.carried heard
    means = shifts d entries offers background cycles (slack_of d) net heard (accepted_with d is.accepted) is.legal is.offered is.beside is.sealed is.loose

    -- so the offer leaves on each link of its tree, and is heard in time
    hears : (of : IsOfList d streams row) (hop_number link : ℕ) → IsHop row hop_number link → offer_cycle d x + hop_number < cycles →
        IsHeardInTime d streams of.asked net heard x hop_number link
    hears of hop_number link hop lasts =
        let run = run_of_history d entries offers background cycles in
        let s = means.each x.frame link (offer_cycle d x + hop_number)
        (in_shift d entries offers background cycles x row covered x.frame hop_number link (offer_cycle d x + hop_number) refl hop refl lasts) in
        let sent = s.sent in
        let shift = in_shift d entries offers background cycles x row covered sent.frame hop_number link (cycle_of d sent.start.0) s.is_frame hop s.is_cycle
        lasts in
        let is_link = (shift_hop run sent.frame link (cycle_of d sent.start.0) (orderly d entries cycles is.legal is.sealed) shift).0 in
        let h = is.loose.noted link sent in
        let is_heard : IsHeardOf net heard link sent h = record {
          is_sent = s.is_sent;
          is_heard = subst (λ (hs : List Sent). Contains hs h) (sym (is.loose.are link)) (contains_map (is.loose.noted link) (net.carried link) sent s.is_sent);
          is_frame = (is.loose.each link sent is_link s.is_sent).frame;
        } in
        let reported = timely d entries offers background cycles streams net heard is only paced link sent h is_heard shift in
        let time = subst (λ (n : ℕ). IsTimely d link hop_number n x.offer.at.0 (whole_at d link h)) (bounds_alike d streams row reported.0 of link) reported.1 in
        record {
          sent = sent;
          h = h;
          is_heard = is_heard;
          is_frame = s.is_frame;
          is_cycle = s.is_cycle;
          octets = means.octets link sent x s.is_sent covered.offered s.is_frame;
          timely = time;
          in_time = λ deadline sure.
              (timely_said d link hop_number (most_beside_all d streams of.asked link) x.offer.at.0 (whole_at d link h) time deadline).in_time sure;
        }

    -- and at the listener of each branch of a request that makes the row's tree
    served_by : (rows : List Row) (of : IsOfList d streams row) (branch : Branch) → refusal_of d rows of.asked ≡ None →
        Contains of.asked.paths branch → ListenerHears d streams of.asked cycles net heard x branch
    served_by rows of branch free c =
        let has = ends d rows of.asked branch free c in
        record {
          bridges = has.bridges;
          link = has.link;
          station = has.station;
          ends_at = has.ends_at;
          hears = hears of has.bridges has.link (same_hop (granted_row d 0 0 of.asked) row has.bridges has.link (sym of.tree) has.is_hop);
        }

    -- so it comes through
    pub comes_through : ComesThroughLoosely d streams cycles net heard x row
    comes_through =
        let member = (find_member (λ (r : Row). is_text r.name x.offer.stream) (table_of (tables_of d entries cycles) (offer_cycle d x)) row covered.named).0 in
        let g = granted_row_of d entries streams is.legal only row cycles (offer_cycle d x) member in
        record { of_list = g.of; hears = hears g.of; served = λ branch c. served_by g.rows g.of branch g.free c }

  -- the laws
  pub loose_conforming_is_in_time : LooseConformingIsInTime
  loose_conforming_is_in_time d streams entries offers background cycles net heard t x row is only paced traffic c enough at =
      comes_through d streams entries offers background cycles net heard is only paced x row
      (conforming_stream_is_covered (run_of_history d entries offers background cycles) t x row (omega (arith, is.accepted.cycle_least)) traffic c enough at)

  pub loose_planned_is_in_time : AdmittedHaveNames → LoosePlannedIsInTime
  loose_planned_is_in_time names d streams entries offers background cycles net heard t asked x row is only granted listed traffic enough c name at branch k =
      let covered = planned_covered names d streams asked row granted listed name entries offers background cycles t x is.legal only
      (omega (arith, is.accepted.cycle_least)) traffic enough c at in
      let through = comes_through d streams entries offers background cycles net heard is only (granted_paced d [] streams granted) x row covered in
      let same = one_asked names d streams asked row granted listed name through.of_list in
      subst (λ (a : Asked). ListenerHears d streams a cycles net heard x branch) same
      (through.served branch (subst (λ (a : Asked). Contains a.paths branch) (sym same) k))
