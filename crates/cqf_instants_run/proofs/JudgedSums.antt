-- If the verdicts are those of the definitions, so are the sums.
use Rattle.std.proofs.Common.{◌≡◌, ℕ, ◌+◌, ◌-◌, ◌<◌, ◌≤◌, List, Some, inl, inr, sym, ap, ◌∙◌, subst, arith, length}
use Rattle.std.proofs.Common.{sum_by, get_or, Contains, le-ltb, ne_eqb, ◌==◌, nat_lt}
use Rattle.std.specs.Prelude.{slice_get}
use Rattle.std.proofs.lemmas.Bool.{cases_lt}
use Rattle.std.proofs.Math.Nat.{div-le_self}
use Rattle.std.proofs.lemmas.Option.{same_Some, slice_get-get_or}
use Rattle.cqf_lists.proofs.Sums.{sum_none}
use Rattle.cqf_model.specs.declared.frames.Offer.{Offer}
use Rattle.cqf_model.specs.declared.frames.Offered.{Offered}
use Rattle.cqf_model.specs.declared.frames.Reason.TheVariants.{Unknown}
use Rattle.cqf_model.specs.declared.topology.Hop.{Hop}
use Rattle.cqf_model.specs.declared.topology.Row.{Row}
use Rattle.cqf_model.specs.Domain.{Domain, IsAccepted}
use Rattle.cqf_model.proofs.Links.{budget_within}
use Rattle.cqf_model.specs.History.{IsLegalHistory, Recorded, seals}
use Rattle.cqf_model.specs.Run.{AreOffers}
use Rattle.cqf_model.specs.Shift.{offer_cycle}
use Rattle.cqf_model.specs.Policing.{Verdict, numbered}
use Rattle.cqf_laws_coverage.specs.declared.column.Column.{Column}
use Rattle.cqf_laws_coverage.specs.Counted.{counts_frames, counts_in, hops_of, sum_of_hops}
use Rattle.cqf_laws_coverage.specs.Judged.{StandInOrder, judged_of}
use Rattle.cqf_laws_coverage.specs.Reported.{CellsFit}
use Rattle.cqf_laws_coverage.proofs.Counts.{second_fails}
use Rattle.cqf_laws_coverage.proofs.Matched.{sum_same}
use Rattle.cqf_instants_run.specs.declared.judged.EdgeVerdict.{EdgeVerdict}
use Rattle.cqf_instants_run.specs.declared.judged.EdgeVerdict.TheVariants.{Dropped}
use Rattle.cqf_instants_run.specs.Coverage.{AreJudged, verdict_of}
use Rattle.cqf_instants_run.proofs.Covers.{numbered_at}
use Rattle.cqf_instants_run.specs.Columns.{AreSumsBy, HaveColumnsRoom, verdict_at}
use Rattle.cqf_instants_run.proofs.Offers.{numbered_all}

-- verdicts that agree on the offers of some cycles have one sum of hops, as long as nothing is counted past these
module _ (d : Domain) (cycles : ℕ) (counts : ℕ → ℕ → ℕ → ℕ) (later : (link cycle octets : ℕ) → cycles ≤ cycle → counts link cycle octets ≡ 0) where
  -- what an offer counts
  abbrev of : (Offered → Verdict) → Offered → ℕ
  of verdict x = sum_by (λ (hop : Hop). counts hop.link (offer_cycle d x + hop.hop_number) x.offer.octets) (hops_of (verdict x))

  -- nothing after the cycles
  none : (verdict : Offered → Verdict) (x : Offered) → cycles ≤ offer_cycle d x → of verdict x ≡ 0
  none verdict x late =
      sum_none (λ (hop : Hop). counts hop.link (offer_cycle d x + hop.hop_number) x.offer.octets) (hops_of (verdict x))
      (λ hop c. later hop.link (offer_cycle d x + hop.hop_number) x.offer.octets (omega (arith, late)))

  same_hops : (first second : Offered → Verdict) (xs : List Offered) →
      ((x : Offered) → Contains xs x → offer_cycle d x < cycles → first x ≡ second x) → sum_of_hops d first counts xs ≡ sum_of_hops d second counts xs
  same_hops first second xs agree = sum_same (of first) (of second) xs (λ x c. elim (cases_lt (offer_cycle d x) cycles) [
    | inl early ↦ ap (λ (v : Verdict). sum_by (λ (hop : Hop). counts hop.link (offer_cycle d x + hop.hop_number) x.offer.octets) (hops_of v)) (agree x c early)
    | inr late ↦ none first x late ∙ sym (none second x late)
  ])

module _ (d : Domain) (entries : List Recorded) (rows : List Row) (offers : List Offer) (edge_verdicts : List EdgeVerdict)
    (judged : AreJudged d entries rows offers (length offers) edge_verdicts) (cycles : ℕ) (closed : cycles ≤ seals entries) where
  -- the verdict at an offer's index is the verdict on it
  pub at_index : (x : Offered) → Contains (numbered offers) x → offer_cycle d x < cycles → verdict_at d rows edge_verdicts x ≡ judged_of d entries offers x
  at_index x c early =
      let k = c.0 in
      let inside : k < length offers = omega (arith, c.1, numbered_all offers) in
      let among : k < length edge_verdicts = omega (arith, inside, judged.count) in
      let none : EdgeVerdict = Dropped Unknown in
      let here : slice_get (numbered offers) k ≡ Some x =
      subst (λ (y : Offered). slice_get (numbered offers) k ≡ Some y) c.2 (slice_get-get_or (numbered offers) k x c.1) in
      let offer : Offer = get_or offers k x.offer in
      let also : slice_get (numbered offers) k ≡ Some (record { frame = k + 1; offer = offer }) =
      numbered_at offers k offer (slice_get-get_or offers k x.offer inside) in
      let number : x.frame ≡ k + 1 = ap (λ (y : Offered). y.frame) (same_Some x (record { frame = k + 1; offer = offer }) (sym here ∙ also)) in
      let back : x.frame - 1 ≡ k = omega (arith, number) in
      ap (λ (j : ℕ). verdict_of rows (offer_cycle d x) (get_or edge_verdicts j none)) back
      ∙ judged.each k x (get_or edge_verdicts k none) inside here (slice_get-get_or edge_verdicts k none among) (omega (arith, early, closed))

  -- what is counted within the cycles is what the definitions count
  frames_same : (link : ℕ) → sum_of_hops d (verdict_at d rows edge_verdicts) (counts_frames link cycles) (numbered offers)
      ≡ sum_of_hops d (judged_of d entries offers) (counts_frames link cycles) (numbered offers)
  frames_same link = same_hops d cycles (counts_frames link cycles)
      (λ l c octets past. second_fails (l == link) (nat_lt c cycles) 1 (le-ltb c cycles past))
      (verdict_at d rows edge_verdicts) (judged_of d entries offers) (numbered offers) at_index

  octets_same : (link cycle : ℕ) → cycle < cycles → sum_of_hops d (verdict_at d rows edge_verdicts) (counts_in link cycle) (numbered offers)
      ≡ sum_of_hops d (judged_of d entries offers) (counts_in link cycle) (numbered offers)
  octets_same link cycle in_run =
      same_hops d cycles (counts_in link cycle)
      (λ l c octets past. second_fails (l == link) (c == cycle) octets (ne_eqb c cycle (λ e. omega (arith, e, past, in_run))))
      (verdict_at d rows edge_verdicts) (judged_of d entries offers) (numbered offers) at_index

  -- so each cell has room
  pub judged_room : CellsFit → IsAccepted d → IsLegalHistory d entries → AreOffers d offers → StandInOrder offers →
      HaveColumnsRoom d cycles (verdict_at d rows edge_verdicts) (numbered offers)
  judged_room fit accepted legal offered ordered link cycle is_link in_run =
      omega (
        arith,
        octets_same link cycle in_run,
        fit d entries offers cycles link cycle accepted legal offered ordered closed is_link in_run,
        budget_within d link,
        accepted.cycle_most,
      )

  -- and the sums are those of the definitions
  pub judged_sums : (columns : List Column) → AreSumsBy d cycles (verdict_at d rows edge_verdicts) offers columns →
      AreSumsBy d cycles (judged_of d entries offers) offers columns
  judged_sums columns by = record {
    all = by.all;
    sums = record {
      frames_are = λ link is_link. by.sums.frames_are link is_link ∙ frames_same link;
      cells_are = λ link cycle is_link in_run. by.sums.cells_are link cycle is_link in_run ∙ octets_same link cycle in_run;
      none_past = by.sums.none_past;
    };
  }
