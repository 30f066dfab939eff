-- The drops by verdicts, in order, are those of the book of each history that judges the offers by these verdicts.
use Rattle.std.proofs.Common.{◌≡◌, ℕ, suc, ◌+◌, ◌*◌, ◌≤◌, ◌<◌, [], ◌∷◌, ◌++◌, ◌==◌, ◌&&◌, List, Bool, true, false}
use Rattle.std.proofs.Common.{Option, Some, None, sym, ap, ◌∙◌, subst, arith, refl, eq-eqb, eqb-true, ne_eqb}
use Rattle.std.proofs.Common.{AllPairs, Contains, filter, get_or, length}
use Rattle.std.specs.Prelude.{slice_get}
use Rattle.std.specs.List.{enumerate_from}
use Rattle.std.proofs.lemmas.Bool.{and_from, and_parts}
use Rattle.std.proofs.lemmas.List.{length-map}
use Rattle.std.proofs.lemmas.List.FromFn.{length-enumerate_from}
use Rattle.std.proofs.lemmas.List.Kept.{AllPairs-filter}
use Rattle.std.proofs.lemmas.Option.{same_Some, slice_get-get_or}
use Rattle.cqf_lists.specs.Lists.{each_below}
use Rattle.cqf_lists.proofs.EachBelow.{contains_below, contains_from_below, filter_none, first_below, length-singles, same_below}
use Rattle.cqf_lists.proofs.Members.{contains_at, contains_filter, contains_from_filter, contains_here}
use Rattle.cqf_lists.proofs.Pairs.{pairs_weaker, same_ordered}
use Rattle.cqf_model.specs.declared.frames.Background.{Background}
use Rattle.cqf_model.specs.declared.frames.Dropped.{Dropped}
use Rattle.cqf_model.specs.declared.frames.Offer.{Offer}
use Rattle.cqf_model.specs.declared.frames.Offered.{Offered}
use Rattle.cqf_model.specs.declared.frames.Reason.{Reason}
use Rattle.cqf_model.specs.declared.topology.Row.{Row}
use Rattle.cqf_model.specs.Book.{Contents, drops_in}
use Rattle.cqf_model.specs.Domain.{Domain, IsAccepted}
use Rattle.cqf_model.specs.History.{Recorded, seals, table_at, tables_of}
use Rattle.cqf_model.specs.HistoryBook.{IsBookOfHistory, run_of_history}
use Rattle.cqf_model.specs.Run.{AreOffers, Run}
use Rattle.cqf_model.specs.Shift.{IsUncovered, offer_cycle}
use Rattle.cqf_model.specs.Policing.{DroppedFor, Policed, Queued, numbered, policed_before}
use Rattle.cqf_model.specs.Promise.{IsOfUncovered, SaysTheShift, IsDecided}
use Rattle.cqf_model.proofs.Drops.{drops_at}
use Rattle.cqf_book.specs.BookOrder.{in_book_order, is_drop_of}
use Rattle.cqf_laws_shift.proofs.Decided.{covered_judged, uncovered_judged}
use Rattle.cqf_laws_shift.specs.BookOfHistory.{BookOfHistorySaysTheShift}
use Rattle.cqf_laws_coverage.specs.Judged.{OffersAreJudged, StandInOrder}
use Rattle.cqf_laws_coverage.specs.Rows.{as_of}
use Rattle.cqf_instants_run.specs.declared.judged.EdgeVerdict.{EdgeVerdict}
use Rattle.cqf_instants_run.specs.declared.judged.EdgeVerdict.TheVariants as edge_verdict
use Rattle.cqf_instants_run.specs.Coverage.{AreJudged, queued_as, verdict_of}
use Rattle.cqf_instants_run.proofs.Covers.{numbered_at}
use Rattle.cqf_instants_run.specs.Drops.{AreDropsBy, drop_at}
use Rattle.cqf_instants_run.proofs.ByIndex.{by_index, drop_is_judged, drop_of_offer, frames_ascend, judged_is_drop}
use Rattle.cqf_laws_coverage.proofs.Single.{IsDropOf, drop_of_index, one_drop}

-- there are as many numbers as offers
many_numbers : (offers : List Offer) → length (numbered offers) ≡ length offers
many_numbers offers =
    length-map (enumerate_from 1 offers) (λ (z : ℕ × Offer). record { frame = z.0; offer = z.1 }) ∙ length-enumerate_from 1 offers

module _ (decide : OffersAreJudged) (d : Domain) (entries : List Recorded) (offers : List Offer) (background : List Background) (cycles : ℕ)
    (rows : List Row) (edge_verdicts : List EdgeVerdict) (made : AreJudged d entries rows offers (length offers) edge_verdicts) (ordered : StandInOrder offers)
    (sealed : cycles ≤ seals entries) where
  -- the run of the history
  abbrev run : Run
  run = run_of_history d entries offers background cycles

  -- there is a table for each cycle
  tables_count : length (tables_of d entries cycles) ≡ cycles
  tables_count = length-singles (table_at d entries) cycles

  -- the offer at an index, with its number
  abbrev placed : ℕ → Offer → Offered
  placed index offer = record { frame = index + 1; offer = offer }

  -- the verdict there is what the definitions say
  decided_at : (index : ℕ) (offer : Offer) (j : EdgeVerdict) → index < length offers → slice_get offers index ≡ Some offer → slice_get edge_verdicts index ≡ Some j →
      offer_cycle d (placed index offer) < cycles → IsDecided run (placed index offer) (verdict_of rows (offer_cycle d (placed index offer)) j)
  decided_at index offer j inside at there in_run =
      let x = placed index offer in
      let stands = numbered_at offers index offer at in
      subst (IsDecided run x) (sym (made.each index x j inside stands there (omega (arith, in_run, sealed))))
      (decide d entries offers background cycles x sealed ordered (contains_at (numbered offers) index x stands) in_run)

  -- all drops by the verdicts
  abbrev pub by_edge_verdicts : List Dropped
  by_edge_verdicts = by_index d.cycle_time cycles offers edge_verdicts (length offers)

  -- each is of an offer that isn't covered
  pub drop_is_uncovered : (x : Dropped) → Contains by_edge_verdicts x → IsOfUncovered run x
  drop_is_uncovered x c =
      let k = contains_from_below (drop_at d.cycle_time cycles offers edge_verdicts) (length offers) x c in
      let r = drop_is_judged d.cycle_time cycles offers edge_verdicts k.0 x k.2 in
      subst (IsOfUncovered run) r.is (record {
        x = placed k.0 r.offer;
        uncovered = decided_at k.0 r.offer (edge_verdict.Dropped r.reason) k.1 r.at r.made r.in_run;
        within_run = omega (arith, r.in_run, tables_count);
        cycle = refl;
        bridge = refl;
        frame = refl;
        octets = refl;
      })

  -- an offer that isn't covered has such a verdict
  judged_so : (x : Offered) (cycle : ℕ) (reason : Reason) (j : EdgeVerdict) → IsUncovered run x reason → IsDecided run x (verdict_of rows cycle j) →
      j ≡ edge_verdict.Dropped reason
  judged_so x cycle reason (edge_verdict.Dropped other) uncovered decided =
      let both : DroppedFor other ≡ DroppedFor reason = sym (uncovered_judged run x other decided) ∙ uncovered_judged run x reason uncovered in
      let same : other ≡ reason = cc in
      ap (λ (r : Reason). edge_verdict.Dropped r) same
  judged_so x cycle reason (edge_verdict.Covered index) uncovered decided = absurd (not_covered (slice_get rows index) decided)
    where
      -- it has no row
      not_covered : (o : Option Row) → IsDecided run x (queued_as cycle o) → ⊥
      not_covered None none = none
      not_covered (Some row) covered =
          let both : Queued (as_of cycle row) ≡ DroppedFor reason = sym (covered_judged run x (as_of cycle row) covered)
          ∙ uncovered_judged run x reason uncovered in
          cc

  -- so it has a drop
  pub uncovered_is_drop : (x : Dropped) → IsOfUncovered run x → Contains by_edge_verdicts x
  uncovered_is_drop x u =
      let k = u.uncovered.offered.0 in
      let inside : k < length offers = omega (arith, u.uncovered.offered.1, many_numbers offers) in
      let offer : Offer = get_or offers k u.x.offer in
      let at : slice_get offers k ≡ Some offer = slice_get-get_or offers k u.x.offer inside in
      let here : slice_get (numbered offers) k ≡ Some u.x =
      subst (λ (y : Offered). slice_get (numbered offers) k ≡ Some y) u.uncovered.offered.2 (slice_get-get_or (numbered offers) k u.x u.uncovered.offered.1) in
      let same : u.x ≡ placed k offer = same_Some u.x (placed k offer) (sym here ∙ numbered_at offers k offer at) in
      let cycle : x.cycle.0 ≡ offer_cycle d (placed k offer) = u.cycle ∙ ap (offer_cycle d) same in
      let in_run : offer_cycle d (placed k offer) < cycles = omega (arith, cycle, u.within_run, tables_count) in
      let uncovered : IsUncovered run (placed k offer) x.reason = subst (λ (y : Offered). IsUncovered run y x.reason) same u.uncovered in
      let j : EdgeVerdict = get_or edge_verdicts k (edge_verdict.Dropped x.reason) in
      let there : slice_get edge_verdicts k ≡ Some j = slice_get-get_or edge_verdicts k (edge_verdict.Dropped x.reason) (omega (arith, inside, made.count)) in
      let so : j ≡ edge_verdict.Dropped x.reason =
      judged_so (placed k offer) (offer_cycle d (placed k offer)) x.reason j uncovered (decided_at k offer j inside at there in_run) in
      let drop = drop_of_offer (offer_cycle d (placed k offer)) (k + 1) offer x.reason in
      let is : drop ≡ x = λ i. record {
        cycle = record { 0 = sym cycle i };
        bridge = (ap (λ (y : Offered). y.offer.bridge) (sym same) ∙ sym u.bridge) i;
        frame = (ap (λ (y : Offered). y.frame) (sym same) ∙ sym u.frame) i;
        octets = (ap (λ (y : Offered). y.offer.octets) (sym same) ∙ sym u.octets) i;
        reason = x.reason;
      } in
      contains_below (drop_at d.cycle_time cycles offers edge_verdicts) (length offers) k x inside
      (subst (λ (xs : List Dropped). Contains xs x)
      (sym (judged_is_drop d.cycle_time cycles offers edge_verdicts k offer x.reason at (there ∙ ap (λ (z : EdgeVerdict). Some z) so) in_run))
      (subst (λ (z : Dropped). Contains (drop ∷ []) z) is (contains_here drop [])))

  module _ (book : Contents) (is_book : IsBookOfHistory d entries offers background cycles book) (says : SaysTheShift run book) where
    -- the cycles of the run
    abbrev many : ℕ
    many = length (tables_of d entries cycles)

    -- the verdicts on the frames that arrive at a bridge
    abbrev given : ℕ → List Policed
    given bridge = policed_before run is_book.is_book.net.carried bridge (many * d.cycle_time)

    -- the book's drops of a cycle
    abbrev in_cycle : ℕ → List Dropped
    in_cycle cycle = each_below (drops_in d (length offers) given cycle) (length d.bridges)

    -- a test for a cycle, a bridge and the number of an index tells what a drop has
    has_keys : (cycle bridge index : ℕ) (x : Dropped) → is_drop_of cycle bridge (index + 1) x ≡ true → IsDropOf cycle bridge index x
    has_keys cycle bridge index x e =
        let first = and_parts (x.cycle.0 == cycle) ((x.bridge == bridge) && (x.frame == index + 1)) e in
        let second = and_parts (x.bridge == bridge) (x.frame == index + 1) first.1 in
        record {
          of_cycle = eqb-true x.cycle.0 cycle first.0;
          of_bridge = eqb-true x.bridge bridge second.0;
          of_index = eqb-true x.frame (index + 1) second.1;
        }

    passes : (cycle bridge index : ℕ) (x : Dropped) → IsDropOf cycle bridge index x → is_drop_of cycle bridge (index + 1) x ≡ true
    passes cycle bridge index x k =
        and_from (x.cycle.0 == cycle) ((x.bridge == bridge) && (x.frame == index + 1)) (eq-eqb x.cycle.0 cycle k.of_cycle)
        (and_from (x.bridge == bridge) (x.frame == index + 1) (eq-eqb x.bridge bridge k.of_bridge) (eq-eqb x.frame (index + 1) k.of_index))

    -- a drop of the book is one by the verdicts
    from_book : (cycle bridge index : ℕ) → cycle < many → bridge < length d.bridges → index < length offers → (x : Dropped) →
        Contains (drops_at d given cycle bridge index) x → Contains (filter (is_drop_of cycle bridge (index + 1)) by_edge_verdicts) x
    from_book cycle bridge index in_run is_bridge is_index x c =
        let placed_there = contains_below (drops_at d given cycle bridge) (length offers) index x is_index c in
        let bridged = contains_below (drops_in d (length offers) given cycle) (length d.bridges) bridge x is_bridge placed_there in
        let whole = contains_below in_cycle many cycle x in_run bridged in
        contains_filter (is_drop_of cycle bridge (index + 1)) by_edge_verdicts x
        (uncovered_is_drop x (says.only_drops x (subst (λ (xs : List Dropped). Contains xs x) (sym is_book.is_book.are_drops) whole)))
        (passes cycle bridge index x (drop_of_index d given cycle bridge index x c))

    -- and one by the verdicts is in the book
    to_book : (cycle bridge index : ℕ) (x : Dropped) → Contains (filter (is_drop_of cycle bridge (index + 1)) by_edge_verdicts) x →
        Contains (drops_at d given cycle bridge index) x
    to_book cycle bridge index x c =
        let kept = contains_from_filter (is_drop_of cycle bridge (index + 1)) by_edge_verdicts x c in
        let keys = has_keys cycle bridge index x kept.1 in
        let reported = subst (λ (xs : List Dropped). Contains xs x) is_book.is_book.are_drops (says.each_drop x (drop_is_uncovered x kept.0)) in
        let by_cycle = contains_from_below in_cycle many x reported in
        let by_bridge = contains_from_below (drops_in d (length offers) given by_cycle.0) (length d.bridges) x by_cycle.2 in
        let at = contains_from_below (drops_at d given by_cycle.0 by_bridge.0) (length offers) x by_bridge.2 in
        let there = drop_of_index d given by_cycle.0 by_bridge.0 at.0 x at.2 in
        let same_cycle : by_cycle.0 ≡ cycle = sym there.of_cycle ∙ keys.of_cycle in
        let same_bridge : by_bridge.0 ≡ bridge = sym there.of_bridge ∙ keys.of_bridge in
        let same_index : at.0 ≡ index = omega (arith, there.of_index, keys.of_index) in
        subst (λ n. Contains (drops_at d given n bridge index) x) same_cycle
        (subst (λ n. Contains (drops_at d given by_cycle.0 n index) x) same_bridge
        (subst (λ n. Contains (drops_at d given by_cycle.0 by_bridge.0 n) x) same_index at.2))

    -- so for each offer the drops are the same
    at_one_index : (cycle bridge index : ℕ) → cycle < many → bridge < length d.bridges → index < length offers →
        drops_at d given cycle bridge index ≡ filter (is_drop_of cycle bridge (index + 1)) by_edge_verdicts
    at_one_index cycle bridge index in_run is_bridge is_index =
        let keep = is_drop_of cycle bridge (index + 1) in
        let ascend : AllPairs (λ (a b : Dropped). a.frame < b.frame) (filter keep by_edge_verdicts) =
        AllPairs-filter (λ (a b : Dropped). a.frame < b.frame) keep by_edge_verdicts (frames_ascend d.cycle_time cycles offers edge_verdicts (length offers)) in
        same_ordered (λ (a b : Dropped). ⊥) (λ x y none other. none) (drops_at d given cycle bridge index) (filter keep by_edge_verdicts)
        (one_drop run is_book.is_book.net.carried (many * d.cycle_time) cycle bridge index)
        (pairs_weaker (λ (a b : Dropped). a.frame < b.frame) (λ (a b : Dropped). ⊥) (filter keep by_edge_verdicts) (λ x z cx cz less.
        absurd (omega (
          arith,
          less,
          (has_keys cycle bridge index x (contains_from_filter keep by_edge_verdicts x cx).1).of_index,
          (has_keys cycle bridge index z (contains_from_filter keep by_edge_verdicts z cz).1).of_index,
        ))) ascend)
        (from_book cycle bridge index in_run is_bridge is_index) (to_book cycle bridge index)

    -- no frame has the number 0
    none_0 : (cycle bridge : ℕ) → filter (is_drop_of cycle bridge 0) by_edge_verdicts ≡ []
    none_0 cycle bridge = filter_none (is_drop_of cycle bridge 0) by_edge_verdicts (λ x c.
        let k = contains_from_below (drop_at d.cycle_time cycles offers edge_verdicts) (length offers) x c in
        let frame = ap (λ (z : Dropped). z.frame) (drop_is_judged d.cycle_time cycles offers edge_verdicts k.0 x k.2).is in
        ap (λ (b : Bool). (x.cycle.0 == cycle) && ((x.bridge == bridge) && b)) (ne_eqb x.frame 0 (λ e. omega (arith, e, frame)))
        ∙ none_of_both (x.cycle.0 == cycle) (x.bridge == bridge))
      where
        -- two tests with one that fails fail
        none_of_both : (a b : Bool) → (a && (b && false)) ≡ false
        none_of_both true true = refl
        none_of_both true false = refl
        none_of_both false b = refl

    -- so for each bridge
    at_one_bridge : (cycle bridge : ℕ) → cycle < many → bridge < length d.bridges →
        drops_in d (length offers) given cycle bridge ≡ each_below (λ frame. filter (is_drop_of cycle bridge frame) by_edge_verdicts) (length offers + 1)
    at_one_bridge cycle bridge in_run is_bridge =
        let by : ℕ → List Dropped = λ frame. filter (is_drop_of cycle bridge frame) by_edge_verdicts in
        let next : suc (length offers) ≡ length offers + 1 = omega arith in
        same_below (drops_at d given cycle bridge) (λ index. by (index + 1)) (length offers)
        (λ index is_index. at_one_index cycle bridge index in_run is_bridge is_index)
        ∙ ap (λ (xs : List Dropped). xs ++ each_below (λ index. by (index + 1)) (length offers)) (sym (none_0 cycle bridge))
        ∙ sym (first_below by (length offers))
        ∙ ap (each_below by) next

    -- and so for the book
    pub ordered_is_book : in_book_order cycles (length d.bridges) (length offers + 1) by_edge_verdicts ≡ book.drops
    ordered_is_book =
        ap (λ n. in_book_order n (length d.bridges) (length offers + 1) by_edge_verdicts) (sym tables_count)
        ∙ sym (same_below in_cycle
        (λ cycle. each_below (λ bridge. each_below (λ frame. filter (is_drop_of cycle bridge frame) by_edge_verdicts) (length offers + 1)) (length d.bridges)) many
        (λ cycle in_run. same_below (drops_in d (length offers) given cycle)
        (λ bridge. each_below (λ frame. filter (is_drop_of cycle bridge frame) by_edge_verdicts) (length offers + 1)) (length d.bridges)
        (λ bridge is_bridge. at_one_bridge cycle bridge in_run is_bridge)))
        ∙ sym is_book.is_book.are_drops

-- the drops by the verdicts in a book's order are those of each book
pub drops_by_edge_verdicts : OffersAreJudged → BookOfHistorySaysTheShift →
    (d : Domain) (offers : List Offer) (cycles : ℕ) (edge_verdicts : List EdgeVerdict)
    (drops : List Dropped) → IsAccepted d → AreOffers d offers → StandInOrder offers →
    drops ≡ in_book_order cycles (length d.bridges) (length offers + 1) (by_index d.cycle_time cycles offers edge_verdicts (length offers)) →
    AreDropsBy d offers cycles edge_verdicts drops
drops_by_edge_verdicts decide says d offers cycles edge_verdicts drops accepted offered ordered sorted entries rows legal made background book backed is_book =
    sorted
    ∙ ordered_is_book decide d entries offers background cycles rows edge_verdicts made ordered is_book.sealed book is_book
    (says d entries offers background cycles book accepted legal offered backed is_book).says
