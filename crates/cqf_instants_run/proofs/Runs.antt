-- The starts of a history's run can be computed from its layout.
use Rattle.std.proofs.Common.{◌≡◌, ℕ, ◌+◌, ◌-◌, ◌*◌, ◌/◌, ◌^◌, ◌<◌, ◌≤◌, [], List, Bool, true, false, Option, Some}
use Rattle.std.proofs.Common.{None, inl, inr, refl, sym, ap, ◌∙◌, subst, arith, length, Contains, get_or, nat_lt, ◌==◌}
use Rattle.std.proofs.Common.{if◌then◌else◌, ltb-true, eqb-true}
use Rattle.std.specs.Prelude.{slice_get}
use Rattle.std.specs.List.{enumerate_from}
use Rattle.std.proofs.lemmas.Bool.{cases_Bool, cases_eq, cases_lt}
use Rattle.std.proofs.lemmas.List.{get_or_past, length-map}
use Rattle.std.proofs.lemmas.List.Elements.{All-contains, All-nil}
use Rattle.std.proofs.lemmas.List.FromFn.{length-enumerate_from}
use Rattle.std.proofs.lemmas.Option.{get_or_from_slice_get, same_Some, slice_get-get_or, slice_get_within}
use Rattle.cqf_lists.proofs.Members.{any_member, contains_at}
use Rattle.cqf_units.proofs.Cycles.{cycle_below, before_cycle}
use Rattle.cqf_model.proofs.Represented.{few_links}
use Rattle.cqf_model.specs.declared.frames.Background.{Background}
use Rattle.cqf_model.specs.declared.frames.Offer.{Offer}
use Rattle.cqf_model.specs.declared.frames.Offered.{Offered}
use Rattle.cqf_model.specs.declared.frames.Reason.{Reason}
use Rattle.cqf_model.specs.declared.frames.Reason.TheVariants.{Unknown}
use Rattle.cqf_model.specs.declared.topology.Hop.{Hop}
use Rattle.cqf_model.specs.declared.topology.Row.{Row}
use Rattle.cqf_model.specs.Domain.{Domain, IsAccepted}
use Rattle.cqf_model.specs.History.{IsLegalHistory, Recorded, streams_of}
use Rattle.cqf_model.specs.HistoryBook.{run_of_history}
use Rattle.cqf_model.specs.Network.{Network}
use Rattle.cqf_model.specs.Run.{AreOffers, IsBackground, Run}
use Rattle.cqf_model.specs.Shift.{IsUncovered, offer_cycle}
use Rattle.cqf_model.specs.Paces.{each_cycle}
use Rattle.cqf_model.specs.Table.{is_live, row_named, table_of}
use Rattle.cqf_model.specs.Policing.{DroppedFor, Queued, numbered}
use Rattle.cqf_model.specs.Promise.{IsDecided}
use Rattle.cqf_laws_shift.specs.Run.{IsLegalRun}
use Rattle.cqf_laws_shift.proofs.Decided.{covered_judged, uncovered_judged}
use Rattle.cqf_laws_history.specs.HistoryLaws.{TablesAreOrderly, ThereAreSoManyTables}
use Rattle.cqf_laws_history.proofs.Growth.{tree_now}
use Rattle.cqf_laws_instants.specs.QueueLaws.{CoveringCovers, covering, covers, if_passes}
use Rattle.cqf_laws_coverage.specs.Judged.{OffersAreJudged, StandInOrder}
use Rattle.cqf_laws_coverage.specs.Rows.{AsLive, RowsSayTheTables, as_of}
use Rattle.cqf_instants.specs.declared.basis.Basis.{Basis}
use Rattle.cqf_instants.specs.declared.queues.LaidHop.{LaidHop}
use Rattle.cqf_instants.specs.declared.offers.Entering.{Entering}
use Rattle.cqf_instants.specs.Entering.{AreEntering, GoesByRow, IsEntering, StandByInstant, offer_at}
use Rattle.cqf_instants.specs.Queues.{branch_at}
use Rattle.cqf_instants.specs.Meaning.{AreBranches, AreHops, Given}
use Rattle.cqf_instants.specs.OfRun.{SomeRun, given_with}
use Rattle.cqf_instants.specs.Progress.{IsBasisOf}
use Rattle.cqf_instants.specs.declared.laying.Group.{Group}
use Rattle.cqf_instants.specs.LaidTrees.{after_at, group_at}
use Rattle.cqf_instants_run.specs.declared.judged.EdgeVerdict.{EdgeVerdict}
use Rattle.cqf_instants_run.specs.declared.judged.EdgeVerdict.TheVariants.{Covered, Dropped}
use Rattle.cqf_instants_run.specs.Coverage.{queued_as, verdict_of}
use Rattle.cqf_instants_run.proofs.Covers.{numbered_at}
use Rattle.cqf_instants_run.specs.Entered.{AreEntered, entering_by, group_for, group_until}
use Rattle.cqf_instants_run.specs.HistoryStarts.{IsBasisOfHistory, IsLaidOutHistoryOf, SomeHistory}
use Rattle.cqf_instants_run.specs.Laid.{AreHopsOf, AreLaid, HaveLowLinks, no_group}
use Rattle.cqf_instants_run.proofs.Streams.{few_streams, in_table, live_as, live_below}
use Rattle.cqf_instants_run.proofs.Streams.{while_live}

abbrev no_row : Row
no_row = record { no = 0; name = []; octets = 0; overhead = 0; pace = each_cycle; tree = record { items = [] }; admitted = record { 0 = 0 }; withdrawn = None }

-- there are as many numbered offers as offers
numbered_count : (offers : List Offer) → length (numbered offers) ≡ length offers
numbered_count offers =
    length-map (enumerate_from 1 offers) (λ (z : ℕ × Offer). let x : Offered = record { frame = z.0; offer = z.1 } in x) ∙ length-enumerate_from 1 offers

-- an offer that is dropped is covered by no row
covering_none : (covers : CoveringCovers) (run : Run) (x : Offered) (reason : Reason) → Contains (numbered run.offers) x → IsUncovered run x reason →
    covering run x ≡ None
covering_none covers run x reason inside uncovered = by (covering run x) refl
  where
    differ : (row : Row) → Queued row ≡ DroppedFor reason → ⊥
    differ row same = absurd cc

    by : (o : Option Row) → covering run x ≡ o → o ≡ None
    by None e = refl
    by (Some row) e =
        absurd (differ row (sym (covered_judged run x row ((covers run x row inside).0 e)) ∙ uncovered_judged run x reason uncovered))

-- an offer after the run's tables is covered by no row
covering_late : (run : Run) (x : Offered) → length run.tables ≤ offer_cycle run.domain x → covering run x ≡ None
covering_late run x late =
    ap (λ (rows : List Row). if_passes (covers run x) (row_named rows x.offer.stream))
    (get_or_past run.tables (offer_cycle run.domain x) [] late)

-- an offer at the end of some cycles or later is in none of them
late_cycle : (n t cycles : ℕ) → 0 < n → cycles * n ≤ t → cycles ≤ t / n
late_cycle n t cycles some late = elim (cases_lt (t / n) cycles) [
  | inl less ↦ absurd (omega (arith, before_cycle n t (t / n) cycles some refl less, late))
  | inr more ↦ more
]

module _ (d : Domain) (rows : List Row) (offers : List Offer) (edge_verdicts : List EdgeVerdict) (groups : List Group) (basis : Basis)
    (laid : AreLaid basis.cycles rows (length rows) basis.branches.items groups)
    (entered : AreEntered (basis.cycles * d.cycle_time) offers edge_verdicts groups (length offers) basis.offers.items) where
  abbrev cycles : ℕ
  cycles = basis.cycles

  abbrev branches : List LaidHop
  branches = basis.branches.items

  abbrev entering : List Entering
  entering = basis.offers.items

  abbrev end : ℕ
  end = cycles * d.cycle_time

  -- the row whose tree has a branch
  abbrev row_at : ℕ → Row
  row_at h = while_live (get_or rows (laid.row_of h) no_row)

  row_is : (h index : ℕ) (row : Row) → laid.row_of h ≡ index → slice_get rows index ≡ Some row → row_at h ≡ while_live row
  row_is h index row at is =
      ap (λ (p : ℕ). while_live (get_or rows p no_row)) at ∙ ap while_live (get_or_from_slice_get rows index row no_row is)

  -- laid hops of a row's tree are the hops of that tree in each run
  are_hops : (given : Given) → given.row_at ≡ row_at → (index : ℕ) (row : Row) (ingress : Option ℕ) (group : Group) → slice_get rows index ≡ Some row →
      AreHopsOf laid.row_of index row.tree.items ingress branches group → AreHops given branches group.first group.many (while_live row) ingress
  are_hops given same index row ingress group is hops = record {
    inside = hops.stand.inside;
    links = hops.stand.links;
    rows = λ k below. ap (λ (f : ℕ → Row). f (group.first + k)) same ∙ row_is (group.first + k) index row (hops.owned k below) is;
  }

  -- an offer by its index, with its verdict
  record IsPlaced (x : Offered) : Type 0 where
    k : ℕ
    offer : Offer
    edge_verdict : EdgeVerdict
    below : k < length offers
    number : x.frame - 1 ≡ k
    same : x.offer ≡ offer
    here : slice_get (numbered offers) k ≡ Some x
    at : slice_get offers k ≡ Some offer
    judged : slice_get edge_verdicts k ≡ Some edge_verdict

  placed : length edge_verdicts ≡ length offers → (x : Offered) → Contains (numbered offers) x → IsPlaced x
  placed count x c = by c.0 (slice_get_within (numbered offers) c.0 x found) found
    where
      found : slice_get (numbered offers) c.0 ≡ Some x
      found = subst (λ (y : Offered). slice_get (numbered offers) c.0 ≡ Some y) c.2 (slice_get-get_or (numbered offers) c.0 x c.1)

      by : (k : ℕ) → k < length (numbered offers) → slice_get (numbered offers) k ≡ Some x → IsPlaced x
      by k inside here =
          let below : k < length offers = omega (arith, inside, numbered_count offers) in
          let offer : Offer = get_or offers k x.offer in
          let at : slice_get offers k ≡ Some offer = slice_get-get_or offers k x.offer below in
          let y : Offered = record { frame = k + 1; offer = offer } in
          let is : x ≡ y = same_Some x y (sym here ∙ numbered_at offers k offer at) in
          record {
            k = k;
            offer = offer;
            edge_verdict = get_or edge_verdicts k (Dropped Unknown);
            below = below;
            number = omega (arith, ap (λ (z : Offered). z.frame) is);
            same = ap (λ (z : Offered). z.offer) is;
            here = here;
            at = at;
            judged = slice_get-get_or edge_verdicts k (Dropped Unknown) (omega (arith, below, count));
          }

  -- the offers are in order of instant, and their hops are there
  stand_by_instant : length edge_verdicts ≡ length offers → StandInOrder offers → length offers ≤ 16777215 → StandByInstant entering branches
  stand_by_instant count ordered few = record {
    rise = λ i j le inside. elim (cases_eq i j) [
      | inl e ↦ omega (arith, ap (λ (k : ℕ). (offer_at entering k).at) e)
      | inr n ↦ (let below : j < length offers = omega (arith, inside, entered.count) in
          let first = at_index i (omega (arith, le, below)) in
          let second = at_index j below in
          let x : Offer = record { at = record { 0 = 0 }; bridge = 0; stream = []; octets = 0 } in
          omega (arith, first x, second x, ordered i j x (omega (arith, le, n)) below))
    ];
    few = omega (arith, few, entered.count);
    inside = λ p below. hops_inside p (omega (arith, below, entered.count));
  }
    where
      -- the offer at an index
      is_at : (k : ℕ) (x : Offer) → k < length offers → offer_at entering k
          ≡ entering_by (get_or offers k x) (group_until end groups (get_or offers k x) (get_or edge_verdicts k (Dropped Unknown)))
      is_at k x below =
          entered.each k (get_or offers k x) (get_or edge_verdicts k (Dropped Unknown)) below (slice_get-get_or offers k x below)
          (slice_get-get_or edge_verdicts k (Dropped Unknown) (omega (arith, below, count)))

      at_index : (k : ℕ) → k < length offers → (x : Offer) → (offer_at entering k).at ≡ (get_or offers k x).at.0
      at_index k below x = ap (λ (e : Entering). e.at) (is_at k x below)

      fits : Group → Type 0
      fits group = group.first + group.many ≤ length branches

      by_edge_verdict : (edge_verdict : EdgeVerdict) → fits (group_for groups edge_verdict)
      by_edge_verdict (Covered index) = laid.inside index
      by_edge_verdict (Dropped reason) = omega arith

      by_time : (early : Bool) (edge_verdict : EdgeVerdict) → fits (if early then group_for groups edge_verdict else no_group)
      by_time true edge_verdict = by_edge_verdict edge_verdict
      by_time false edge_verdict = omega arith

      hops_inside : (k : ℕ) → k < length offers → (offer_at entering k).first + (offer_at entering k).many ≤ length branches
      hops_inside k below =
          let x : Offer = record { at = record { 0 = 0 }; bridge = 0; stream = []; octets = 0 } in
          subst (λ (e : Entering). e.first + e.many ≤ length branches) (sym (is_at k x below))
          (by_time (nat_lt (get_or offers k x).at.0 end) (get_or edge_verdicts k (Dropped Unknown)))

  module _ (orderly : TablesAreOrderly) (counted : ThereAreSoManyTables) (say : RowsSayTheTables) (as_live : AsLive) (decide : OffersAreJudged)
      (covers : CoveringCovers) (accepted : IsAccepted d) (offered : AreOffers d offers) (ordered : StandInOrder offers) (few : length offers ≤ 16777215)
      (entries : List Recorded) (is : IsLaidOutHistoryOf d cycles rows offers edge_verdicts entries) where
    -- the branches fit in 32 bits
    few_branches : length branches < 2 ^ 32
    few_branches = omega (arith, laid.few, few_streams d entries is.legal, ap length is.streams)

    -- a row is a stream of the history
    its_stream : (index : ℕ) (row : Row) → slice_get rows index ≡ Some row → Contains (streams_of d entries) row
    its_stream index row at = subst (λ (xs : List Row). Contains xs row) (sym is.streams) (contains_at rows index row at)

    module _ (background : List Background) (net : Network) where
      abbrev run : Run
      run = run_of_history d entries offers background cycles

      abbrev given : Given
      given = given_with run row_at net

      are : AreBranches given branches
      are h inside =
          let b = laid.each h inside in
          let row = b.row in
          let member = its_stream (laid.row_of h) row b.is in
          let same : row_at h ≡ while_live row = row_is h (laid.row_of h) row refl b.is in
          let link = (branch_at branches h).link in
          let found = any_member (λ (hop : Hop). hop.link == link) row.tree.items b.of_tree in
          record {
            table = row.admitted.0;
            of_table = subst (Contains (table_of run.tables row.admitted.0)) (sym same) (in_table say d entries cycles row is.sealed member b.live);
            is_link = omega (
              arith,
              All-contains (λ (hop : Hop). hop.link < length d.links) row.tree.items found.0 (tree_now d entries row is.legal member).inside found.1,
              eqb-true found.0.link link found.2,
            );
            following = subst (λ (r : Row). AreHops given branches (branch_at branches h).next (branch_at branches h).many r (Some link)) (sym same)
                (are_hops given refl (laid.row_of h) row (Some link) (after_at branches h) b.is b.following);
          }

      module _ (x : Offered) (inside : Contains (numbered offers) x) (at : IsPlaced x) where
        -- an offer within the run is decided by its verdict
        decided : offer_cycle d x < cycles → IsDecided run x (verdict_of rows (offer_cycle d x) at.edge_verdict)
        decided early =
            subst (IsDecided run x) (sym (is.judged.each at.k x at.edge_verdict at.below at.here at.judged (omega (arith, early, is.sealed))))
            (decide d entries offers background cycles x is.sealed ordered inside early)

        abbrev goes : Group → Type 0
        goes group = GoesByRow given branches group.first group.many (covering run x)

        goes_by_none : covering run x ≡ None → goes no_group
        goes_by_none none = subst (GoesByRow given branches 0 0) (sym none) refl

        by_row : (index : ℕ) (found : Option Row) → slice_get rows index ≡ found → offer_cycle d x < cycles →
            IsDecided run x (queued_as (offer_cycle d x) found) → goes (group_at groups index)
        by_row index None none early v = absurd v
        by_row index (Some row) there early is_covered =
            let c = offer_cycle d x in
            let live : is_live row c ≡ true = sym (as_live row c) ∙ is_covered.live in
            let some : covering run x ≡ Some (while_live row) = (covers run x (as_of c row) inside).1 is_covered
            ∙ ap (λ (r : Row). Some r) (live_as row c live) in
            let group = group_at groups index in
            subst (GoesByRow given branches group.first group.many) (sym some)
            (are_hops given refl index row None group there
            (laid.begin index row (slice_get_within rows index row there) there (live_below row c cycles live early)))

        by_edge_verdict : (edge_verdict : EdgeVerdict) → offer_cycle d x < cycles → IsDecided run x (verdict_of rows (offer_cycle d x) edge_verdict) →
            goes (group_for groups edge_verdict)
        by_edge_verdict (Covered index) early v = by_row index (slice_get rows index) refl early v
        by_edge_verdict (Dropped reason) early v = goes_by_none (covering_none covers run x reason inside v)

        some_time : 0 < d.cycle_time
        some_time = omega (arith, accepted.cycle_least)

        -- it takes the hops with which it enters
        enters : goes (group_until end groups x.offer at.edge_verdict)
        enters = elim (cases_Bool (nat_lt x.offer.at.0 end)) [
          | inl early ↦
              let in_run = cycle_below d.cycle_time x.offer.at.0 cycles (ltb-true x.offer.at.0 end early) in
              subst goes (sym (ap (λ (b : Bool). if b then group_for groups at.edge_verdict else no_group) early))
              (by_edge_verdict at.edge_verdict in_run (decided in_run))
          | inr late ↦
              let from : end ≤ x.offer.at.0 = not_below x.offer.at.0 end late in
              subst goes (sym (ap (λ (b : Bool). if b then group_for groups at.edge_verdict else no_group) late))
              (goes_by_none (covering_late run x (omega (arith, counted d entries cycles, late_cycle d.cycle_time x.offer.at.0 cycles some_time from))))
        ]
          where
            not_below : (a b : ℕ) → nat_lt a b ≡ false → b ≤ a
            not_below a b e = grind (arith, e)

      are_entering : AreEntering given branches entering
      are_entering = record {
        count = entered.count;
        each = λ x inside.
            let at = placed is.judged.count x inside in
            let here : offer_at entering (x.frame - 1) ≡ entering_by x.offer (group_until end groups x.offer at.edge_verdict) =
            ap (offer_at entering) at.number ∙ entered.each at.k at.offer at.edge_verdict at.below at.at at.judged
            ∙ ap (λ (o : Offer). entering_by o (group_until end groups o at.edge_verdict)) (sym at.same) in
            subst (IsEntering given branches x) (sym here) (record { at = refl; octets = refl; decided = enters x inside at });
      }

    stand : StandByInstant entering branches
    stand = stand_by_instant is.judged.count ordered few

    module _ (are_links : d.links ≡ basis.links.items) (is_time : basis.cycle_time ≡ d.cycle_time) (is_guard : basis.guard ≡ d.guard) where
      -- there is a run
      pub some_run : SomeRun basis
      some_run = record {
        run = run_of_history d entries offers [] cycles;
        row_at = row_at;
        accepted = accepted;
        orderly = orderly d entries cycles is.legal is.sealed;
        offered = offered;
        background = All-nil (IsBackground d);
        are_links = are_links;
        is_time = is_time;
        is_guard = is_guard;
        are_cycles = sym (counted d entries cycles);
        few = few_branches;
        are = are [];
        entering = are_entering [];
        stand = stand;
      }

      -- and it is the basis of each
      pub is_basis : (background : List Background) (net : Network) → IsLegalRun (run_of_history d entries offers background cycles) net →
          IsBasisOf (given background net) basis
      is_basis background net legal = record {
        legal = legal;
        are_links = are_links;
        is_time = is_time;
        is_guard = is_guard;
        are_cycles = sym (counted d entries cycles);
        are = are background net;
        few = few_branches;
        entering = are_entering background net;
        stand = stand;
      }

-- links of the rows of a legal history have low numbers
pub low_links : (d : Domain) (entries : List Recorded) (rows : List Row) → IsAccepted d → IsLegalHistory d entries → streams_of d entries
    ≡ rows → HaveLowLinks rows
low_links d entries rows accepted legal streams row inside k none below =
    omega (arith, (tree_now d entries row legal (subst (λ (xs : List Row). Contains xs row) (sym streams) inside)).inside k none below, few_links d accepted)

-- so what is laid out is the basis of the history's run
pub lays : (orderly : TablesAreOrderly) (counted : ThereAreSoManyTables) (say : RowsSayTheTables) (as_live : AsLive) (decide : OffersAreJudged)
    (covers : CoveringCovers) (d : Domain) (rows : List Row) (offers : List Offer) (edge_verdicts : List EdgeVerdict) (groups : List Group) (basis : Basis) →
    IsAccepted d → AreOffers d offers → StandInOrder offers → length offers ≤ 16777215 → SomeHistory d basis.cycles rows offers edge_verdicts →
    d.links ≡ basis.links.items → basis.cycle_time ≡ d.cycle_time → basis.guard ≡ d.guard →
    AreLaid basis.cycles rows (length rows) basis.branches.items groups →
    AreEntered (basis.cycles * d.cycle_time) offers edge_verdicts groups (length offers) basis.offers.items →
    IsBasisOfHistory d basis.cycles rows offers edge_verdicts basis
lays orderly counted say as_live decide covers d rows offers edge_verdicts groups basis accepted offered ordered few some are_links is_time is_guard laid
    entered = record {
      are_cycles = refl;
      some = some_run d rows offers edge_verdicts groups basis laid entered orderly counted say as_live decide covers accepted offered ordered few
          some.entries some.is are_links is_time is_guard;
      each = λ entries background net is legal. record {
        given = given_with (run_of_history d entries offers background basis.cycles) (row_at d rows offers edge_verdicts groups basis laid entered) net;
        is_run = refl;
        is_net = refl;
        is_basis = is_basis d rows offers edge_verdicts groups basis laid entered orderly counted say as_live decide covers accepted offered ordered few
            entries is are_links is_time is_guard background net legal;
      };
    }
