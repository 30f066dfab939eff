-- The offers so far are counted.
use Rattle.std.proofs.Common.{◌≡◌, ℕ, ◌+◌, ◌-◌, ◌*◌, ◌^◌, ◌<◌, ◌≤◌, ◌∷◌, [], List, All, Bool, true, false, Some, inl}
use Rattle.std.proofs.Common.{inr, sym, ap, ◌∙◌, subst, arith, length, min, take, sum_by, get_or, replicate, ◌==◌, ◌&&◌}
use Rattle.std.proofs.Common.{nat_lt, if◌then◌else◌}
use Rattle.std.specs.Prelude.{slice_get}
use Rattle.std.proofs.lemmas.Bool.{cases_lt}
use Rattle.std.proofs.lemmas.List.{get_or_default, get_or_past, get_or-replicate, length-map, length-replicate, take_all}
use Rattle.std.specs.List.{enumerate_from}
use Rattle.std.proofs.lemmas.List.FromFn.{length-enumerate_from}
use Rattle.std.proofs.lemmas.List.Sums.{sum_by-cons}
use Rattle.std.proofs.lemmas.Option.{get_or_from_slice_get, slice_get_within}
use Rattle.cqf_units.specs.Timing.{cycle_at}
use Rattle.cqf_units.proofs.Cycles.{cycles_ordered}
use Rattle.cqf_model.specs.declared.frames.Offer.{Offer}
use Rattle.cqf_model.specs.declared.frames.Offered.{Offered}
use Rattle.cqf_model.specs.declared.frames.Reason.TheVariants.{Unknown}
use Rattle.cqf_model.specs.declared.topology.Hop.{Hop}
use Rattle.cqf_model.specs.declared.topology.Row.{Row}
use Rattle.cqf_model.specs.Domain.{Domain}
use Rattle.cqf_model.specs.Shift.{offer_cycle}
use Rattle.cqf_model.specs.Policing.{Verdict, numbered}
use Rattle.cqf_laws_coverage.specs.declared.column.Column.{Column}
use Rattle.cqf_laws_coverage.specs.Columns.{frames_by, octets_by}
use Rattle.cqf_laws_coverage.specs.Counted.{counts_frames, counts_in, hops_of, sum_of_hops}
use Rattle.cqf_laws_coverage.specs.Judged.{StandInOrder}
use Rattle.cqf_instants_run.specs.declared.judged.EdgeVerdict.{EdgeVerdict}
use Rattle.cqf_instants_run.specs.declared.judged.EdgeVerdict.TheVariants.{Dropped}
use Rattle.cqf_instants_run.specs.Coverage.{verdict_of}
use Rattle.cqf_instants_run.proofs.Covers.{numbered_at}
use Rattle.cqf_instants_run.specs.Columns.{AddsFrame, AreEmptyColumns, AreSumsBy, HaveColumnsRoom, HaveRoomFor, HaveWidth, IsWide, verdict_at}
use Rattle.cqf_instants_run.proofs.Adding.{adds_next, octets_next}

-- a cell in which nothing is counted
empty_cell : (columns : List Column) (links width : ℕ) → AreEmptyColumns columns links width → (link cycle : ℕ) → link < links →
    get_or (octets_by columns link) cycle 0 ≡ 0
empty_cell columns links width empty link cycle is_link =
    ap (λ (xs : List ℕ). get_or xs cycle 0) (empty.octets link is_link)
    ∙ elim (cases_lt cycle width) [
      | inl inside ↦ get_or-replicate width cycle 0 0 inside
      | inr past ↦ get_or_past (replicate width 0) cycle 0 (omega (arith, past, length-replicate {A = ℕ} width 0))
    ]

-- the offers below an index, and at most 200 frames for each on a link
pub record AreCounted (d : Domain) (cycles : ℕ) (verdict : Offered → Verdict) (offers : List Offer) (index : ℕ) (before now : List Column) : Type 0 where
  pub adds : AddsFrame cycles before now (λ link. sum_of_hops d verdict (counts_frames link cycles) (take index (numbered offers)))
      (λ link cycle. sum_of_hops d verdict (counts_in link cycle) (take index (numbered offers)))
  pub few : (link : ℕ) → link < length before → frames_by now link ≤ 200 * index

-- the last offer is in no earlier cycle than another, so no frame is sent 256 or more cycles after it
pub wide : (cycle_time cycles : ℕ) (offers : List Offer) (last : Offer) (at width : ℕ) → 10000 ≤ cycle_time →
    All (λ (o : Offer). o.at.0 < 1000000000000) offers → StandInOrder offers → Some last ≡ slice_get offers (length offers - 1) →
    at ≡ cycle_at cycle_time last.at.0 → width ≡ min cycles (at + 256) → IsWide cycle_time cycles offers width
wide cycle_time cycles offers last at width time early order is cycle wide_is = record {
  within = omega (arith, wide_is);
  enough = λ k d inside hop_number short in_run.
      let none : last ≡ get_or offers (length offers - 1) d = sym (get_or_from_slice_get offers (length offers - 1) last d (sym is)) in
      let ordered : (get_or offers k d).at.0 ≤ last.at.0 = elim (cases_lt k (length offers - 1)) [
        | inl before ↦ subst (λ (o : Offer). (get_or offers k d).at.0 ≤ o.at.0) (sym none) (order k (length offers - 1) d before (omega (arith, inside)))
        | inr past ↦ (let same : k ≡ length offers - 1 = omega (arith, past, inside) in
            omega (arith, ap (λ (j : ℕ). (get_or offers j d).at.0) same, ap (λ (o : Offer). o.at.0) none))
      ] in
      omega (arith, cycles_ordered cycle_time (get_or offers k d).at.0 last.at.0 (omega (arith, time)) ordered, cycle, wide_is, in_run, short);
}

-- a hop counts at most once
few_hops : (cycles link first octets : ℕ) (hops : List Hop) →
    sum_by (λ (h : Hop). counts_frames link cycles h.link (first + h.hop_number) octets) hops ≤ length hops
few_hops cycles link first octets [] = omega arith
few_hops cycles link first octets (hop ∷ hops) =
    omega (
      arith,
      sum_by-cons (λ (h : Hop). counts_frames link cycles h.link (first + h.hop_number) octets) hop hops,
      once (hop.link == link) (nat_lt (first + hop.hop_number) cycles),
      few_hops cycles link first octets hops,
    )
  where
    -- two tests count at most one
    once : (a b : Bool) → (if a && b then 1 else 0) ≤ 1
    once true true = omega arith
    once true false = omega arith
    once false b = omega arith

-- there is a number for each offer
pub numbered_all : (offers : List Offer) → length (numbered offers) ≡ length offers
numbered_all offers = length-map (enumerate_from 1 offers) (λ (z : ℕ × Offer). record { frame = z.0; offer = z.1 }) ∙ length-enumerate_from 1 offers

-- one offer more
module _ (d : Domain) (cycles : ℕ) (verdict : Offered → Verdict) (offers : List Offer) (index : ℕ) (before now : List Column)
    (counted : AreCounted d cycles verdict offers index before now) (offer : Offer) (at : slice_get offers index ≡ Some offer) (hops : List Hop)
    (are_hops : hops ≡ hops_of (verdict (record { frame = index + 1; offer = offer }))) (few : length hops ≤ 200) (cycle : ℕ)
    (is_cycle : cycle ≡ cycle_at d.cycle_time offer.at.0) where
  -- the offer with its number
  abbrev x : Offered
  x = record { frame = index + 1; offer = offer }

  -- what it counts for
  abbrev frames_of : ℕ → Offered → ℕ
  frames_of l y = sum_by (λ (h : Hop). counts_frames l cycles h.link (offer_cycle d y + h.hop_number) y.offer.octets) (hops_of (verdict y))

  abbrev octets_of : ℕ → ℕ → Offered → ℕ
  octets_of l c y = sum_by (λ (h : Hop). counts_in l c h.link (offer_cycle d y + h.hop_number) y.offer.octets) (hops_of (verdict y))

  -- it is at its index
  within : index < length (numbered offers)
  within = omega (arith, slice_get_within offers index offer at, numbered_all offers)

  there : x ≡ get_or (numbered offers) index x
  there = sym (get_or_from_slice_get (numbered offers) index x x (numbered_at offers index offer at))

  -- the code's sums are these
  same_frames : (l : ℕ) → sum_by (λ (h : Hop). counts_frames l cycles h.link (cycle + h.hop_number) offer.octets) hops ≡ frames_of l x
  same_frames l =
      ap (λ (hs : List Hop). sum_by (λ (h : Hop). counts_frames l cycles h.link (cycle + h.hop_number) offer.octets) hs) are_hops
      ∙ ap (λ (c : ℕ). sum_by (λ (h : Hop). counts_frames l cycles h.link (c + h.hop_number) offer.octets) (hops_of (verdict x))) is_cycle

  same_octets : (l k : ℕ) → sum_by (λ (h : Hop). counts_in l k h.link (cycle + h.hop_number) offer.octets) hops ≡ octets_of l k x
  same_octets l k =
      ap (λ (hs : List Hop). sum_by (λ (h : Hop). counts_in l k h.link (cycle + h.hop_number) offer.octets) hs) are_hops
      ∙ ap (λ (c : ℕ). sum_by (λ (h : Hop). counts_in l k h.link (c + h.hop_number) offer.octets) (hops_of (verdict x))) is_cycle

  -- there is room for it
  pub room_for_offer : (width : ℕ) → AreEmptyColumns before (length d.links) width → index < 16777215 → HaveColumnsRoom d cycles verdict (numbered offers) →
      HaveRoomFor cycles now (λ l. sum_by (λ (h : Hop). counts_frames l cycles h.link (cycle + h.hop_number) offer.octets) hops)
      (λ l c. sum_by (λ (h : Hop). counts_in l c h.link (cycle + h.hop_number) offer.octets) hops)
  room_for_offer width empty early room = record {
    for_frames = λ l inside.
        omega (arith, counted.few l (omega (arith, inside, counted.adds.as_many)), few_hops cycles l cycle offer.octets hops, few, early);
    for_octets = λ l c inside in_run.
        subst (λ (n : ℕ). get_or (octets_by now l) c 0 + n < 2 ^ 32) (sym (same_octets l c))
        (octets_next cycles before now frames_of octets_of (numbered offers) index x within there counted.adds l c inside in_run
        (λ m k m_in k_in. omega (
          arith,
          empty_cell before (length d.links) width empty m k (omega (arith, m_in, empty.all)),
          room m k
              (omega (arith, m_in, empty.all)) k_in,
        )));
  }

  -- and it is counted
  pub offer_more : (after : List Column) →
      AddsFrame cycles now after (λ l. sum_by (λ (h : Hop). counts_frames l cycles h.link (cycle + h.hop_number) offer.octets) hops)
      (λ l c. sum_by (λ (h : Hop). counts_in l c h.link (cycle + h.hop_number) offer.octets) hops) →
      AreCounted d cycles verdict offers (index + 1) before after
  offer_more after one = record {
    adds = adds_next cycles before now frames_of octets_of (numbered offers) index x within there counted.adds after (record {
      as_many = one.as_many;
      as_wide = one.as_wide;
      adds_frames = λ l inside. one.adds_frames l inside ∙ ap (λ (n : ℕ). frames_by now l + n) (same_frames l);
      adds_octets = λ l c inside in_run. one.adds_octets l c inside in_run ∙ ap (λ (n : ℕ). get_or (octets_by now l) c 0 + n) (same_octets l c);
    });
    few = λ l inside.
        omega (
          arith,
          counted.few l inside,
          one.adds_frames l (omega (arith, inside, counted.adds.as_many)),
          few_hops cycles l cycle offer.octets hops,
          few,
        );
  }

-- an offer leaves by the hops of its verdict
pub hops_at : (d : Domain) (rows : List Row) (edge_verdicts : List EdgeVerdict) (index : ℕ) (offer : Offer) (hops : List Hop) (other : EdgeVerdict) →
    index < length edge_verdicts → hops ≡ hops_of (verdict_of rows (cycle_at d.cycle_time offer.at.0) (get_or edge_verdicts index other)) →
    hops ≡ hops_of (verdict_at d rows edge_verdicts (record { frame = index + 1; offer = offer }))
hops_at d rows edge_verdicts index offer hops other inside is =
    let back : index ≡ index + 1 - 1 = omega arith in
    is
    ∙ ap (λ (j : EdgeVerdict). hops_of (verdict_of rows (cycle_at d.cycle_time offer.at.0) j))
    (get_or_default edge_verdicts index other (Dropped Unknown) inside ∙ ap (λ (k : ℕ). get_or edge_verdicts k (Dropped Unknown)) back)

-- columns stay wide enough
pub wide_at : (d : Domain) (cycles : ℕ) (verdict : Offered → Verdict) (offers : List Offer) (index links width : ℕ) (before now : List Column) →
    AreCounted d cycles verdict offers index before now → AreEmptyColumns before links width → (cycle_time : ℕ) → IsWide cycle_time cycles offers width →
    (offer : Offer) → offer ≡ get_or offers index offer → index < length offers → (cycle : ℕ) → cycle ≡ cycle_at cycle_time offer.at.0 →
    (hop_number : ℕ) → hop_number < 256 → cycle + hop_number < cycles → HaveWidth now (cycle + hop_number + 1)
wide_at d cycles verdict offers index links width before now counted empty cycle_time wide offer there early cycle is_cycle hop_number short in_run link inside =
    let same : cycle ≡ cycle_at cycle_time (get_or offers index offer).at.0 = is_cycle ∙ ap (λ (o : Offer). cycle_at cycle_time o.at.0) there in
    let enough : cycle + hop_number < width =
    subst (λ (n : ℕ). n + hop_number < width) (sym same) (wide.enough index offer early hop_number short (subst (λ (n : ℕ). n + hop_number < cycles) same in_run)) in
    let is_link : link < length before = omega (arith, inside, counted.adds.as_many) in
    omega (
      arith,
      enough,
      counted.adds.as_wide link is_link,
      ap length (empty.octets link (omega (arith, is_link, empty.all))),
      length-replicate {A = ℕ} width 0,
    )

-- as many as the domain's links
pub empty_for : (d : Domain) (links width : ℕ) (columns : List Column) → links ≡ length d.links → AreEmptyColumns columns links width →
    AreEmptyColumns columns (length d.links) width
empty_for d links width columns same empty = subst (λ (n : ℕ). AreEmptyColumns columns n width) same empty

-- after the last offer the columns have the sums
pub counted_all : (d : Domain) (cycles : ℕ) (verdict : Offered → Verdict) (offers : List Offer) (index width : ℕ) (before now : List Column) →
    AreCounted d cycles verdict offers index before now → AreEmptyColumns before (length d.links) width → width ≤ cycles → length offers ≤ index →
    AreSumsBy d cycles verdict offers now
counted_all d cycles verdict offers index width before now counted empty short end =
    let all : take index (numbered offers) ≡ numbered offers = take_all index (numbered offers) (omega (arith, end, numbered_all offers)) in
    record {
      all = counted.adds.as_many ∙ empty.all;
      sums = record {
        frames_are = λ l is_link.
            omega (
              arith,
              counted.adds.adds_frames l (omega (arith, is_link, empty.all)),
              empty.frames l is_link,
              ap (sum_of_hops d verdict (counts_frames l cycles)) all,
            );
        cells_are = λ l c is_link in_run.
            omega (
              arith,
              counted.adds.adds_octets l c (omega (arith, is_link, empty.all)) in_run,
              empty_cell before (length d.links) width empty l c is_link,
              ap (sum_of_hops d verdict (counts_in l c)) all,
            );
        none_past = λ l c is_link past.
            get_or_past (octets_by now l) c 0
            (omega (
              arith,
              counted.adds.as_wide l (omega (arith, is_link, empty.all)),
              ap length (empty.octets l is_link),
              length-replicate {A = ℕ} width 0,
              short,
              past,
            ));
      };
    }
