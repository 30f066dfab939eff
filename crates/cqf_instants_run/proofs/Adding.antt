-- Adding to columns, step by step.
use Rattle.std.proofs.Common.{◌≡◌, ℕ, ◌+◌, ◌^◌, ◌<◌, ◌∷◌, [], ◌++◌, List, Bool, true, false, inl, inr, refl, sym, ap}
use Rattle.std.proofs.Common.{◌∙◌, subst, arith, length, map, take, sum_by, get_or, set, replicate, eq-eqb, ne_eqb}
use Rattle.std.proofs.Common.{◌==◌, ◌&&◌, nat_lt, if◌then◌else◌}
use Rattle.std.proofs.lemmas.Bool.{cases_eq, cases_lt, lt-ltb}
use Rattle.std.proofs.lemmas.List.{get_or_append_left, get_or_push, get_or-map, get_or-set_other, get_or-set_same}
use Rattle.std.proofs.lemmas.List.{length-append, length-map, length-set, map-append, map-set}
use Rattle.std.proofs.lemmas.List.Sums.{sum_by_more, sum_by_more_le}
use Rattle.cqf_model.specs.declared.topology.Hop.{Hop}
use Rattle.cqf_laws_coverage.specs.declared.column.Column.{Column}
use Rattle.cqf_laws_coverage.specs.Columns.{frames_by, octets_by}
use Rattle.cqf_laws_coverage.specs.Counted.{counts_frames, counts_in}
use Rattle.cqf_laws_coverage.proofs.Counts.{second_fails}
use Rattle.cqf_instants_run.specs.Columns.{AddsFrame, AreEmptyColumns, HaveRoomFor, HaveWidth}

-- a number counts if both tests pass, and doesn't if the first fails
both_pass : (a b : Bool) (n : ℕ) → a ≡ true → b ≡ true → (if a && b then n else 0) ≡ n
both_pass true true n p q = refl
both_pass true false n p q = absurd (cc)
both_pass false b n p q = absurd (cc)

first_fails : (a b : Bool) (n : ℕ) → a ≡ false → (if a && b then n else 0) ≡ 0
first_fails true b n p = absurd (cc)
first_fails false b n p = refl

-- nothing is added
pub adds_none : (cycles : ℕ) (columns : List Column) (frames : ℕ → ℕ) (octets : ℕ → ℕ → ℕ) →
    ((link : ℕ) → link < length columns → frames link ≡ 0) →
    ((link cycle : ℕ) → link < length columns → cycle < cycles → octets link cycle ≡ 0) → AddsFrame cycles columns columns frames octets
adds_none cycles columns frames octets no_frames no_octets = record {
  as_many = refl;
  as_wide = λ link inside. refl;
  adds_frames = λ link inside. omega (arith, no_frames link inside);
  adds_octets = λ link cycle inside in_run. omega (arith, no_octets link cycle inside in_run);
}

-- a hop by a link in a cycle
module _ (cycles : ℕ) (columns : List Column) (link cycle octets : ℕ) (is_link : link < length columns) (in_run : cycle < cycles) where
  -- its link's frames are those of the column at its index
  pub own_frames : (d : Column) → frames_by columns link ≡ (get_or columns link d).frames
  own_frames d = get_or-map (λ (z : Column). z.frames) columns link d 0 is_link

  pub own_octets : (d : Column) → octets_by columns link ≡ (get_or columns link d).octets.items
  own_octets d = get_or-map (λ (z : Column). z.octets.items) columns link d [] is_link

  -- it counts there
  counts_there : counts_frames link cycles link cycle octets ≡ 1
  counts_there = both_pass (link == link) (nat_lt cycle cycles) 1 (eq-eqb link link refl) (lt-ltb cycle cycles in_run)

  octets_there : counts_in link cycle link cycle octets ≡ octets
  octets_there = both_pass (link == link) (cycle == cycle) octets (eq-eqb link link refl) (eq-eqb cycle cycle refl)

  module _ (room : HaveRoomFor cycles columns (λ l. counts_frames l cycles link cycle octets) (λ l c. counts_in l c link cycle octets)) (d : Column) where
    -- so there is room for it
    pub frame_fits : (get_or columns link d).frames + 1 < 2 ^ 64
    frame_fits = omega (arith, room.for_frames link is_link, counts_there, own_frames d)

    pub octets_fit : get_or (get_or columns link d).octets.items cycle 0 + octets < 2 ^ 32
    octets_fit = omega (arith, room.for_octets link cycle is_link in_run, octets_there, ap (λ (xs : List ℕ). get_or xs cycle 0) (own_octets d))

  -- and it is added
  module _ (d new : Column) (after : List Column) (is : after ≡ set columns link new) (inside : cycle < length (get_or columns link d).octets.items)
      (frames : new.frames ≡ (get_or columns link d).frames + 1)
      (cells : new.octets.items ≡ set (get_or columns link d).octets.items cycle (get_or (get_or columns link d).octets.items cycle 0 + octets)) where
    -- the column before
    abbrev old : Column
    old = get_or columns link d

    -- the frames of each link afterwards
    frames_then : (l : ℕ) → frames_by after l ≡ get_or (set (map (λ (z : Column). z.frames) columns) link new.frames) l 0
    frames_then l = ap (λ (zs : List Column). frames_by zs l) is ∙ ap (λ (ns : List ℕ). get_or ns l 0) (map-set (λ (z : Column). z.frames) columns link new)

    octets_then : (l : ℕ) → octets_by after l ≡ get_or (set (map (λ (z : Column). z.octets.items) columns) link new.octets.items) l []
    octets_then l =
        ap (λ (zs : List Column). octets_by zs l) is
        ∙ ap (λ (ns : List (List ℕ)). get_or ns l []) (map-set (λ (z : Column). z.octets.items) columns link new)

    own_frames_then : frames_by after link ≡ new.frames
    own_frames_then =
        frames_then link ∙ get_or-set_same (map (λ (z : Column). z.frames) columns) link new.frames 0
        (omega (arith, is_link, length-map columns (λ (z : Column). z.frames)))

    own_octets_then : octets_by after link ≡ new.octets.items
    own_octets_then =
        octets_then link ∙ get_or-set_same (map (λ (z : Column). z.octets.items) columns) link new.octets.items []
        (omega (arith, is_link, length-map columns (λ (z : Column). z.octets.items)))

    other_frames : (l : ℕ) → (l ≡ link → ⊥) → frames_by after l ≡ frames_by columns l
    other_frames l apart = frames_then l ∙ get_or-set_other (map (λ (z : Column). z.frames) columns) link l new.frames 0 apart

    other_octets : (l : ℕ) → (l ≡ link → ⊥) → octets_by after l ≡ octets_by columns l
    other_octets l apart = octets_then l ∙ get_or-set_other (map (λ (z : Column). z.octets.items) columns) link l new.octets.items [] apart

    -- the hop's own cell, and others of its link
    own_cell : get_or new.octets.items cycle 0 ≡ get_or old.octets.items cycle 0 + octets
    own_cell =
        ap (λ (xs : List ℕ). get_or xs cycle 0) cells
        ∙ get_or-set_same old.octets.items cycle (get_or old.octets.items cycle 0 + octets) 0 inside

    other_cell : (c : ℕ) → (c ≡ cycle → ⊥) → get_or new.octets.items c 0 ≡ get_or old.octets.items c 0
    other_cell c apart =
        ap (λ (xs : List ℕ). get_or xs c 0) cells
        ∙ get_or-set_other old.octets.items cycle c (get_or old.octets.items cycle 0 + octets) 0 apart

    pub adds_hop : AddsFrame cycles columns after (λ l. counts_frames l cycles link cycle octets) (λ l c. counts_in l c link cycle octets)
    adds_hop = record {
      as_many = ap length is ∙ length-set columns link new;
      as_wide = λ l l_in. elim (cases_eq l link) [
        | inl e ↦ ap (λ (k : ℕ). length (octets_by after k)) e ∙ ap length own_octets_then ∙ ap length cells
            ∙ length-set old.octets.items cycle (get_or old.octets.items cycle 0 + octets) ∙ ap length (sym (own_octets d))
            ∙ ap (λ (k : ℕ). length (octets_by columns k)) (sym e)
        | inr other ↦ ap length (other_octets l other)
      ];
      adds_frames = λ l l_in. elim (cases_eq l link) [
        | inl e ↦ omega (
          arith,
          ap (λ (k : ℕ). frames_by after k) e,
          own_frames_then,
          frames,
          own_frames d,
          ap (λ (k : ℕ). frames_by columns k) e,
          counts_there,
          ap (λ (k : ℕ). counts_frames k cycles link cycle octets) e,
        )
        | inr other ↦ omega (
          arith,
          other_frames l other,
          first_fails (link == l) (nat_lt cycle cycles) 1 (ne_eqb link l (λ e. other (sym e))),
        )
      ];
      adds_octets = λ l c l_in c_in. elim (cases_eq l link) [
        | inr other ↦ omega (
          arith,
          ap (λ (xs : List ℕ). get_or xs c 0) (other_octets l other),
          first_fails (link == l) (cycle == c) octets (ne_eqb link l (λ e. other (sym e))),
        )
        | inl e ↦ (let now : get_or (octets_by after l) c 0 ≡ get_or new.octets.items c 0 =
            ap (λ (k : ℕ). get_or (octets_by after k) c 0) e ∙ ap (λ (xs : List ℕ). get_or xs c 0) own_octets_then in
            let before : get_or (octets_by columns l) c 0 ≡ get_or old.octets.items c 0 =
            ap (λ (k : ℕ). get_or (octets_by columns k) c 0) e ∙ ap (λ (xs : List ℕ). get_or xs c 0) (own_octets d) in
            elim (cases_eq c cycle) [
              | inl same ↦ omega (
                arith,
                now,
                before,
                ap (λ (k : ℕ). get_or new.octets.items k 0) same,
                ap (λ (k : ℕ). get_or old.octets.items k 0) same,
                own_cell,
                both_pass (link == l) (cycle == c) octets (eq-eqb link l (sym e)) (eq-eqb cycle c (sym same)),
              )
              | inr differ ↦ omega (
                arith,
                now,
                before,
                other_cell c differ,
                second_fails (link == l) (cycle == c) octets (ne_eqb cycle c (λ p. differ (sym p))),
              )
            ])
      ];
    }

-- two additions, one after the other, are one addition of the sums, in any notation
pub adds_then : (cycles : ℕ) (before between after : List Column) (f g h : ℕ → ℕ) (p q r : ℕ → ℕ → ℕ) → AddsFrame cycles before between f p →
    AddsFrame cycles between after g q → ((link : ℕ) → h link ≡ f link + g link) → ((link cycle : ℕ) → r link cycle ≡ p link cycle + q link cycle) →
    AddsFrame cycles before after h r
adds_then cycles before between after f g h p q r first second frames octets = record {
  as_many = second.as_many ∙ first.as_many;
  as_wide = λ link inside. second.as_wide link (omega (arith, inside, first.as_many)) ∙ first.as_wide link inside;
  adds_frames = λ link inside. omega (
    arith,
    second.adds_frames link (omega (arith, inside, first.as_many)),
    first.adds_frames link inside,
    frames link,
  );
  adds_octets = λ link cycle inside in_run. omega (
    arith,
    second.adds_octets link cycle (omega (arith, inside, first.as_many)) in_run,
    first.adds_octets link cycle inside in_run,
    octets link cycle,
  );
}

-- the sums over some items, item by item
module _ {X : Type 0} (cycles : ℕ) (before now : List Column) (f : ℕ → X → ℕ) (p : ℕ → ℕ → X → ℕ) (xs : List X) (i : ℕ) (x : X) (within : i < length xs)
    (is : x ≡ get_or xs i x) (so_far : AddsFrame cycles before now (λ l. sum_by (f l) (take i xs)) (λ l c. sum_by (p l c) (take i xs))) where
  -- one more is added
  pub adds_next : (after : List Column) → AddsFrame cycles now after (λ l. f l x) (λ l c. p l c x) →
      AddsFrame cycles before after (λ l. sum_by (f l) (take (i + 1) xs)) (λ l c. sum_by (p l c) (take (i + 1) xs))
  adds_next after one = adds_then cycles before now after (λ l. sum_by (f l) (take i xs)) (λ l. f l x) (λ l. sum_by (f l) (take (i + 1) xs))
      (λ l c. sum_by (p l c) (take i xs)) (λ l c. p l c x) (λ l c. sum_by (p l c) (take (i + 1) xs)) so_far one
      (λ l. omega (arith, sum_by_more (f l) xs i x within, ap (f l) is))
      (λ l c. omega (arith, sum_by_more (p l c) xs i x within, ap (p l c) is))

  -- if there is room for all, there is room for one more
  pub frames_next : (link : ℕ) → link < length now → ((l : ℕ) → l < length before → frames_by before l + sum_by (f l) xs < 2 ^ 64) →
      frames_by now link + f link x < 2 ^ 64
  frames_next link inside room =
      let there : link < length before = omega (arith, inside, so_far.as_many) in
      omega (arith, so_far.adds_frames link there, sum_by_more_le (f link) xs i x within, ap (f link) is, room link there)

  pub octets_next : (link cycle : ℕ) → link < length now → cycle < cycles →
      ((l c : ℕ) → l < length before → c < cycles → get_or (octets_by before l) c 0 + sum_by (p l c) xs < 2 ^ 32) →
      get_or (octets_by now link) cycle 0 + p link cycle x < 2 ^ 32
  octets_next link cycle inside in_run room =
      let there : link < length before = omega (arith, inside, so_far.as_many) in
      omega (arith, so_far.adds_octets link cycle there in_run, sum_by_more_le (p link cycle) xs i x within, ap (p link cycle) is, room link cycle there in_run)

  -- columns keep their width
  pub width_next : (width : ℕ) → HaveWidth before width → HaveWidth now width
  width_next width wide link inside =
      let there : link < length before = omega (arith, inside, so_far.as_many) in
      omega (arith, wide link there, so_far.as_wide link there)

-- the hops of a tree, one by one
module _ (cycles : ℕ) (before now : List Column) (hops : List Hop) (first octets i : ℕ) (hop : Hop) (hop_number : ℕ) (within : i < length hops)
    (is : hop ≡ get_or hops i hop) (deep : hop_number ≡ hop.hop_number)
    (so_far : AddsFrame cycles before now (λ l. sum_by (λ (h : Hop). counts_frames l cycles h.link (first + h.hop_number) octets) (take i hops))
    (λ l c. sum_by (λ (h : Hop). counts_in l c h.link (first + h.hop_number) octets) (take i hops))) where
  -- what a hop counts for
  abbrev frames_of : ℕ → Hop → ℕ
  frames_of l h = counts_frames l cycles h.link (first + h.hop_number) octets

  abbrev octets_of : ℕ → ℕ → Hop → ℕ
  octets_of l c h = counts_in l c h.link (first + h.hop_number) octets

  -- there is room for one more
  pub room_for_hop : HaveRoomFor cycles before (λ l. sum_by (frames_of l) hops) (λ l c. sum_by (octets_of l c) hops) →
      HaveRoomFor cycles now (λ l. counts_frames l cycles hop.link (first + hop_number) octets) (λ l c. counts_in l c hop.link (first + hop_number) octets)
  room_for_hop room = record {
    for_frames = λ l inside.
        subst (λ (n : ℕ). frames_by now l + counts_frames l cycles hop.link (first + n) octets < 2 ^ 64) (sym deep)
        (frames_next cycles before now frames_of octets_of hops i hop within is so_far l inside room.for_frames);
    for_octets = λ l c inside in_run.
        subst (λ (n : ℕ). get_or (octets_by now l) c 0 + counts_in l c hop.link (first + n) octets < 2 ^ 32) (sym deep)
        (octets_next cycles before now frames_of octets_of hops i hop within is so_far l c inside in_run room.for_octets);
  }

  -- and it is added
  pub hop_more : (after : List Column) →
      AddsFrame cycles now after (λ l. counts_frames l cycles hop.link (first + hop_number) octets) (λ l c. counts_in l c hop.link (first + hop_number) octets) →
      AddsFrame cycles before after (λ l. sum_by (frames_of l) (take (i + 1) hops)) (λ l c. sum_by (octets_of l c) (take (i + 1) hops))
  hop_more after one =
      adds_next cycles before now frames_of octets_of hops i hop within is so_far after
      (subst (λ (n : ℕ). AddsFrame cycles now after (λ l. counts_frames l cycles hop.link (first + n) octets)
      (λ l c. counts_in l c hop.link (first + n) octets)) deep one)

  -- the columns are as wide as they were
  pub width_for_hop : (width : ℕ) → HaveWidth before width → HaveWidth now width
  width_for_hop width = width_next cycles before now frames_of octets_of hops i hop within is so_far width

-- no columns are empty columns, and so are these with one more in which nothing is counted
pub empty_none : (columns : List Column) (width : ℕ) → columns ≡ [] → AreEmptyColumns columns 0 width
empty_none columns width none = record {
  all = ap length none;
  frames = λ link inside. absurd (omega (arith, inside));
  octets = λ link inside. absurd (omega (arith, inside));
}

pub empty_more : (columns after : List Column) (links width : ℕ) (last : Column) → AreEmptyColumns columns links width → last.frames ≡ 0 →
    last.octets.items ≡ replicate width 0 → after ≡ columns ++ last ∷ [] → AreEmptyColumns after (links + 1) width
empty_more columns after links width last so_far no_frames no_octets is = record {
  all = ap length is ∙ length-append columns (last ∷ []) ∙ ap (λ n. n + 1) so_far.all;
  frames = λ link inside. ap (λ (zs : List Column). frames_by zs link) is ∙ by_frames link inside;
  octets = λ link inside. ap (λ (zs : List Column). octets_by zs link) is ∙ by_octets link inside;
}
  where
    -- those before, and the new one
    by_frames : (link : ℕ) → link < links + 1 → frames_by (columns ++ last ∷ []) link ≡ 0
    by_frames link inside =
        let of : List ℕ = map (λ (z : Column). z.frames) columns in
        let many : length of ≡ links = length-map columns (λ (z : Column). z.frames) ∙ so_far.all in
        ap (λ (ns : List ℕ). get_or ns link 0) (map-append (λ (z : Column). z.frames) columns (last ∷ []))
        ∙ elim (cases_lt link links) [
          | inl l ↦ get_or_append_left of (last.frames ∷ []) 0 link (omega (arith, l, many)) ∙ so_far.frames link l
          | inr g ↦ (let here : link ≡ links = omega (arith, g, inside) in
              get_or_push of last.frames 0 link (many ∙ sym here) ∙ no_frames)
        ]

    by_octets : (link : ℕ) → link < links + 1 → octets_by (columns ++ last ∷ []) link ≡ replicate width 0
    by_octets link inside =
        let of : List (List ℕ) = map (λ (z : Column). z.octets.items) columns in
        let many : length of ≡ links = length-map columns (λ (z : Column). z.octets.items) ∙ so_far.all in
        ap (λ (ns : List (List ℕ)). get_or ns link []) (map-append (λ (z : Column). z.octets.items) columns (last ∷ []))
        ∙ elim (cases_lt link links) [
          | inl l ↦ get_or_append_left of (last.octets.items ∷ []) [] link (omega (arith, l, many)) ∙ so_far.octets link l
          | inr g ↦ (let here : link ≡ links = omega (arith, g, inside) in
              get_or_push of last.octets.items [] link (many ∙ sym here) ∙ no_octets)
        ]
