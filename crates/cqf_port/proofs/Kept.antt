-- The fields of a port as it takes arrivals and runs.
use Rattle.std.proofs.Common.{ℕ, ◌≡◌, ◌≢◌, ◌+◌, ◌^◌, ◌≤◌, ◌<◌, inl, inr, List, [], ◌∷◌, ◌++◌, length, get_or, set, take}
use Rattle.std.proofs.Common.{drop, ◌-◌, sym, ap, subst, ◌∙◌, arith, length-append}
use Rattle.std.specs.Prelude.{All, map}
use Rattle.std.proofs.lemmas.Bool.{cases_lt}
use Rattle.std.proofs.lemmas.List.{get_or-set_same, get_or-set_other, length-set}
use Rattle.std.proofs.Math.Seq.{drop-append_seam, take-append_seam}
use Rattle.std.proofs.lemmas.List.Elements.{Contains-get_or, All-take, All-drop}
use Rattle.cqf_units.specs.declared.timing.Nanos.{Nanos}
use Rattle.cqf_model.specs.declared.ports.Arrival.{Arrival}
use Rattle.cqf_model.specs.declared.ports.Start.{Start}
use Rattle.cqf_model.specs.Port.{Transmission, PortRules, AreLegal, no_arrival, instant_of, class_of}
use Rattle.cqf_laws_network.specs.PortLaws.{LegalStartsAreUnique}
use Rattle.cqf_port.specs.PortState.{PortState, AreTaken, IsPort, IsLast, IsOutOfOrder, WasOpen, Advances, RunsUpTo, start_of}
use Rattle.cqf_port.specs.Progress.{IsNewest, AreNewest, IsAfterArrival, IsKept, AreMore}
use Rattle.cqf_port.specs.declared.progress.Progress.{Progress}
use Rattle.cqf_port.proofs.Longer.{same_arrival, last_arrival, arrival_after}
use Rattle.cqf_port.proofs.More.{range_to_end}
use Rattle.cqf_port.proofs.Steps.{abreast_arrival, cases_same}

-- the invariant of a port, from that of its fields
pub kept_port : (rules : PortRules) (arrivals : List Arrival) (reached : ℕ) (starts : List Transmission) (progress : Progress) (newest : List Nanos)
    → IsKept rules arrivals reached starts progress newest → IsPort (record { rules = rules; reached = reached; arrivals = arrivals; starts = starts })
kept_port rules arrivals reached starts progress newest kept = record { legal = kept.abreast.legal; taken = kept.taken; early = kept.early }

-- starts that are legal are the only ones
pub only_legal : (rules : PortRules) (arrivals : List Arrival) (reached : ℕ) (starts shown : List Transmission) → LegalStartsAreUnique →
    AreLegal rules arrivals reached starts → shown ≡ starts → (others : List Transmission) → AreLegal rules arrivals reached others → others ≡ shown
only_legal rules arrivals reached starts shown unique legal same others also = unique rules arrivals reached others starts also legal ∙ sym same

-- truncating a list removes what was added to it
pub cut_back : (before after cut : List Transmission) (kept lowest : ℕ) → AreMore before after lowest → kept ≡ length before → cut
    ≡ take kept after → cut ≡ before
cut_back before after cut kept lowest more at_end is =
    is ∙ ap (λ (xs : List Transmission). take kept xs) more.value ∙ ap (λ (n : ℕ). take n (before ++ more.made)) at_end ∙ take-append_seam before more.made

module _ (arrivals : List Arrival) (arrival : Arrival) where
  -- the list is one longer
  longer : length (arrivals ++ arrival ∷ []) ≡ length arrivals + 1
  longer = length-append arrivals (arrival ∷ [])

  -- a property of each earlier arrival and of the last is one of each
  each_arrival : (P : Arrival → Type 0) → ((index : ℕ) → index < length arrivals → P (get_or arrivals index no_arrival)) → P arrival →
      (index : ℕ) → index < length (arrivals ++ arrival ∷ []) → P (get_or (arrivals ++ arrival ∷ []) index no_arrival)
  each_arrival P before last index inside = elim (cases_lt index (length arrivals)) [
    | inl in_list ↦ arrival_after arrivals arrival P index in_list (before index in_list)
    | inr past ↦ (let here : length arrivals ≡ index = omega (arith, longer) in
        subst (λ (n : ℕ). P (get_or (arrivals ++ arrival ∷ []) n no_arrival)) here (subst P (sym (last_arrival arrivals arrival)) last))
  ]

  -- an arrival at or after the last one of its class is taken
  pub taken_more : AreTaken arrivals → arrival.class < 8 → arrival.at.0 < 2 ^ 62 →
      ((index : ℕ) → index < length arrivals → class_of arrivals index ≡ arrival.class → instant_of arrivals index ≤ arrival.at.0) →
      AreTaken (arrivals ++ arrival ∷ [])
  taken_more taken low early in_order = record {
    classes = each_arrival (λ x. x.class < 8) taken.classes low;
    early = each_arrival (λ x. x.at.0 < 2 ^ 62) taken.early early;
    by_class = λ index later lower inside same.
        let in_list : index < length arrivals = omega (arith, longer) in
        let old : get_or (arrivals ++ arrival ∷ []) index no_arrival ≡ get_or arrivals index no_arrival = same_arrival arrivals arrival index in_list in
        let following : class_of arrivals index ≡ class_of (arrivals ++ arrival ∷ []) later →
        instant_of arrivals index ≤ instant_of (arrivals ++ arrival ∷ []) later = elim (cases_lt later (length arrivals)) [
          | inl also ↦ arrival_after arrivals arrival (λ x. class_of arrivals index ≡ x.class → instant_of arrivals index ≤ x.at.0) later
              also (taken.by_class index later lower also)
          | inr past ↦ (let here : length arrivals ≡ later = omega (arith, longer) in
              subst (λ (n : ℕ). class_of arrivals index ≡ class_of (arrivals ++ arrival ∷ []) n →
              instant_of arrivals index ≤ instant_of (arrivals ++ arrival ∷ []) n) here
              (subst (λ (x : Arrival). class_of arrivals index ≡ x.class → instant_of arrivals index ≤ x.at.0) (sym (last_arrival arrivals arrival))
              (in_order index in_list)))
        ] in
        subst (λ (x : Arrival). x.at.0 ≤ instant_of (arrivals ++ arrival ∷ []) later) (sym old)
        (following (subst (λ (x : Arrival). x.class ≡ class_of (arrivals ++ arrival ∷ []) later) old same));
  }

  -- it is the last of its class
  newest_own : ((index : ℕ) → index < length arrivals → class_of arrivals index ≡ arrival.class → instant_of arrivals index ≤ arrival.at.0)
      → IsNewest (arrivals ++ arrival ∷ []) arrival.class arrival.at.0
  newest_own in_order = record {
    latest = each_arrival (λ x. x.class ≡ arrival.class → x.at.0 ≤ arrival.at.0) in_order (λ same. omega arith);
    of_last = λ some. (
      length arrivals,
      record {
        inside = omega (arith, longer);
        of_class = ap (λ (x : Arrival). x.class) (last_arrival arrivals arrival);
        none_after = λ other past inside. absurd (omega (arith, longer));
      },
      ap (λ (x : Arrival). x.at.0) (last_arrival arrivals arrival),
    );
  }

  -- the last of another class stays the last
  each_arrival_after : (class index : ℕ) → class ≢ arrival.class → IsLast arrivals class index → (other : ℕ) → index < other →
      other < length (arrivals ++ arrival ∷ []) → class_of (arrivals ++ arrival ∷ []) other ≢ class
  each_arrival_after class index differs last other past inside = elim (cases_lt other (length arrivals)) [
    | inl in_list ↦ arrival_after arrivals arrival (λ x. x.class ≢ class) other in_list (last.none_after other past in_list)
    | inr following ↦ (let here : length arrivals ≡ other = omega (arith, longer) in
        subst (λ (n : ℕ). class_of (arrivals ++ arrival ∷ []) n ≢ class) here
        (subst (λ (x : Arrival). x.class ≢ class) (sym (last_arrival arrivals arrival)) (λ same. differs (sym same))))
  ]

  -- the last of each other class is unchanged
  newest_other : (class t : ℕ) → class ≢ arrival.class → IsNewest arrivals class t → IsNewest (arrivals ++ arrival ∷ []) class t
  newest_other class t differs before = record {
    latest = each_arrival (λ x. x.class ≡ class → x.at.0 ≤ t) before.latest (λ same. absurd (differs (sym same)));
    of_last = λ some. let last = before.of_last some in (
      last.0,
      record {
        inside = omega (arith, last.1.inside, longer);
        of_class = ap (λ (x : Arrival). x.class) (same_arrival arrivals arrival last.0 last.1.inside) ∙ last.1.of_class;
        none_after = λ other past inside. each_arrival_after class last.0 differs last.1 other past inside;
      },
      ap (λ (x : Arrival). x.at.0) (same_arrival arrivals arrival last.0 last.1.inside) ∙ last.2,
    );
  }

  -- so the instants of the last arrivals are correct again
  pub newest_more : (newest : List Nanos) → AreNewest arrivals newest → arrival.class < 8 →
      ((index : ℕ) → index < length arrivals → class_of arrivals index ≡ arrival.class → instant_of arrivals index ≤ arrival.at.0) →
      AreNewest (arrivals ++ arrival ∷ []) (set newest arrival.class arrival.at)
  newest_more newest before low in_order =
      let zero_at : Nanos = record { 0 = 0 } in
      let in_array : arrival.class < length newest = omega (arith, before.eight) in
      record {
        eight = length-set newest arrival.class arrival.at ∙ before.eight;
        each = λ class low_class. elim (cases_same class arrival.class) [
          | inl same ↦ (let written : get_or (set newest arrival.class arrival.at) arrival.class zero_at ≡ arrival.at =
              get_or-set_same newest arrival.class arrival.at zero_at in_array in
              subst (λ (n : ℕ). IsNewest (arrivals ++ arrival ∷ []) n (get_or (set newest arrival.class arrival.at) n zero_at).0) (sym same)
              (subst (λ (t : Nanos). IsNewest (arrivals ++ arrival ∷ []) arrival.class t.0) (sym written) (newest_own in_order)))
          | inr differs ↦ subst (λ (t : Nanos). IsNewest (arrivals ++ arrival ∷ []) class t.0)
              (sym (get_or-set_other newest arrival.class class arrival.at zero_at differs))
              (newest_other class (get_or newest class zero_at).0 differs (before.each class low_class))
        ];
      }

-- if an arrival isn't out of order, the last one of its class came no later
pub newest_before : (p : PortState) (newest : List Nanos) (arrival : Arrival) → AreNewest p.arrivals newest → arrival.class < 8 → ¬ IsOutOfOrder p arrival →
    (get_or newest arrival.class (record { 0 = 0 })).0 ≤ arrival.at.0
newest_before p newest arrival by_class low in_order =
    let t = (get_or newest arrival.class (record { 0 = 0 })).0 in
    elim (cases_lt arrival.at.0 t) [
      | inl earlier ↦ (let last = (by_class.each arrival.class low).of_last (omega (arith, earlier)) in
          absurd (in_order (record { index = last.0; last = last.1; earlier = omega (arith, earlier, last.2) })))
      | inr later ↦ later
    ]

-- an arrival that is neither late nor out of order
pub kept_offer : (rules : PortRules) (arrivals : List Arrival) (reached : ℕ) (starts : List Transmission) (before after : Progress)
    (newest : List Nanos) (arrival : Arrival) → IsKept rules arrivals reached starts before newest → arrival.class < 8 → arrival.at.0 < 2 ^ 62
    → ¬ WasOpen rules.entries arrival.class arrival.at.0 reached → (get_or newest arrival.class (record { 0 = 0 })).0 ≤ arrival.at.0 →
    IsAfterArrival (length arrivals) arrival.class before after → IsKept rules (arrivals ++ arrival ∷ []) reached starts after
    (set newest arrival.class arrival.at)
kept_offer rules arrivals reached starts before after newest arrival kept low early not_late in_order step =
    let latest : (index : ℕ) → index < length arrivals → class_of arrivals index ≡ arrival.class → instant_of arrivals index ≤ arrival.at.0 =
    λ index inside same. omega (arith, (kept.by_class.each arrival.class low).latest index inside same, in_order) in
    record {
      abreast = abreast_arrival rules arrivals reached starts arrival before after kept.octets_take_time kept.abreast
          (λ s come soon is_open. not_late (record { instant = s; from_first = come; before_last = soon; is_open = is_open })) step low;
      taken = taken_more arrivals arrival kept.taken low early latest;
      by_class = newest_more arrivals arrival newest kept.by_class low latest;
      early = kept.early;
      octets_take_time = kept.octets_take_time;
    }

-- each start is of an arrival
pub starts_inside : (rules : PortRules) (arrivals : List Arrival) (t : ℕ) (starts : List Transmission) → AreLegal rules arrivals t starts →
    All (λ (x : Transmission). x.0 < length arrivals) starts
starts_inside rules arrivals t starts legal k d inside =
    (legal.first (get_or starts k d).0 (get_or starts k d).1 (Contains-get_or starts k d inside)).waits.inside

-- what a run adds are its starts
pub runs_up_to : (p : PortState) (until : ℕ) (starts : List Transmission) → AreMore p.starts starts p.reached →
    RunsUpTo until p (record { rules = p.rules; reached = until; arrivals = p.arrivals; starts = starts })
runs_up_to p until starts more = record {
  made = more.made;
  from_reached = more.not_before;
  value = ap (λ (xs : List Transmission). let p_after : PortState = record { rules = p.rules; reached = until; arrivals = p.arrivals; starts = xs }
      in p_after) more.value;
}

-- what a run adds is what it hands on
pub advances : (p : PortState) (until : ℕ) (starts handed : List Transmission) (given given_after : List Start) → AreMore p.starts starts p.reached
    → handed ≡ drop (length p.starts) starts → given_after ≡ given ++ map (start_of p.arrivals) handed →
    Advances p (record { rules = p.rules; reached = until; arrivals = p.arrivals; starts = starts }) until given given_after
advances p until starts handed given given_after more rest appended =
    let same : handed ≡ more.made = rest ∙ ap (λ (xs : List Transmission). drop (length p.starts) xs) more.value ∙ drop-append_seam p.starts more.made in
    record {
      made = more.made;
      from_reached = more.not_before;
      value = ap (λ (xs : List Transmission). let p_after : PortState = record { rules = p.rules; reached = until; arrivals = p.arrivals; starts = xs }
          in p_after) more.value;
      handed = appended ∙ ap (λ (xs : List Transmission). given ++ map (start_of p.arrivals) xs) same;
    }

-- the same for the list, the index and the class in other forms
pub kept_offer_as : (rules : PortRules) (arrivals items : List Arrival) (reached : ℕ) (starts : List Transmission) (before after : Progress)
    (newest : List Nanos) (arrival : Arrival) (index slot : ℕ) → IsKept rules arrivals reached starts before newest → arrival.class < 8 →
    arrival.at.0 < 2 ^ 62 → ¬ WasOpen rules.entries arrival.class arrival.at.0 reached → items ≡ arrivals ++ arrival ∷ [] → index
    ≡ length arrivals → slot ≡ arrival.class → (get_or newest slot (record { 0 = 0 })).0 ≤ arrival.at.0 →
    IsAfterArrival index arrival.class before after → IsKept rules items reached starts after (set newest slot arrival.at)
kept_offer_as rules arrivals items reached starts before after newest arrival index slot kept low early not_late appended here same in_order step =
    let in_class : (get_or newest arrival.class (record { 0 = 0 })).0 ≤ arrival.at.0 =
    subst (λ (n : ℕ). (get_or newest n (record { 0 = 0 })).0 ≤ arrival.at.0) same in_order in
    let at_end : IsAfterArrival (length arrivals) arrival.class before after = subst (λ (n : ℕ). IsAfterArrival n arrival.class before after) here step in
    subst (λ (xs : List Arrival). IsKept rules xs reached starts after (set newest slot arrival.at)) (sym appended)
    (subst (λ (n : ℕ). IsKept rules (arrivals ++ arrival ∷ []) reached starts after (set newest n arrival.at)) (sym same)
    (kept_offer rules arrivals reached starts before after newest arrival kept low early not_late in_class at_end))

-- the starts from an index on, for the lists in other forms
pub handed_inside : (rules : PortRules) (arrivals xs : List Arrival) (t : ℕ) (starts ys : List Transmission) (n : ℕ) →
    AreLegal rules arrivals t starts → arrivals ≡ xs → ys ≡ starts → All (λ (x : Transmission). x.0 < length xs) (take (length ys - n) (drop n ys))
handed_inside rules arrivals xs t starts ys n legal same same_starts =
    let inside : All (λ (x : Transmission). x.0 < length xs) starts =
    subst (λ (zs : List Arrival). All (λ (x : Transmission). x.0 < length zs) starts) same (starts_inside rules arrivals t starts legal) in
    let all : All (λ (x : Transmission). x.0 < length xs) ys =
    subst (λ (zs : List Transmission). All (λ (x : Transmission). x.0 < length xs) zs) (sym same_starts) inside in
    All-take (λ (x : Transmission). x.0 < length xs) (length ys - n) (drop n ys) (All-drop (λ (x : Transmission). x.0 < length xs) n ys all)

-- the starts that a run adds are those that it hands on, for the lists in other forms
pub advances_as : (p : PortState) (until kept : ℕ) (starts ys : List Transmission) (xs : List Arrival) (given given_after : List Start) →
    AreMore p.starts starts p.reached → kept ≡ length p.starts → ys ≡ starts → xs ≡ p.arrivals → given_after ≡ given
    ++ map (start_of xs) (take (length ys - kept) (drop kept ys)) →
    Advances p (record { rules = p.rules; reached = until; arrivals = p.arrivals; starts = starts }) until given given_after
advances_as p until kept starts ys xs given given_after more at_end same_starts same appended =
    let handed : take (length ys - kept) (drop kept ys) ≡ drop (length p.starts) starts =
    range_to_end kept ys ∙ ap (λ (zs : List Transmission). drop kept zs) same_starts ∙ ap (λ (n : ℕ). drop n starts) at_end in
    advances p until starts (take (length ys - kept) (drop kept ys)) given given_after more handed
    (subst (λ (zs : List Arrival). given_after ≡ given ++ map (start_of zs) (take (length ys - kept) (drop kept ys))) same appended)
