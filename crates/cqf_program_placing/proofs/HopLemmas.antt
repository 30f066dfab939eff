-- After how many links frames leave bridges, found link by link.
use Rattle.std.proofs.Common.{◌≡◌, ◌≢◌, ◌∙◌, ◌+◌, ◌<◌, ◌≤◌, ◌⊎◌, ℕ, suc, Bool, true, false, List, Option, Some, None, length, ap, arith, inl, inr, refl, subst, sym}
use Rattle.std.specs.Prelude.{is_some, replicate, set, slice_get}
use Rattle.std.proofs.lemmas.Bool.{cases_eq, cases_lt}
use Rattle.std.proofs.lemmas.List.{get_or-replicate, get_or-set_other, get_or-set_same, get_or_past, length-replicate}
use Rattle.std.proofs.lemmas.Option.{same_Some, slice_get_within}
use Rattle.cqf_model.specs.declared.topology.Link.{Link}
use Rattle.cqf_model.specs.declared.topology.Node.{Node}
use Rattle.cqf_model.specs.declared.topology.Node.TheVariants.{Bridge, Station}
use Rattle.cqf_model.specs.Domain.{Domain, IsAccepted, IsNode}
use Rattle.cqf_model.proofs.Represented.{few_bridges}
use Rattle.cqf_network.specs.Paths.{most_links}
use Rattle.cqf_program_placing.specs.Hops.{AreHops, AreReachedBy, IsReachedBy, LeadsAfter, hop_of}
use Rattle.cqf_program_placing.proofs.RouteLemmas.{to_node}

-- frames don't leave a bridge
pub none_there : (o : Option ℕ) → is_some o ≡ false → o ≡ None
none_there None e = refl
none_there (Some j) e = absurd cc

pub some_there : (o : Option ℕ) → is_some o ≡ true → (j : ℕ) × (o ≡ Some j)
some_there None e = absurd cc
some_there (Some j) e = (j, refl)

-- a link that leads to a bridge leads to one that is represented
pub ends_inside : (d : Domain) (room : ℕ → ℕ → Bool) (hops : List (Option ℕ)) (k l bridge : ℕ) → IsAccepted d →
    LeadsAfter d.links room hops k l bridge → bridge < 1024
ends_inside d room hops k l bridge accepted leads =
    let inside : bridge < length d.bridges = subst (IsNode d) leads.ends (to_node d l leads.link accepted leads.stands) in
    omega (arith, inside, few_bridges d accepted)

-- ---- one link

module _ (links : List Link) (room : ℕ → ℕ → Bool) (hops : List (Option ℕ)) (k l : ℕ) (it : Link) (stands : slice_get links l ≡ Some it) where
  -- it is the link that leads there
  same_link : (bridge : ℕ) (leads : LeadsAfter links room hops k l bridge) → leads.link ≡ it
  same_link bridge leads = same_Some leads.link it (sym leads.stands ∙ stands)

  -- frames don't leave its bridge, or do so after another number of links
  pub not_left : hop_of hops it.from ≡ None → (bridge : ℕ) → ¬ LeadsAfter links room hops k l bridge
  not_left none bridge leads =
      let there : hop_of hops it.from ≡ Some k = subst (λ (x : Link). hop_of hops x.from ≡ Some k) (same_link bridge leads) leads.leaves in absurd cc

  pub left_elsewhere : (hop : ℕ) → hop_of hops it.from ≡ Some hop → hop ≢ k → (bridge : ℕ) → ¬ LeadsAfter links room hops k l bridge
  left_elsewhere hop other differ bridge leads =
      let there : hop_of hops it.from ≡ Some k = subst (λ (x : Link). hop_of hops x.from ≡ Some k) (same_link bridge leads) leads.leaves in
      differ (same_Some hop k (sym other ∙ there))

  -- it has no room
  pub without_room : room k l ≡ false → (bridge : ℕ) → ¬ LeadsAfter links room hops k l bridge
  without_room full bridge leads = let roomy = leads.roomy in absurd cc

  -- it ends in a station
  pub to_station : (station : ℕ) → it.to ≡ Station station → (bridge : ℕ) → ¬ LeadsAfter links room hops k l bridge
  to_station station ends bridge leads =
      let there : it.to ≡ Bridge bridge = subst (λ (x : Link). x.to ≡ Bridge bridge) (same_link bridge leads) leads.ends in absurd cc

  -- or else it leads
  pub to_bridge : (hop bridge : ℕ) → hop_of hops it.from ≡ Some hop → hop ≡ k → room k l ≡ true → it.to ≡ Bridge bridge → LeadsAfter links room hops k l bridge
  to_bridge hop bridge leaves same roomy ends =
      record { link = it; stands = stands; leaves = leaves ∙ ap (λ n. Some n) same; roomy = roomy; ends = ends }

-- a link leads to one bridge
one_bridge : (links : List Link) (room : ℕ → ℕ → Bool) (hops : List (Option ℕ)) (k l bridge other : ℕ) → LeadsAfter links room hops k l bridge →
    LeadsAfter links room hops k l other → other ≡ bridge
one_bridge links room hops k l bridge other leads also =
    let same : also.link ≡ leads.link = same_Some also.link leads.link (sym also.stands ∙ leads.stands) in
    let there : leads.link.to ≡ Bridge other = subst (λ (x : Link). x.to ≡ Bridge other) same also.ends in
    let here = leads.ends in
    let both : Bridge other ≡ Bridge bridge = cc in cc

module _ (links : List Link) (room : ℕ → ℕ → Bool) (k l : ℕ) (before : List (Option ℕ)) where
  -- it leads nowhere
  pub none_reached : ((bridge : ℕ) → ¬ LeadsAfter links room before k l bridge) → IsReachedBy links room k l before before
  none_reached none = record {
    kept = λ j bridge is. is;
    added = λ bridge leads. absurd (none bridge leads);
    others = λ j bridge is. inl is;
  }

  -- to a bridge that frames leave after fewer links
  pub old_reached : (bridge j : ℕ) → LeadsAfter links room before k l bridge → hop_of before bridge ≡ Some j → IsReachedBy links room k l before before
  old_reached bridge j leads is = record {
    kept = λ i other at. at;
    added = λ other also. (j, ap (hop_of before) (one_bridge links room before k l bridge other leads also) ∙ is);
    others = λ i other at. inl at;
  }

  -- to a bridge that isn't reached yet
  pub new_reached : (bridge : ℕ) (after : List (Option ℕ)) → LeadsAfter links room before k l bridge → hop_of before bridge ≡ None → bridge < length before →
      after ≡ set before bridge (Some (k + 1)) → IsReachedBy links room k l before after
  new_reached bridge after leads none inside is = record {
    kept = λ j other at. elim (cases_eq other bridge) [
      | inl same ↦ absurd (let was : hop_of before bridge ≡ Some j = subst (λ (v : ℕ). hop_of before v ≡ Some j) same at in cc)
      | inr apart ↦ elsewhere other apart ∙ at
    ];
    added = λ other also. (k + 1, ap (hop_of after) (one_bridge links room before k l bridge other leads also) ∙ here);
    others = λ j other at. elim (cases_eq other bridge) [
      | inl same ↦ inr (
        same_Some j (k + 1) (sym at ∙ ap (hop_of after) same ∙ here),
        subst (λ (v : ℕ). LeadsAfter links room before k l v) (sym same) leads,
      )
      | inr apart ↦ inl (sym (elsewhere other apart) ∙ at)
    ];
  } where
    here : hop_of after bridge ≡ Some (k + 1)
    here = ap (λ (hs : List (Option ℕ)). hop_of hs bridge) is ∙ get_or-set_same before bridge (Some (k + 1)) None inside

    elsewhere : (other : ℕ) → other ≢ bridge → hop_of after other ≡ hop_of before other
    elsewhere other apart = ap (λ (hs : List (Option ℕ)). hop_of hs other) is ∙ get_or-set_other before bridge other (Some (k + 1)) None apart

-- ---- all links

module _ (links : List Link) (room : ℕ → ℕ → Bool) (k : ℕ) (before : List (Option ℕ)) where
  pub none_yet : AreReachedBy links room k 0 before before
  none_yet = record {
    kept = λ j bridge is. is;
    added = λ l bridge low leads. absurd (omega (arith, low));
    others = λ j bridge is. inl is;
  }

  -- a link leads on as it did before
  leads_as_before : (count l bridge : ℕ) (now : List (Option ℕ)) → AreReachedBy links room k count before now → LeadsAfter links room now k l bridge →
      LeadsAfter links room before k l bridge
  leads_as_before count l bridge now so_far leads = elim (so_far.others k leads.link.from leads.leaves) [
    | inl was ↦ record { link = leads.link; stands = leads.stands; leaves = was; roomy = leads.roomy; ends = leads.ends }
    | inr new ↦ absurd (omega (arith, new.0))
  ]

  leads_as_now : (count l bridge : ℕ) (now : List (Option ℕ)) → AreReachedBy links room k count before now → LeadsAfter links room before k l bridge →
      LeadsAfter links room now k l bridge
  leads_as_now count l bridge now so_far leads =
      record { link = leads.link; stands = leads.stands; leaves = so_far.kept k leads.link.from leads.leaves; roomy = leads.roomy; ends = leads.ends }

  pub one_more : (count : ℕ) (now after : List (Option ℕ)) → AreReachedBy links room k count before now → IsReachedBy links room k count now after →
      AreReachedBy links room k (count + 1) before after
  one_more count now after so_far by = record {
    kept = λ j bridge is. by.kept j bridge (so_far.kept j bridge is);
    added = λ l bridge low leads. elim (cases_lt l count) [
      | inl earlier ↦ let there = so_far.added l bridge earlier leads in (there.0, by.kept there.0 bridge there.1)
      | inr last ↦
          let same : l ≡ count = omega (arith, low, last) in
          by.added bridge (leads_as_now count count bridge now so_far (subst (λ (n : ℕ). LeadsAfter links room before k n bridge) same leads))
    ];
    others = λ j bridge is. elim (by.others j bridge is) [
      | inl was ↦ so_far.others j bridge was
      | inr new ↦ inr (new.0, (count, leads_as_before count count bridge now so_far new.1))
    ];
  }

-- if frames leave no bridge after this number of links, no link leads on from there
pub none_in_layer : (d : Domain) (room : ℕ → ℕ → Bool) (k : ℕ) (hops : List (Option ℕ)) → IsAccepted d →
    ((bridge : ℕ) → bridge < length d.bridges → ¬ (hop_of hops bridge ≡ Some k)) → AreReachedBy d.links room k (length d.links) hops hops
none_in_layer d room k hops accepted none = record {
  kept = λ j bridge is. is;
  added = λ l bridge low leads. absurd (none leads.link.from (accepted.links_good l leads.link leads.stands).from_bridge leads.leaves);
  others = λ j bridge is. inl is;
}

-- ---- after at most a number of links

-- after the first `rounds` rounds
pub record AreHopsSoFar (links : List Link) (room : ℕ → ℕ → Bool) (bridge rounds : ℕ) (hops : List (Option ℕ)) : Type 0 where
  pub begins : hop_of hops bridge ≡ Some 0
  pub alone : (other : ℕ) → hop_of hops other ≡ Some 0 → other ≡ bridge
  pub comes : (k other : ℕ) → hop_of hops other ≡ Some (k + 1) → (l : ℕ) × LeadsAfter links room hops k l other
  pub goes_on : (k l other : ℕ) → k < rounds → LeadsAfter links room hops k l other → (j : ℕ) × (hop_of hops other ≡ Some j) × (j ≤ k + 1)
  pub few : (j other : ℕ) → hop_of hops other ≡ Some j → j ≤ rounds

module _ (links : List Link) (room : ℕ → ℕ → Bool) (bridge : ℕ) where
  -- the first
  pub first_alone : (count : ℕ) (hops : List (Option ℕ)) → bridge < count → hops ≡ set (replicate count None) bridge (Some 0) →
      AreHopsSoFar links room bridge 0 hops
  first_alone count hops inside is = record {
    begins = here;
    alone = λ other at. (only other 0 at).0;
    comes = λ k other at. absurd (let none = (only other (k + 1) at).1 in omega (arith, none));
    goes_on = λ k l other low leads. absurd (omega (arith, low));
    few = λ j other at. let none = (only other j at).1 in omega (arith, none);
  } where
    empty : List (Option ℕ)
    empty = replicate count None

    nowhere : Option ℕ
    nowhere = None

    many : length empty ≡ count
    many = length-replicate count nowhere

    room_there : bridge < length empty
    room_there = omega (arith, inside, many)

    here : hop_of hops bridge ≡ Some 0
    here = ap (λ (hs : List (Option ℕ)). hop_of hs bridge) is ∙ get_or-set_same empty bridge (Some 0) None room_there

    nothing : (other : ℕ) → hop_of empty other ≡ None
    nothing other = elim (cases_lt other count) [
      | inl low ↦ get_or-replicate count other None None low
      | inr past ↦ get_or_past empty other None (omega (arith, past, many))
    ]

    only : (other j : ℕ) → hop_of hops other ≡ Some j → (other ≡ bridge) × (j ≡ 0)
    only other j at = elim (cases_eq other bridge) [
      | inl same ↦ (same, same_Some j 0 (sym at ∙ ap (hop_of hops) same ∙ here))
      | inr apart ↦ absurd (
          let was : hop_of hops other ≡ hop_of empty other =
          ap (λ (hs : List (Option ℕ)). hop_of hs other) is ∙ get_or-set_other empty bridge other (Some 0) None apart in
          let none = nothing other in cc)
    ]

  -- one round more
  pub one_round : (k count : ℕ) (before after : List (Option ℕ)) → count ≡ length links → AreHopsSoFar links room bridge k before →
      AreReachedBy links room k count before after → AreHopsSoFar links room bridge (k + 1) after
  one_round k count before after all so_far by = record {
    begins = by.kept 0 bridge so_far.begins;
    alone = λ other at. elim (by.others 0 other at) [ inl was ↦ so_far.alone other was | inr new ↦ absurd (omega (arith, new.0)) ];
    comes = λ i other at. elim (by.others (i + 1) other at) [
      | inl was ↦ let there = so_far.comes i other was in (there.0, as_now i there.0 other there.1)
      | inr new ↦
          let same : k ≡ i = omega (arith, new.0) in
          let there = new.1 in (there.0, subst (λ (n : ℕ). LeadsAfter links room after n there.0 other) same (as_now k there.0 other there.1))
    ];
    goes_on = λ i l other low leads.
        let was : LeadsAfter links room before i l other = as_before i l other (omega (arith, low)) leads in
        elim (cases_lt i k) [
          | inl earlier ↦ let there = so_far.goes_on i l other earlier was in (there.0, by.kept there.0 other there.1, there.2)
          | inr last ↦
              let same : i ≡ k = omega (arith, low, last) in
              let inside : l < count = omega (arith, all, slice_get_within links l leads.link leads.stands) in
              let there = by.added l other inside (subst (λ (n : ℕ). LeadsAfter links room before n l other) same was) in
              (there.0, there.1, omega (arith, few there.0 other there.1, same))
        ];
    few = few;
  } where
    few : (j other : ℕ) → hop_of after other ≡ Some j → j ≤ k + 1
    few j other at = elim (by.others j other at) [ inl was ↦ omega (arith, so_far.few j other was) | inr new ↦ omega (arith, new.0) ]

    as_now : (i l other : ℕ) → LeadsAfter links room before i l other → LeadsAfter links room after i l other
    as_now i l other leads =
        record { link = leads.link; stands = leads.stands; leaves = by.kept i leads.link.from leads.leaves; roomy = leads.roomy; ends = leads.ends }

    as_before : (i l other : ℕ) → i ≤ k → LeadsAfter links room after i l other → LeadsAfter links room before i l other
    as_before i l other low leads = elim (by.others i leads.link.from leads.leaves) [
      | inl was ↦ record { link = leads.link; stands = leads.stands; leaves = was; roomy = leads.roomy; ends = leads.ends }
      | inr new ↦ absurd (omega (arith, new.0, low))
    ]

  -- all of them
  pub all_rounds : (rounds : ℕ) (hops : List (Option ℕ)) → rounds ≡ 15 → AreHopsSoFar links room bridge rounds hops → AreHops links room bridge hops
  all_rounds rounds hops all so_far = record {
    begins = so_far.begins;
    alone = so_far.alone;
    comes = so_far.comes;
    goes_on = λ k l other low leads. so_far.goes_on k l other (omega (arith, low, all)) leads;
    few = λ j other at. omega (arith, so_far.few j other at, all);
  }
