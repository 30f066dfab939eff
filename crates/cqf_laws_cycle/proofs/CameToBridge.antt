-- What arrives at a bridge is exactly what is due there.
use Rattle.std.proofs.Common.{◌≡◌, ℕ, ◌+◌, ◌-◌, ◌<◌, ◌⊎◌, Bool, true, false, cond, List, Option, Some, None, length, sym, refl, ap, ap₂, ◌∙◌, inl}
use Rattle.std.proofs.Common.{inr, arith, subst}
use Rattle.std.specs.Prelude.{[], ◌++◌, ◌==◌, ◌≢◌, if◌then◌else◌, map, option_map, filter, slice_get, AllPairs, Contains}
use Rattle.std.specs.List.{enumerate_from}
use Rattle.std.specs.Option.{option_map_or}
use Rattle.std.proofs.lemmas.Bool.{and_from, and_parts, eq-eqb, eqb-true}
use Rattle.std.proofs.lemmas.List.{map-append}
use Rattle.std.proofs.lemmas.List.Kept.{AllPairs-filter}
use Rattle.std.proofs.lemmas.Simd.{map-map}
use Rattle.std.proofs.lemmas.Option.{same_Some, slice_get_within}
use Rattle.cqf_lists.specs.Lists.{each_below}
use Rattle.cqf_lists.proofs.EachBelow.{contains_below, contains_from_below, map_below, same_below}
use Rattle.cqf_lists.proofs.Made.{contains_if_there, if_contains, map_if}
use Rattle.cqf_lists.proofs.Members.{contains_filter, contains_from_filter, contains_from_map}
use Rattle.cqf_lists.proofs.Members.{contains_map}
use Rattle.cqf_lists.proofs.Numbered.{StandsAt, enum_at, enum_pairs, enum_there, numbered_at, numbered_pairs, numbered_there, unnumbered}
use Rattle.cqf_lists.proofs.Pairs.{pairs_append, pairs_below, pairs_if, pairs_map, pairs_weaker}
use Rattle.std.proofs.lemmas.List.Elements.{Contains-append_cases, Contains-append_left, Contains-append_right}
use Rattle.cqf_model.specs.declared.frames.Offer.{Offer}
use Rattle.cqf_model.specs.declared.frames.Offered.{Offered}
use Rattle.cqf_model.specs.declared.frames.Sent.{Sent}
use Rattle.cqf_model.specs.declared.topology.Link.{Link}
use Rattle.cqf_model.specs.declared.topology.Node.{Node}
use Rattle.cqf_model.specs.declared.topology.Node.TheVariants.{Bridge, Station}
use Rattle.cqf_model.specs.Domain.{Domain, end_of, enters, node_is}
use Rattle.cqf_model.specs.Run.{Run}
use Rattle.cqf_model.specs.Policing.{Carried, Received, is_offered_at, numbered, offer_received, received_at, received_before, relayed_at}
use Rattle.cqf_model.specs.Policing.{sent_received, whole_at}
use Rattle.cqf_laws_cycle.specs.ArrivalLaws.{BridgesReceiveWhatComes, Came, CameBefore, Comes, IsSourceBefore, OfLink, OfOffers, Source}

-- ---- a bridge

-- a node that is a bridge, by the test
node_there : (node : Node) (bridge : ℕ) → node_is node bridge ≡ true → node ≡ Bridge bridge
node_there (Bridge b) bridge e = ap (λ (n : ℕ). Bridge n) (eqb-true b bridge e)
node_there (Station s) bridge e = absurd cc

-- so the end of a link that enters a bridge is the bridge
ends_there : (d : Domain) (m bridge : ℕ) → enters d m bridge ≡ true → end_of d m ≡ Some (Bridge bridge)
ends_there d m bridge e = by_link (slice_get d.links m) e
  where
    -- whether the link is there or not
    by_link : (o : Option Link) → option_map_or (λ (link : Link). node_is link.to bridge) o false ≡ true →
        option_map (λ (link : Link). link.to) o ≡ Some (Bridge bridge)
    by_link None f = absurd cc
    by_link (Some link) f = ap (λ (n : Node). Some n) (node_there link.to bridge f)

-- a link whose end is the bridge is one of the domain's and enters the bridge
record EndsIn (d : Domain) (m bridge : ℕ) : Type 0 where
  inside : m < length d.links
  enters_it : enters d m bridge ≡ true

-- this holds for such a link
ends_in : (d : Domain) (m bridge : ℕ) → end_of d m ≡ Some (Bridge bridge) → EndsIn d m bridge
ends_in d m bridge e = by_link (slice_get d.links m) refl e
  where
    -- whether the link is there or not
    by_link : (o : Option Link) → slice_get d.links m ≡ o → option_map (λ (link : Link). link.to) o ≡ Some (Bridge bridge) → EndsIn d m bridge
    by_link None at f = absurd cc
    by_link (Some link) at f =
        let to : link.to ≡ Bridge bridge = same_Some link.to (Bridge bridge) f in
        record {
          inside = slice_get_within d.links m link at;
          enters_it = ap (λ (o : Option Link). option_map_or (λ (y : Link). node_is y.to bridge) o false) at ∙ ap (λ (n : Node). node_is n bridge) to
              ∙ eq-eqb bridge bridge refl;
        }

-- an offer with its number
abbrev as_offered : ℕ × Offer → Offered
as_offered e = record { frame = e.0; offer = e.1 }

-- is at its number's position
offer_at : (offers : List Offer) (x : Offered) → Contains (numbered offers) x → StandsAt (λ (y : Offered). y.frame) (λ (y : Offered). y.offer) offers x
offer_at offers = numbered_at as_offered (λ (y : Offered). y.frame) (λ (y : Offered). y.offer) (λ e. refl) (λ e. refl) offers

-- a source of one link is before another if the link, or the index of the same link, is lower
links_before : (a b : Source) (l m i j : ℕ) → a ≡ OfLink l i → b ≡ OfLink m j → (l < m) ⊎ ((l ≡ m) × (i < j)) → IsSourceBefore a b
links_before a b l m i j ea eb h = subst (λ (s : Source). IsSourceBefore s b) (sym ea) (subst (λ (s : Source). IsSourceBefore (OfLink l i) s) (sym eb) h)

-- the links precede the offers
offers_after : (a b : Source) (l i j : ℕ) → a ≡ OfLink l i → b ≡ OfOffers j → IsSourceBefore a b
offers_after a b l i j ea eb = subst (λ (s : Source). IsSourceBefore s b) (sym ea) (subst (λ (s : Source). IsSourceBefore (OfLink l i) s) (sym eb) tt)

-- no source is before itself
not_itself : (s : Source) → IsSourceBefore s s → ⊥
not_itself (OfLink l i) h = elim h [ inl a ↦ omega (arith, a) | inr b ↦ omega (arith, b.1) ]
not_itself (OfOffers i) h = omega (arith, h)

module _ (run : Run) (carried : Carried) (bridge : ℕ) where
  -- a link's frame at an index
  abbrev pub brought : ℕ → ℕ × Sent → Came
  brought m e = record { source = OfLink m e.0; received = sent_received run.domain m e.1 }

  -- whether it has fully arrived at an instant
  abbrev pub is_whole : ℕ → ℕ → ℕ × Sent → Bool
  is_whole t m e = whole_at run.domain m e.1 == t

  -- what a link brings at an instant, with the indices
  abbrev pub brought_at : ℕ → ℕ → List Came
  brought_at t m = if enters run.domain m bridge then map (brought m) (filter (is_whole t m) (enumerate_from 0 (carried m))) else []

  -- an offer, with its index
  abbrev pub offered_as : Offered → Came
  offered_as x = record { source = OfOffers (x.frame - 1); received = offer_received x }

  abbrev pub offers_at : ℕ → List Came
  offers_at t = map offered_as (filter (is_offered_at bridge t) (numbered run.offers))

  -- what arrives at an instant, and before one
  abbrev pub at_instant : ℕ → List Came
  at_instant t = each_below (brought_at t) (length run.domain.links) ++ offers_at t

  abbrev pub until : ℕ → List Came
  until end = each_below at_instant end

  -- the frame
  abbrev pub seen : Came → Received
  seen c = c.received

  -- without the indices this is what the link brings
  brought_is : (t m : ℕ) → map seen (brought_at t m) ≡ relayed_at run.domain carried bridge t m
  brought_is t m =
      let whole = filter (is_whole t m) (enumerate_from 0 (carried m)) in
      map_if seen (enters run.domain m bridge) (map (brought m) whole)
      ∙ ap (λ (xs : List Received). cond (enters run.domain m bridge) xs [])
      (map-map seen (brought m) whole ∙ unnumbered (sent_received run.domain m) (λ (sent : Sent). whole_at run.domain m sent == t) 0 (carried m))

  -- and so for all that arrives at an instant
  instant_is : (t : ℕ) → map seen (at_instant t) ≡ received_at run carried bridge t
  instant_is t =
      let links = length run.domain.links in
      map-append seen (each_below (brought_at t) links) (offers_at t)
      ∙ ap₂ (λ (xs ys : List Received). xs ++ ys)
      (map_below seen (brought_at t) links
      ∙ same_below (λ m. map seen (brought_at t m)) (relayed_at run.domain carried bridge t) links (λ m l. brought_is t m))
      (map-map seen offered_as (filter (is_offered_at bridge t) (numbered run.offers)))

  -- and for all before one
  pub until_is : (end : ℕ) → map seen (until end) ≡ received_before run carried bridge end
  until_is end =
      map_below seen at_instant end ∙ same_below (λ t. map seen (at_instant t)) (received_at run carried bridge) end (λ t l. instant_is t)

  -- a frame arrives from its source at an instant
  record ComesAt (t : ℕ) (c : Came) : Type 0 where
    comes : Comes run carried bridge c.source c.received
    instant : c.received.at ≡ t

  -- and it is a link's frame
  record IsOfLink (t m : ℕ) (c : Came) : Type 0 where
    comes_at : ComesAt t c
    index : ℕ
    is : c.source ≡ OfLink m index

  -- what a link brings at an instant is such
  from_link : (t m : ℕ) (c : Came) → Contains (brought_at t m) c → IsOfLink t m c
  from_link t m c h =
      let all = enumerate_from 0 (carried m) in
      let w = contains_if_there (enters run.domain m bridge) (map (brought m) (filter (is_whole t m) all)) c h in
      let e = contains_from_map (brought m) (filter (is_whole t m) all) c w.1 in
      let f = contains_from_filter (is_whole t m) all e.0 e.1 in
      let a = enum_at 0 (carried m) e.0 f.0 in
      let index : e.0.0 ≡ a.0 = omega (arith, a.1) in
      subst (λ (x : Came). IsOfLink t m x) e.2 (record {
        comes_at = record {
          comes = record {
            sent = e.0.1;
            is_carried = ap (λ (k : ℕ). slice_get (carried m) k) index ∙ a.2;
            ends_here = ends_there run.domain m bridge w.0;
            instant = refl;
            octets = refl;
            frame = refl;
            ingress = refl;
          };
          instant = eqb-true (whole_at run.domain m e.0.1) t f.1;
        };
        index = e.0.0;
        is = refl;
      })

  -- it is an offer
  record IsOfOffers (t : ℕ) (c : Came) : Type 0 where
    comes_at : ComesAt t c
    index : ℕ
    is : c.source ≡ OfOffers index

  -- the offers at an instant are such
  from_offers : (t : ℕ) (c : Came) → Contains (offers_at t) c → IsOfOffers t c
  from_offers t c h =
      let e = contains_from_map offered_as (filter (is_offered_at bridge t) (numbered run.offers)) c h in
      let f = contains_from_filter (is_offered_at bridge t) (numbered run.offers) e.0 e.1 in
      let g = and_parts (e.0.offer.bridge == bridge) (e.0.offer.at.0 == t) f.1 in
      let n = offer_at run.offers e.0 f.0 in
      let index : e.0.frame - 1 ≡ n.index = omega (arith, n.numbered) in
      subst (λ (x : Came). IsOfOffers t x) e.2 (record {
        comes_at = record {
          comes = record {
            offer = e.0.offer;
            is_there = ap (λ (k : ℕ). slice_get run.offers k) index ∙ n.is_there;
            offered_here = eqb-true e.0.offer.bridge bridge g.0;
            instant = refl;
            octets = refl;
            frame = omega (arith, n.numbered);
            ingress = refl;
          };
          instant = eqb-true e.0.offer.at.0 t g.1;
        };
        index = e.0.frame - 1;
        is = refl;
      })

  -- and so is all that arrives at the instant
  from_instant : (t : ℕ) (c : Came) → Contains (at_instant t) c → ComesAt t c
  from_instant t c h =
      let links = length run.domain.links in
      elim (Contains-append_cases (each_below (brought_at t) links) (offers_at t) c h) [
        | inl k ↦ let w = contains_from_below (brought_at t) links c k in (from_link t w.0 c w.2).comes_at
        | inr k ↦ (from_offers t c k).comes_at
      ]

  -- so each frame of the list arrives from its source, early enough
  from_until : (end : ℕ) (c : Came) → Contains (until end) c → Comes run carried bridge c.source c.received × (c.received.at < end)
  from_until end c h =
      let w = contains_from_below at_instant end c h in
      let r = from_instant w.0 c w.2 in
      (r.comes, omega (arith, w.1, r.instant))

  -- and each frame that arrives is in the list
  to_instant : (source : Source) (x : Received) → Comes run carried bridge source x → Contains (at_instant x.at) (record { source = source; received = x })
  to_instant (OfLink m index) x b =
      let links = length run.domain.links in
      let all = enumerate_from 0 (carried m) in
      let e = ends_in run.domain m bridge b.ends_here in
      let there = enum_there 0 index index (carried m) b.sent (omega arith) b.is_carried in
      let kept = contains_filter (is_whole x.at m) all (index, b.sent) there (eq-eqb (whole_at run.domain m b.sent) x.at (sym b.instant)) in
      let c = contains_map (brought m) (filter (is_whole x.at m) all) (index, b.sent) kept in
      let same : sent_received run.domain m b.sent ≡ x =
      λ i. record { at = sym b.instant i; octets = sym b.octets i; frame = sym b.frame i; ingress = sym b.ingress i } in
      let made = if_contains (enters run.domain m bridge) (map (brought m) (filter (is_whole x.at m) all)) (brought m (index, b.sent)) e.enters_it c in
      Contains-append_left (each_below (brought_at x.at) links) (offers_at x.at) (record { source = OfLink m index; received = x })
      (contains_below (brought_at x.at) links m (record { source = OfLink m index; received = x }) e.inside
      (subst (λ (y : Received). Contains (brought_at x.at m) (record { source = OfLink m index; received = y })) same made))
  to_instant (OfOffers index) x o =
      let links = length run.domain.links in
      let mine = is_offered_at bridge x.at in
      let there = numbered_there as_offered run.offers index o.offer o.is_there in
      let numbered_offer : Offered = record { frame = index + 1; offer = o.offer } in
      let kept = contains_filter mine (numbered run.offers) numbered_offer there
      (and_from (o.offer.bridge == bridge) (o.offer.at.0 == x.at) (eq-eqb o.offer.bridge bridge o.offered_here) (eq-eqb o.offer.at.0 x.at (sym o.instant))) in
      let c = contains_map offered_as (filter mine (numbered run.offers)) numbered_offer kept in
      let back : index + 1 - 1 ≡ index = omega arith in
      let same : offered_as numbered_offer ≡ record { source = OfOffers index; received = x } =
      λ i. record {
        source = OfOffers (back i);
        received = record { at = sym o.instant i; octets = sym o.octets i; frame = sym o.frame i; ingress = sym o.ingress i };
      } in
      Contains-append_right (each_below (brought_at x.at) links) (offers_at x.at) (record { source = OfOffers index; received = x })
      (subst (λ (y : Came). Contains (offers_at x.at) y) same c)

  -- ---- in order

  -- what a link brings at an instant is in order
  link_pairs : (t m : ℕ) → AllPairs CameBefore (brought_at t m)
  link_pairs t m =
      let all = enumerate_from 0 (carried m) in
      let R : ℕ × Sent → ℕ × Sent → Type 0 = λ a b. a.0 < b.0 in
      let S : ℕ × Sent → ℕ × Sent → Type 0 = λ a b. CameBefore (brought m a) (brought m b) in
      pairs_if CameBefore (enters run.domain m bridge) (map (brought m) (filter (is_whole t m) all))
      (λ there. pairs_map CameBefore (brought m) (filter (is_whole t m) all)
      (pairs_weaker R S (filter (is_whole t m) all) (λ a b ca cb l. inr (
        eqb-true (whole_at run.domain m a.1) t (contains_from_filter (is_whole t m) all a ca).1
            ∙ sym (eqb-true (whole_at run.domain m b.1) t (contains_from_filter (is_whole t m) all b cb).1),
        inr (refl, l),
      )) (AllPairs-filter R (is_whole t m) all (enum_pairs 0 (carried m)))))

  -- and so are the offers at an instant
  offer_pairs : (t : ℕ) → AllPairs CameBefore (offers_at t)
  offer_pairs t =
      let mine = is_offered_at bridge t in
      let R : Offered → Offered → Type 0 = λ a b. a.frame < b.frame in
      let S : Offered → Offered → Type 0 = λ a b. CameBefore (offered_as a) (offered_as b) in
      pairs_map CameBefore offered_as (filter mine (numbered run.offers))
      (pairs_weaker R S (filter mine (numbered run.offers)) (λ a b ca cb l.
      let x = contains_from_filter mine (numbered run.offers) a ca in
      let y = contains_from_filter mine (numbered run.offers) b cb in
      let n = offer_at run.offers a x.0 in
      inr (
        eqb-true a.offer.at.0 t (and_parts (a.offer.bridge == bridge) (a.offer.at.0 == t) x.1).1
            ∙ sym (eqb-true b.offer.at.0 t (and_parts (b.offer.bridge == bridge) (b.offer.at.0 == t) y.1).1),
        omega (arith, l, n.numbered),
      )) (AllPairs-filter R mine (numbered run.offers)
      (numbered_pairs as_offered (λ (y : Offered). y.frame) (λ (y : Offered). y.offer) (λ e. refl) (λ e. refl) run.offers)))

  -- and all at an instant
  instant_pairs : (t : ℕ) → AllPairs CameBefore (at_instant t)
  instant_pairs t =
      let links = length run.domain.links in
      pairs_append CameBefore (each_below (brought_at t) links) (offers_at t)
      (pairs_below CameBefore (brought_at t) links (λ m l. link_pairs t m) (λ j k x y l inside cx cy.
      let a = from_link t j x cx in
      let b = from_link t k y cy in
      inr (a.comes_at.instant ∙ sym b.comes_at.instant, links_before x.source y.source j k a.index b.index a.is b.is (inl l))))
      (offer_pairs t)
      (λ x y cx cy.
      let w = contains_from_below (brought_at t) links x cx in
      let a = from_link t w.0 x w.2 in
      let b = from_offers t y cy in
      inr (a.comes_at.instant ∙ sym b.comes_at.instant, offers_after x.source y.source w.0 a.index b.index a.is b.is))

  -- and all before an instant
  pub until_pairs : (end : ℕ) → AllPairs CameBefore (until end)
  until_pairs end =
      pairs_below CameBefore at_instant end (λ t l. instant_pairs t) (λ s t x y l inside cx cy.
      inl (omega (arith, l, (from_instant s x cx).instant, (from_instant t y cy).instant)))

  -- a source has one frame
  one_instant : (source : Source) (x y : Received) → Comes run carried bridge source x → Comes run carried bridge source y → x.at ≡ y.at
  one_instant (OfLink m index) x y a b =
      let same : a.sent ≡ b.sent = same_Some a.sent b.sent (sym a.is_carried ∙ b.is_carried) in
      a.instant ∙ ap (λ (sent : Sent). whole_at run.domain m sent) same ∙ sym b.instant
  one_instant (OfOffers index) x y a b =
      let same : a.offer ≡ b.offer = same_Some a.offer b.offer (sym a.is_there ∙ b.is_there) in
      a.instant ∙ ap (λ (offer : Offer). offer.at.0) same ∙ sym b.instant

  -- so no source occurs twice
  until_once : (end : ℕ) → AllPairs (λ (a b : Came). a.source ≢ b.source) (until end)
  until_once end =
      pairs_weaker CameBefore (λ (a b : Came). a.source ≢ b.source) (until end) (λ a b ca cb before same.
      let x = (from_until end a ca).0 in
      let y = subst (λ (s : Source). Comes run carried bridge s b.received) (sym same) (from_until end b cb).0 in
      elim before [
        | inl l ↦ omega (arith, l, one_instant a.source a.received b.received x y)
        | inr e ↦ not_itself a.source (subst (λ (s : Source). IsSourceBefore a.source s) (sym same) e.1)
      ]) (until_pairs end)

-- what arrives at a bridge is exactly what is due there
pub bridges_receive_what_comes : BridgesReceiveWhatComes
bridges_receive_what_comes run carried bridge end = record {
  came = until run carried bridge end;
  are = sym (until_is run carried bridge end);
  no_others = from_until run carried bridge end;
  all = λ source x comes early. contains_below (at_instant run carried bridge) end x.at (record { source = source; received = x }) early
      (to_instant run carried bridge source x comes);
  once = until_once run carried bridge end;
  in_order = until_pairs run carried bridge end;
}
