-- What arrives at a bridge, regardless of what its links carry: by which link, in which order, and each offer once.
use Rattle.std.proofs.Common.{◌≡◌, ℕ, zero, suc, ◌+◌, ◌<◌, ◌≤◌, ◌⊎◌, ◌∷◌, [], List, Bool, true, false, inl, inr, sym, ap, ap₂, ◌∙◌, subst, arith, refl}
use Rattle.std.proofs.Common.{AllPairs, Contains, map, filter, sum_by, length, get_or, eq-eqb, eqb-true, ◌==◌, ◌&&◌, if◌then◌else◌, le_trans, nat_lt}
use Rattle.std.specs.List.{enumerate_from}
use Rattle.std.proofs.lemmas.Bool.{cases_Bool, cond-true, cond-false, and_parts}
use Rattle.std.proofs.lemmas.List.Elements.{Contains-append_left, Contains-append_cases}
use Rattle.std.proofs.lemmas.List.FromFn.{get_or-enumerate_from, length-enumerate_from}
use Rattle.std.proofs.lemmas.List.Sums.{sum_by-append}
use Rattle.cqf_model.specs.declared.frames.Offer.{Offer}
use Rattle.cqf_model.specs.declared.frames.Offered.{Offered}
use Rattle.cqf_model.specs.declared.frames.Sent.{Sent}
use Rattle.cqf_model.specs.Domain.{Domain, enters}
use Rattle.cqf_lists.specs.Lists.{each_below}
use Rattle.cqf_model.specs.Run.{Run}
use Rattle.cqf_model.specs.Policing.{Ingress, AtEdge, Relayed, Carried, Received, Policed, is_offered_at, numbered, offer_received, offered_at, policed_before}
use Rattle.cqf_model.specs.Policing.{received_at, received_before, relayed_at, sent_received, whole_at}
use Rattle.cqf_model.specs.Network.{QueuedFrame, queued_before}
use Rattle.cqf_model.proofs.Coming.{received_when}
use Rattle.cqf_lists.proofs.Members.{contains_map, contains_from_map, contains_filter, contains_from_filter, contains_here, contains_later, contains_cases}
use Rattle.cqf_lists.proofs.Members.{contains_none}
use Rattle.cqf_lists.proofs.EachBelow.{contains_below, contains_from_below}
use Rattle.cqf_lists.proofs.Pairs.{one_of_pairs, pairs_below, pairs_map, pairs_members}
use Rattle.cqf_lists.proofs.Sums.{sum_at_most_one, sum_by_keys, sum_filter, sum_le_below, sum_le_members, sum_map, sum_none}

-- an element with its index
pub placed_member : {X : Type 0} (n : ℕ) (xs : List X) (k : ℕ) (x : X) → Contains (enumerate_from n xs) (k, x) → Contains xs x × (n ≤ k) × (k < n + length xs)
placed_member n [] k x c = absurd (contains_none (k, x) c)
placed_member {X} n (y ∷ xs) k x c = elim (contains_cases (n, y) (enumerate_from (n + 1) xs) (k, x) c) [
  | inl e ↦
      let number : n ≡ k = ap (λ (z : ℕ × X). z.0) e in
      let same : y ≡ x = ap (λ (z : ℕ × X). z.1) e in
      (subst (λ z. Contains (y ∷ xs) z) same (contains_here y xs), omega (arith, number), omega (arith, number))
  | inr h ↦ let r = placed_member (n + 1) xs k x h in (contains_later y xs x r.0, omega (arith, r.1), omega (arith, r.2))
]

-- a numbered offer is one of the offers, and its number is its position, from 1
pub numbered_member : (offers : List Offer) (x : Offered) → Contains (numbered offers) x → Contains offers x.offer × (0 < x.frame) ×
    (x.frame < 1 + length offers)
numbered_member offers x c =
    let r = contains_from_map (λ (x : ℕ × Offer). the_offered x) (enumerate_from 1 offers) x c in
    let m = placed_member 1 offers r.0.0 r.0.1 r.1 in
    let number : r.0.0 ≡ x.frame = ap (λ (z : Offered). z.frame) r.2 in
    (subst (λ (z : Offered). Contains offers z.offer) r.2 m.0, omega (arith, m.1, number), omega (arith, m.2, number))
  where
    -- an offer with its number
    the_offered : ℕ × Offer → Offered
    the_offered x = record { frame = x.0; offer = x.1 }

-- numbers ascend
pub numbers_ascend : (offers : List Offer) → AllPairs (λ (a b : Offered). a.frame < b.frame) (numbered offers)
numbers_ascend offers i j e l inside = pairs_map (λ (a b : Offered). a.frame < b.frame) the_offered (enumerate_from 1 offers) indices i j e l inside
  where
    -- an offer with its number
    the_offered : ℕ × Offer → Offered
    the_offered x = record { frame = x.0; offer = x.1 }

    -- the positions ascend
    indices : AllPairs (λ (a b : ℕ × Offer). a.0 < b.0) (enumerate_from 1 offers)
    indices i j e l inside =
        let j_in : j < length offers = omega (arith, inside, length-enumerate_from 1 offers) in
        let at_i : (get_or (enumerate_from 1 offers) i e).0 ≡ 1 + i =
        ap (λ (z : ℕ × Offer). z.0) (get_or-enumerate_from 1 offers i e (omega (arith, l, j_in))) in
        let at_j : (get_or (enumerate_from 1 offers) j e).0 ≡ 1 + j = ap (λ (z : ℕ × Offer). z.0) (get_or-enumerate_from 1 offers j e j_in) in
        omega (arith, at_i, at_j, l)

-- so a number identifies one offer
pub one_number : (offers : List Offer) (x y : Offered) → Contains (numbered offers) x → Contains (numbered offers) y → x.frame ≡ y.frame → x ≡ y
one_number offers x y cx cy same =
    one_of_pairs (λ (a b : Offered). a.frame < b.frame) (numbered offers) x y (numbers_ascend offers) cx cy (λ l. absurd (omega (arith, l, same)))
    (λ l. absurd (omega (arith, l, same)))

-- whether an offered frame has this number, as 1 or 0
abbrev pub offered_counts : ℕ → Ingress → ℕ → ℕ
offered_counts frame (AtEdge name) number = if number == frame then 1 else 0
offered_counts frame (Relayed m stream) number = 0

module _ (run : Run) (carried : Carried) (end : ℕ) where
  -- the run's domain
  abbrev d : Domain
  d = run.domain

  -- what arrives at a bridge
  abbrev pub came : ℕ → List Received
  came bridge = received_before run carried bridge end

  -- the verdicts on it
  abbrev pub policed : ℕ → List Policed
  policed bridge = policed_before run carried bridge end

  -- what is queued to the port of a link
  abbrev pub queued : ℕ → List QueuedFrame
  queued m = queued_before run carried m end

  -- a frame arrives at a bridge by a link
  pub record IsRelayed (bridge : ℕ) (x : Received) : Type 0 where
    pub m : ℕ
    pub is_link : m < length run.domain.links
    pub here : enters run.domain m bridge ≡ true
    pub sent : Sent
    pub inside : Contains (carried m) sent
    pub is : sent_received run.domain m sent ≡ x
    pub early : whole_at run.domain m sent < end

  -- or is offered there
  pub record IsOfferedHere (bridge : ℕ) (x : Received) : Type 0 where
    pub offered : Offered
    pub inside : Contains (numbered run.offers) offered
    pub here : offered.offer.bridge ≡ bridge
    pub is : offer_received offered ≡ x
    pub early : offered.offer.at.0 < end

  -- what a link brings at an instant
  relayed_by : (bridge t m : ℕ) (x : Received) → t < end → m < length d.links → Contains (relayed_at d carried bridge t m) x → IsRelayed bridge x
  relayed_by bridge t m x early is_link c = elim (cases_Bool (enters d m bridge)) [
    | inl e ↦
        let r = contains_from_map (sent_received d m) (filter (λ (sent : Sent). whole_at d m sent == t) (carried m)) x
        (subst (λ z. Contains z x) (cond-true (enters d m bridge)
        (map (sent_received d m) (filter (λ sent. whole_at d m sent == t) (carried m))) [] e) c) in
        let f = contains_from_filter (λ (sent : Sent). whole_at d m sent == t) (carried m) r.0 r.1 in
        record { m = m; is_link = is_link; here = e; sent = r.0; inside = f.0; is = r.2; early = omega (arith, eqb-true (whole_at d m r.0) t f.1, early) }
    | inr e ↦ absurd (contains_none x
        (subst (λ z. Contains z x) (cond-false (enters d m bridge) (map (sent_received d m) (filter (λ sent. whole_at d m sent == t) (carried m))) [] e) c))
  ]

  -- what is offered at an instant
  offered_by : (bridge t : ℕ) (x : Received) → t < end → Contains (offered_at run.offers bridge t) x → IsOfferedHere bridge x
  offered_by bridge t x early c =
      let r = contains_from_map offer_received (filter (is_offered_at bridge t) (numbered run.offers)) x c in
      let f = contains_from_filter (is_offered_at bridge t) (numbered run.offers) r.0 r.1 in
      let parts = and_parts (r.0.offer.bridge == bridge) (r.0.offer.at.0 == t) f.1 in
      record {
        offered = r.0;
        inside = f.0;
        here = eqb-true r.0.offer.bridge bridge parts.0;
        is = r.2;
        early =
            omega (arith, eqb-true r.0.offer.at.0 t parts.1, early);
      }

  -- each frame arrived in one of these two ways
  pub came_how : (bridge : ℕ) (x : Received) → Contains (came bridge) x → IsRelayed bridge x ⊎ IsOfferedHere bridge x
  came_how bridge x c =
      let t = contains_from_below (received_at run carried bridge) end x c in
      elim (Contains-append_cases (each_below (relayed_at d carried bridge t.0) (length d.links)) (offered_at run.offers bridge t.0) x t.2) [
        | inl r ↦ let m = contains_from_below (relayed_at d carried bridge t.0) (length d.links) x r in inl (relayed_by bridge t.0 m.0 x t.1 m.1 m.2)
        | inr o ↦ inr (offered_by bridge t.0 x t.1 o)
      ]

  -- and what a link sends arrives at the bridge in which it ends
  pub relayed_comes : (bridge m : ℕ) (sent : Sent) → m < length d.links → enters d m bridge ≡ true → Contains (carried m) sent → whole_at d m sent < end →
      Contains (came bridge) (sent_received d m sent)
  relayed_comes bridge m sent is_link here inside early =
      let t = whole_at d m sent in
      let kept = contains_filter (λ (s : Sent). whole_at d m s == t) (carried m) sent inside (eq-eqb t t refl) in
      let mapped = contains_map (sent_received d m) (filter (λ (s : Sent). whole_at d m s == t) (carried m)) sent kept in
      let here_at : Contains (relayed_at d carried bridge t m) (sent_received d m sent) =
      subst (λ z. Contains z (sent_received d m sent))
      (sym (cond-true (enters d m bridge) (map (sent_received d m) (filter (λ s. whole_at d m s == t) (carried m))) [] here)) mapped in
      contains_below (received_at run carried bridge) end t (sent_received d m sent) early
      (Contains-append_left (each_below (relayed_at d carried bridge t) (length d.links)) (offered_at run.offers bridge t) (sent_received d m sent)
      (contains_below (relayed_at d carried bridge t) (length d.links) m (sent_received d m sent) is_link here_at))

  -- all that arrives is in order of instant
  pub sorted : (bridge : ℕ) → AllPairs (λ (a b : Received). a.at ≤ b.at) (came bridge)
  sorted bridge =
      pairs_below (λ (a b : Received). a.at ≤ b.at) (received_at run carried bridge) end
      (λ t l. pairs_members (λ (a b : Received). a.at ≤ b.at) (received_at run carried bridge t)
      (λ a b ca cb. omega (arith, received_when run carried bridge t a ca, received_when run carried bridge t b cb)))
      (λ s t a b less l ca cb. omega (arith, received_when run carried bridge s a ca, received_when run carried bridge t b cb, less))

  -- an offer occurs once among what arrives at a bridge
  pub offers_single : (bridge frame : ℕ) → sum_by (λ (x : Received). offered_counts frame x.ingress x.frame) (came bridge) ≤ 1
  offers_single bridge frame =
      le_trans (sum_le_below f g (received_at run carried bridge) (λ t. filter (λ (x : Offered). x.offer.at.0 == t) placed) end here_at)
      (subst (λ z. z ≤ 1) (sym (sum_by_keys g (λ (x : Offered). x.offer.at.0) placed end))
      (le_trans (sum_le_members (λ x. if nat_lt x.offer.at.0 end then g x else 0) g placed (λ x c. early (nat_lt x.offer.at.0 end) (g x)))
      (sum_at_most_one (λ (x : Offered). x.frame == frame) 1 placed apart)))
    where
      f : Received → ℕ
      f x = offered_counts frame x.ingress x.frame

      g : Offered → ℕ
      g x = if x.frame == frame then 1 else 0

      placed : List Offered
      placed = numbered run.offers

      early : (b : Bool) (v : ℕ) → (if b then v else 0) ≤ v
      early true v = omega arith
      early false v = omega arith

      apart : AllPairs (λ (x y : Offered). (x.frame == frame) ≡ true → (y.frame == frame) ≡ true → ⊥) placed
      apart i j e l inside first second =
          absurd (omega (
            arith,
            numbers_ascend run.offers i j e l inside,
            eqb-true (get_or placed i e).frame frame first,
            eqb-true
                (get_or placed j e).frame frame second,
          ))

      by_links : (t k : ℕ) → sum_by f (relayed_at d carried bridge t k) ≡ 0
      by_links t k = elim (cases_Bool (enters d k bridge)) [
        | inl y ↦
            ap (sum_by f) (cond-true (enters d k bridge) (map (sent_received d k) (filter (λ s. whole_at d k s == t) (carried k))) [] y)
            ∙ sum_map f (sent_received d k) (filter (λ (s : Sent). whole_at d k s == t) (carried k))
            ∙ sum_none (λ (s : Sent). f (sent_received d k s)) (filter (λ (s : Sent). whole_at d k s == t) (carried k)) (λ s c. refl)
        | inr u ↦ ap (sum_by f) (cond-false (enters d k bridge) (map (sent_received d k) (filter (λ s. whole_at d k s == t) (carried k))) [] u)
      ]

      no_link : (t n : ℕ) → sum_by f (each_below (relayed_at d carried bridge t) n) ≡ 0
      no_link t zero = refl
      no_link t (suc n) = sum_by-append f (each_below (relayed_at d carried bridge t) n) (relayed_at d carried bridge t n)
          ∙ ap₂ (λ a b. a + b) (no_link t n) (by_links t n)

      fewer : (a b : Bool) (v : ℕ) → (if a && b then v else 0) ≤ (if b then v else 0)
      fewer true b v = omega arith
      fewer false b v = omega arith

      here_at : (t : ℕ) → sum_by f (received_at run carried bridge t) ≤ sum_by g (filter (λ (x : Offered). x.offer.at.0 == t) placed)
      here_at t =
          let parts = sum_by-append f (each_below (relayed_at d carried bridge t) (length d.links)) (offered_at run.offers bridge t) in
          let mapped = sum_map f offer_received (filter (is_offered_at bridge t) placed) in
          let kept = sum_filter g (is_offered_at bridge t) placed in
          let all = sum_filter g (λ (x : Offered). x.offer.at.0 == t) placed in
          let less = sum_le_members (λ x. if is_offered_at bridge t x then g x else 0) (λ (x : Offered). if x.offer.at.0 == t then g x else 0) placed
          (λ x c. fewer (x.offer.bridge == bridge) (x.offer.at.0 == t) (g x)) in
          omega (arith, parts, no_link t (length d.links), mapped, kept, all, less)
