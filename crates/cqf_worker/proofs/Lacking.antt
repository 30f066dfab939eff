-- No taking end of a run lacks its putting end. Each link that ends in a bridge has a putting end at the bridge that it leaves, and at most
-- one taking end.
use Rattle.std.proofs.Common.{ℕ, ◌≡◌, ◌+◌, ◌<◌, ◌≤◌, ◌⊎◌, ◌==◌, ◌∷◌, [], Bool, List, AllPairs, Contains, cond, length}
use Rattle.std.proofs.Common.{get_or, map, refl, sym, ap, ◌∙◌, arith, inl, inr, subst}
use Rattle.std.proofs.Common.{eq-eqb, eqb-true, ne_eqb}
use Rattle.std.specs.Prelude.{Option, Some, count_by, false, if◌then◌else◌, slice_get, true}
use Rattle.std.specs.List.{AllZip, flat_map}
use Rattle.std.specs.Option.{option_map_or}
use Rattle.std.proofs.lemmas.Bool.{cases_Bool, cases_lt, cond-false, cond-true, false≢true}
use Rattle.std.proofs.lemmas.List.Concat.{flat_map-cons}
use Rattle.std.proofs.lemmas.List.Elements.{length_all_zip}
use Rattle.std.proofs.lemmas.List.Sums.{sum_by-append, sum_by-cons}
use Rattle.std.proofs.lemmas.Option.{slice_get-get_or, slice_get_cases, slice_get_within}
use Rattle.cqf_lists.proofs.EachBelow.{contains_below}
use Rattle.cqf_lists.proofs.Members.{contains_at, contains_cases, contains_filter, contains_flat, contains_from_flat}
use Rattle.cqf_lists.proofs.Members.{contains_from_map, contains_here, contains_later, contains_map, contains_none}
use Rattle.cqf_lists.proofs.Members.{index_of_member}
use Rattle.cqf_lists.proofs.Pairs.{pairs_head, pairs_tail}
use Rattle.cqf_model.specs.declared.topology.Link.{Link}
use Rattle.cqf_model.specs.declared.topology.Node.{Node}
use Rattle.cqf_model.specs.declared.topology.Node.TheVariants.{Bridge, Station}
use Rattle.cqf_model.specs.Domain.{Domain, IsAccepted, enters, leaves, node_is}
use Rattle.cqf_agenda.specs.Links.{links_from, links_into}
use Rattle.cqf_relay.specs.Standing.{is_bridge, is_onward}
use Rattle.cqf_agenda.proofs.LinkNumbers.{link_into, links_ascend}
use Rattle.cqf_worker_loops.specs.declared.worker.Worker.{Worker}
use Rattle.cqf_worker_loops.specs.Workers.{Offering, SegmentPort, Works, link_of, links_onward}
use Rattle.cqf_worker.specs.Wires.{AreWorkersOf, count_on, ins_at, outs_at}
use Rattle.cqf_worker.proofs.Apart.{element_at, kept_ins, kept_outs}

module _ {X : Type 0} (p : X → Bool) where
  -- how much one element counts
  abbrev one : X → ℕ
  one x = cond (p x) 1 0

  -- if no element passes, the count is 0
  none_counted : (xs : List X) → ((x : X) → Contains xs x → p x ≡ false) → count_by p xs ≡ 0
  none_counted [] none = refl
  none_counted (x ∷ xs) none =
      let both : count_by p (x ∷ xs) ≡ one x + count_by p xs = sum_by-cons one x xs in
      let first : one x ≡ 0 = cond-false (p x) 1 0 (none x (contains_here x xs)) in
      let rest : count_by p xs ≡ 0 = none_counted xs (λ y later. none y (contains_later x xs y later)) in
      omega (arith, both, first, rest)

  -- an element that passes is counted
  some_counted : (xs : List X) (x : X) → Contains xs x → p x ≡ true → 0 < count_by p xs
  some_counted [] x there passes = absurd (contains_none x there)
  some_counted (y ∷ xs) x there passes =
      let both : count_by p (y ∷ xs) ≡ one y + count_by p xs = sum_by-cons one y xs in
      elim (contains_cases y xs x there) [
        | inl is ↦
            let first : one y ≡ 1 = cond-true (p y) 1 0 (ap p is ∙ passes) in
            omega (arith, both, first)
        | inr later ↦
            let rest : 0 < count_by p xs = some_counted xs x later passes in
            omega (arith, both, rest)
      ]

  -- if the count isn't 0, some element passes
  counted_one : (xs : List X) → 0 < count_by p xs → (x : X) × Contains xs x × (p x ≡ true)
  counted_one [] some =
      let none : count_by p [] ≡ 0 = refl in
      absurd (omega (arith, some, none))
  counted_one (x ∷ xs) some =
      elim (cases_Bool (p x)) [
        | inl t ↦ (x, contains_here x xs, t)
        | inr f ↦
            let both : count_by p (x ∷ xs) ≡ one x + count_by p xs = sum_by-cons one x xs in
            let first : one x ≡ 0 = cond-false (p x) 1 0 f in
            let rest = counted_one xs (omega (arith, some, both, first)) in
            (rest.0, contains_later x xs rest.0 rest.1, rest.2)
      ]

module _ {X : Type 0} (key : X → ℕ) (k : ℕ) where
  -- whether an element has the key
  abbrev has : X → Bool
  has x = key x == k

  -- if keys ascend, no element after one with the key has the key
  later_apart : (x : X) (xs : List X) → AllPairs (λ (a b : ℕ). a < b) (map key (x ∷ xs)) → has x ≡ true → (y : X) → Contains xs y → has y ≡ false
  later_apart x xs ascend t y there =
      let first : key x ≡ k = eqb-true (key x) k t in
      let less : key x < key y = pairs_head (λ (a b : ℕ). a < b) (key x) (map key xs) (key y) ascend (contains_map key xs y there) in
      ne_eqb (key y) k (λ same. (omega (arith, less, same, first)))

  -- so at most one has it
  once_counted : (xs : List X) → AllPairs (λ (a b : ℕ). a < b) (map key xs) → count_by has xs ≤ 1
  once_counted [] ascend =
      let none : count_by has [] ≡ 0 = refl in
      omega (arith, none)
  once_counted (x ∷ xs) ascend =
      let both : count_by has (x ∷ xs) ≡ one has x + count_by has xs = sum_by-cons (one has) x xs in
      elim (cases_Bool (has x)) [
        | inl t ↦
            let first : one has x ≡ 1 = cond-true (has x) 1 0 t in
            let rest : count_by has xs ≡ 0 = none_counted has xs (later_apart x xs ascend t) in
            omega (arith, both, first, rest)
        | inr f ↦
            let first : one has x ≡ 0 = cond-false (has x) 1 0 f in
            let rest : count_by has xs ≤ 1 = once_counted xs (pairs_tail (λ (a b : ℕ). a < b) (key x) (map key xs) ascend) in
            omega (arith, both, first, rest)
      ]

module _ {W X : Type 0} (f : W → List X) (p : X → Bool) where
  -- of two lists, one has no element that passes
  abbrev AreApart : W → W → Type 0
  AreApart a b = (count_by p (f a) ≡ 0) ⊎ (count_by p (f b) ≡ 0)

  -- if a list has one that passes, none of the later lists has
  rest_none : (w : W) (ws : List W) → AllPairs AreApart (w ∷ ws) → 0 < count_by p (f w) → (x : X) → Contains (flat_map f ws) x → p x ≡ false
  rest_none w ws apart some x there =
      let at = contains_from_flat f ws x there in
      let none : count_by p (f at.0) ≡ 0 = elim (pairs_head AreApart w ws at.0 apart at.1) [
        | inl z ↦ absurd (omega (arith, some, z))
        | inr z ↦ z
      ] in
      elim (cases_Bool (p x)) [
        | inl t ↦ absurd (omega (arith, none, some_counted p (f at.0) x at.2 t))
        | inr f ↦ f
      ]

  -- if each of these lists has at most one, and of any two lists one has none, all of them together have at most one
  flat_once : (ws : List W) → ((w : W) → Contains ws w → count_by p (f w) ≤ 1) → AllPairs AreApart ws → count_by p (flat_map f ws) ≤ 1
  flat_once [] each apart =
      let none : count_by p (flat_map f []) ≡ 0 = refl in
      omega (arith, none)
  flat_once (w ∷ ws) each apart =
      let all : count_by p (flat_map f (w ∷ ws)) ≡ count_by p (f w) + count_by p (flat_map f ws) =
      ap (count_by p) (flat_map-cons f w ws) ∙ sum_by-append (one p) (f w) (flat_map f ws) in
      elim (cases_lt 0 (count_by p (f w))) [
        | inl some ↦
            let rest : count_by p (flat_map f ws) ≡ 0 = none_counted p (flat_map f ws) (rest_none w ws apart some) in
            omega (arith, all, rest, each w (contains_here w ws))
        | inr none ↦
            let rest : count_by p (flat_map f ws) ≤ 1 =
            flat_once ws (λ v later. each v (contains_later w ws v later)) (pairs_tail AreApart w ws apart) in
            omega (arith, all, rest, none)
      ]

-- a node is at most one bridge, and then it is a bridge
node_one : (n : Node) (a b : ℕ) → node_is n a ≡ true → node_is n b ≡ true → a ≡ b
node_one (Bridge c) a b at bt = sym (eqb-true c a at) ∙ eqb-true c b bt
node_one (Station s) a b at bt = absurd (false≢true at)

node_bridge : (n : Node) (a : ℕ) → node_is n a ≡ true → is_bridge n ≡ true
node_bridge (Bridge c) a at = refl
node_bridge (Station s) a at = absurd (false≢true at)

module _ (d : Domain) (l : ℕ) where
  -- the link of a number, if it ends in a bridge
  pub link_there : (a : ℕ) → enters d l a ≡ true → (link : Link) × (slice_get d.links l ≡ Some link)
  link_there a here = elim (slice_get_cases d.links l).1 [
    | inl w ↦ (w.0, w.2)
    | inr past ↦ absurd (false≢true (sym (ap (λ (o : Option Link). option_map_or (λ (link : Link). node_is link.to a) o false) past.1) ∙ here))
  ]

  -- it ends there
  pub ends_there : (link : Link) → slice_get d.links l ≡ Some link → (a : ℕ) → enters d l a ≡ true → node_is link.to a ≡ true
  ends_there link there a here = sym (ap (λ (o : Option Link). option_map_or (λ (link : Link). node_is link.to a) o false) there) ∙ here

  -- a link ends in one bridge only
  enters_one : (a b : ℕ) → enters d l a ≡ true → enters d l b ≡ true → a ≡ b
  enters_one a b here other =
      let link = link_there a here in
      node_one link.0.to a b (ends_there link.0 link.1 a here) (ends_there link.0 link.1 b other)

  -- and leaves a bridge, whose worker puts on it
  has_source : IsAccepted d → (a : ℕ) → enters d l a ≡ true → (b : ℕ) × (b < length d.bridges) × Contains (links_onward d b) l
  has_source accepted a here =
      let link = link_there a here in
      let b = link.0.from in
      let onward : is_onward d l ≡ true =
      ap (λ (o : Option Link). option_map_or (λ (link : Link). is_bridge link.to) o false) link.1
      ∙ node_bridge link.0.to a (ends_there link.0 link.1 a here) in
      let starts : leaves d l b ≡ true =
      ap (λ (o : Option Link). option_map_or (λ (link : Link). link.from == b) o false) link.1 ∙ eq-eqb b b refl in
      let listed : Contains (links_from d b) l =
      contains_below (λ k. if leaves d k b then k ∷ [] else []) (length d.links) l l (slice_get_within d.links l link.0 link.1)
      (subst (λ (ks : List ℕ). Contains ks l) (sym (cond-true (leaves d l b) (l ∷ []) [] starts)) (contains_here l [])) in
      (b, (accepted.links_good l link.0 link.1).from_bridge, contains_filter (is_onward d) (links_from d b) l listed onward)

module _ (t : Offering) (cycles : ℕ) (workers dones : List Worker) (of_bridges : AreWorkersOf t workers)
    (many : length workers ≡ length t.domain.bridges)
    (worked : AllZip (Works cycles) workers dones) where
  -- the link of a port at which a worker takes ends in its bridge
  enters_its_worker : (index : ℕ) (done : Worker) (port : SegmentPort) → slice_get dones index ≡ Some done → Contains done.ins.items port →
      enters t.domain port.link index ≡ true
  enters_its_worker index done port there held =
      let among : Contains (links_into t.domain index) port.link =
      subst (λ (ls : List ℕ). Contains ls port.link) (kept_ins t cycles workers dones of_bridges worked index done there)
      (contains_map link_of done.ins.items port held) in
      (link_into t.domain index port.link among).1

  module _ (link : ℕ) where
    -- whether a port is of the link
    abbrev is_on : SegmentPort → Bool
    is_on port = port.link == link

    -- a worker has at most one taking end of the link
    one_each : (done : Worker) → Contains dones done → count_by is_on (ins_at done) ≤ 1
    one_each done among =
        let index = index_of_member dones done among in
        once_counted link_of link (ins_at done)
        (subst (AllPairs (λ (a b : ℕ). a < b)) (sym (kept_ins t cycles workers dones of_bridges worked index.0 done index.1)) (links_ascend t.domain index.0))

    -- and none if the link doesn't end in its bridge
    none_elsewhere : (index : ℕ) (done : Worker) → slice_get dones index ≡ Some done → (enters t.domain link index ≡ true → ⊥) →
        count_by is_on (ins_at done) ≡ 0
    none_elsewhere index done there other =
        none_counted is_on (ins_at done) (λ port held. (ne_eqb port.link link (λ same.
        (other (subst (λ (l : ℕ). enters t.domain l index ≡ true) same (enters_its_worker index done port there held))))))

    -- so of two workers one has none
    are_apart : AllPairs (AreApart ins_at is_on) dones
    are_apart i j d before inside =
        let there_i : slice_get dones i ≡ Some (get_or dones i d) = slice_get-get_or dones i d (omega (arith, before, inside)) in
        let there_j : slice_get dones j ≡ Some (get_or dones j d) = slice_get-get_or dones j d inside in
        elim (cases_Bool (enters t.domain link i)) [
          | inl here ↦ inr (none_elsewhere j (get_or dones j d) there_j (λ other. (omega (arith, before, enters_one t.domain link i j here other))))
          | inr f ↦ inl (none_elsewhere i (get_or dones i d) there_i (λ here. (false≢true (sym f ∙ here))))
        ]

    -- if there is a taking end, there is a putting end
    some_put : IsAccepted t.domain → 0 < count_on link (flat_map ins_at dones) → 0 < count_on link (flat_map outs_at dones)
    some_put accepted some =
        let port = counted_one is_on (flat_map ins_at dones) some in
        let same : port.0.link ≡ link = eqb-true port.0.link link port.2 in
        let at = contains_from_flat ins_at dones port.0 port.1 in
        let index = index_of_member dones at.0 at.1 in
        let source = has_source t.domain port.0.link accepted index.0 (enters_its_worker index.0 at.0 port.0 index.1 at.2) in
        let as_many : length dones ≡ length t.domain.bridges = sym (length_all_zip (Works cycles) workers dones worked) ∙ many in
        let done = element_at dones source.0 (omega (arith, source.1, as_many)) in
        let out = contains_from_map link_of done.0.outs.items port.0.link
        (subst (λ (ls : List ℕ). Contains ls port.0.link) (sym (kept_outs t cycles workers dones of_bridges worked source.0 done.0 done.1)) source.2) in
        some_counted is_on (flat_map outs_at dones) out.0
        (contains_flat outs_at dones done.0 out.0 (contains_at dones source.0 done.0 done.1) out.1) (eq-eqb out.0.link link (out.2 ∙ same))

  -- so no link has fewer putting than taking ends
  pub none_lacks : IsAccepted t.domain → (link : ℕ) → count_on link (flat_map outs_at dones) < count_on link (flat_map ins_at dones) → ⊥
  none_lacks accepted link less =
      let once : count_on link (flat_map ins_at dones) ≤ 1 = flat_once ins_at (is_on link) dones (one_each link) (are_apart link) in
      let some : 0 < count_on link (flat_map ins_at dones) = omega (arith, less) in
      omega (arith, less, once, some_put link accepted some)
