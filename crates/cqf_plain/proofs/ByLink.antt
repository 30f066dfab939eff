-- Elements that are listed bridge by bridge, and then brought into order of link.
use Rattle.std.proofs.Common.{◌≡◌, ℕ, zero, suc, ◌<◌, ◌==◌, true, false, List, [], ◌++◌, filter, length, sym, ap, refl}
use Rattle.std.proofs.Common.{◌∙◌, inl, inr, arith, subst, Contains, eq-eqb, eqb-true, ne_eqb, flat_map}
use Rattle.std.specs.Prelude.{Option, Some, if◌then◌else◌, slice_get}
use Rattle.std.specs.Option.{option_map_or}
use Rattle.std.proofs.lemmas.Bool.{cond-true}
use Rattle.std.proofs.lemmas.List.Concat.{flat_map-append}
use Rattle.std.proofs.lemmas.Option.{slice_get_cases}
use Rattle.cqf_lists.specs.Lists.{each_below}
use Rattle.cqf_lists.proofs.EachBelow.{contains_from_below, filter_each, same_below}
use Rattle.cqf_lists.proofs.Keys.{by_key}
use Rattle.cqf_lists.proofs.Made.{contains_if_there}
use Rattle.cqf_lists.proofs.Members.{contains_filter, contains_from_filter}
use Rattle.cqf_lists.proofs.Picked.{filter_one}
use Rattle.cqf_model.specs.declared.frames.Started.{Started}
use Rattle.cqf_model.specs.declared.topology.Link.{Link}
use Rattle.cqf_model.specs.declared.topology.Node.{Node}
use Rattle.cqf_model.specs.declared.topology.Node.TheVariants.{Bridge}
use Rattle.cqf_model.specs.Domain.{Domain, IsAccepted, IsNode, bridge_of, enters, leaves, node_is}
use Rattle.cqf_laws_cycle.specs.Gathered.{IsInOrderOf}
use Rattle.cqf_bridge.specs.Batch.{LinkBatch}

-- flat maps over lists end to end
pub flat_below : {X Y : Type 0} (g : X → List Y) (f : ℕ → List X) (n : ℕ) → flat_map g (each_below f n) ≡ each_below (λ k. flat_map g (f k)) n
flat_below g f zero = refl
flat_below {X} {Y} g f (suc n) =
    flat_map-append g (each_below f n) (f n) ∙ ap (λ (ys : List Y). ys ++ flat_map g (f n)) (flat_below g f n)

-- a link of the domain leaves a bridge of it
pub leaves_own : (d : Domain) (l : ℕ) → IsAccepted d → l < length d.links → (leaves d l (bridge_of d l) ≡ true) × (bridge_of d l < length d.bridges)
leaves_own d l accepted inside = elim (slice_get_cases d.links l).1 [
  | inl w ↦
      let from : bridge_of d l ≡ w.0.from = ap (λ (o : Option Link). option_map_or (λ (link : Link). link.from) o 0) w.2 in (
        ap (λ (o : Option Link). option_map_or (λ (link : Link). link.from == bridge_of d l) o false) w.2 ∙ eq-eqb w.0.from (bridge_of d l) (sym from),
        omega (arith, from, (accepted.links_good l w.0 w.2).from_bridge),
      )
  | inr w ↦ absurd (omega (arith, w.0, inside))
]

-- and no other
pub leaves_one : (d : Domain) (l bridge : ℕ) → l < length d.links → leaves d l bridge ≡ true → bridge ≡ bridge_of d l
leaves_one d l bridge inside here = elim (slice_get_cases d.links l).1 [
  | inl w ↦
      sym (eqb-true w.0.from bridge (sym (ap (λ (o : Option Link). option_map_or (λ (link : Link). link.from == bridge) o false) w.2) ∙ here))
      ∙ sym (ap (λ (o : Option Link). option_map_or (λ (link : Link). link.from) o 0) w.2)
  | inr w ↦ absurd (omega (arith, w.0, inside))
]

module _ {X : Type 0} (key : X → ℕ) (d : Domain) (accepted : IsAccepted d) (f : ℕ → List X) (keys : (l : ℕ) (x : X) → Contains (f l) x → key x ≡ l) where
  -- for a bridge, what is listed for the links that leave it
  abbrev pub on_bridge : ℕ → List X
  on_bridge bridge = each_below (λ l. if leaves d l bridge then f l else []) (length d.links)

  -- bridge by bridge
  abbrev pub by_bridge : List X
  by_bridge = each_below on_bridge (length d.bridges)

  -- an element of a link comes from the bridge that the link leaves
  of_link : (bridge : ℕ) (x : X) → Contains (on_bridge bridge) x → (key x < length d.links) × (leaves d (key x) bridge ≡ true)
  of_link bridge x h =
      let w = contains_from_below (λ l. if leaves d l bridge then f l else []) (length d.links) x h in
      let t = contains_if_there (leaves d w.0 bridge) (f w.0) x w.2 in
      let is : key x ≡ w.0 = keys w.0 x t.1 in
      (omega (arith, is, w.1), ap (λ (l : ℕ). leaves d l bridge) is ∙ t.0)

  -- so for one link it is what is listed for the link
  filtered : (l : ℕ) → l < length d.links → filter (λ x. key x == l) by_bridge ≡ f l
  filtered l inside =
      let own = leaves_own d l accepted inside in
      let b = bridge_of d l in
      let p = λ (x : X). key x == l in
      filter_one p on_bridge (length d.bridges) b own.1
      (λ j x differ h. ne_eqb (key x) l (λ same. differ (leaves_one d l j inside (ap (λ (k : ℕ). leaves d k j) (sym same) ∙ (of_link j x h).1))))
      ∙ filter_one p (λ m. if leaves d m b then f m else []) (length d.links) l inside
      (λ m x differ h. ne_eqb (key x) l (λ same. differ (sym (keys m x (contains_if_there (leaves d m b) (f m) x h).1) ∙ same)))
      ∙ ap (filter p) (cond-true (leaves d l b) (f l) [] own.0)
      ∙ filter_each p (f l) (λ x h. eq-eqb (key x) l (keys l x h))

  -- and in order of link it is the lists of the links, one after the other
  pub in_order_by_link : (gathered sorted : List X) → gathered ≡ by_bridge → IsInOrderOf key gathered sorted → sorted ≡ each_below f (length d.links)
  in_order_by_link gathered sorted is order =
      by_key key (length d.links) sorted order.in_order (λ x h.
      let same = λ (y : X). key y == key x in
      let there : Contains gathered x =
      (contains_from_filter same gathered x (subst (λ (xs : List X). Contains xs x) (order.stable (key x))
      (contains_filter same sorted x h (eq-eqb (key x) (key x) refl)))).0 in
      let w = contains_from_below on_bridge (length d.bridges) x (subst (λ (xs : List X). Contains xs x) is there) in
      (of_link w.0 x w.2).0)
      ∙ same_below (λ l. filter (λ x. key x == l) sorted) f (length d.links)
      (λ l inside. order.stable l ∙ ap (filter (λ x. key x == l)) is ∙ filtered l inside)

-- the link of a batch, and a batch of a given link
abbrev pub link_of_batch : LinkBatch → ℕ
link_of_batch x = x.link

pub batch_on : ℕ → LinkBatch
batch_on l = record { link = l; cycle = 0; frames = [] }

pub batches_on : (l : ℕ) → link_of_batch (batch_on l) ≡ l
unfolding batch_on
batches_on l = refl

-- the link of a start, and a start on a given link
abbrev pub link_of_start : Started → ℕ
link_of_start x = x.link

pub start_on : ℕ → Started
start_on l = record { cycle = record { 0 = 0 }; link = l; frame = 0; octets = 0; start = record { 0 = 0 } }

pub starts_on : (l : ℕ) → link_of_start (start_on l) ≡ l
unfolding start_on
starts_on l = refl

-- a link with a bridge at its end ends in it
pub ends_in : (d : Domain) (l b : ℕ) (link : Link) → IsAccepted d → slice_get d.links l ≡ Some link → link.to ≡ Bridge b →
    (enters d l b ≡ true) × (b < length d.bridges)
ends_in d l b link accepted there to = (
  ap (λ (o : Option Link). option_map_or (λ (x : Link). node_is x.to b) o false) there ∙ ap (λ (n : Node). node_is n b) to ∙ eq-eqb b b refl,
  subst (IsNode d) to (accepted.links_good l link there).to_node,
)
