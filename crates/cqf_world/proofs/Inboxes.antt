-- The bridge takes the batch of one more link: this batch comes after those of links with lower numbers.
use Rattle.std.proofs.Common.{◌≡◌, ℕ, ◌<◌, ◌++◌, Bool, List, drop, length, map, sym, ap, ◌∙◌, arith, refl, inl, inr}
use Rattle.std.proofs.Common.{subst, true, false, take, AllPairs, Contains, eq-eqb, eqb-true}
use Rattle.std.specs.Prelude.{◌∷◌, [], filter, nat_lt, Option, Some, slice_get}
use Rattle.std.specs.Option.{option_map_or}
use Rattle.std.proofs.lemmas.Option.{slice_get_cases}
use Rattle.std.specs.List.{insert}
use Rattle.std.proofs.lemmas.Bool.{cases_Bool, cond-false, cond-true, le-ltb, lt-ltb}
use Rattle.std.proofs.lemmas.List.{drop-map, map-append, take-map}
use Rattle.cqf_lists.proofs.EachBelow.{filter_none}
use Rattle.cqf_lists.proofs.Filters.{filter_alike}
use Rattle.cqf_lists.proofs.Members.{contains_cases, contains_from_filter, contains_none}
use Rattle.cqf_lists.proofs.Pairs.{pairs_head, pairs_tail}
use Rattle.cqf_model.specs.declared.topology.Link.{Link}
use Rattle.cqf_model.specs.declared.topology.Node.{Node}
use Rattle.cqf_model.specs.declared.topology.Node.TheVariants.{Bridge, Station as StationNode}
use Rattle.cqf_model.specs.Domain.{Domain, IsAccepted, IsNode, enters, node_is}

-- how many of the numbers are less than a number
abbrev pub before : ℕ → List ℕ → ℕ
before l ns = length (filter (λ m. nat_lt m l) ns)

-- one more of these ascending numbers is kept
pub kept_more : (q r : ℕ → Bool) (l : ℕ) (ns : List ℕ) → AllPairs (λ (a b : ℕ). a < b) ns → Contains ns l → q l ≡ false → r l ≡ true →
    ((m : ℕ) → (m ≡ l → ⊥) → r m ≡ q m) → filter r ns ≡ insert (filter q ns) (before l (filter q ns)) l
kept_more q r l [] up held lacks has same = absurd (contains_none l held)
kept_more q r l (m ∷ ns) up held lacks has same = elim (contains_cases m ns l held) [
  | inl e ↦
      let later : (k : ℕ) → Contains ns k → l < k = λ k h. subst (λ (z : ℕ). z < k) e (pairs_head (λ (a b : ℕ). a < b) m ns k up h) in
      let kept = filter q ns in
      let none : filter (λ k. nat_lt k l) kept ≡ [] =
      filter_none (λ k. nat_lt k l) kept (λ k h. le-ltb k l (let lt = later k (contains_from_filter q ns k h).0 in omega arith)) in
      cond-true (r m) (m ∷ filter r ns) (filter r ns) (ap r e ∙ has)
      ∙ (λ i. e i ∷ filter_alike r q ns (λ k h. same k (λ is. omega (arith, later k h, is))) i)
      ∙ ap (λ (n : ℕ). insert kept n l) (sym (ap length none))
      ∙ ap (λ (ks : List ℕ). insert ks (before l ks) l) (sym (cond-false (q m) (m ∷ kept) kept (ap q e ∙ lacks)))
  | inr h ↦
      let less : m < l = pairs_head (λ (a b : ℕ). a < b) m ns l up h in
      let still = same m (λ is. omega (arith, less, is)) in
      let rest = kept_more q r l ns (pairs_tail (λ (a b : ℕ). a < b) m ns up) h lacks has same in
      let kept = filter q ns in
      elim (cases_Bool (q m)) [
        | inl t ↦
            cond-true (r m) (m ∷ filter r ns) (filter r ns) (still ∙ t)
            ∙ ap (λ (ks : List ℕ). m ∷ ks) rest
            ∙ ap (λ (n : ℕ). insert (m ∷ kept) n l)
            (sym (ap length (cond-true (nat_lt m l) (m ∷ filter (λ k. nat_lt k l) kept) (filter (λ k. nat_lt k l) kept) (lt-ltb m l less))))
            ∙ ap (λ (ks : List ℕ). insert ks (before l ks) l) (sym (cond-true (q m) (m ∷ kept) kept t))
        | inr f ↦
            cond-false (r m) (m ∷ filter r ns) (filter r ns) (still ∙ f)
            ∙ rest
            ∙ ap (λ (ks : List ℕ). insert ks (before l ks) l) (sym (cond-false (q m) (m ∷ kept) kept f))
      ]
]

-- a mapped list with one more
pub insert_map : {X Y : Type 0} (f : X → Y) (xs : List X) (n : ℕ) (x : X) → map f (insert xs n x) ≡ insert (map f xs) n (f x)
insert_map f xs n x =
    map-append f (take n xs) (x ∷ drop n xs) ∙ (λ i. sym (take-map f n xs) i ++ f x ∷ sym (drop-map f n xs) i)

-- lists with equal heads and tails
pub same_parts : {X : Type 0} (x y : X) (xs ys : List X) → x ∷ xs ≡ y ∷ ys → (x ≡ y) × (xs ≡ ys)
same_parts x y xs ys e = (cc, cc)

-- a link whose end is a bridge ends in that bridge
pub ends_in : (d : Domain) (l b : ℕ) (link : Link) → IsAccepted d → slice_get d.links l ≡ Some link → link.to ≡ Bridge b → (enters d l b ≡ true)
    × (b < length d.bridges)
ends_in d l b link accepted there to = (
  ap (λ (o : Option Link). option_map_or (λ (x : Link). node_is x.to b) o false) there ∙ ap (λ (n : Node). node_is n b) to ∙ eq-eqb b b refl,
  subst (IsNode d) to (accepted.links_good l link there).to_node,
)

-- and one whose end is a station ends in no bridge
pub ends_in_none : (d : Domain) (l k b : ℕ) (link : Link) → slice_get d.links l ≡ Some link → link.to ≡ StationNode k → enters d l b ≡ false
ends_in_none d l k b link there to =
    ap (λ (o : Option Link). option_map_or (λ (x : Link). node_is x.to b) o false) there ∙ ap (λ (n : Node). node_is n b) to

-- the bridge in which a link ends is one of the domain
pub end_inside : (d : Domain) (l b : ℕ) → IsAccepted d → enters d l b ≡ true → b < length d.bridges
end_inside d l b accepted ends = elim (slice_get_cases d.links l).1 [
  | inl w ↦ of_node w.0.to (accepted.links_good l w.0 w.2).to_node
      (sym (ap (λ (o : Option Link). option_map_or (λ (link : Link). node_is link.to b) o false) w.2) ∙ ends)
  | inr w ↦
      let none : enters d l b ≡ false = ap (λ (o : Option Link). option_map_or (λ (link : Link). node_is link.to b) o false) w.1 in
      absurd (cc (none, ends))
]
  where
    -- of a node that is the bridge
    of_node : (n : Node) → IsNode d n → node_is n b ≡ true → b < length d.bridges
    of_node (Bridge k) inside is = omega (arith, inside, eqb-true k b is)
    of_node (StationNode k) inside is = absurd cc
