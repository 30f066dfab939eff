-- Paths that lack room, and paths at no cost.
use Rattle.std.proofs.Common.{◌≡◌, ◌∙◌, ◌<◌, ℕ, Bool, true, false, List, [], ◌∷◌, Option, Some, None, Contains, length, refl, sym, ap, inl, inr, arith}
use Rattle.std.specs.Prelude.{◌&&◌, nat_le, not, option_and_then, slice_get}
use Rattle.std.specs.Option.{option_map_or}
use Rattle.std.specs.List.{list_all}
use Rattle.std.proofs.Common.{le-leb}
use Rattle.std.proofs.lemmas.Bool.{cases_Bool}
use Rattle.std.proofs.lemmas.Option.{slice_get-get_or, slice_get_within}
use Rattle.cqf_lists.proofs.Members.{contains_here, contains_later, find_some}
use Rattle.cqf_model.specs.declared.topology.Link.{Link}
use Rattle.cqf_model.specs.declared.topology.Node.{Node}
use Rattle.cqf_network.specs.Steps.{led_along}
use Rattle.cqf_network.specs.Paths.{IsFirstPath, IsPath, NoWay, has_room, led_by, led_to, short_link}

-- if not all elements pass a test, one fails it
record Fails (test : ℕ → Bool) (xs : List ℕ) : Type 0 where
  one : ℕ
  within : Contains xs one
  fails : test one ≡ false

one_fails : (test : ℕ → Bool) (xs : List ℕ) → list_all test xs ≡ false → Fails test xs
one_fails test [] e = absurd cc
one_fails test (x ∷ xs) e = elim (cases_Bool (test x)) [
  | inl passes ↦ (let rest = one_fails test xs (sym (ap (λ b. b && list_all test xs) passes) ∙ e) in
      record { one = rest.one; within = contains_later x xs rest.one rest.within; fails = rest.fails })
  | inr fails ↦ record { one = x; within = contains_here x xs; fails = fails }
]

-- if a path isn't one with room, some link of it is short
pub some_short : (links : List Link) (left : List ℕ) (cost : ℕ) (from to : Node) (path : List ℕ) → NoWay links (has_room left cost) from to →
    IsPath links (λ l. true) from to path → (l : ℕ) × (short_link left cost path ≡ Some l)
some_short links left cost from to path none is = elim (cases_Bool (list_all (has_room left cost) path)) [
  | inl roomy ↦ absurd (none path (record { leads = is.leads; roomy = roomy; few = is.few }))
  | inr short ↦ (let f = one_fails (has_room left cost) path short in find_some (λ l. not (has_room left cost l)) path f.one f.within (ap not f.fails))
]

-- at no cost, a link has room if what it has left is known
has_at_no_cost : (left : List ℕ) (l : ℕ) → l < length left → has_room left 0 l ≡ true
has_at_no_cost left l inside =
    ap (λ o. option_map_or (λ octets. nat_le 0 octets) o false) (slice_get-get_or left l 0 inside) ∙ le-leb 0 _ (omega arith)

-- a number that leads on is a link's number
link_there : (links : List Link) (node end : Node) (l : ℕ) → led_to links node l ≡ Some end → l < length links
link_there links node end l e = by_link (slice_get links l) refl e
  where
    by_link : (o : Option Link) → slice_get links l ≡ o → option_and_then (led_by node) o ≡ Some end → l < length links
    by_link None is none = absurd cc
    by_link (Some link) is some = slice_get_within links l link is

-- so each link of a path has room
roomy_at_no_cost : (links : List Link) (left : List ℕ) (from to : Node) (path : List ℕ) → length left ≡ length links →
    led_along (led_to links) from path ≡ Some to → list_all (has_room left 0) path ≡ true
roomy_at_no_cost links left from to [] same e = refl
roomy_at_no_cost links left from to (l ∷ path) same e = by_step (λ end more. roomy_at_no_cost links left end to path same more) (led_to links from l) refl e
  where
    by_step : ((end : Node) → led_along (led_to links) end path ≡ Some to → list_all (has_room left 0) path ≡ true) → (o : Option Node) → led_to links from l ≡ o →
        option_and_then (λ end. led_along (led_to links) end path) o ≡ Some to → (has_room left 0 l && list_all (has_room left 0) path) ≡ true
    by_step rest None is none = absurd cc
    by_step rest (Some end) is more =
        let inside : l < length left = omega (arith, same, link_there links from end l is) in
        ap (λ b. b && list_all (has_room left 0) path) (has_at_no_cost left l inside) ∙ rest end more

all_pass : (path : List ℕ) → list_all (λ l. true) path ≡ true
all_pass [] = refl
all_pass (l ∷ path) = all_pass path

-- at no cost the paths are those without the condition of room
without : (links : List Link) (left : List ℕ) (from to : Node) (path : List ℕ) → IsPath links (has_room left 0) from to path → IsPath links (λ l. true) from to path
without links left from to path is = record { leads = is.leads; roomy = all_pass path; few = is.few }

within : (links : List Link) (left : List ℕ) (from to : Node) (path : List ℕ) → length left ≡ length links → IsPath links (λ l. true) from to path →
    IsPath links (has_room left 0) from to path
within links left from to path same is = record { leads = is.leads; roomy = roomy_at_no_cost links left from to path same is.leads; few = is.few }

-- and so is the first
pub first_at_no_cost : (links : List Link) (left : List ℕ) (from to : Node) (path : List ℕ) → length left ≡ length links →
    IsFirstPath links (has_room left 0) from to path → IsFirstPath links (λ l. true) from to path
first_at_no_cost links left from to path same first = record {
  is_path = without links left from to path first.is_path;
  shortest = λ other is. first.shortest other (within links left from to other same is);
  least = λ other is as_long. first.least other (within links left from to other same is) as_long;
}

pub none_at_no_cost : (links : List Link) (left : List ℕ) (from to : Node) → length left ≡ length links →
    NoWay links (has_room left 0) from to → NoWay links (λ l. true) from to
none_at_no_cost links left from to same none path is = none path (within links left from to path same is)
