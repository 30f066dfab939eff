-- Whether links lead from a node to a node, and the paths that do.
use Rattle.std.proofs.Common.{◌≡◌, ◌∙◌, ◌≤◌, ◌<◌, ◌||◌, ℕ, zero, suc, Bool, true, false, List, [], ◌∷◌, Option, Some, None, length, refl}
use Rattle.std.proofs.Common.{ap, arith, inl, inr, replicate, subst, sym, take}
use Rattle.std.specs.Prelude.{MatchOption, is_some, option_and_then, slice_get}
use Rattle.arrayvec.specs.ArrayVec.{ArrayVec}
use Rattle.std.specs.List.{list_all, list_any}
use Rattle.std.specs.Option.{option_map_or}
use Rattle.std.proofs.lemmas.Bool.{cases_Bool}
use Rattle.std.proofs.lemmas.Option.{slice_get_within}
use Rattle.std.proofs.lemmas.List.{length-replicate, length-take-le}
use Rattle.cqf_lists.specs.Lists.{each_below}
use Rattle.cqf_lists.proofs.EachBelow.{contains_below}
use Rattle.cqf_lists.proofs.Members.{any_member, contains_here, member_any}
use Rattle.cqf_model.specs.declared.topology.Link.{Link}
use Rattle.cqf_model.specs.declared.topology.Node.{Node}
use Rattle.cqf_model.specs.Domain.{same_node}
use Rattle.cqf_model.proofs.Links.{same_node_itself, same_node_true}
use Rattle.cqf_network.specs.Steps.{led_along}
use Rattle.cqf_network.specs.PathLaws.{NothingHasRoomEverywhere}
use Rattle.cqf_network.specs.Paths.{has_room, IsFirstPath, NoWay, led_by, led_to, most_links}
use Rattle.cqf_program_placing.specs.Settled.{is_led}

-- a path of at most `most` links
pub record PathWithin (links : List Link) (most : ℕ) (node to : Node) : Type 0 where
  pub path : List ℕ
  pub few : length path ≤ most
  pub leads : led_along (led_to links) node path ≡ Some to

-- what leads on is a link
link_there : (links : List Link) (node end : Node) (l : ℕ) → led_to links node l ≡ Some end → l < length links
link_there links node end l e = by_link (slice_get links l) refl e
  where
    by_link : (o : Option Link) → slice_get links l ≡ o → option_and_then (led_by node) o ≡ Some end → l < length links
    by_link None is none = absurd cc
    by_link (Some link) is some = slice_get_within links l link is

-- a path leads there, so links do
pub path_is_led : (links : List Link) (most : ℕ) (node to : Node) (path : List ℕ) → length path ≤ most → led_along (led_to links) node path ≡ Some to →
    is_led links most node to ≡ true
unfolding is_led
path_is_led links zero node to [] few leads = let here : node ≡ to = cc in subst (λ (n : Node). same_node node n ≡ true) here (same_node_itself node)
path_is_led links zero node to (l ∷ path) few leads = absurd (omega (arith, few))
path_is_led links (suc most) node to [] few leads =
    let here : node ≡ to = cc in
    let others = λ (n : Node). list_any (λ l. option_map_or (λ next. is_led links most next n) (led_to links node l) false)
    (each_below (λ l. l ∷ []) (length links)) in
    subst (λ (n : Node). (same_node node n || others n) ≡ true) here (ap (λ b. b || others node) (same_node_itself node))
path_is_led links (suc most) node to (l ∷ path) few leads =
    by_step (λ next more. path_is_led links most next to path (omega (arith, few)) more) (led_to links node l) refl leads
  where
    or_true : (a b : Bool) → b ≡ true → (a || b) ≡ true
    or_true true b e = refl
    or_true false b e = e

    by_step : ((next : Node) → led_along (led_to links) next path ≡ Some to → is_led links most next to ≡ true) → (o : Option Node) → led_to links node l ≡ o →
        option_and_then (λ end. led_along (led_to links) end path) o ≡ Some to →
        (same_node node to
        || list_any (λ k. option_map_or (λ next. is_led links most next to) (led_to links node k) false) (each_below (λ k. k ∷ []) (length links)))
        ≡ true
    by_step rest None is none = absurd cc
    by_step rest (Some next) is more =
        let test = λ (k : ℕ). option_map_or (λ n. is_led links most n to) (led_to links node k) false in
        let passes : test l ≡ true = ap (λ o. option_map_or (λ n. is_led links most n to) o false) is ∙ rest next more in
        let inside = contains_below (λ k. k ∷ []) (length links) l l (link_there links node next l is) (contains_here l []) in
        or_true (same_node node to) _ (member_any test (each_below (λ k. k ∷ []) (length links)) l inside passes)

-- each link of a path passes the test that is always true
all_pass : (path : List ℕ) → list_all (λ l. true) path ≡ true
all_pass [] = refl
all_pass (l ∷ path) = all_pass path

-- links lead there, so a path does
pub led_has_path : (links : List Link) (most : ℕ) (node to : Node) → is_led links most node to ≡ true → PathWithin links most node to
unfolding is_led
led_has_path links zero node to e = record { path = []; few = omega arith; leads = ap Some (same_node_true node to e) }
led_has_path links (suc most) node to e = elim (cases_Bool (same_node node to)) [
  | inl here ↦ record { path = []; few = omega arith; leads = ap Some (same_node_true node to here) }
  | inr away ↦
      let test = λ (k : ℕ). option_map_or (λ next. is_led links most next to) (led_to links node k) false in
      let found = any_member test (each_below (λ l. l ∷ []) (length links))
      (sym (ap (λ b. b || list_any test (each_below (λ l. l ∷ []) (length links))) away) ∙ e) in
      by_step found.0 (λ next. led_has_path links most next to) (led_to links node found.0) refl found.2
]
  where
    by_step : (l : ℕ) → ((next : Node) → is_led links most next to ≡ true → PathWithin links most next to) → (o : Option Node) → led_to links node l ≡ o →
        option_map_or (λ next. is_led links most next to) o false ≡ true → PathWithin links (suc most) node to
    by_step l rest None is none = absurd cc
    by_step l rest (Some next) is passes =
        let more = rest next passes in
        record {
          path = l ∷ more.path;
          few = omega (arith, more.few);
          leads = ap (λ o. option_and_then (λ end. led_along (led_to links) end more.path) o) is ∙ more.leads;
        }

-- a search for the first path finds one if and only if links lead there
pub first_is_led : (links : List Link) (room : ℕ → Bool) (from to : Node) (path : List ℕ) → IsFirstPath links room from to path →
    is_led links most_links from to ≡ true
first_is_led links room from to path first = path_is_led links most_links from to path first.is_path.few first.is_path.leads

pub none_is_not_led : (links : List Link) (from to : Node) → NoWay links (λ l. true) from to → is_led links most_links from to ≡ false
none_is_not_led links from to none = elim (cases_Bool (is_led links most_links from to)) [
  | inl led ↦ (let found = led_has_path links most_links from to led in
      absurd (none found.path (record { leads = found.leads; roomy = all_pass found.path; few = found.few })))
  | inr not_led ↦ not_led
]

pub found_is_led : (links : List Link) (left : List ℕ) (from to : Node) (found : Option (ArrayVec ℕ)) → NothingHasRoomEverywhere →
    length left ≡ length links →
    MatchOption found (NoWay links (has_room left 0) from to) (λ path. IsFirstPath links (has_room left 0) from to path.items) →
    is_some found ≡ is_led links most_links from to
found_is_led links left from to None everywhere same none = sym (none_is_not_led links from to ((everywhere links left from to [] same).1 none))
found_is_led links left from to (Some path) everywhere same first = sym (first_is_led links (has_room left 0) from to path.items first)

-- some of sixty-four zeros
pub some_zeros : (n k : ℕ) → k ≤ n → length (take k (replicate {A = ℕ} n 0)) ≡ k
some_zeros n k few = length-take-le k (replicate {A = ℕ} n 0) (omega (arith, few, length-replicate {A = ℕ} n 0))
