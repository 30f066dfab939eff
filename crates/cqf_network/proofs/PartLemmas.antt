-- Beginnings of first paths are first paths, so two of them part once.
use Rattle.std.proofs.Common.{append_assoc, ◌≡◌, ◌≢◌, ◌∙◌, ◌+◌, ◌≤◌, ℕ, Bool, true, false, List, [], ◌∷◌, ◌++◌, Option, Some, None, Contains, length, refl, sym, ap, subst, inl, inr, arith}
use Rattle.std.proofs.Common.{length-append}
use Rattle.std.specs.Prelude.{◌&&◌, option_and_then, slice_get}
use Rattle.std.specs.Option.{option_map_or}
use Rattle.std.specs.List.{list_all}
use Rattle.std.proofs.lemmas.Bool.{cases_Bool, cases_eq, cases_lt}
use Rattle.std.proofs.lemmas.List.Folds.{list_all-append}
use Rattle.std.proofs.lemmas.Option.{option_and_then_some}
use Rattle.cqf_lists.proofs.Members.{contains_cases, contains_none}
use Rattle.cqf_model.specs.declared.topology.Link.{Link}
use Rattle.cqf_model.specs.declared.topology.Node.{Node}
use Rattle.cqf_model.specs.declared.topology.Node.TheVariants.{Station}
use Rattle.cqf_network.specs.Steps.{is_before, led_along}
use Rattle.cqf_network.specs.Paths.{IsFirstPath, IsPath, led_by, led_to}
use Rattle.cqf_network.specs.PathLaws.{EndsOnce, PartForGood, ends_along}
use Rattle.cqf_network.proofs.OrderLemmas.{before_stays, same_or_after}
use Rattle.cqf_network.proofs.StepLemmas.{along-append, along-push}

-- the parts of a test that holds
both_true : (a b : Bool) → (a && b) ≡ true → (a ≡ true) × (b ≡ true)
both_true true b e = (refl, e)
both_true false b e = absurd cc

true_both : (a b : Bool) → a ≡ true → b ≡ true → (a && b) ≡ true
true_both a b first second = ap (λ (x : Bool). x && b) first ∙ second

-- if a beginning of a path leads to a node, the rest leads on from there
pub leads_on : (links : List Link) (from mid to : Node) (front back : List ℕ) → led_along (led_to links) from front ≡ Some mid →
    led_along (led_to links) from (front ++ back) ≡ Some to → led_along (led_to links) mid back ≡ Some to
leads_on links from mid to front back to_mid to_end =
    sym (along-append (led_to links) from front back ∙ ap (λ (o : Option Node). option_and_then (λ n. led_along (led_to links) n back) o) to_mid) ∙ to_end

-- and two paths end to end are a path
pub leads_through : (links : List Link) (from mid to : Node) (front back : List ℕ) → led_along (led_to links) from front ≡ Some mid →
    led_along (led_to links) mid back ≡ Some to → led_along (led_to links) from (front ++ back) ≡ Some to
leads_through links from mid to front back to_mid to_end =
    along-append (led_to links) from front back ∙ ap (λ (o : Option Node). option_and_then (λ n. led_along (led_to links) n back) o) to_mid ∙ to_end

-- two first paths are the same
pub first_is_one : (links : List Link) (room : ℕ → Bool) (from to : Node) (path other : List ℕ) → IsFirstPath links room from to path →
    IsFirstPath links room from to other → path ≡ other
first_is_one links room from to path other first also =
    let as_long : length path ≡ length other = omega (arith, first.shortest other also.is_path, also.shortest path first.is_path) in
    elim (same_or_after path other as_long (also.least path first.is_path as_long)) [
      | inl same ↦ same
      | inr before ↦ absurd (let not_before = first.least other also.is_path (sym as_long) in cc)
    ]

-- the beginning of a first path is the first path to the node where it leads
pub first_begins : (links : List Link) (room : ℕ → Bool) (from mid to : Node) (front back : List ℕ) → IsFirstPath links room from to (front ++ back) →
    led_along (led_to links) from front ≡ Some mid → IsFirstPath links room from mid front
first_begins links room from mid to front back first to_mid = record {
  is_path = record { leads = to_mid; roomy = roomy.0; few = omega (arith, first.is_path.few, length-append front back) };
  shortest = λ other is. elim (cases_lt (length other) (length front)) [
    | inl shorter ↦ absurd (omega (
      arith,
      shorter,
      length-append front back,
      length-append other back,
      first.shortest (other ++ back) (through other is (omega (arith, shorter))),
    ))
    | inr fine ↦ fine
  ];
  least = λ other is same. elim (cases_Bool (is_before other front)) [
    | inl before ↦ absurd (
        let as_long : length (other ++ back) ≡ length (front ++ back) = omega (arith, same, length-append front back, length-append other back) in
        let not_before = first.least (other ++ back) (through other is (omega (arith, same))) as_long in
        let is = before_stays other front back back same before in cc)
    | inr not_before ↦ not_before
  ];
}
  where
    roomy : (list_all room front ≡ true) × (list_all room back ≡ true)
    roomy = both_true (list_all room front) (list_all room back) (sym (list_all-append room front back) ∙ first.is_path.roomy)

    -- another path to that node that is no longer, followed by the rest
    through : (other : List ℕ) → IsPath links room from mid other → length other ≤ length front → IsPath links room from to (other ++ back)
    through other is short = record {
      leads = leads_through links from mid to other back is.leads (leads_on links from mid to front back to_mid first.is_path.leads);
      roomy = list_all-append room other back ∙ true_both (list_all room other) (list_all room back) is.roomy roomy.1;
      few = omega (arith, short, first.is_path.few, length-append front back, length-append other back);
    }

-- a node in which a link of a path ends: some of its links lead there
pub record Reached (links : List Link) (from : Node) (path : List ℕ) (end : Node) : Type 0 where
  pub first : ℕ
  pub front : List ℕ
  pub back : List ℕ
  pub is : path ≡ (first ∷ front) ++ back
  pub leads : led_along (led_to links) from (first ∷ front) ≡ Some end

pub reached : (links : List Link) (from : Node) (path : List ℕ) (end : Node) → Contains (ends_along links from path) end → Reached links from path end
reached links from [] end c = absurd (contains_none end c)
reached links from (l ∷ path) end c = by_step (λ node inside. reached links node path end inside) (led_to links from l) refl c
  where
    by_step : ((node : Node) → Contains (ends_along links node path) end → Reached links node path end) → (o : Option Node) → led_to links from l ≡ o →
        Contains (option_map_or (λ node. node ∷ ends_along links node path) o []) end → Reached links from (l ∷ path) end
    by_step later None e inside = absurd (contains_none end inside)
    by_step later (Some node) e inside = elim (contains_cases node (ends_along links node path) end inside) [
      | inl here ↦ record {
        first = l;
        front = [];
        back = path;
        is = refl;
        leads = ap (λ (o : Option Node). option_and_then (λ n. Some n) o) e ∙ ap (λ (n : Node). Some n) here;
      }
      | inr following ↦ (let more = later node following in record {
        first = l;
        front = more.first ∷ more.front;
        back = more.back;
        is = ap (λ ws. l ∷ ws) more.is;
        leads = ap (λ (o : Option Node). option_and_then (λ n. led_along (led_to links) n (more.first ∷ more.front)) o) e ∙ more.leads;
      })
    ]

-- what two lists begin with
data Beginning (xs ys : List ℕ) : Type 0 where
  Parts : (common : List ℕ) (x y : ℕ) (rest more : List ℕ) → xs ≡ common ++ (x ∷ rest) → ys ≡ common ++ (y ∷ more) → x ≢ y → Beginning xs ys
  Begins : (rest : List ℕ) → ys ≡ xs ++ rest → Beginning xs ys
  IsBegun : (rest : List ℕ) → xs ≡ ys ++ rest → Beginning xs ys

beginning : (xs ys : List ℕ) → Beginning xs ys
beginning [] ys = Begins ys refl
beginning (x ∷ xs) [] = IsBegun (x ∷ xs) refl
beginning (x ∷ xs) (y ∷ ys) = elim (cases_eq x y) [
  | inl same ↦ subst (λ (z : ℕ). Beginning (x ∷ xs) (z ∷ ys)) same (elim (beginning xs ys) [
    | Parts common a b rest more is also apart ↦ Parts (x ∷ common) a b rest more (ap (λ zs. x ∷ zs) is) (ap (λ zs. x ∷ zs) also) apart
    | Begins rest is ↦ Begins rest (ap (λ zs. x ∷ zs) is)
    | IsBegun rest is ↦ IsBegun rest (ap (λ zs. x ∷ zs) is)
  ])
  | inr apart ↦ Parts [] x y xs ys refl refl apart
]

-- no link leads on from a station
none_from_station : (links : List Link) (station l : ℕ) → led_to links (Station station) l ≡ None
none_from_station links station l =
    elim (slice_get links l) as (λ o. option_and_then (led_by (Station station)) o ≡ None) [ None ↦ refl | Some link ↦ refl ]

-- so a path from there ends there
from_station : (links : List Link) (station : ℕ) (to : Node) (path : List ℕ) → led_along (led_to links) (Station station) path ≡ Some to → to ≡ Station station
from_station links station to [] e = let same : Some (Station station) ≡ Some to = e in cc
from_station links station to (l ∷ path) e =
    absurd (let none = ap (option_and_then (λ end. led_along (led_to links) end path)) (none_from_station links station l) in cc)

-- equal lists with a common beginning go on alike
next_same : (common : List ℕ) (x y : ℕ) (xs ys : List ℕ) → common ++ (x ∷ xs) ≡ common ++ (y ∷ ys) → x ≡ y
next_same [] x y xs ys e = cc
next_same (c ∷ common) x y xs ys e = next_same common x y xs ys (let rest : common ++ (x ∷ xs) ≡ common ++ (y ∷ ys) = cc in rest)

-- if a first path continues from a node to an end, the links up to there are the first path to that end
record Up (links : List Link) (room : ℕ → Bool) (from end : Node) (common : List ℕ) (x : ℕ) : Type 0 where
  following : List ℕ
  first : IsFirstPath links room from end (common ++ (x ∷ following))

up_to : (links : List Link) (room : ℕ → Bool) (from node to end : Node) (common : List ℕ) (x : ℕ) (rest : List ℕ) → IsFirstPath links room from to (common ++ (x ∷ rest)) →
    led_along (led_to links) from common ≡ Some node → Contains (ends_along links node (x ∷ rest)) end → Up links room from end common x
up_to links room from node to end common x rest first to_node c =
    let r = reached links node (x ∷ rest) end c in
    let is = r.is in
    let same : r.first ≡ x = cc in
    let whole : common ++ (x ∷ rest) ≡ (common ++ (r.first ∷ r.front)) ++ r.back = ap (λ ws. common ++ ws) is ∙ sym (append_assoc common (r.first ∷ r.front) r.back) in
    let begins : IsFirstPath links room from end (common ++ (r.first ∷ r.front)) =
    first_begins links room from end to (common ++ (r.first ∷ r.front)) r.back (subst (λ (ws : List ℕ). IsFirstPath links room from to ws) whole first)
    (leads_through links from node end common (r.first ∷ r.front) to_node r.leads) in
    record { following = r.front; first = subst (λ (l : ℕ). IsFirstPath links room from end (common ++ (l ∷ r.front))) same begins }

-- if two first paths continue by different links, no node is an end in both afterwards
apart_after : (links : List Link) (room : ℕ → Bool) (from node to there : Node) (common : List ℕ) (x y : ℕ) (rest more : List ℕ) → x ≢ y →
    IsFirstPath links room from to (common ++ (x ∷ rest)) → IsFirstPath links room from there (common ++ (y ∷ more)) →
    led_along (led_to links) from common ≡ Some node → (end : Node) → Contains (ends_along links node (x ∷ rest)) end → ¬ Contains (ends_along links node (y ∷ more)) end
apart_after links room from node to there common x y rest more differ first also to_node end one other =
    let a = up_to links room from node to end common x rest first to_node one in
    let b = up_to links room from node there end common y more also to_node other in
    differ (next_same common x y a.following b.following (first_is_one links room from end (common ++ (x ∷ a.following)) (common ++ (y ∷ b.following)) a.first b.first))

-- two first paths to two different stations part for good
pub first_paths_part : (links : List Link) (room : ℕ → Bool) (from : Node) (station there : ℕ) (path other : List ℕ) → station ≢ there →
    IsFirstPath links room from (Station station) path → IsFirstPath links room from (Station there) other → PartForGood links from path other
first_paths_part links room from station there path other differ first also = elim (beginning path other) [
  | Parts common x y rest more is other_is apart ↦ (
      let one : IsFirstPath links room from (Station station) (common ++ (x ∷ rest)) = subst (λ (ws : List ℕ). IsFirstPath links room from (Station station) ws) is first in
      let two : IsFirstPath links room from (Station there) (common ++ (y ∷ more)) =
      subst (λ (ws : List ℕ). IsFirstPath links room from (Station there) ws) other_is also in
      option_and_then_some (λ end. led_along (led_to links) end (x ∷ rest)) (led_along (led_to links) from common) (Station station)
      (sym (along-append (led_to links) from common (x ∷ rest)) ∙ one.is_path.leads)
      (λ node to_node on.
      record {
        common = common;
        node = node;
        first = x;
        second = y;
        rest = rest;
        more = more;
        path_is = is;
        other_is = other_is;
        to_node = to_node;
        differ = apart;
        apart = apart_after links room from node (Station station) (Station there) common x y rest more apart one two to_node;
      }))
  | Begins rest is ↦ absurd (differ (one_station station there
      (from_station links station (Station there) rest (leads_on links from (Station station) (Station there) path rest first.is_path.leads
      (sym (ap (led_along (led_to links) from) is) ∙ also.is_path.leads)))))
  | IsBegun rest is ↦ absurd (differ (sym (one_station there station
      (from_station links there (Station station) rest (leads_on links from (Station there) (Station station) other rest also.is_path.leads
      (sym (ap (led_along (led_to links) from) is) ∙ first.is_path.leads))))))
]
  where
    one_station : (a b : ℕ) → Station b ≡ Station a → a ≡ b
    one_station a b e = cc

-- no first path has a loop
goes_round : (links : List Link) (room : ℕ → Bool) (from mid to : Node) (front : List ℕ) (first : ℕ) (loop back : List ℕ) →
    led_along (led_to links) from front ≡ Some mid → led_along (led_to links) mid (first ∷ loop) ≡ Some mid →
    ¬ IsFirstPath links room from to (front ++ ((first ∷ loop) ++ back))
goes_round links room from mid to front first loop back to_mid round is =
    let on : led_along (led_to links) mid back ≡ Some to =
    leads_on links mid mid to (first ∷ loop) back round (leads_on links from mid to front ((first ∷ loop) ++ back) to_mid is.is_path.leads) in
    let parts = both_true (list_all room front) (list_all room ((first ∷ loop) ++ back))
    (sym (list_all-append room front ((first ∷ loop) ++ back)) ∙ is.is_path.roomy) in
    let roomy = both_true (list_all room (first ∷ loop)) (list_all room back) (sym (list_all-append room (first ∷ loop) back) ∙ parts.1) in
    let long : length (front ++ ((first ∷ loop) ++ back)) ≡ length front + (1 + length loop + length back) =
    omega (arith, length-append front ((first ∷ loop) ++ back), length-append (first ∷ loop) back) in
    let short : length (front ++ back) ≡ length front + length back = length-append front back in
    let shortcut : IsPath links room from to (front ++ back) = record {
      leads = leads_through links from mid to front back to_mid on;
      roomy = list_all-append room front back ∙ true_both (list_all room front) (list_all room back) parts.0 roomy.1;
      few = omega (arith, long, short, is.is_path.few);
    } in
    omega (arith, long, short, is.shortest (front ++ back) shortcut)

-- no node occurs twice on a first path
pub ends_once : (links : List Link) (room : ℕ → Bool) (from to : Node) (path : List ℕ) → IsFirstPath links room from to path → EndsOnce links from path
ends_once links room from to path first = record {
  not_again = λ c.
      let r = reached links from path from c in
      goes_round links room from from to [] r.first r.front r.back refl r.leads (subst (λ (ws : List ℕ). IsFirstPath links room from to ws) r.is first);
  once = λ front l rest node end is to_node by_link c.
      let r = reached links end rest end c in
      let whole : path ≡ (front ++ l ∷ []) ++ ((r.first ∷ r.front) ++ r.back) =
      is ∙ ap (λ ws. front ++ (l ∷ ws)) r.is ∙ sym (append_assoc front (l ∷ []) ((r.first ∷ r.front) ++ r.back)) in
      goes_round links room from end to (front ++ l ∷ []) r.first r.front r.back (along-push (led_to links) from node end front l to_node by_link) r.leads
      (subst (λ (ws : List ℕ). IsFirstPath links room from to ws) whole first);
}
