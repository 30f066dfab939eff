-- None of the links is left.
use Rattle.std.proofs.Common.{◌≡◌, ◌∙◌, ◌<◌, ◌&&◌, ◌||◌, ℕ, zero, suc, List, [], ◌∷◌, Bool, true, false, Option, Some, None, nat_cmp, is_eq, length, get_or, refl, ap, arith, codes, sym}
use Rattle.std.specs.Prelude.{if◌then◌else◌, option_and_then, option_map, unwrap_or}
use Rattle.std.specs.Cmp.Lexicographic.{slice_cmp}
use Rattle.std.specs.List.{list_any}
use Rattle.std.specs.Option.{option_map_or}
use Rattle.std.proofs.lemmas.Bool.{cases_Bool}
use Rattle.std.proofs.lemmas.Option.{none-some, same_Some}
use Rattle.toml.specs.Data.{Data, Items, no_items, item, Members, array, as_array, as_bool, as_str, as_table, get_member, table}
use Rattle.cqf_model.specs.Domain.{is_text}
use Rattle.cqf_topology.specs.declared.keys.Key.TheVariants.{From, Links, Stations, Streams, To}
use Rattle.cqf_topology.specs.Fields.{key_text}
use Rattle.cqf_network_text.proofs.Puts.{put_apart, put_here}
use Rattle.cqf_network_text.specs.Networks.{array_at, array_or_none}
use Rattle.cqf_program_words.specs.declared.links.LinkName.{LinkName}
use Rattle.cqf_program_without.proofs.Keys.{exchange_apart, exchange_first, exchange_second, take_apart, take_here}
use Rattle.cqf_program_without.specs.Links.{alone, back_of, both_left, element_left, exchange, is_along, is_among, is_back_out, is_direction, is_direction_of, is_duplex}
use Rattle.cqf_program_without.specs.Links.{is_out, item_if, item_left, leaves_station, links_left, one_left, table_left, take_key, turned, without_other}
use Rattle.cqf_program_without.specs.OutLaws.{LinksAreOut}
use Rattle.cqf_program_without.specs.Streams.{streams_left}
use Rattle.cqf_program_without.specs.Tables.{changed_at, changed_by}

-- ---- an element by the values at its keys

abbrev named : List ℕ → Option Data → Bool
named name found = option_map_or (is_text name) (option_and_then as_str found) false

abbrev along : LinkName → Option Data → Option Data → Bool
along link from to = named link.from from && named link.to to

abbrev both : Option Data → Bool
both found = unwrap_or (option_and_then as_bool found) false

abbrev directed : LinkName → Option Data → Option Data → Option Data → Bool
directed link from to duplex = along link from to || (both duplex && along (back_of link) from to)

by_values : (link : LinkName) (element : Members) →
    is_direction link element
    ≡ directed link (get_member (key_text From) element) (get_member (key_text To) element) (get_member (codes "duplex") element)
by_values link element = refl

-- one direction alone
one_way : (link : LinkName) (from to : Option Data) → along link from to ≡ false → directed link from to None ≡ false
one_way link from to not_so = ap (λ b. b || false) not_so

without_other_apart : (stations : Items) (key : List ℕ) (element : Members) → is_eq (slice_cmp nat_cmp key (codes "other")) ≡ false →
    get_member key (without_other stations element) ≡ get_member key element
without_other_apart stations key element apart = by (leaves_station stations element)
  where
    by : (leaves : Bool) → get_member key (if leaves then element else take_key (codes "other") element) ≡ get_member key element
    by true = refl
    by false = take_apart key (codes "other") element apart

alone_apart : (stations : Items) (key : List ℕ) (element : Members) → is_eq (slice_cmp nat_cmp key (codes "other")) ≡ false →
    is_eq (slice_cmp nat_cmp key (codes "duplex")) ≡ false → get_member key (alone stations element) ≡ get_member key element
alone_apart stations key element from_other from_duplex =
    without_other_apart stations key (take_key (codes "duplex") element) from_other ∙ take_apart key (codes "duplex") element from_duplex

alone_duplex : (stations : Items) (element : Members) → get_member (codes "duplex") (alone stations element) ≡ None
alone_duplex stations element =
    without_other_apart stations (codes "duplex") (take_key (codes "duplex") element) refl ∙ take_here (codes "duplex") element

alone_is_not : (stations : Items) (link : LinkName) (element : Members) → is_along link element ≡ false → is_direction link (alone stations element) ≡ false
alone_is_not stations link element not_so =
    (λ i. directed link (alone_apart stations (key_text From) element refl refl i) (alone_apart stations (key_text To) element refl refl i)
    (alone_duplex stations element i))
    ∙ one_way link (get_member (key_text From) element) (get_member (key_text To) element) not_so

-- written the other way round
turned_from : (element : Members) → get_member (key_text From) (turned element) ≡ get_member (key_text To) element
turned_from element =
    exchange_apart (key_text From) (codes "interface") (codes "far-interface") (exchange (key_text From) (key_text To) element) refl refl
    ∙ exchange_first (key_text From) (key_text To) element refl

turned_to : (element : Members) → get_member (key_text To) (turned element) ≡ get_member (key_text From) element
turned_to element =
    exchange_apart (key_text To) (codes "interface") (codes "far-interface") (exchange (key_text From) (key_text To) element) refl refl
    ∙ exchange_second (key_text From) (key_text To) element

either_order : (a b : Bool) → (a && b) ≡ (b && a)
either_order true true = refl
either_order true false = refl
either_order false true = refl
either_order false false = refl

turned_is_not : (link : LinkName) (element : Members) → is_along (back_of link) element ≡ false → is_along link (turned element) ≡ false
turned_is_not link element not_so =
    let from = get_member (key_text From) element in
    let to = get_member (key_text To) element in
    (λ i. along link (turned_from element i) (turned_to element i)) ∙ either_order (named link.from to) (named link.to from) ∙ not_so

-- ---- what is left of an element

either : (a b duplex : Bool) → a ≡ false → b ≡ false → (a || (duplex && b)) ≡ false
either a b true not_so none = (λ i. not_so i || none i)
either a b false not_so none = ap (λ x. x || false) not_so

left_is_not : (stations : Items) (link : LinkName) (element : Members) (duplex there back : Bool) → is_duplex element ≡ duplex →
    (there ≡ false → is_along link element ≡ false) → (back ≡ false → is_along (back_of link) element ≡ false) → (left : Members) →
    (if duplex then both_left there back stations element else one_left there element) ≡ Some left → is_direction link left ≡ false
left_is_not stations link element false true back one not_so none left is = absurd (none-some left is)
left_is_not stations link element false false back one not_so none left is =
    sym (ap (is_direction link) (same_Some element left is)) ∙ (λ i. is_along link element || (one i && is_along (back_of link) element)) ∙ ap (λ b. b || false) (not_so refl)
left_is_not stations link element true true true two not_so none left is = absurd (none-some left is)
left_is_not stations link element true true false two not_so none left is =
    sym (ap (is_direction link) (same_Some (alone stations (turned element)) left is)) ∙ alone_is_not stations link (turned element) (turned_is_not link element (none refl))
left_is_not stations link element true false true two not_so none left is =
    sym (ap (is_direction link) (same_Some (alone stations element) left is)) ∙ alone_is_not stations link element (not_so refl)
left_is_not stations link element true false false two not_so none left is =
    sym (ap (is_direction link) (same_Some element left is)) ∙ either (is_along link element) (is_along (back_of link) element) (is_duplex element) (not_so refl) (none refl)

-- ---- what is left of an array

-- a link is among some: what none of them is, it isn't
abbrev IsIn : LinkName → List LinkName → Type 0
IsIn link links = (test : LinkName → Bool) → list_any test links ≡ false → test link ≡ false

one_not : (a b : Bool) → (a || b) ≡ false → (a ≡ false) × (b ≡ false)
one_not true b not_so = absurd cc
one_not false true not_so = absurd cc
one_not false false not_so = (refl, refl)

is_in : (links : List LinkName) (k : ℕ) (d : LinkName) → k < length links → IsIn (get_or links k d) links
is_in [] k d inside test not_so = absurd (omega (arith, inside))
is_in (link ∷ links) zero d inside test not_so = (one_not (test link) (list_any test links) not_so).0
is_in (link ∷ links) (suc k) d inside test not_so = is_in links k d (omega (arith, inside)) test (one_not (test link) (list_any test links) not_so).1

element_is_not : (links : List LinkName) (stations : Items) (link : LinkName) → IsIn link links → (element left : Members) →
    element_left links stations element ≡ Some left → is_direction link left ≡ false
element_is_not links stations link inside element left is =
    left_is_not stations link element (is_duplex element) (is_out links element) (is_back_out links element) refl
    (inside (λ it. is_along it element)) (inside (λ it. is_along (back_of it) element)) left is

table_is_not : (links : List LinkName) (stations : Items) (link : LinkName) → IsIn link links → (found : Option Members) (d left : Data) → as_table d ≡ found →
    table_left links stations found d ≡ Some left → is_direction_of link left ≡ false
table_is_not links stations link inside None d left none is =
    sym (ap (is_direction_of link) (same_Some d left is)) ∙ ap (λ o. option_map_or (is_direction link) o false) none
table_is_not links stations link inside (Some element) d left some is = by (element_left links stations element) refl is
  where
    by : (o : Option Members) → element_left links stations element ≡ o → option_map table o ≡ Some left → is_direction_of link left ≡ false
    by None at none = absurd (none-some left none)
    by (Some rest) at one = sym (ap (is_direction_of link) (same_Some (table rest) left one)) ∙ element_is_not links stations link inside element rest at

items_are_not : (links : List LinkName) (stations : Items) (link : LinkName) → IsIn link links → (ds : Items) →
    is_among link (links_left links stations ds) ≡ false
items_are_not links stations link inside no_items = refl
items_are_not links stations link inside (item d ds) = by (items_are_not links stations link inside ds) (item_left links stations d) refl
  where
    by : is_among link (links_left links stations ds) ≡ false → (o : Option Data) → item_left links stations d ≡ o →
        is_among link (item_if o (links_left links stations ds)) ≡ false
    by rest None at = rest
    by rest (Some left) at = (λ i. table_is_not links stations link inside (as_table d) d left refl at i || rest i)

-- ---- of a table

-- the array at the key of links, after streams were changed
streams_apart : (change : Items → Items) (found : Option Items) (ms : Members) →
    array_at (key_text Links) (changed_by (key_text Streams) change found ms) ≡ array_at (key_text Links) ms
streams_apart change None ms = refl
streams_apart change (Some items) ms =
    ap (λ found. array_or_none (option_and_then as_array found)) (put_apart (key_text Links) (key_text Streams) (array (change items)) ms refl)

changed_is_not : (link : LinkName) (change : Items → Items) (ms : Members) → ((items : Items) → is_among link (change items) ≡ false) →
    (found : Option Items) → option_and_then as_array (get_member (key_text Links) ms) ≡ found →
    is_among link (array_at (key_text Links) (changed_by (key_text Links) change found ms)) ≡ false
changed_is_not link change ms not None none = ap (λ found. is_among link (array_or_none found)) none
changed_is_not link change ms not (Some items) some =
    ap (λ found. is_among link (array_or_none (option_and_then as_array found))) (put_here (key_text Links) (array (change items)) ms) ∙ not items

pub links_are_out : LinksAreOut
links_are_out links members k d inside =
    let link = get_or links k d in
    let stations = array_at (key_text Stations) members in
    let changed = changed_at (key_text Links) (links_left links stations) members in
    ap (is_among link) (streams_apart (streams_left links) (option_and_then as_array (get_member (key_text Streams) changed)) changed)
    ∙ changed_is_not link (links_left links stations) members (items_are_not links stations link (is_in links k d inside))
    (option_and_then as_array (get_member (key_text Links) members)) refl
