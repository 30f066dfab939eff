-- Paths with room are paths by the links with room.
use Rattle.std.proofs.Common.{◌≡◌, ◌∙◌, ◌≤◌, ℕ, Bool, true, false, List, [], ◌∷◌, Option, Some, None, length, refl, sym, ap}
use Rattle.std.specs.Prelude.{◌&&◌, if◌then◌else◌, option_and_then}
use Rattle.std.specs.List.{list_all}
use Rattle.cqf_model.specs.declared.topology.Link.{Link}
use Rattle.cqf_model.specs.declared.topology.Node.{Node}
use Rattle.cqf_model.proofs.Links.{same_node_itself, same_node_true}
use Rattle.cqf_network.specs.declared.path_ends.Ends.TheVariants.{Only}
use Rattle.cqf_network.specs.Ends.{is_in, open_to}
use Rattle.cqf_network.specs.Steps.{IsFirstInto, NoneInto, PathInto, led_along}
use Rattle.cqf_network.specs.Paths.{IsFirstPath, IsPath, NoWay, led_to, most_links}

-- each link of a path by links with room has room
pub open_parts : (links : List Link) (room : ℕ → Bool) (from to : Node) (path : List ℕ) → led_along (open_to links room) from path ≡ Some to →
    (led_along (led_to links) from path ≡ Some to) × (list_all room path ≡ true)
open_parts links room from to [] e = (e, refl)
open_parts links room from to (l ∷ path) e = by_room (λ end more. open_parts links room end to path more) (room l) refl e
  where
    by_step : ((end : Node) → led_along (open_to links room) end path ≡ Some to → (led_along (led_to links) end path ≡ Some to) × (list_all room path ≡ true)) →
        (o : Option Node) → option_and_then (λ end. led_along (open_to links room) end path) o ≡ Some to →
        (option_and_then (λ end. led_along (led_to links) end path) o ≡ Some to) × (list_all room path ≡ true)
    by_step rest None none = absurd cc
    by_step rest (Some end) more = rest end more

    by_room : ((end : Node) → led_along (open_to links room) end path ≡ Some to → (led_along (led_to links) end path ≡ Some to) × (list_all room path ≡ true)) →
        (roomy : Bool) → room l ≡ roomy →
        option_and_then (λ end. led_along (open_to links room) end path) (if roomy then led_to links from l else None) ≡ Some to →
        (option_and_then (λ end. led_along (led_to links) end path) (led_to links from l) ≡ Some to) × ((room l && list_all room path) ≡ true)
    by_room rest true is more = let parts = by_step rest (led_to links from l) more in (parts.0, ap (λ (b : Bool). b && list_all room path) is ∙ parts.1)
    by_room rest false is more = absurd cc

-- and if each has room, it is a path by links with room
pub open_whole : (links : List Link) (room : ℕ → Bool) (from to : Node) (path : List ℕ) → led_along (led_to links) from path ≡ Some to → list_all room path ≡ true →
    led_along (open_to links room) from path ≡ Some to
open_whole links room from to [] e roomy = e
open_whole links room from to (l ∷ path) e roomy = by_room (λ end more rest. open_whole links room end to path more rest) (room l) refl roomy
  where
    by_step : ((end : Node) → led_along (led_to links) end path ≡ Some to → led_along (open_to links room) end path ≡ Some to) → (o : Option Node) → option_and_then (λ end. led_along (led_to links) end path) o ≡ Some to →
        option_and_then (λ end. led_along (open_to links room) end path) o ≡ Some to
    by_step whole None none = absurd cc
    by_step whole (Some end) more = whole end more

    by_room : ((end : Node) → led_along (led_to links) end path ≡ Some to → list_all room path ≡ true → led_along (open_to links room) end path ≡ Some to) →
        (first : Bool) → room l ≡ first → (first && list_all room path) ≡ true →
        option_and_then (λ end. led_along (open_to links room) end path) (if room l then led_to links from l else None) ≡ Some to
    by_room whole true is rest =
        ap (λ (b : Bool). option_and_then (λ end. led_along (open_to links room) end path) (if b then led_to links from l else None)) is
        ∙ by_step (λ end more. whole end more rest) (led_to links from l) e
    by_room whole false is rest = absurd cc

-- a path to a node is one into the set of that node, by links with room
path_into : (links : List Link) (room : ℕ → Bool) (from to : Node) (path : List ℕ) → IsPath links room from to path →
    PathInto (open_to links room) (is_in (Only to)) from path to
path_into links room from to path is = record { leads = open_whole links room from to path is.leads is.roomy; inside = same_node_itself to }

-- and conversely, if it isn't too long
into_path : (links : List Link) (room : ℕ → Bool) (from to end : Node) (path : List ℕ) → PathInto (open_to links room) (is_in (Only to)) from path end →
    length path ≤ most_links → IsPath links room from to path
into_path links room from to end path into short =
    let there : to ≡ end = same_node_true to end into.inside in
    let parts = open_parts links room from to path (into.leads ∙ ap (λ (n : Node). Some n) (sym there)) in
    record { leads = parts.0; roomy = parts.1; few = short }

-- the first path into the set of a node is the first to that node
pub first_into : (links : List Link) (room : ℕ → Bool) (from to end : Node) (path : List ℕ) → IsFirstInto (open_to links room) (is_in (Only to)) from path end →
    length path ≤ most_links → IsFirstPath links room from to path
first_into links room from to end path first short = record {
  is_path = into_path links room from to end path first.into short;
  shortest = λ other is. first.shortest other to (path_into links room from to other is);
  least = λ other is same. first.least other to (path_into links room from to other is) same;
}

-- and if there is none, there is no path to it
pub none_into : (links : List Link) (room : ℕ → Bool) (from to : Node) → NoneInto (open_to links room) (is_in (Only to)) from most_links → NoWay links room from to
none_into links room from to none path is = none path to is.few (path_into links room from to path is)
