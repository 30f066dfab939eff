-- The bridges of a stream's tree, one hop after the other.
use Rattle.std.proofs.Common.{ℕ, ◌≡◌, ◌+◌, ◌∙◌, ◌<◌, ◌≤◌, ◌==◌, Bool, true, false, List, [], ◌∷◌, ◌++◌, Option, Some, None, if◌then◌else◌, length, map, take}
use Rattle.std.proofs.Common.{get_or, slice_get, sym, ap, subst, arith}
use Rattle.std.specs.List.{All, list_any}
use Rattle.std.specs.Option.{option_map_or}
use Rattle.std.proofs.lemmas.List.{take_more, map-append, length-append, length-map, get_or-map}
use Rattle.std.proofs.lemmas.List.Sums.{fold_push}
use Rattle.std.proofs.lemmas.List.Elements.{All-append, All-cons, All-nil}
use Rattle.cqf_lists.specs.Lists.{each_once}
use Rattle.cqf_model.specs.declared.topology.Hop.{Hop}
use Rattle.cqf_model.specs.declared.topology.Link.{Link}
use Rattle.cqf_model.specs.Domain.{Domain, IsAccepted, bridge_of}
use Rattle.cqf_model.specs.Table.{links_in}
use Rattle.cqf_compile.proofs.Ends.{from_bridge}

-- the bridges that the hops leave, each once
abbrev pub bridges_in : Domain → List Hop → List ℕ
bridges_in d tree = each_once (λ a b. a == b) (map (bridge_of d) (links_in tree))

-- the bridges, with one more unless it is among them
abbrev pub kept_once : List ℕ → ℕ → List ℕ
kept_once kept bridge = if list_any (λ y. y == bridge) kept then kept else kept ++ bridge ∷ []

-- the value past the end of a list of hops
abbrev pub no_hop : Hop
no_hop = record { link = 0; hop_number = 0; from = None }

-- one more hop gives one more bridge if it is a new one
bridges_in-more : (d : Domain) (tree : List Hop) (k : ℕ) → k < length tree →
    bridges_in d (take (k + 1) tree) ≡ kept_once (bridges_in d (take k tree)) (bridge_of d (get_or tree k no_hop).link)
bridges_in-more d tree k below =
    let hop : Hop = get_or tree k no_hop in
    ap (bridges_in d) (take_more tree k no_hop below)
    ∙ ap (λ (links : List ℕ). each_once (λ a b. a == b) (map (bridge_of d) links)) (map-append (λ (h : Hop). h.link) (take k tree) (hop ∷ []))
    ∙ ap (each_once (λ a b. a == b)) (map-append (bridge_of d) (links_in (take k tree)) (hop.link ∷ []))
    ∙ fold_push kept_once [] (map (bridge_of d) (links_in (take k tree))) (bridge_of d hop.link)

-- the bridges of the first hops, each a bridge of the domain
pub record AreBridges (d : Domain) (tree : List Hop) (k : ℕ) (bridges : List ℕ) : Type 0 where
  pub are : bridges ≡ bridges_in d (take k tree)
  pub few : length bridges ≤ k
  pub inside : All (λ (b : ℕ). b < length d.bridges) bridges

-- one more hop, whose bridge is or isn't among those before
AreBridges-more : (d : Domain) (tree : List Hop) (k bridge : ℕ) (known : Bool) (bridges : List ℕ) → k < length tree →
    bridge_of d (get_or tree k no_hop).link ≡ bridge → bridge < length d.bridges
    → known ≡ list_any (λ other. other == bridge) bridges → AreBridges d tree k bridges →
    AreBridges d tree (k + 1) (if known then bridges else bridges ++ bridge ∷ [])
AreBridges-more d tree k bridge known bridges below from within word so_far = record {
  are = ap (λ (b : Bool). if b then bridges else bridges ++ bridge ∷ []) word
      ∙ ap (λ (kept : List ℕ). kept_once kept bridge) so_far.are
      ∙ ap (kept_once (bridges_in d (take k tree))) (sym from)
      ∙ sym (bridges_in-more d tree k below);
  few = few known;
  inside = inside known;
}
  where
    -- there are no more bridges than hops
    few : (b : Bool) → length (if b then bridges else bridges ++ bridge ∷ []) ≤ k + 1
    few true = omega (arith, so_far.few)
    few false = omega (arith, so_far.few, length-append bridges (bridge ∷ []))

    -- each of them is one of the domain's bridges
    inside : (b : Bool) → All (λ (x : ℕ). x < length d.bridges) (if b then bridges else bridges ++ bridge ∷ [])
    inside true = so_far.inside
    inside false = All-append (λ (x : ℕ). x < length d.bridges) bridges (bridge ∷ []) so_far.inside
        (All-cons (λ (x : ℕ). x < length d.bridges) bridge [] within (All-nil (λ (x : ℕ). x < length d.bridges)))

-- the same, in the terms of the calls that read the hop
pub AreBridges-next : (d domain : Domain) (tree items : List Hop) (k : ℕ) (link : Link) (known : Bool) (bridges seen : List ℕ) → domain ≡ d → IsAccepted d →
    items ≡ tree → seen ≡ bridges → k < length items
    → slice_get domain.links (get_or items k no_hop).link ≡ Some link → known ≡ list_any (λ other. other == link.from) seen
    → AreBridges d tree k bridges → AreBridges d tree (k + 1) (if known then bridges else bridges ++ link.from ∷ [])
AreBridges-next d domain tree items k link known bridges seen same_domain accepted same_items same_seen below found word so_far =
    let F : Domain → Type 0 = λ x. slice_get x.links (get_or items k no_hop).link ≡ Some link in
    let G : List Hop → Type 0 = λ xs. slice_get d.links (get_or xs k no_hop).link ≡ Some link in
    let of_tree : slice_get d.links (get_or tree k no_hop).link ≡ Some link = subst G same_items (subst F same_domain found) in
    AreBridges-more d tree k link.from known bridges (omega (arith, below, ap length same_items))
    (ap (λ (o : Option Link). option_map_or (λ (l : Link). l.from) o 0) of_tree)
    (from_bridge d (get_or tree k no_hop).link link accepted of_tree)
    (word ∙ ap (λ (xs : List ℕ). list_any (λ other. other == link.from) xs) same_seen) so_far

-- a hop of a tree along links of the domain is by one of them
pub link-inside : (d domain : Domain) (tree items : List Hop) (k : ℕ) → domain ≡ d → items ≡ tree → k < length items →
    All (λ l. l < length d.links) (links_in tree)
    → (get_or items k no_hop).link < length domain.links
link-inside d domain tree items k same_domain same_items below along =
    let P : List Hop → Type 0 = λ xs. All (λ l. l < length d.links) (links_in xs) in
    let here : P items = subst P (sym same_items) along in
    let link : ℕ = get_or (links_in items) k 0 in
    let inside : link < length d.links = here k 0 (omega (arith, below, length-map items (λ (h : Hop). h.link))) in
    let is : link ≡ (get_or items k no_hop).link = get_or-map (λ (h : Hop). h.link) items k no_hop 0 below in
    subst (λ (x : Domain). (get_or items k no_hop).link < length x.links) (sym same_domain) (subst (λ (l : ℕ). l < length d.links) is inside)
