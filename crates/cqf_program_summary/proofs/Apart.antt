-- No two paths of a stream lead to one listener.
use Rattle.std.proofs.Common.{◌≡◌, ◌≢◌, ◌∙◌, ℕ, Bool, true, false, Contains, List, Some, None, Option, ap, if◌then◌else◌, length, map, not, refl, sym}
use Rattle.std.specs.Prelude.{◌&&◌, is_none, is_some, nat_le, nat_lt, position}
use Rattle.std.specs.List.{flat_map, list_any}
use Rattle.std.proofs.lemmas.List.Kept.{AllPairs-filter}
use Rattle.cqf_lists.specs.Lists.{least, or_else}
use Rattle.cqf_lists.proofs.Any.{none_member, position_any}
use Rattle.cqf_lists.proofs.Least.{least_none, or_else_none}
use Rattle.cqf_lists.proofs.Members.{contains_flat, contains_from_filter}
use Rattle.cqf_lists.proofs.Pairs.{pairs_map, pairs_one, pairs_weaker}
use Rattle.cqf_units.specs.Name.{is_name}
use Rattle.cqf_model.specs.declared.history.Refused.{Refused}
use Rattle.cqf_model.specs.declared.history.Refused.TheVariants.{BadName, BadOctets, BadPace, UnknownNode, BrokenPath, LoopingPath, NotATree, TooManyHops}
use Rattle.cqf_model.specs.declared.topology.Hop.{Hop}
use Rattle.cqf_model.specs.declared.topology.Node.{Node}
use Rattle.cqf_model.specs.declared.topology.Node.TheVariants.{Bridge, Station}
use Rattle.cqf_model.specs.declared.topology.Row.{Row}
use Rattle.cqf_model.specs.Domain.{Domain, end_of, node_named}
use Rattle.cqf_model.specs.History.{Asked, Branch, broken_index, first_index, is_bridge, is_broken_at, is_loop_at, is_pace, is_stray, node_at, refused_at, refused_if, tree_of}
use Rattle.cqf_model.specs.Limits.{hops_within, most_reserved}
use Rattle.cqf_model.specs.Table.{IsTree}
use Rattle.cqf_model.proofs.Texts.{is_text_same}
use Rattle.cqf_laws_history.proofs.Branches.{IsBranch, first_is_bridge, is_branch, no_repeat}
use Rattle.cqf_laws_history.proofs.Granted.{first_branch, first_index_none, none_broken, refused_at_none}
use Rattle.cqf_laws_history.proofs.Trees.{MakeATree, all_make_a_tree, tree_from}
use Rattle.cqf_laws_history.specs.StateLaws.{granted_row}
use Rattle.cqf_topology.specs.DomainText.{IsDomain}
use Rattle.cqf_admission.specs.Branches.{tree_refusal}
use Rattle.cqf_admission.specs.Judging.{form_refusal}
use Rattle.cqf_program_plans.specs.EndNames.{name_of_end}
use Rattle.cqf_program_plans.specs.Latency.Text.{is_station, listeners_of}
use Rattle.cqf_program_runs.specs.declared.deliveries.delivery.Delivery.{Delivery}
use Rattle.cqf_program_runs.specs.declared.deliveries.delivery.Fate.{Fate}
use Rattle.cqf_program_runs.specs.declared.deliveries.delivery.Journey.{Journey}
use Rattle.cqf_program_runs.specs.declared.deliveries.delivery.Passage.{Passage}
use Rattle.cqf_program_runs.specs.declared.deliveries.delivery.Passage.TheVariants as passage
use Rattle.cqf_program_runs.proofs.Listeners.{one_listener}
use Rattle.cqf_program_summary.specs.declared.summary.fares.Listener.{Listener}
use Rattle.cqf_program_summary.specs.declared.summary.fares.ListenerPath.{ListenerPath}
use Rattle.cqf_program_summary.specs.Summary.Counting.{AreApart, leads_to, path_with, paths_with, tally_with}
use Rattle.cqf_program_summary.specs.Summary.{listener_to, listeners_by, path_to, paths_of}
use Rattle.cqf_program_summary.specs.Summary.Written.{row_of_stream, row_unless}

-- what branches have if they aren't refused
record IsGoodTree (d : Domain) (paths : List Branch) : Type 0 where
  known : position (λ name. is_none (node_named d name)) (flat_map (λ branch. branch) paths) ≡ None
  whole : broken_index d paths ≡ None
  simple : first_index (is_loop_at d) paths ≡ None
  together : least (is_stray paths) (length paths) ≡ None

good_tree : (d : Domain) (paths : List Branch) → tree_refusal d paths ≡ None → IsGoodTree d paths
good_tree d paths good =
    let hops = refused_if (nat_lt (hops_within d.limits) (length (tree_of d paths))) TooManyHops in
    let after_looping = or_else (refused_at (λ branch. NotATree branch) (least (is_stray paths) (length paths))) hops in
    let after_broken = or_else (refused_at (λ index. LoopingPath index) (first_index (is_loop_at d) paths)) after_looping in
    let after_unknown = or_else (refused_at (λ index. BrokenPath index) (broken_index d paths)) after_broken in
    let unknown = position (λ name. is_none (node_named d name)) (flat_map (λ branch. branch) paths) in
    let known = or_else_none (refused_at (λ index. UnknownNode index) unknown) after_unknown good in
    let broken = or_else_none (refused_at (λ index. BrokenPath index) (broken_index d paths)) after_broken known.1 in
    let looping = or_else_none (refused_at (λ index. LoopingPath index) (first_index (is_loop_at d) paths)) after_looping broken.1 in
    let stray = or_else_none (refused_at (λ branch. NotATree branch) (least (is_stray paths) (length paths))) hops looping.1 in
    record {
      known = refused_at_none (λ index. UnknownNode index) unknown known.0;
      whole = refused_at_none (λ index. BrokenPath index) (broken_index d paths) broken.0;
      simple = refused_at_none (λ index. LoopingPath index) (first_index (is_loop_at d) paths) looping.0;
      together = refused_at_none (λ branch. NotATree branch) (least (is_stray paths) (length paths)) stray.0;
    }

-- they are a tree
module _ (d : Domain) (paths : List Branch) (g : IsGoodTree d paths) where
  none_unknown : list_any (λ name. is_none (node_named d name)) (flat_map (λ branch. branch) paths) ≡ false
  none_unknown = sym (position_any (λ name. is_none (node_named d name)) (flat_map (λ branch. branch) paths)) ∙ ap (λ (o : Option ℕ). is_some o) g.known

  branches : (branch : Branch) → Contains paths branch → IsBranch d branch
  branches branch c = is_branch d branch
      (λ name k. none_member (λ n. is_none (node_named d n)) (flat_map (λ b. b) paths) name none_unknown (contains_flat (λ b. b) paths branch name c k))
      (first_index_none (is_broken_at d) paths (none_broken d paths g.whole) branch c)
      (first_index_none (is_loop_at d) paths g.simple branch c)

  trees : (xs ys : Branch) → Contains paths xs → Contains paths ys → MakeATree xs ys
  trees = all_make_a_tree paths (λ branch c. no_repeat d branch (branches branch c)) (least_none (is_stray paths) (length paths) g.together)

  bridge_of_node : (o : Option Node) → is_bridge o ≡ true → (bridge : ℕ) × (o ≡ Some (Bridge bridge))
  bridge_of_node None e = absurd cc
  bridge_of_node (Some (Bridge b)) e = (b, refl)
  bridge_of_node (Some (Station s)) e = absurd cc

  is_tree : IsTree d (tree_of d paths)
  is_tree =
      let one = first_branch d paths g.whole in
      let first = bridge_of_node (node_at d one.0 0) (first_is_bridge d one.0 (branches one.0 one.1)) in
      tree_from d paths branches trees one.0 one.1 first.0 first.1

-- a stream of good form has good branches
good_branches : (d : Domain) (asked : Asked) → form_refusal d asked ≡ None → tree_refusal d asked.paths ≡ None
good_branches d asked good =
    let in_range = nat_le 64 asked.octets && nat_le asked.octets most_reserved in
    let after_octets = or_else (refused_if (not (is_pace asked.every asked.phase)) BadPace) (tree_refusal d asked.paths) in
    let after_name = or_else (refused_if (not in_range) BadOctets) after_octets in
    let named = or_else_none (refused_if (not (is_name asked.name)) BadName) after_name good in
    let sized = or_else_none (refused_if (not in_range) BadOctets) after_octets named.1 in
    (or_else_none (refused_if (not (is_pace asked.every asked.phase)) BadPace) (tree_refusal d asked.paths) sized.1).1

-- two paths, or listeners, have no name in common
abbrev apart_listeners : Option Listener → Option Listener → Type 0
apart_listeners a b = (name : List ℕ) → leads_to name a ≡ true → leads_to name b ≡ true → ⊥

abbrev apart_paths : ListenerPath → ListenerPath → Type 0
apart_paths a b = apart_listeners a.to b.to

module _ (d : Domain) (domain : IsDomain d) (cost : ℕ → ℕ) (ds : List Delivery) where
  -- two hops end in different nodes
  abbrev ends : Hop → Hop → Type 0
  ends a b = end_of d a.link ≢ end_of d b.link

  -- hops that end in two stations lead to two listeners
  hops_apart : (a b : Hop) → is_station (end_of d a.link) ≡ true → is_station (end_of d b.link) ≡ true → end_of d a.link ≢ end_of d b.link →
      (name : List ℕ) → leads_to name (Some (listener_to d cost a)) ≡ true → leads_to name (Some (listener_to d cost b)) ≡ true → ⊥
  hops_apart a b one two differ name first second =
      differ (one_listener d a.link b.link domain one two
      (sym (is_text_same name (name_of_end d a.link) first) ∙ is_text_same name (name_of_end d b.link) second))

  -- so the paths of a tree are apart
  row_apart : (row : Row) → IsTree d row.tree.items → AreApart (paths_of d cost ds (Some row))
  row_apart row tree =
      pairs_map apart_paths (path_to ds) (listeners_by d cost (Some row))
      (pairs_map apart_listeners (λ (hop : Hop). Some (listener_to d cost hop)) (listeners_of d row)
      (pairs_weaker ends (λ (a b : Hop). apart_listeners (Some (listener_to d cost a)) (Some (listener_to d cost b))) (listeners_of d row)
      (λ a b ca cb differ. hops_apart a b
      (contains_from_filter (λ (h : Hop). is_station (end_of d h.link)) row.tree.items a ca).1
      (contains_from_filter (λ (h : Hop). is_station (end_of d h.link)) row.tree.items b cb).1 differ)
      (AllPairs-filter ends (λ (h : Hop). is_station (end_of d h.link)) row.tree.items tree.reached_once)))

  -- and those of a stream
  pub paths_apart : (asked : Asked) → AreApart (paths_of d cost ds (row_of_stream d asked))
  paths_apart asked = by (form_refusal d asked) refl
    where
      by : (o : Option Refused) → form_refusal d asked ≡ o → AreApart (paths_of d cost ds (row_unless d asked o))
      by None good = row_apart (granted_row d 0 0 asked) (is_tree d asked.paths (good_tree d asked.paths (good_branches d asked good)))
      by (Some refused) bad = pairs_one apart_paths (path_to ds None)

-- a path leads where it led before
path_leads : (ending : Fate) (at : ℕ) (journey : Journey) (path : ListenerPath) → (path_with ending at journey path).to ≡ path.to
path_leads ending at journey path = by (leads_to journey.listener path.to)
  where
    by : (b : Bool) → (if b then record path { tally = tally_with ending at journey.whole path.tally } else path).to ≡ path.to
    by true = refl
    by false = refl

-- so paths stay apart
journey_apart : (ending : Fate) (at : ℕ) (journey : Journey) (paths : List ListenerPath) → AreApart paths →
    AreApart (map (path_with ending at journey) paths)
journey_apart ending at journey paths apart =
    pairs_map apart_paths (path_with ending at journey) paths
    (pairs_weaker apart_paths (λ (a b : ListenerPath). apart_paths (path_with ending at journey a) (path_with ending at journey b)) paths
    (λ a b ca cb differ name first second. differ name
    (ap (leads_to name) (sym (path_leads ending at journey a)) ∙ first) (ap (leads_to name) (sym (path_leads ending at journey b)) ∙ second)) apart)

pub passage_apart : (ending : Fate) (at : ℕ) (p : Passage) (paths : List ListenerPath) → AreApart paths → AreApart (paths_with ending at p paths)
passage_apart ending at (passage.Dropped reason) paths apart = apart
passage_apart ending at (passage.Goes journey) paths apart = journey_apart ending at journey paths apart
