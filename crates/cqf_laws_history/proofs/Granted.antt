-- What holds for a request that isn't refused, and that its branches form a tree.
use Rattle.std.proofs.Common.{◌≡◌, ℕ, ◌+◌, ◌<◌, ◌≤◌, Bool, true, false, List, Option, Some, None, length, sym, refl, ap, ◌∙◌, inl, inr, arith}
use Rattle.std.specs.Prelude.{[], ◌∷◌, ◌&&◌, is_none, is_some, nat_le, nat_lt, not, option_map, position, Contains}
use Rattle.std.specs.List.{flat_map, list_any}
use Rattle.std.proofs.Math.Nat.{min-le_right}
use Rattle.std.proofs.lemmas.Grind.{common_steps}
use Rattle.std.proofs.lemmas.Bool.{and_parts, leb-true, ltb-false, not-false}
use Rattle.cqf_units.specs.Name.{is_name}
use Rattle.cqf_units.specs.Timing.{cost_of}
use Rattle.cqf_lists.specs.Lists.{least, or_else}
use Rattle.cqf_lists.proofs.Any.{none_member, position_any}
use Rattle.cqf_lists.proofs.Least.{least_none, or_else_none, unmapped_none}
use Rattle.cqf_lists.proofs.Members.{contains_cases, contains_flat, contains_here, contains_none}
use Rattle.cqf_model.specs.declared.history.Refused.{Refused}
use Rattle.cqf_model.specs.declared.history.Refused.TheVariants.{BadPace}
use Rattle.cqf_model.specs.declared.history.Refused.TheVariants.{BadName, BadOctets, UnknownNode, BrokenPath, LoopingPath, NotATree, NameHeld, TooManyStreams}
use Rattle.cqf_model.specs.declared.history.Refused.TheVariants.{TooManyHops, BudgetShort}
use Rattle.cqf_model.specs.declared.topology.Node.{Node}
use Rattle.cqf_model.specs.declared.topology.Node.TheVariants.{Bridge, Station}
use Rattle.cqf_model.specs.declared.topology.Row.{Row}
use Rattle.cqf_model.specs.Domain.{Domain, is_text, node_named}
use Rattle.cqf_model.specs.History.{is_pace, pace_of}
use Rattle.cqf_model.specs.History.{Asked, Branch, broken_index, first_index, is_bridge, is_broken_at, is_loop_at, is_stray, left_on, node_at, refusal_of}
use Rattle.cqf_model.specs.History.{refused_at, refused_if, short_link, tree_of}
use Rattle.cqf_model.specs.Limits.{hops_within, most_reserved, streams_within}
use Rattle.cqf_model.specs.Table.{IsTree}
use Rattle.cqf_laws_history.specs.HistoryLaws.{GrantedFitsARow, GrantedIsATree, TreeIsItsBranches}
use Rattle.cqf_laws_history.specs.StateLaws.{GrantedFindsRoom}
use Rattle.cqf_laws_history.proofs.Branches.{IsBranch, first_is_bridge, is_branch, no_repeat}
use Rattle.cqf_laws_history.proofs.Trees.{MakeATree, all_make_a_tree, tree_from, tree_is_branches}

-- a refusal that depends on a test isn't due if the test fails
pub refused_if_none : (b : Bool) (refused : Refused) → refused_if b refused ≡ None → b ≡ false
refused_if_none true refused e = absurd cc
refused_if_none false refused e = refl

-- a refusal at an index isn't due if there is no such index
pub refused_at_none : (refused : ℕ → Refused) (o : Option ℕ) → refused_at refused o ≡ None → o ≡ None
refused_at_none refused None e = refl
refused_at_none refused (Some index) e = absurd cc

-- a number below a bound
below_bound : (bound n : ℕ) → nat_le bound n ≡ false → n < bound
below_bound bound n h = grind (arith, common_steps)

-- what holds for a request that isn't refused
pub record IsGranted (d : Domain) (rows : List Row) (asked : Asked) : Type 0 where
  pub named : is_name asked.name ≡ true
  pub least_octets : 64 ≤ asked.octets
  pub most_octets : asked.octets ≤ most_reserved
  pub known : position (λ name. is_none (node_named d name)) (flat_map (λ branch. branch) asked.paths) ≡ None
  pub whole : broken_index d asked.paths ≡ None
  pub simple : first_index (is_loop_at d) asked.paths ≡ None
  pub together : least (is_stray asked.paths) (length asked.paths) ≡ None
  pub few_hops : length (tree_of d asked.paths) ≤ hops_within d.limits
  pub name_free : list_any (λ (row : Row). is_text row.name asked.name) rows ≡ false
  pub room : length rows < streams_within d.limits
  pub pace : is_pace asked.every asked.phase ≡ true
  pub enough : short_link d rows (cost_of d.overhead asked.octets) (pace_of asked) (tree_of d asked.paths) ≡ None

-- a request that isn't refused meets each of its conditions
pub granted : (d : Domain) (rows : List Row) (asked : Asked) → refusal_of d rows asked ≡ None → IsGranted d rows asked
granted d rows asked e =
    let budget_short = refused_at (λ l. BudgetShort l (left_on d rows (tree_of d asked.paths) (pace_of asked) l))
    (short_link d rows (cost_of d.overhead asked.octets) (pace_of asked) (tree_of d asked.paths)) in
    let after_many = or_else (refused_if (nat_le (streams_within d.limits) (length rows)) TooManyStreams) budget_short in
    let after_held = or_else (refused_if (list_any (λ (row : Row). is_text row.name asked.name) rows) NameHeld) after_many in
    let after_hops = or_else (refused_if (nat_lt (hops_within d.limits) (length (tree_of d asked.paths))) TooManyHops) after_held in
    let after_stray = or_else (refused_at (λ branch. NotATree branch) (least (is_stray asked.paths) (length asked.paths))) after_hops in
    let after_looping = or_else (refused_at (λ index. LoopingPath index) (first_index (is_loop_at d) asked.paths)) after_stray in
    let after_broken = or_else (refused_at (λ index. BrokenPath index) (broken_index d asked.paths)) after_looping in
    let unknown = position (λ name. is_none (node_named d name)) (flat_map (λ branch. branch) asked.paths) in
    let after_unknown = or_else (refused_at (λ index. UnknownNode index) unknown) after_broken in
    let paced = is_pace asked.every asked.phase in
    let after_pace = or_else (refused_if (not paced) BadPace) after_unknown in
    let in_range = nat_le 64 asked.octets && nat_le asked.octets most_reserved in
    let name = or_else_none (refused_if (not (is_name asked.name)) BadName) (or_else (refused_if (not in_range) BadOctets) after_pace) e in
    let octets = or_else_none (refused_if (not in_range) BadOctets) after_pace name.1 in
    let pace = or_else_none (refused_if (not paced) BadPace) after_unknown octets.1 in
    let known = or_else_none (refused_at (λ index. UnknownNode index) unknown) after_broken pace.1 in
    let broken = or_else_none (refused_at (λ index. BrokenPath index) (broken_index d asked.paths)) after_looping known.1 in
    let looping = or_else_none (refused_at (λ index. LoopingPath index) (first_index (is_loop_at d) asked.paths)) after_stray broken.1 in
    let stray = or_else_none (refused_at (λ branch. NotATree branch) (least (is_stray asked.paths) (length asked.paths))) after_hops looping.1 in
    let hops = or_else_none (refused_if (nat_lt (hops_within d.limits) (length (tree_of d asked.paths))) TooManyHops) after_held stray.1 in
    let held = or_else_none (refused_if (list_any (λ (row : Row). is_text row.name asked.name) rows) NameHeld) after_many hops.1 in
    let many = or_else_none (refused_if (nat_le (streams_within d.limits) (length rows)) TooManyStreams) budget_short held.1 in
    let range = and_parts (nat_le 64 asked.octets) (nat_le asked.octets most_reserved) (not-false in_range (refused_if_none (not in_range) BadOctets octets.0)) in
    record {
      named = not-false (is_name asked.name) (refused_if_none (not (is_name asked.name)) BadName name.0);
      least_octets = leb-true 64 asked.octets range.0;
      most_octets = leb-true asked.octets most_reserved range.1;
      pace = not-false paced (refused_if_none (not paced) BadPace pace.0);
      known = refused_at_none (λ index. UnknownNode index) unknown known.0;
      whole = refused_at_none (λ index. BrokenPath index) (broken_index d asked.paths) broken.0;
      simple = refused_at_none (λ index. LoopingPath index) (first_index (is_loop_at d) asked.paths) looping.0;
      together = refused_at_none (λ branch. NotATree branch) (least (is_stray asked.paths) (length asked.paths)) stray.0;
      few_hops = ltb-false (hops_within d.limits) (length (tree_of d asked.paths))
          (refused_if_none (nat_lt (hops_within d.limits) (length (tree_of d asked.paths))) TooManyHops hops.0);
      name_free = refused_if_none (list_any (λ (row : Row). is_text row.name asked.name) rows) NameHeld held.0;
      room = below_bound (streams_within d.limits) (length rows) (refused_if_none (nat_le (streams_within d.limits) (length rows)) TooManyStreams many.0);
      enough = refused_at_none (λ l. BudgetShort l (left_on d rows (tree_of d asked.paths) (pace_of asked) l))
          (short_link d rows (cost_of d.overhead asked.octets) (pace_of asked) (tree_of d asked.paths)) many.1;
    }

-- ---- its branches

-- if no index of the branches fails, none of a single branch does
pub first_index_none : (fails : Branch → ℕ → Bool) (paths : List Branch) → first_index fails paths ≡ None → (branch : Branch) →
    Contains paths branch → (k : ℕ) →
    k < length branch + 1 → fails branch k ≡ false
first_index_none fails [] e branch c k h = absurd (contains_none branch c)
first_index_none fails (x ∷ paths) e branch c k h =
    let parts = or_else_none (least (fails x) (length x + 1)) (option_map (λ index. length x + index) (first_index fails paths)) e in
    elim (contains_cases x paths branch c) [
      | inl same ↦ (let here : (j : ℕ) → j < length x + 1 → fails x j ≡ false = least_none (fails x) (length x + 1) parts.0 in
          ap (λ (b : Branch). fails b k) (sym same) ∙ here k (omega (arith, h, ap (λ (b : Branch). length b) same)))
      | inr later ↦ first_index_none fails paths (unmapped_none (λ index. length x + index) (first_index fails paths) parts.1) branch later k h
    ]

-- if a tree isn't broken, no branch of it is
pub none_broken : (d : Domain) (paths : List Branch) → broken_index d paths ≡ None → first_index (is_broken_at d) paths ≡ None
none_broken d [] e = absurd cc
none_broken d (branch ∷ paths) e = e

-- a tree that isn't broken has a branch
pub first_branch : (d : Domain) (paths : List Branch) → broken_index d paths ≡ None → (branch : Branch) × Contains paths branch
first_branch d [] e = absurd cc
first_branch d (branch ∷ paths) e = (branch, contains_here branch paths)

-- what holds for branches that form a tree
pub record AreOfForm (d : Domain) (paths : List Branch) : Type 0 where
  pub known : position (λ name. is_none (node_named d name)) (flat_map (λ branch. branch) paths) ≡ None
  pub whole : broken_index d paths ≡ None
  pub simple : first_index (is_loop_at d) paths ≡ None
  pub together : least (is_stray paths) (length paths) ≡ None

module _ (d : Domain) (paths : List Branch) (g : AreOfForm d paths) where
  -- each name is that of a node
  none_unknown : list_any (λ name. is_none (node_named d name)) (flat_map (λ branch. branch) paths) ≡ false
  none_unknown = sym (position_any (λ name. is_none (node_named d name)) (flat_map (λ branch. branch) paths)) ∙ ap (λ (o : Option ℕ). is_some o) g.known

  -- they are branches of the domain
  pub form_branches : (branch : Branch) → Contains paths branch → IsBranch d branch
  form_branches branch c = is_branch d branch
      (λ name k. none_member (λ n. is_none (node_named d n)) (flat_map (λ b. b) paths) name none_unknown
      (contains_flat (λ b. b) paths branch name c k))
      (first_index_none (is_broken_at d) paths (none_broken d paths g.whole) branch c)
      (first_index_none (is_loop_at d) paths g.simple branch c)

  -- any two of them make a tree
  pub form_trees : (xs ys : Branch) → Contains paths xs → Contains paths ys → MakeATree xs ys
  form_trees = all_make_a_tree paths (λ branch c. no_repeat d branch (form_branches branch c)) (least_none (is_stray paths) (length paths) g.together)

  -- so together they form a tree
  pub form_is_tree : IsTree d (tree_of d paths)
  form_is_tree =
      let one = first_branch d paths g.whole in
      let first = bridge_of_node (node_at d one.0 0) (first_is_bridge d one.0 (form_branches one.0 one.1)) in
      tree_from d paths form_branches form_trees one.0 one.1 first.0 first.1
    where
      bridge_of_node : (o : Option Node) → is_bridge o ≡ true → (bridge : ℕ) × (o ≡ Some (Bridge bridge))
      bridge_of_node None e = absurd cc
      bridge_of_node (Some (Bridge b)) e = (b, refl)
      bridge_of_node (Some (Station s)) e = absurd cc

module _ (d : Domain) (rows : List Row) (asked : Asked) (g : IsGranted d rows asked) where
  -- this holds for the branches of a request that isn't refused
  of_form : AreOfForm d asked.paths
  of_form = record { known = g.known; whole = g.whole; simple = g.simple; together = g.together }

  pub branches : (branch : Branch) → Contains asked.paths branch → IsBranch d branch
  branches = form_branches d asked.paths of_form

  pub trees : (xs ys : Branch) → Contains asked.paths xs → Contains asked.paths ys → MakeATree xs ys
  trees = form_trees d asked.paths of_form

  pub is_tree : IsTree d (tree_of d asked.paths)
  is_tree = form_is_tree d asked.paths of_form

-- the branches of a request that isn't refused are a tree of the domain
pub granted_is_a_tree : GrantedIsATree
granted_is_a_tree d rows asked e = is_tree d rows asked (granted d rows asked e)

-- and the tree has exactly their hops
pub branches_of_tree : TreeIsItsBranches
branches_of_tree d rows asked hop e =
    let g = granted d rows asked e in
    tree_is_branches d asked.paths (branches d rows asked g) (trees d rows asked g) hop

-- the tree fits a row
pub granted_fits_a_row : GrantedFitsARow
granted_fits_a_row d rows asked e =
    omega (arith, (granted d rows asked e).few_hops, min-le_right d.limits.hops 200)

-- a request that isn't refused finds room
pub granted_finds_room : GrantedFindsRoom
granted_finds_room d rows asked e =
    omega (arith, (granted d rows asked e).room, min-le_right d.limits.streams 16384)
