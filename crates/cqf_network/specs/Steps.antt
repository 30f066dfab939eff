-- Paths by numbered steps, over nodes of any type: where steps lead, and the first path into a set.
use Rattle.std.specs.Prelude.{ℕ, ◌≡◌, ◌≤◌, Bool, true, false, ◌==◌, if◌then◌else◌, nat_lt, List, [], ◌∷◌, length, Option, Some, option_and_then}

-- where a list of steps leads from a node, if each step can be taken
abbrev pub led_along : {N : Type 0} → (N → ℕ → Option N) → N → List ℕ → Option N
led_along next node [] = Some node
led_along next node (step ∷ path) = option_and_then (λ end. led_along next end path) (next node step)

-- whether the first of two paths of one length comes before the second: its step has the lower number where they first
-- differ
abbrev pub is_before : List ℕ → List ℕ → Bool
is_before [] other = false
is_before (step ∷ path) [] = false
is_before (step ∷ path) (first ∷ other) = if step == first then is_before path other else nat_lt step first

-- a step leads from a node into a set
pub record LeadsInto {N : Type 0} (next : N → ℕ → Option N) (ends : N → Bool) (node : N) (step : ℕ) (end : N) : Type 0 where
  pub leads : next node step ≡ Some end
  pub inside : ends end ≡ true

-- some step leads from the node into the set
pub record SomeLeadsInto {N : Type 0} (next : N → ℕ → Option N) (ends : N → Bool) (node : N) : Type 0 where
  pub step : ℕ
  pub end : N
  pub leads : LeadsInto next ends node step end

-- the step with the lowest number that leads from the node into the set
pub record IsFirstStep {N : Type 0} (next : N → ℕ → Option N) (ends : N → Bool) (node : N) (step : ℕ) (end : N) : Type 0 where
  pub leads : LeadsInto next ends node step end
  pub least : (other : ℕ) (there : N) → LeadsInto next ends node other there → step ≤ other

-- the set `before` has exactly the nodes from which some step leads into the set `ends`
pub record AreBefore {N : Type 0} (next : N → ℕ → Option N) (ends before : N → Bool) : Type 0 where
  pub leads : (node : N) → before node ≡ true → SomeLeadsInto next ends node
  pub all : (node : N) → SomeLeadsInto next ends node → before node ≡ true

-- a path leads from a node into a set
pub record PathInto {N : Type 0} (next : N → ℕ → Option N) (ends : N → Bool) (from : N) (path : List ℕ) (end : N) : Type 0 where
  pub leads : led_along next from path ≡ Some end
  pub inside : ends end ≡ true

-- the first path from a node into a set: no other is shorter, and none of the same length comes before it
pub record IsFirstInto {N : Type 0} (next : N → ℕ → Option N) (ends : N → Bool) (from : N) (path : List ℕ) (end : N) : Type 0 where
  pub into : PathInto next ends from path end
  pub shortest : (other : List ℕ) (there : N) → PathInto next ends from other there → length path ≤ length other
  pub least : (other : List ℕ) (there : N) → PathInto next ends from other there → length other ≡ length path → is_before other path ≡ false

-- no step leads from the node into the set; and no path of at most `most` steps does
abbrev pub NoneLeadsInto : {N : Type 0} → (N → ℕ → Option N) → (N → Bool) → N → Type 0
NoneLeadsInto {N} next ends node = (step : ℕ) (end : N) → ¬ LeadsInto next ends node step end

abbrev pub NoneInto : {N : Type 0} → (N → ℕ → Option N) → (N → Bool) → N → ℕ → Type 0
NoneInto {N} next ends from most = (path : List ℕ) (end : N) → length path ≤ most → ¬ PathInto next ends from path end
