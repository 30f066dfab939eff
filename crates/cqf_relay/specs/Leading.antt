-- The rows that lead to a link.
use Rattle.std.specs.Prelude.{ℕ, ◌≡◌, ◌-◌, ◌++◌, ◌==◌, ◌||◌, Bool, true, false, if◌then◌else◌, List, [], ◌∷◌, Option, Some, None, length, replicate, slice_index_or}
use Rattle.std.specs.List.{list_any}
use Rattle.cqf_model.specs.declared.topology.Hop.{Hop}
use Rattle.cqf_model.specs.declared.topology.Row.{Row}
use Rattle.cqf_model.specs.Table.{goes_to}
use Rattle.cqf_relay.specs.declared.leads.By.{By}
use Rattle.cqf_relay.specs.declared.leads.By.TheVariants.{Nothing, Edge, Link}
use Rattle.cqf_relay.specs.declared.leads.Leads.{Leads}

-- whether a row of a table leads from link m to link l: l follows m in the row's tree
abbrev pub leads : List Row → ℕ → ℕ → Bool
leads table m l = list_any (λ (row : Row). list_any (λ next. next == l) (goes_to row (Some m))) table

-- how frames arrive, by the link before a hop, if there is one
abbrev pub by_ingress : Option ℕ → By
by_ingress None = Edge
by_ingress (Some m) = Link m

-- how the frames that go on by a link arrive, by the first hop of their row's tree that has this link
abbrev pub by_hops : ℕ → List Hop → By
by_hops l [] = Nothing
by_hops l (hop ∷ hops) = if hop.link == l then by_ingress hop.from else by_hops l hops

-- how the frames that go on by a link arrive, by their row, if there is one
abbrev pub by_row : ℕ → Option Row → By
by_row l None = Nothing
by_row l (Some row) = by_hops l row.tree.items

-- whether frames arrive in the same way
abbrev pub same_by : By → By → Bool
same_by Nothing Nothing = true
same_by Nothing Edge = false
same_by Nothing (Link m) = false
same_by Edge Nothing = false
same_by Edge Edge = true
same_by Edge (Link m) = false
same_by (Link k) Nothing = false
same_by (Link k) Edge = false
same_by (Link k) (Link m) = k == m

-- what a link knows of the row of a number
abbrev pub by_at : List By → ℕ → By
by_at rows number = slice_index_or rows number Nothing

-- whether the frames arrive by link m, so that this link is needed; and whether they arrive at all
abbrev pub is_link : By → ℕ → Bool
is_link Nothing m = false
is_link Edge m = false
is_link (Link k) m = k == m

abbrev pub is_some : By → Bool
is_some Nothing = false
is_some Edge = true
is_some (Link m) = true

-- a row is learned after the known ones, and no row in between leads to the link
pub record LearnsRow (number : ℕ) (by : By) (before after : Leads) : Type 0 where
  pub rows : after.rows.items ≡ before.rows.items ++ replicate (number - length before.rows.items) Nothing ++ by ∷ []
  pub needs : (m : ℕ) → list_any (λ it. it == m) after.needs.items ≡ (list_any (λ it. it == m) before.needs.items || is_link by m)
  pub used : after.used ≡ (before.used || is_some by)
