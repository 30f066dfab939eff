-- The first tables of an orderly run are orderly.
use Rattle.std.proofs.Common.{◌≡◌, ◌≢◌, ℕ, ◌<◌, ◌≤◌, ◌⊎◌, List, length, sym, inl, inr, arith, subst, AllPairs, Contains}
use Rattle.std.specs.Prelude.{[], take}
use Rattle.std.proofs.lemmas.Bool.{cases_lt}
use Rattle.std.proofs.lemmas.List.{get_or-take, get_or_past, length-take-le}
use Rattle.cqf_lists.proofs.Members.{contains_none}
use Rattle.cqf_lists.proofs.Pairs.{pairs_none}
use Rattle.cqf_model.specs.declared.topology.Row.{Row}
use Rattle.cqf_model.specs.Domain.{Domain, budget}
use Rattle.cqf_model.specs.Table.{AreOrderly, link_cost, table_of}

module _ (tables : List (List Row)) (count : ℕ) (some : count ≤ length tables) where
  -- how many tables there are
  pub count_taken : length (take count tables) ≡ count
  count_taken = length-take-le count tables some

  -- the table of a cycle is the same, or there is none
  taken : (cycle : ℕ) → (table_of (take count tables) cycle ≡ table_of tables cycle) ⊎ (table_of (take count tables) cycle ≡ [])
  taken cycle = elim (cases_lt cycle count) [
    | inl l ↦ inl (get_or-take count tables cycle [] l)
    | inr g ↦ inr (get_or_past (take count tables) cycle [] (omega (arith, g, count_taken)))
  ]

  -- so a row of it is one of the same cycle
  row_taken : (cycle : ℕ) (row : Row) → Contains (table_of (take count tables) cycle) row → Contains (table_of tables cycle) row
  row_taken cycle row h = elim (taken cycle) [
    | inl e ↦ subst (λ (table : List Row). Contains table row) e h
    | inr e ↦ absurd (contains_none row (subst (λ (table : List Row). Contains table row) e h))
  ]

  -- and pairs of rows are those of the same cycle
  pairs_taken : (R : Row → Row → Type 0) (cycle : ℕ) → AllPairs R (table_of tables cycle) → AllPairs R (table_of (take count tables) cycle)
  pairs_taken R cycle h = elim (taken cycle) [
    | inl e ↦ subst (AllPairs R) (sym e) h
    | inr e ↦ subst (AllPairs R) (sym e) (pairs_none R)
  ]

  -- what a link has to carry is no more
  load_taken : (d : Domain) (cycle l active_cycle : ℕ) → link_cost (table_of tables cycle) l active_cycle ≤ budget d l →
      link_cost (table_of (take count tables) cycle) l active_cycle ≤ budget d l
  load_taken d cycle l active_cycle h = elim (taken cycle) [
    | inl e ↦ subst (λ (table : List Row). link_cost table l active_cycle ≤ budget d l) (sym e) h
    | inr e ↦ let none : 0 ≤ budget d l = omega arith in subst (λ (table : List Row). link_cost table l active_cycle ≤ budget d l) (sym e) none
  ]

  -- the tables are orderly
  pub orderly_taken : (d : Domain) → AreOrderly d tables → AreOrderly d (take count tables)
  orderly_taken d orderly = record {
    trees = λ cycle row h. orderly.trees cycle row (row_taken cycle row h);
    numbers = λ cycle. pairs_taken (λ (a b : Row). a.no ≢ b.no) cycle (orderly.numbers cycle);
    names = λ cycle. pairs_taken (λ (a b : Row). a.name ≢ b.name) cycle (orderly.names cycle);
    one_stream = λ cycle later early late h k. orderly.one_stream cycle later early late (row_taken cycle early h) (row_taken later late k);
    stays = λ cycle later row h live from upto within.
        let before : later < count = omega (arith, within, count_taken) in
        let w = orderly.stays cycle later row (row_taken cycle row h) live from upto (omega (arith, before, some)) in
        (w.0, subst (λ (table : List Row). Contains table w.0) (sym (get_or-take count tables later [] before)) w.1, w.2);
    loads = λ cycle l active_cycle is_link. load_taken d cycle l active_cycle (orderly.loads cycle l active_cycle is_link);
    overheads = λ cycle row h. orderly.overheads cycle row (row_taken cycle row h);
  }
