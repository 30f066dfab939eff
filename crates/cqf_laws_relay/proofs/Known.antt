-- The rows of a run's first tables, as a link knows them.
use Rattle.std.proofs.Common.{◌≡◌, ℕ, ◌<◌, ◌≤◌, false, List, length, take, refl, sym, ap, ◌∙◌, subst, arith, Contains, eqb-true, eq-eqb}
use Rattle.std.specs.Prelude.{[], ◌==◌, Option, Some, None}
use Rattle.std.specs.List.{list_any}
use Rattle.std.proofs.lemmas.List.{get_or-take, length-take-le}
use Rattle.std.proofs.lemmas.List.Elements.{Contains-get_or}
use Rattle.std.proofs.lemmas.Option.{get_or_from_slice_get}
use Rattle.cqf_lists.proofs.Any.{none_member}
use Rattle.cqf_lists.proofs.Members.{contains_flat, contains_from_flat, contains_from_take, find_member, find_some, index_of_member}
use Rattle.cqf_model.specs.declared.topology.Row.{Row}
use Rattle.cqf_model.specs.Domain.{Domain}
use Rattle.cqf_model.specs.Table.{AreOrderly, goes_to, row_of, table_of}
use Rattle.cqf_model.specs.Policing.{Relayed}
use Rattle.cqf_laws_instants.specs.QueueLaws.{goes_with}
use Rattle.cqf_relay.specs.declared.leads.By.TheVariants as ingress
use Rattle.cqf_relay.specs.Leading.{by_hops, by_row, leads, same_by}
use Rattle.cqf_relay.specs.Standing.{rows_of}
use Rattle.cqf_laws_relay.proofs.Ingresses.{by_tree}

module _ (tables : List (List Row)) (count : ℕ) (within : count ≤ length tables) where
  -- the rows that have arrived
  abbrev pub known : List Row
  known = rows_of tables count

  -- a row that a link knows is in some table
  pub in_some_table : (row : Row) → Contains known row → (cycle : ℕ) × Contains (table_of tables cycle) row
  in_some_table row c =
      let w = contains_from_flat (λ (table : List Row). table) (take count tables) row c in
      let index = index_of_member tables w.0 (contains_from_take tables count w.0 w.1) in (
        index.0,
        subst (λ (table : List Row). Contains table row) (sym (get_or_from_slice_get tables index.0 w.0 [] index.1)) w.2,
      )

  -- and each row of a table that has arrived is known
  pub is_known : (cycle : ℕ) (row : Row) → cycle < count → Contains (table_of tables cycle) row → Contains known row
  is_known cycle row come c =
      contains_flat (λ (table : List Row). table) (take count tables) (table_of tables cycle) row
      (subst (Contains (take count tables)) (get_or-take count tables cycle [] come)
      (Contains-get_or (take count tables) cycle [] (omega (arith, come, length-take-le count tables within))))
      c

  -- one of its number is found
  pub number_known : (cycle : ℕ) (row : Row) → cycle < count → Contains (table_of tables cycle) row → (other : Row) × (row_of known row.no ≡ Some other)
  number_known cycle row come c =
      find_some (λ (other : Row). other.no == row.no) known row (is_known cycle row come c) (eq-eqb row.no row.no refl)

  -- if no row leads on from a link to another, none of a number does
  pub none_leads : (m l number : ℕ) → leads known m l ≡ false → goes_with l (Relayed m number) (row_of known number) ≡ false
  none_leads m l number none = by_row (row_of known number) refl
    where
      by_row : (found : Option Row) → row_of known number ≡ found → goes_with l (Relayed m number) found ≡ false
      by_row None is = refl
      by_row (Some row) is =
          none_member (λ (other : Row). list_any (λ next. next == l) (goes_to other (Some m))) known row none
          (find_member (λ (other : Row). other.no == number) known row is).0

  module _ (d : Domain) (orderly : AreOrderly d tables) where
    -- how a link knows that frames arrive is how one of their tables has it
    pub known_tree : (l cycle : ℕ) (row : Row) → cycle < count → Contains (table_of tables cycle) row →
        by_row l (row_of known row.no) ≡ by_hops l row.tree.items
    known_tree l cycle row come c =
        let w = number_known cycle row come c in
        let member = find_member (λ (other : Row). other.no == row.no) known w.0 w.1 in
        let there = in_some_table w.0 member.0 in
        let same = orderly.one_stream cycle there.0 row w.0 c there.1 (sym (eqb-true w.0.no row.no member.1)) in
        ap (by_row l) w.1 ∙ ap (by_hops l) (sym same.tree)

    -- and so a frame of a link goes on if the tree of the known row says so
    pub goes_as_known : (l m number : ℕ) → same_by (by_row l (row_of known number)) (ingress.Link m) ≡ goes_with l (Relayed m number) (row_of known number)
    goes_as_known l m number = by_found (row_of known number) refl
      where
        by_found : (found : Option Row) → row_of known number ≡ found → same_by (by_row l found) (ingress.Link m) ≡ goes_with l (Relayed m number) found
        by_found None is = refl
        by_found (Some row) is =
            let there = in_some_table row (find_member (λ (other : Row). other.no == number) known row is).0 in
            by_tree l (Some m) d row.tree.items (orderly.trees there.0 row there.1)
