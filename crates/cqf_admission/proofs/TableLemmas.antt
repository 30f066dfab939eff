-- The row that is found by name or by number is the only one.
use Rattle.std.proofs.Common.{◌≡◌, ◌≢◌, ℕ, ◌<◌, Bool, true, cond, List, Option, Some, None, Result, Ok, Err, [], ◌∷◌}
use Rattle.std.proofs.Common.{◌==◌, get_or, length, map, ap, refl, subst, ◌∙◌, sym, arith, inl, inr}
use Rattle.std.specs.declared.cmp.Ordering.TheVariants.{Equal, Greater, Less}
use Rattle.std.specs.List.Sorted.{IsBinarySearchResult, IsNonDecreasingBy, IsSearchInRange}
use Rattle.std.specs.Ordering.{nat_cmp, ordering_index}
use Rattle.std.specs.Prelude.{AllPairs, Contains, MatchResult, find, nat_lt, suc}
use Rattle.std.proofs.lemmas.Bool.{both_ways, cases_Bool, cases_lt, eq-eqb, eqb-true, leb-true}
use Rattle.std.proofs.lemmas.Bool.Decides.{nat_tests}
use Rattle.std.proofs.lemmas.Cmp.{ranked}
use Rattle.std.proofs.lemmas.List.{get_or-map, length-map}
use Rattle.std.proofs.lemmas.List.Elements.{All-map, Contains-get_or}
use Rattle.std.proofs.lemmas.Option.{get_or_from_slice_get, slice_get_within}
use Rattle.cqf_lists.proofs.Members.{contains_cases, contains_from_map, contains_map, contains_none, find_member, index_of_member}
use Rattle.cqf_lists.proofs.Pairs.{pairs_head, pairs_tail}
use Rattle.cqf_model.proofs.Texts.{is_text_itself, is_text_same}
use Rattle.cqf_model.specs.declared.topology.Hop.{Hop}
use Rattle.cqf_model.specs.declared.topology.Row.{Row}
use Rattle.cqf_model.specs.Domain.{Domain, is_text}
use Rattle.cqf_model.specs.Table.{row_named, row_of}
use Rattle.cqf_admission.specs.Tables.{AreAlongLinks, AreInOrder, AreTrees, IsRowNamed, IsRowOf}

-- an element that passes is found, if no two pass
find_only : (test : Row → Bool) (R : Row → Row → Type 0) → ((a b : Row) → test a ≡ true → test b ≡ true → R a b → ⊥) → (rows : List Row) (row : Row) →
    AllPairs R rows → Contains rows row → test row ≡ true → find test rows ≡ Some row
find_only test R apart [] row pairs c t = absurd (contains_none row c)
find_only test R apart (x ∷ rows) row pairs c t = elim (cases_Bool (test x)) [
  | inl u ↦ ap (λ (b : Bool). cond b (Some x) (find test rows)) u ∙ elim (contains_cases x rows row c) [
    | inl e ↦ ap (λ (r : Row). Some r) e
    | inr k ↦ absurd (apart x row u t (pairs_head R x rows row pairs k))
  ]
  | inr f ↦ ap (λ (b : Bool). cond b (Some x) (find test rows)) f ∙ elim (contains_cases x rows row c) [
    | inl e ↦ absurd (both_ways (test x) f (ap test e ∙ t))
    | inr k ↦ find_only test R apart rows row (pairs_tail R x rows pairs) k t
  ]
]

-- in a table in order the row with a name is the only one
pub the_row_named : (rows : List Row) (name : List ℕ) → AreInOrder rows → IsRowNamed rows name (row_named rows name)
the_row_named rows name order row = (
  λ e. let w = find_member (λ (r : Row). is_text r.name name) rows row e in (w.0, is_text_same row.name name w.1),
  λ w.
      find_only (λ (r : Row). is_text r.name name) (λ (a b : Row). a.name ≢ b.name)
      (λ a b t u other. other (is_text_same a.name name t ∙ sym (is_text_same b.name name u))) rows row order.names w.0
      (ap (λ (n : List ℕ). is_text n name) w.1 ∙ is_text_itself name),
)

-- so is the row with a number
pub the_row_of : (rows : List Row) (number : ℕ) → AreInOrder rows → IsRowOf rows number (row_of rows number)
the_row_of rows number order row = (
  λ e. let w = find_member (λ (r : Row). r.no == number) rows row e in (w.0, eqb-true row.no number w.1),
  λ w.
      find_only (λ (r : Row). r.no == number) (λ (a b : Row). a.no < b.no)
      (λ a b t u less. absurd (omega (arith, less, eqb-true a.no number t, eqb-true b.no number u))) rows row order.numbers w.0 (eq-eqb row.no number w.1),
)

-- elements that have a row each, in the order of the rows' numbers
module _ {X : Type 0} (row_in : X → Row) (xs : List X) (number : ℕ) (order : AreInOrder (map row_in xs)) where
  -- the comparisons of each with a number ascend, as a search requires
  numbers_rise : IsNonDecreasingBy (λ (x : X). ordering_index (nat_cmp (row_in x).no number)) xs
  numbers_rise i j d le below = elim (cases_lt i j) [
    | inl less ↦
        let inside : j < length (map row_in xs) = omega (arith, below, length-map xs row_in) in
        let one : get_or (map row_in xs) i (row_in d) ≡ row_in (get_or xs i d) = get_or-map row_in xs i d (row_in d) (omega (arith, less, below)) in
        let other : get_or (map row_in xs) j (row_in d) ≡ row_in (get_or xs j d) = get_or-map row_in xs j d (row_in d) below in
        let up : (row_in (get_or xs i d)).no < (row_in (get_or xs j d)).no = rw (sym one, sym other) (order.numbers i j (row_in d) less inside) in
        grind (arith, nat_tests)
    | inr same ↦
        let e : i ≡ j = omega (arith, le, same) in
        omega (arith, ap (λ (k : ℕ). ordering_index (nat_cmp (row_in (get_or xs k d)).no number)) e)
  ]

  -- an element found by a search by number has the row with the number; if none is found, there is none
  pub searched : (r : Result ℕ ℕ) → IsSearchInRange r (length xs) → IsBinarySearchResult (λ (x : X). nat_cmp (row_in x).no number) xs r →
      MatchResult r (λ i. (x : X) → x ≡ get_or xs i x → Some (row_in x) ≡ row_of (map row_in xs) number) (λ i. None ≡ row_of (map row_in xs) number)
  searched (Ok i) inside equal = λ x is.
      let held : Contains xs x = subst (Contains xs) (sym is) (Contains-get_or xs i x inside) in
      let same : (row_in (get_or xs i x)).no ≡ number = ranked (row_in (get_or xs i x)).no number Equal (sym (equal x)) in
      sym ((the_row_of (map row_in xs) number order (row_in x)).1 (contains_map row_in xs x held, ap (λ (y : X). (row_in y).no) is ∙ same))
  searched (Err i) inside parted = none (row_of (map row_in xs) number) refl
    where
      -- no element with the number is before the index or from it on
      nowhere : (x : X) → Contains xs x → (row_in x).no ≡ number → ⊥
      nowhere x held of_number =
          let p = index_of_member xs x held in
          let there : get_or xs p.0 x ≡ x = get_or_from_slice_get xs p.0 x x p.1 in
          let is : (row_in (get_or xs p.0 x)).no ≡ number = ap (λ (y : X). (row_in y).no) there ∙ of_number in
          elim (cases_lt p.0 i) [
            | inl before ↦
                let less : (row_in (get_or xs p.0 x)).no < number =
                ranked (row_in (get_or xs p.0 x)).no number Less (sym ((parted numbers_rise).0 p.0 x (omega arith) before)) in
                absurd (omega (arith, less, is))
            | inr following ↦
                let more : number < (row_in (get_or xs p.0 x)).no =
                ranked (row_in (get_or xs p.0 x)).no number Greater (sym ((parted numbers_rise).1 p.0 x following (slice_get_within xs p.0 x p.1))) in
                absurd (omega (arith, more, is))
          ]

      none : (found : Option Row) → row_of (map row_in xs) number ≡ found → None ≡ row_of (map row_in xs) number
      none None e = sym e
      none (Some row) e =
          let w = (the_row_of (map row_in xs) number order row).0 e in
          let p = contains_from_map row_in xs row w.0 in
          absurd (nowhere p.0 p.1 (ap (λ (r : Row). r.no) p.2 ∙ w.1))

-- the element at an index whose row has a number has the row with this number
pub row_at : {X : Type 0} (row_in : X → Row) (xs : List X) (number : ℕ) (order : AreInOrder (map row_in xs)) (index : ℕ) (x : X) →
    true ≡ nat_lt index (length xs) → x ≡ get_or xs index x → (row_in x).no ≡ number → row_of (map row_in xs) number ≡ Some (row_in x)
row_at row_in xs number order index x inside there is =
    let held = subst (Contains xs) (sym there) (Contains-get_or xs index x (leb-true (suc index) (length xs) (sym inside))) in
    (the_row_of (map row_in xs) number order (row_in x)).1 (contains_map row_in xs x held, is)

-- trees of the domain use its links
pub trees_go_along_links : (d : Domain) (rows : List Row) → AreTrees d rows → AreAlongLinks d rows
trees_go_along_links d rows trees row c = All-map (λ l. l < length d.links) (λ (hop : Hop). hop.link) row.tree.items (trees row c).inside
