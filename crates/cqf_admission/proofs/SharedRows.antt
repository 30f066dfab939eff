-- Rows whose first part is found by the numbers of their names.
use Rattle.std.proofs.Common.{◌≡◌, ◌≢◌, ◌∙◌, ◌++◌, ◌+◌, ◌<◌, ℕ, All, Bool, true, false, cond, List, [], ◌∷◌, Option, Some, None, map}
use Rattle.std.proofs.Common.{take, drop, length, get_or, refl, ap, sym, subst, arith, inl, inr}
use Rattle.std.specs.Prelude.{AllPairs, Contains, find, suc, zero}
use Rattle.std.specs.BTreeMap.{BTreeMap, UpdatesBy}
use Rattle.std.specs.Cmp.Lexicographic.{slice_cmp}
use Rattle.std.specs.Ordering.{nat_cmp}
use Rattle.std.proofs.lemmas.Bool.{cases_Bool}
use Rattle.std.proofs.lemmas.List.{take-append-drop, take_more}
use Rattle.std.proofs.lemmas.List.Elements.{All-contains, Contains-append_cases, Contains-append_right}
use Rattle.std.proofs.lemmas.Option.{none-some, same_Some}
use Rattle.cqf_lists.proofs.Members.{all_from_members, contains_here, contains_one, find_member, find_some}
use Rattle.cqf_lists.proofs.Pairs.{pairs_across}
use Rattle.cqf_model.proofs.Texts.{is_text_itself, is_text_same}
use Rattle.cqf_model.specs.declared.topology.Row.{Row}
use Rattle.cqf_model.specs.Domain.{is_text}
use Rattle.cqf_model.specs.Table.{row_named, row_of}
use Rattle.cqf_admission.specs.Numbers.{AreNumbered, IsNumbered, if_named, number_in, row_numbered, row_with}
use Rattle.cqf_admission.specs.Tables.{AreInOrder}
use Rattle.cqf_admission.proofs.Figures.{others_stay}
use Rattle.cqf_admission.proofs.TableLemmas.{the_row_named, the_row_of}

module _ {X : Type 0} (row_in : X → Row) (test : Row → Bool) where
  -- a row that passes, after rows that don't, is the one that is found
  pub found_next : (xs : List X) (k : ℕ) (x : X) → k < length xs → x ≡ get_or xs k x → find test (take k (map row_in xs)) ≡ None →
      test (row_in x) ≡ true → Some (row_in x) ≡ find test (map row_in xs)
  found_next [] k x below is none passes = absurd (omega (arith, below))
  found_next (y ∷ xs) zero x below is none passes =
      ap (λ (z : X). Some (row_in z)) is
      ∙ sym (ap (λ (b : Bool). cond b (Some (row_in y)) (find test (map row_in xs))) (ap (λ (z : X). test (row_in z)) (sym is) ∙ passes))
  found_next (y ∷ xs) (suc k) x below is none passes = elim (cases_Bool (test (row_in y))) [
    | inl t ↦ absurd (none-some (row_in y) (sym none ∙ ap (λ (b : Bool). cond b (Some (row_in y)) (find test (take k (map row_in xs)))) t))
    | inr f ↦
        found_next xs k x (omega (arith, below)) is
        (sym (ap (λ (b : Bool). cond b (Some (row_in y)) (find test (take k (map row_in xs)))) f) ∙ none) passes
        ∙ sym (ap (λ (b : Bool). cond b (Some (row_in y)) (find test (map row_in xs))) f)
  ]

  -- with one more that doesn't pass, none is found
  none_more : (xs : List X) (k : ℕ) (x : X) → k < length xs → x ≡ get_or xs k x → find test (take k (map row_in xs)) ≡ None →
      test (row_in x) ≡ false → find test (take (suc k) (map row_in xs)) ≡ None
  none_more [] k x below is none fails = absurd (omega (arith, below))
  none_more (y ∷ xs) zero x below is none fails =
      ap (λ (b : Bool). cond b (Some (row_in y)) None) (ap (λ (z : X). test (row_in z)) (sym is) ∙ fails)
  none_more (y ∷ xs) (suc k) x below is none fails = elim (cases_Bool (test (row_in y))) [
    | inl t ↦ absurd (none-some (row_in y) (sym none ∙ ap (λ (b : Bool). cond b (Some (row_in y)) (find test (take k (map row_in xs)))) t))
    | inr f ↦
        ap (λ (b : Bool). cond b (Some (row_in y)) (find test (take (suc k) (map row_in xs)))) f
        ∙ none_more xs k x (omega (arith, below)) is
        (sym (ap (λ (b : Bool). cond b (Some (row_in y)) (find test (take k (map row_in xs)))) f) ∙ none) fails
  ]

  pub none_next : (xs : List X) (k next : ℕ) (x : X) → next ≡ suc k → k < length xs → x ≡ get_or xs k x → find test (take k (map row_in xs)) ≡ None →
      test (row_in x) ≡ false → find test (take next (map row_in xs)) ≡ None
  none_next xs k next x e below is none fails =
      subst (λ (n : ℕ). find test (take n (map row_in xs)) ≡ None) (sym e) (none_more xs k x below is none fails)

-- a row that has the name is found by it
if_named_same : (name : List ℕ) (row : Row) → row.name ≡ name → if_named name (Some row) ≡ Some row
if_named_same name row e =
    ap (λ (b : Bool). cond b (Some row) None) (ap (λ (n : List ℕ). is_text n name) e ∙ is_text_itself name)

-- a row found by the name has it
if_named_is : (name : List ℕ) (found : Option Row) (row : Row) → if_named name found ≡ Some row → (found ≡ Some row) × (row.name ≡ name)
if_named_is name None row e = absurd (none-some row e)
if_named_is name (Some other) row e = elim (cases_Bool (is_text other.name name)) [
  | inl same ↦
      let is : other ≡ row = same_Some other row (sym (ap (λ (b : Bool). cond b (Some other) None) same) ∙ e) in
      (ap (λ (r : Row). Some r) is, ap (λ (r : Row). r.name) (sym is) ∙ is_text_same other.name name same)
  | inr differs ↦ absurd (none-some row (sym (ap (λ (b : Bool). cond b (Some other) None) differs) ∙ e))
]

module _ (rows : List Row) (list : List (List ℕ × ℕ)) (name : List ℕ) (order : AreInOrder rows) where
  -- a row with a name's number that has the name is the row of the name
  led_to : (row : Row) (number : Option ℕ) → row_with rows name number ≡ Some row → row_named rows name ≡ Some row
  led_to row None e = absurd (none-some row e)
  led_to row (Some number) e =
      let w = if_named_is name (row_of rows number) row e in
      (the_row_named rows name order row).1 (((the_row_of rows number order row).0 w.0).0, w.1)

  pub numbered_is_named : (row : Row) → row_numbered rows list name ≡ Some row → row_named rows name ≡ Some row
  numbered_is_named row e = led_to row (number_in list name) e

  -- a row that is found by the number of its name is found so
  leads_to : (row : Row) → row_named rows name ≡ Some row → IsNumbered list row → row_numbered rows list name ≡ Some row
  leads_to row found is =
      let w = (the_row_named rows name order row).0 found in
      let number : number_in list name ≡ Some row.no = ap (number_in list) (sym w.1) ∙ is in
      ap (row_with rows name) number ∙ ap (if_named name) ((the_row_of rows row.no order row).1 (w.0, refl)) ∙ if_named_same name row w.1

  module _ (numbered : ℕ) (known : AreNumbered list numbered rows) (none : row_numbered rows list name ≡ None) where
    -- a row of the name among the last rows is the row of the name
    named_after : (row : Row) → row_named (drop numbered rows) name ≡ Some row → row_named rows name ≡ Some row
    named_after row e =
        let w = find_member (λ (r : Row). is_text r.name name) (drop numbered rows) row e in
        let there : Contains rows row = subst (λ (rs : List Row). Contains rs row) (take-append-drop numbered rows)
        (Contains-append_right (take numbered rows) (drop numbered rows) row w.0) in
        (the_row_named rows name order row).1 (there, is_text_same row.name name w.1)

    -- if the number of a name leads nowhere, the row of the name is one of the last
    is_after : (row : Row) → row_named rows name ≡ Some row → Contains (drop numbered rows) row
    is_after row found =
        let w = (the_row_named rows name order row).0 found in
        let parts : Contains (take numbered rows ++ drop numbered rows) row =
        subst (λ (rs : List Row). Contains rs row) (sym (take-append-drop numbered rows)) w.0 in
        elim (Contains-append_cases (take numbered rows) (drop numbered rows) row parts) [
          | inl before ↦
              let is : IsNumbered list row = All-contains (IsNumbered list) (take numbered rows) row known.each before in
              absurd (none-some row (sym none ∙ leads_to row found is))
          | inr following ↦ following
        ]

    -- so it is found among these
    found_after : (row : Row) → row_named rows name ≡ Some row → row_named (drop numbered rows) name ≡ Some row
    found_after row found =
        let test = ap (λ (n : List ℕ). is_text n name) ((the_row_named rows name order row).0 found).1 ∙ is_text_itself name in
        let s = find_some (λ (r : Row). is_text r.name name) (drop numbered rows) row (is_after row found) test in
        let same : s.0 ≡ row = same_Some s.0 row (sym (named_after s.0 s.1) ∙ found) in
        s.1 ∙ ap (λ (r : Row). Some r) same

    -- if the number of a name leads nowhere, the row of the name is the one among the last rows
    pub named_among_last : row_named (drop numbered rows) name ≡ row_named rows name
    named_among_last = at (row_named rows name) refl (row_named (drop numbered rows) name) refl
      where
        at : (found : Option Row) → row_named rows name ≡ found → (last : Option Row) → row_named (drop numbered rows) name ≡ last →
            row_named (drop numbered rows) name ≡ found
        at None e None f = f
        at None e (Some row) f = absurd (none-some row (sym e ∙ named_after row f))
        at (Some row) e last f = found_after row e

-- the element at an index is among those from the index on
following : (rows : List Row) (k : ℕ) (row : Row) → k < length rows → row ≡ get_or rows k row → Contains (drop k rows) row
following [] k row low is = absurd (omega (arith, low))
following (x ∷ rows) zero row low is = subst (Contains (x ∷ rows)) (sym is) (contains_here x rows)
following (x ∷ rows) (suc k) row low is = following rows k row (omega (arith, low)) is

-- storing a row's number under its name makes one more row numbered
pub one_numbered : (before after : BTreeMap (List ℕ) ℕ) (k : ℕ) (rows : List Row) (row : Row) → AllPairs (λ (a b : Row). a.name ≢ b.name) rows →
    k < length rows → row ≡ get_or rows k row → UpdatesBy (slice_cmp nat_cmp) (slice_cmp nat_cmp row.name) before after (Some row.no) →
    AreNumbered before.entries k rows → AreNumbered after.entries (k + 1) rows
one_numbered before after k rows row pairs low is by known = record {
  within = omega (arith, low);
  each = subst (All (IsNumbered after.entries)) (sym grown) (all_from_members (IsNumbered after.entries) (take k rows ++ row ∷ []) numbered);
}
  where
    grown : take (k + 1) rows ≡ take k rows ++ row ∷ []
    grown = take_more rows k row low ∙ ap (λ (r : Row). take k rows ++ r ∷ []) (sym is)

    differs : (other : Row) → Contains (take k rows) other → other.name ≢ row.name
    differs other earlier =
        pairs_across (λ (a b : Row). a.name ≢ b.name) (take k rows) (drop k rows) other row
        (subst (AllPairs (λ (a b : Row). a.name ≢ b.name)) (sym (take-append-drop k rows)) pairs) earlier (following rows k row low is)

    numbered : (other : Row) → Contains (take k rows ++ row ∷ []) other → IsNumbered after.entries other
    numbered other among = elim (Contains-append_cases (take k rows) (row ∷ []) other among) [
      | inl earlier ↦
          others_stay before after row.name (Some row.no) by other.name (differs other earlier)
          ∙ All-contains (IsNumbered before.entries) (take k rows) other known.each earlier
      | inr new ↦ subst (IsNumbered after.entries) (contains_one row other new) by.1
    ]
