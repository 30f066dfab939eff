-- Lists side by side, with one more list or one more element of one of them.
use Rattle.std.proofs.Common.{◌≡◌, ◌≢◌, ◌∙◌, ◌++◌, ◌∷◌, [], ◌<◌, ◌+◌, ◌-◌, ◌≤◌, ◌⊎◌, ℕ, Bool, true, false, List, filter}
use Rattle.std.proofs.Common.{map, ap, sym, length, refl, arith, get_or, inl, inr, set}
use Rattle.std.specs.Prelude.{◌==◌, if◌then◌else◌}
use Rattle.std.specs.Global.{Global}
use Rattle.std.specs.declared.vec.Vec.{Vec}
use Rattle.std.proofs.lemmas.Bool.{cases_lt, true≢false}
use Rattle.std.proofs.lemmas.Bool.Decides.{nat_tests}
use Rattle.std.proofs.lemmas.List.{append-nil, get_or-append_right, get_or-map, get_or-set_other, get_or-set_same}
use Rattle.std.proofs.lemmas.List.{get_or_append_left, length-append, length-map, length-set, map-append, map-set}
use Rattle.std.proofs.lemmas.List.Elements.{filter-append}
use Rattle.cqf_lists.specs.ByNumber.{AddsTo, AreListsBy, lists_of}

-- with no lists, the count is 0
pub no_lists : {X : Type 0} (reported : ℕ → List X) (lists : List (Vec X Global)) → lists ≡ [] → AreListsBy reported 0 (lists_of lists)
no_lists {X} reported lists none = record {
  one_each = ap (λ (l : List (Vec X Global)). length (lists_of l)) none;
  each = λ k d below. absurd (omega (arith, below));
}

-- one more list: the one of the next number
pub list_more : {X : Type 0} (reported : ℕ → List X) (n : ℕ) (lists after : List (Vec X Global)) (last : Vec X Global) → AreListsBy reported n (lists_of lists) →
    last.items ≡ reported n → after ≡ lists ++ last ∷ [] → AreListsBy reported (n + 1) (lists_of after)
list_more {X} reported n lists after last h is more = record {
  one_each = ap length same ∙ length-append (lists_of lists) (reported n ∷ []) ∙ ap (λ k. k + 1) h.one_each;
  each = λ k none below. ap (λ (l : List (List X)). get_or l k none) same ∙ by k none below (cases_lt k n);
}
  where
    -- the contents of the lists
    same : lists_of after ≡ lists_of lists ++ reported n ∷ []
    same = ap lists_of more ∙ map-append (λ (l : Vec X Global). l.items) lists (last ∷ []) ∙ ap (λ (l : List X). lists_of lists ++ l ∷ []) is

    -- the earlier lists, and the new one
    by : (k : ℕ) (none : List X) → k < n + 1 → (k < n) ⊎ (n ≤ k) → get_or (lists_of lists ++ reported n ∷ []) k none ≡ reported k
    by k none below (inl l) = get_or_append_left (lists_of lists) (reported n ∷ []) none k (omega (arith, l, h.one_each)) ∙ h.each k none l
    by k none below (inr g) =
        let first : k - n ≡ 0 = omega (arith, below) in
        let here : n ≡ k = omega (arith, below, g) in
        get_or-append_right (lists_of lists) (reported n ∷ []) n k none h.one_each g ∙ ap (λ (j : ℕ). get_or (reported n ∷ []) j none) first ∙ ap reported here

-- an element is appended to the list at an index
pub put_to : {X : Type 0} (lists : List (Vec X Global)) (index k : ℕ) (own old d : Vec X Global) (x : X) →
    index ≡ k → index < length lists → old ≡ get_or lists index d → own.items ≡ old.items ++ x ∷ [] →
    AddsTo (lists_of lists) (lists_of (set lists index own)) k x
put_to {X} lists index k own old d x is below at more = record {
  as_many = ap length same ∙ length-set (lists_of lists) index own.items;
  own = λ none.
      ap (λ (zs : List (List X)). get_or zs k none) same
      ∙ ap (λ (j : ℕ). get_or (set (lists_of lists) index own.items) j none) (sym is)
      ∙ get_or-set_same (lists_of lists) index own.items none (omega (arith, below, length-map lists (λ (l : Vec X Global). l.items)))
      ∙ more ∙ ap (λ (v : Vec X Global). v.items ++ x ∷ []) at
      ∙ ap (λ (front : List X). front ++ x ∷ []) (sym (get_or-map (λ (l : Vec X Global). l.items) lists index d none below))
      ∙ ap (λ (j : ℕ). get_or (lists_of lists) j none ++ x ∷ []) is;
  others = λ other none apart.
      ap (λ (zs : List (List X)). get_or zs other none) same
      ∙ get_or-set_other (lists_of lists) index other own.items none (λ e. apart (e ∙ is));
}
  where
    -- the contents of the updated lists
    same : lists_of (set lists index own) ≡ set (lists_of lists) index own.items
    same = map-set (λ (l : Vec X Global). l.items) lists index own

-- the list at a number's index is what the function gives for that number
pub list_there : {X : Type 0} (reported : ℕ → List X) (count : ℕ) (lists : List (Vec X Global)) (k index : ℕ) (list d : Vec X Global) →
    AreListsBy reported count (lists_of lists) → k < count → index ≡ k → list ≡ get_or lists index d → list.items ≡ reported k
list_there {X} reported count lists k index list d are below at there =
    let inside : index < length lists = omega (arith, below, at, are.one_each, length-map lists (λ (l : Vec X Global). l.items)) in
    ap (λ (l : Vec X Global). l.items) there ∙ sym (get_or-map (λ (l : Vec X Global). l.items) lists index d [] inside)
    ∙ ap (λ (j : ℕ). get_or (lists_of lists) j []) at ∙ are.each k [] below

-- what is made of those elements of a list that have a given key
module _ {A X : Type 0} (key : A → ℕ) (made : A → X) where
  -- in the order of the list
  abbrev pub made_by_key : List A → ℕ → List X
  made_by_key xs k = map made (filter (λ (x : A). key x == k) xs)

  -- the results for two parts of a list are concatenated
  pub made-append : (xs ys : List A) (k : ℕ) → made_by_key (xs ++ ys) k ≡ made_by_key xs k ++ made_by_key ys k
  made-append xs ys k =
      ap (map made) (filter-append (λ (x : A). key x == k) xs ys)
      ∙ map-append made (filter (λ (x : A). key x == k) xs) (filter (λ (x : A). key x == k) ys)

  -- an element with that key gives what is made of it
  pub made_here : (x : A) (k : ℕ) → (key x == k) ≡ true → made_by_key (x ∷ []) k ≡ made x ∷ []
  made_here x k e = ap (λ (b : Bool). map made (if b then x ∷ [] else [])) e

  -- an element with another key gives nothing
  pub made_elsewhere : (x : A) (k : ℕ) → (key x == k) ≡ false → made_by_key (x ∷ []) k ≡ []
  made_elsewhere x k e = ap (λ (b : Bool). map made (if b then x ∷ [] else [])) e

  -- a number that isn't equal to an element's key by the test differs from it
  pub apart_from_key : (x : A) (k : ℕ) → (key x == k) ≡ false → k ≢ key x
  apart_from_key x k e same = true≢false (itself (key x) ∙ ap (λ (j : ℕ). key x == j) (sym same) ∙ e)
    where
      -- each number is equal to itself
      itself : (n : ℕ) → true ≡ (n == n)
      itself n = grind (arith, nat_tests)

  -- after the result for one more element was appended to the list of its key, the lists are those of the longer list
  pub listed_by_key : (xs more : List A) (x : A) (count : ℕ) (before after : List (List X)) → more ≡ xs ++ x ∷ [] →
      AddsTo before after (key x) (made x) → AreListsBy (made_by_key xs) count before → AreListsBy (made_by_key more) count after
  listed_by_key xs more x count before after is adds h = record {
    one_each = adds.as_many ∙ h.one_each;
    each = λ k none below. by k none below (key x == k) refl ∙ sym (made-append xs (x ∷ []) k) ∙ ap (λ (ys : List A). made_by_key ys k) (sym is);
  }
    where
      -- the list of its key has it, and the other lists are the same
      by : (k : ℕ) (none : List X) → k < count → (b : Bool) → (key x == k) ≡ b → get_or after k none ≡ made_by_key xs k ++ made_by_key (x ∷ []) k
      by k none below true e =
          let same : k ≡ key x = grind (arith, nat_tests) in
          ap (λ (j : ℕ). get_or after j none) same ∙ adds.own none
          ∙ ap (λ (j : ℕ). get_or before j none ++ made x ∷ []) (sym same)
          ∙ ap (λ (front : List X). front ++ made x ∷ []) (h.each k none below)
          ∙ ap (λ (rest : List X). made_by_key xs k ++ rest) (sym (made_here x k e))
      by k none below false e =
          adds.others k none (apart_from_key x k e) ∙ h.each k none below ∙ sym (append-nil (made_by_key xs k))
          ∙ ap (λ (rest : List X). made_by_key xs k ++ rest) (sym (made_elsewhere x k e))
