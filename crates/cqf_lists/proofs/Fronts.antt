-- A list as a front and a rest whose elements have a property.
use Rattle.std.proofs.Common.{◌≡◌, ℕ, zero, suc, ◌<◌, ◌≤◌, ◌++◌, [], List, Bool, true, false, filter, inl, inr, sym, ap, ◌∙◌, arith, append_assoc, append-nil}
use Rattle.std.proofs.Common.{Contains}
use Rattle.std.proofs.lemmas.Bool.{cases_lt}
use Rattle.std.proofs.lemmas.List.Elements.{Contains-append_cases, filter-append}
use Rattle.cqf_lists.specs.Lists.{each_below}
use Rattle.cqf_lists.proofs.Members.{contains_from_filter, contains_none}
use Rattle.cqf_lists.proofs.EachBelow.{contains_from_below, filter_each, filter_none}

-- the list is the front, followed by a rest whose elements have the property
pub record Front {X : Type 0} (whole front : List X) (Late : X → Type 0) : Type 0 where
  pub rest : List X
  pub is : whole ≡ front ++ rest
  pub late : (x : X) → Contains rest x → Late x

-- a list is its own front
pub front_whole : {X : Type 0} (xs ys : List X) (Late : X → Type 0) → xs ≡ ys → Front xs ys Late
front_whole xs ys Late e = record { rest = []; is = e ∙ sym (append-nil ys); late = λ x h. absurd (contains_none x h) }

-- appending elements with the property keeps the front
pub front_more : {X : Type 0} (whole front more : List X) (Late : X → Type 0) → Front whole front Late → ((x : X) → Contains more x → Late x) →
    Front (whole ++ more) front Late
front_more {X} whole front more Late f late =
    record {
      rest = f.rest ++ more;
      is = ap (λ (xs : List X). xs ++ more) f.is ∙ append_assoc front f.rest more;
      late = λ x h. elim (Contains-append_cases f.rest more x h) [ inl k ↦ f.late x k | inr k ↦ late x k ];
    }

-- prepending a list prepends it to the front
pub front_after : {X : Type 0} (before whole front : List X) (Late : X → Type 0) → Front whole front Late → Front (before ++ whole) (before ++ front) Late
front_after {X} before whole front Late f =
    record { rest = f.rest; is = ap (λ (xs : List X). before ++ xs) f.is ∙ sym (append_assoc before front f.rest); late = f.late }

-- the filtered front is the front of the filtered list
pub front_filter : {X : Type 0} (p : X → Bool) (whole front : List X) (Late : X → Type 0) → Front whole front Late →
    Front (filter p whole) (filter p front) Late
front_filter p whole front Late f =
    record { rest = filter p f.rest; is = ap (filter p) f.is ∙ filter-append p front f.rest; late = λ x h. f.late x (contains_from_filter p f.rest x h).0 }

-- the concatenation up to a smaller number is a front, and the rest is from the later lists
pub each_front : {X : Type 0} (f : ℕ → List X) (n m : ℕ) → n ≤ m → Front (each_below f m) (each_below f n) (λ x. (k : ℕ) × (n ≤ k) × (k < m) × Contains (f k) x)
each_front f n zero le =
    let e : 0 ≡ n = omega (arith, le) in
    front_whole (each_below f 0) (each_below f n) (λ x. (k : ℕ) × (n ≤ k) × (k < 0) × Contains (f k) x) (ap (each_below f) e)
each_front {X} f n (suc m) le =
    elim (cases_lt m n) [
      | inl l ↦
          let e : suc m ≡ n = omega (arith, l, le) in
          front_whole (each_below f (suc m)) (each_below f n) (λ x. (k : ℕ) × (n ≤ k) × (k < suc m) × Contains (f k) x) (ap (each_below f) e)
      | inr g ↦ let r = each_front f n m g in
          record {
            rest = r.rest ++ f m;
            is = ap (λ (xs : List X). xs ++ f m) r.is ∙ append_assoc (each_below f n) r.rest (f m);
            late = λ x h. elim (Contains-append_cases r.rest (f m) x h) [
              | inl k ↦ let w = r.late x k in (w.0, w.1, omega (arith, w.2), w.3)
              | inr k ↦ (m, g, omega arith, k)
            ];
          }
    ]

-- a test that passes exactly for the lists before a number keeps their concatenation
pub filter_front : {X : Type 0} (p : X → Bool) (f : ℕ → List X) (n m : ℕ) → n ≤ m → ((k : ℕ) (x : X) → k < n → Contains (f k) x → p x ≡ true) →
    ((k : ℕ) (x : X) → n ≤ k → Contains (f k) x → p x ≡ false) → filter p (each_below f m) ≡ each_below f n
filter_front {X} p f n m le pass fail =
    let r = each_front f n m le in
    let kept : filter p (each_below f n) ≡ each_below f n =
    filter_each p (each_below f n) (λ x h. let w = contains_from_below f n x h in pass w.0 x w.1 w.2) in
    let left : filter p r.rest ≡ [] =
    filter_none p r.rest (λ x h. let w = r.late x h in fail w.0 x w.1 w.3) in
    ap (filter p) r.is ∙ filter-append p (each_below f n) r.rest ∙ ap (λ (xs : List X). xs ++ filter p r.rest) kept
    ∙ ap (λ (xs : List X). each_below f n ++ xs) left ∙ append-nil (each_below f n)
