-- The fault that is reported for a table's rows is the first.
use Rattle.std.proofs.Common.{◌≡◌, ◌≤◌, ◌<◌, ◌+◌, ℕ, List, [], ◌∷◌, ◌++◌, Bool, true, false, cond, Option, Some, None, Result, Ok, Err, MatchResult, nat_lt}
use Rattle.std.proofs.Common.{length, slice_get, refl, ap, sym, subst, ◌∙◌, append_assoc, append-nil, length-append, ◌⊎◌, inl, inr, arith}
use Rattle.std.proofs.lemmas.Bool.{cases_lt}
use Rattle.std.proofs.lemmas.Bool.Decides.{nat_tests}
use Rattle.cqf_lists.proofs.Indices.{slice_get_after}
use Rattle.cqf_report.specs.Records.{Fields}
use Rattle.cqf_report.specs.Table.{row_then, rows_from, with_row}
use Rattle.cqf_report.specs.TableLaws.{AreGoodBefore, IsFirstBack, IsFirstFault, IsGood, Writes, WritesFirst}
use Rattle.cqf_report.specs.declared.tables.TableFault.{TableFault}
use Rattle.cqf_report.specs.declared.tables.TableFault.TheVariants.{TooMany, OutOfOrder}

module _ {A : Type 0} (most : ℕ) (read : Fields → Option A) (instant : A → ℕ) where
  -- a record writes at most one row
  one-row : (rows : List Fields) (index : ℕ) (a b : A) → Writes read rows index a → Writes read rows index b → a ≡ b
  one-row rows index a b first second =
      some-inj (sym first.means ∙ ap read (fields-inj (sym first.stands ∙ second.stands)) ∙ second.means)
    where
      some-inj : ◌≡◌ {A = Option A} (Some a) (Some b) → a ≡ b
      some-inj e = cc

      fields-inj : ◌≡◌ {A = Option Fields} (Some first.fields) (Some second.fields) → first.fields ≡ second.fields
      fields-inj e = cc

  -- the instant that the next row may not be before: that of the last row so far, or 0 if there is none
  record IsLast (rows : List Fields) (index before : ℕ) : Type 0 where
    earlier : A
    k : ℕ
    next : k + 1 ≡ index
    writes : Writes read rows k earlier
    its : instant earlier ≡ before

  -- a row whose instant is earlier than that of the previous row
  abbrev IsBefore : List Fields → ℕ → ℕ → Type 0
  IsBefore rows index before = ((index ≡ 0) × (before ≡ 0)) ⊎ IsLast rows index before

  -- a row that isn't before the last one is in order
  in-order : (rows : List Fields) (index before : ℕ) (row : A) → IsBefore rows index before → before ≤ instant row
      → (k : ℕ) (earlier : A) → k + 1 ≡ index → Writes read rows k earlier → instant earlier ≤ instant row
  in-order rows index before row (inl start) h k earlier next writes = absurd (omega (arith, start.0, next))
  in-order rows index before row (inr last) h k earlier next writes =
      let same_index : last.k ≡ k = omega (arith, last.next, next) in
      let same : last.earlier ≡ earlier = one-row rows k last.earlier earlier (subst (λ m. Writes read rows m last.earlier) same_index last.writes) writes in
      let its : instant earlier ≡ before = ap instant (sym same) ∙ last.its in
      omega (arith, its, h)

  -- one more good record
  good-more : (rows : List Fields) (index : ℕ) → AreGoodBefore read instant rows index → IsGood read instant rows index →
      AreGoodBefore read instant rows (index + 1)
  good-more rows index good here k below = elim (cases_lt k index) [
    | inl before ↦ good k before
    | inr not_before ↦ let same : index ≡ k = omega (arith, below, not_before) in subst (λ m. IsGood read instant rows m) same here
  ]

  -- the records are all good, or the reported fault is the first fault of them all
  abbrev Written : List Fields → Result (List A) TableFault → Type 0
  Written rows reported = MatchResult reported
      (λ items. (length rows ≤ most) × AreGoodBefore read instant rows (length rows))
      (λ fault. IsFirstFault most read instant rows fault)

  -- one more row before the others doesn't change this
  reported-following : (rows : List Fields) (row : A) (others : Result (List A) TableFault) → Written rows others → Written rows (with_row row others)
  reported-following rows row (Ok items) h = h
  reported-following rows row (Err fault) h = h

  -- so it is for the records after any good ones
  abbrev WritesAfter : List Fields → Type 0
  WritesAfter rest = (front : List Fields) (number before : ℕ) → number ≡ length front + 1 → number ≤ most + 1
      → AreGoodBefore read instant (front ++ rest) (length front) → IsBefore (front ++ rest) (length front) before
      → Written (front ++ rest) (rows_from most read instant number before rest)

  -- what is reported for a text holds after any good records
  reported-following-front : (rest : List Fields) → WritesAfter rest
  reported-following-front [] front number before numbered few good last =
      let whole : length (front ++ []) ≡ length front = ap length (append-nil front) in
      (omega (arith, whole, numbered, few), subst (λ n. AreGoodBefore read instant (front ++ []) n) (sym whole) good)
  reported-following-front (fields ∷ rest) front number before numbered few good last = by_many (reported-following-front rest) (nat_lt most number) refl
    where
      rows : List Fields
      rows = front ++ fields ∷ rest

      stands : slice_get rows (length front) ≡ Some fields
      stands = slice_get_after front fields rest (length front) refl

      long : length rows ≡ length front + (length rest + 1)
      long = length-append front (fields ∷ rest) ∙ omega arith

      next : WritesAfter rest → (row : A) → read fields ≡ Some row → before ≤ instant row → number ≤ most →
          Written rows (rows_from most read instant (number + 1) (instant row) rest)
      next again row means h within =
          let writes : Writes read rows (length front) row = record { fields = fields; stands = stands; means = means } in
          let here : IsGood read instant rows (length front) =
          record { row = row; writes = writes; in_order = in-order rows (length front) before row last h } in
          let moved : (front ++ fields ∷ []) ++ rest ≡ rows = append_assoc front (fields ∷ []) rest in
          let one : length (front ++ fields ∷ []) ≡ length front + 1 = length-append front (fields ∷ []) in
          subst (λ all. Written all (rows_from most read instant (number + 1) (instant row) rest)) moved
          (again (front ++ fields ∷ []) (number + 1) (instant row) (omega (arith, numbered, one)) (omega (arith, within))
          (subst (λ all. AreGoodBefore read instant all (length (front ++ fields ∷ []))) (sym moved)
          (subst (λ n. AreGoodBefore read instant rows n) (sym one) (good-more rows (length front) good here)))
          (inr (record {
            earlier = row;
            k = length front;
            next = sym one;
            writes = subst (λ all. Writes read all (length front) row) (sym moved) writes;
            its =
                refl;
          })))

      back : (row : A) → read fields ≡ Some row → instant row < before → number ≤ most → IsBefore rows (length front) before →
          IsFirstBack most read instant rows number
      back row means h within (inl start) = absurd (omega (arith, start.1, h))
      back row means h within (inr last) =
          let here : length front ≡ last.k + 1 = sym last.next in
          record {
            index = last.k;
            numbered = omega (arith, numbered, here);
            few = within;
            good_before = subst (λ n. AreGoodBefore read instant rows n) here good;
            row = row;
            earlier = last.earlier;
            writes = subst (λ n. Writes read rows n row) here (record { fields = fields; stands = stands; means = means });
            writes_earlier = last.writes;
            goes_back = omega (arith, h, last.its);
          }

      by_back : WritesAfter rest → (row : A) → read fields ≡ Some row → number ≤ most → (b : Bool) → nat_lt (instant row) before ≡ b
          → Written rows (cond b (Err (OutOfOrder number)) (with_row row (rows_from most read instant (number + 1) (instant row) rest)))
      by_back again row means within true e = back row means (grind (arith, nat_tests)) within last
      by_back again row means within false e =
          reported-following rows row (rows_from most read instant (number + 1) (instant row) rest) (next again row means (grind (arith, nat_tests)) within)

      by_row : WritesAfter rest → (o : Option A) → read fields ≡ o → number ≤ most →
          Written rows (row_then instant number before o (λ last. rows_from most read instant (number + 1) last rest))
      by_row again None means within =
          record { index = length front; numbered = numbered; few = within; good_before = good; fields = fields; stands = stands; means_nothing = means }
      by_row again (Some row) means within = by_back again row means within (nat_lt (instant row) before) refl

      by_many : WritesAfter rest → (b : Bool) → nat_lt most number ≡ b
          → Written rows (cond b (Err TooMany) (row_then instant number before (read fields) (λ last. rows_from most read instant (number + 1) last rest)))
      by_many again true e =
          let beyond : most < number = grind (arith, nat_tests) in
          record {
            many = omega (arith, beyond, numbered, long);
            good_before =
                subst (λ n. AreGoodBefore read instant rows n) (omega (arith, beyond, few, numbered)) good;
          }
      by_many again false e = by_row again (read fields) refl (grind (arith, nat_tests))

  -- the same for all records
  pub reports-first : (rows : List Fields) → WritesFirst most read instant rows
  reports-first rows = reported-following-front rows [] 1 0 refl (omega arith) (λ k below. absurd (omega (arith, below))) (inl (refl, refl))
