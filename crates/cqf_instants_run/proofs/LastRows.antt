-- The last row of each name, row by row.
use Rattle.std.proofs.Common.{◌≡◌, ℕ, ◌+◌, ◌≤◌, List, true, false, cond, Option, Some, None, inl, inr}
use Rattle.std.proofs.Common.{sym, ap, ◌∙◌, subst, arith, nat_eq, length}
use Rattle.std.specs.Prelude.{slice_get}
use Rattle.std.specs.Cmp.Lexicographic.{pointwise}
use Rattle.std.proofs.lemmas.Bool.{cases_Bool, cases_eq, cases_lt}
use Rattle.std.proofs.lemmas.Option.{same_Some, slice_get_within}
use Rattle.cqf_model.specs.declared.topology.Row.{Row}
use Rattle.cqf_model.specs.Domain.{is_text}
use Rattle.cqf_model.proofs.Texts.{is_text_itself, is_text_same, pointwise-is_text}
use Rattle.cqf_instants_run.specs.Begun.{Begins, HasBegun, HaveNone, IsLastBegun, IsLastOf, LeadsToLast}

-- there is only one row at an index
pub one_there : (rows : List Row) (k : ℕ) (a b : Row) → slice_get rows k ≡ Some a → slice_get rows k ≡ Some b → a ≡ b
one_there rows k a b p q = same_Some a b (sym p ∙ q)

-- comparing names is symmetric
pub same_name : (a b : List ℕ) → pointwise nat_eq a b ≡ is_text a b
same_name a b = elim (cases_Bool (is_text a b)) [
  | inl t ↦ ap (λ z. pointwise nat_eq z b) (is_text_same a b t) ∙ pointwise-is_text b b ∙ is_text_itself b ∙ sym t
  | inr f ↦ elim (cases_Bool (is_text b a)) [
    | inl t ↦ absurd (true_not_false (sym (is_text_itself a) ∙ ap (is_text a) (sym (is_text_same b a t)) ∙ f))
    | inr g ↦ pointwise-is_text a b ∙ g ∙ sym f
  ]
]
  where
    true_not_false : true ≡ false → ⊥
    true_not_false e = absurd cc

module _ (rows : List Row) (p : ℕ) (row : Row) (is : slice_get rows p ≡ Some row) where
  -- a row of another name changes nothing
  still : (name : List ℕ) (o : Option ℕ) → IsLastBegun rows p name o → is_text row.name name ≡ false → IsLastBegun rows (p + 1) name o
  still name None none other = λ index there below at. elim (cases_eq index p) [
    | inl e ↦ ap (λ (r : Row). is_text r.name name) (one_there rows p there row (ap (slice_get rows) (sym e) ∙ at) is) ∙ other
    | inr n ↦ none index there (omega (arith, n, below)) at
  ]
  still name (Some last) l other = record {
    row = l.row;
    is = l.is;
    below = omega (arith, l.below);
    named = l.named;
    later = λ index there above below at. elim (cases_eq index p) [
      | inl e ↦ ap (λ (r : Row). is_text r.name name) (one_there rows p there row (ap (slice_get rows) (sym e) ∙ at) is) ∙ other
      | inr n ↦ l.later index there above (omega (arith, n, below)) at
    ];
  }

  -- one row more is the last of its name
  pub leads_more : (index_of after : List ℕ → Option ℕ) → LeadsToLast rows p index_of →
      ((name : List ℕ) → after name ≡ cond (pointwise nat_eq row.name name) (Some p) (index_of name)) → LeadsToLast rows (p + 1) after
  leads_more index_of after leads updates name = elim (cases_Bool (is_text row.name name)) [
    | inl t ↦ subst (IsLastBegun rows (p + 1) name) (sym (updates name ∙ ap (λ b. cond b (Some p) (index_of name)) (same_name row.name name ∙ t)))
        (record { row = row; is = is; below = omega arith; named = t; later = λ index there above below at. absurd (omega (arith, above, below)) })
    | inr f ↦ subst (IsLastBegun rows (p + 1) name) (sym (updates name ∙ ap (λ b. cond b (Some p) (index_of name)) (same_name row.name name ∙ f)))
        (still name (index_of name) (leads name) f)
  ]

-- if all have begun, there is no next one
pub begins_all : (rows : List Row) (from k cycle : ℕ) (index_of : List ℕ → Option ℕ) → length rows ≤ k → Begins rows from k cycle index_of →
    HasBegun rows from (length rows) cycle index_of
begins_all rows from k cycle index_of all b = record {
  begins = subst (λ n. Begins rows from n cycle index_of) (same k (length rows) all b.within) b;
  next = λ row there. absurd (omega (arith, slice_get_within rows (length rows) row there));
}
  where
    same : (a b : ℕ) → b ≤ a → a ≤ b → a ≡ b
    same a b above below = omega (arith, above, below)

-- there is only one last row
pub last_once : (rows : List Row) (begun : ℕ) (name : List ℕ) (p q : ℕ) → (a : IsLastOf rows begun name p) → (b : IsLastOf rows begun name q) → a.row ≡ b.row
last_once rows begun name p q a b = elim (cases_eq p q) [
  | inl e ↦ one_there rows q a.row b.row (ap (slice_get rows) (sym e) ∙ a.is) b.is
  | inr n ↦ elim (cases_lt p q) [
    | inl less ↦ absurd (true_not_false (sym b.named ∙ a.later q b.row less b.below b.is))
    | inr more ↦ absurd (true_not_false (sym a.named ∙ b.later p a.row (omega (arith, n, more)) a.below a.is))
  ]
]
  where
    true_not_false : true ≡ false → ⊥
    true_not_false e = absurd cc

-- if a name leads nowhere, no row of it is the last
pub none_last : (rows : List Row) (begun : ℕ) (name : List ℕ) (index : ℕ) → HaveNone rows begun name → IsLastOf rows begun name index → ⊥
none_last rows begun name index none l = true_not_false (sym l.named ∙ none index l.row l.below l.is)
  where
    true_not_false : true ≡ false → ⊥
    true_not_false e = absurd cc
