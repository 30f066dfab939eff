-- What follows from counts of 0, and from fates.
use Rattle.std.proofs.Common.{◌≡◌, ◌∙◌, ◌&&◌, ℕ, Bool, true, false, cond, List, Option, Some, None, Contains, ap, arith, count_by, find, inl, inr, refl, sym}
use Rattle.std.proofs.lemmas.Bool.{cases_Bool, false≢true}
use Rattle.cqf_lists.proofs.Members.{find_member, find_some}
use Rattle.cqf_lists.proofs.Sums.{sum_member, sum_none}
use Rattle.cqf_program_runs.specs.declared.deliveries.delivery.Fate.{Fate}
use Rattle.cqf_program_runs.specs.declared.deliveries.delivery.Fate.TheVariants as fate
use Rattle.cqf_program_runs.specs.Check.Checked.{is_bad, is_under_way}

-- both of two tests pass
pub first_passes : (p q : Bool) → (p && q) ≡ true → p ≡ true
first_passes true q e = refl
first_passes false q e = absurd (false≢true e)

pub second_passes : (p q : Bool) → (p && q) ≡ true → q ≡ true
second_passes true q e = e
second_passes false q e = absurd (false≢true e)

module _ {X : Type 0} (test : X → Bool) (xs : List X) where
  -- if none is found, none passes
  pub none_passes : find test xs ≡ None → (x : X) → Contains xs x → test x ≡ false
  none_passes is x c = elim (cases_Bool (test x)) [
    | inl passes ↦ (let found = find_some test xs x c passes in
        let both : Some found.0 ≡ None = sym found.1 ∙ is in absurd (cc))
    | inr fails ↦ fails
  ]

  -- and if none passes, none is found
  pub none_found : ((x : X) → Contains xs x → test x ≡ false) → find test xs ≡ None
  none_found fails = by (find test xs) refl
    where
      -- for any result of the search
      by : (found : Option X) → find test xs ≡ found → found ≡ None
      by None is = refl
      by (Some x) is = let member = find_member test xs x is in absurd (false≢true (sym (fails x member.0) ∙ member.1))

  -- if the count is 0, none passes
  pub none_counted : count_by test xs ≡ 0 → (x : X) → Contains xs x → test x ≡ false
  none_counted none x c = elim (cases_Bool (test x)) [
    | inl passes ↦ absurd (omega (arith, sum_member (λ (y : X). cond (test y) 1 0) xs x c, none, ap {B = ℕ} (λ (b : Bool). cond b 1 0) passes))
    | inr fails ↦ fails
  ]

  -- and if none passes, the count is 0
  pub count_none : ((x : X) → Contains xs x → test x ≡ false) → count_by test xs ≡ 0
  count_none fails = sum_none (λ (y : X). cond (test y) 1 0) xs (λ x c. ap {B = ℕ} (λ (b : Bool). cond b 1 0) (fails x c))

-- a fate that is neither bad nor under way
pub is_there : (f : Fate) → is_bad f ≡ false → is_under_way f ≡ false → f ≡ fate.Delivered
is_there fate.Delivered good there = refl
is_there fate.Late good there = absurd (false≢true (sym good))
is_there fate.UnderWay good there = absurd (false≢true (sym there))
is_there (fate.Dropped reason) good there = absurd (false≢true (sym good))
