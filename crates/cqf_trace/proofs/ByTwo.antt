-- Lists for pairs of two numbers, end to end, whose elements bear both numbers: each can be recovered by filtering.
use Rattle.std.proofs.Common.{◌≡◌, ℕ, ◌<◌, ◌==◌, List, filter, sym, ap, ◌∙◌, arith, AllPairs, Contains, eq-eqb, ne_eqb}
use Rattle.cqf_lists.specs.Lists.{each_below}
use Rattle.cqf_lists.proofs.EachBelow.{filter_below, filter_each, same_below}
use Rattle.cqf_lists.proofs.Pairs.{pairs_below}
use Rattle.cqf_lists.proofs.Picked.{filter_one}

module _ {X : Type 0} (two : X → ℕ) (l m : ℕ) (lists : ℕ → ℕ → List X)
    (has_two : (a b : ℕ) (x : X) → Contains (lists a b) x → two x ≡ b) where
  -- the elements with a given second number are the lists of that number
  pub of_second : (b : ℕ) → b < m → filter (λ x. two x == b) (each_below (λ a. each_below (lists a) m) l) ≡ each_below (λ a. lists a b) l
  of_second b inside =
      let test = λ (x : X). two x == b in
      filter_below test (λ a. each_below (lists a) m) l
      ∙ same_below (λ a. filter test (each_below (lists a) m)) (λ a. lists a b) l (λ a a_in.
      filter_one test (lists a) m b inside (λ j x differ h. ne_eqb (two x) b (λ same. differ (sym (has_two a j x h) ∙ same)))
      ∙ filter_each test (lists a b) (λ x h. eq-eqb (two x) b (has_two a b x h)))

  -- among these, the elements with a given first number are the list of both numbers
  pub of_both : (one : X → ℕ) → ((a b : ℕ) (x : X) → Contains (lists a b) x → one x ≡ a) → (a b : ℕ) → a < l → b < m →
      filter (λ x. one x == a) (filter (λ x. two x == b) (each_below (λ a. each_below (lists a) m) l)) ≡ lists a b
  of_both one has_one a b a_in b_in =
      let test = λ (x : X). one x == a in
      ap (filter test) (of_second b b_in)
      ∙ filter_one test (λ c. lists c b) l a a_in (λ c x differ h. ne_eqb (one x) a (λ same. differ (sym (has_one c b x h) ∙ same)))
      ∙ filter_each test (lists a b) (λ x h. eq-eqb (one x) a (has_one a b x h))

-- a relation that holds of the pairs within each list, and of pairs with an increasing first number, holds of all pairs of a second number
pub pairs_of_second : {X : Type 0} (one : X → ℕ) (l : ℕ) (lists : ℕ → ℕ → List X) → ((a b : ℕ) (x : X) → Contains (lists a b) x → one x ≡ a) →
    (R : X → X → Type 0) (b : ℕ) → ((a : ℕ) → a < l → AllPairs R (lists a b)) → ((x y : X) → one x < one y → R x y) →
    AllPairs R (each_below (λ a. lists a b) l)
pairs_of_second one l lists has_one R b each across =
    pairs_below R (λ a. lists a b) l each (λ j k x y less below in_x in_y.
    across x y (omega (arith, less, has_one j b x in_x, has_one k b y in_y)))
