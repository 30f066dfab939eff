-- Rounds that are laid one after another.
use Rattle.std.proofs.Common.{ℕ, ◌≡◌, ◌∙◌, ◌+◌, ◌-◌, ◌<◌, ◌≤◌, ◌^◌, ◌++◌, ◌∷◌, ◌⊎◌, [], List, AllPairs, Contains, Some, ap, arith, div-add-mod', drop, drop-cons, get_or, inl, inr, length, refl, subst, sym, take}
use Rattle.std.specs.Prelude.{◌/◌, slice_get, suc, zero}
use Rattle.std.proofs.lemmas.Bool.{cases_lt}
use Rattle.std.proofs.Math.Nat.{mul-le-mul_left}
use Rattle.std.proofs.lemmas.List.{get_or_append_left, get_or-append_right, length-append, take-append-drop, take_more}
use Rattle.std.proofs.lemmas.List.Elements.{Contains-append_cases}
use Rattle.cqf_lists.proofs.Members.{contains_cases, contains_none, contains_one}
use Rattle.cqf_lists.proofs.Pairs.{pairs_head, pairs_second}
use Rattle.cqf_units.specs.Timing.{cycle_at}
use Rattle.cqf_model.specs.declared.frames.Dropped.{Dropped}
use Rattle.cqf_model.specs.declared.frames.Offer.{Offer}
use Rattle.cqf_model.specs.Domain.{Domain}
use Rattle.cqf_program_summary.specs.declared.hops.rounds.Round.{Round}
use Rattle.cqf_program_summary.specs.Hops.Rounds.{AreRounds, GoesOnFrom, IsNextRound, no_round, round_before}

-- each round follows the one before it, the last is the given one, and it is early
pub record AreSoFar (d : Domain) (hop_number : ℕ) (offers : List Offer) (drops : List Dropped) (rounds : List Round) (last : Round) : Type 0 where
  pub first : GoesOnFrom d hop_number offers drops no_round
  pub each : (k : ℕ) → k < length rounds → IsNextRound d hop_number offers drops (round_before rounds k) (get_or rounds k no_round)
  pub last_is : last ≡ round_before rounds (length rounds)
  pub goes_on : GoesOnFrom d hop_number offers drops last
  pub soon : last.cycles ≤ 2 ^ 33

-- before the first round nothing is written
pub nothing_written : (d : Domain) (hop_number : ℕ) (offers : List Offer) (drops : List Dropped) → ((x : Dropped) → Contains drops x → 0 < x.frame) →
    GoesOnFrom d hop_number offers drops no_round
nothing_written d hop_number offers drops some = record {
  frames_within = omega arith;
  drops_within = omega arith;
  whole = λ index offer below at. absurd (omega (arith, below));
  dropped = λ x among. absurd (contains_none x among);
  not_yet = λ x among. some x among;
}

-- a round more
module _ (rounds : List Round) (r : Round) where
  pub before_same : (k : ℕ) → k ≤ length rounds → round_before (rounds ++ r ∷ []) k ≡ round_before rounds k
  before_same zero le = refl
  before_same (suc k) le = get_or_append_left rounds (r ∷ []) no_round k (omega (arith, le))

  pub last_there : get_or (rounds ++ r ∷ []) (length rounds) no_round ≡ r
  last_there =
      let none : length rounds ≡ length rounds = refl in
      get_or-append_right rounds (r ∷ []) (length rounds) (length rounds) no_round none (omega arith)
      ∙ ap (λ (k : ℕ). get_or (r ∷ []) k no_round) (let e : length rounds - length rounds ≡ 0 = omega arith in e)

  pub before_end : round_before (rounds ++ r ∷ []) (length (rounds ++ r ∷ [])) ≡ r
  before_end =
      let many : length (rounds ++ r ∷ []) ≡ suc (length rounds) = omega (arith, length-append rounds (r ∷ [])) in
      ap (round_before (rounds ++ r ∷ [])) many ∙ last_there

  pub each_more : (d : Domain) (hop_number : ℕ) (offers : List Offer) (drops : List Dropped) →
      ((k : ℕ) → k < length rounds → IsNextRound d hop_number offers drops (round_before rounds k) (get_or rounds k no_round)) →
      IsNextRound d hop_number offers drops (round_before rounds (length rounds)) r → (k : ℕ) → k < length (rounds ++ r ∷ []) →
      IsNextRound d hop_number offers drops (round_before (rounds ++ r ∷ []) k) (get_or (rounds ++ r ∷ []) k no_round)
  each_more d hop_number offers drops each next k below = by (cases_lt k (length rounds))
    where
      by : (k < length rounds) ⊎ (length rounds ≤ k) →
          IsNextRound d hop_number offers drops (round_before (rounds ++ r ∷ []) k) (get_or (rounds ++ r ∷ []) k no_round)
      by (inl less) =
          subst (λ (b : Round). IsNextRound d hop_number offers drops b (get_or (rounds ++ r ∷ []) k no_round)) (sym (before_same k (omega (arith, less))))
          (subst (λ (z : Round). IsNextRound d hop_number offers drops (round_before rounds k) z) (sym (get_or_append_left rounds (r ∷ []) no_round k less))
          (each k less))
      by (inr le) =
          let is : length rounds ≡ k = omega (arith, le, below, length-append rounds (r ∷ [])) in
          subst (λ (n : ℕ). IsNextRound d hop_number offers drops (round_before (rounds ++ r ∷ []) n) (get_or (rounds ++ r ∷ []) n no_round)) is
          (subst (λ (b : Round). IsNextRound d hop_number offers drops b (get_or (rounds ++ r ∷ []) (length rounds) no_round))
          (sym (before_same (length rounds) (omega arith)))
          (subst (λ (z : Round). IsNextRound d hop_number offers drops (round_before rounds (length rounds)) z) (sym last_there) next))

-- one more is laid
pub one_more_laid : (d : Domain) (hop_number : ℕ) (offers : List Offer) (drops : List Dropped) (rounds after : List Round) (last r : Round) →
    AreSoFar d hop_number offers drops rounds last → IsNextRound d hop_number offers drops last r → r.cycles ≤ 2 ^ 33 → after ≡ rounds ++ r ∷ [] →
    AreSoFar d hop_number offers drops after r
one_more_laid d hop_number offers drops rounds after last r so_far next soon is =
    subst (λ (xs : List Round). AreSoFar d hop_number offers drops xs r) (sym is)
    (record {
      first = so_far.first;
      each = each_more rounds r d hop_number offers drops so_far.each (subst (λ (b : Round). IsNextRound d hop_number offers drops b r) so_far.last_is next);
      last_is = sym (before_end rounds r);
      goes_on = next.goes_on;
      soon = soon;
    })

-- and the last
pub last_laid : (d : Domain) (hop_number : ℕ) (offers : List Offer) (drops : List Dropped) (rounds after : List Round) (last r : Round) →
    AreSoFar d hop_number offers drops rounds last → IsNextRound d hop_number offers drops last r → r.frames ≡ length offers → after ≡ rounds ++ r ∷ [] →
    AreRounds d hop_number offers drops after
last_laid d hop_number offers drops rounds after last r so_far next all is =
    subst (λ (xs : List Round). AreRounds d hop_number offers drops xs) (sym is)
    (record {
      first = so_far.first;
      each = each_more rounds r d hop_number offers drops so_far.each (subst (λ (b : Round). IsNextRound d hop_number offers drops b r) so_far.last_is next);
      all = ap (λ (z : Round). z.frames) (before_end rounds r) ∙ all;
    })

-- one drop more is of the first frames
pub one_more_of : (drops : List Dropped) (at frames : ℕ) (d : Dropped) → at < length drops →
    ((x : Dropped) → Contains (take at drops) x → x.frame ≤ frames) → (get_or drops at d).frame ≤ frames →
    (x : Dropped) → Contains (take (at + 1) drops) x → x.frame ≤ frames
one_more_of drops at frames d inside before here x among =
    elim (Contains-append_cases (take at drops) (get_or drops at d ∷ []) x (subst (λ (xs : List Dropped). Contains xs x) (take_more drops at d inside) among)) [
      | inl early ↦ before x early
      | inr last ↦ omega (arith, here, ap (λ (y : Dropped). y.frame) (contains_one (get_or drops at d) x last))
    ]

-- if a drop isn't of the first frames, no later one is
pub after_rises : (drops : List Dropped) (at frames : ℕ) (d : Dropped) → at < length drops → AllPairs (λ (a b : Dropped). a.frame < b.frame) drops →
    frames < (get_or drops at d).frame → (x : Dropped) → Contains (drop at drops) x → frames < x.frame
after_rises drops at frames d inside rise here x among =
    let parts : drop at drops ≡ get_or drops at d ∷ drop (suc at) drops = drop-cons drops at d inside in
    let all : AllPairs (λ (a b : Dropped). a.frame < b.frame) (get_or drops at d ∷ drop (suc at) drops) =
    subst (λ (xs : List Dropped). AllPairs (λ (a b : Dropped). a.frame < b.frame) xs) parts
    (pairs_second (λ (a b : Dropped). a.frame < b.frame) (take at drops) (drop at drops)
    (subst (λ (xs : List Dropped). AllPairs (λ (a b : Dropped). a.frame < b.frame) xs) (sym (take-append-drop at drops)) rise)) in
    elim (contains_cases (get_or drops at d) (drop (suc at) drops) x (subst (λ (xs : List Dropped). Contains xs x) parts among)) [
      | inl e ↦ omega (arith, here, ap (λ (y : Dropped). y.frame) e)
      | inr later ↦ omega (
        arith,
        here,
        pairs_head (λ (a b : Dropped). a.frame < b.frame) (get_or drops at d) (drop (suc at) drops) x all later,
      )
    ]

-- an offer's cycle is early
pub cycle_early : (n t : ℕ) → 0 < n → t < 1000000000000 → cycle_at n t < 1000000000000
cycle_early n t some early =
    let one : 1 ≤ n = omega arith in
    omega (arith, mul-le-mul_left (t / n) one, div-add-mod' t n, early)
