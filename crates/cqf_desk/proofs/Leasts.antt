-- The least number of a seat that isn't borne out, one seat after the other.
use Rattle.std.proofs.Common.{◌≡◌, ℕ, Bool, true, false, ◌+◌, ◌<◌, List, Option, None, Some, ◌∷◌, [], ◌++◌, length}
use Rattle.std.proofs.Common.{◌↔◌, take, get_or, min, ◌≤◌, refl, ap, sym, ◌∙◌, arith, subst, inl, inr, true≢false}
use Rattle.std.specs.Option.{option_map_or}
use Rattle.std.proofs.lemmas.Bool.{cases_lt}
use Rattle.std.proofs.lemmas.List.{take_more}
use Rattle.std.proofs.lemmas.List.Elements.{All-push, All-weaker, Contains-append_left, Contains-push}
use Rattle.cqf_model.specs.Domain.{Domain}
use Rattle.cqf_model.specs.History.{Recorded}
use Rattle.cqf_desk.specs.Closing.{ComesToLeast, HasSuch, IsBorneOut}
use Rattle.cqf_desk.specs.Desk.{Sitting}

-- with one more seat there is still one with the property
still_such : (IsSuch : Sitting → Type 0) (seats : List Sitting) (s : Sitting) (number : ℕ) → HasSuch IsSuch seats number →
    HasSuch IsSuch (seats ++ s ∷ []) number
still_such IsSuch seats s number such = (such.0, Contains-append_left seats (s ∷ []) such.0 such.1, such.2, such.3)

-- one more seat that is borne out
borne_after : (d : Domain) (entries : List Recorded) (first : ℕ) (seats : List Sitting) (s : Sitting) (least : Option ℕ) → IsBorneOut d entries first s →
    ComesToLeast d entries first seats least → ComesToLeast d entries first (seats ++ s ∷ []) least
borne_after d entries first seats s None borne all = All-push (IsBorneOut d entries first) seats s all borne
borne_after d entries first seats s (Some number) borne least = (
  still_such (λ (t : Sitting). ¬ IsBorneOut d entries first t) seats s number least.0,
  All-push (λ (t : Sitting). t.number < number → IsBorneOut d entries first t) seats s least.1 (λ _. borne),
)

-- one more seat that isn't
against_after : (d : Domain) (entries : List Recorded) (first : ℕ) (seats : List Sitting) (s : Sitting) (least : Option ℕ) (n : ℕ) →
    n ≡ option_map_or (λ m. min m s.number) least s.number → (¬ IsBorneOut d entries first s) →
    ComesToLeast d entries first seats least → ComesToLeast d entries first (seats ++ s ∷ []) (Some n)
against_after d entries first seats s None n is against all = (
  (s, Contains-push seats s, sym is, against),
  All-push (λ (t : Sitting). t.number < n → IsBorneOut d entries first t) seats s
      (All-weaker (IsBorneOut d entries first) (λ (t : Sitting). t.number < n → IsBorneOut d entries first t) (λ t borne _. borne) seats all)
      (λ less. absurd (omega (arith, less, is))),
)
against_after d entries first seats s (Some m) n is against least = elim (cases_lt s.number m) [
  | inl less ↦ (
    (s, Contains-push seats s, by_less less, against),
    All-push (λ (t : Sitting). t.number < n → IsBorneOut d entries first t) seats s
        (All-weaker (λ (t : Sitting). t.number < m → IsBorneOut d entries first t) (λ (t : Sitting). t.number < n → IsBorneOut d entries first t)
        (λ t borne below. borne (omega (arith, below, less, by_less less))) seats least.1)
        (λ below. absurd (omega (arith, below, by_less less))),
  )
  | inr more ↦ (
    subst (HasSuch (λ (t : Sitting). ¬ IsBorneOut d entries first t) (seats ++ s ∷ [])) (by_more more)
        (still_such (λ (t : Sitting). ¬ IsBorneOut d entries first t) seats s m least.0),
    All-push (λ (t : Sitting). t.number < n → IsBorneOut d entries first t) seats s
        (All-weaker (λ (t : Sitting). t.number < m → IsBorneOut d entries first t) (λ (t : Sitting). t.number < n → IsBorneOut d entries first t)
        (λ t borne below. borne (omega (arith, below, by_more more))) seats least.1)
        (λ below. absurd (omega (arith, below, more, by_more more))),
  )
]
  where
    -- the smaller of both
    by_less : s.number < m → s.number ≡ n
    by_less less = omega (arith, is, less)

    by_more : m ≤ s.number → m ≡ n
    by_more more = omega (arith, is, more)

-- the same for first parts of a list
pub borne_more : (d : Domain) (entries : List Recorded) (first : ℕ) (seats : List Sitting) (k : ℕ) (s : Sitting) (least : Option ℕ) →
    k < length seats → s ≡ get_or seats k s →
    IsBorneOut d entries first s → ComesToLeast d entries first (take k seats) least → ComesToLeast d entries first (take (k + 1) seats) least
borne_more d entries first seats k s least inside is borne comes =
    subst (λ (ss : List Sitting). ComesToLeast d entries first ss least)
    (sym (take_more seats k s inside ∙ ap (λ (t : Sitting). take k seats ++ t ∷ []) (sym is)))
    (borne_after d entries first (take k seats) s least borne comes)

pub against_more : (d : Domain) (entries : List Recorded) (first : ℕ) (seats : List Sitting) (k : ℕ) (s : Sitting) (least : Option ℕ) (n : ℕ)
    → k < length seats → s ≡ get_or seats k s →
    n ≡ option_map_or (λ m. min m s.number) least s.number → (¬ IsBorneOut d entries first s) → ComesToLeast d entries first (take k seats) least →
    ComesToLeast d entries first (take (k + 1) seats) (Some n)
against_more d entries first seats k s least n inside is lesser against comes =
    subst (λ (ss : List Sitting). ComesToLeast d entries first ss (Some n))
    (sym (take_more seats k s inside ∙ ap (λ (t : Sitting). take k seats ++ t ∷ []) (sym is)))
    (against_after d entries first (take k seats) s least n lesser against comes)

-- one more seat, borne out or not
pub least_more : (d : Domain) (entries : List Recorded) (first : ℕ) (seats : List Sitting) (k : ℕ) (s : Sitting) (number : ℕ)
    (least after : Option ℕ) (is_borne : Bool) →
    k < length seats → s ≡ get_or seats k s → number ≡ s.number → (is_borne ≡ true → after ≡ least) →
    (is_borne ≡ false → after ≡ Some (option_map_or (λ m. min m number) least number)) → (is_borne ≡ true) ↔ IsBorneOut d entries first s →
    ComesToLeast d entries first (take k seats) least →
    ComesToLeast d entries first (take (k + 1) seats) after
least_more d entries first seats k s number least after true inside is its stays lesser borne comes =
    subst (λ (o : Option ℕ). ComesToLeast d entries first (take (k + 1) seats) o) (sym (stays refl))
    (borne_more d entries first seats k s least inside is (borne.0 refl) comes)
least_more d entries first seats k s number least after false inside is its stays lesser borne comes =
    subst (λ (o : Option ℕ). ComesToLeast d entries first (take (k + 1) seats) o) (sym (lesser refl))
    (against_more d entries first seats k s least (option_map_or (λ m. min m number) least number) inside is
    (ap (λ (n : ℕ). option_map_or (λ m. min m n) least n) its) (λ is_so. absurd (true≢false (sym (borne.1 is_so)))) comes)
