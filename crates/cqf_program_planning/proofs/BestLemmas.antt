-- Good candidates that are compared one after the other.
use Rattle.std.proofs.Common.{◌≡◌, ◌∙◌, ◌≤◌, ◌<◌, ◌+◌, ◌++◌, ◌⊎◌, inl, inr, ℕ, All, Bool, true, false, List, [], ◌∷◌, Option, Some, None, ap, append_assoc, arith, eq-eqb, eqb-true, get_or, if◌then◌else◌, length, lt-ltb, ltb-false, ltb-true, map, refl, subst, sym, take}
use Rattle.std.specs.Prelude.{◌&&◌, ◌||◌, ◌==◌, nat_lt, unwrap_or}
use Rattle.std.proofs.lemmas.List.{take_more}
use Rattle.std.proofs.lemmas.List.Elements.{All-append, All-cons, All-head, All-nil, All-push, All-tail}
use Rattle.cqf_network.specs.NetworkDomain.{NetworkDomain, longest_guard}
use Rattle.cqf_program_placing.specs.Placing.{PlacedStreams}
use Rattle.cqf_program_placing.specs.Settled.{IsPlaceable, SettledStream, open_domain}
use Rattle.cqf_program_planning.specs.declared.candidates.Candidate.{Candidate}
use Rattle.cqf_program_planning.specs.declared.choosing.Choice.{Choice}
use Rattle.cqf_program_planning.specs.declared.choosing.Choice.TheVariants as choice
use Rattle.cqf_program_planning.specs.declared.choosing.Search.{Search}
use Rattle.cqf_program_planning.specs.declared.trying.Tried.{Tried}
use Rattle.cqf_program_planning.specs.Choosing.{IsBad, IsBestGood, IsTaken, is_better, nearer_of, time_left}
use Rattle.cqf_program_planning.specs.Orders.{AreJudgedBy, AreTriedAt, IsJudgedBy}
use Rattle.cqf_program_planning.specs.Trying.{AreBad, ComesOf, ComesOfAll, ComesOfSome, IsBadOn, IsBestOf, IsGoodOn, preferred}
use Rattle.cqf_program_planning.proofs.ChoiceLemmas.{bad_by, none_is_planned, taken_is_planned}

-- ---- the order of good candidates

abbrev used_of : Candidate → ℕ
used_of candidate = unwrap_or candidate.used 0

-- by two numbers
record Beats (a b c d : ℕ) : Type 0 where
  is : (b < a) ⊎ ((a ≡ b) × (c < d))

better_by : (b e u : Bool) → (b || e && u) ≡ true → (b ≡ true) ⊎ ((e ≡ true) × (u ≡ true))
better_by true e u is = inl refl
better_by false true true is = inr (refl, refl)
better_by false true false is = absurd (cc)
better_by false false u is = absurd (cc)

beats : (a b c d : ℕ) → (nat_lt b a || a == b && nat_lt c d) ≡ true → Beats a b c d
beats a b c d is = by (better_by (nat_lt b a) (a == b) (nat_lt c d) is)
  where
    by : (nat_lt b a ≡ true) ⊎ (((a == b) ≡ true) × (nat_lt c d ≡ true)) → Beats a b c d
    by (inl less) = record { is = inl (ltb-true b a less) }
    by (inr both) = record { is = inr (eqb-true a b both.0, ltb-true c d both.1) }

or_true : (b : Bool) → (b || true) ≡ true
or_true true = refl
or_true false = refl

better : (a b c d : ℕ) → Beats a b c d → (nat_lt b a || a == b && nat_lt c d) ≡ true
better a b c d beaten = by beaten.is
  where
    by : (b < a) ⊎ ((a ≡ b) × (c < d)) → (nat_lt b a || a == b && nat_lt c d) ≡ true
    by (inl less) = ap (λ (t : Bool). t || a == b && nat_lt c d) (lt-ltb b a less)
    by (inr both) =
        (λ i. nat_lt b a || eq-eqb a b both.0 i && lt-ltb c d both.1 i) ∙ or_true (nat_lt b a)

-- what is better than a better one is better; and so is what is better than one that isn't worse
beats_more : (a b c u v w : ℕ) → Beats a b u v → Beats b c v w → Beats a c u w
beats_more a b c u v w first second = by first.is second.is
  where
    by : (b < a) ⊎ ((a ≡ b) × (u < v)) → (c < b) ⊎ ((b ≡ c) × (v < w)) → Beats a c u w
    by (inl x) (inl y) = record { is = inl (omega (arith, x, y)) }
    by (inl x) (inr y) = record { is = inl (let e = y.0 in omega (arith, x, e)) }
    by (inr x) (inl y) = record { is = inl (let e = x.0 in omega (arith, e, y)) }
    by (inr x) (inr y) = let e = x.0 in let f = y.0 in let p = x.1 in let q = y.1 in
        let same : a ≡ c = omega (arith, e, f) in let less : u < w = omega (arith, p, q) in record { is = inr (same, less) }

-- by numbers that aren't less
not_less : (a b : ℕ) → (a < b → ⊥) → b ≤ a
not_less a b not_so = by (nat_lt a b) refl
  where
    by : (less : Bool) → nat_lt a b ≡ less → b ≤ a
    by true is = absurd (not_so (ltb-true a b is))
    by false is = ltb-false a b is

beats_others : (a b c u v w : ℕ) → Beats a b u v → (Beats c b w v → ⊥) → Beats a c u w
beats_others a b c u v w first not_so = by first.is
  where
    little : c ≤ b
    little = not_less b c (λ less. not_so (record { is = inl less }))

    late : c ≡ b → v ≤ w
    late same = not_less w v (λ less. not_so (record { is = inr (same, less) }))

    by : (b < a) ⊎ ((a ≡ b) × (u < v)) → Beats a c u w
    by (inl x) = record { is = inl (let low = little in omega (arith, x, low)) }
    by (inr x) = at (nat_lt c b) refl
      where
        at : (less : Bool) → nat_lt c b ≡ less → Beats a c u w
        at true is =
            let e = x.0 in
            let less : c < b = ltb-true c b is in
            record { is = inl (omega (arith, e, less)) }
        at false is =
            let e = x.0 in
            let p = x.1 in
            let low = little in
            let high : b ≤ c = ltb-false c b is in
            let same : c ≡ b = omega (arith, low, high) in
            let more = late same in
            let equal : a ≡ c = omega (arith, e, same) in
            let less : u < w = omega (arith, p, more) in
            record { is = inr (equal, less) }

better_more : (x y z : Candidate) → is_better x y ≡ true → is_better y z ≡ true → is_better x z ≡ true
better_more x y z first second =
    better (time_left x.tightest) (time_left z.tightest) (used_of x) (used_of z)
    (beats_more (time_left x.tightest) (time_left y.tightest) (time_left z.tightest) (used_of x) (used_of y) (used_of z)
    (beats (time_left x.tightest) (time_left y.tightest) (used_of x) (used_of y) first)
    (beats (time_left y.tightest) (time_left z.tightest) (used_of y) (used_of z) second))

both_ways : (b : Bool) → b ≡ true → b ≡ false → ⊥
both_ways b yes_is no_is = let both = sym yes_is ∙ no_is in absurd cc

better_others : (x y z : Candidate) → is_better x y ≡ true → is_better z y ≡ false → is_better x z ≡ true
better_others x y z first not_so =
    better (time_left x.tightest) (time_left z.tightest) (used_of x) (used_of z)
    (beats_others (time_left x.tightest) (time_left y.tightest) (time_left z.tightest) (used_of x) (used_of y) (used_of z)
    (beats (time_left x.tightest) (time_left y.tightest) (used_of x) (used_of y) first)
    (λ beaten. both_ways (is_better z y) (better (time_left z.tightest) (time_left y.tightest) (used_of z) (used_of y) beaten) not_so))

-- ---- candidates that are judged

abbrev Loses : Candidate → Candidate → Type 0
Loses candidate other = IsBad other ⊎ (is_better candidate other ≡ true)

abbrev NotBetter : Candidate → Candidate → Type 0
NotBetter candidate other = IsBad other ⊎ (is_better other candidate ≡ false)

-- what loses against one loses against a better one; and so does what isn't better than one
all_lose : (new old : Candidate) (reported : List Candidate) → is_better new old ≡ true → All (Loses old) reported → All (Loses new) reported
all_lose new old [] is all = All-nil (Loses new)
all_lose new old (other ∷ reported) is all =
    All-cons (Loses new) other reported (by (All-head (Loses old) other reported all)) (all_lose new old reported is (All-tail (Loses old) other reported all))
  where
    by : Loses old other → Loses new other
    by (inl bad) = inl bad
    by (inr less) = inr (better_more new old other is less)

all_after_lose : (new old : Candidate) (reported : List Candidate) → is_better new old ≡ true → All (NotBetter old) reported → All (Loses new) reported
all_after_lose new old [] is all = All-nil (Loses new)
all_after_lose new old (other ∷ reported) is all =
    All-cons (Loses new) other reported (by (All-head (NotBetter old) other reported all)) (all_after_lose new old reported is (All-tail (NotBetter old) other reported all))
  where
    by : NotBetter old other → Loses new other
    by (inl bad) = inl bad
    by (inr not_so) = inr (better_others new old other is not_so)

all_bad_lose : (new : Candidate) (reported : List Candidate) → All IsBad reported → All (Loses new) reported
all_bad_lose new [] all = All-nil (Loses new)
all_bad_lose new (other ∷ reported) all =
    All-cons (Loses new) other reported (inl (All-head IsBad other reported all)) (all_bad_lose new reported (All-tail IsBad other reported all))

module _ (network : NetworkDomain) (streams : List SettledStream) (tries : ℕ) where
  -- lists of verdicts are put together
  judged_join : (before following : List ℕ) (reported written_after : List Candidate) → AreJudgedBy network streams tries before reported →
      AreJudgedBy network streams tries following written_after → AreJudgedBy network streams tries (before ++ following) (reported ++ written_after)
  judged_join [] following [] written_after first second = second
  judged_join [] following (other ∷ reported) written_after first second = absurd first
  judged_join (cycle ∷ before) following [] written_after first second = absurd first
  judged_join (cycle ∷ before) following (other ∷ reported) written_after first second = (first.0, judged_join before following reported written_after first.1 second)

  -- the verdict on a good one
  good_judged : (cycle_time : ℕ) (tried : Tried) → IsGoodOn network streams tries cycle_time tried → IsJudgedBy network streams tries cycle_time tried.candidate
  good_judged cycle_time tried good =
      let there = good.tried_is in
      record {
        shut = λ short. let above = good.open_to in absurd (omega (arith, short, above));
        open_to = λ above. (there.placed, there.are_placed, there.tried_by.candidate_is);
      }

  -- ---- one more candidate

  -- the first good one
  best_first : (cycles : List ℕ) (cycle_time : ℕ) (reported : List Candidate) (tried : Tried) → AreJudgedBy network streams tries cycles reported → All IsBad reported →
      IsGoodOn network streams tries cycle_time tried → IsBestOf network streams tries (cycles ++ cycle_time ∷ []) tried
  best_first cycles cycle_time reported tried judged bad good = record {
    before = cycles;
    cycle_time = cycle_time;
    following = [];
    among = refl;
    good = good;
    best = record {
      reported = reported;
      judged = judged;
      better = all_bad_lose tried.candidate reported bad;
      written_after = [];
      judged_after = tt;
      none_better = All-nil (NotBetter tried.candidate);
    };
  }

  -- a better one
  best_next : (cycles : List ℕ) (cycle_time : ℕ) (old tried : Tried) → IsBestOf network streams tries cycles old → IsGoodOn network streams tries cycle_time tried →
      is_better tried.candidate old.candidate ≡ true → IsBestOf network streams tries (cycles ++ cycle_time ∷ []) tried
  best_next cycles cycle_time old tried so_far good is =
      let best = so_far.best in
      let own = good_judged so_far.cycle_time old so_far.good in
      let judged : AreJudgedBy network streams tries (so_far.before ++ (so_far.cycle_time ∷ so_far.following)) (best.reported ++ (old.candidate ∷ best.written_after)) =
      judged_join so_far.before (so_far.cycle_time ∷ so_far.following) best.reported (old.candidate ∷ best.written_after) best.judged (own, best.judged_after) in
      record {
        before = cycles;
        cycle_time = cycle_time;
        following = [];
        among = refl;
        good = good;
        best = record {
          reported = best.reported ++ (old.candidate ∷ best.written_after);
          judged = subst (λ (xs : List ℕ). AreJudgedBy network streams tries xs (best.reported ++ (old.candidate ∷ best.written_after))) (sym so_far.among) judged;
          better = All-append (Loses tried.candidate) best.reported (old.candidate ∷ best.written_after)
              (all_lose tried.candidate old.candidate best.reported is best.better)
              (All-cons (Loses tried.candidate) old.candidate best.written_after (inr is)
              (all_after_lose tried.candidate old.candidate best.written_after is best.none_better));
          written_after = [];
          judged_after = tt;
          none_better = All-nil (NotBetter tried.candidate);
        };
      }

  -- one that isn't better
  best_stays : (cycles : List ℕ) (cycle_time : ℕ) (old : Tried) (candidate : Candidate) → IsBestOf network streams tries cycles old →
      IsJudgedBy network streams tries cycle_time candidate → NotBetter old.candidate candidate → IsBestOf network streams tries (cycles ++ cycle_time ∷ []) old
  best_stays cycles cycle_time old candidate so_far judged not_so =
      let best = so_far.best in
      record {
        before = so_far.before;
        cycle_time = so_far.cycle_time;
        following = so_far.following ++ cycle_time ∷ [];
        among = ap (λ (xs : List ℕ). xs ++ cycle_time ∷ []) so_far.among ∙ append_assoc so_far.before (so_far.cycle_time ∷ so_far.following) (cycle_time ∷ []);
        good = so_far.good;
        best = record {
          reported = best.reported;
          judged = best.judged;
          better = best.better;
          written_after = best.written_after ++ candidate ∷ [];
          judged_after = judged_join so_far.following (cycle_time ∷ []) best.written_after (candidate ∷ []) best.judged_after (judged, tt);
          none_better = All-push (NotBetter old.candidate) best.written_after candidate best.none_better not_so;
        };
      }

  -- the better of two choices is the best of one more
  choice_more : (cycles : List ℕ) (cycle_time : ℕ) (so : Option Choice) (next : Choice) → ComesOfSome network streams tries cycles so →
      ComesOf network streams tries cycle_time next → ComesOfSome network streams tries (cycles ++ cycle_time ∷ []) (Some (preferred so next))
  choice_more cycles cycle_time None (choice.Planned tried) none good =
      subst (λ (xs : List ℕ). IsBestOf network streams tries (xs ++ cycle_time ∷ []) tried) (sym none)
      (best_first [] cycle_time [] tried tt (All-nil IsBad) good)
  choice_more cycles cycle_time None (choice.Unplanned candidate) none bad =
      subst (λ (xs : List ℕ). AreBad network streams tries (xs ++ cycle_time ∷ []) (Some candidate)) (sym none)
      (bad_by network streams tries [] cycle_time None candidate candidate (record { reported = []; judged = tt; bad = All-nil IsBad; nearest_is = refl; nearest_bad = tt })
      bad refl)
  choice_more cycles cycle_time (Some (choice.Planned first)) (choice.Planned second) so_far good =
      by (is_better second.candidate first.candidate) refl
    where
      by : (more : Bool) → is_better second.candidate first.candidate ≡ more →
          ComesOfSome network streams tries (cycles ++ cycle_time ∷ []) (Some (if more then choice.Planned second else choice.Planned first))
      by true is = best_next cycles cycle_time first second so_far good is
      by false is = best_stays cycles cycle_time first second.candidate so_far (good_judged cycle_time second good) (inr is)
  choice_more cycles cycle_time (Some (choice.Planned first)) (choice.Unplanned candidate) so_far bad =
      best_stays cycles cycle_time first candidate so_far bad.judged (inl bad.bad)
  choice_more cycles cycle_time (Some (choice.Unplanned candidate)) (choice.Planned second) so_far good =
      best_first cycles cycle_time so_far.reported second so_far.judged so_far.bad good
  choice_more cycles cycle_time (Some (choice.Unplanned first)) (choice.Unplanned second) so_far bad =
      bad_by network streams tries cycles cycle_time (Some first) second (nearer_of first second) so_far bad refl

  pub choice_step : (cycles : List ℕ) (k cycle_time : ℕ) (so : Option Choice) (next : Choice) (low : k < length cycles) → cycle_time ≡ get_or cycles k cycle_time →
      ComesOfSome network streams tries (take k cycles) so → ComesOf network streams tries cycle_time next →
      ComesOfSome network streams tries (take (k + 1) cycles) (Some (preferred so next))
  choice_step cycles k cycle_time so next low is so_far here =
      let more : take (k + 1) cycles ≡ take k cycles ++ cycle_time ∷ [] =
      take_more cycles k cycle_time low ∙ ap (λ x. take k cycles ++ x ∷ []) (sym is) in
      subst (λ (xs : List ℕ). ComesOfSome network streams tries xs (Some (preferred so next))) (sym more)
      (choice_more (take k cycles) cycle_time so next so_far here)

-- after all of them
pub best_is_chosen : (network : NetworkDomain) (streams : List SettledStream) (search : Search) (so : Choice) → search.best ≡ true →
    All (IsPlaceable (open_domain network)) streams → ComesOfSome network streams search.tries network.candidates (Some so) → ComesOfAll network streams search so
best_is_chosen network streams search (choice.Planned tried) best placeable so_far =
    taken_is_planned network streams search so_far.before so_far.cycle_time so_far.following tried so_far.among placeable so_far.good
    (subst (λ (b : Bool). IsTaken b network streams search.tries so_far.before so_far.following tried.candidate) (sym best) so_far.best)
best_is_chosen network streams search (choice.Unplanned nearest) best placeable so_far =
    none_is_planned network streams search network.candidates nearest refl so_far
