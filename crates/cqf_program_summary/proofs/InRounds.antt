-- The legs that are kept and written round by round.
use Rattle.std.proofs.Common.{ℕ, ◌≡◌, ◌∙◌, ◌+◌, ◌-◌, ◌<◌, ◌≤◌, ◌++◌, ◌⊎◌, [], Bool, true, List, Contains, ap, arith, drop, filter, inl, inr, length, map, refl, subst, sym, take}
use Rattle.std.specs.Prelude.{min, nat_le, nat_lt}
use Rattle.std.proofs.lemmas.Bool.{cases_lt, le-ltb, lt-ltb}
use Rattle.std.proofs.lemmas.Bool.Decides.{nat_tests}
use Rattle.std.proofs.lemmas.List.{drop-drop, drop-take, length-append, map-append, take-append-drop}
use Rattle.std.proofs.lemmas.List.Elements.{Contains-append_cases, Contains-append_left, Contains-append_right, filter-append}
use Rattle.cqf_lists.proofs.EachBelow.{filter_each, filter_none}
use Rattle.cqf_lists.proofs.Filters.{filter_weaker}
use Rattle.cqf_lists.proofs.Fronts.{each_front, filter_front}
use Rattle.cqf_lists.proofs.Members.{contains_filter, contains_from_filter, contains_from_map, contains_map}
use Rattle.cqf_instants.specs.Meaning.{Given as GivenRun}
use Rattle.cqf_instants.specs.Progress.{AreStartsOf, starts_of_cycle}
use Rattle.cqf_instants.specs.declared.basis.Basis.{Basis}
use Rattle.cqf_instants.proofs.Steps.{starts_more}
use Rattle.cqf_model.specs.declared.frames.Dropped.{Dropped}
use Rattle.cqf_model.specs.declared.frames.Started.{Started}
use Rattle.cqf_program_runs.specs.Deliveries.UnderWay.{starts_written}
use Rattle.cqf_program_runs.proofs.WrittenStarts.{of_its_cycle, written_in as written_in_cycles}
use Rattle.cqf_program_summary.specs.declared.hops.legs.Leg.{Leg}
use Rattle.cqf_program_summary.specs.declared.hops.legs.Leg.TheVariants as leg
use Rattle.cqf_program_summary.specs.declared.hops.rounds.Round.{Round}
use Rattle.cqf_program_summary.specs.Hops.Gathered.{kept_legs}
use Rattle.cqf_program_summary.specs.Hops.Legs.{frame_of, is_wanted}
use Rattle.cqf_program_summary.specs.Hops.Rounds.{Source, dropped_legs, kept_in, legs_after, legs_of_run, legs_up_to, started_legs, starts_before, written_in}

-- more starts are kept
pub started_more : (source : Source) (xs ys : List Started) → started_legs source (xs ++ ys) ≡ started_legs source xs ++ started_legs source ys
started_more source xs ys =
    ap (kept_legs source.offers source.wanted) (map-append leg.Started xs ys)
    ∙ filter-append (λ (x : Leg). is_wanted source.offers source.wanted (frame_of x)) (map leg.Started xs) (map leg.Started ys)

pub dropped_more : (source : Source) (xs ys : List Dropped) → dropped_legs source (xs ++ ys) ≡ dropped_legs source xs ++ dropped_legs source ys
dropped_more source xs ys =
    ap (kept_legs source.offers source.wanted) (map-append leg.Dropped xs ys)
    ∙ filter-append (λ (x : Leg). is_wanted source.offers source.wanted (frame_of x)) (map leg.Dropped xs) (map leg.Dropped ys)

pub after_more : (frames : ℕ) (xs ys : List Leg) → legs_after frames (xs ++ ys) ≡ legs_after frames xs ++ legs_after frames ys
after_more frames xs ys = filter-append (λ (x : Leg). nat_lt frames (frame_of x)) xs ys

pub kept_more : (source : Source) (round : Round) (xs ys : List Started) → kept_in source round (xs ++ ys) ≡ kept_in source round xs ++ kept_in source round ys
kept_more source round xs ys =
    ap (legs_after round.frames) (started_more source xs ys) ∙ after_more round.frames (started_legs source xs) (started_legs source ys)

-- the legs after more frames
pub kept_next : (source : Source) (before round : Round) (starts : List Started) → before.frames ≤ round.frames →
    legs_after round.frames (kept_in source before starts) ≡ kept_in source round starts
kept_next source before round starts more =
    sym (filter_weaker (λ (x : Leg). nat_lt round.frames (frame_of x)) (λ (x : Leg). nat_lt before.frames (frame_of x)) (started_legs source starts)
    (λ x among passes. further (frame_of x) passes))
  where
    further : (n : ℕ) → nat_lt round.frames n ≡ true → nat_lt before.frames n ≡ true
    further n passes = grind (arith, nat_tests)

-- the starts of a run's first cycles
module _ (given : GivenRun) (cycles : ℕ) (starts : List Started) (are : starts ≡ starts_written given cycles) where
  early : (n : ℕ) → n ≤ cycles → starts_before n starts ≡ starts_written given n
  early n le =
      ap (starts_before n) are
      ∙ filter_front (λ (s : Started). nat_lt s.cycle.0 n) (starts_of_cycle given) n cycles le
      (λ k s less among. lt-ltb s.cycle.0 n (omega (arith, of_its_cycle given k s among, less)))
      (λ k s more among. le-ltb s.cycle.0 n (omega (arith, of_its_cycle given k s among, more)))

  pub all_before : (n : ℕ) → cycles ≤ n → starts_before n starts ≡ starts
  all_before n le =
      filter_each (λ (s : Started). nat_lt s.cycle.0 n) starts
      (λ s among. lt-ltb s.cycle.0 n (omega (arith, written_in_cycles given cycles s (subst (λ (ss : List Started). Contains ss s) are among), le)))

  pub before_is : (n : ℕ) → starts_before n starts ≡ starts_written given (min n cycles)
  before_is n = by (cases_lt n cycles)
    where
      by : (n < cycles) ⊎ (cycles ≤ n) → starts_before n starts ≡ starts_written given (min n cycles)
      by (inl lt) = (let least : n ≡ min n cycles = omega (arith, lt) in early n (omega (arith, lt)) ∙ ap (starts_written given) least)
      by (inr le) = (let least : cycles ≡ min n cycles = omega (arith, le) in all_before n le ∙ are ∙ ap (starts_written given) least)

  -- one cycle more
  pub before_next : (n : ℕ) → n < cycles → starts_before (n + 1) starts ≡ starts_before n starts ++ starts_of_cycle given n
  before_next n inside =
      early (n + 1) (omega (arith, inside)) ∙ sym (starts_more given n)
      ∙ ap (λ (ss : List Started). ss ++ starts_of_cycle given n) (sym (early n (omega (arith, inside))))

  -- fewer cycles keep no more
  pub keeps_fewer : (source : Source) (round : Round) (a b : ℕ) → a ≤ b →
      length (kept_in source round (starts_before a starts)) ≤ length (kept_in source round (starts_before b starts))
  keeps_fewer source round a b le =
      let front = each_front (starts_of_cycle given) (min a cycles) (min b cycles) (omega (arith, le)) in
      omega (
        arith,
        ap (λ (ss : List Started). length (kept_in source round ss)) (before_is a),
        ap (λ (ss : List Started). length (kept_in source round ss)) (before_is b ∙ front.is),
        ap (λ (xs : List Leg). length xs) (kept_more source round (starts_written given (min a cycles)) front.rest),
        length-append (kept_in source round (starts_written given (min a cycles))) (kept_in source round front.rest),
      )

-- the starts of a cycle more are kept
pub writes_more : (starts : List Started) (source : Source) (index : ℕ) (basis : Basis) (are : AreStartsOf basis starts) (at : Round) (before after : List Leg)
    (reported : ℕ) (more : List Started) → reported ≡ index → index < basis.cycles → before ≡ kept_in source at (starts_before index starts) →
    after ≡ before ++ legs_after at.frames (started_legs source more) → more ≡ starts_of_cycle are.given reported →
    after ≡ kept_in source at (starts_before (index + 1) starts)
writes_more starts source index basis are at before after reported more is inside kept pushed those =
    pushed ∙ (λ i. kept i ++ kept_in source at (those i))
    ∙ ap (λ (n : ℕ). kept_in source at (starts_before index starts) ++ kept_in source at (starts_of_cycle are.given n)) is
    ∙ sym (kept_more source at (starts_before index starts) (starts_of_cycle are.given index))
    ∙ ap (kept_in source at) (sym (before_next are.given basis.cycles starts are.are index inside))

-- and there is room for them if there is room for the starts of more cycles
pub room_to_write : (starts : List Started) (source : Source) (index cycles : ℕ) (basis : Basis) (are : AreStartsOf basis starts) (at : Round) (before : List Leg)
    (reported : ℕ) (more : List Started) (first now : ℕ) → reported ≡ index → index < basis.cycles → index < cycles →
    before ≡ kept_in source at (starts_before index starts) → more ≡ starts_of_cycle are.given reported →
    length (kept_in source at (starts_before cycles starts)) ≤ first → first ≤ now →
    length before + length (legs_after at.frames (started_legs source more)) ≤ now
room_to_write starts source index cycles basis are at before reported more first now is inside upto kept those fits room =
    let after = before ++ legs_after at.frames (started_legs source more) in
    let next = writes_more starts source index basis are at before after reported more is inside kept refl those in
    omega (
      arith,
      length-append before (legs_after at.frames (started_legs source more)),
      ap (λ (xs : List Leg). length xs) next,
      keeps_fewer are.given basis.cycles starts are.are source at (index + 1) cycles (omega (arith, upto)),
      fits,
      room,
    )

-- before the first cycle there are none
pub none_before : (starts : List Started) → starts_before 0 starts ≡ []
none_before starts = filter_none (λ (s : Started). nat_lt s.cycle.0 0) starts (λ s among. le-ltb s.cycle.0 0 (omega arith))

-- whether a leg is wanted; a wanted leg of a list of starts is that of one of them, and so for drops
abbrev wants : Source → Leg → Bool
wants source x = is_wanted source.offers source.wanted (frame_of x)

pub started_from : (source : Source) (xs : List Started) (x : Leg) → Contains (started_legs source xs) x →
    (s : Started) × Contains xs s × (leg.Started s ≡ x) × (wants source x ≡ true)
started_from source xs x among =
    let kept = contains_from_filter (wants source) (map leg.Started xs) x among in
    let from = contains_from_map leg.Started xs x kept.0 in
    (from.0, from.1, from.2, kept.1)

pub started_to : (source : Source) (xs : List Started) (s : Started) (x : Leg) → Contains xs s → leg.Started s ≡ x → wants source x ≡ true →
    Contains (started_legs source xs) x
started_to source xs s x among is passes =
    contains_filter (wants source) (map leg.Started xs) x (subst (λ (y : Leg). Contains (map leg.Started xs) y) is (contains_map leg.Started xs s among)) passes

pub dropped_from : (source : Source) (xs : List Dropped) (x : Leg) → Contains (dropped_legs source xs) x →
    (z : Dropped) × Contains xs z × (leg.Dropped z ≡ x) × (wants source x ≡ true)
dropped_from source xs x among =
    let kept = contains_from_filter (wants source) (map leg.Dropped xs) x among in
    let from = contains_from_map leg.Dropped xs x kept.0 in
    (from.0, from.1, from.2, kept.1)

pub dropped_to : (source : Source) (xs : List Dropped) (z : Dropped) (x : Leg) → Contains xs z → leg.Dropped z ≡ x → wants source x ≡ true →
    Contains (dropped_legs source xs) x
dropped_to source xs z x among is passes =
    contains_filter (wants source) (map leg.Dropped xs) x (subst (λ (y : Leg). Contains (map leg.Dropped xs) y) is (contains_map leg.Dropped xs z among)) passes

-- the part of a list from one index up to another
module _ {X : Type 0} (xs : List X) (a b : ℕ) (le : a ≤ b) (z : X) where
  abbrev between : List X
  between = take (b - a) (drop a xs)

  pub after_first : Contains between z → Contains (drop a xs) z
  after_first among =
      subst (λ (ys : List X). Contains ys z) (take-append-drop (b - a) (drop a xs)) (Contains-append_left between (drop (b - a) (drop a xs)) z among)

  pub before_last : Contains between z → Contains (take b xs) z
  before_last among =
      let whole : a + (b - a) ≡ b = omega (arith, le) in
      let is : between ≡ drop a (take b xs) = sym (drop-take a (b - a) xs) ∙ ap (λ (n : ℕ). drop a (take n xs)) whole in
      subst (λ (ys : List X). Contains ys z) (take-append-drop a (take b xs))
      (Contains-append_right (take a (take b xs)) (drop a (take b xs)) z (subst (λ (ys : List X). Contains ys z) is among))

  pub is_between : Contains xs z → (Contains (take a xs) z → ⊥) → (Contains (drop b xs) z → ⊥) → Contains between z
  is_between among not_first not_last =
      let whole : a + (b - a) ≡ b = omega (arith, le) in
      let rest : drop (b - a) (drop a xs) ≡ drop b xs = drop-drop (b - a) a xs ∙ ap (λ (n : ℕ). drop n xs) whole in
      elim (Contains-append_cases (take a xs) (drop a xs) z (subst (λ (ys : List X). Contains ys z) (sym (take-append-drop a xs)) among)) [
        | inl first ↦ absurd (not_first first)
        | inr second ↦ elim (Contains-append_cases between (drop (b - a) (drop a xs)) z
            (subst (λ (ys : List X). Contains ys z) (sym (take-append-drop (b - a) (drop a xs))) second)) [
              | inl here ↦ here
              | inr last ↦ absurd (not_last (subst (λ (ys : List X). Contains ys z) rest last))
            ]
      ]

-- the legs that are written in a round are all legs of a run for the frames between this round and the one before it
module _ (source : Source) (starts : List Started) (before round : Round) (frames_later : before.frames ≤ round.frames)
    (drops_later : before.drops ≤ round.drops)
    (not_yet : (z : Dropped) → Contains (drop before.drops source.drops) z → before.frames < z.frame)
    (first : (z : Dropped) → Contains (take before.drops source.drops) z → z.frame ≤ before.frames)
    (dropped : (z : Dropped) → Contains (take round.drops source.drops) z → z.frame ≤ round.frames)
    (last : (z : Dropped) → Contains (drop round.drops source.drops) z → round.frames < z.frame)
    (soon : (s : Started) → Contains starts s → s.frame ≤ round.frames → s.cycle.0 < round.cycles) where
  abbrev early_starts : List Started
  early_starts = starts_before round.cycles starts

  abbrev own_drops : List Dropped
  own_drops = take (round.drops - before.drops) (drop before.drops source.drops)

  abbrev reported : List Leg
  reported = written_in source before round early_starts

  pub only_in_round : (x : Leg) → Contains reported x → Contains (legs_of_run source starts) x × (before.frames < frame_of x) × (frame_of x ≤ round.frames)
  only_in_round x among = elim (Contains-append_cases (legs_up_to round.frames (kept_in source before early_starts)) (dropped_legs source own_drops) x among) [
    | inl started ↦
        let upto = contains_from_filter (λ (y : Leg). nat_le (frame_of y) round.frames) (kept_in source before early_starts) x started in
        let following = contains_from_filter (λ (y : Leg). nat_lt before.frames (frame_of y)) (started_legs source early_starts) x upto.0 in
        let from = started_from source early_starts x following.0 in
        let in_run = contains_from_filter (λ (s : Started). nat_lt s.cycle.0 round.cycles) starts from.0 from.1 in (
          Contains-append_left (started_legs source starts) (dropped_legs source source.drops) x
              (started_to source starts from.0 x in_run.0 from.2 from.3),
          lt_from (frame_of x) following.1,
          le_from (frame_of x) upto.1,
        )
    | inr drops ↦
        let from = dropped_from source own_drops x drops in
        let frame : from.0.frame ≡ frame_of x = ap frame_of from.2 in
        let there = after_first source.drops before.drops round.drops drops_later from.0 from.1 in (
          Contains-append_right (started_legs source starts) (dropped_legs source source.drops) x
              (dropped_to source source.drops from.0 x
              (subst (λ (ys : List Dropped). Contains ys from.0) (take-append-drop before.drops source.drops)
              (Contains-append_right (take before.drops source.drops) (drop before.drops source.drops) from.0 there)) from.2 from.3),
          omega (arith, not_yet from.0 there, frame),
          omega (arith, dropped from.0 (before_last source.drops before.drops round.drops drops_later from.0 from.1), frame),
        )
  ]
    where
      lt_from : (n : ℕ) → nat_lt before.frames n ≡ true → before.frames < n
      lt_from n passes = grind (arith, nat_tests)

      le_from : (n : ℕ) → nat_le n round.frames ≡ true → n ≤ round.frames
      le_from n passes = grind (arith, nat_tests)

  pub each_in_round : (x : Leg) → Contains (legs_of_run source starts) x → before.frames < frame_of x → frame_of x ≤ round.frames → Contains reported x
  each_in_round x among more upto = elim (Contains-append_cases (started_legs source starts) (dropped_legs source source.drops) x among) [
    | inl started ↦
        let from = started_from source starts x started in
        let frame : from.0.frame ≡ frame_of x = ap frame_of from.2 in
        let in_time : from.0.cycle.0 < round.cycles = soon from.0 from.1 (omega (arith, frame, upto)) in
        Contains-append_left (legs_up_to round.frames (kept_in source before early_starts)) (dropped_legs source own_drops) x
        (contains_filter (λ (y : Leg). nat_le (frame_of y) round.frames) (kept_in source before early_starts) x
        (contains_filter (λ (y : Leg). nat_lt before.frames (frame_of y)) (started_legs source early_starts) x
        (started_to source early_starts from.0 x
        (contains_filter (λ (s : Started). nat_lt s.cycle.0 round.cycles) starts from.0 from.1 (lt-ltb from.0.cycle.0 round.cycles in_time)) from.2 from.3)
        (to_lt (frame_of x) more))
        (to_le (frame_of x) upto))
    | inr drops ↦
        let from = dropped_from source source.drops x drops in
        let frame : from.0.frame ≡ frame_of x = ap frame_of from.2 in
        Contains-append_right (legs_up_to round.frames (kept_in source before early_starts)) (dropped_legs source own_drops) x
        (dropped_to source own_drops from.0 x
        (is_between source.drops before.drops round.drops drops_later from.0 from.1
        (λ k. absurd (omega (arith, first from.0 k, frame, more)))
        (λ k. absurd (omega (arith, last from.0 k, frame, upto))))
        from.2 from.3)
  ]
    where
      to_lt : (n : ℕ) → before.frames < n → nat_lt before.frames n ≡ true
      to_lt n less = grind (arith, nat_tests)

      to_le : (n : ℕ) → n ≤ round.frames → nat_le n round.frames ≡ true
      to_le n le = grind (arith, nat_tests)
