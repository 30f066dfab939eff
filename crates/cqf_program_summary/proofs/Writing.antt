-- Rounds that are written one after another write all legs in order.
use Rattle.std.proofs.Common.{ℕ, ◌≡◌, ◌≢◌, ◌∙◌, ◌-◌, ◌<◌, ◌≤◌, ◌++◌, ◌+◌, All, List, AllPairs, Contains, ap, append_assoc, arith, drop, get_or, inl, inr, length, map, subst, sym, take}
use Rattle.std.specs.Prelude.{nat_le, nat_lt, slice_get, suc, vec_capacity, zero}
use Rattle.std.proofs.lemmas.Bool.{cases_lt}
use Rattle.std.proofs.lemmas.Grind.{flat_map-append}
use Rattle.std.proofs.lemmas.List.Elements.{All-contains, Contains-append_cases, Contains-append_left, Contains-append_right}
use Rattle.std.proofs.lemmas.List.Kept.{AllPairs-filter}
use Rattle.std.proofs.lemmas.List.Sorted.{Contains-permutation, IsPermutation-sym}
use Rattle.std.proofs.lemmas.Option.{slice_get_within}
use Rattle.std.proofs.lemmas.List.{get_or_append_left, length-append, take-append-drop}
use Rattle.cqf_lists.proofs.Members.{all_from_members, contains_from_filter}
use Rattle.cqf_lists.proofs.Pairs.{pairs_append, pairs_map, pairs_second, pairs_weaker}
use Rattle.cqf_model.specs.declared.frames.Dropped.{Dropped}
use Rattle.cqf_model.specs.declared.frames.Started.{Started}
use Rattle.cqf_program_runs.specs.Deliveries.UnderWay.{IsInTime}
use Rattle.cqf_program_summary.specs.declared.hops.legs.Leg.{Leg}
use Rattle.cqf_program_summary.specs.declared.hops.legs.Leg.TheVariants as leg
use Rattle.cqf_program_summary.specs.declared.hops.rounds.Round.{Round}
use Rattle.cqf_program_summary.specs.declared.hops.steps.LegsUnderWay.{LegsUnderWay}
use Rattle.cqf_program_summary.specs.Hops.Gathered.{IsLegInTime}
use Rattle.cqf_program_summary.specs.Hops.Legs.{AreApart, AreByFrame, IsBefore, frame_of, is_wanted}
use Rattle.cqf_program_summary.specs.Hops.Rounds.{AreWrittenLegs, CanBeWritten, GoesOnFrom, HasRoom, IsLater, IsNextRound, RoundCanBeWritten, StandsAt, WritesRound, WrittenHops}
use Rattle.cqf_program_summary.specs.Hops.Rounds.{dropped_legs, kept_in, legs_of_run, legs_up_to, no_round, round_before, started_legs, starts_before, written_in}
use Rattle.cqf_program_summary.specs.Hops.Text.{hops_header, leg_fields, lines_of_legs}
use Rattle.cqf_report.specs.Written.{line_of_fields}
use Rattle.cqf_program_summary.proofs.InRounds.{after_first, dropped_from, each_in_round, only_in_round, started_from}
use Rattle.cqf_program_summary.proofs.Order.{one_order}

-- pairs of a part
pairs_first : {X : Type 0} (R : X → X → Type 0) (xs ys : List X) → AllPairs R (xs ++ ys) → AllPairs R xs
pairs_first {X} R xs ys all i j d less within =
    let one : get_or (xs ++ ys) i d ≡ get_or xs i d = get_or_append_left xs ys d i (omega (arith, less, within)) in
    let other : get_or (xs ++ ys) j d ≡ get_or xs j d = get_or_append_left xs ys d j within in
    subst (λ (a : X). R a (get_or xs j d)) one
    (subst (λ (b : X). R (get_or (xs ++ ys) i d) b) other (all i j d less (omega (arith, within, length-append xs ys))))

pairs_slice : {X : Type 0} (R : X → X → Type 0) (xs : List X) (a n : ℕ) → AllPairs R xs → AllPairs R (take n (drop a xs))
pairs_slice {X} R xs a n all =
    let following : AllPairs R (drop a xs) =
    pairs_second R (take a xs) (drop a xs) (subst (λ (zs : List X). AllPairs R zs) (sym (take-append-drop a xs)) all) in
    pairs_first R (take n (drop a xs)) (drop n (drop a xs)) (subst (λ (zs : List X). AllPairs R zs) (sym (take-append-drop n (drop a xs))) following)

-- the first k rounds are written: the legs of the frames up to the last of them, in order
pub record AreWrittenSoFar (starts : List Started) (reported : WrittenHops) (k : ℕ) (under_way : LegsUnderWay) (IsPut : List ℕ → Type 0) : Type 0 where
  pub stands : StandsAt starts reported.source under_way
  pub at : under_way.at ≡ round_before reported.rounds k
  pub kept_room : reported.kept_room ≤ vec_capacity under_way.kept
  pub here_room : reported.here_room ≤ vec_capacity under_way.here
  pub legs : List Leg
  pub in_order : AllPairs IsBefore legs
  pub only : (x : Leg) → Contains legs x → Contains (legs_of_run reported.source starts) x × (frame_of x ≤ under_way.at.frames)
  pub each : (x : Leg) → Contains (legs_of_run reported.source starts) x → frame_of x ≤ under_way.at.frames → Contains legs x
  pub put : IsPut (line_of_fields hops_header ++ lines_of_legs reported.domain reported.source.offers legs)

-- the round before each also has the property of rounds
module _ (starts : List Started) (reported : WrittenHops) (can : CanBeWritten starts reported) where
  abbrev Goes : Round → Type 0
  Goes = GoesOnFrom reported.domain can.hop_number reported.source.offers reported.source.drops

  goes_before : (k : ℕ) → k ≤ length reported.rounds → Goes (round_before reported.rounds k)
  goes_before zero le = can.rounds.first
  goes_before (suc k) le = (can.rounds.each k (omega (arith, le))).goes_on

  -- starts of its frames are returned in time
  in_time_of : (round : Round) → Goes round → (s : Started) → Contains starts s → s.frame ≤ round.frames → s.cycle.0 < round.cycles
  in_time_of round goes s among upto =
      let found = can.soon s among in
      omega (arith, goes.whole found.0 found.1 (omega (arith, found.3, upto)) found.2, found.4)

  -- all legs of a run are of its offers, and in time
  pub leg_frame : (x : Leg) → Contains (legs_of_run reported.source starts) x → (0 < frame_of x) × (frame_of x ≤ length reported.source.offers)
  leg_frame x among = elim (Contains-append_cases (started_legs reported.source starts) (dropped_legs reported.source reported.source.drops) x among) [
    | inl started ↦
        let from = started_from reported.source starts x started in
        let found = can.soon from.0 from.1 in
        let frame : from.0.frame ≡ frame_of x = ap frame_of from.2 in
        (omega (arith, frame, found.3), omega (arith, frame, found.3, slice_get_within reported.source.offers found.0 found.1 found.2))
    | inr dropped ↦
        let from = dropped_from reported.source reported.source.drops x dropped in
        let frame : from.0.frame ≡ frame_of x = ap frame_of from.2 in
        (omega (arith, frame, can.rounds.first.not_yet from.0 from.1), omega (arith, frame, can.of_offers from.0 from.1))
  ]

  pub leg_in_time : (x : Leg) → Contains (legs_of_run reported.source starts) x → IsLegInTime reported.domain x
  leg_in_time x among = elim (Contains-append_cases (started_legs reported.source starts) (dropped_legs reported.source reported.source.drops) x among) [
    | inl started ↦
        let from = started_from reported.source starts x started in
        subst (λ (y : Leg). IsLegInTime reported.domain y) from.2 (All-contains (IsInTime reported.domain) starts from.0 can.in_time from.1)
    | inr dropped ↦
        let from = dropped_from reported.source reported.source.drops x dropped in
        subst (λ (y : Leg). IsLegInTime reported.domain y) from.2 tt
  ]

  -- a round
  module _ (k : ℕ) (inside : k < length reported.rounds) where
    abbrev before : Round
    before = round_before reported.rounds k

    abbrev round : Round
    round = get_or reported.rounds k no_round

    abbrev next : IsNextRound reported.domain can.hop_number reported.source.offers reported.source.drops before round
    next = can.rounds.each k inside

    abbrev here : List Leg
    here = written_in reported.source before round (starts_before round.cycles starts)

    pub is_later : IsLater before round
    is_later = record { cycles = next.cycles_later; frames = next.frames_later; drops = next.drops_later }

    pub only_here : (x : Leg) → Contains here x → Contains (legs_of_run reported.source starts) x × (before.frames < frame_of x) × (frame_of x ≤ round.frames)
    only_here =
        only_in_round reported.source starts before round next.frames_later next.drops_later (goes_before k (omega (arith, inside))).not_yet
        (goes_before k (omega (arith, inside))).dropped next.goes_on.dropped next.goes_on.not_yet (in_time_of round next.goes_on)

    pub each_here : (x : Leg) → Contains (legs_of_run reported.source starts) x → before.frames < frame_of x → frame_of x ≤ round.frames → Contains here x
    each_here =
        each_in_round reported.source starts before round next.frames_later next.drops_later (goes_before k (omega (arith, inside))).not_yet
        (goes_before k (omega (arith, inside))).dropped next.goes_on.dropped next.goes_on.not_yet (in_time_of round next.goes_on)

    pub apart_here : AllPairs AreApart here
    apart_here =
        let source = reported.source in
        let early = starts_before round.cycles starts in
        let own = take (round.drops - before.drops) (drop before.drops source.drops) in
        let kept_early : AllPairs (λ (a b : Started). AreApart (leg.Started a) (leg.Started b)) early =
        AllPairs-filter (λ (a b : Started). AreApart (leg.Started a) (leg.Started b)) (λ (s : Started). nat_lt s.cycle.0 round.cycles) starts
        (pairs_weaker (λ (a b : Started). a.frame ≡ b.frame → a.link ≢ b.link) (λ (a b : Started). AreApart (leg.Started a) (leg.Started b)) starts
        (λ a b ca cb once frames instants links. once frames links) can.once) in
        let kept_own : AllPairs (λ (a b : Dropped). AreApart (leg.Dropped a) (leg.Dropped b)) own =
        pairs_weaker (λ (a b : Dropped). a.frame < b.frame) (λ (a b : Dropped). AreApart (leg.Dropped a) (leg.Dropped b)) own
        (λ a b ca cb less frames instants links. absurd (omega (arith, less, frames)))
        (pairs_slice (λ (a b : Dropped). a.frame < b.frame) source.drops before.drops (round.drops - before.drops) can.rise) in
        pairs_append AreApart (legs_up_to round.frames (kept_in source before early)) (dropped_legs source own)
        (AllPairs-filter AreApart (λ (x : Leg). nat_le (frame_of x) round.frames) (kept_in source before early)
        (AllPairs-filter AreApart (λ (x : Leg). nat_lt before.frames (frame_of x)) (started_legs source early)
        (AllPairs-filter AreApart (λ (x : Leg). is_wanted source.offers source.wanted (frame_of x)) (map leg.Started early)
        (pairs_map AreApart leg.Started early kept_early))))
        (AllPairs-filter AreApart (λ (x : Leg). is_wanted source.offers source.wanted (frame_of x)) (map leg.Dropped own)
        (pairs_map AreApart leg.Dropped own kept_own))
        (λ x y cx cy. λ frames instants links.
        let upto = contains_from_filter (λ (z : Leg). nat_le (frame_of z) round.frames) (kept_in source before early) x cx in
        let following = contains_from_filter (λ (z : Leg). nat_lt before.frames (frame_of z)) (started_legs source early) x upto.0 in
        let s = started_from source early x following.0 in
        let in_run = contains_from_filter (λ (z : Started). nat_lt z.cycle.0 round.cycles) starts s.0 s.1 in
        let z = dropped_from source own y cy in
        let there : Contains source.drops z.0 = subst (λ (ys : List Dropped). Contains ys z.0) (take-append-drop before.drops source.drops)
        (Contains-append_right (take before.drops source.drops) (drop before.drops source.drops) z.0
        (after_first source.drops before.drops round.drops next.drops_later z.0 z.1)) in
        can.apart s.0 z.0 in_run.0 there (ap frame_of s.2 ∙ frames ∙ sym (ap frame_of z.2)))

    pub in_time_here : All (IsLegInTime reported.domain) here
    in_time_here = all_from_members (IsLegInTime reported.domain) here (λ x among. leg_in_time x (only_here x among).0)

  -- after the last round all is written
  pub written_all : (legs sorted : List Leg) (frames : ℕ) → frames ≡ length reported.source.offers → AllPairs IsBefore legs →
      ((x : Leg) → Contains legs x → Contains (legs_of_run reported.source starts) x × (frame_of x ≤ frames)) →
      ((x : Leg) → Contains (legs_of_run reported.source starts) x → frame_of x ≤ frames → Contains legs x) → AreWrittenLegs starts reported sorted → legs ≡ sorted
  written_all legs sorted frames all in_order only each are =
      one_order legs sorted in_order are.in_order (λ x among. are.each x (only x among).0)
      (λ x among. let member = are.only x among in each x member (omega (arith, all, (leg_frame x member).1)))

-- one round more is written
module _ (starts : List Started) (reported : WrittenHops) (can : CanBeWritten starts reported) (k : ℕ) (inside : k < length reported.rounds)
    (old new : LegsUnderWay) (First More All_ : List ℕ → Type 0) (so_far : AreWrittenSoFar starts reported k old First) where
  abbrev own : Round
  own = get_or reported.rounds k no_round

  abbrev own_legs : List Leg
  own_legs = written_in reported.source old.at own (starts_before own.cycles starts)

  pub round_can : RoundCanBeWritten starts reported.domain reported.source own old
  round_can =
      let room = can.room k inside in
      let at = sym so_far.at in
      let more = subst (λ (b : Round). HasRoom starts reported.source b own (vec_capacity old.kept) (vec_capacity old.here)) at
      (record { for_kept = omega (arith, room.for_kept, so_far.kept_room); for_here = omega (arith, room.for_here, so_far.here_room) }) in
      record {
        stands = so_far.stands;
        room = more;
        apart = subst (λ (b : Round). AllPairs AreApart (written_in reported.source b own (starts_before own.cycles starts))) at
            (apart_here starts reported can k inside);
        in_time = subst (λ (b : Round). All (IsLegInTime reported.domain) (written_in reported.source b own (starts_before own.cycles starts))) at
            (in_time_here starts reported can k inside);
      }

  pub round_later : IsLater old.at own
  round_later = subst (λ (b : Round). IsLater b own) (sym so_far.at) (is_later starts reported can k inside)

  pub one_more_written : ((a b : List ℕ) → First a → More b → All_ (a ++ b)) → WritesRound starts reported.domain reported.source own old new More →
      AreWrittenSoFar starts reported (k + 1) new All_
  one_more_written join reports =
      let next : suc k ≡ k + 1 = omega arith in
      let before = round_before reported.rounds k in
      let frames : old.at.frames ≡ before.frames = ap (λ (r : Round). r.frames) so_far.at in
      let new_frames : new.at.frames ≡ own.frames = ap (λ (r : Round). r.frames) reports.at in
      let here = written_in reported.source before own (starts_before own.cycles starts) in
      let are : AreByFrame here reports.legs = subst (λ (b : Round). AreByFrame (written_in reported.source b own (starts_before own.cycles starts)) reports.legs) so_far.at
      reports.are in
      let only_one : (x : Leg) → Contains reports.legs x → Contains (legs_of_run reported.source starts) x × (before.frames < frame_of x) × (frame_of x ≤ own.frames) =
      λ x among. only_here starts reported can k inside x (Contains-permutation reports.legs here x (IsPermutation-sym here reports.legs are.same) among) in
      record {
        stands = reports.stands;
        at = reports.at ∙ ap (round_before reported.rounds) next;
        kept_room = omega (arith, so_far.kept_room, reports.room.kept);
        here_room = omega (arith, so_far.here_room, reports.room.here);
        legs = so_far.legs ++ reports.legs;
        in_order = pairs_append IsBefore so_far.legs reports.legs so_far.in_order are.in_order
            (λ x y cx cy. inl (omega (arith, (so_far.only x cx).1, (only_one y cy).1, frames)));
        only = λ x among. elim (Contains-append_cases so_far.legs reports.legs x among) [
          | inl early ↦ (
            (so_far.only x early).0,
            omega (arith, (so_far.only x early).1, frames, new_frames, (is_later starts reported can k inside).frames),
          )
          | inr late ↦ ((only_one x late).0, omega (arith, (only_one x late).2, new_frames))
        ];
        each = λ x among upto. elim (cases_lt old.at.frames (frame_of x)) [
          | inl more ↦ Contains-append_right so_far.legs reports.legs x
              (Contains-permutation here reports.legs x are.same
              (each_here starts reported can k inside x among (omega (arith, more, frames)) (omega (arith, upto, new_frames))))
          | inr le ↦ Contains-append_left so_far.legs reports.legs x (so_far.each x among le)
        ];
        put = subst (λ (text : List ℕ). All_ text)
            (append_assoc (line_of_fields hops_header) (lines_of_legs reported.domain reported.source.offers so_far.legs)
            (lines_of_legs reported.domain reported.source.offers reports.legs)
            ∙ ap (λ (t : List ℕ). line_of_fields hops_header ++ t)
            (sym (flat_map-append (λ (x : Leg). line_of_fields (leg_fields reported.domain reported.source.offers x)) so_far.legs reports.legs)))
            (join (line_of_fields hops_header ++ lines_of_legs reported.domain reported.source.offers so_far.legs)
            (lines_of_legs reported.domain reported.source.offers reports.legs) so_far.put reports.put);
      }
