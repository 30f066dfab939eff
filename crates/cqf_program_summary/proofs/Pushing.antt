-- Legs that are pushed one by one have room if all of them together have room.
use Rattle.std.proofs.Common.{ℕ, ◌≡◌, ◌∙◌, ◌+◌, ◌<◌, ◌≤◌, ◌++◌, ◌∷◌, [], Bool, true, false, List, Contains, ap, append_assoc, arith, drop, filter, get_or, length, map, refl, subst, sym, take}
use Rattle.std.specs.Prelude.{nat_le, nat_lt}
use Rattle.std.proofs.lemmas.Bool.Decides.{nat_tests}
use Rattle.std.proofs.lemmas.List.{append-nil, length-append, take-append-drop, take_more}
use Rattle.std.proofs.lemmas.List.Elements.{filter-append}
use Rattle.cqf_lists.proofs.EachBelow.{filter_each, filter_none}
use Rattle.cqf_lists.proofs.Members.{contains_from_filter, contains_one}
use Rattle.cqf_model.specs.declared.frames.Dropped.{Dropped}
use Rattle.cqf_model.specs.declared.frames.Started.{Started}
use Rattle.cqf_program_summary.specs.declared.hops.legs.Leg.{Leg}
use Rattle.cqf_program_summary.specs.declared.hops.legs.Leg.TheVariants as leg
use Rattle.cqf_program_summary.specs.Hops.Legs.{frame_of, is_wanted}
use Rattle.cqf_program_summary.specs.Hops.Rounds.{Source, dropped_legs, legs_after, legs_up_to, started_legs}
use Rattle.cqf_program_summary.proofs.InRounds.{after_more, dropped_more, started_more}

-- of drops
pub room_for_drop : (source : Source) (drops : List Dropped) (i : ℕ) (d : Dropped) (before legs : List Leg) (first now : ℕ) → i < length drops →
    legs ≡ before ++ dropped_legs source (take i drops) → length before + length (dropped_legs source drops) ≤ first → first ≤ now →
    length legs + length (dropped_legs source (get_or drops i d ∷ [])) ≤ now
room_for_drop source drops i d before legs first now inside is fits more =
    let front = dropped_more source (take i drops) (get_or drops i d ∷ []) in
    let whole = dropped_more source (take (i + 1) drops) (drop (i + 1) drops) in
    omega (
      arith,
      ap (λ (xs : List Leg). length xs) is,
      length-append before (dropped_legs source (take i drops)),
      ap (λ (xs : List Leg). length xs) front,
      length-append (dropped_legs source (take i drops)) (dropped_legs source (get_or drops i d ∷ [])),
      ap (λ (xs : List Leg). length xs) whole,
      length-append (dropped_legs source (take (i + 1) drops)) (dropped_legs source (drop (i + 1) drops)),
      ap (λ (xs : List Dropped). length (dropped_legs source xs)) (take_more drops i d inside),
      ap (λ (xs : List Dropped). length (dropped_legs source xs)) (take-append-drop (i + 1) drops),
      fits,
      more,
    )

-- starts of frames after the first ones
after_starts : (source : Source) (frames : ℕ) (xs ys : List Started) →
    legs_after frames (started_legs source (xs ++ ys)) ≡ legs_after frames (started_legs source xs) ++ legs_after frames (started_legs source ys)
after_starts source frames xs ys =
    ap (legs_after frames) (started_more source xs ys) ∙ after_more frames (started_legs source xs) (started_legs source ys)

of_one : (source : Source) (s : Started) (x : Leg) → Contains (started_legs source (s ∷ [])) x → leg.Started s ≡ x
of_one source s x among =
    contains_one (leg.Started s) x
    (contains_from_filter (λ (y : Leg). is_wanted source.offers source.wanted (frame_of y)) (leg.Started s ∷ []) x among).0

after_it : (source : Source) (frames : ℕ) (s : Started) → frames < s.frame → legs_after frames (started_legs source (s ∷ [])) ≡ started_legs source (s ∷ [])
after_it source frames s more =
    filter_each (λ (x : Leg). nat_lt frames (frame_of x)) (started_legs source (s ∷ []))
    (λ x among. passes (frame_of x) (ap frame_of (of_one source s x among)))
  where
    passes : (n : ℕ) → s.frame ≡ n → nat_lt frames n ≡ true
    passes n is = grind (arith, nat_tests)

not_after_it : (source : Source) (frames : ℕ) (s : Started) → s.frame ≤ frames → legs_after frames (started_legs source (s ∷ [])) ≡ []
not_after_it source frames s le =
    filter_none (λ (x : Leg). nat_lt frames (frame_of x)) (started_legs source (s ∷ []))
    (λ x among. fails (frame_of x) (ap frame_of (of_one source s x among)))
  where
    fails : (n : ℕ) → s.frame ≡ n → nat_lt frames n ≡ false
    fails n is = grind (arith, nat_tests)

pub room_for_start : (source : Source) (frames : ℕ) (starts : List Started) (i : ℕ) (d : Started) (before legs : List Leg) (first now : ℕ) → i < length starts →
    frames < (get_or starts i d).frame → legs ≡ before ++ legs_after frames (started_legs source (take i starts)) →
    length before + length (legs_after frames (started_legs source starts)) ≤ first → first ≤ now →
    length legs + length (started_legs source (get_or starts i d ∷ [])) ≤ now
room_for_start source frames starts i d before legs first now inside own is fits more =
    let s = get_or starts i d in
    omega (
      arith,
      ap (λ (xs : List Leg). length xs) is,
      length-append before (legs_after frames (started_legs source (take i starts))),
      ap (λ (xs : List Leg). length xs) (after_starts source frames (take i starts) (s ∷ [])),
      length-append (legs_after frames (started_legs source (take i starts))) (legs_after frames (started_legs source (s ∷ []))),
      ap (λ (xs : List Leg). length xs) (after_it source frames s own),
      ap (λ (xs : List Leg). length xs) (after_starts source frames (take (i + 1) starts) (drop (i + 1) starts)),
      length-append (legs_after frames (started_legs source (take (i + 1) starts))) (legs_after frames (started_legs source (drop (i + 1) starts))),
      ap (λ (xs : List Started). length (legs_after frames (started_legs source xs))) (take_more starts i d inside),
      ap (λ (xs : List Started). length (legs_after frames (started_legs source xs))) (take-append-drop (i + 1) starts),
      fits,
      more,
    )

-- one more is kept, or none
pub kept_one_more : (source : Source) (frames : ℕ) (starts : List Started) (i : ℕ) (d : Started) (before legs after : List Leg) → i < length starts →
    frames < (get_or starts i d).frame → legs ≡ before ++ legs_after frames (started_legs source (take i starts)) →
    after ≡ legs ++ started_legs source (get_or starts i d ∷ []) → after ≡ before ++ legs_after frames (started_legs source (take (i + 1) starts))
kept_one_more source frames starts i d before legs after inside own is pushed =
    let s = get_or starts i d in
    pushed ∙ ap (λ (xs : List Leg). xs ++ started_legs source (s ∷ [])) is
    ∙ append_assoc before (legs_after frames (started_legs source (take i starts))) (started_legs source (s ∷ []))
    ∙ ap (λ (xs : List Leg). before ++ xs)
    (ap (λ (xs : List Leg). legs_after frames (started_legs source (take i starts)) ++ xs) (sym (after_it source frames s own))
    ∙ sym (after_starts source frames (take i starts) (s ∷ []))
    ∙ ap (λ (xs : List Started). legs_after frames (started_legs source xs)) (sym (take_more starts i d inside)))

pub none_kept : (source : Source) (frames : ℕ) (starts : List Started) (i : ℕ) (d : Started) (before : List Leg) → i < length starts →
    (get_or starts i d).frame ≤ frames → before ++ legs_after frames (started_legs source (take i starts))
    ≡ before ++ legs_after frames (started_legs source (take (i + 1) starts))
none_kept source frames starts i d before inside le =
    let s = get_or starts i d in
    ap (λ (xs : List Leg). before ++ xs)
    (sym (append-nil (legs_after frames (started_legs source (take i starts))))
    ∙ ap (λ (xs : List Leg). legs_after frames (started_legs source (take i starts)) ++ xs) (sym (not_after_it source frames s le))
    ∙ sym (after_starts source frames (take i starts) (s ∷ []))
    ∙ ap (λ (xs : List Started). legs_after frames (started_legs source xs)) (sym (take_more starts i d inside)))

-- of legs up to a frame
pub room_for_leg : (frames : ℕ) (legs : List Leg) (i : ℕ) (d : Leg) (here : List Leg) → i < length legs → here ≡ legs_up_to frames (take i legs) →
    frame_of (get_or legs i d) ≤ frames → length here < length (legs_up_to frames legs)
room_for_leg frames legs i d here inside is upto =
    let p : Leg → Bool = λ (x : Leg). nat_le (frame_of x) frames in
    let own : filter p (get_or legs i d ∷ []) ≡ get_or legs i d ∷ [] =
    filter_each p (get_or legs i d ∷ []) (λ x among. passes (frame_of x) (ap frame_of (contains_one (get_or legs i d) x among))) in
    omega (
      arith,
      ap (λ (xs : List Leg). length xs) is,
      ap (λ (xs : List Leg). length xs) (filter-append p (take i legs) (get_or legs i d ∷ [])),
      length-append (filter p (take i legs)) (filter p (get_or legs i d ∷ [])),
      ap (λ (xs : List Leg). length xs) own,
      ap (λ (xs : List Leg). length xs) (filter-append p (take (i + 1) legs) (drop (i + 1) legs)),
      length-append (filter p (take (i + 1) legs)) (filter p (drop (i + 1) legs)),
      ap (λ (xs : List Leg). length (filter p xs)) (take_more legs i d inside),
      ap (λ (xs : List Leg). length (filter p xs)) (take-append-drop (i + 1) legs),
    )
  where
    passes : (n : ℕ) → frame_of (get_or legs i d) ≡ n → nat_le n frames ≡ true
    passes n is_it = grind (arith, nat_tests)
