-- Orders, one index after the other, each with what became of its stream.
use Rattle.std.proofs.Common.{◌≡◌, ◌∙◌, ◌<◌, ◌≤◌, ◌+◌, ◌-◌, ◌++◌, ℕ, zero, suc, All, Bool, true, false, List, [], ◌∷◌, Option, Some, None, ap, append_assoc, append-nil, arith, drop, get_or, if◌then◌else◌, length, map, refl, subst, sym}
use Rattle.std.specs.Prelude.{◌==◌, ◌&&◌, option_map, slice_get}
use Rattle.std.specs.Option.{option_map_or}
use Rattle.std.proofs.lemmas.List.{drop_all, drop_more}
use Rattle.std.proofs.lemmas.Option.{slice_get-get_or, slice_get-map}
use Rattle.cqf_admission.specs.Asking.{asked_paced}
use Rattle.cqf_model.specs.History.{Asked}
use Rattle.cqf_program_placing.specs.declared.outcomes.PlacingOutcome.{PlacingOutcome}
use Rattle.cqf_program_placing.specs.declared.settled.Settled.{Settled}
use Rattle.cqf_program_placing.specs.Orders.{is_open}
use Rattle.cqf_program_placing.specs.Placing.{PlacedOr, Placed, Unplaced, outcome_value}
use Rattle.cqf_program_placing.specs.Settled.{SettledStream, settled_value}
use Rattle.cqf_program_planning.specs.Orders.{asked_at, asked_in_outcome, before_more, first_without, is_first_open, is_open_at, is_placed, may_all_be_helped, may_be_helped, moved_from, requests_from, step_of}

-- ---- what is still to be asked from a place of an order on

abbrev pub helped_from : List Settled → List ℕ → List PlacingOutcome → ℕ → Bool
helped_from streams order outcomes k = may_all_be_helped (map settled_value streams) (drop k order) (map outcome_value (drop k outcomes))

abbrev pub without_from : List ℕ → List PlacingOutcome → ℕ → Option ℕ
without_from order outcomes k = first_without (drop k order) (map outcome_value (drop k outcomes))

abbrev pub open_from : List Settled → List ℕ → ℕ → ℕ → Bool
open_from streams order first k = is_first_open (map settled_value streams) (drop k order) first

abbrev pub rest_moved : List Settled → List ℕ → ℕ → ℕ → Option ℕ → List ℕ
rest_moved streams order first k carried = moved_from (map settled_value streams) first carried (drop k order)

abbrev pub asked_from : ℕ → List ℕ → List PlacingOutcome → ℕ → Option Asked
asked_from index order outcomes k = asked_at index (drop k order) (map outcome_value (drop k outcomes))

-- whether the path of a stream is to be found
pub open_there : (streams : List Settled) (index : ℕ) (stream : Settled) → index < length streams → stream ≡ get_or streams index stream →
    is_open_at (map settled_value streams) index ≡ is_open (settled_value stream).path
open_there streams index stream low is =
    ap (λ (found : Option SettledStream). option_map_or (λ (s : SettledStream). is_open s.path) found false)
    (slice_get-map settled_value streams index
    ∙ ap (option_map settled_value) (slice_get-get_or streams index stream low ∙ ap Some (sym is)))

-- the first that isn't placed is the first, or among the rest
here_first : (index : ℕ) (order : List ℕ) (become : PlacedOr) (more : List PlacedOr) → is_placed become ≡ false →
    first_without (index ∷ order) (become ∷ more) ≡ Some index
here_first index order (Placed asked) more is = absurd (cc)
here_first index order (Unplaced found) more is = refl

later_first : (index : ℕ) (order : List ℕ) (become : PlacedOr) (more : List PlacedOr) → is_placed become ≡ true →
    first_without (index ∷ order) (become ∷ more) ≡ first_without order more
later_first index order (Placed asked) more is = refl
later_first index order (Unplaced found) more is = absurd (cc)

-- ---- one place

module _ (order : List ℕ) (k : ℕ) (low : k < length order) where
  order_rest : drop k order ≡ get_or order k 0 ∷ drop (k + 1) order
  order_rest = drop_more order k 0 low

  module _ (streams : List Settled) (stream : Settled) (inside : get_or order k 0 < length streams) (stream_is : stream ≡ get_or streams (get_or order k 0) stream) (first : ℕ) where
    open_next : open_from streams order first k ≡ (if is_open (settled_value stream).path then get_or order k 0 == first else open_from streams order first (k + 1))
    open_next =
        ap (λ (rest : List ℕ). is_first_open (map settled_value streams) rest first) order_rest
        ∙ ap (λ (movable : Bool). if movable then get_or order k 0 == first else open_from streams order first (k + 1)) (open_there streams (get_or order k 0) stream inside stream_is)

    -- it is open, or it isn't
    pub open_here : is_open (settled_value stream).path ≡ true → open_from streams order first k ≡ (get_or order k 0 == first)
    open_here movable = open_next ∙ ap (λ (b : Bool). if b then get_or order k 0 == first else open_from streams order first (k + 1)) movable

    pub open_later : is_open (settled_value stream).path ≡ false → open_from streams order first k ≡ open_from streams order first (k + 1)
    open_later movable = open_next ∙ ap (λ (b : Bool). if b then get_or order k 0 == first else open_from streams order first (k + 1)) movable

    -- one more has moved
    pub moved_step : (carried : Option ℕ) (step : ℕ × Option ℕ) (whole done after : List ℕ) → step ≡ step_of (is_open (settled_value stream).path) first carried (get_or order k 0) →
        whole ≡ done ++ rest_moved streams order first k carried → after ≡ done ++ step.0 ∷ [] →
        whole ≡ after ++ rest_moved streams order first (k + 1) step.1
    moved_step carried step whole done after step_is so_far put =
        let rest = rest_moved streams order first (k + 1) step.1 in
        let own : step_of (is_open_at (map settled_value streams) (get_or order k 0)) first carried (get_or order k 0) ≡ step =
        ap (λ (movable : Bool). step_of movable first carried (get_or order k 0)) (open_there streams (get_or order k 0) stream inside stream_is) ∙ sym step_is in
        let next : rest_moved streams order first k carried ≡ step.0 ∷ rest =
        ap (λ (xs : List ℕ). moved_from (map settled_value streams) first carried xs) order_rest
        ∙ ap (λ (s : ℕ × Option ℕ). s.0 ∷ moved_from (map settled_value streams) first s.1 (drop (k + 1) order)) own in
        so_far ∙ ap (λ (xs : List ℕ). done ++ xs) next ∙ sym (append_assoc done (step.0 ∷ []) rest) ∙ ap (λ (xs : List ℕ). xs ++ rest) (sym put)

  module _ (outcomes : List PlacingOutcome) (outcome : PlacingOutcome) (same : length outcomes ≡ length order) (outcome_is : outcome ≡ get_or outcomes k outcome) where
    outcomes_rest : drop k outcomes ≡ outcome ∷ drop (k + 1) outcomes
    outcomes_rest =
        let there : k < length outcomes = omega (arith, low, same) in
        drop_more outcomes k outcome there ∙ ap (λ x. x ∷ drop (k + 1) outcomes) (sym outcome_is)

    -- the first that isn't placed
    without_next : without_from order outcomes k ≡ first_without (get_or order k 0 ∷ drop (k + 1) order) (outcome_value outcome ∷ map outcome_value (drop (k + 1) outcomes))
    without_next = λ i. first_without (order_rest i) (map outcome_value (outcomes_rest i))

    pub without_here : is_placed (outcome_value outcome) ≡ false → without_from order outcomes k ≡ Some (get_or order k 0)
    without_here is = without_next ∙ here_first (get_or order k 0) (drop (k + 1) order) (outcome_value outcome) (map outcome_value (drop (k + 1) outcomes)) is

    pub without_later : is_placed (outcome_value outcome) ≡ true → without_from order outcomes k ≡ without_from order outcomes (k + 1)
    without_later is = without_next ∙ later_first (get_or order k 0) (drop (k + 1) order) (outcome_value outcome) (map outcome_value (drop (k + 1) outcomes)) is

    -- the request of a stream
    asked_next : (wanted : ℕ) → asked_from wanted order outcomes k
        ≡ (if get_or order k 0 == wanted then asked_in_outcome (outcome_value outcome) else asked_from wanted order outcomes (k + 1))
    asked_next wanted = λ i. asked_at wanted (order_rest i) (map outcome_value (outcomes_rest i))

    pub asked_here : (wanted : ℕ) → (get_or order k 0 == wanted) ≡ true → asked_from wanted order outcomes k ≡ asked_in_outcome (outcome_value outcome)
    asked_here wanted is =
        asked_next wanted ∙ ap (λ (b : Bool). if b then asked_in_outcome (outcome_value outcome) else asked_from wanted order outcomes (k + 1)) is

    pub asked_later : (wanted : ℕ) → (get_or order k 0 == wanted) ≡ false → asked_from wanted order outcomes k ≡ asked_from wanted order outcomes (k + 1)
    asked_later wanted is =
        asked_next wanted ∙ ap (λ (b : Bool). if b then asked_in_outcome (outcome_value outcome) else asked_from wanted order outcomes (k + 1)) is

    -- whether all may be helped
    module _ (streams : List Settled) (stream : Settled) (inside : get_or order k 0 < length streams) (stream_is : stream ≡ get_or streams (get_or order k 0) stream) (helped : Bool)
        (helped_is : helped ≡ may_be_helped (is_open (settled_value stream).path) (outcome_value outcome)) where
      pub helped_next : helped_from streams order outcomes k ≡ (helped && helped_from streams order outcomes (k + 1))
      helped_next =
          (λ i. may_all_be_helped (map settled_value streams) (order_rest i) (map outcome_value (outcomes_rest i)))
          ∙ ap (λ (movable : Bool). may_be_helped movable (outcome_value outcome) && helped_from streams order outcomes (k + 1))
          (open_there streams (get_or order k 0) stream inside stream_is)
          ∙ ap (λ (b : Bool). b && helped_from streams order outcomes (k + 1)) (sym helped_is)

-- ---- the end

pub helped_end : (streams : List Settled) (order : List ℕ) (outcomes : List PlacingOutcome) (k : ℕ) → length order ≤ k → helped_from streams order outcomes k ≡ true
helped_end streams order outcomes k over =
    ap (λ (xs : List ℕ). may_all_be_helped (map settled_value streams) xs (map outcome_value (drop k outcomes))) (drop_all k order over)

pub without_end : (order : List ℕ) (outcomes : List PlacingOutcome) (k : ℕ) → length order ≤ k → without_from order outcomes k ≡ None
without_end order outcomes k over = ap (λ (xs : List ℕ). first_without xs (map outcome_value (drop k outcomes))) (drop_all k order over)

pub open_end : (streams : List Settled) (order : List ℕ) (first k : ℕ) → length order ≤ k → open_from streams order first k ≡ false
open_end streams order first k over = ap (λ (xs : List ℕ). is_first_open (map settled_value streams) xs first) (drop_all k order over)

pub moved_end : (streams : List Settled) (order : List ℕ) (first k : ℕ) (carried : Option ℕ) (whole done : List ℕ) → length order ≤ k →
    whole ≡ done ++ rest_moved streams order first k carried → done ≡ whole
moved_end streams order first k carried whole done over so_far =
    sym (so_far ∙ ap (λ (xs : List ℕ). done ++ moved_from (map settled_value streams) first carried xs) (drop_all k order over) ∙ append-nil done)

pub asked_end : (index : ℕ) (order : List ℕ) (outcomes : List PlacingOutcome) (k : ℕ) → length order ≤ k → asked_from index order outcomes k ≡ None
asked_end index order outcomes k over = ap (λ (xs : List ℕ). asked_at index xs (map outcome_value (drop k outcomes))) (drop_all k order over)

-- ---- the requests of all

-- those that come before others
abbrev pub put_before : List Asked → Option (List Asked) → Option (List Asked)
put_before done rest = option_map (λ (more : List Asked). done ++ more) rest

put_one : (done : List Asked) (asked : Asked) (rest : Option (List Asked)) → put_before done (before_more (Some asked) rest) ≡ put_before (done ++ asked ∷ []) rest
put_one done asked None = refl
put_one done asked (Some more) = ap Some (sym (append_assoc done (asked ∷ []) more))

put_nothing : (rest : Option (List Asked)) → put_before [] rest ≡ rest
put_nothing None = refl
put_nothing (Some more) = refl

-- at first all are left
pub put_begins : (order : List ℕ) (outcomes : List PlacingOutcome) (count : ℕ) (done : List Asked) → done ≡ [] →
    requests_from order (map outcome_value outcomes) 0 count ≡ put_before done (requests_from order (map outcome_value outcomes) 0 (count - 0))
put_begins order outcomes count done none =
    let all : count - 0 ≡ count = omega arith in
    sym (ap (λ (xs : List Asked). put_before xs (requests_from order (map outcome_value outcomes) 0 (count - 0))) none
    ∙ put_nothing (requests_from order (map outcome_value outcomes) 0 (count - 0))
    ∙ ap (requests_from order (map outcome_value outcomes) 0) all)

put_none : (done : List Asked) (rest : Option (List Asked)) → put_before done (before_more None rest) ≡ None
put_none done rest = refl

module _ (order : List ℕ) (outcomes : List PlacingOutcome) (count index : ℕ) (low : index < count) where
  rest_is : requests_from order (map outcome_value outcomes) index (count - index)
      ≡ before_more (asked_at index order (map outcome_value outcomes)) (requests_from order (map outcome_value outcomes) (index + 1) (count - (index + 1)))
  rest_is =
      let one : count - index ≡ suc (count - (index + 1)) = omega (arith, low) in
      ap (requests_from order (map outcome_value outcomes) index) one

  -- one more is put
  pub put_more : (asked : Asked) (whole : Option (List Asked)) (done after : List Asked) → asked_at index order (map outcome_value outcomes) ≡ Some asked →
      whole ≡ put_before done (requests_from order (map outcome_value outcomes) index (count - index)) → after ≡ done ++ asked ∷ [] →
      whole ≡ put_before after (requests_from order (map outcome_value outcomes) (index + 1) (count - (index + 1)))
  put_more asked whole done after is so_far put =
      let rest = requests_from order (map outcome_value outcomes) (index + 1) (count - (index + 1)) in
      so_far ∙ ap (put_before done) rest_is ∙ ap (λ (o : Option Asked). put_before done (before_more o rest)) is ∙ put_one done asked rest
      ∙ ap (λ (xs : List Asked). put_before xs rest) (sym put)

  -- one that isn't placed has no request
  pub none_put : (whole : Option (List Asked)) (done : List Asked) → asked_at index order (map outcome_value outcomes) ≡ None →
      whole ≡ put_before done (requests_from order (map outcome_value outcomes) index (count - index)) → whole ≡ None
  none_put whole done is so_far =
      let rest = requests_from order (map outcome_value outcomes) (index + 1) (count - (index + 1)) in
      so_far ∙ ap (put_before done) rest_is ∙ ap (λ (o : Option Asked). put_before done (before_more o rest)) is

-- at the end none is left
pub put_end : (order : List ℕ) (outcomes : List PlacingOutcome) (count index : ℕ) (whole : Option (List Asked)) (done : List Asked) → count ≤ index →
    whole ≡ put_before done (requests_from order (map outcome_value outcomes) index (count - index)) → Some done ≡ whole
put_end order outcomes count index whole done over so_far =
    let none : count - index ≡ 0 = omega (arith, over) in
    sym (so_far ∙ ap (λ (n : ℕ). put_before done (requests_from order (map outcome_value outcomes) index n)) none ∙ ap Some (append-nil done))
