-- One offer more, with its deliveries.
use Rattle.std.proofs.Common.{◌≡◌, ◌≢◌, ◌∙◌, ◌+◌, ◌++◌, ◌∷◌, ◌<◌, [], ℕ, AllPairs, Bool, true, false, Contains, List, Some, None, Option, ap, ap₂, append-nil, arith, count_by, filter, get_or, if◌then◌else◌, inl, inr, length, map, nat_lt, not, position, refl, subst, sym, take}
use Rattle.std.specs.Prelude.{◌&&◌, cond, is_some, slice_get, suc}
use Rattle.std.specs.List.{list_any}
use Rattle.std.proofs.lemmas.Bool.{cases_lt}
use Rattle.std.proofs.lemmas.List.{length-append, take_more}
use Rattle.std.proofs.lemmas.List.Elements.{filter-append}
use Rattle.std.proofs.lemmas.List.Quantifiers.{position-Some}
use Rattle.std.proofs.lemmas.List.Sums.{length-filter}
use Rattle.std.proofs.lemmas.Option.{get_or_from_slice_get, slice_get-get_or, slice_get_within}
use Rattle.cqf_lists.proofs.Mapped.{position-map}
use Rattle.cqf_lists.proofs.Any.{position_any}
use Rattle.cqf_lists.proofs.EachBelow.{filter_each, filter_none, fold_same}
use Rattle.cqf_lists.proofs.EachOnce.{once_apart}
use Rattle.cqf_lists.proofs.Members.{contains_from_map, contains_none, contains_one}
use Rattle.cqf_topology.proofs.Accepted.{position-None}
use Rattle.cqf_model.specs.declared.frames.Offered.{Offered}
use Rattle.cqf_model.specs.Domain.{Domain, is_text}
use Rattle.cqf_model.specs.History.{Asked}
use Rattle.cqf_model.specs.Shift.{offer_cycle}
use Rattle.cqf_model.specs.Policing.{DroppedFor, ExceedsGate, LacksRow, Queued, Verdict, numbered}
use Rattle.cqf_model.proofs.Texts.{is_text_itself, is_text_same}
use Rattle.cqf_units.specs.Name.{is_name}
use Rattle.cqf_instants_run.specs.Columns.{verdict_at}
use Rattle.cqf_program_plans.specs.Latency.Text.{listeners_of}
use Rattle.cqf_program_runs.specs.declared.deliveries.delivery.Delivery.{Delivery}
use Rattle.cqf_program_runs.specs.declared.deliveries.delivery.Passage.TheVariants as passage
use Rattle.cqf_program_runs.specs.Deliveries.ByVerdict.{deliveries_for}
use Rattle.cqf_program_runs.specs.Deliveries.{delivery_of, delivery_to, fate_of}
use Rattle.cqf_program_runs.specs.Deliveries.Ending.{Over, deliveries_among, deliveries_at, known_over}
use Rattle.cqf_program_runs.proofs.OneMore.{among_more}
use Rattle.cqf_program_summary.specs.Summary.Counting.{changed_at, fare_with_offer, others_with, summary_at, summary_with}
use Rattle.cqf_program_summary.specs.Summary.{Fare, Summary, deliveries_named, fare_by, fare_of, offers_named, offers_within, others_of, summary_by}
use Rattle.cqf_program_summary.specs.Summary.Tallies.{is_dropped}
use Rattle.cqf_program_summary.specs.Summary.Written.{is_other, written_cost, written_streams}
use Rattle.cqf_program_summary.proofs.Changed.{changed_map}
use Rattle.cqf_program_summary.proofs.Tallied.{count_push, fare_more_offer}

-- what isn't true is false
pub not_true : (b : Bool) → (b ≡ true → ⊥) → b ≡ false
not_true true never = absurd (never refl)
not_true false never = refl

-- two texts are compared with the same result in either order
flip_true : (a b : List ℕ) → is_text a b ≡ true → is_text b a ≡ true
flip_true a b same = subst (λ (c : List ℕ). is_text c a ≡ true) (is_text_same a b same) (is_text_itself a)

flip_false : (a b : List ℕ) → is_text a b ≡ false → is_text b a ≡ false
flip_false a b differ = not_true (is_text b a) (λ same. both (sym (flip_true b a same) ∙ differ))
  where
    both : true ≡ false → ⊥
    both e = absurd cc

-- how many of two lists pass
count_joined : {X : Type 0} (p : X → Bool) (xs ys : List X) → count_by p (xs ++ ys) ≡ count_by p xs + count_by p ys
count_joined p xs ys =
    sym (length-filter p (xs ++ ys)) ∙ ap length (filter-append p xs ys) ∙ length-append (filter p xs) (filter p ys)
    ∙ (λ i. length-filter p xs i + length-filter p ys i)

-- and by a test that agrees on them
count_same : {X : Type 0} (p q : X → Bool) (xs : List X) → ((x : X) → Contains xs x → p x ≡ q x) → count_by p xs ≡ count_by q xs
count_same {X} p q xs same =
    fold_same (λ (n : ℕ) (x : X). n + cond (p x) 1 0) (λ (n : ℕ) (x : X). n + cond (q x) 1 0) 0 xs (λ n x c. ap (λ (b : Bool). n + cond b 1 0) (same x c))

count_none : {X : Type 0} (p : X → Bool) (xs : List X) → ((x : X) → Contains xs x → p x ≡ false) → count_by p xs ≡ 0
count_none p xs none = sym (length-filter p xs) ∙ ap length (filter_none p xs none)

-- the default past the end of a list of streams
abbrev nobody : Asked
nobody = record { name = []; octets = 0; every = 0; phase = 0; paths = [] }

module _ (d : Domain) (reported : List Asked) (due : List ℕ → Option ℕ) (apart : AllPairs (λ (a b : Asked). is_text a.name b.name ≡ false) reported)
    (offers : List Offered) (x : Offered) (ds here : List Delivery) (named : (y : Delivery) → Contains here y → y.stream ≡ x.offer.stream) where
  abbrev cost : Asked → ℕ → ℕ
  cost = written_cost d reported

  abbrev n : List ℕ
  n = x.offer.stream

  -- a stream with the name has one offer more
  fare_own : (a : Asked) → is_text a.name n ≡ true → fare_with_offer here (fare_of d cost due offers ds a) ≡ fare_of d cost due (offers ++ x ∷ []) (ds ++ here) a
  fare_own a own =
      sym (fare_more_offer d cost due a (offers_named a.name offers) here (deliveries_named a.name ds))
      ∙ (λ i. fare_by d cost due (sym one_more i) (sym all_here i) a)
    where
      one_more : offers_named a.name (offers ++ x ∷ []) ≡ offers_named a.name offers + 1
      one_more =
          count_push (λ (y : Offered). is_text y.offer.stream a.name) offers x
          ∙ ap {B = ℕ} (λ (b : Bool). offers_named a.name offers + (if b then 1 else 0)) (flip_true a.name n own)

      all_here : deliveries_named a.name (ds ++ here) ≡ deliveries_named a.name ds ++ here
      all_here =
          filter-append (λ (y : Delivery). is_text y.stream a.name) ds here
          ∙ ap (λ (ys : List Delivery). deliveries_named a.name ds ++ ys)
          (filter_each (λ (y : Delivery). is_text y.stream a.name) here
          (λ y c. ap (λ (m : List ℕ). is_text m a.name) (named y c) ∙ flip_true a.name n own))

  -- and another stream none
  fare_other : (a : Asked) → is_text a.name n ≡ false → fare_of d cost due offers ds a ≡ fare_of d cost due (offers ++ x ∷ []) (ds ++ here) a
  fare_other a differ = λ i. fare_by d cost due (sym no_more i) (sym none_here i) a
    where
      no_more : offers_named a.name (offers ++ x ∷ []) ≡ offers_named a.name offers
      no_more =
          let more = count_push (λ (y : Offered). is_text y.offer.stream a.name) offers x
          ∙ ap {B = ℕ} (λ (b : Bool). offers_named a.name offers + (if b then 1 else 0)) (flip_false a.name n differ) in
          omega (arith, more)

      none_here : deliveries_named a.name (ds ++ here) ≡ deliveries_named a.name ds
      none_here =
          filter-append (λ (y : Delivery). is_text y.stream a.name) ds here
          ∙ ap (λ (ys : List Delivery). deliveries_named a.name ds ++ ys)
          (filter_none (λ (y : Delivery). is_text y.stream a.name) here
          (λ y c. ap (λ (m : List ℕ). is_text m a.name) (named y c) ∙ flip_false a.name n differ))
          ∙ append-nil (deliveries_named a.name ds)

  -- offers of other names, if this is one and if it isn't
  others_more : is_other reported n ≡ true → others_of reported (offers ++ x ∷ []) (ds ++ here) ≡ others_with here (others_of reported offers ds)
  others_more other = λ i. record { offered = one_more i; dropped = drops i }
    where
      one_more : (others_of reported (offers ++ x ∷ []) (ds ++ here)).offered ≡ (others_of reported offers ds).offered + 1
      one_more =
          count_push (λ (y : Offered). is_other reported y.offer.stream) offers x
          ∙ ap {B = ℕ} (λ (b : Bool). (others_of reported offers ds).offered + (if b then 1 else 0)) other

      drops : (others_of reported (offers ++ x ∷ []) (ds ++ here)).dropped ≡ (others_with here (others_of reported offers ds)).dropped
      drops =
          count_joined (λ (y : Delivery). is_other reported y.stream && is_dropped (fate_of y)) ds here
          ∙ ap (λ (k : ℕ). (others_of reported offers ds).dropped + k)
          (count_same (λ (y : Delivery). is_other reported y.stream && is_dropped (fate_of y)) (λ (y : Delivery). is_dropped (fate_of y)) here
          (λ y c. ap (λ (b : Bool). b && is_dropped (fate_of y)) (ap (is_other reported) (named y c) ∙ other)))

  others_same : is_other reported n ≡ false → others_of reported (offers ++ x ∷ []) (ds ++ here) ≡ others_of reported offers ds
  others_same known = λ i. record { offered = no_more i; dropped = no_drops i }
    where
      no_more : (others_of reported (offers ++ x ∷ []) (ds ++ here)).offered ≡ (others_of reported offers ds).offered
      no_more =
          let more = count_push (λ (y : Offered). is_other reported y.offer.stream) offers x
          ∙ ap {B = ℕ} (λ (b : Bool). (others_of reported offers ds).offered + (if b then 1 else 0)) known in
          omega (arith, more)

      no_drops : (others_of reported (offers ++ x ∷ []) (ds ++ here)).dropped ≡ (others_of reported offers ds).dropped
      no_drops =
          let none = count_none (λ (y : Delivery). is_other reported y.stream && is_dropped (fate_of y)) here
          (λ y c. ap (λ (b : Bool). b && is_dropped (fate_of y)) (ap (is_other reported) (named y c) ∙ known)) in
          omega (arith, none, count_joined (λ (y : Delivery). is_other reported y.stream && is_dropped (fate_of y)) ds here)

  -- the index of the stream with the name
  abbrev index_of_name : Option ℕ
  index_of_name = position (λ (a : Asked). is_text a.name n) reported

  any_known : list_any (λ (a : Asked). is_text a.name n) reported ≡ is_some index_of_name
  any_known = sym (position_any (λ (a : Asked). is_text a.name n) reported)

  at_none : index_of_name ≡ None → summary_at here None (summary_by d reported due offers ds) ≡ summary_by d reported due (offers ++ x ∷ []) (ds ++ here)
  at_none none = λ i. record { fares = same i; others = sym (others_more other) i }
    where
      other : is_other reported n ≡ true
      other = ap not (any_known ∙ ap is_some none)

      same : map (fare_of d cost due offers ds) reported ≡ map (fare_of d cost due (offers ++ x ∷ []) (ds ++ here)) reported
      same = agree reported (λ a k at. fare_other a (position-None (λ (b : Asked). is_text b.name n) reported none k a at))
        where
          agree : (them : List Asked) → ((a : Asked) (k : ℕ) → slice_get them k ≡ Some a → fare_of d cost due offers ds a
              ≡ fare_of d cost due (offers ++ x ∷ []) (ds ++ here) a) →
              map (fare_of d cost due offers ds) them ≡ map (fare_of d cost due (offers ++ x ∷ []) (ds ++ here)) them
          agree [] each = refl
          agree (a ∷ more) each = ap₂ (λ (f : Fare) (fs : List Fare). f ∷ fs) (each a 0 refl) (agree more (λ b k at. each b (suc k) at))

  at_some : (index : ℕ) → index_of_name ≡ Some index →
      summary_at here (Some index) (summary_by d reported due offers ds) ≡ summary_by d reported due (offers ++ x ∷ []) (ds ++ here)
  at_some index found = λ i. record { fares = changed i; others = sym (others_same known) i }
    where
      here_it_is : (index < length reported) × (is_text (get_or reported index nobody).name n ≡ true)
      here_it_is = let at = position-Some (λ (b : Asked). is_text b.name n) reported index nobody found in (at.0, at.1)

      known : is_other reported n ≡ false
      known = ap not (any_known ∙ ap is_some found)

      -- no other has the name
      only : (b : Asked) (k : ℕ) → slice_get reported k ≡ Some b → k ≢ index → is_text b.name n ≡ false
      only b k at differ = not_true (is_text b.name n) (λ also.
          let b_is : get_or reported k nobody ≡ b = get_or_from_slice_get reported k b nobody at in
          let one : b.name ≡ n = is_text_same b.name n also in
          let two : (get_or reported index nobody).name ≡ n = is_text_same (get_or reported index nobody).name n here_it_is.1 in
          elim (cases_lt k index) [
            | inl less ↦ clash b.name (get_or reported index nobody).name (one ∙ sym two) (subst (λ (c : Asked). is_text c.name (get_or reported index nobody).name ≡ false) b_is (apart k index nobody less here_it_is.0))
            | inr more ↦ elim (cases_lt index k) [
              | inl less ↦ clash (get_or reported index nobody).name b.name (two ∙ sym one)
                  (subst (λ (c : Asked). is_text (get_or reported index nobody).name c.name ≡ false) b_is (apart index k nobody less (slice_get_within reported k b at)))
              | inr least ↦ absurd (differ (omega (arith, more, least)))
            ]
          ])
        where
          clash : (m l : List ℕ) → m ≡ l → is_text m l ≡ false → ⊥
          clash m l same differs = both (sym (is_text_itself m) ∙ ap (is_text m) same ∙ differs)
            where
              both : true ≡ false → ⊥
              both e = absurd cc

      changed : changed_at (fare_with_offer here) index (map (fare_of d cost due offers ds) reported)
          ≡ map (fare_of d cost due (offers ++ x ∷ []) (ds ++ here)) reported
      changed = changed_map (fare_of d cost due offers ds) (fare_of d cost due (offers ++ x ∷ []) (ds ++ here)) (fare_with_offer here) reported index (get_or reported index nobody)
          (slice_get-get_or reported index nobody here_it_is.0) (fare_own (get_or reported index nobody) here_it_is.1) (λ b k at differ. fare_other b (only b k at differ))

  -- so the summary with it is the summary before it, with it added
  pub summary_more : summary_with n here (summary_by d reported due offers ds) ≡ summary_by d reported due (offers ++ x ∷ []) (ds ++ here)
  summary_more =
      ap (λ (o : Option ℕ). summary_at here o (summary_by d reported due offers ds))
      (position-map (λ (f : Fare). is_text f.name n) (fare_of d cost due offers ds) reported)
      ∙ by index_of_name refl
    where
      by : (o : Option ℕ) → index_of_name ≡ o → summary_at here o (summary_by d reported due offers ds) ≡ summary_by d reported due (offers ++ x ∷ []) (ds ++ here)
      by None none = at_none none
      by (Some index) found = at_some index found

-- the streams of a summary have different names
pub written_apart : (streams : List Asked) → AllPairs (λ (a b : Asked). is_text a.name b.name ≡ false) (written_streams streams)
written_apart streams = once_apart (λ (a b : Asked). is_text a.name b.name) (filter (λ (a : Asked). is_name a.name) streams)

-- deliveries of an offer have its name
module _ (over : Over) (x : Offered) where
  named_for : (v : Verdict) (y : Delivery) → Contains (deliveries_for over.domain (known_over over) x v) y → y.stream ≡ x.offer.stream
  named_for (Queued row) y c =
      let hop = contains_from_map (delivery_to over.domain ((known_over over).whole x.frame) ((known_over over).due x.offer.stream) x)
      (listeners_of over.domain row) y c in
      ap (λ (z : Delivery). z.stream) (sym hop.2)
  named_for (DroppedFor reason) y c = ap (λ (z : Delivery). z.stream) (sym (contains_one (delivery_of over.domain x (passage.Dropped reason)) y c))
  named_for LacksRow y c = absurd (contains_none y c)
  named_for ExceedsGate y c = absurd (contains_none y c)

  pub named_here : (y : Delivery) → Contains (deliveries_at over x) y → y.stream ≡ x.offer.stream
  named_here y c = by (nat_lt (offer_cycle over.domain x) over.cycles) c
    where
      by : (b : Bool) → Contains (if b then deliveries_for over.domain (known_over over) x (verdict_at over.domain over.rows over.edge_verdicts x) else []) y →
          y.stream ≡ x.offer.stream
      by true k = named_for (verdict_at over.domain over.rows over.edge_verdicts x) y k
      by false k = absurd (contains_none y k)

-- the summary by the offers of a run up to an index, and by one more
module _ (over : Over) (streams : List Asked) (due : List ℕ → Option ℕ) (index : ℕ) (x : Offered) (at : slice_get (numbered over.offers) index ≡ Some x)
    (here : List Delivery) (is_here : here ≡ deliveries_at over x) (inside : index < length over.offers)
    (are : (y : Offered) → slice_get (numbered over.offers) index ≡ Some y → here ≡ deliveries_at over y) (summary : Summary) where
  abbrev front : List Offered
  front = take index (numbered over.offers)

  abbrev longer : List Offered
  longer = take (index + 1) (numbered over.offers)

  abbrev by_front : Summary
  by_front = summary_by over.domain (written_streams streams) due (offers_within over.domain over.cycles front) (deliveries_among over front)

  abbrev by_longer : Summary
  by_longer = summary_by over.domain (written_streams streams) due (offers_within over.domain over.cycles longer) (deliveries_among over longer)

  front_more : longer ≡ front ++ x ∷ []
  front_more =
      take_more (numbered over.offers) index x (slice_get_within (numbered over.offers) index x at)
      ∙ ap (λ (y : Offered). front ++ y ∷ []) (get_or_from_slice_get (numbered over.offers) index x x at)

  within_more : (b : Bool) → nat_lt (offer_cycle over.domain x) over.cycles ≡ b →
      offers_within over.domain over.cycles longer ≡ offers_within over.domain over.cycles front ++ (if b then x ∷ [] else [])
  within_more b run =
      ap (offers_within over.domain over.cycles) front_more
      ∙ filter-append (λ (y : Offered). nat_lt (offer_cycle over.domain y) over.cycles) front (x ∷ [])
      ∙ ap (λ (c : Bool). offers_within over.domain over.cycles front ++ (if c then x ∷ [] else [])) run

  -- if its cycle is run
  pub is_run_more : nat_lt (offer_cycle over.domain x) over.cycles ≡ true → summary ≡ by_front →
      summary_with x.offer.stream here summary ≡ by_longer
  is_run_more run so_far =
      ap (summary_with x.offer.stream here) so_far
      ∙ summary_more over.domain (written_streams streams) due (written_apart streams) (offers_within over.domain over.cycles front) x (deliveries_among over front) here
      (λ y c. named_here over x y (subst (λ (ys : List Delivery). Contains ys y) is_here c))
      ∙ (λ i. summary_by over.domain (written_streams streams) due (sym (within_more true run) i) (among_more over index here inside are i))

  -- and if it isn't
  pub not_run_more : nat_lt (offer_cycle over.domain x) over.cycles ≡ false → summary ≡ by_front → summary ≡ by_longer
  not_run_more run so_far =
      so_far
      ∙ (λ i. summary_by over.domain (written_streams streams) due (sym same_offers i) (same_deliveries i))
    where
      same_offers : offers_within over.domain over.cycles longer ≡ offers_within over.domain over.cycles front
      same_offers = within_more false run ∙ append-nil (offers_within over.domain over.cycles front)

      none : here ≡ []
      none = is_here ∙ ap (λ (b : Bool). if b then deliveries_for over.domain (known_over over) x (verdict_at over.domain over.rows over.edge_verdicts x) else []) run

      same_deliveries : deliveries_among over front ≡ deliveries_among over longer
      same_deliveries =
          sym (append-nil (deliveries_among over front)) ∙ ap (λ (ys : List Delivery). deliveries_among over front ++ ys) (sym none)
          ∙ among_more over index here inside are
