-- Streams that are placed in another order than that of the network file are all granted in the order of the file.
use Rattle.std.proofs.Common.{◌≡◌, ◌∙◌, ◌<◌, ◌≤◌, ◌+◌, ℕ, zero, suc, All, Bool, true, false, List, [], ◌∷◌, Option, Some, None, Result, Ok, Err, ap, arith, eqb-true, if◌then◌else◌, length, map, refl, subst, sym}
use Rattle.std.specs.Prelude.{◌==◌, is_none, option_and_then, slice_get}
use Rattle.std.proofs.lemmas.List.Elements.{All-head, All-tail}
use Rattle.std.proofs.lemmas.Option.{same_Some, slice_get-get_or}
use Rattle.cqf_lists.specs.Results.{refuse}
use Rattle.cqf_laws_history.specs.StateLaws.{SealsAreCounted}
use Rattle.cqf_model.specs.declared.history.Refused.{Refused}
use Rattle.cqf_model.specs.Domain.{Domain}
use Rattle.cqf_model.specs.History.{Asked, Recorded, held_in, refusal_of, seals}
use Rattle.cqf_network.specs.NetworkDomain.{NetworkDomain, domain_at}
use Rattle.cqf_program_plans.specs.Compile.Output.{admitted_from, stream_line, with_asked}
use Rattle.cqf_program_placing.specs.Orders.{before_others, in_order}
use Rattle.cqf_program_placing.specs.Placing.{ArePlacedFrom, IsPlacing, PlacedOr, Placed, PlacedStreams, Unplaced}
use Rattle.cqf_program_placing.specs.Settled.{SettledStream}
use Rattle.cqf_program_planning.specs.Judging.{candidate_of, flows_placed}
use Rattle.cqf_program_planning.specs.Orders.{all_placed, all_placed_by, asked_at, asked_in_outcome, before_more, first_without, if_good, requests_from, requests_in}
use Rattle.cqf_program_planning.proofs.AllPlaced.{AreAllGranted, IsGranted, no_stream, one_stream}
use Rattle.cqf_program_planning.proofs.OrderLemmas.{AreInside, IsGoodOrder}
use Rattle.cqf_program_planning.proofs.TriedLemmas.{AreEachPlaced, IsPlacedSomewhere, granted_somewhere}

-- ---- one stream

-- what comes first is at an index
taken_there : {A : Type 0} (all : List A) (index : ℕ) (order : List ℕ) (x : A) → slice_get all index ≡ Some x → in_order all (index ∷ order) ≡ x ∷ in_order all order
taken_there all index order x is = ap (λ found. before_others found (in_order all order)) is

-- the request of a stream at an index is that with which it is placed
granted_there : (d : Domain) (streams : List SettledStream) (k : ℕ) (stream : SettledStream) (asked : Asked) (order : List ℕ) (outcomes : List PlacedOr)
    (entries end : List Recorded) → slice_get streams k ≡ Some stream → AreInside (length streams) order →
    ArePlacedFrom d entries (in_order streams order) outcomes end → asked_at k order outcomes ≡ Some asked → IsPlacedSomewhere d stream asked
granted_there d streams k stream asked [] outcomes entries end at inside placed is = absurd (cc)
granted_there d streams k stream asked (index ∷ order) [] entries end at inside placed is = absurd (cc)
granted_there d streams k stream asked (index ∷ order) (become ∷ more) entries end at inside placed is =
    let here : index < length streams = All-head (λ n. n < length streams) index order inside in
    by (slice_get streams index) refl here (index == k) refl is
    (λ after chain there.
    granted_there d streams k stream asked order more after end at (All-tail (λ n. n < length streams) index order inside) chain there)
  where
    first : (x : SettledStream) (become : PlacedOr) (after : List Recorded) → IsPlacing d entries x become after → x ≡ stream →
        asked_in_outcome become ≡ Some asked → IsPlacedSomewhere d stream asked
    first x (Unplaced found) after h same there = absurd (cc)
    first x (Placed other) after h same there =
        record {
          entries = entries;
          after = after;
          placed = subst (λ (s : SettledStream). IsPlacing d entries s (Placed asked) after) same
              (subst (λ (a : Asked). IsPlacing d entries x (Placed a) after) (same_Some other asked there) h);
        }

    by : (found : Option SettledStream) → slice_get streams index ≡ found → index < length streams → (same : Bool) → (index == k) ≡ same →
        (if same then asked_in_outcome become else asked_at k order more) ≡ Some asked →
        ((after : List Recorded) → ArePlacedFrom d after (in_order streams order) more end → asked_at k order more ≡ Some asked → IsPlacedSomewhere d stream asked) →
        IsPlacedSomewhere d stream asked
    by None none low same e there again = absurd (let some = slice_get-get_or streams index stream low in cc)
    by (Some x) some low true e there again =
        let chain : ArePlacedFrom d entries (x ∷ in_order streams order) (become ∷ more) end =
        subst (λ (xs : List SettledStream). ArePlacedFrom d entries xs (become ∷ more) end) (taken_there streams index order x some) placed in
        let same_index : index ≡ k = eqb-true index k e in
        let same : x ≡ stream = same_Some x stream (sym some ∙ ap (slice_get streams) same_index ∙ at) in
        first x become chain.0 chain.1 same there
    by (Some x) some low false e there again =
        let chain : ArePlacedFrom d entries (x ∷ in_order streams order) (become ∷ more) end =
        subst (λ (xs : List SettledStream). ArePlacedFrom d entries xs (become ∷ more) end) (taken_there streams index order x some) placed in
        again chain.0 chain.2 there

-- ---- all streams

-- the first request and the others
record BothThere (first : Option Asked) (others : Option (List Asked)) (all : List Asked) : Type 0 where
  one : Asked
  more : List Asked
  first_is : first ≡ Some one
  others_are : others ≡ Some more
  all_are : all ≡ one ∷ more

requests_parts : (first : Option Asked) (others : Option (List Asked)) (all : List Asked) → before_more first others ≡ Some all → BothThere first others all
requests_parts None others all h = absurd (cc)
requests_parts (Some asked) None all h = absurd (cc)
requests_parts (Some asked) (Some more) all h =
    record { one = asked; more = more; first_is = refl; others_are = refl; all_are = sym (same_Some (asked ∷ more) all h) }

-- the streams from the next index on
from_next : (streams : List SettledStream) (stream : SettledStream) (rest : List SettledStream) (k : ℕ) →
    ((i : ℕ) (other : SettledStream) → slice_get (stream ∷ rest) i ≡ Some other → slice_get streams (k + i) ≡ Some other) →
    (i : ℕ) (other : SettledStream) → slice_get rest i ≡ Some other → slice_get streams (k + 1 + i) ≡ Some other
from_next streams stream rest k at i other found =
    let same : k + 1 + i ≡ k + suc i = omega arith in
    ap (slice_get streams) same ∙ at (suc i) other found

-- so each stream from an index on is
pairs_from : (d : Domain) (streams : List SettledStream) (order : List ℕ) (outcomes : List PlacedOr) (end : List Recorded) →
    AreInside (length streams) order → ArePlacedFrom d [] (in_order streams order) outcomes end →
    (rest : List SettledStream) (k : ℕ) (requests : List Asked) →
    ((i : ℕ) (stream : SettledStream) → slice_get rest i ≡ Some stream → slice_get streams (k + i) ≡ Some stream) →
    requests_from order outcomes k (length rest) ≡ Some requests → AreEachPlaced d rest (map Placed requests)
pairs_from d streams order outcomes end inside placed [] k [] at is = tt
pairs_from d streams order outcomes end inside placed [] k (asked ∷ more) at is = absurd (cc)
pairs_from d streams order outcomes end inside placed (stream ∷ rest) k requests at is =
    let both = requests_parts (asked_at k order outcomes) (requests_from order outcomes (k + 1) (length rest)) requests is in
    let same : k ≡ k + 0 = omega arith in
    let there : slice_get streams k ≡ Some stream = ap (slice_get streams) same ∙ at 0 stream refl in
    let first : IsPlacedSomewhere d stream both.one = granted_there d streams k stream both.one order outcomes [] end there inside placed both.first_is in
    let others : AreEachPlaced d rest (map Placed both.more) =
    pairs_from d streams order outcomes end inside placed rest (k + 1) both.more (from_next streams stream rest k at) both.others_are in
    subst (λ (those : List Asked). AreEachPlaced d (stream ∷ rest) (map Placed those)) (sym both.all_are) (first, others)

-- there are as many as streams
requests_many : (order : List ℕ) (outcomes : List PlacedOr) (k count : ℕ) (requests : List Asked) → requests_from order outcomes k count ≡ Some requests →
    length requests ≡ count
requests_many order outcomes k zero [] is = refl
requests_many order outcomes k zero (asked ∷ more) is = absurd (cc)
requests_many order outcomes k (suc count) requests is =
    by (asked_at k order outcomes) (requests_from order outcomes (k + 1) count) refl is
    (λ later rest. requests_many order outcomes (k + 1) count later rest)
  where
    by : (first : Option Asked) (others : Option (List Asked)) → requests_from order outcomes (k + 1) count ≡ others →
        before_more first others ≡ Some requests →
        ((later : List Asked) → requests_from order outcomes (k + 1) count ≡ Some later → length later ≡ count) → length requests ≡ suc count
    by None others rest there again = absurd (cc)
    by (Some asked) None rest there again = absurd (cc)
    by (Some asked) (Some later) rest there again =
        sym (ap length (same_Some (asked ∷ later) requests there)) ∙ ap (λ n. suc n) (again later rest)

pub requests_each : (count : ℕ) (order : List ℕ) (outcomes : List PlacedOr) (requests : List Asked) → requests_in count order outcomes ≡ Some requests →
    length requests ≡ count
requests_each count order outcomes requests is = by (first_without order outcomes) is
  where
    by : (first : Option ℕ) → (if is_none first then requests_from order outcomes 0 count else None) ≡ Some requests → length requests ≡ count
    by None there = requests_many order outcomes 0 count requests there
    by (Some first) there = absurd (cc)

pub same_entries : (x y : List Recorded) → ◌≡◌ {A = Result (List Recorded) (List ℕ)} (Ok x) (Ok y) → x ≡ y
same_entries x y e = cc

-- a request that isn't refused, before others
pub admitted_parts : (d : Domain) (entries end : List Recorded) (index : ℕ) (asked : Asked) (more : List Asked) (refusal : Option Refused) →
    refusal_of d (held_in d entries (seals entries)) asked ≡ refusal →
    refuse refusal (stream_line index) (admitted_from d (with_asked d entries asked) (index + 1) more) ≡ Ok end →
    (refusal_of d (held_in d entries (seals entries)) asked ≡ None) × (admitted_from d (with_asked d entries asked) (index + 1) more ≡ Ok end)
admitted_parts d entries end index asked more None is h = (is, h)
admitted_parts d entries end index asked more (Some refused) is h = absurd (cc)

-- streams whose requests are all admitted are all granted
granted_again : (d : Domain) (index : ℕ) (streams : List SettledStream) (requests : List Asked) (entries end : List Recorded) → SealsAreCounted →
    AreEachPlaced d streams (map Placed requests) → admitted_from d entries index requests ≡ Ok end →
    AreAllGranted d entries streams (flows_placed d.cycle_time streams (map Placed requests)) end
granted_again d index [] [] entries end counted pairs h = no_stream d entries end (sym (same_entries entries end h))
granted_again d index [] (asked ∷ more) entries end counted pairs h = absurd pairs
granted_again d index (stream ∷ streams) [] entries end counted pairs h = absurd pairs
granted_again d index (stream ∷ streams) (asked ∷ more) entries end counted pairs h =
    let parts = admitted_parts d entries end index asked more (refusal_of d (held_in d entries (seals entries)) asked) refl h in
    let known = granted_somewhere d stream asked pairs.0 in
    let granted : IsGranted d entries stream asked (with_asked d entries asked) = record {
      named = known.named;
      reserved = known.reserved;
      every = known.every;
      phase = known.phase;
      granted = parts.0;
      entered = refl;
    } in
    one_stream d entries (with_asked d entries asked) end stream streams asked (flows_placed d.cycle_time streams (map Placed more)) counted granted
    (granted_again d (index + 1) streams more (with_asked d entries asked) end counted pairs.1 parts.1)

-- ---- a good order

-- what is known of streams that are placed by another order
pub record ArePlacedAgain (streams : List SettledStream) (placed : PlacedStreams) : Type 0 where
  pub granted : SealsAreCounted → AreAllGranted placed.domain [] streams (flows_placed placed.domain.cycle_time streams placed.outcomes) placed.entries
  pub placed_each : AreEachPlaced placed.domain streams placed.outcomes

placed_again_by : (d : Domain) (streams : List SettledStream) (requests : List Asked) (found : Result (List Recorded) (List ℕ)) (placed : PlacedStreams) →
    AreEachPlaced d streams (map Placed requests) → admitted_from d [] 1 requests ≡ found → option_and_then (if_good streams) (all_placed_by d requests found) ≡ Some placed →
    ArePlacedAgain streams placed × (placed.domain ≡ d)
placed_again_by d streams requests (Err line) placed pairs admitted h = absurd (cc)
placed_again_by d streams requests (Ok entries) placed pairs admitted h = by (is_none_fault) h
  where
    made : PlacedStreams
    made = record { domain = d; outcomes = map Placed requests; entries = entries }

    is_none_fault : Bool
    is_none_fault = is_none (candidate_of streams made).fault

    known : ArePlacedAgain streams made
    known = record {
      granted = λ counted. granted_again d 1 streams requests [] entries counted pairs admitted;
      placed_each = pairs;
    }

    by : (good : Bool) → (if good then Some made else None) ≡ Some placed → ArePlacedAgain streams placed × (placed.domain ≡ d)
    by false there = absurd (cc)
    by true there =
        let same : made ≡ placed = same_Some made placed there in (
          subst (ArePlacedAgain streams) same known,
          ap (λ (x : PlacedStreams). x.domain) (sym same),
        )

pub placed_again : (network : NetworkDomain) (streams : List SettledStream) (cycle_time : ℕ) (placed : PlacedStreams) → IsGoodOrder network streams cycle_time placed →
    ArePlacedAgain streams placed × (placed.domain ≡ domain_at network cycle_time)
placed_again network streams cycle_time placed good =
    by (first_without good.order good.run.outcomes) (requests_from good.order good.run.outcomes 0 (length streams)) refl good.good
  where
    run_there : ArePlacedFrom (domain_at network cycle_time) [] (in_order streams good.order) good.run.outcomes good.run.entries
    run_there =
        subst (λ (x : Domain). ArePlacedFrom x [] (in_order streams good.order) good.run.outcomes good.run.entries) good.run_is.domain good.run_is.run_are

    from_first : (i : ℕ) (stream : SettledStream) → slice_get streams i ≡ Some stream → slice_get streams (0 + i) ≡ Some stream
    from_first i stream at =
        let same : 0 + i ≡ i = omega arith in
        ap (slice_get streams) same ∙ at

    by : (first : Option ℕ) (requests : Option (List Asked)) → requests_from good.order good.run.outcomes 0 (length streams) ≡ requests →
        option_and_then (if_good streams) (option_and_then (all_placed (domain_at network cycle_time)) (if is_none first then requests else None)) ≡ Some placed →
        ArePlacedAgain streams placed × (placed.domain ≡ domain_at network cycle_time)
    by (Some first) requests is h = absurd (cc)
    by None None is h = absurd (cc)
    by None (Some requests) is h =
        placed_again_by (domain_at network cycle_time) streams requests (admitted_from (domain_at network cycle_time) [] 1 requests) placed
        (pairs_from (domain_at network cycle_time) streams good.order good.run.outcomes good.run.entries good.inside run_there streams 0 requests from_first is) refl h
