-- One stream more is listed.
use Rattle.std.proofs.Common.{◌≡◌, ◌∙◌, ◌+◌, ◌*◌, ◌++◌, ◌∷◌, ◌≤◌, ◌<◌, ◌^◌, [], ℕ, All, Bool, true, false, Contains, List, Some, None, Option, ap, append-nil, arith, filter, if◌then◌else◌, inl, inr, length, map, refl, subst, sym}
use Rattle.std.specs.Prelude.{fold, is_none, max, option_map, slice_get}
use Rattle.std.specs.List.{list_any}
use Rattle.std.proofs.lemmas.Bool.{cases_Bool, false_from_ne_true}
use Rattle.std.proofs.lemmas.List.{length-map, length_push, map-append}
use Rattle.std.proofs.lemmas.List.Elements.{filter-append}
use Rattle.std.proofs.lemmas.List.Sums.{fold-append, sum_by_push}
use Rattle.std.proofs.lemmas.Simd.{map-map}
use Rattle.std.proofs.lemmas.Option.{slice_get_within}
use Rattle.cqf_lists.proofs.Any.{list_any-map}
use Rattle.cqf_lists.proofs.EachBelow.{same_below}
use Rattle.cqf_lists.proofs.EachOnce.{keep}
use Rattle.cqf_lists.proofs.Made.{contains_if, map_same}
use Rattle.cqf_lists.proofs.Members.{all_from_members, contains_from_filter, contains_from_map, contains_one}
use Rattle.cqf_units.specs.Name.{is_name}
use Rattle.cqf_units.proofs.Costs.{cost_within}
use Rattle.cqf_units.specs.Timing.{cost_of}
use Rattle.cqf_model.specs.declared.history.Refused.{Refused}
use Rattle.cqf_model.specs.declared.topology.Hop.{Hop}
use Rattle.cqf_model.specs.declared.topology.Link.{Link}
use Rattle.cqf_model.specs.declared.topology.Row.{Row}
use Rattle.cqf_model.specs.Domain.{Domain, IsAccepted, end_of, is_text}
use Rattle.cqf_model.specs.History.{Asked, pace_of, tree_of}
use Rattle.cqf_model.specs.Limits.{most_overhead, most_reserved}
use Rattle.cqf_model.specs.Table.{cost_on, uses}
use Rattle.cqf_model.proofs.Represented.{few_links}
use Rattle.cqf_laws_history.specs.StateLaws.{granted_row}
use Rattle.cqf_laws_timing.specs.Latency.{most_of}
use Rattle.cqf_laws_timing.specs.Streams.{cost_of_all}
use Rattle.cqf_admission.specs.Rows.{IsSummable}
use Rattle.cqf_admission.proofs.Most.{most_within}
use Rattle.cqf_admission.proofs.GrantLemmas.{form_octets, form_paced, granted_countable}
use Rattle.cqf_admission.specs.Judging.{form_refusal}
use Rattle.cqf_admission.proofs.ActiveCycleLemmas.{asked_is_good, low_at, most_of_uses}
use Rattle.cqf_admission.specs.ActiveCycles.{AreNone, HasRoomFor, IsOfGoodPace, SumsByCycle, most_at, sum_on}
use Rattle.cqf_program_plans.proofs.LookedOver.{countable_within}
use Rattle.cqf_program_plans.specs.EndNames.{name_of_end}
use Rattle.cqf_program_plans.specs.Latency.Text.{is_station, listeners_of}
use Rattle.cqf_program_summary.specs.declared.summary.fares.Listener.{Listener}
use Rattle.cqf_program_summary.specs.declared.summary.listing.ListedStream.{ListedStream}
use Rattle.cqf_topology.specs.DomainText.{is_among}
use Rattle.cqf_program_summary.specs.declared.summary.listing.SummaryListing.{SummaryListing}
use Rattle.cqf_program_summary.specs.Summary.Listing.{AreBounded, CostsWith, IsListing, IsOfStream, ListsOne, MayBeSummed, cost_beside, cost_of_good, fare_named, listed_of}
use Rattle.cqf_program_summary.specs.Summary.{fare_of, listener_to, listeners_by, path_to, summary_by}
use Rattle.cqf_program_summary.specs.Summary.Written.{is_good, row_of_stream, row_unless, written_cost, written_streams}

-- none is listed
pub none_listed : (d : Domain) (listing : SummaryListing) → listing.names.keys ≡ [] → listing.streams.items ≡ [] → AreNone listing.costs 4096 → IsListing d [] listing
none_listed d listing names streams none = record {
  names = names;
  are = streams;
  few = omega arith;
  all = none.of_links;
  costs = λ l cycle low. none.none l cycle;
  bounded = λ l cycle low. omega (arith, none.none l cycle);
}

-- the cost of a row's stream on a link in a cycle is bounded
short : (row : Row) (l cycle : ℕ) → row.octets ≤ most_reserved → row.overhead ≤ most_overhead → cost_on row l cycle ≤ 2000000
short row l cycle few overhead = elim (cases_Bool (uses row.tree.items row.pace l cycle)) [
  | inl goes ↦
      omega (arith, few, cost_within row.overhead row.octets overhead, ap {B = ℕ} (λ (b : Bool). if b then cost_of row.overhead row.octets else 0) goes)
  | inr stays ↦ omega (arith, ap {B = ℕ} (λ (b : Bool). if b then cost_of row.overhead row.octets else 0) stays)
]

-- so there is room for it in addition to costs that are bounded
pub room_bounded : (costs : SumsByCycle) (row : Row) → costs.links ≡ 4096 → AreBounded costs → row.octets ≤ most_reserved → row.overhead ≤ most_overhead →
    HasRoomFor costs row.tree.items row.pace (cost_of row.overhead row.octets)
room_bounded costs row all bounded few overhead l cycle low = omega (arith, short row l cycle few overhead, bounded l cycle (omega (arith, low, all)))

-- a granted row's links are among those that are represented, and it has a good pace
pub granted_summed : (d : Domain) (asked : Asked) (row : Row) → IsAccepted d → row ≡ granted_row d 0 0 asked → form_refusal d asked ≡ None → IsSummable 4096 row
granted_summed d asked row accepted is none = record {
  countable = countable_within row (length d.links) 4096 (omega (arith, few_links d accepted)) (granted_countable d row asked 0 0 accepted.overhead_short is (form_octets d asked none));
  paced = subst IsOfGoodPace (sym is) (asked_is_good asked (form_paced d asked none));
}

-- so what a stream's row costs can be added, if it has one
pub stream_summed : (d : Domain) (asked : Asked) → IsAccepted d → MayBeSummed (row_of_stream d asked)
stream_summed d asked accepted = by (form_refusal d asked) refl
  where
    by : (o : Option Refused) → form_refusal d asked ≡ o → MayBeSummed (row_unless d asked o)
    by None none = granted_summed d asked (granted_row d 0 0 asked) accepted refl none
    by (Some refused) e = tt

-- costs are bounded, by few streams
pub bounded_listing : (d : Domain) (streams : List Asked) (listing : SummaryListing) → IsListing d streams listing → AreBounded listing.costs
bounded_listing d streams listing is l cycle low = omega (arith, is.bounded l cycle low, is.few)

-- and so are the most of them
pub most_bounded : (costs : SumsByCycle) (row : Row) (l : ℕ) → AreBounded costs → l < 4096 → cost_beside costs (Some row) l ≤ 2 ^ 29 * 2000000
most_bounded costs row l bounded low =
    most_within (λ cycle. if uses row.tree.items row.pace l cycle then sum_on costs l cycle ∷ [] else []) 80 (2 ^ 29 * 2000000) (λ cycle x among.
    subst (λ (n : ℕ). n ≤ 2 ^ 29 * 2000000)
    (contains_one (sum_on costs l cycle) x (contains_if (uses row.tree.items row.pace l cycle) (sum_on costs l cycle ∷ []) x among)) (bounded l cycle low))

-- the links of a row's hops are represented
pub hop_low : (row : Row) (hop : Hop) → IsSummable 4096 row → Contains row.tree.items hop → hop.link < 4096
hop_low row hop summable there =
    subst (λ (h : Hop). h.link < 4096) there.2 (low_at row.tree.items there.0 hop 4096 there.1 summable.countable.inside)

-- the most of them is the greatest sum at a hop of the row's tree
pub most_written : (costs : SumsByCycle) (row : Row) (hop : Hop) → IsSummable 4096 row → Contains row.tree.items hop →
    most_at costs hop.link row.pace hop.hop_number ≡ cost_beside costs (Some row) hop.link
most_written costs row hop summable there =
    most_of_uses costs row.tree.items row.pace hop (sum_on costs hop.link) summable.countable.apart there (λ cycle below. refl)

-- a name is found by the same comparison of names
pub known_by_name : (d : Domain) (streams : List Asked) (listing : SummaryListing) → IsListing d streams listing → (name : List ℕ) →
    is_among name listing.names.keys ≡ list_any (λ (a : Asked). is_text a.name name) (written_streams streams)
known_by_name d streams listing is name =
    ap (is_among name) is.names ∙ list_any-map (λ (other : List ℕ). is_text other name) (λ (a : Asked). a.name) (written_streams streams)

abbrev same_name : Asked → Asked → Bool
same_name a b = is_text a.name b.name

abbrev has_name : Asked → Bool
has_name a = is_name a.name

module _ (before : List Asked) (asked : Asked) where
  written_more : written_streams (before ++ asked ∷ []) ≡ fold (keep same_name) (written_streams before) (if is_name asked.name then asked ∷ [] else [])
  written_more =
      ap (fold (keep same_name) []) (filter-append has_name before (asked ∷ []))
      ∙ fold-append (keep same_name) [] (filter has_name before) (filter has_name (asked ∷ []))

  -- a stream isn't in the summary if its name hasn't the form of one, or is known
  pub written_unnamed : is_name asked.name ≡ false → written_streams (before ++ asked ∷ []) ≡ written_streams before
  written_unnamed unnamed = written_more ∙ ap (λ (b : Bool). fold (keep same_name) (written_streams before) (if b then asked ∷ [] else [])) unnamed

  pub written_known : is_name asked.name ≡ true → list_any (λ (a : Asked). is_text a.name asked.name) (written_streams before) ≡ true →
      written_streams (before ++ asked ∷ []) ≡ written_streams before
  written_known named known =
      written_more ∙ ap (λ (b : Bool). fold (keep same_name) (written_streams before) (if b then asked ∷ [] else [])) named
      ∙ ap (λ (b : Bool). if b then written_streams before else written_streams before ++ asked ∷ []) known

  -- otherwise it is
  pub written_new : is_name asked.name ≡ true → list_any (λ (a : Asked). is_text a.name asked.name) (written_streams before) ≡ false →
      written_streams (before ++ asked ∷ []) ≡ written_streams before ++ asked ∷ []
  written_new named new =
      written_more ∙ ap (λ (b : Bool). fold (keep same_name) (written_streams before) (if b then asked ∷ [] else [])) named
      ∙ ap (λ (b : Bool). if b then written_streams before else written_streams before ++ asked ∷ []) new

-- if no stream is added, the listing stays
pub listing_stays : (d : Domain) (before : List Asked) (asked : Asked) (listing : SummaryListing) → written_streams (before ++ asked ∷ []) ≡ written_streams before →
    IsListing d before listing → IsListing d (before ++ asked ∷ []) listing
listing_stays d before asked listing same is = record {
  names = is.names ∙ ap (map (λ (a : Asked). a.name)) (sym same);
  are = is.are ∙ ap (map (listed_of d)) (sym same);
  few = omega (arith, is.few, ap (λ (them : List Asked). length them) same);
  all = is.all;
  costs = λ l cycle low. is.costs l cycle low ∙ ap (λ (them : List Asked). cost_of_good d them l cycle) (sym same);
  bounded = λ l cycle low. omega (arith, is.bounded l cycle low, ap (λ (them : List Asked). length them) same);
}

-- the cost of one stream more
module _ (d : Domain) (reported : List Asked) (asked : Asked) (l cycle : ℕ) where
  abbrev cost_more : Option Refused → ℕ
  cost_more o = if is_none o then cost_on (granted_row d 0 0 asked) l cycle else 0

  abbrev summed : List Asked → ℕ
  summed them = cost_of_all d them l cycle

  written_cost_more : cost_of_good d (reported ++ asked ∷ []) l cycle ≡ cost_of_good d reported l cycle + cost_more (form_refusal d asked)
  written_cost_more = ap summed (filter-append (is_good d) reported (asked ∷ [])) ∙ by (is_good d asked)
    where
      by : (b : Bool) → summed (filter (is_good d) reported ++ (if b then asked ∷ [] else []))
          ≡ cost_of_good d reported l cycle + (if b then cost_on (granted_row d 0 0 asked) l cycle else 0)
      by true = sum_by_push (λ (a : Asked). cost_on (granted_row d 0 0 a) l cycle) (filter (is_good d) reported) asked
      by false =
          let none : cost_of_good d reported l cycle ≡ cost_of_good d reported l cycle + 0 = omega arith in
          ap summed (append-nil (filter (is_good d) reported)) ∙ none

  -- is what its row adds, and is bounded
  pub costs_more : (costs after : SumsByCycle) → l < costs.links → sum_on costs l cycle ≡ cost_of_good d reported l cycle → CostsWith costs (row_of_stream d asked) after →
      MayBeSummed (row_of_stream d asked) →
      (sum_on after l cycle ≡ cost_of_good d (reported ++ asked ∷ []) l cycle) × (sum_on after l cycle ≤ sum_on costs l cycle + 2000000)
  costs_more costs after low are adds summable = by (form_refusal d asked) refl adds summable
    where
      by : (o : Option Refused) → form_refusal d asked ≡ o → CostsWith costs (row_unless d asked o) after → MayBeSummed (row_unless d asked o) →
          (sum_on after l cycle ≡ cost_of_good d (reported ++ asked ∷ []) l cycle) × (sum_on after l cycle ≤ sum_on costs l cycle + 2000000)
      by None e adds sum =
          let more = adds.each l cycle low in
          let whole = written_cost_more ∙ ap (λ (o : Option Refused). cost_of_good d reported l cycle + cost_more o) e in
          (omega (arith, more, whole, are), omega (arith, more, short (granted_row d 0 0 asked) l cycle sum.countable.octets sum.countable.overhead))
      by (Some refused) e same sum =
          let whole = written_cost_more ∙ ap (λ (o : Option Refused). cost_of_good d reported l cycle + cost_more o) e in
          let stays = ap (λ (costs : SumsByCycle). sum_on costs l cycle) same in
          (omega (arith, stays, whole, are), omega (arith, stays))

-- there is one for each link
costs_all : (before after : SumsByCycle) (row : Option Row) → before.links ≡ 4096 → CostsWith before row after → after.links ≡ 4096
costs_all before after None all same = ap (λ (costs : SumsByCycle). costs.links) same ∙ all
costs_all before after (Some row) all adds = adds.links ∙ all

-- with a stream more
pub listing_more : (d : Domain) (before : List Asked) (asked : Asked) (listing after : SummaryListing) → IsListing d before listing → is_name asked.name ≡ true →
    list_any (λ (a : Asked). is_text a.name asked.name) (written_streams before) ≡ false → length listing.names.keys < 2 ^ 29 →
    MayBeSummed (row_of_stream d asked) → ListsOne listing asked.name (row_of_stream d asked) after → IsListing d (before ++ asked ∷ []) after
listing_more d before asked listing after is named new few summable adds =
    let reported = written_streams before in
    let grown = written_new before asked named new in
    let longer : length (written_streams (before ++ asked ∷ [])) ≡ length reported + 1 = ap length grown ∙ length_push reported asked in
    let as_many : length listing.names.keys ≡ length reported = ap length is.names ∙ length-map reported (λ (a : Asked). a.name) in
    let cost : (l cycle : ℕ) → l < 4096 → (sum_on after.costs l cycle ≡ cost_of_good d (reported ++ asked ∷ []) l cycle)
    × (sum_on after.costs l cycle ≤ sum_on listing.costs l cycle + 2000000)
    = λ l cycle low. costs_more d reported asked l cycle listing.costs after.costs (omega (arith, low, is.all)) (is.costs l cycle low) adds.costs summable in
    record {
      names = adds.names
          ∙ ap (λ (ns : List (List ℕ)). ns ++ asked.name ∷ []) is.names
          ∙ sym (ap (map (λ (a : Asked). a.name)) grown ∙ map-append (λ (a : Asked). a.name) reported (asked ∷ []));
      are = adds.streams
          ∙ ap (λ (ls : List ListedStream). ls ++ listed_of d asked ∷ []) is.are
          ∙ sym (ap (map (listed_of d)) grown ∙ map-append (listed_of d) reported (asked ∷ []));
      few = omega (arith, few, longer, as_many);
      all = costs_all listing.costs after.costs (row_of_stream d asked) is.all adds.costs;
      costs = λ l cycle low. (cost l cycle low).0 ∙ ap (λ (them : List Asked). cost_of_good d them l cycle) (sym grown);
      bounded = λ l cycle low. omega (arith, (cost l cycle low).1, is.bounded l cycle low, longer);
    }

-- each that is listed is one of a stream
pub listed_are : (d : Domain) (streams : List Asked) (listing : SummaryListing) → IsListing d streams listing →
    All (IsOfStream d) listing.streams.items
listed_are d streams listing is =
    subst (λ (ls : List ListedStream). All (IsOfStream d) ls) (sym is.are)
    (all_from_members (IsOfStream d) (map (listed_of d) (written_streams streams))
    (λ y c. let found = contains_from_map (listed_of d) (written_streams streams) y c in (found.0, sym found.2)))

-- a link that ends in a station is one of the domain's
station_link : (d : Domain) (link : ℕ) → is_station (end_of d link) ≡ true → link < length d.links
station_link d link ends = by (slice_get d.links link) refl ends
  where
    by : (o : Option Link) → slice_get d.links link ≡ o → is_station (option_map (λ (l : Link). l.to) o) ≡ true → link < length d.links
    by None e ends = absurd cc
    by (Some l) e ends = slice_get_within d.links link l e

-- and a later number has no listener
pub none_after : (d : Domain) (link : ℕ) (listener : Listener) → length d.links ≤ link →
    None ≡ (if is_station (end_of d link) then Some listener else None)
none_after d link listener following =
    sym (ap (λ (b : Bool). if b then Some listener else None)
    (false_from_ne_true (is_station (end_of d link)) (λ ends. omega (arith, station_link d link ends, following))))

-- so the summary of a stream's listeners is by the costs of its links in its cycles
module _ (d : Domain) (accepted : IsAccepted d) (streams : List Asked) (listing : SummaryListing) (is : IsListing d streams listing)
    (asked : Asked) where
  abbrev reported : ℕ → ℕ
  reported = written_cost d (written_streams streams) asked

  at_link : (l : ℕ) → l < 4096 → cost_beside listing.costs (Some (granted_row d 0 0 asked)) l ≡ reported l
  at_link l low =
      let taken : Bool → ℕ → List ℕ = λ b n. if b then n ∷ [] else [] in
      let used : ℕ → Bool = uses (tree_of d asked.paths) (pace_of asked) l in
      ap (fold max 0) (same_below (λ cycle. taken (used cycle) (sum_on listing.costs l cycle))
      (λ cycle. taken (used cycle) (cost_of_good d (written_streams streams) l cycle)) 80 (λ cycle below. ap (taken (used cycle)) (is.costs l cycle low)))

  at_hop : (hop : Hop) → Contains (listeners_of d (granted_row d 0 0 asked)) hop →
      cost_beside listing.costs (Some (granted_row d 0 0 asked)) hop.link ≡ reported hop.link
  at_hop hop c =
      let found = contains_from_filter (λ (h : Hop). is_station (end_of d h.link)) (tree_of d asked.paths) hop c in
      at_link hop.link (omega (arith, station_link d hop.link found.1, few_links d accepted))

  listeners_same : (o : Option Refused) →
      listeners_by d (cost_beside listing.costs (row_unless d asked o)) (row_unless d asked o) ≡ listeners_by d reported (row_unless d asked o)
  listeners_same (Some refused) = refl
  listeners_same None =
      map_same (λ (hop : Hop). Some (listener_to d (cost_beside listing.costs (Some (granted_row d 0 0 asked))) hop)) (λ (hop : Hop). Some (listener_to d reported hop))
      (listeners_of d (granted_row d 0 0 asked)) (λ hop c.
      ap (λ (cost : ℕ). Some (record { name = name_of_end d hop.link; bound = most_of d hop.link hop.hop_number cost })) (at_hop hop c))

  -- the summary of a stream without offers
  pub fare_first : (due : List ℕ → Option ℕ) →
      fare_named d listing.costs due (listed_of d asked) ≡ fare_of d (written_cost d (written_streams streams)) due [] [] asked
  fare_first due = λ i. record {
    name = asked.name;
    deadline = due asked.name;
    offered = 0;
    dropped = 0;
    paths = map (path_to []) (listeners_same (form_refusal d asked) i);
  }

-- so the counts at first are a summary by no offers
pub first_fares : (d : Domain) (streams : List Asked) (due : List ℕ → Option ℕ) (listing : SummaryListing) → IsAccepted d →
    IsListing d streams listing →
    map (fare_named d listing.costs due) listing.streams.items ≡ (summary_by d (written_streams streams) due [] []).fares
first_fares d streams due listing accepted is =
    ap (map (fare_named d listing.costs due)) is.are
    ∙ map-map (fare_named d listing.costs due) (listed_of d) (written_streams streams)
    ∙ map_same (λ (a : Asked). fare_named d listing.costs due (listed_of d a)) (fare_of d (written_cost d (written_streams streams)) due [] [])
    (written_streams streams) (λ a c. fare_first d accepted streams listing is a due)
