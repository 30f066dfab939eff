-- What streams take of access links, stream by stream.
use Rattle.std.proofs.Common.{ℕ, ◌≡◌, ◌⊎◌, ◌∙◌, ◌+◌, ◌*◌, ◌/◌, ◌%◌, ◌<◌, ◌≤◌, List, [], ◌∷◌, Option, Some, None, All, ap, arith, drop, get_or, inl, inr, length, map, min, refl, set, subst, suc, sym, zero}
use Rattle.std.specs.Int.{div_ceil}
use Rattle.std.proofs.Math.Nat.{div-le_self, min-le_left, mul-le-mul}
use Rattle.std.proofs.lemmas.Bool.{cases_lt}
use Rattle.std.proofs.lemmas.List.{drop_all, drop_more, get_or_past}
use Rattle.std.proofs.lemmas.Option.{none-some}
use Rattle.std.proofs.lemmas.List.Elements.{All-map, All-weaker}
use Rattle.cqf_edge.specs.declared.uses.Handed.{Handed}
use Rattle.cqf_model.specs.Limits.{longest_cycle, most_overhead}
use Rattle.cqf_units.proofs.Costs.{cost_within}
use Rattle.cqf_units.specs.Timing.{cost_of}
use Rattle.cqf_network.specs.declared.domain.TalkerLink.{TalkerLink}
use Rattle.cqf_network.specs.NetworkDomain.{HasTalkerLinks, IsTalkerLink, NetworkDomain}
use Rattle.cqf_traffic.specs.declared.flows.Flow.{Flow}
use Rattle.cqf_traffic.specs.FlowsText.{flow_text}
use Rattle.cqf_traffic.specs.TrafficText.{IsTrafficText, TrafficText}
use Rattle.cqf_program_plans.specs.declared.load.access.AccessLoad.{AccessLoad}
use Rattle.cqf_program_plans.specs.Load.Access.{IsLoadedBy, TakesLittle, added_load, loaded_by, loads_with, most_taken, promised_in, taken_by, unloaded}

-- rounding up adds one at most
rounded : (n d : ℕ) → div_ceil n d ≤ n + 1
rounded n d =
    let whole : n / d ≤ n = div-le_self n d in
    let one : min 1 (n % d) ≤ 1 = min-le_left 1 (n % d) in
    let sum : n / d + min 1 (n % d) ≤ n + 1 = omega (arith, whole, one) in
    sum

-- what is made of the numbers of traffic is what it promises
pub promised_as : (t : TrafficText) (cycle_time frames size time interval found : ℕ) → frames ≡ t.frames → size ≡ t.size → time ≡ cycle_time →
    interval ≡ t.interval → found ≡ div_ceil (frames * (size + 20) * time) interval → found ≡ promised_in cycle_time t
promised_as t cycle_time frames size time interval found f s c i is = is ∙ (λ k. div_ceil (f k * (s k + 20) * c k) (i k))

-- it is little
pub promised_little : (t : TrafficText) (cycle_time : ℕ) → IsTrafficText t → cycle_time ≤ longest_cycle → promised_in cycle_time t ≤ most_taken
promised_little t cycle_time ranges short =
    let frames : t.frames ≤ 1000 = ranges.frames.most in
    let size : t.size ≤ 1522 = ranges.size.most in
    let octets : t.size + 20 ≤ 1542 = omega (arith, size) in
    let each : t.frames * (t.size + 20) ≤ 1000 * 1542 = mul-le-mul frames octets in
    let all : t.frames * (t.size + 20) * cycle_time ≤ 1000 * 1542 * longest_cycle = mul-le-mul each short in
    let up : div_ceil (t.frames * (t.size + 20) * cycle_time) t.interval ≤ t.frames * (t.size + 20) * cycle_time + 1 =
    rounded (t.frames * (t.size + 20) * cycle_time) t.interval in
    omega (arith, up, all)

-- and so is what a reservation costs
pub reserved_little : (overhead octets every : ℕ) → overhead ≤ most_overhead → octets < 4294967296 → div_ceil (cost_of overhead octets) every ≤ most_taken
reserved_little overhead octets every short small =
    let up : div_ceil (cost_of overhead octets) every ≤ cost_of overhead octets + 1 = rounded (cost_of overhead octets) every in
    omega (arith, up, cost_within overhead octets short, small)

-- an access link of a network has its ends there
pub link_there : (network : NetworkDomain) (links : List TalkerLink) (k : ℕ) (d : TalkerLink) → HasTalkerLinks network → links ≡ network.talkers →
    k < length links → IsTalkerLink network (get_or links k d)
link_there network links k d has same below =
    let each : All (IsTalkerLink network) links = subst (All (IsTalkerLink network)) (sym same) has.each_there in
    each k d below

-- one more is added to the link at its place
pub added_at : (loads : List AccessLoad) (index taken : ℕ) (d : AccessLoad) → index < length loads →
    added_load loads index taken ≡ set loads index (loaded_by taken (get_or loads index d))
added_at [] index taken d below = absurd (omega (arith, below))
added_at (load ∷ loads) zero taken d below = refl
added_at (load ∷ loads) (suc index) taken d below = ap (λ (rest : List AccessLoad). load ∷ rest) (added_at loads index taken d (omega (arith, below)))

-- so the loads are those in which this one is changed
pub added_there : (loads : List AccessLoad) (index taken : ℕ) (old after : AccessLoad) → index < length loads → old ≡ get_or loads index old →
    after ≡ loaded_by taken old → set loads index after ≡ added_load loads index taken
added_there loads index taken old after below is more =
    ap (set loads index) (more ∙ ap (loaded_by taken) is) ∙ sym (added_at loads index taken old below)

-- where there is none, nothing changes
pub added_none : (loads : List AccessLoad) (index taken : ℕ) → length loads ≤ index → added_load loads index taken ≡ loads
added_none [] index taken above = refl
added_none (load ∷ loads) zero taken above = absurd (omega (arith, above))
added_none (load ∷ loads) (suc index) taken above = ap (λ (rest : List AccessLoad). load ∷ rest) (added_none loads index taken (omega (arith, above)))

-- some of a number of streams are some of one more
more_streams : (count : ℕ) (load : AccessLoad) → IsLoadedBy count load → IsLoadedBy (count + 1) load
more_streams count load is = record { little = is.little; few = omega (arith, is.few) }

pub all_same : (count : ℕ) (loads after : List AccessLoad) → after ≡ loads → All (IsLoadedBy count) loads → All (IsLoadedBy (count + 1)) after
all_same count loads after same all =
    subst (All (IsLoadedBy (count + 1))) (sym same) (All-weaker (IsLoadedBy count) (IsLoadedBy (count + 1)) (more_streams count) loads all)

-- a link before any stream takes a part of it
pub unloaded_little : (network : NetworkDomain) (cycle_time : ℕ) (links : List TalkerLink) → All (IsLoadedBy 0) (map (unloaded network cycle_time) links)
unloaded_little network cycle_time links =
    All-map (IsLoadedBy 0) (unloaded network cycle_time) links (λ k d below. record { little = omega arith; few = omega arith })

pub all_little : (count : ℕ) (loads : List AccessLoad) → All (IsLoadedBy count) loads → All TakesLittle loads
all_little count loads all = All-weaker (IsLoadedBy count) TakesLittle (λ load is. is.little) loads all

-- a list has something at each place
item_at : {A : Type 0} (xs : List A) (k : ℕ) → k < length xs → (x : A) × (x ≡ get_or xs k x)
item_at [] k below = absurd (omega (arith, below))
item_at (x ∷ xs) zero below = (x, refl)
item_at (x ∷ xs) (suc k) below = item_at xs k (omega (arith, below))

-- the loads with what the streams before an index take
pub record AreLoaded (overhead cycle_time : ℕ) (first : List AccessLoad) (handed : List (Option Handed)) (flows : List Flow) (index : ℕ) (loads : List AccessLoad) :
    Type 0 where
  pub is : loads_with overhead cycle_time first handed (map flow_text flows) ≡ loads_with overhead cycle_time loads (drop index handed) (map flow_text (drop index flows))
  pub all : All (IsLoadedBy index) loads

-- of no stream anything is handed over where none is left
none_left : (overhead cycle_time : ℕ) (loads : List AccessLoad) (handed : List (Option Handed)) → loads_with overhead cycle_time loads handed [] ≡ loads
none_left overhead cycle_time loads [] = refl
none_left overhead cycle_time loads (one ∷ more) = refl

module _ (overhead cycle_time : ℕ) (first : List AccessLoad) (handed : List (Option Handed)) (flows : List Flow) where
  pub loaded_none : All (IsLoadedBy 0) first → AreLoaded overhead cycle_time first handed flows 0 first
  loaded_none all = record { is = refl; all = all }

  pub loaded_all : (index : ℕ) (loads : List AccessLoad) → length flows ≤ index → AreLoaded overhead cycle_time first handed flows index loads →
      loads ≡ loads_with overhead cycle_time first handed (map flow_text flows)
  loaded_all index loads last so_far =
      sym (so_far.is
      ∙ ap (λ (rest : List Flow). loads_with overhead cycle_time loads (drop index handed) (map flow_text rest)) (drop_all index flows last)
      ∙ none_left overhead cycle_time loads (drop index handed))

  module _ (index : ℕ) (flow : Flow) (loads : List AccessLoad) (below : index < length flows) (here : flow ≡ get_or flows index flow)
      (so_far : AreLoaded overhead cycle_time first handed flows index loads) where
    abbrev following : List Flow
    following = drop (index + 1) flows

    -- the streams from the place on
    from_index : drop index flows ≡ flow ∷ following
    from_index = drop_more flows index flow below ∙ ap (λ (f : Flow). f ∷ following) (sym here)

    at_index : (rest : List (Option Handed)) → drop index handed ≡ rest →
        loads_with overhead cycle_time first handed (map flow_text flows) ≡ loads_with overhead cycle_time loads rest (flow_text flow ∷ map flow_text following)
    at_index rest is =
        so_far.is
        ∙ (λ i. loads_with overhead cycle_time loads (is i) (map flow_text (from_index i)))

    -- one that hands nothing over
    skips : (index < length handed) ⊎ (length handed ≤ index) → get_or handed index None ≡ None →
        loads_with overhead cycle_time first handed (map flow_text flows) ≡ loads_with overhead cycle_time loads (drop (index + 1) handed) (map flow_text following)
    skips (inl l) none =
        at_index (None ∷ drop (index + 1) handed)
        (drop_more handed index None l ∙ ap (λ (one : Option Handed). one ∷ drop (index + 1) handed) none)
    skips (inr g) none =
        at_index [] (drop_all index handed g)
        ∙ ap (λ (rest : List (Option Handed)). loads_with overhead cycle_time loads rest (map flow_text following)) (sym (drop_all (index + 1) handed (omega (arith, g))))

    pub loaded_skip : get_or handed index None ≡ None → AreLoaded overhead cycle_time first handed flows (index + 1) loads
    loaded_skip none = record {
      is = skips (cases_lt index (length handed)) none;
      all = all_same index loads loads refl so_far.all;
    }

    -- one that does is there
    there : (one : Handed) → (index < length handed) ⊎ (length handed ≤ index) → get_or handed index None ≡ Some one → drop index handed ≡ Some one ∷ drop (index + 1) handed
    there one (inl l) some = drop_more handed index None l ∙ ap (λ (found : Option Handed). found ∷ drop (index + 1) handed) some
    there one (inr g) some = absurd (none-some one (sym (get_or_past handed index None g) ∙ some))

    pub loaded_more : (one : Handed) (after : List AccessLoad) → get_or handed index None ≡ Some one →
        after ≡ added_load loads one.index (taken_by overhead cycle_time one flow.planned.request.octets flow.planned.request.every) → All (IsLoadedBy (index + 1)) after →
        AreLoaded overhead cycle_time first handed flows (index + 1) after
    loaded_more one after some is all = record {
      is = at_index (Some one ∷ drop (index + 1) handed) (there one (cases_lt index (length handed)) some)
          ∙ ap (λ (now_loaded : List AccessLoad). loads_with overhead cycle_time now_loaded (drop (index + 1) handed) (map flow_text following)) (sym is);
      all = all;
    }

  -- so one that hands nothing over changes nothing
  pub loaded_past : (index : ℕ) (loads : List AccessLoad) → index < length flows → AreLoaded overhead cycle_time first handed flows index loads →
      get_or handed index None ≡ None → AreLoaded overhead cycle_time first handed flows (index + 1) loads
  loaded_past index loads below so_far none =
      let found = item_at flows index below in
      loaded_skip index found.0 loads below found.1 so_far none
