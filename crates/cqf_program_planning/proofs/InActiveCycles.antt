-- The offers of a plan's stream whose phase was chosen are in the cycles in which the stream reserves.
use Rattle.std.proofs.Common.{◌≡◌, ◌≢◌, ◌∙◌, ◌<◌, ◌≤◌, ◌+◌, ◌-◌, ◌*◌, ◌/◌, ◌%◌, ◌==◌, ◌&&◌, ℕ, zero, suc, Bool, true, false, List, [], ◌∷◌, Option, Some, None, AllPairs, Contains, ap, arith, div-add-mod', eq-eqb, eqb-true, fold, if◌then◌else◌, inl, inr, length, ltb-true, map, max, refl, slice_get, subst, sym}
use Rattle.std.specs.Prelude.{nat_le, nat_lt, option_map}
use Rattle.std.specs.Option.{option_map_or}
use Rattle.std.proofs.Math.Nat.{add-mul-mod_self_right, mod-lt, mod-mod, mul-add-div_right, mul-add-mod_self_right, mul-mod_left}
use Rattle.std.proofs.lemmas.Bool.{and_parts, cases_lt, leb-true}
use Rattle.std.proofs.lemmas.List.Sums.{fold-append}
use Rattle.std.proofs.lemmas.Option.{get_or_from_slice_get, slice_get_within}
use Rattle.cqf_lists.specs.Lists.{each_below}
use Rattle.cqf_lists.proofs.Members.{contains_at, contains_map}
use Rattle.cqf_lists.proofs.Pairs.{pairs_from_map, pairs_map}
use Rattle.cqf_units.proofs.Cycles.{cycle_is}
use Rattle.cqf_laws_history.specs.StateLaws.{SealsAreCounted}
use Rattle.cqf_laws_timing.specs.Streams.{AdmittedHaveNames}
use Rattle.cqf_laws_timing.specs.Traffic.{offers_named}
use Rattle.cqf_model.specs.declared.frames.Offer.{Offer}
use Rattle.cqf_model.specs.Domain.{Domain, cycle_of}
use Rattle.cqf_model.specs.History.{Asked, pace_of}
use Rattle.cqf_model.specs.Limits.{most_every}
use Rattle.cqf_model.specs.Paces.{is_active}
use Rattle.cqf_traffic.specs.FlowsText.{FlowText}
use Rattle.cqf_traffic.specs.TrafficText.{TrafficText}
use Rattle.cqf_traffic.specs.declared.senders.TalkerStream.{TalkerStream}
use Rattle.cqf_traffic.specs.Conforming.{AreNamedApart, OffersComeInActiveCycles}
use Rattle.cqf_traffic.specs.Offering.{offers_before}
use Rattle.cqf_network.specs.declared.pacing.Pacing.{Pacing}
use Rattle.cqf_network.specs.declared.pacing.Pacing.TheVariants as pacing
use Rattle.cqf_admission.specs.Asking.{asked_by}
use Rattle.cqf_topology.specs.PacedText.{PacedText}
use Rattle.cqf_program_offers.specs.OffersOutput.{asked_in, sender_of}
use Rattle.cqf_program_placing.specs.Settled.{SettledStream}
use Rattle.cqf_program_placing.specs.ActiveCycles.{MayBeFirst, active_cycles_by, can_step, every_in, every_of, is_in_step, keeps_step, stays_in_step}
use Rattle.cqf_program_placing.proofs.Stepping.{divisor_at}
use Rattle.cqf_program_planning.specs.ReadPlans.{ChosenStreamsComeInActiveCycles, ComesAsPlaced, ComesIn, ComesInRound}
use Rattle.cqf_program_planning.proofs.SoundPlans.{plan_granted, written_plan_is_admitted}
use Rattle.cqf_program_planning.proofs.Tried.{tried_known}

-- ---- the greatest common divisor

-- the greater of a divisor and the next divisor divides too
more_divides : (cycles k greatest : ℕ) → (1 ≤ greatest → cycles % greatest ≡ 0) → 1 ≤ fold max greatest (divisor_at cycles k) →
    cycles % fold max greatest (divisor_at cycles k) ≡ 0
more_divides cycles k greatest so_far = by ((most_every % (k + 1) == 0) && (cycles % (k + 1) == 0)) refl
  where
    by : (b : Bool) → ((most_every % (k + 1) == 0) && (cycles % (k + 1) == 0)) ≡ b → 1 ≤ fold max greatest (if b then (k + 1) ∷ [] else []) →
        cycles % fold max greatest (if b then (k + 1) ∷ [] else []) ≡ 0
    by true passes some = elim (cases_lt greatest (k + 1)) [
      | inl less ↦
          let same : max greatest (k + 1) ≡ k + 1 = omega (arith, less) in
          let two = (and_parts (most_every % (k + 1) == 0) (cycles % (k + 1) == 0) passes).1 in
          subst (λ n. cycles % n ≡ 0) (sym same) (eqb-true (cycles % (k + 1)) 0 two)
      | inr more ↦
          let same : max greatest (k + 1) ≡ greatest = omega (arith, more) in
          subst (λ n. cycles % n ≡ 0) (sym same) (so_far (omega (arith, more)))
    ]
    by false fails some = so_far some

-- so the greatest of the first `count` does, if there is one
divides_so_far : (cycles count : ℕ) → 1 ≤ fold max 0 (each_below (divisor_at cycles) count) → cycles % fold max 0 (each_below (divisor_at cycles) count) ≡ 0
divides_so_far cycles zero some = absurd (omega (arith, some))
divides_so_far cycles (suc k) some =
    let greatest : ℕ = fold max 0 (each_below (divisor_at cycles) k) in
    let next : fold max 0 (each_below (divisor_at cycles) (suc k)) ≡ fold max greatest (divisor_at cycles k) =
    fold-append max 0 (each_below (divisor_at cycles) k) (divisor_at cycles k) in
    subst (λ n. cycles % n ≡ 0) (sym next) (more_divides cycles k greatest (divides_so_far cycles k) (subst (λ n. 1 ≤ n) next some))

-- and of all of them
every_divides : (cycles : ℕ) → 1 ≤ every_of cycles → cycles % every_of cycles ≡ 0
every_divides cycles some = divides_so_far cycles most_every some

-- ---- numbers

-- an interval of a number of cycles that `every` divides is a multiple of `every` cycles
times_many : (interval cycle_time every : ℕ) → interval % cycle_time ≡ 0 → interval / cycle_time % every ≡ 0 → interval % (every * cycle_time) ≡ 0
times_many interval cycle_time every one two =
    let times : ℕ = interval / cycle_time / every in
    let cycles : interval ≡ interval / cycle_time * cycle_time = omega (arith, div-add-mod' interval cycle_time, one) in
    let all : interval / cycle_time ≡ times * every = omega (arith, div-add-mod' (interval / cycle_time) every, two) in
    let long : interval ≡ times * (every * cycle_time) = omega (arith, cycles, ap (λ n. n * cycle_time) all) in
    ap (λ n. n % (every * cycle_time)) long ∙ mul-mod_left times (every * cycle_time)

-- an instant this long after the beginning of a cycle
after_beginning : (phase cycle_time offset : ℕ) → (phase * cycle_time + offset % cycle_time) % cycle_time ≡ offset % cycle_time
after_beginning phase cycle_time offset =
    let turned : phase * cycle_time + offset % cycle_time ≡ offset % cycle_time + phase * cycle_time = omega arith in
    ap (λ n. n % cycle_time) turned ∙ add-mul-mod_self_right (offset % cycle_time) phase cycle_time ∙ mod-mod offset cycle_time

in_its_cycle : (phase cycle_time offset : ℕ) → 0 < cycle_time → (phase * cycle_time + offset % cycle_time) / cycle_time ≡ phase
in_its_cycle phase cycle_time offset some =
    cycle_is cycle_time phase (phase * cycle_time + offset % cycle_time) (omega arith) (omega (arith, mod-lt offset some))

-- one of `every` cycles, from the first on
active_cycle_of : (every phase cycle : ℕ) → phase < every → cycle % every ≡ phase % every → is_active (record { pause = every - 1; phase = phase }) 0 cycle ≡ true
active_cycle_of every phase cycle early comes =
    let same : every - 1 + 1 ≡ every = omega (arith, early) in
    let first : phase + 0 ≡ phase = omega arith in
    subst (λ n. ((phase + 0) % n == cycle % n) ≡ true) (sym same)
    (eq-eqb ((phase + 0) % every) (cycle % every) (ap (λ n. n % every) first ∙ sym comes))

-- ---- streams

-- no two streams that are granted have one name
named_apart : (d : Domain) (flows : List FlowText) → AllPairs (λ (a b : Asked). a.name ≢ b.name) (map asked_in flows) → AreNamedApart (map (sender_of d) flows)
named_apart d flows pairs i k a b before first second same =
    let senders : List TalkerStream = map (sender_of d) flows in
    let apart : AllPairs (λ (x y : TalkerStream). x.name ≢ y.name) senders =
    pairs_map (λ (x y : TalkerStream). x.name ≢ y.name) (sender_of d) flows (pairs_from_map (λ (x y : Asked). x.name ≢ y.name) asked_in flows pairs) in
    apart i k a before (slice_get_within senders k b second)
    (ap (λ (s : TalkerStream). s.name) (get_or_from_slice_get senders i a a first) ∙ same
    ∙ ap (λ (s : TalkerStream). s.name) (sym (get_or_from_slice_get senders k b a second)))

-- what is known of a stream whose phase is chosen
record IsChosen (cycle_time sync : ℕ) (traffic : Option TrafficText) (every phase : ℕ) : Type 0 where
  t : TrafficText
  has : traffic ≡ Some t
  stays : stays_in_step cycle_time sync t ≡ true
  is_every : every ≡ every_of (t.interval / cycle_time)
  early : phase < every_of (t.interval / cycle_time)

is_chosen : (cycle_time sync : ℕ) (given : Pacing) (traffic : Option TrafficText) (every phase : ℕ) →
    option_map_or (is_in_step cycle_time given) traffic false ≡ true → can_step cycle_time sync given traffic ≡ true →
    every ≡ every_in (active_cycles_by cycle_time given traffic) → MayBeFirst (active_cycles_by cycle_time given traffic) phase →
    IsChosen cycle_time sync traffic every phase
is_chosen cycle_time sync given None every phase chosen can is may = absurd (cc)
is_chosen cycle_time sync (pacing.Given many first) (Some t) every phase chosen can is may = absurd (cc)
is_chosen cycle_time sync pacing.InStep (Some t) every phase chosen can is may =
    record {
      t = t;
      has = refl;
      stays = can;
      is_every = is;
      early = may;
    }

-- ---- instants at the same place of a round

module _ (n m every cycle_time : ℕ) (same : n % (every * cycle_time) ≡ m % (every * cycle_time)) where
  split : (k : ℕ) → k / (every * cycle_time) * every * cycle_time + k % (every * cycle_time) ≡ k
  split k = omega (arith, div-add-mod' k (every * cycle_time))

  in_cycle : (k : ℕ) → k % cycle_time ≡ k % (every * cycle_time) % cycle_time
  in_cycle k =
      ap (λ (x : ℕ). x % cycle_time) (sym (split k))
      ∙ mul-add-mod_self_right (k / (every * cycle_time) * every) cycle_time (k % (every * cycle_time))

  -- are at the same place of a cycle
  same_in_cycle : n % cycle_time ≡ m % cycle_time
  same_in_cycle = in_cycle n ∙ ap (λ (r : ℕ). r % cycle_time) same ∙ sym (in_cycle m)

  in_turn : 0 < cycle_time → (k : ℕ) → k / cycle_time % every ≡ k % (every * cycle_time) / cycle_time % every
  in_turn some k =
      ap (λ (x : ℕ). x / cycle_time % every) (sym (split k))
      ∙ ap (λ (x : ℕ). x % every) (mul-add-div_right some (k / (every * cycle_time) * every) (k % (every * cycle_time)))
      ∙ mul-add-mod_self_right (k / (every * cycle_time)) every (k % (every * cycle_time) / cycle_time)

  -- and in the same cycle of a round
  same_active_cycle : 0 < cycle_time → n / cycle_time % every ≡ m / cycle_time % every
  same_active_cycle some = in_turn some n ∙ ap (λ (r : ℕ). r / cycle_time % every) same ∙ sym (in_turn some m)

-- its offers are in its cycles
comes_in_turn : (d : Domain) (flows : List FlowText) (flow : FlowText) (index until : ℕ) (seed : Option ℕ) (x : Offer) (t reported : TrafficText) →
    OffersComeInActiveCycles → AreNamedApart (map (sender_of d) flows) → slice_get flows index ≡ Some flow → flow.1 ≡ Some reported →
    ComesInRound (flow.0.0.every * d.cycle_time) (record t { offset = flow.0.0.phase * d.cycle_time + t.offset % d.cycle_time }) reported → 0 < d.cycle_time →
    stays_in_step d.cycle_time d.sync t ≡ true → flow.0.0.every ≡ every_of (t.interval / d.cycle_time) → flow.0.0.phase < every_of (t.interval / d.cycle_time) →
    Contains (offers_named flow.0.0.name (offers_before until seed (map (sender_of d) flows))) x → (at : ℕ) → x.at.0 ≤ at + d.sync → at ≤ x.at.0 + d.sync →
    is_active (pace_of (asked_in flow)) 0 (cycle_of d at) ≡ true
comes_in_turn d flows flow index until seed x t reported come apart there has round some stays is early among at no_sooner no_later =
    let every : ℕ = every_of (t.interval / d.cycle_time) in
    let phase : ℕ = flow.0.0.phase in
    let begins : ℕ = phase * d.cycle_time + t.offset % d.cycle_time in
    let both = and_parts (keeps_step d.cycle_time t)
    (nat_le d.sync (t.offset % d.cycle_time) && nat_lt (t.offset % d.cycle_time + t.jitter + d.sync) d.cycle_time) stays in
    let parts = and_parts (t.interval % d.cycle_time == 0) (nat_lt (t.offset % d.cycle_time + t.jitter) d.cycle_time) both.0 in
    let clocks = and_parts (nat_le d.sync (t.offset % d.cycle_time)) (nat_lt (t.offset % d.cycle_time + t.jitter + d.sync) d.cycle_time) both.1 in
    let same : reported.offset % (every * d.cycle_time) ≡ begins % (every * d.cycle_time) =
    subst (λ (n : ℕ). reported.offset % (n * d.cycle_time) ≡ begins % (n * d.cycle_time)) is round.offset in
    let in_cycle : reported.offset % d.cycle_time ≡ t.offset % d.cycle_time =
    same_in_cycle reported.offset begins every d.cycle_time same ∙ after_beginning phase d.cycle_time t.offset in
    let whole : reported.interval % (every * d.cycle_time) ≡ 0 =
    ap (λ (n : ℕ). n % (every * d.cycle_time)) round.interval
    ∙ times_many t.interval d.cycle_time every (eqb-true (t.interval % d.cycle_time) 0 parts.0) (every_divides (t.interval / d.cycle_time) (omega (arith, early))) in
    let low : d.sync ≤ t.offset % d.cycle_time = leb-true d.sync (t.offset % d.cycle_time) clocks.0 in
    let high : t.offset % d.cycle_time + t.jitter + d.sync < d.cycle_time =
    ltb-true (t.offset % d.cycle_time + t.jitter + d.sync) d.cycle_time clocks.1 in
    let following : d.sync ≤ reported.offset % d.cycle_time = omega (arith, low, in_cycle) in
    let within : reported.offset % d.cycle_time + reported.jitter + d.sync < d.cycle_time = omega (arith, high, in_cycle, round.jitter) in
    let comes : at / d.cycle_time % every ≡ reported.offset / d.cycle_time % every =
    come until seed (map (sender_of d) flows) (sender_of d flow) reported d.cycle_time every d.sync apart
    (contains_map (sender_of d) flows flow (contains_at flows index flow there)) has some (omega (arith, early)) whole following within x among at no_sooner
    no_later in
    let active_cycle : reported.offset / d.cycle_time % every ≡ phase % every =
    same_active_cycle reported.offset begins every d.cycle_time same some ∙ ap (λ n. n % every) (in_its_cycle phase d.cycle_time t.offset some) in
    subst (λ n. is_active (record { pause = n - 1; phase = phase }) 0 (at / d.cycle_time) ≡ true) (sym is)
    (active_cycle_of every phase (at / d.cycle_time) early (comes ∙ active_cycle))

-- streams that come as they were placed are asked for as they were
same_asked : (cycle_time : ℕ) (streams : List SettledStream) (flows there : List FlowText) → length there ≡ length flows → length flows ≡ length streams →
    ((index : ℕ) (stream : SettledStream) (flow one : FlowText) → slice_get streams index ≡ Some stream → slice_get flows index ≡ Some flow →
    slice_get there index ≡ Some one → ComesAsPlaced cycle_time stream flow one) → map asked_in there ≡ map asked_in flows
same_asked cycle_time streams [] [] many each come = refl
same_asked cycle_time streams [] (one ∷ there) many each come = absurd cc
same_asked cycle_time streams (flow ∷ flows) [] many each come = absurd cc
same_asked cycle_time [] (flow ∷ flows) (one ∷ there) many each come = absurd cc
same_asked cycle_time (stream ∷ streams) (flow ∷ flows) (one ∷ there) many each come =
    let first = come 0 stream flow one refl refl refl in
    let many_rest : length there ≡ length flows = cc in
    let each_rest : length flows ≡ length streams = cc in
    let rest = same_asked cycle_time streams flows there many_rest each_rest (λ k. come (suc k)) in
    (λ i. asked_by (first.request i) ∷ rest i)

-- an element at an index
one_at : {X : Type 0} (xs : List X) (i : ℕ) → i < length xs → (x : X) × (slice_get xs i ≡ Some x)
one_at [] i less = absurd (omega (arith, less))
one_at (x ∷ xs) zero less = (x, refl)
one_at (x ∷ xs) (suc i) less = one_at xs i (omega (arith, less))

-- what comes in a round of something is something
written_in : (round : ℕ) (placed : TrafficText) (there : Option TrafficText) → ComesIn round (Some placed) there →
    (reported : TrafficText) × (there ≡ Some reported) × ComesInRound round placed reported
written_in round placed None h = absurd h
written_in round placed (Some reported) h = (reported, refl, h)

pub chosen_streams_come_in_active_cycles : SealsAreCounted → AdmittedHaveNames → OffersComeInActiveCycles → ChosenStreamsComeInActiveCycles
chosen_streams_come_in_active_cycles counted names come network streams search d flows there index stream one until seed x plan as_placed here at_edge chosen among at no_sooner no_later =
    let taken_over = (written_plan_is_admitted counted network streams search d flows plan).taken_over in
    let inside = slice_get_within streams index stream here in
    let (flow, placed) = one_at flows index (omega (arith, inside, taken_over.as_many)) in
    let taken = taken_over.each index stream flow here placed in
    let comes = as_placed.each index stream flow one here placed at_edge in
    let of = is_chosen d.cycle_time d.sync stream.pacing stream.traffic flow.0.0.every flow.0.0.phase chosen taken.apart taken.every taken.phase in
    let flow_has : flow.1 ≡ Some (record of.t { offset = flow.0.0.phase * d.cycle_time + of.t.offset % d.cycle_time }) =
    taken.chosen chosen
    ∙ ap (option_map (λ (t : TrafficText). record t { offset = flow.0.0.phase * d.cycle_time + t.offset % d.cycle_time })) of.has in
    let round = subst (λ (o : Option TrafficText). ComesIn (flow.0.0.every * d.cycle_time) o one.1) flow_has (comes.chosen chosen) in
    let (reported, written_is, in_round) = written_in (flow.0.0.every * d.cycle_time)
    (record of.t { offset = flow.0.0.phase * d.cycle_time + of.t.offset % d.cycle_time }) one.1 round in
    let own = subst (λ (r : PacedText). ComesInRound (r.every * d.cycle_time) (record of.t { offset = r.phase * d.cycle_time + of.t.offset % d.cycle_time }) reported)
    (sym comes.request) in_round in
    let every : one.0.0.every ≡ flow.0.0.every = ap (λ (r : PacedText). r.every) comes.request in
    let phase : one.0.0.phase ≡ flow.0.0.phase = ap (λ (r : PacedText). r.phase) comes.request in
    let early : one.0.0.phase < every_of (of.t.interval / d.cycle_time) = let first = of.early in omega (arith, first, phase) in
    let known = tried_known network streams search.tries plan.cycle_time plan.placed plan.are_placed in
    let same : d.cycle_time ≡ plan.cycle_time = ap (λ (there : Domain). there.cycle_time) (plan.domain_is ∙ known.domain) in
    let asked = same_asked d.cycle_time streams flows there as_placed.as_many taken_over.as_many as_placed.each in
    let pairs = subst (λ (all : List Asked). AllPairs (λ (a b : Asked). a.name ≢ b.name) all) (sym asked)
    (names d (map asked_in flows) (plan_granted counted network streams search d flows plan)) in
    comes_in_turn d there one index until seed x of.t reported come (named_apart d there pairs) at_edge written_is own (omega (arith, same, plan.open_to))
    of.stays (every ∙ of.is_every) early among at no_sooner no_later
