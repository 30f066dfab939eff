-- One delivery more is counted.
use Rattle.std.proofs.Common.{◌≡◌, ◌∙◌, ◌+◌, ◌++◌, ◌∷◌, [], ℕ, Bool, true, false, List, Some, None, Option, ap, ap₂, append-nil, append_assoc, arith, count_by, if◌then◌else◌, inl, inr, length, map, sym, refl}
use Rattle.std.specs.Prelude.{◌&&◌, cond, max, min, sum}
use Rattle.std.specs.List.{flat_map}
use Rattle.std.proofs.lemmas.Bool.{cases_Bool}
use Rattle.std.proofs.lemmas.Grind.{flat_map-append}
use Rattle.std.proofs.lemmas.List.{length_push}
use Rattle.std.proofs.lemmas.List.Sums.{fold-append}
use Rattle.cqf_units.specs.declared.timing.Nanos.{Nanos}
use Rattle.cqf_model.specs.declared.frames.Reason.{Reason}
use Rattle.cqf_model.specs.Domain.{Domain}
use Rattle.cqf_model.specs.History.{Asked}
use Rattle.cqf_program_runs.specs.declared.deliveries.delivery.Delivery.{Delivery}
use Rattle.cqf_program_runs.specs.declared.deliveries.delivery.Fate.{Fate}
use Rattle.cqf_program_runs.specs.declared.deliveries.delivery.Fate.TheVariants as fate
use Rattle.cqf_program_runs.specs.declared.deliveries.delivery.Journey.{Journey}
use Rattle.cqf_program_runs.specs.declared.deliveries.delivery.Passage.{Passage}
use Rattle.cqf_program_runs.specs.declared.deliveries.delivery.Passage.TheVariants as passage
use Rattle.cqf_program_runs.specs.Check.Checked.{is_delivered, is_under_way}
use Rattle.cqf_program_runs.specs.Deliveries.{fate_of, latency_of}
use Rattle.cqf_program_summary.specs.declared.summary.fares.Listener.{Listener}
use Rattle.cqf_program_summary.specs.declared.summary.fares.ListenerPath.{ListenerPath}
use Rattle.cqf_program_summary.specs.declared.summary.tallies.LatencySummary.{LatencySummary}
use Rattle.cqf_program_summary.specs.declared.summary.tallies.Tally.{Tally}
use Rattle.cqf_program_summary.specs.Summary.Counting.{fare_with, fare_with_each, fare_with_offer, leads_to, path_with, paths_with, taken_more, taken_with, tally_with}
use Rattle.cqf_program_summary.specs.Summary.{fare_by, listeners_by, name_of_listener, path_to}
use Rattle.cqf_program_summary.specs.Summary.Tallies.{count_to, is_dropped, is_late, latencies_to, latency_by, latency_on, reaches, taken_of, tally_to}
use Rattle.cqf_program_summary.specs.Summary.Written.{row_of_stream}

-- one more counts if it passes
pub count_push : {X : Type 0} (p : X → Bool) (xs : List X) (x : X) → count_by p (xs ++ x ∷ []) ≡ count_by p xs + (if p x then 1 else 0)
count_push {X} p xs x = fold-append (λ (n : ℕ) (y : X). n + cond (p y) 1 0) 0 xs (x ∷ [])

-- and the list for one more element
pub flat_push : {X Y : Type 0} (f : X → List Y) (xs : List X) (x : X) → flat_map f (xs ++ x ∷ []) ≡ flat_map f xs ++ f x
flat_push {X} {Y} f xs x = flat_map-append f xs (x ∷ []) ∙ ap (λ (ys : List Y). flat_map f xs ++ ys) (append-nil (f x))

-- a sum with one more
sum_push : (ns : List ℕ) (n : ℕ) → sum (ns ++ n ∷ []) ≡ sum ns + n
sum_push ns n = fold-append (λ (a b : ℕ). a + b) 0 ns (n ∷ [])

-- one latency more
pub taken_push : (ns : List ℕ) (n : ℕ) → taken_of (ns ++ n ∷ []) ≡ Some (taken_more n (taken_of ns))
taken_push [] n = λ i. Some (record { least = n; most = n; total = alone i; following = 0 })
  where
    alone : n + 0 ≡ n
    alone = omega arith
taken_push (m ∷ ns) n = λ i. Some (record {
  least = fold-append min m ns (n ∷ []) i;
  most = fold-append max m ns (n ∷ []) i;
  total = whole i;
  following = longer i;
})
  where
    whole : m + sum (ns ++ n ∷ []) ≡ (m + sum ns) + n
    whole = omega (arith, sum_push ns n)

    longer : length (ns ++ n ∷ []) ≡ length ns + 1
    longer = length_push ns n

-- with an optional instant more
latencies_with : (ns : List ℕ) (at : ℕ) (whole : Option Nanos) → taken_of (ns ++ latency_by at whole) ≡ taken_with at whole (taken_of ns)
latencies_with ns at None = ap taken_of (append-nil ns)
latencies_with ns at (Some whole) = taken_push ns (latency_of at whole)

-- a tally with a frame more with this fate
tally_by : (ending : Fate) (at : ℕ) (whole : Option Nanos) (t : Tally) (d l u : ℕ) (k : Option LatencySummary) →
    d ≡ t.delivered + (if is_delivered ending then 1 else 0) → l ≡ t.late + (if is_late ending then 1 else 0) →
    u ≡ t.under_way + (if is_under_way ending then 1 else 0) → k ≡ taken_with at whole t.taken →
    record { delivered = d; late = l; under_way = u; taken = k } ≡ tally_with ending at whole t
tally_by fate.Delivered at whole t d l u k ds ls us ks =
    let l_same : l ≡ t.late = omega (arith, ls) in
    let u_same : u ≡ t.under_way = omega (arith, us) in
    λ i. record { delivered = ds i; late = l_same i; under_way = u_same i; taken = ks i }
tally_by fate.Late at whole t d l u k ds ls us ks =
    let d_same : d ≡ t.delivered = omega (arith, ds) in
    let u_same : u ≡ t.under_way = omega (arith, us) in
    λ i. record { delivered = d_same i; late = ls i; under_way = u_same i; taken = ks i }
tally_by fate.UnderWay at whole t d l u k ds ls us ks =
    let d_same : d ≡ t.delivered = omega (arith, ds) in
    let l_same : l ≡ t.late = omega (arith, ls) in
    λ i. record { delivered = d_same i; late = l_same i; under_way = us i; taken = ks i }
tally_by (fate.Dropped reason) at whole t d l u k ds ls us ks =
    let d_same : d ≡ t.delivered = omega (arith, ds) in
    let l_same : l ≡ t.late = omega (arith, ls) in
    let u_same : u ≡ t.under_way = omega (arith, us) in
    λ i. record { delivered = d_same i; late = l_same i; under_way = u_same i; taken = ks i }

module _ (listener : Option (List ℕ)) (ds : List Delivery) (x : Delivery) where
  count_more : (is : Fate → Bool) (b : Bool) → reaches listener x.passage ≡ b →
      count_to listener is (ds ++ x ∷ []) ≡ count_to listener is ds + (if b && is (fate_of x) then 1 else 0)
  count_more is b e =
      count_push (λ (y : Delivery). reaches listener y.passage && is (fate_of y)) ds x
      ∙ ap (λ (c : Bool). count_to listener is ds + (if c && is (fate_of x) then 1 else 0)) e

  latencies_more : (b : Bool) → reaches listener x.passage ≡ b →
      latencies_to listener (ds ++ x ∷ []) ≡ latencies_to listener ds ++ (if b then latency_on x.at.0 x.passage else [])
  latencies_more b e =
      flat_push (λ (y : Delivery). if reaches listener y.passage then latency_on y.at.0 y.passage else []) ds x
      ∙ ap (λ (c : Bool). latencies_to listener ds ++ (if c then latency_on x.at.0 x.passage else [])) e

  -- one that goes elsewhere doesn't count
  pub tally_kept : reaches listener x.passage ≡ false → tally_to listener (ds ++ x ∷ []) ≡ tally_to listener ds
  tally_kept elsewhere = λ i. record { delivered = kept is_delivered i; late = kept is_late i; under_way = kept is_under_way i; taken = same i }
    where
      kept : (is : Fate → Bool) → count_to listener is (ds ++ x ∷ []) ≡ count_to listener is ds
      kept is = omega (arith, count_more is false elsewhere)

      same : taken_of (latencies_to listener (ds ++ x ∷ [])) ≡ taken_of (latencies_to listener ds)
      same = ap taken_of (latencies_more false elsewhere ∙ append-nil (latencies_to listener ds))

  -- and one that goes there does
  pub tally_grown : (journey : Journey) → x.passage ≡ passage.Goes journey → reaches listener x.passage ≡ true →
      tally_to listener (ds ++ x ∷ []) ≡ tally_with (fate_of x) x.at.0 journey.whole (tally_to listener ds)
  tally_grown journey goes there =
      tally_by (fate_of x) x.at.0 journey.whole (tally_to listener ds)
      (count_to listener is_delivered (ds ++ x ∷ [])) (count_to listener is_late (ds ++ x ∷ [])) (count_to listener is_under_way (ds ++ x ∷ []))
      (taken_of (latencies_to listener (ds ++ x ∷ [])))
      (count_more is_delivered true there) (count_more is_late true there) (count_more is_under_way true there)
      (ap taken_of (latencies_more true there ∙ ap (λ (p : Passage). latencies_to listener ds ++ latency_on x.at.0 p) goes)
      ∙ latencies_with (latencies_to listener ds) x.at.0 journey.whole)

-- a drop leads to no listener
drop_reaches : (listener : Option (List ℕ)) (p : Passage) (reason : Reason) → p ≡ passage.Dropped reason → reaches listener p ≡ false
drop_reaches None p reason e = refl
drop_reaches (Some name) p reason e = ap (reaches (Some name)) e

-- where a journey leads
journey_reaches : (to : Option Listener) (journey : Journey) → reaches (name_of_listener to) (passage.Goes journey) ≡ leads_to journey.listener to
journey_reaches None journey = refl
journey_reaches (Some listener) journey = refl

-- a path with a journey more, by whether it leads there
path_by : (ending : Fate) (at : ℕ) (journey : Journey) (path : ListenerPath) (b : Bool) → leads_to journey.listener path.to ≡ b →
    (if b then record path { tally = tally_with ending at journey.whole path.tally } else path) ≡ path_with ending at journey path
path_by ending at journey path b e =
    ap (λ (c : Bool). if c then record path { tally = tally_with ending at journey.whole path.tally } else path) (sym e)

module _ (ds : List Delivery) (x : Delivery) where
  -- a path with one delivery more
  path_more : (to : Option Listener) (journey : Journey) → x.passage ≡ passage.Goes journey →
      path_to (ds ++ x ∷ []) to ≡ path_with (fate_of x) x.at.0 journey (path_to ds to)
  path_more to journey goes = elim (cases_Bool (leads_to journey.listener to)) [
    | inl there ↦ ap (λ (t : Tally). record { to = to; tally = t }) (tally_grown (name_of_listener to) ds x journey goes (leads ∙ there))
        ∙ path_by (fate_of x) x.at.0 journey (path_to ds to) true there
    | inr elsewhere ↦ ap (λ (t : Tally). record { to = to; tally = t }) (tally_kept (name_of_listener to) ds x (leads ∙ elsewhere))
        ∙ path_by (fate_of x) x.at.0 journey (path_to ds to) false elsewhere
  ]
    where
      leads : reaches (name_of_listener to) x.passage ≡ leads_to journey.listener to
      leads = ap (reaches (name_of_listener to)) goes ∙ journey_reaches to journey

  -- all paths with one more
  paths_more : (p : Passage) → x.passage ≡ p → (tos : List (Option Listener)) →
      map (path_to (ds ++ x ∷ [])) tos ≡ paths_with (fate_of x) x.at.0 p (map (path_to ds) tos)
  paths_more (passage.Dropped reason) e [] = refl
  paths_more (passage.Dropped reason) e (to ∷ tos) =
      ap₂ (λ (w : ListenerPath) (ws : List ListenerPath). w ∷ ws)
      (ap (λ (t : Tally). record { to = to; tally = t }) (tally_kept (name_of_listener to) ds x (drop_reaches (name_of_listener to) x.passage reason e)))
      (paths_more (passage.Dropped reason) e tos)
  paths_more (passage.Goes journey) e [] = refl
  paths_more (passage.Goes journey) e (to ∷ tos) =
      ap₂ (λ (w : ListenerPath) (ws : List ListenerPath). w ∷ ws) (path_more to journey e) (paths_more (passage.Goes journey) e tos)

-- the summary of a stream, with one delivery more of its frames
module _ (d : Domain) (cost : Asked → ℕ → ℕ) (due : List ℕ → Option ℕ) (asked : Asked) where
  fare_more : (n : ℕ) (ds : List Delivery) (x : Delivery) → fare_by d cost due n (ds ++ x ∷ []) asked ≡ fare_with (fare_by d cost due n ds asked) x
  fare_more n ds x = λ i. record {
    name = asked.name;
    deadline = due asked.name;
    offered = n;
    dropped = count_push (λ (y : Delivery). is_dropped (fate_of y)) ds x i;
    paths = paths_more ds x x.passage refl (listeners_by d (cost asked) (row_of_stream d asked)) i;
  }

  -- with several
  pub fare_more_each : (n : ℕ) (here ds : List Delivery) → fare_by d cost due n (ds ++ here) asked ≡ fare_with_each here (fare_by d cost due n ds asked)
  fare_more_each n [] ds = ap (λ (es : List Delivery). fare_by d cost due n es asked) (append-nil ds)
  fare_more_each n (x ∷ here) ds =
      ap (λ (es : List Delivery). fare_by d cost due n es asked) (sym (append_assoc ds (x ∷ []) here))
      ∙ fare_more_each n here (ds ++ x ∷ [])
      ∙ ap (fare_with_each here) (fare_more n ds x)

  -- and with an offer and its deliveries
  pub fare_more_offer : (n : ℕ) (here ds : List Delivery) → fare_by d cost due (n + 1) (ds ++ here) asked ≡ fare_with_offer here (fare_by d cost due n ds asked)
  fare_more_offer n here ds = fare_more_each (n + 1) here ds
