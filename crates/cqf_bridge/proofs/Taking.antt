-- Arrivals that a port takes: they are neither late nor out of order.
use Rattle.std.proofs.Common.{◌≡◌, ◌≢◌, ◌+◌, ◌*◌, ◌≤◌, ◌<◌, ℕ, List, [], ◌∷◌, ◌++◌, ◌∙◌, inl, inr, sym, ap, arith}
use Rattle.std.proofs.Common.{length, map, filter, take, drop, get_or, AllPairs, Contains, append_assoc, append-nil}
use Rattle.std.proofs.Common.{subst, Option}
use Rattle.std.proofs.lemmas.Bool.{cond-true, cond-false, eq-eqb, ne_eqb}
use Rattle.std.proofs.lemmas.List.{drop_more, map-append, take-append-drop, take_all, take_more}
use Rattle.std.proofs.lemmas.List.Elements.{Contains-append_cases, Contains-get_or, filter-append}
use Rattle.cqf_lists.proofs.Members.{contains_from_filter, contains_from_map, contains_here}
use Rattle.cqf_lists.proofs.Pairs.{pairs_across}
use Rattle.cqf_units.proofs.Cycles.{cycle_from}
use Rattle.cqf_model.specs.declared.frames.Backed.{Backed}
use Rattle.cqf_model.specs.declared.ports.Arrival.{Arrival}
use Rattle.cqf_model.specs.Network.{QueuedFrame, arrivals_of, backed_frame}
use Rattle.cqf_model.specs.Port.{no_arrival}
use Rattle.cqf_laws_cycle.specs.Gathered.{is_for_link}
use Rattle.cqf_port.specs.PortState.{IsLate, IsOutOfOrder, PortState}
use Rattle.cqf_bridge.specs.PortRecord.{PortRecord, with_frames}
use Rattle.cqf_bridge.specs.BridgeState.{backed_on, port_with}
use Rattle.cqf_bridge.specs.Sending.{CanTake}

-- an arrival that isn't before the port's current instant isn't late
pub not_late : (p : PortState) (a : Arrival) → p.reached ≤ a.at.0 → ¬ IsLate p a
not_late p a from h = absurd (omega (arith, from, h.from_first, h.before_last))

-- an arrival that isn't before another one of its class isn't out of order
pub not_out_of_order : (p : PortState) (a : Arrival) →
    ((b : Arrival) → Contains p.arrivals b → b.class ≡ a.class → b.at.0 ≤ a.at.0) → ¬ IsOutOfOrder p a
not_out_of_order p a before h =
    absurd (omega (
      arith,
      h.earlier,
      before (get_or p.arrivals h.index no_arrival) (Contains-get_or p.arrivals h.index no_arrival h.last.inside)
          h.last.of_class,
    ))

-- frames that are recorded one after the other
pub frames_more : (r : PortRecord) (xs ys : List QueuedFrame) → with_frames (with_frames r xs) ys ≡ with_frames r (xs ++ ys)
frames_more r xs ys = λ i. record {
  link = r.link;
  port = record {
    rules = r.port.rules;
    reached = r.port.reached;
    arrivals = (append_assoc r.port.arrivals (arrivals_of xs) (arrivals_of ys)
        ∙ ap (λ (zs : List Arrival). r.port.arrivals ++ zs) (sym (map-append (λ (x : QueuedFrame). x.arrival) xs ys))) i;
    starts = r.port.starts;
  };
  streams = (append_assoc r.streams (map (λ (x : QueuedFrame). x.stream) xs) (map (λ (x : QueuedFrame). x.stream) ys)
      ∙ ap (λ (zs : List (Option ℕ)). r.streams ++ zs) (sym (map-append (λ (x : QueuedFrame). x.stream) xs ys))) i;
}

-- no frames
pub frames_none : (r : PortRecord) → with_frames r [] ≡ r
frames_none r = λ i. record {
  link = r.link;
  port = record { rules = r.port.rules; reached = r.port.reached; arrivals = append-nil r.port.arrivals i; starts = r.port.starts };
  streams = append-nil r.streams i;
}

module _ (r : PortRecord) (backed : List Backed) (can : CanTake backed r) where
  -- the first of them are taken
  abbrev pub taken : ℕ → PortRecord
  taken count = port_with (take count backed) r

  pub none_taken : r ≡ taken 0
  none_taken = sym (frames_none r)

  -- the frames of the link among the first, and the next
  next_on : (count : ℕ) (d : Backed) → count < length backed →
      backed_on r.link (take (count + 1) backed) ≡ backed_on r.link (take count backed) ++ backed_on r.link (get_or backed count d ∷ [])
  next_on count d inside =
      ap (backed_on r.link) (take_more backed count d inside)
      ∙ ap (map backed_frame) (filter-append (is_for_link r.link) (take count backed) (get_or backed count d ∷ []))
      ∙ map-append backed_frame (filter (is_for_link r.link) (take count backed)) (filter (is_for_link r.link) (get_or backed count d ∷ []))

  -- the next uses the link
  pub next_taken : (count : ℕ) (x d : Backed) (now : PortRecord) → count < length backed → x ≡ get_or backed count d → x.background.link ≡ r.link →
      now ≡ with_frames (taken count) (backed_frame x ∷ []) → now ≡ taken (count + 1)
  next_taken count x d now inside is_x same is_now =
      let one : backed_on r.link (get_or backed count d ∷ []) ≡ backed_frame x ∷ [] =
      ap (λ (y : Backed). backed_on r.link (y ∷ [])) (sym is_x)
      ∙ ap (map backed_frame) (cond-true (is_for_link r.link x) (x ∷ []) [] (eq-eqb x.background.link r.link same)) in
      is_now ∙ frames_more r (backed_on r.link (take count backed)) (backed_frame x ∷ [])
      ∙ ap (λ (fs : List QueuedFrame). with_frames r (backed_on r.link (take count backed) ++ fs)) (sym one)
      ∙ ap (with_frames r) (sym (next_on count d inside))

  -- or another link
  pub next_passed : (count : ℕ) (x d : Backed) → count < length backed → x ≡ get_or backed count d → x.background.link ≢ r.link →
      taken count ≡ taken (count + 1)
  next_passed count x d inside is_x other =
      let none : backed_on r.link (get_or backed count d ∷ []) ≡ [] =
      ap (λ (y : Backed). backed_on r.link (y ∷ [])) (sym is_x)
      ∙ ap (map backed_frame) (cond-false (is_for_link r.link x) (x ∷ []) [] (ne_eqb x.background.link r.link other)) in
      ap (with_frames r) (sym (next_on count d inside ∙ ap (λ (fs : List QueuedFrame). backed_on r.link (take count backed) ++ fs) none
      ∙ append-nil (backed_on r.link (take count backed))))

  -- all are
  pub all_taken : (count : ℕ) → length backed ≤ count → taken count ≡ port_with backed r
  all_taken count past = ap (λ (xs : List Backed). port_with xs r) (take_all count backed past)

  module _ (count : ℕ) (x d : Backed) (inside : count < length backed) (is_x : x ≡ get_or backed count d) where
    among : Contains backed x
    among = subst (Contains backed) (sym is_x) (Contains-get_or backed count d inside)

    -- it doesn't begin before the cycle
    from_cycle : can.cycle * can.domain.cycle_time ≤ x.background.at.0
    from_cycle =
        omega (arith, ap (λ (c : ℕ). c * can.domain.cycle_time) (can.frames.each x among).of_cycle, cycle_from can.domain.cycle_time x.background.at.0)

    -- and isn't late
    pub next_in_time : (a : Arrival) → a ≡ (backed_frame x).arrival → ¬ IsLate (taken count).port a
    next_in_time a is =
        not_late (taken count).port a (omega (arith, from_cycle, can.in_step.reached, ap (λ (y : Arrival). y.at.0) is))

    -- nor out of order
    pub next_in_order : (a : Arrival) → a ≡ (backed_frame x).arrival → ¬ IsOutOfOrder (taken count).port a
    next_in_order a is = not_out_of_order (taken count).port a (λ b held same.
        elim (Contains-append_cases r.port.arrivals (arrivals_of (backed_on r.link (take count backed))) b held) [
          | inl old ↦
              let low : b.class < 6 = omega (arith, same, ap (λ (y : Arrival). y.class) is, (can.frames.each x among).good.class_most) in
              omega (arith, can.in_step.background b old low, from_cycle, ap (λ (y : Arrival). y.at.0) is)
          | inr new ↦
              let f = contains_from_map (λ (y : QueuedFrame). y.arrival) (backed_on r.link (take count backed)) b new in
              let e = contains_from_map backed_frame (filter (is_for_link r.link) (take count backed)) f.0 f.1 in
              let y = contains_from_filter (is_for_link r.link) (take count backed) e.0 e.1 in
              let order : e.0.background.at.0 ≤ x.background.at.0 =
              pairs_across (λ (p q : Backed). p.background.at.0 ≤ q.background.at.0) (take count backed) (drop count backed) e.0 x
              (subst (AllPairs (λ (p q : Backed). p.background.at.0 ≤ q.background.at.0)) (sym (take-append-drop count backed)) can.frames.in_order)
              y.0 (subst (λ (zs : List Backed). Contains zs x) (sym (drop_more backed count d inside))
              (subst (λ (z : Backed). Contains (z ∷ drop (count + 1) backed) x) is_x (contains_here x (drop (count + 1) backed)))) in
              omega (arith, order, ap (λ (g : Arrival). g.at.0) f.2, ap (λ (g : QueuedFrame). g.arrival.at.0) e.2, ap (λ (g : Arrival). g.at.0) is)
        ])
