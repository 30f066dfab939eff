-- What a port may do at an instant depends only on what came up to that instant and what started before it.
use Rattle.std.proofs.Common.{◌≡◌, ℕ, ◌<◌, ◌≤◌, List, length, sym, refl, ap, ◌∙◌, inl, inr, arith}
use Rattle.std.specs.Prelude.{AllPairs, Contains, slice_index_or}
use Rattle.std.proofs.lemmas.Bool.{cases_lt}
use Rattle.cqf_units.specs.Timing.{idle_after}
use Rattle.cqf_model.specs.declared.ports.Arrival.{Arrival}
use Rattle.cqf_model.specs.Port.{AreLegal, IsFirst, IsIdle, PortRules, Transmission, Waits, free_from, instant_of, no_arrival}
use Rattle.cqf_model.proofs.Legal.{eligible_alike}

-- each arrival of one list that comes by t is in the other list too, at the same index, and the other way round
pub record CameAlike (t : ℕ) (xs ys : List Arrival) : Type 0 where
  pub to : (p : ℕ) → p < length xs → instant_of xs p ≤ t → (p < length ys) × (slice_index_or xs p no_arrival ≡ slice_index_or ys p no_arrival)
  pub from : (p : ℕ) → p < length ys → instant_of ys p ≤ t → (p < length xs) × (slice_index_or ys p no_arrival ≡ slice_index_or xs p no_arrival)

-- the same transmissions started before t
pub record StartedAlike (t : ℕ) (a b : List Transmission) : Type 0 where
  pub to : (p s : ℕ) → s < t → Contains a (p, s) → Contains b (p, s)
  pub from : (p s : ℕ) → s < t → Contains b (p, s) → Contains a (p, s)

-- the same the other way round
pub came_back : {t : ℕ} {xs ys : List Arrival} → CameAlike t xs ys → CameAlike t ys xs
came_back x = record { to = x.from; from = x.to }

-- alike the other way round
pub started_back : {t : ℕ} {a b : List Transmission} → StartedAlike t a b → StartedAlike t b a
started_back s = record { to = s.from; from = s.to }

-- a list is alike to itself
pub came_same : (t : ℕ) (xs : List Arrival) → CameAlike t xs xs
came_same t xs = record { to = λ p l c. (l, refl); from = λ p l c. (l, refl) }

-- what waits in one case waits in the other
pub waits_alike : (t : ℕ) (xs ys : List Arrival) (a b : List Transmission) → CameAlike t xs ys → StartedAlike t a b → (p : ℕ) → Waits xs a p t → Waits ys b p t
waits_alike t xs ys a b x s p w =
    let h = x.to p w.inside w.come in
    record {
      inside = h.0;
      come = omega (arith, w.come, ap (λ (y : Arrival). y.at.0) h.1);
      not_started = λ u k. elim (cases_lt u t) [ inl l ↦ w.not_started u (s.from p u l k) | inr g ↦ g ];
    }

-- what is the first of its class in one case is so in the other
pub first_alike : (t : ℕ) (xs ys : List Arrival) (a b : List Transmission) → CameAlike t xs ys → StartedAlike t a b → (p : ℕ) → IsFirst xs a p t →
    IsFirst ys b p t
first_alike t xs ys a b x s p f =
    let class = λ (y : Arrival). y.class in
    let h = x.to p f.waits.inside f.waits.come in
    record {
      waits = waits_alike t xs ys a b x s p f.waits;
      none_before = λ other l c w.
          let k = x.from other w.inside w.come in
          f.none_before other l (sym (ap class k.1) ∙ c ∙ sym (ap class h.1)) (waits_alike t ys xs b a (came_back x) (started_back s) other w);
    }

-- if the port is idle in one case, it is in the other
pub idle_alike : (rules : PortRules) (end t : ℕ) (xs ys : List Arrival) (a b : List Transmission) → AreLegal rules xs end a → CameAlike t xs ys →
    StartedAlike t a b → IsIdle rules xs a t → IsIdle rules ys b t
idle_alike rules end t xs ys a b legal x s idle p u k l =
    let m = s.from p u l k in
    let w = (legal.first p u m).waits in
    let h = x.to p w.inside (omega (arith, w.come, l)) in
    let e : free_from rules xs p u ≡ free_from rules ys p u = ap (λ (y : Arrival). idle_after u y.octets rules.octet_time) h.1 in
    omega (arith, e, idle p u m l)

-- and the other way round, by the legality of the same list
pub idle_back : (rules : PortRules) (end t : ℕ) (xs ys : List Arrival) (a b : List Transmission) → AreLegal rules xs end a → CameAlike t xs ys →
    StartedAlike t a b → IsIdle rules ys b t → IsIdle rules xs a t
idle_back rules end t xs ys a b legal x s idle p u m l =
    let w = (legal.first p u m).waits in
    let h = x.to p w.inside (omega (arith, w.come, l)) in
    let e : free_from rules xs p u ≡ free_from rules ys p u = ap (λ (y : Arrival). idle_after u y.octets rules.octet_time) h.1 in
    omega (arith, e, idle p u (s.to p u l m) l)

-- starts that are legal up to an end are legal up to an earlier one, for arrivals that are alike up to it and starts that are alike before it
pub legal_alike : (rules : PortRules) (earlier end : ℕ) (xs ys : List Arrival) (a b : List Transmission) → earlier ≤ end →
    ((t : ℕ) → t < earlier → CameAlike t xs ys) → StartedAlike earlier a b → AllPairs (λ (x y : Transmission). x.1 < y.1) b →
    ((p s : ℕ) → Contains b (p, s) → s < earlier) → AreLegal rules xs end a → AreLegal rules ys earlier b
legal_alike rules earlier end xs ys a b le came started ordered before legal =
    let same : (p s : ℕ) → Contains b (p, s) → (p < length ys) × (slice_index_or xs p no_arrival ≡ slice_index_or ys p no_arrival) =
    λ p s k. (let w = (legal.first p s (started.from p s (before p s k) k)).waits in (came s (before p s k)).to p w.inside w.come) in
    let until : (t : ℕ) → t < earlier → StartedAlike t a b =
    λ t l. record { to = λ p s m k. started.to p s (omega (arith, l, m)) k; from = λ p s m k. started.from p s (omega (arith, l, m)) k } in
    record {
      in_order = ordered;
      before_end = before;
      once = λ p s t h k. legal.once p s t (started.from p s (before p s h) h) (started.from p t (before p t k) k);
      idle = λ p s k. idle_alike rules end s xs ys a b legal (came s (before p s k)) (until s (before p s k))
          (legal.idle p s (started.from p s (before p s k) k));
      first = λ p s k. first_alike s xs ys a b (came s (before p s k)) (until s (before p s k)) p (legal.first p s (started.from p s (before p s k) k));
      eligible = λ p s k. eligible_alike rules xs ys p s (same p s k).1 (legal.eligible p s (started.from p s (before p s k) k));
      strict_priority = λ p s other k c f e.
          let l = before p s k in
          let g = first_alike s ys xs b a (came_back (came s l)) (started_back (until s l)) other f in
          let h = (came s l).to other g.waits.inside g.waits.come in
          let class = λ (y : Arrival). y.class in
          legal.strict_priority p s other (started.from p s l k) (omega (arith, c, ap class (same p s k).1, ap class h.1)) g
          (eligible_alike rules ys xs other s (sym h.1) e);
      work_conserving = λ t other l i f e.
          let idle_before : IsIdle rules xs a t = idle_back rules end t xs ys a b legal (came t l) (until t l) i in
          let g = first_alike t ys xs b a (came_back (came t l)) (started_back (until t l)) other f in
          let h = (came t l).to other g.waits.inside g.waits.come in
          let w = legal.work_conserving t other (omega (arith, l, le)) idle_before g (eligible_alike rules ys xs other t (sym h.1) e) in
          (w.0, started.to w.0 t l w.1);
    }
