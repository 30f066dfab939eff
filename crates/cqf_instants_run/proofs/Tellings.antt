-- The entries of the background frames that ports start, one after the other.
use Rattle.std.proofs.Common.{◌≡◌, ℕ, suc, ◌+◌, ◌^◌, ◌≤◌, ◌<◌, ◌++◌, All, Bool, true, false, List, [], ◌∷◌, Option, Some, arith}
use Rattle.std.proofs.Common.{sym, ap, ◌∙◌, subst, length, map, take, get_or, filter, append_assoc, append-nil, inl}
use Rattle.std.proofs.Common.{inr}
use Rattle.std.specs.Prelude.{slice_get}
use Rattle.std.specs.Option.{option_map_or}
use Rattle.std.specs.Global.{Global}
use Rattle.std.specs.declared.vec.Vec.{Vec}
use Rattle.std.proofs.Math.Seq.{get_or-append_seam}
use Rattle.std.proofs.lemmas.Bool.{cases_lt, cond-false, cond-true}
use Rattle.std.proofs.lemmas.List.{get_or-map, length-append, map-append, take_more}
use Rattle.std.proofs.lemmas.List.Elements.{filter-append}
use Rattle.cqf_lists.specs.Lists.{each_below}
use Rattle.cqf_lists.proofs.Members.{all_from_members, contains_from_map}
use Rattle.cqf_units.specs.Timing.{cycle_at, ticks_of_octet}
use Rattle.cqf_units.proofs.Cycles.{cycles_ordered}
use Rattle.cqf_model.specs.declared.frames.Started.{Started}
use Rattle.cqf_model.specs.declared.ports.Arrival.{Arrival}
use Rattle.cqf_model.specs.declared.ports.Start.{Start}
use Rattle.cqf_model.specs.declared.topology.Link.{Link}
use Rattle.cqf_model.specs.Domain.{Domain, IsAccepted, guard_by, guard_of, octet_time_of}
use Rattle.cqf_model.specs.GateList.{Entry, port_list}
use Rattle.cqf_model.specs.Network.{compiled_lists}
use Rattle.cqf_model.specs.Port.{PortRules, Transmission}
use Rattle.cqf_port.specs.PortState.{Advances, AreOnly, AreTaken, IsPort, PortState, rules_of, start_of}
use Rattle.cqf_lists.specs.ByNumber.{lists_of}
use Rattle.cqf_instants_run.specs.Sending.{Backs, Hands, ReportsLink, ReportsLinks, is_low, reported}

module _ {X Y : Type 0} (f : X → Y) (keep : X → Bool) (xs : List X) (k : ℕ) (x d : X) (inside : k < length xs) (there : x ≡ get_or xs k d)
    (before list : List Y)
    (so_far : list ≡ before ++ map f (filter keep (take k xs))) where
  -- what is kept of one more
  kept_more : filter keep (take (k + 1) xs) ≡ filter keep (take k xs) ++ filter keep (x ∷ [])
  kept_more = ap (filter keep) (take_more xs k d inside ∙ ap (λ (y : X). take k xs ++ y ∷ []) (sym there)) ∙ filter-append keep (take k xs) (x ∷ [])

  -- its entry is appended
  pub one_reported : (after : List Y) → keep x ≡ true → after ≡ list ++ f x ∷ [] → after ≡ before ++ map f (filter keep (take (k + 1) xs))
  one_reported after hit more =
      more ∙ ap (λ (ys : List Y). ys ++ f x ∷ []) so_far
      ∙ append_assoc before (map f (filter keep (take k xs))) (f x ∷ [])
      ∙ ap (λ (ys : List Y). before ++ ys) (sym (map-append f (filter keep (take k xs)) (x ∷ []))
      ∙ ap (map f) (ap (λ (ys : List X). filter keep (take k xs) ++ ys) (sym (cond-true (keep x) (x ∷ []) [] hit)) ∙ sym kept_more))

  -- or it is skipped
  pub one_passed : keep x ≡ false → list ≡ before ++ map f (filter keep (take (k + 1) xs))
  one_passed miss =
      so_far ∙ ap (λ (ys : List X). before ++ map f ys) (sym (append-nil (filter keep (take k xs)))
      ∙ ap (λ (ys : List X). filter keep (take k xs) ++ ys) (sym (cond-false (keep x) (x ∷ []) [] miss)) ∙ sym kept_more)

-- the rules of a link's port
abbrev rules_on : Domain → ℕ → PortRules
rules_on d l = record { entries = compiled_lists d l; octet_time = octet_time_of d l }

-- they are those of its list and rate
rules_same : (d : Domain) (l : ℕ) (list : List Entry) (link : Link) → list ≡ compiled_lists d l → slice_get d.links l ≡ Some link →
    rules_of list link.rate ≡ rules_on d l
rules_same d l list link is there =
    let octet : ticks_of_octet link.rate ≡ octet_time_of d l = ap (λ o. option_map_or (λ (x : Link). ticks_of_octet x.rate) o 0) (sym there) in
    λ i. record { entries = is i; octet_time = octet i }

-- the guard band of a link is shorter than the cycle, and its list goes by it
pub own_guard : (d : Domain) (l : ℕ) (link : Link) (cycle_time guard own : ℕ) → IsAccepted d → slice_get d.links l ≡ Some link →
    cycle_time ≡ d.cycle_time → guard ≡ d.guard → own ≡ guard_by guard link → (0 < own) × (own < cycle_time)
own_guard d l link cycle_time guard own accepted there time is reported =
    let good = accepted.links_good l link there in
    let same : own ≡ guard_by d.guard link = reported ∙ ap (λ (g : ℕ). guard_by g link) is in
    (omega (arith, same, good.delay_short), omega (arith, same, time, good.guard_short))

pub own_list : (d : Domain) (l : ℕ) (link : Link) (cycle_time guard own : ℕ) (list : List Entry) → slice_get d.links l ≡ Some link → cycle_time ≡ d.cycle_time →
    guard ≡ d.guard → own ≡ guard_by guard link → list ≡ port_list cycle_time own → list ≡ compiled_lists d l
own_list d l link cycle_time guard own list there time is reported listed =
    let same : own ≡ guard_of d l =
    reported ∙ ap (λ (g : ℕ). guard_by g link) is ∙ ap (λ (o : Option Link). option_map_or (guard_by d.guard) o d.guard) (sym there) in
    listed ∙ (λ i. port_list (time i) (same i))

-- a port that has taken arrivals and is at instant 0
abbrev pub fed_port : PortRules → List Arrival → PortState
fed_port rules arrivals = record { rules = rules; reached = 0; arrivals = arrivals; starts = [] }

-- a port that ran up to an end returns what is legal for its arrivals, and nothing else is legal
module _ (d : Domain) (end l : ℕ) (arrivals : List Arrival) (after : PortState) (made : List Start) where
  -- if its new state is known
  became : (starts : List Transmission) → after ≡ record { rules = rules_on d l; reached = end; arrivals = arrivals; starts = starts } →
      IsPort after → AreOnly after →
      made ≡ map (start_of arrivals) starts → Hands d end l arrivals made
  became starts is facts only handed =
      let f = subst IsPort is facts in
      let o = subst AreOnly is only in
      record { starts = starts; legal = f.legal; only = o; are = handed }

  -- so it is the state after a run
  ran : IsPort after → AreOnly after → (0 < end → Advances (fed_port (rules_on d l) arrivals) after end [] made) →
      (end ≤ 0 → (after ≡ fed_port (rules_on d l) arrivals) × (made ≡ [])) → Hands d end l arrivals made
  ran facts only on past = elim (cases_lt 0 end) [
    | inl later ↦ let a = on later in became a.made a.value facts only a.handed
    | inr now ↦
        let p = past now in
        let none : 0 ≡ end = omega (arith, now) in
        became [] (p.0 ∙ ap (λ t. at_instant t) none) facts only p.1
  ]
    where
      -- the port, as if it had reached an instant without a start
      at_instant : ℕ → PortState
      at_instant t = record { rules = rules_on d l; reached = t; arrivals = arrivals; starts = [] }

-- the same for the port that was made
pub hands : (d : Domain) (end l : ℕ) (arrivals : List Arrival) (list : List Entry) (link : Link) (before after : PortState) (given made : List Start) →
    list ≡ compiled_lists d l → slice_get d.links l ≡ Some link → before ≡ fed_port (rules_of list link.rate) arrivals → given ≡ [] →
    IsPort after → AreOnly after → (before.reached < end → Advances before after end given made) →
    (end ≤ before.reached → (after ≡ before) × (made ≡ given)) → Hands d end l arrivals made
hands d end l arrivals list link before after given made is there new none facts only on past =
    let own : before ≡ fed_port (rules_on d l) arrivals = new ∙ ap (λ r. fed_port r arrivals) (rules_same d l list link is there) in
    ran d end l arrivals after made facts only
    (subst (λ (g : List Start). 0 < end → Advances (fed_port (rules_on d l) arrivals) after end g made) none
    (subst (λ (b : PortState). b.reached < end → Advances b after end given made) own on))
    (subst (λ (g : List Start). end ≤ 0 → (after ≡ fed_port (rules_on d l) arrivals) × (made ≡ g)) none
    (subst (λ (b : PortState). end ≤ b.reached → (after ≡ b) × (made ≡ given)) own past))

-- each start is in a cycle that has a number
pub hands_fit : (d : Domain) (end l cycle_time : ℕ) (arrivals : List Arrival) (made : List Start) → cycle_time ≡ d.cycle_time → 0 < d.cycle_time →
    cycle_at d.cycle_time end < 2 ^ 32 → Hands d end l arrivals made → All (λ (start : Start). cycle_at cycle_time start.start.0 < 2 ^ 32) made
hands_fit d end l cycle_time arrivals made same some few h =
    subst (λ n. All (λ (start : Start). cycle_at n start.start.0 < 2 ^ 32) made) (sym same)
    (subst (λ z. All (λ (start : Start). cycle_at d.cycle_time start.start.0 < 2 ^ 32) z) (sym h.are)
    (all_from_members (λ (start : Start). cycle_at d.cycle_time start.start.0 < 2 ^ 32) (map (start_of arrivals) h.starts) (λ x c.
    let m = contains_from_map (start_of arrivals) h.starts x c in
    let early : m.0.1 < end = h.legal.before_end m.0.0 m.0.1 m.1 in
    let order = cycles_ordered d.cycle_time m.0.1 end some (omega (arith, early)) in
    subst (λ (z : Start). cycle_at d.cycle_time z.start.0 < 2 ^ 32) m.2 (omega (arith, order, few)))))

-- the entries of a link are appended
pub reports : (d : Domain) (end l cycle_time : ℕ) (arrivals : List Arrival) (made : List Start) (before after : List Started) → cycle_time ≡ d.cycle_time →
    Hands d end l arrivals made → after ≡ before ++ map (reported cycle_time l) (filter is_low made) → ReportsLink d end l arrivals before after
reports d end l cycle_time arrivals made before after same h is backed b =
    is ∙ ap (λ n. before ++ map (reported n l) (filter is_low made)) same
    ∙ ap (λ (xs : List Start). before ++ map (reported d.cycle_time l) xs)
    (ap (filter is_low) (h.are ∙ ap (map (start_of arrivals)) (sym (h.only b.starts b.legal))) ∙ sym b.are_backed)

module _ (front : List (Vec Arrival Global)) (p : Vec Arrival Global) (rest all : List (Vec Arrival Global)) (link : ℕ) (parts : front ++ p ∷ rest ≡ all)
    (at : length front ≡ link) where
  -- there is such a link
  pub below_all : link < length all
  below_all = omega (arith, ap (λ (ps : List (Vec Arrival Global)). length ps) parts, length-append front (p ∷ rest), at)

  -- its list is there
  pub list_there : get_or (lists_of all) link [] ≡ p.items
  list_there =
      get_or-map (λ (v : Vec Arrival Global). v.items) all link p [] below_all
      ∙ ap (λ (n : ℕ). (get_or all n p).items) (sym at) ∙ ap (λ (ps : List (Vec Arrival Global)). (get_or ps (length front) p).items) (sym parts)
      ∙ ap (λ (v : Vec Arrival Global). v.items) (get_or-append_seam front p rest p)

  -- it is taken
  pub taken_there : ((l : ℕ) → l < length all → AreTaken (get_or (lists_of all) l [])) → AreTaken p.items
  taken_there each = subst AreTaken list_there (each link below_all)

  -- and its entries are appended
  pub link_reported : (d : Domain) (end : ℕ) (starts after : List Started) → ReportsLinks d end (λ l. get_or (lists_of all) l []) link starts →
      ReportsLink d end link p.items starts after → ReportsLinks d end (λ l. get_or (lists_of all) l []) (link + 1) after
  link_reported d end starts after so_far one backed each =
      let next : suc link ≡ link + 1 = omega arith in
      one (backed link) (subst (λ z. Backs d end link z (backed link)) list_there (each link (omega arith)))
      ∙ ap (λ xs. xs ++ map (reported d.cycle_time link) (backed link)) (so_far backed (λ l less. each l (omega (arith, less))))
      ∙ ap (each_below (λ l. map (reported d.cycle_time l) (backed l))) next

-- in the end the entries of all are appended
pub all_reported : (d : Domain) (end : ℕ) (front rest all : List (Vec Arrival Global)) (link : ℕ) (starts : List Started) → front ++ rest ≡ all
    → length front ≡ link →
    length rest ≡ 0 → ReportsLinks d end (λ l. get_or (lists_of all) l []) link starts → ReportsLinks d end (λ l. get_or (lists_of all) l []) (length all) starts
all_reported d end front rest all link starts parts at none so_far =
    let same : link ≡ length all = omega (arith, ap (λ (ps : List (Vec Arrival Global)). length ps) parts, length-append front rest, at, none) in
    subst (λ n. ReportsLinks d end (λ l. get_or (lists_of all) l []) n starts) same so_far
