-- The counters of the offers of a cycle, and the verdict on one more of them.
use Rattle.std.proofs.Common.{◌≡◌, ◌∙◌, ℕ, ◌+◌, ◌++◌, ◌==◌, if◌then◌else◌, not, nat_le, Bool, true, false, List, [], ◌∷◌}
use Rattle.std.proofs.Common.{Option, Some, None, append_assoc, ap, arith, filter, map, refl, sum_by, sym, subst, zero-add}
use Rattle.std.specs.List.Sorted.{IsNonDecreasingBy, IsPermutation}
use Rattle.std.proofs.lemmas.List.{append-nil, map-append}
use Rattle.std.proofs.lemmas.List.Elements.{filter-append}
use Rattle.std.proofs.lemmas.List.Sums.{sum_by-append}
use Rattle.cqf_units.specs.Timing.{counted_of}
use Rattle.cqf_model.specs.declared.frames.Dropped.{Dropped}
use Rattle.cqf_model.specs.declared.frames.Offered.{Offered}
use Rattle.cqf_model.specs.declared.frames.Reason.{Reason}
use Rattle.cqf_model.specs.declared.frames.Reason.TheVariants.{Withdrawn, OtherBridge, Octets}
use Rattle.cqf_model.specs.declared.topology.Row.{Row}
use Rattle.cqf_model.specs.Book.{drop_by}
use Rattle.cqf_model.specs.Domain.{Domain}
use Rattle.cqf_model.specs.Table.{begins_at, is_live, reserved_in, row_named}
use Rattle.cqf_model.specs.Policing.{DroppedFor, Queued, Verdict, edge_verdict, offer_received}
use Rattle.cqf_relay.specs.declared.edge.Edge.{Edge}
use Rattle.cqf_relay.specs.declared.edge.Used.{Used}
use Rattle.cqf_relay.specs.Offering.{CountsUpto, DropsOf, Going, IsSameEdge, JudgesOne, JudgesRow, TakesOffers, came_of_going, covered_after}
use Rattle.cqf_relay.specs.Offering.{dropped_after, going_by, more_of, octets_of, reason_against, taken_by, used_at, verdict_with}

-- the same is used of each row in each cycle
abbrev pub AreUsedAlike : List Used → List Used → Type 0
AreUsedAlike before after = (cycle k : ℕ) → used_at after cycle k ≡ used_at before cycle k

-- the verdict of a row by the first reason against an offer
abbrev pub verdict_for : Row → Option Reason → Verdict
verdict_for row None = Queued row
verdict_for row (Some reason) = DroppedFor reason

-- the verdict and the reason come from the same three tests
reason_makes_verdict : (row : Row) (live begins fits : Bool) →
    verdict_for row (if not live then Some Withdrawn else (if not begins then Some OtherBridge else (if not fits then Some Octets else None)))
    ≡ (if not live then DroppedFor Withdrawn else (if not begins then DroppedFor OtherBridge else (if not fits then DroppedFor Octets else Queued row)))
reason_makes_verdict row false begins fits = refl
reason_makes_verdict row true false fits = refl
reason_makes_verdict row true true false = refl
reason_makes_verdict row true true true = refl

-- the reason against an offer by the row of its name gives the verdict on it
pub verdict_by_row : (d : Domain) (bridge cycle : ℕ) (table : List Row) (used : ℕ → ℕ) (x : Offered) (row : Row) (result : Option Reason) →
    row_named table x.offer.stream ≡ Some row → result ≡ reason_against d bridge row cycle (used row.no) (counted_of d.overhead x.offer.octets) →
    verdict_for row result ≡ verdict_with d bridge cycle table used x
verdict_by_row d bridge cycle table used x row result named is =
    ap (verdict_for row) is
    ∙ reason_makes_verdict row (is_live row cycle) (begins_at d row bridge) (nat_le (used row.no + counted_of d.overhead x.offer.octets) (reserved_in row 0 cycle))
    ∙ sym (ap (edge_verdict d bridge cycle (λ (r : Row). nat_le (used r.no + counted_of d.overhead x.offer.octets) (reserved_in r 0 cycle))) named)

-- the octets of a frame that goes on are those of its row
octets_of_one : (overhead : ℕ) (g : Going) (b : Bool) →
    (if b then counted_of overhead g.received.octets else 0) ≡ sum_by (λ (h : Going). counted_of overhead h.received.octets) (if b then g ∷ [] else [])
octets_of_one overhead g true = sym (zero-add (counted_of overhead g.received.octets))
octets_of_one overhead g false = refl

-- what a row's reason leaves to be counted are the octets of what goes on
pub counted_by_row : (overhead : ℕ) (x : Offered) (row : Row) (result : Option Reason) (k : ℕ) →
    more_of row.no (taken_by result (counted_of overhead x.offer.octets)) k ≡ octets_of overhead (going_by x (verdict_for row result)) k
counted_by_row overhead x row None k =
    let g : Going = record { received = offer_received x; row = row } in
    octets_of_one overhead g (row.no == k)
counted_by_row overhead x row (Some reason) k = either 0 (row.no == k)
  where
    either : (n : ℕ) (b : Bool) → (if b then n else n) ≡ n
    either n true = refl
    either n false = refl

-- an offer is judged by the row of its name
pub judged_by_row : (d : Domain) (cycle : ℕ) (table : List Row) (x : Offered) (before after : Edge) (row : Row) (result : Option Reason) →
    row_named table x.offer.stream ≡ Some row → JudgesRow d before.number row cycle (counted_of d.overhead x.offer.octets) before.used.items after.used.items result →
    IsSameEdge before after →
    after.log.frames.items ≡ before.log.frames.items ++ map (came_of_going d cycle) (going_by x (verdict_for row result)) →
    after.fresh.items ≡ before.fresh.items ++ drop_by cycle before.number (offer_received x) (verdict_for row result) →
    JudgesOne d cycle table x before after
judged_by_row d cycle table x before after row result named judged same kept fresh = record {
  same = same;
  verdict = verdict_for row result;
  is_verdict = verdict_by_row d before.number cycle table (used_at before.used.items cycle) x row result named judged.reason;
  kept = kept;
  fresh = fresh;
  used = λ k. judged.counted.more k ∙ ap (λ n. used_at before.used.items cycle k + n) (counted_by_row d.overhead x row result k);
  later = judged.counted.later;
}

-- an offer against which the row has a reason is dropped
pub judged_against : (d : Domain) (cycle : ℕ) (table : List Row) (x : Offered) (before counted after : Edge) (row : Row) (reason : Reason) →
    row_named table x.offer.stream ≡ Some row → IsSameEdge before counted → counted.log ≡ before.log → counted.fresh ≡ before.fresh →
    JudgesRow d before.number row cycle (counted_of d.overhead x.offer.octets) before.used.items counted.used.items (Some reason) → DropsOf cycle x reason counted after →
    JudgesOne d cycle table x before after
judged_against d cycle table x before counted after row reason named same same_log same_fresh judged dropped =
    judged_by_row d cycle table x before after row (Some reason) named
    (subst (λ used. JudgesRow d before.number row cycle (counted_of d.overhead x.offer.octets) before.used.items used.items (Some reason)) (sym dropped.used) judged)
    (record { number = dropped.same.number ∙ same.number; drops = dropped.same.drops ∙ same.drops })
    (ap (λ log. log.frames.items) (dropped.log ∙ same_log) ∙ sym (append-nil before.log.frames.items))
    (dropped.fresh
    ∙ ap (λ n. counted.fresh.items ++ drop_by cycle n (offer_received x) (DroppedFor reason)) same.number
    ∙ ap (λ fresh. fresh.items ++ drop_by cycle before.number (offer_received x) (DroppedFor reason)) same_fresh)

-- the verdict is the same if the same is used of each row
same_verdict : (d : Domain) (bridge cycle : ℕ) (table : List Row) (used other : ℕ → ℕ) (x : Offered) → ((k : ℕ) → used k ≡ other k) →
    verdict_with d bridge cycle table used x ≡ verdict_with d bridge cycle table other x
same_verdict d bridge cycle table used other x same = λ i. verdict_with d bridge cycle table (λ k. same k i) x

-- octets of two lists are added
octets_of-append : (overhead : ℕ) (xs ys : List Going) (k : ℕ) → octets_of overhead (xs ++ ys) k ≡ octets_of overhead xs k + octets_of overhead ys k
octets_of-append overhead xs ys k =
    let octets : Going → ℕ = λ g. counted_of overhead g.received.octets in
    let of_row : Going → Bool = λ g. g.row.no == k in
    ap (sum_by octets) (filter-append of_row xs ys) ∙ sum_by-append octets (filter of_row xs) (filter of_row ys)

-- one more offer is covered after the earlier ones, or not
covered-push : (d : Domain) (bridge cycle : ℕ) (table : List Row) (earlier : List Going) (xs : List Offered) (x : Offered) →
    covered_after d bridge cycle table earlier (xs ++ x ∷ [])
    ≡ covered_after d bridge cycle table earlier xs
    ++ going_by x (verdict_with d bridge cycle table (octets_of d.overhead (earlier ++ covered_after d bridge cycle table earlier xs)) x)
covered-push d bridge cycle table earlier [] x =
    append-nil (going_by x (verdict_with d bridge cycle table (octets_of d.overhead earlier) x))
    ∙ ap (λ gs. going_by x (verdict_with d bridge cycle table (octets_of d.overhead gs) x)) (sym (append-nil earlier))
covered-push d bridge cycle table earlier (y ∷ ys) x =
    let goings = going_by y (verdict_with d bridge cycle table (octets_of d.overhead earlier) y) in
    let rest = covered_after d bridge cycle table (earlier ++ goings) ys in
    ap (λ gs. goings ++ gs) (covered-push d bridge cycle table (earlier ++ goings) ys x)
    ∙ ap (λ gs. goings ++ (rest ++ going_by x (verdict_with d bridge cycle table (octets_of d.overhead gs) x))) (append_assoc earlier goings rest)
    ∙ sym (append_assoc goings rest (going_by x (verdict_with d bridge cycle table (octets_of d.overhead (earlier ++ (goings ++ rest))) x)))

-- and so it is dropped, or not
dropped-push : (d : Domain) (bridge cycle : ℕ) (table : List Row) (earlier : List Going) (xs : List Offered) (x : Offered) →
    dropped_after d bridge cycle table earlier (xs ++ x ∷ [])
    ≡ dropped_after d bridge cycle table earlier xs
    ++ drop_by cycle bridge (offer_received x) (verdict_with d bridge cycle table (octets_of d.overhead (earlier ++ covered_after d bridge cycle table earlier xs)) x)
dropped-push d bridge cycle table earlier [] x =
    append-nil (drop_by cycle bridge (offer_received x) (verdict_with d bridge cycle table (octets_of d.overhead earlier) x))
    ∙ ap (λ gs. drop_by cycle bridge (offer_received x) (verdict_with d bridge cycle table (octets_of d.overhead gs) x)) (sym (append-nil earlier))
dropped-push d bridge cycle table earlier (y ∷ ys) x =
    let verdict = verdict_with d bridge cycle table (octets_of d.overhead earlier) y in
    let goings = going_by y verdict in
    let own = drop_by cycle bridge (offer_received y) verdict in
    let rest = dropped_after d bridge cycle table (earlier ++ goings) ys in
    ap (λ ds. own ++ ds) (dropped-push d bridge cycle table (earlier ++ goings) ys x)
    ∙ ap (λ gs. own ++ (rest ++ drop_by cycle bridge (offer_received x) (verdict_with d bridge cycle table (octets_of d.overhead gs) x)))
    (append_assoc earlier goings (covered_after d bridge cycle table (earlier ++ goings) ys))
    ∙ sym (append_assoc own rest (drop_by cycle bridge (offer_received x) (verdict_with d bridge cycle table
    (octets_of d.overhead (earlier ++ (goings ++ covered_after d bridge cycle table (earlier ++ goings) ys))) x)))

-- the result for the first offers of a cycle, one after the other
pub record HasJudged (d : Domain) (cycle : ℕ) (table : List Row) (offers : List Offered) (before now : Edge) : Type 0 where
  pub same : IsSameEdge before now
  pub kept : CountsUpto cycle before.used.items →
      now.log.frames.items ≡ before.log.frames.items ++ map (came_of_going d cycle) (covered_after d before.number cycle table [] offers)
  pub fresh : CountsUpto cycle before.used.items → now.fresh.items ≡ dropped_after d before.number cycle table [] offers
  pub used : CountsUpto cycle before.used.items → (k : ℕ) →
      used_at now.used.items cycle k ≡ octets_of d.overhead (covered_after d before.number cycle table [] offers) k
  pub later : CountsUpto cycle before.used.items → CountsUpto (cycle + 1) now.used.items

-- at first there is none
pub none_judged : (d : Domain) (cycle : ℕ) (table : List Row) (before now : Edge) → IsSameEdge before now → now.log ≡ before.log → now.used ≡ before.used →
    now.fresh.items ≡ [] → HasJudged d cycle table [] before now
none_judged d cycle table before now same same_log same_used none = record {
  same = same;
  kept = λ first. ap (λ log. log.frames.items) same_log ∙ sym (append-nil before.log.frames.items);
  fresh = λ first. none;
  used = λ first k. ap (λ used. used_at used.items cycle k) same_used ∙ first k cycle (omega arith);
  later = λ first k other late. ap (λ used. used_at used.items other k) same_used ∙ first k other (omega (arith, late));
}

-- then one more offer is judged
pub one_more_judged : (d : Domain) (cycle : ℕ) (table : List Row) (offers : List Offered) (x : Offered) (before now after : Edge) →
    HasJudged d cycle table offers before now → JudgesOne d cycle table x now after → HasJudged d cycle table (offers ++ x ∷ []) before after
one_more_judged d cycle table offers x before now after has one = record {
  same = record { number = one.same.number ∙ has.same.number; drops = one.same.drops ∙ has.same.drops };
  kept = λ first.
      one.kept
      ∙ ap (λ frames. frames ++ map (came_of_going d cycle) (going_by x one.verdict)) (has.kept first)
      ∙ append_assoc before.log.frames.items (map (came_of_going d cycle) covered) (map (came_of_going d cycle) (going_by x one.verdict))
      ∙ ap (λ frames. before.log.frames.items ++ frames) (sym (map-append (came_of_going d cycle) covered (going_by x one.verdict)))
      ∙ ap (λ gs. before.log.frames.items ++ map (came_of_going d cycle) gs) (covered_more first);
  fresh = λ first.
      one.fresh
      ∙ ap (λ drops. drops ++ drop_by cycle now.number (offer_received x) one.verdict) (has.fresh first)
      ∙ ap (λ n. dropped_after d before.number cycle table [] offers ++ drop_by cycle n (offer_received x) one.verdict) has.same.number
      ∙ ap (λ v. dropped_after d before.number cycle table [] offers ++ drop_by cycle before.number (offer_received x) v) (is_verdict first)
      ∙ sym (dropped-push d before.number cycle table [] offers x);
  used = λ first k.
      one.used k
      ∙ ap (λ n. n + octets_of d.overhead (going_by x one.verdict) k) (has.used first k)
      ∙ sym (octets_of-append d.overhead covered (going_by x one.verdict) k)
      ∙ ap (λ gs. octets_of d.overhead gs k) (covered_more first);
  later = λ first. one.later (has.later first);
}
  where
    covered : List Going
    covered = covered_after d before.number cycle table [] offers

    is_verdict : CountsUpto cycle before.used.items → one.verdict ≡ verdict_with d before.number cycle table (octets_of d.overhead covered) x
    is_verdict first =
        one.is_verdict
        ∙ ap (λ n. verdict_with d n cycle table (used_at now.used.items cycle) x) has.same.number
        ∙ same_verdict d before.number cycle table (used_at now.used.items cycle) (octets_of d.overhead covered) x (has.used first)

    covered_more : CountsUpto cycle before.used.items →
        covered ++ going_by x one.verdict ≡ covered_after d before.number cycle table [] (offers ++ x ∷ [])
    covered_more first =
        ap (λ v. covered ++ going_by x v) (is_verdict first) ∙ sym (covered-push d before.number cycle table [] offers x)

-- and after the last one the drops are in order of frame
pub all_judged : (d : Domain) (cycle : ℕ) (table : List Row) (offers : List Offered) (before now after : Edge) (fresh : List Dropped) →
    HasJudged d cycle table offers before now → after.number ≡ now.number → after.log ≡ now.log → after.used ≡ now.used →
    after.drops.items ≡ now.drops.items ++ fresh → IsPermutation now.fresh.items fresh → IsNonDecreasingBy (λ (dropped : Dropped). dropped.frame) fresh →
    TakesOffers d cycle table offers before after
all_judged d cycle table offers before now after fresh has same_number same_log same_used following moved by_frame = record {
  number = same_number ∙ has.same.number;
  kept = λ first. ap (λ log. log.frames.items) same_log ∙ has.kept first;
  fresh = fresh;
  following = following ∙ ap (λ drops. drops.items ++ fresh) has.same.drops;
  are_drops = λ first. subst (λ (drops : List Dropped). IsPermutation drops fresh) (has.fresh first) moved;
  by_frame = by_frame;
  later = λ first. subst (λ used. CountsUpto (cycle + 1) used.items) (sym same_used) (has.later first);
}
