-- `latency --strict` succeeds on a plan that is read: what is in time from the edge bridges is in time from the talkers.
use Rattle.std.proofs.Common.{◌≡◌, ◌∙◌, ◌+◌, ◌-◌, ◌≤◌, ◌++◌, ℕ, All, Bool, true, false, List, [], ◌∷◌, Option, Some, None, ap, arith, find, map, nat_le, nat_lt, refl, subst}
use Rattle.std.specs.Prelude.{cond, flat_map}
use Rattle.std.proofs.lemmas.Bool.{le-leb, leb-true}
use Rattle.std.proofs.lemmas.List.Elements.{All-head, All-tail}
use Rattle.cqf_model.specs.declared.topology.Hop.{Hop}
use Rattle.cqf_model.specs.declared.topology.Row.{Row}
use Rattle.cqf_model.specs.Domain.{Domain}
use Rattle.cqf_model.specs.History.{most_beside}
use Rattle.cqf_laws_timing.specs.Verdicts.{InTime, Late, MayBeLate, sure_of}
use Rattle.cqf_edge.specs.declared.edge.AccessTimes.{AccessTimes}
use Rattle.cqf_program_plans.specs.declared.latency.latencies.Latency.{Latency}
use Rattle.cqf_program_plans.specs.Latency.Text.{deadline_of, is_not_sure, latencies_from, latencies_of, latencies_of_row, latency_from_talker, latency_to, listeners_of, may_miss}
use Rattle.cqf_program_plans.specs.Latency.Text.{said_of_latency, times_of}

-- a deadline as it is written, what is left of it at the edge bridge, and how long frames take there
abbrev pub IsLeft : Option ℕ → Option ℕ → Option AccessTimes → Type 0
IsLeft written left None = left ≡ written
IsLeft None left (Some times) = left ≡ None
IsLeft (Some deadline) left (Some times) = (left ≡ Some (deadline - times.most)) × (1 ≤ deadline - times.most)

-- what isn't late is in time
in_time : (least most deadline : ℕ) → may_miss (Some (said_of_latency (sure_of least most deadline))) ≡ false → most ≤ deadline
in_time least most deadline h = by (nat_le most deadline) refl (nat_lt deadline least) h
  where
    by : (b : Bool) → nat_le most deadline ≡ b → (c : Bool) →
        may_miss (Some (said_of_latency (cond b InTime (cond c Late MayBeLate)))) ≡ false → most ≤ deadline
    by true is c h = leb-true most deadline is
    by false is true h = absurd cc
    by false is false h = absurd cc

is_in_time : (least most deadline : ℕ) → most ≤ deadline → may_miss (Some (said_of_latency (sure_of least most deadline))) ≡ false
is_in_time least most deadline h =
    ap (λ (b : Bool). may_miss (Some (said_of_latency (cond b InTime (cond (nat_lt deadline least) Late MayBeLate))))) (le-leb most deadline h)

module _ (d : Domain) (cost : ℕ) (row : Row) (written left : Option ℕ) (times : Option AccessTimes) (is_left : IsLeft written left times) where
  one_in_time : (hop : Hop) → is_not_sure (latency_to d cost row left hop) ≡ false → is_not_sure (latency_from_talker times (latency_to d cost row written hop)) ≡ false
  one_in_time hop h = by written left times is_left h
    where
      by : (w l : Option ℕ) (t : Option AccessTimes) → IsLeft w l t → is_not_sure (latency_to d cost row l hop) ≡ false →
          is_not_sure (latency_from_talker t (latency_to d cost row w hop)) ≡ false
      by w l None is h = subst (λ (x : Option ℕ). is_not_sure (latency_to d cost row x hop) ≡ false) is h
      by None l (Some t) is h = refl
      by (Some deadline) l (Some t) is h =
          let there = latency_to d cost row (Some (deadline - t.most)) hop in
          let own : is_not_sure there ≡ false = subst (λ (x : Option ℕ). is_not_sure (latency_to d cost row x hop) ≡ false) is.0 h in
          let short : there.most ≤ deadline - t.most = in_time there.least there.most (deadline - t.most) own in
          let some : 1 ≤ deadline - t.most = is.1 in
          let whole : there.most + t.most ≤ deadline = omega (arith, short, some) in
          is_in_time (there.least + t.least) (there.most + t.most) deadline whole

-- ---- lists of them

none_first : {X : Type 0} (test : X → Bool) (xs ys : List X) → find test (xs ++ ys) ≡ None → (find test xs ≡ None) × (find test ys ≡ None)
none_first test [] ys h = (refl, h)
none_first test (x ∷ xs) ys h = by (test x) (λ rest. none_first test xs ys rest) h
  where
    by : (b : Bool) → (find test (xs ++ ys) ≡ None → (find test xs ≡ None) × (find test ys ≡ None)) → cond b (Some x) (find test (xs ++ ys)) ≡ None →
        (cond b (Some x) (find test xs) ≡ None) × (find test ys ≡ None)
    by true rest h = absurd cc
    by false rest h = rest h

none_of_both : {X : Type 0} (test : X → Bool) (xs ys : List X) → find test xs ≡ None → find test ys ≡ None → find test (xs ++ ys) ≡ None
none_of_both test [] ys h k = k
none_of_both test (x ∷ xs) ys h k = by (test x) (λ rest. none_of_both test xs ys rest k) h
  where
    by : (b : Bool) → (find test xs ≡ None → find test (xs ++ ys) ≡ None) → cond b (Some x) (find test xs) ≡ None → cond b (Some x) (find test (xs ++ ys)) ≡ None
    by true rest h = absurd cc
    by false rest h = rest h

-- where each of two lists passes no test that the other doesn't pass
none_again : {X Y : Type 0} (test : Y → Bool) (f g : X → Y) (xs : List X) → ((x : X) → test (f x) ≡ false → test (g x) ≡ false) →
    find test (map f xs) ≡ None → find test (map g xs) ≡ None
none_again test f g [] each h = refl
none_again test f g (x ∷ xs) each h = by (test (f x)) refl (λ rest. none_again test f g xs each rest) h
  where
    by : (b : Bool) → test (f x) ≡ b → (find test (map f xs) ≡ None → find test (map g xs) ≡ None) → cond b (Some (f x)) (find test (map f xs)) ≡ None →
        cond (test (g x)) (Some (g x)) (find test (map g xs)) ≡ None
    by true is rest h = absurd cc
    by false is rest h = ap (λ (b : Bool). cond b (Some (g x)) (find test (map g xs))) (each x is) ∙ rest h

pub map_twice : {X Y Z : Type 0} (f : Y → Z) (g : X → Y) (xs : List X) → map f (map g xs) ≡ map (λ (x : X). f (g x)) xs
map_twice f g [] = refl
map_twice f g (x ∷ xs) = ap (λ ys. f (g x) ∷ ys) (map_twice f g xs)

rows_in_time : (d : Domain) (table rows : List Row) (written left : List (Option ℕ)) (times : List (Option AccessTimes)) →
    ((n : ℕ) → IsLeft (deadline_of written n) (deadline_of left n) (times_of times n)) →
    find is_not_sure (flat_map (λ (row : Row). latencies_of_row d table row (deadline_of left row.no)) rows) ≡ None →
    find is_not_sure (flat_map (λ (row : Row). map (latency_from_talker (times_of times row.no)) (latencies_of_row d table row (deadline_of written row.no))) rows) ≡ None
rows_in_time d table [] written left times each h = refl
rows_in_time d table (row ∷ rows) written left times each h =
    let both = none_first is_not_sure (latencies_of_row d table row (deadline_of left row.no))
    (flat_map (λ (row : Row). latencies_of_row d table row (deadline_of left row.no)) rows) h in
    let here = none_again is_not_sure (λ (hop : Hop). latency_to d (most_beside table row.tree.items row.pace hop.link) row (deadline_of left row.no) hop)
    (λ (hop : Hop). latency_from_talker (times_of times row.no)
    (latency_to d (most_beside table row.tree.items row.pace hop.link) row (deadline_of written row.no) hop)) (listeners_of d row)
    (λ hop. one_in_time d (most_beside table row.tree.items row.pace hop.link) row (deadline_of written row.no) (deadline_of left row.no)
    (times_of times row.no) (each row.no) hop) both.0 in
    let mapped = map_twice (latency_from_talker (times_of times row.no))
    (λ (hop : Hop). latency_to d (most_beside table row.tree.items row.pace hop.link) row (deadline_of written row.no) hop) (listeners_of d row) in
    none_of_both is_not_sure (map (latency_from_talker (times_of times row.no)) (latencies_of_row d table row (deadline_of written row.no)))
    (flat_map (λ (row : Row). map (latency_from_talker (times_of times row.no)) (latencies_of_row d table row (deadline_of written row.no))) rows)
    (ap (find is_not_sure) mapped ∙ here) (rows_in_time d table rows written left times each both.1)

-- so all are in time from their talkers
pub all_from_talkers : (d : Domain) (rows : List Row) (written left : List (Option ℕ)) (times : List (Option AccessTimes)) →
    ((n : ℕ) → IsLeft (deadline_of written n) (deadline_of left n) (times_of times n)) → find is_not_sure (latencies_of d rows left) ≡ None →
    find is_not_sure (latencies_from d rows written times) ≡ None
all_from_talkers d rows written left times each h = rows_in_time d rows rows written left times each h

-- no latency that isn't sure is found where there is none
pub none_unsure : (latencies : List Latency) → All (λ (latency : Latency). is_not_sure latency ≡ false) latencies → find is_not_sure latencies ≡ None
none_unsure [] each = refl
none_unsure (latency ∷ latencies) each =
    ap (λ (b : Bool). cond b (Some latency) (find is_not_sure latencies)) (All-head (λ (l : Latency). is_not_sure l ≡ false) latency latencies each)
    ∙ none_unsure latencies (All-tail (λ (l : Latency). is_not_sure l ≡ false) latency latencies each)
