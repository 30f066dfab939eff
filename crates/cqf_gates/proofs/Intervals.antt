-- Rounds and intervals of a stream gate.
use Rattle.std.proofs.Common.{eq-eqb, ℕ, ◌≡◌, ◌+◌, ◌-◌, ◌*◌, ◌/◌, ◌%◌, ◌<◌, ◌≤◌, zero, suc, List, [], ◌∷◌, get_or, All}
use Rattle.std.proofs.Common.{refl, ap, sym, ◌∙◌, ltb, eqb, true, false, Bool, ◌&&◌, ◌++◌, ◌⊎◌, inl, inr, cond, arith}
use Rattle.std.proofs.Common.{Option, Some, None}
use Rattle.std.proofs.lemmas.Bool.Decides.{nat_tests, leb_tells, eqb_tells}
use Rattle.std.proofs.lemmas.List.Sums.{sum_by_more_le, sum_by-cons, sum_by-append}
use Rattle.std.proofs.lemmas.List.Elements.{All-append}
use Rattle.std.proofs.Math.Nat.{div-zero, div-mul-le_self, mod-add-div'}
use Rattle.std.proofs.lemmas.Nat.{le-div}
use Rattle.cqf_model.specs.declared.gates.StreamEntry.{StreamEntry}
use Rattle.cqf_model.specs.StreamGate.{PassedFrame, gate_round, index_in, index_at, round_at, same_interval, octets_in, within, gate_passes}
use Rattle.cqf_gates.specs.StreamGate.{Counts, entry_at, passed_after, DecidesByCalls, IsStreamList, Gate, octet_max_at, taken_at, lets_pass, gate_after}

-- a round has a positive duration
pub gate_round_positive : (entries : List StreamEntry) → IsStreamList entries → 0 < gate_round entries
gate_round_positive entries f =
    let d : StreamEntry = record { ipv = 6; interval = 1; octet_max = None } in
    omega (arith, f.some, f.lasting 0 d f.some, sum_by_more_le (λ (entry : StreamEntry). entry.interval) entries 0 d f.some)

-- later in a round, the entry in force is no earlier one
index_in-later : (entries : List StreamEntry) (a b : ℕ) → a ≤ b → index_in entries a ≤ index_in entries b
index_in-later [] a b h = omega arith
index_in-later (entry ∷ entries) a b h =
    elim (leb_tells (suc a) entry.interval) [
      | inl first ↦
          let at_first : ltb a entry.interval ≡ true = first.0 in
          rw at_first (omega arith)
      | inr later ↦
          let past : ltb a entry.interval ≡ false = later.0 in
          let past_too : ltb b entry.interval ≡ false = grind (arith, nat_tests, later.1) in
          let rest = index_in-later entries (a - entry.interval) (b - entry.interval) (omega arith) in
          rw (past, past_too) (omega (arith, rest))
    ]

-- two tests that hold together each hold
both_true : (a b : Bool) → (a && b) ≡ true → (a ≡ true) × (b ≡ true)
both_true true b h = (refl, h)
both_true false b h = absurd (cc)

-- numbers that a test finds equal are equal
equal-from_test : (x y : ℕ) → eqb x y ≡ true → x ≡ y
equal-from_test x y h = elim (eqb_tells x y) [ inl same ↦ same.1 | inr other ↦ absurd (cc (h, other.0)) ]

-- two instants in one interval, as equations
pub same_interval-equations : (entries : List StreamEntry) (s t : ℕ) → same_interval entries s t ≡ true → (round_at entries s ≡ round_at entries t)
    × (index_at entries s ≡ index_at entries t)
same_interval-equations entries s t same =
    let both = both_true _ _ same in
    (equal-from_test _ _ both.0, equal-from_test _ _ both.1)

-- two instants are in one interval if the equations hold
pub same_interval-from_equations : (entries : List StreamEntry) (s t : ℕ) → round_at entries s ≡ round_at entries t → index_at entries s
    ≡ index_at entries t → same_interval entries s t ≡ true
same_interval-from_equations entries s t round index =
    let rounds : eqb (round_at entries s) (round_at entries t) ≡ true = eq-eqb _ _ round in
    let indices : eqb (index_at entries s) (index_at entries t) ≡ true = eq-eqb _ _ index in
    rw (rounds, indices)

-- a later instant is in no earlier round
div-later : (a b n : ℕ) → a ≤ b → a / n ≤ b / n
div-later a b zero h = omega (arith, div-zero a, div-zero b)
div-later a b (suc n) h = le-div (a / suc n) b (suc n) (omega arith) (omega (arith, div-mul-le_self a (suc n)))

-- within one round, a later instant has no smaller offset
mod-later : (a b n : ℕ) → a ≤ b → a / n ≡ b / n → a % n ≤ b % n
mod-later a b n h same =
    let e : a / n * n ≡ b / n * n = ap (λ q. q * n) same in
    omega (arith, mod-add-div' a n, mod-add-div' b n)

-- an instant between two instants of one interval is in it
pub same_interval-between : (entries : List StreamEntry) (s r t : ℕ) → s ≤ r → r ≤ t → same_interval entries s t ≡ true → same_interval entries r t ≡ true
same_interval-between entries s r t before following same =
    let both = same_interval-equations entries s t same in
    let n : ℕ = gate_round entries in
    let round : r / n ≡ t / n = omega (arith, div-later s r n before, div-later r t n following, both.0) in
    let round_before : s / n ≡ r / n = omega (arith, both.0) in
    let low = index_in-later entries (s % n) (r % n) (mod-later s r n before round_before) in
    let high = index_in-later entries (r % n) (t % n) (mod-later r t n following round) in
    same_interval-from_equations entries r t round (omega (arith, low, high, both.1))

-- a test holds or fails
true_or_false : (b : Bool) → (b ≡ true) ⊎ (b ≡ false)
true_or_false true = inl refl
true_or_false false = inr refl

-- if a later call is in a new interval, an earlier call is in another interval too
other_interval : (entries : List StreamEntry) (s last t : ℕ) → s ≤ last → last ≤ t → same_interval entries last t ≡ false → same_interval entries s t ≡ false
other_interval entries s last t before following other =
    elim (true_or_false (same_interval entries s t)) [
      | inl same ↦ absurd (cc (other, same_interval-between entries s last t before following same))
      | inr different ↦ different
    ]

-- a call of an earlier interval doesn't count in a later one
octets_in-later : (entries : List StreamEntry) (passed : List PassedFrame) (last t : ℕ) → All (λ (call : PassedFrame). call.0 ≤ last) passed → last ≤ t →
    same_interval entries last t ≡ false → octets_in entries passed t ≡ 0
octets_in-later entries [] last t before following other = refl
octets_in-later entries (call ∷ passed) last t before following other =
    let count : PassedFrame → ℕ = λ (c : PassedFrame). cond (same_interval entries c.0 t) c.1 0 in
    let first : same_interval entries call.0 t ≡ false = other_interval entries call.0 last t (before 0 (0, 0) (omega arith)) following other in
    let none : count call ≡ 0 = rw first in
    let rest : octets_in entries passed t ≡ 0 = octets_in-later entries passed last t (λ k d inside. before (suc k) d (omega arith)) following other in
    omega (arith, sum_by-cons count call passed, none, rest)

-- the calls of one interval count the same at each of its instants
octets_in-same : (entries : List StreamEntry) (passed : List PassedFrame) (s t : ℕ) → same_interval entries s t ≡ true → octets_in entries passed s
    ≡ octets_in entries passed t
octets_in-same entries passed s t same =
    let both = same_interval-equations entries s t same in
    rw (both.0, both.1)

-- one more call of the interval counts with its octets
octets_in-one_more : (entries : List StreamEntry) (passed : List PassedFrame) (t octets : ℕ) → octets_in entries (passed ++ (t, octets) ∷ []) t
    ≡ octets_in entries passed t + octets
octets_in-one_more entries passed t octets =
    let count : PassedFrame → ℕ = λ (c : PassedFrame). cond (same_interval entries c.0 t) c.1 0 in
    let same : same_interval entries t t ≡ true = same_interval-from_equations entries t t refl refl in
    let one : count (t, octets) ≡ octets = rw same in
    omega (arith, sum_by-append count passed ((t, octets) ∷ []), one)

-- what the gate has as taken is the total of its passed calls in the interval
pub taken_at-counts : (gate : Gate) (passed : List PassedFrame) (t most : ℕ) → Counts gate passed → gate.last ≤ t → octet_max_at gate.entries t
    ≡ Some most → taken_at gate t ≡ octets_in gate.entries passed t
taken_at-counts gate passed t most counts following has =
    elim (true_or_false (same_interval gate.entries gate.last t)) [
      | inl same ↦
          let both = same_interval-equations gate.entries gate.last t same in
          let max_same : octet_max_at gate.entries gate.last ≡ octet_max_at gate.entries t = rw both.1 in
          rw same (counts.counted most (max_same ∙ has) ∙ octets_in-same gate.entries passed gate.last t same)
      | inr other ↦ rw other (sym (octets_in-later gate.entries passed gate.last t counts.before following other))
    ]

-- if the taken octets are the same, so is the test against an octet maximum
within-same : (limit : Option ℕ) (a b octets : ℕ) → ((most : ℕ) → limit ≡ Some most → a ≡ b) → within limit (a + octets) ≡ within limit (b + octets)
within-same None a b octets same = refl
within-same (Some most) a b octets same = ap (λ taken. within (Some most) (taken + octets)) (same most refl)

-- the gate decides as its calls do
decides : (gate : Gate) (passed : List PassedFrame) (t octets : ℕ) (e : Option StreamEntry) → entry_at gate.entries t ≡ e → Counts gate passed →
    gate.last ≤ t → lets_pass gate t octets ≡ gate_passes gate.entries passed t octets
decides gate passed t octets None is counts following = rw is
decides gate passed t octets (Some entry) is counts following =
    let limit : octet_max_at gate.entries t ≡ entry.octet_max = rw is in
    rw is (within-same entry.octet_max _ _ octets (λ most has. taken_at-counts gate passed t most counts following (limit ∙ has)))

-- with an octet maximum the test is that of the octets
lets_pass-limited : (gate : Gate) (t octets most : ℕ) (e : Option StreamEntry) → entry_at gate.entries t ≡ e → octet_max_at gate.entries t
    ≡ Some most → lets_pass gate t octets ≡ within (Some most) (taken_at gate t + octets)
lets_pass-limited gate t octets most None is has =
    let none : octet_max_at gate.entries t ≡ None = rw is in
    absurd (cc)
lets_pass-limited gate t octets most (Some entry) is has =
    let limit : entry.octet_max ≡ Some most = (let e : entry.octet_max ≡ octet_max_at gate.entries t = rw is in e ∙ has) in
    rw is (ap (λ m. within m (taken_at gate t + octets)) limit)

-- a single call at an instant isn't later
one-in_time : (t octets k : ℕ) (d : PassedFrame) → k < 1 → (get_or ((t, octets) ∷ []) k d).0 ≤ t
one-in_time t octets zero d inside = omega arith
one-in_time t octets (suc k) d inside = absurd (omega arith)

-- the calls that passed stay in time
passed-in_time : (b : Bool) (passed : List PassedFrame) (last t octets : ℕ) → All (λ (call : PassedFrame). call.0 ≤ last) passed → last ≤ t →
    All (λ (call : PassedFrame). call.0 ≤ t) (cond b (passed ++ (t, octets) ∷ []) passed)
passed-in_time true passed last t octets before following = All-append (λ (call : PassedFrame). call.0 ≤ t) passed ((t, octets) ∷ [])
    (λ k d inside. omega (arith, before k d inside)) (one-in_time t octets)
passed-in_time false passed last t octets before following = λ k d inside. omega (arith, before k d inside)

-- the taken octets follow the list of calls
taken-along : (b : Bool) (entries : List StreamEntry) (passed : List PassedFrame) (taken t octets : ℕ) → taken ≡ octets_in entries passed t →
    cond b (taken + octets) taken ≡ octets_in entries (cond b (passed ++ (t, octets) ∷ []) passed) t
taken-along true entries passed taken t octets same = omega (arith, octets_in-one_more entries passed t octets)
taken-along false entries passed taken t octets same = same

-- the gate continues to count
counts_on : (gate : Gate) (passed : List PassedFrame) (t octets : ℕ) → Counts gate passed → gate.last ≤ t →
    Counts (gate_after gate t octets) (passed_after gate passed t octets)
counts_on gate passed t octets counts following = record {
  before = passed-in_time (lets_pass gate t octets) passed gate.last t octets counts.before following;
  counted = λ most has.
      let limited = lets_pass-limited gate t octets most _ refl has in
      let same = taken_at-counts gate passed t most counts following has in
      rw (has, limited) (taken-along (within (Some most) (taken_at gate t + octets)) gate.entries passed (taken_at gate t) t octets same);
}

-- a gate decides by its calls
pub decides_by_calls : DecidesByCalls
decides_by_calls gate passed t octets counts following = (decides gate passed t octets _ refl counts following, counts_on gate passed t octets counts following)
