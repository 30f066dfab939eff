-- How many starts there are, and that there is room for them.
use Rattle.std.proofs.Common.{◌≡◌, ◌∷◌, [], ◌<◌, ◌+◌, ◌-◌, ◌*◌, ◌≤◌, ℕ, zero, suc, List, ap, ap₂, length, refl, arith, get_or, add-one}
use Rattle.std.specs.Global.{Global}
use Rattle.std.specs.declared.vec.Vec.{Vec}
use Rattle.std.proofs.lemmas.List.{length-append}
use Rattle.std.proofs.lemmas.List.Sorted.{length_permutation}
use Rattle.cqf_units.specs.Timing.{slot_of}
use Rattle.cqf_model.specs.declared.frames.Started.{Started}
use Rattle.cqf_instants.specs.declared.queues.LaidHop.{LaidHop}
use Rattle.cqf_instants.specs.declared.queues.Waiting.{Waiting}
use Rattle.cqf_instants.specs.declared.link.SendingLink.{SendingLink}
use Rattle.cqf_instants.specs.Queues.{ReportsQueue, cap_at, caps_below, in_pace, start_of_queue, sum_below}
use Rattle.cqf_instants.proofs.Adding.{cap_there}

-- sums of equal summands are equal
pub sums_same : (f g : ℕ → ℕ) (n : ℕ) → ((l : ℕ) → l < n → f l ≡ g l) → sum_below f n ≡ sum_below g n
sums_same f g zero same = refl
sums_same f g (suc n) same = ap₂ (λ (a b : ℕ). a + b) (sums_same f g n (λ l below. same l (omega (arith, below)))) (same n (omega arith))

-- a sum of more summands is no less
sums_more : (f : ℕ → ℕ) (m k : ℕ) → sum_below f m ≤ sum_below f (m + k)
sums_more f m zero =
    let e : m + zero ≡ m = omega arith in
    omega (arith, ap (sum_below f) e)
sums_more f m (suc k) =
    let e : m + suc k ≡ suc (m + k) = omega arith in
    omega (arith, sums_more f m k, ap (sum_below f) e)

pub sums_rise : (f : ℕ → ℕ) (m n : ℕ) → m ≤ n → sum_below f m ≤ sum_below f n
sums_rise f m n upto =
    let k = n - m in
    let e : m + k ≡ n = omega (arith, upto) in
    omega (arith, sums_more f m k, ap (sum_below f) e)

-- each frame gives one start
one_each : (cycle link begins r t : ℕ) (xs : List Waiting) → length (in_pace (start_of_queue cycle link begins) r t xs) ≡ length xs
one_each cycle link begins r t [] = refl
one_each cycle link begins r t (x ∷ xs) =
    let n = t + slot_of x.octets r in
    omega (
      arith,
      length-append (start_of_queue cycle link begins t x) (in_pace (start_of_queue cycle link begins) r n xs),
      one_each cycle link begins r n xs,
    )

-- so as many starts are added as the queue had frames
pub queue_reported : (sender : SendingLink) (cycle begins : ℕ) (queue : List Waiting) (old own : Vec Waiting Global) (branches : List LaidHop)
    (before after : List (Vec Waiting Global)) (reported all : List Started) →
    ReportsQueue sender cycle begins queue old own branches before after reported all → length all ≡ length reported + length queue
queue_reported sender cycle begins queue old own branches before after reported all h = omega (
  arith,
  ap length h.reports.starts,
  length-append reported (in_pace (start_of_queue cycle sender.link begins) sender.octet_time 0 h.sorted),
  one_each cycle sender.link begins sender.octet_time 0 h.sorted,
  length_permutation queue h.sorted h.same,
)

-- a queue has no more frames than it has room for, and so together with the queues before it
pub queue_within : (before now : List (Vec Waiting Global)) (index : ℕ) (own d : Vec Waiting Global) (count : ℕ) → index < length now →
    own ≡ get_or now index d → ((l : ℕ) → cap_at now l ≡ cap_at before l) → count ≤ caps_below before index →
    count + length own.items ≤ caps_below before (index + 1)
queue_within before now index own d count below at same so_far =
    omega (arith, own.ok.0, own.ok.1, cap_there now index own d below at, same index, so_far, ap (caps_below before) (add-one index))
