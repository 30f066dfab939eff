-- Queues of frames, and what a link sends from one.
use Rattle.std.specs.Prelude.{ℕ, zero, suc, ◌≡◌, ◌+◌, ◌*◌, ◌≤◌, ◌++◌, ◌==◌, if◌then◌else◌, List, [], ◌∷◌, length, map, slice_index_or, sum_by, vec_capacity}
use Rattle.std.specs.List.Sorted.{IsNonDecreasingBy, IsPermutation}
use Rattle.std.specs.Global.{Global}
use Rattle.std.specs.declared.vec.Vec.{Vec}
use Rattle.cqf_lists.specs.Lists.{each_below}
use Rattle.cqf_units.specs.Timing.{slot_of, time_of}
use Rattle.cqf_model.specs.declared.frames.Started.{Started}
use Rattle.cqf_instants.specs.declared.queues.LaidHop.{LaidHop}
use Rattle.cqf_instants.specs.declared.queues.Waiting.{Waiting}
use Rattle.cqf_instants.specs.declared.link.SendingLink.{SendingLink}

-- what queues hold
abbrev pub queue_lists : List (Vec Waiting Global) → List (List Waiting)
queue_lists queues = map (λ (queue : Vec Waiting Global). queue.items) queues

-- the queue of one link
abbrev pub queue_at : List (Vec Waiting Global) → ℕ → List Waiting
queue_at queues l = slice_index_or (queue_lists queues) l []

-- the number of frames that a queue has room for
abbrev pub cap_at : List (Vec Waiting Global) → ℕ → ℕ
cap_at queues l = slice_index_or (map (λ (queue : Vec Waiting Global). vec_capacity queue) queues) l 0

-- the sum of a number for each k below a bound
abbrev pub sum_below : (ℕ → ℕ) → ℕ → ℕ
sum_below f zero = zero
sum_below f (suc n) = sum_below f n + f n

-- the number of frames that the queues of the links below one have room for
abbrev pub caps_below : List (Vec Waiting Global) → ℕ → ℕ
caps_below queues m = sum_below (cap_at queues) m

-- each queue has room for what `more` adds to it
abbrev pub HasSpace : List (Vec Waiting Global) → (ℕ → List Waiting) → Type 0
HasSpace queues more = (l : ℕ) → length (queue_at queues l) + length (more l) ≤ cap_at queues l

-- each queue got what `more` adds to it, and its capacity is unchanged
pub record AddsToQueue (before after : List (Vec Waiting Global)) (more : ℕ → List Waiting) : Type 0 where
  pub capacity : (l : ℕ) → cap_at after l ≡ cap_at before l
  pub as_many : length after ≡ length before
  pub each : (l : ℕ) → queue_at after l ≡ queue_at before l ++ more l

-- a frame for one link only
abbrev pub only_on : ℕ → Waiting → ℕ → List Waiting
only_on link frame l = if link == l then frame ∷ [] else []

-- the number by which a queue is sorted
abbrev pub key_in_cycle : Waiting → ℕ
key_in_cycle w = (w.at * 8192 + w.source) * 16777216 + w.frame

-- the hop at an index
abbrev pub branch_at : List LaidHop → ℕ → LaidHop
branch_at branches h = slice_index_or branches h (record { link = 0; next = 0; many = 0 })

-- a frame at a hop
abbrev pub at_hop : Waiting → ℕ → Waiting
at_hop w hop = record { at = w.at; hop = hop; frame = w.frame; octets = w.octets; source = w.source }

-- what a frame that goes by some contiguous hops adds to a link's queue
abbrev pub hops_to : List LaidHop → ℕ → ℕ → Waiting → ℕ → List Waiting
hops_to branches first many frame l = each_below (λ k. only_on (branch_at branches (first + k)).link (at_hop frame (first + k)) l) many

-- how long frames take one after the other, with their gaps, in nanoseconds
abbrev pub queue_time : ℕ → List Waiting → ℕ
queue_time octet_time queue = sum_by (λ (w : Waiting). slot_of w.octets octet_time) queue

-- something for each frame, by the instant at which it starts, if each starts when the one before it and the gap are over
abbrev pub in_pace : {A : Type 0} → (ℕ → Waiting → List A) → ℕ → ℕ → List Waiting → List A
in_pace f octet_time t [] = []
in_pace f octet_time t (x ∷ xs) = f t x ++ in_pace f octet_time (t + slot_of x.octets octet_time) xs

-- a frame's start, as a book records it
abbrev pub start_of_queue : ℕ → ℕ → ℕ → ℕ → Waiting → List Started
start_of_queue cycle link begins offset w =
    record { cycle = record { 0 = cycle }; link = link; frame = w.frame; octets = w.octets; start = record { 0 = begins + offset } } ∷ []

-- a frame that starts at the offset `offset`, as it arrives fully at the link's end
abbrev pub whole_after : SendingLink → ℕ → Waiting → Waiting
whole_after sender offset w = record {
  at = offset + time_of (w.octets + 8) sender.octet_time + sender.delay;
  hop = w.hop;
  frame = w.frame;
  octets = w.octets;
  source = sender.link;
}

-- what it adds to another link's queue
abbrev pub after_hop : SendingLink → List LaidHop → ℕ → ℕ → Waiting → List Waiting
after_hop sender branches l offset w = let branch = branch_at branches w.hop in
    hops_to branches branch.next branch.many (whole_after sender offset w) l

-- the starts of a queue are added, and each frame is put into the queues of the hops after its own
pub record ReportsOfQueue (sender : SendingLink) (cycle begins : ℕ) (queue : List Waiting) (branches : List LaidHop)
    (before after : List (Vec Waiting Global)) (reported all : List Started) : Type 0 where
  pub starts : all ≡ reported ++ in_pace (start_of_queue cycle sender.link begins) sender.octet_time 0 queue
  pub next : AddsToQueue before after (λ l. in_pace (after_hop sender branches l) sender.octet_time 0 queue)

-- a queue is sorted, its starts are added, its frames are put into the queues of the hops after their own, and it is emptied
pub record ReportsQueue (sender : SendingLink) (cycle begins : ℕ) (queue : List Waiting) (old own : Vec Waiting Global) (branches : List LaidHop)
    (before after : List (Vec Waiting Global)) (reported all : List Started) : Type 0 where
  pub empty : own.items ≡ []
  pub own_capacity : vec_capacity own ≡ vec_capacity old
  pub sorted : List Waiting
  pub same : IsPermutation queue sorted
  pub rise : IsNonDecreasingBy key_in_cycle sorted
  pub reports : ReportsOfQueue sender cycle begins sorted branches before after reported all
