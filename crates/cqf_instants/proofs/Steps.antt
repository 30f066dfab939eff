-- A pass goes on by a cycle.
use Rattle.std.proofs.Common.{◌≡◌, ◌++◌, ◌<◌, ◌+◌, ◌^◌, ℕ, [], List, add-one, ap, length, arith, subst, sym}
use Rattle.std.specs.Prelude.{vec_capacity}
use Rattle.std.specs.Global.{Global}
use Rattle.std.specs.declared.vec.Vec.{Vec}
use Rattle.cqf_model.specs.declared.frames.Started.{Started}
use Rattle.cqf_model.specs.Book.{starts_of}
use Rattle.cqf_instants.specs.declared.basis.Basis.{Basis}
use Rattle.cqf_instants.specs.declared.queues.Waiting.{Waiting}
use Rattle.cqf_instants.specs.declared.standing.Standing.{Standing}
use Rattle.cqf_instants.specs.Entering.{CanPut, PutsOffers}
use Rattle.cqf_instants.specs.Queues.{caps_below, sum_below}
use Rattle.cqf_instants.specs.Laws.{TheLaws}
use Rattle.cqf_instants.specs.Meaning.{CanSend, Given, SendsAll, SomeCanSend}
use Rattle.cqf_instants.specs.Progress.{IsBasisOf, IsUnderWay, SomeBasis, starts_of_cycle}
use Rattle.cqf_instants.specs.Reporting.{AreEmptyQueues, IsReadyFor, room_at}
use Rattle.cqf_instants.proofs.Reporting.{can_put, can_send, ready_first, ready_next, room_for_all, same_room, starts_are}

-- the starts of the computed cycles, and of one more
pub starts_more : (given : Given) (cycle : ℕ) →
    starts_of given.run.domain cycle given.net.carried ++ starts_of_cycle given cycle ≡ starts_of given.run.domain (cycle + 1) given.net.carried
starts_more given cycle = ap (λ (n : ℕ). starts_of given.run.domain n given.net.carried) (sym (add-one cycle))

-- a pass before its first cycle
pub first_under_way : TheLaws → (basis : Basis) → SomeBasis basis → (now next : Vec (Vec Waiting Global) Global) (starts : Vec Started Global) (frames : ℕ) →
    AreEmptyQueues basis.links.items basis.cycle_time basis.guard (length basis.offers.items) (length basis.links.items) now.items →
    AreEmptyQueues basis.links.items basis.cycle_time basis.guard (length basis.offers.items) (length basis.links.items) next.items →
    frames ≡ sum_below (room_at basis.links.items basis.cycle_time basis.guard (length basis.offers.items)) (length basis.links.items) →
    vec_capacity starts ≡ frames →
    IsUnderWay basis 0 (record { now = now; next = next; from = 0; begins = 0; starts = starts })
first_under_way laws basis some now next starts frames one two are cap = record {
  some = some;
  within = omega arith;
  room = record {
    now = room_for_all laws some.given basis.links.items basis.cycle_time basis.guard basis.cycles basis.branches.items basis.offers.items
        some.is now.items frames (vec_capacity starts) one are cap;
    next = room_for_all laws some.given basis.links.items basis.cycle_time basis.guard basis.cycles basis.branches.items basis.offers.items
        some.is next.items frames (vec_capacity starts) two are cap;
  };
  ready = λ given is. ready_first laws given basis.links.items basis.cycle_time basis.guard basis.cycles basis.branches.items basis.offers.items
      is now.items next.items one two;
}

module _ (laws : TheLaws) (basis : Basis) (cycle : ℕ) (old : Standing) (under_way : IsUnderWay basis cycle old) (in_run : cycle < basis.cycles)
    (small : cycle < 2 ^ 32) where
  -- what a run requires to send the cycle
  pub may_send : (given : Given) → IsBasisOf given basis →
      CanSend given basis.branches.items basis.links.items cycle old.begins old.now.items old.next.items
  may_send given is =
      can_send laws given basis.links.items basis.cycle_time basis.guard basis.cycles basis.branches.items basis.offers.items is
      cycle old.begins old.from old.now.items old.next.items (under_way.ready given is) (omega (arith, in_run, is.are_cycles)) small

  pub some_may_send : SomeCanSend basis.branches.items basis.links.items cycle old.begins old.now.items old.next.items
  some_may_send = record { given = under_way.some.given; can = may_send under_way.some.given under_way.some.is }

  module _ (now next : List (Vec Waiting Global)) (starts : Vec Started Global)
      (sends : (given : Given) → CanSend given basis.branches.items basis.links.items cycle old.begins old.now.items old.next.items →
      SendsAll given basis.branches.items cycle (length basis.links.items) old.now.items now old.next.items next [] starts.items)
      (cap : vec_capacity starts ≡ vec_capacity old.starts) where
    -- the offers can be put
    pub may_put : CanPut basis.offers.items old.from old.begins (old.begins + basis.cycle_time) basis.branches.items next
    may_put =
        let given = under_way.some.given in
        let is = under_way.some.is in
        can_put laws given basis.links.items basis.cycle_time basis.guard basis.cycles basis.branches.items basis.offers.items is
        cycle old.begins old.from old.now.items old.next.items (under_way.ready given is) now next [] starts.items (omega (arith, in_run, is.are_cycles))
        (sends given (may_send given is))

    -- the starts are those of the cycle
    pub starts_reported : (given : Given) → IsBasisOf given basis → starts.items ≡ starts_of_cycle given cycle
    starts_reported given is =
        starts_are laws given basis.links.items basis.cycle_time basis.guard basis.cycles basis.branches.items basis.offers.items is
        cycle old.now.items now old.next.items next starts.items (sends given (may_send given is))

    -- and the queues are ready for the next one
    pub next_under_way : (to : ℕ) (after before : Vec (Vec Waiting Global) Global) → before.items ≡ now →
        PutsOffers basis.offers.items old.begins (old.begins + basis.cycle_time) basis.branches.items next after.items to →
        IsUnderWay basis (cycle + 1) (record { now = after; next = before; from = to; begins = old.begins + basis.cycle_time; starts = starts })
    next_under_way to after before is_now puts = record {
      some = under_way.some;
      within = omega (arith, in_run);
      room = record {
        now = omega (arith, under_way.room.next, cap, (rooms under_way.some.given under_way.some.is).0);
        next = omega (
          arith,
          under_way.room.now,
          cap,
          (rooms under_way.some.given under_way.some.is).1,
          ap (λ (queues : List (Vec Waiting Global)).
              caps_below queues (length basis.links.items)) is_now,
        );
      };
      ready = λ given is. subst (λ (queues : List (Vec Waiting Global)).
          IsReadyFor given basis.offers.items (length basis.links.items) basis.branches.items (cycle + 1) (old.begins + basis.cycle_time) to after.items queues)
          (sym is_now) (ready_next laws given basis.links.items basis.cycle_time basis.guard basis.cycles basis.branches.items basis.offers.items is
          cycle old.begins old.from to old.now.items old.next.items now next after.items [] starts.items (under_way.ready given is)
          (sends given (may_send given is)) puts);
    }
      where
        rooms : (given : Given) → IsBasisOf given basis → (caps_below after.items (length basis.links.items)
            ≡ caps_below old.next.items (length basis.links.items))
            × (caps_below now (length basis.links.items) ≡ caps_below old.now.items (length basis.links.items))
        rooms given is =
            same_room laws given basis.links.items basis.cycle_time basis.guard basis.cycles basis.branches.items basis.offers.items is
            cycle old.begins old.from to old.now.items old.next.items now next after.items [] starts.items (under_way.ready given is)
            (sends given (may_send given is)) puts
