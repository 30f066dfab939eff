use Rattle.std.proofs.Common.{◌≡◌, ◌+◌, ◌*◌, ◌<◌, ◌^◌, ℕ, false, true, refl, ap, ap₂, arith, sym, subst, ◌∙◌}
use Rattle.std.proofs.lemmas.Bool.{true≢false}
use Rattle.cqf_units.specs.Timing.{slot_of}
use Rattle.cqf_relay.specs.declared.outlet.Outlet.{Outlet}
use Rattle.cqf_relay.specs.declared.pending.Pending.{Pending}
use Rattle.cqf_relay.specs.Sending.{Hands, has_room_on, time_on}
use Rattle.cqf_relay.proofs.Sends.{moving_at, sends_one}
use Rattle.cqf_relay.proofs.outlet.Outlet.send_one.Goals as goal
use Rattle.cqf_relay.proofs.outlet.Outlet.send_one.Goals.{then-self+in_ok-hand, else-self}

pub returns : goal.returns
returns c =
    let before = c.args.self.now in
    let after = c.if-self.self in
    let room : has_room_on before.wire c.args.offset c.args.came.octets ≡ true = sym c.has_room.ensures ∙ c.if-not-has_room.false in
    let begins : c.from.result * c.from-2.result ≡ c.args.cycle * before.wire.cycle_time = ap₂ (λ (m n : ℕ). m * n) c.from.ensures c.from-2.ensures in
    elim c.if-self.branch [
      | then-self+in_ok-hand w ↦
          sends_one c.args.cycle c.args.offset c.args.came before after
          (ap (λ (o : Outlet). o.wire) w.self-is) (ap (λ (o : Outlet). o.leads) w.self-is) (ap (λ (o : Outlet). o.sent) w.self-is) (ap (λ (o : Outlet). o.reported) w.self-is)
          (c.from.result * c.from-2.result) w.time_of.result c.taken_by.result begins w.time_of.ensures
          (c.taken_by.ensures.value ∙ ap (λ (o : Outlet). slot_of c.args.came.octets o.wire.octet_time) w.self-is)
          room (omega arith) (subst (λ (o : Outlet). o.wire.octet_time < 2 ^ 32) w.self-is c.taken_by.ensures.ticks)
          (ap (λ (o : Outlet). o.trace.link) w.self-is ∙ c.keep.ensures.link)
          (ap (λ (o : Outlet). o.trace.background.items) w.self-is ∙ c.keep.ensures.background)
          (ap (λ (o : Outlet). o.trace.starts.items) w.self-is ∙ c.in_ok-keep.ensures.starts)
          (λ onward. subst (λ (p : Pending).
          Hands c.args.cycle (moving_at c.args.came (c.args.offset + w.time_of.result) 0) before.pending p)
          (sym (ap (λ (o : Outlet). o.pending) w.self-is)) w.in_ok-hand.ensures)
          (λ ends. absurd (true≢false (sym w.if-self.true ∙ ends)))
      | else-self w ↦
          sends_one c.args.cycle c.args.offset c.args.came before after
          (ap (λ (o : Outlet). o.wire) w.self-is) (ap (λ (o : Outlet). o.leads) w.self-is) (ap (λ (o : Outlet). o.sent) w.self-is) (ap (λ (o : Outlet). o.reported) w.self-is)
          (c.from.result * c.from-2.result) (time_on before.wire c.args.came.octets) c.taken_by.result begins refl
          (c.taken_by.ensures.value ∙ ap (λ (o : Outlet). slot_of c.args.came.octets o.wire.octet_time) w.self-is)
          room (omega arith) (subst (λ (o : Outlet). o.wire.octet_time < 2 ^ 32) w.self-is c.taken_by.ensures.ticks)
          (ap (λ (o : Outlet). o.trace.link) w.self-is ∙ c.keep.ensures.link)
          (ap (λ (o : Outlet). o.trace.background.items) w.self-is ∙ c.keep.ensures.background)
          (ap (λ (o : Outlet). o.trace.starts.items) w.self-is ∙ c.in_ok-keep.ensures.starts)
          (λ onward. absurd (true≢false (sym onward ∙ w.if-self.false)))
          (λ ends. ap (λ (o : Outlet). o.pending) w.self-is)
    ]
