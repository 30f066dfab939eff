use Rattle.std.proofs.Common.{◌≡◌, ◌∙◌, ◌+◌, ◌++◌, ◌<◌, ℕ, All, List, Option, ap, arith, refl, subst, sym}
use Rattle.std.proofs.lemmas.List.{length-map}
use Rattle.std.specs.Global.{Global}
use Rattle.std.specs.declared.vec.Vec.{Vec}
use Rattle.cqf_units.specs.declared.timing.Nanos.{Nanos}
use Rattle.cqf_instants.specs.Progress.{IsBasisOf, Progress}
use Rattle.cqf_instants.proofs.Steps.{starts_more}
use Rattle.cqf_instants.specs.declared.basis.Basis.{Basis}
use Rattle.cqf_model.specs.declared.frames.Started.{Started}
use Rattle.cqf_program_runs.specs.Deliveries.UnderWay.{AreSlots, IsInTime, slots_of, starts_written}
use Rattle.cqf_program_runs.proofs.OfCycles.{of_cycle}
use Rattle.cqf_program_runs.proofs.deliveries.under_way.UnderWay.write_up_to.Goals as goal

pub loop-self-init : goal.loop-self-init
loop-self-init c = record {
  basis = refl;
  hop_number = refl;
  as_many = refl;
  counted = c.requires.counted;
  within = λ upto. upto;
  no_more = λ most upto past. upto;
  noted = λ given width is are. are;
}

pub note_each-requires : goal.note_each-requires
note_each-requires c =
    let next = c.next_cycle.ensures.next c.if-not-next_cycle.false in
    let same = c.loop-self.invariant.basis in
    let early = c.requires.in_time in
    let within : c.loop-self.self.pass.reported < c.args.self.now.pass.basis.cycles =
    subst (λ (b : Basis). c.loop-self.self.pass.reported < b.cycles) same next.in_run in
    subst (λ (ss : List Started). All (IsInTime c.args.ended.now.domain.now) ss)
    (sym (c.starts.ensures ∙ next.starts early.given (subst (IsBasisOf early.given) (sym same) early.is)))
    (of_cycle (IsInTime c.args.ended.now.domain.now) early.given c.args.self.now.pass.basis.cycles c.loop-self.self.pass.reported within early.in_time)

pub loop-self-preserved : goal.loop-self-preserved
loop-self-preserved c =
    let ended = c.args.ended.now in
    let next = c.next_cycle.ensures.next c.if-not-next_cycle.false in
    let so_far = c.loop-self.invariant in
    let done = c.loop-self.self.pass.reported in
    let items : Vec (Option Nanos) Global → List (Option Nanos) = λ v. v.items in
    let within : done < c.args.self.now.pass.basis.cycles = subst (λ (b : Basis). done < b.cycles) so_far.basis next.in_run in
    record {
      basis = next.basis ∙ so_far.basis;
      hop_number = so_far.hop_number;
      as_many = sym (length-map c.note_each.new.slots.items items) ∙ c.note_each.ensures.as_many ∙ length-map c.loop-self.self.slots.items items
          ∙ so_far.as_many;
      counted = ap (λ (n : ℕ). n + 1) so_far.counted ∙ sym next.reported;
      within = λ upto. omega (arith, within, so_far.counted);
      no_more = λ most upto past. omega (arith, c.loop-self-test.true, past);
      noted = λ given width is are.
          let is_now = subst (IsBasisOf given) (sym so_far.basis) is in
          let reported = starts_written given done in
          subst (λ (ss : List Started). AreSlots ended.domain.now ended.rows.now ended.edge_verdicts.now ss c.args.index width (slots_of c.note_each.new.slots.items))
          (ap (λ (xs : List Started). reported ++ xs) (c.starts.ensures ∙ next.starts given is_now)
          ∙ starts_more given done
          ∙ ap (starts_written given) (sym next.reported))
          (c.note_each.ensures.noted reported width (so_far.noted given width is are));
    }

pub returns : goal.returns
returns c =
    let so_far = c.loop-self.invariant in
    record {
      basis = so_far.basis;
      hop_number = so_far.hop_number;
      as_many = so_far.as_many;
      counted = so_far.counted;
      within = so_far.within;
      no_more = so_far.no_more;
      all = λ cycle upto inside. omega (arith, upto, c.loop-self-test.false);
      noted = so_far.noted;
    }

pub returns-then-not-next_cycle : goal.returns-then-not-next_cycle
returns-then-not-next_cycle c =
    let ended = c.args.ended.now in
    let over = c.next_cycle.ensures.over c.if-not-next_cycle.true in
    let so_far = c.loop-self.invariant in
    let same_written : c.next_cycle.new.self.reported ≡ c.loop-self.self.pass.reported = ap (λ (p : Progress). p.reported) over.same in
    record {
      basis = ap (λ (p : Progress). p.basis) over.same ∙ so_far.basis;
      hop_number = so_far.hop_number;
      as_many = so_far.as_many;
      counted = so_far.counted ∙ sym same_written;
      within = so_far.within;
      no_more = so_far.no_more;
      all = λ cycle upto inside. omega (arith, inside, over.all, so_far.counted, ap (λ (b : Basis). b.cycles) so_far.basis);
      noted = λ given width is are.
          subst (λ (n : ℕ). AreSlots ended.domain.now ended.rows.now ended.edge_verdicts.now (starts_written given n) c.args.index width
          (slots_of c.loop-self.self.slots.items)) (sym same_written) (so_far.noted given width is are);
    }
