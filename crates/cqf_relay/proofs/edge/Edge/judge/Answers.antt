use Rattle.std.proofs.Common.{◌≡◌, ◌∙◌, ◌++◌, ◌∷◌, [], Option, Some, None, ap, refl, subst, subst₂, sym}
use Rattle.std.proofs.lemmas.List.{append-nil}
use Rattle.std.proofs.lemmas.Result.{on_ok_weaker}
use Rattle.cqf_units.specs.Timing.{counted_of}
use Rattle.cqf_model.specs.declared.frames.Reason.{Reason}
use Rattle.cqf_model.specs.Table.{row_named}
use Rattle.cqf_relay.specs.declared.edge.Edge.{Edge}
use Rattle.cqf_relay.specs.declared.log.ArrivedFrame.{ArrivedFrame}
use Rattle.cqf_relay.specs.Offering.{DropsOf, JudgesRow}
use Rattle.cqf_relay.proofs.Offers.{judged_against, judged_by_row}
use Rattle.cqf_relay.proofs.edge.Edge.judge.Goals as goal

pub returns-in-Some-2 : goal.returns-in-Some-2
returns-in-Some-2 c =
    let d = c.args.domain.now in
    let x = c.args.offered.now in
    let before = c.args.self.now in
    let counted : Edge = record before { used = c.judge_row.new.used } in
    let reason = c.in-Some-2.reason in
    let row = c.in-Some.row.now in
    let named : row_named c.args.table.now.rows x.offer.stream ≡ Some row = sym c.in-Some.ensures.found in
    let octets : c.counted-octets.result.0 ≡ counted_of d.overhead x.offer.octets =
    c.counted-octets.ensures ∙ ap (λ o. counted_of o x.offer.octets) c.overhead.ensures.value in
    let judged : JudgesRow d before.number row c.args.cycle.0 (counted_of d.overhead x.offer.octets) before.used.items counted.used.items (Some reason) =
    subst₂ (λ n (r : Option Reason). JudgesRow d before.number row c.args.cycle.0 n before.used.items counted.used.items r) octets c.in-Some-2.is
    c.in_ok-reason.ensures in
    on_ok_weaker c.drop_for-in-Some-2.result
    (λ (dropped : DropsOf c.args.cycle.0 x reason counted c.drop_for-in-Some-2.new.self).
    judged_against d c.args.cycle.0 c.args.table.now.rows x before counted c.drop_for-in-Some-2.new.self row reason named
    (record { number = refl; drops = refl }) refl refl judged dropped)
    c.drop_for-in-Some-2.ensures

pub returns-in-None : goal.returns-in-None
returns-in-None c =
    let d = c.args.domain.now in
    let x = c.args.offered.now in
    let before = c.args.self.now in
    let after : Edge = record before { used = c.judge_row.new.used; log = c.keep.new.self } in
    let row = c.in-Some.row.now in
    let named : row_named c.args.table.now.rows x.offer.stream ≡ Some row = sym c.in-Some.ensures.found in
    let octets : c.counted-octets.result.0 ≡ counted_of d.overhead x.offer.octets =
    c.counted-octets.ensures ∙ ap (λ o. counted_of o x.offer.octets) c.overhead.ensures.value in
    let judged : JudgesRow d before.number row c.args.cycle.0 (counted_of d.overhead x.offer.octets) before.used.items after.used.items None =
    subst₂ (λ n (r : Option Reason). JudgesRow d before.number row c.args.cycle.0 n before.used.items after.used.items r) octets c.in-None.is
    c.in_ok-reason.ensures in
    on_ok_weaker c.keep.result
    (λ (kept : c.keep.new.self.frames.items ≡ before.log.frames.items ++ c.came.result ∷ []).
    judged_by_row d c.args.cycle.0 c.args.table.now.rows x before after row None named judged (record { number = refl; drops = refl })
    (kept ∙ ap (λ (came : ArrivedFrame). before.log.frames.items ++ came ∷ []) c.came.ensures) (sym (append-nil before.fresh.items)))
    c.keep.ensures
