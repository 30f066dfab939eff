use Rattle.std.proofs.Common.{◌∙◌, ◌+◌, ◌%◌, ℕ, Ok, Err, ap, refl, subst, sym}
use Rattle.std.specs.Arc.{arc_value}
use Rattle.cqf_units.specs.declared.reservations.Cycle.{Cycle}
use Rattle.cqf_model.specs.declared.history.Receipt.{Receipt}
use Rattle.cqf_model.specs.declared.topology.Row.{Row}
use Rattle.cqf_admission.specs.Holdings.{held_by}
use Rattle.cqf_admission.specs.Rows.{ended}
use Rattle.cqf_admission.specs.State.{Figures, WithdrawsName}
use Rattle.cqf_admission.proofs.StateCalls.{withdraws_open, withdraws_refused}
use Rattle.cqf_admission.proofs.state.State.withdraw.Goals as goal

pub returns-in_ok-put-in-Ok-clause-withdraws : goal.returns-in_ok-put-in-Ok-clause-withdraws
returns-in_ok-put-in-Ok-clause-withdraws c =
    let i = c.self.inside in
    let effect : Cycle = record { 0 = i.sealed } in
    let before : Figures = record { stands = i.holdings.rows; room = i.holdings.room; links = i.holdings.links; slots = i.slots; sealed = i.sealed } in
    let less = c.end.new.self in
    let after : Figures = record { stands = less.rows; room = less.room; links = less.links; slots = c.put.new.self; sealed = i.sealed } in
    let no = c.in-Ok.no in
    let row = c.row.result.now in
    let receipt : Receipt = record { no = no; effect = effect } in
    let laws = c.state_follows_history.ensures in
    subst (λ (f : Figures). WithdrawsName c.args.word.now f after (Ok receipt)) c.self.view_is
    (withdraws_open laws.goes_on laws.counted laws.held before after c.args.word.now laws.withdrawn c.streams_follow_history.ensures.withdrawn no
    c.slot_of-slot.result row (arc_value c.in_ok-ended-in-Ok.ended) receipt c.in-Ok.ensures c.row.ensures
    (c.slot_of-slot.ensures ∙ ap (λ (n : ℕ). (i.sealed + n) % 128) c.residence.ensures)
    (c.in_ok-ended-in-Ok.ensures ∙ ap (λ (r : Row). ended r effect) (sym (c.row-in-Ok.ensures (held_by row)) ∙ c.row.ensures (held_by row)))
    c.end.ensures.rows c.end.ensures.links c.in_ok-put-in-Ok.ensures.more refl refl)

pub returns-in-Err-clause-withdraws : goal.returns-in-Err-clause-withdraws
returns-in-Err-clause-withdraws c =
    let i = c.self.inside in
    let before : Figures = record { stands = i.holdings.rows; room = i.holdings.room; links = i.holdings.links; slots = i.slots; sealed = i.sealed } in
    let laws = c.state_follows_history.ensures in
    subst (λ (f : Figures). WithdrawsName c.args.word.now f f (Err c.in-Err.refused)) c.self.view_is
    (withdraws_refused laws.goes_on laws.counted laws.held before before c.args.word.now c.in-Err.refused c.in-Err.ensures
    (record { stands = refl; links = refl; slots = refl; sealed = refl }))
