use Rattle.std.proofs.Common.{◌≡◌, ◌∙◌, ◌+◌, ◌<◌, ◌^◌, ◌++◌, ◌∷◌, [], ℕ, List, Ok, Err, ap, length, refl, subst, sym}
use Rattle.cqf_units.specs.declared.reservations.Cycle.{Cycle}
use Rattle.cqf_model.specs.declared.history.Receipt.{Receipt}
use Rattle.cqf_model.specs.declared.topology.Row.{Row}
use Rattle.cqf_model.specs.Table.{cost_on}
use Rattle.cqf_admission.specs.Holdings.{IsFree, Standing, held_by, held_cost}
use Rattle.cqf_admission.specs.Rows.{IsSummable}
use Rattle.cqf_admission.specs.State.{AdmitsForm, Figures, SomeHistory}
use Rattle.cqf_admission.specs.Weighing.{row_by}
use Rattle.cqf_admission.proofs.StateCalls.{admits_granted, admits_refused}
use Rattle.cqf_admission.proofs.Weighed.{apart, good, inside, is_new, within}
use Rattle.cqf_admission.proofs.state.State.admit.Goals as goal

pub refusal_of-requires-clause-inside : goal.refusal_of-requires-clause-inside
refusal_of-requires-clause-inside c = inside c.args.domain.now c.requires.request.asked c.args.form c.requires.request.is

pub refusal_of-requires-clause-within : goal.refusal_of-requires-clause-within
refusal_of-requires-clause-within c =
    let i = c.self.inside in
    let before : Figures = record { stands = i.holdings.rows; room = i.holdings.room; links = i.holdings.links; slots = i.slots; sealed = i.sealed } in
    let h = subst (SomeHistory c.args.domain.now) (sym c.self.view_is) c.requires.history in
    λ l cycle low. within c.args.domain.now h.entries before h.is c.state_follows_history.ensures.held l cycle

pub refusal_of-requires-clause-apart : goal.refusal_of-requires-clause-apart
refusal_of-requires-clause-apart c = apart c.args.domain.now c.requires.request.asked c.args.form c.requires.request.is

pub refusal_of-requires-clause-good : goal.refusal_of-requires-clause-good
refusal_of-requires-clause-good c = good c.args.domain.now c.requires.request.asked c.args.form c.requires.request.is

pub returns-in-Some-clause-admits : goal.returns-in-Some-clause-admits
returns-in-Some-clause-admits c =
    let i = c.self.inside in
    let before : Figures = record { stands = i.holdings.rows; room = i.holdings.room; links = i.holdings.links; slots = i.slots; sealed = i.sealed } in
    let laws = c.state_follows_history.ensures in
    subst (λ (f : Figures). AdmitsForm c.args.domain.now c.args.form f f (Err c.in-Some.refused)) c.self.view_is
    (admits_refused laws.goes_on laws.counted laws.held before before c.args.domain.now c.args.form c.in-Some.refused (sym c.refusal_of.ensures ∙ c.in-Some.is)
    (record { stands = refl; links = refl; slots = refl; sealed = refl }))

pub row_by-requires : goal.row_by-requires
row_by-requires c =
    let i = c.self.inside in
    let before : Figures = record { stands = i.holdings.rows; room = i.holdings.room; links = i.holdings.links; slots = i.slots; sealed = i.sealed } in
    let h = subst (SomeHistory c.args.domain.now) (sym c.self.view_is) c.requires.history in
    (is_new c.args.domain.now h.entries before h.is c.requires.request.asked c.args.form c.requires.request.is c.state_follows_history.ensures.held
    c.know.ensures.accepted (sym c.refusal_of.ensures ∙ c.in_default.is)).few_hops

pub push-requires-clause-free : goal.push-requires-clause-free
push-requires-clause-free c =
    let i = c.self.inside in
    let before : Figures = record { stands = i.holdings.rows; room = i.holdings.room; links = i.holdings.links; slots = i.slots; sealed = i.sealed } in
    let h = subst (SomeHistory c.args.domain.now) (sym c.self.view_is) c.requires.history in
    let new = is_new c.args.domain.now h.entries before h.is c.requires.request.asked c.args.form c.requires.request.is c.state_follows_history.ensures.held
    c.know.ensures.accepted (sym c.refusal_of.ensures ∙ c.in_default.is) in
    subst (λ (rows : List Standing). IsFree rows c.in_ok-row.row.name) (sym c.reserve.ensures.rows)
    (subst (IsFree i.holdings.rows) (sym (ap (λ (row : Row). row.name) c.in_ok-row.ensures)) new.free)

pub push-requires-clause-summable : goal.push-requires-clause-summable
push-requires-clause-summable c =
    let i = c.self.inside in
    let before : Figures = record { stands = i.holdings.rows; room = i.holdings.room; links = i.holdings.links; slots = i.slots; sealed = i.sealed } in
    let h = subst (SomeHistory c.args.domain.now) (sym c.self.view_is) c.requires.history in
    let new = is_new c.args.domain.now h.entries before h.is c.requires.request.asked c.args.form c.requires.request.is c.state_follows_history.ensures.held
    c.know.ensures.accepted (sym c.refusal_of.ensures ∙ c.in_default.is) in
    subst (λ (links : ℕ). IsSummable links c.in_ok-row.row) (sym (c.reserve.ensures.links ∙ h.is.1))
    (subst (IsSummable (length c.args.domain.now.links)) (sym c.in_ok-row.ensures) (new.summable c.len-no.result (record { 0 = i.sealed })))

pub push-requires-clause-fits : goal.push-requires-clause-fits
push-requires-clause-fits c =
    let i = c.self.inside in
    let before : Figures = record { stands = i.holdings.rows; room = i.holdings.room; links = i.holdings.links; slots = i.slots; sealed = i.sealed } in
    let h = subst (SomeHistory c.args.domain.now) (sym c.self.view_is) c.requires.history in
    let new = is_new c.args.domain.now h.entries before h.is c.requires.request.asked c.args.form c.requires.request.is c.state_follows_history.ensures.held
    c.know.ensures.accepted (sym c.refusal_of.ensures ∙ c.in_default.is) in
    λ l cycle low.
    subst (λ (rows : List Standing). held_cost rows l cycle + cost_on c.in_ok-row.row l cycle < 2 ^ 64) (sym c.reserve.ensures.rows)
    (subst (λ (row : Row). held_cost i.holdings.rows l cycle + cost_on row l cycle < 2 ^ 64) (sym c.in_ok-row.ensures)
    (new.fits l cycle c.len-no.result (record { 0 = i.sealed })))

pub returns-clause-admits : goal.returns-clause-admits
returns-clause-admits c =
    let i = c.self.inside in
    let effect : Cycle = record { 0 = i.sealed } in
    let before : Figures = record { stands = i.holdings.rows; room = i.holdings.room; links = i.holdings.links; slots = i.slots; sealed = i.sealed } in
    let pushed = c.push.new.self in
    let after : Figures = record { stands = pushed.rows; room = pushed.room; links = pushed.links; slots = i.slots; sealed = i.sealed } in
    let receipt : Receipt = record { no = c.len-no.result; effect = effect } in
    let laws = c.state_follows_history.ensures in
    let many : c.len-no.result ≡ length i.holdings.rows = c.len-no.ensures ∙ ap (λ (rows : List Standing). length rows) c.reserve.ensures.rows in
    subst (λ (f : Figures). AdmitsForm c.args.domain.now c.args.form f after (Ok receipt)) c.self.view_is
    (admits_granted laws.goes_on laws.counted laws.held before after c.args.domain.now c.args.form c.know.ensures.accepted laws.granted
    c.streams_follow_history.ensures.granted c.in_ok-row.row receipt (sym c.refusal_of.ensures ∙ c.in_default.is) (λ k. record { no = many k; effect = effect })
    (c.in_ok-row.ensures ∙ ap (λ (no : ℕ). row_by c.args.form no effect) many)
    (c.in_ok-push.ensures.rows ∙ ap (λ (rows : List Standing). rows ++ held_by c.in_ok-row.row ∷ []) c.reserve.ensures.rows) (c.push.ensures.links ∙ c.reserve.ensures.links) refl refl)
