use Rattle.std.proofs.Common.{◌-◌, ◌∙◌, ℕ, List, ap, subst, sym}
use Rattle.cqf_model.specs.Domain.{budget}
use Rattle.cqf_admission.specs.Holdings.{Standing}
use Rattle.cqf_admission.specs.State.{Figures, SomeHistory}
use Rattle.cqf_admission.specs.Weighing.{left_at}
use Rattle.cqf_admission.proofs.Reported.{costs_in_active_cycles}
use Rattle.cqf_admission.proofs.Weighed.{within}
use Rattle.cqf_admission.proofs.state.State.left_at.Goals as goal

pub left_of-requires-clause-within : goal.left_of-requires-clause-within
left_of-requires-clause-within c =
    let i = c.self.inside in
    let before : Figures = record { stands = i.holdings.rows; room = i.holdings.room; links = i.holdings.links; slots = i.slots; sealed = i.sealed } in
    let h = subst (SomeHistory c.args.domain.now) (sym c.self.view_is) c.requires.history in
    λ l cycle low. within c.args.domain.now h.entries before h.is c.state_follows_history.ensures.held l cycle

pub returns : goal.returns
returns c entries r =
    let d = c.args.domain.now in
    let hop = c.args.hop.now in
    c.left_of.ensures
    ∙ ap (λ (f : Figures). left_at d f.stands c.args.pace hop) c.self.view_is
    ∙ ap (λ (rows : List Standing). left_at d rows c.args.pace hop) r.0.are_streams
    ∙ ap (λ (most : ℕ). budget d hop.link - most) (costs_in_active_cycles d entries c.args.pace hop)
