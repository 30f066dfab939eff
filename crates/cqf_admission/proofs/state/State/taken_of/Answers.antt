use Rattle.std.proofs.Common.{◌≤◌, ◌∙◌, ℕ, List, ap, subst, sym}
use Rattle.cqf_model.specs.Domain.{budget}
use Rattle.cqf_admission.specs.Holdings.{Standing, held_most}
use Rattle.cqf_admission.specs.State.{Figures, SomeHistory}
use Rattle.cqf_admission.proofs.Left.{all_within, fits_in, none_over}
use Rattle.cqf_admission.proofs.Reported.{costs_most}
use Rattle.cqf_admission.proofs.Weighed.{within}
use Rattle.cqf_admission.proofs.state.State.taken_of.Goals as goal

pub prove-unreachable-requires : goal.prove-unreachable-requires
prove-unreachable-requires c =
    let i = c.self.inside in
    let d = c.args.domain.now in
    let before : Figures = record { stands = i.holdings.rows; room = i.holdings.room; links = i.holdings.links; slots = i.slots; sealed = i.sealed } in
    let h = subst (SomeHistory d) (sym c.self.view_is) c.requires.history in
    let fits = fits_in c.most_of-taken.result c.budget_on-most.result.0 (held_most i.holdings.rows c.args.link) (budget d c.args.link) c.most_of-taken.ensures
    c.budget_on-most.ensures
    (all_within i.holdings.rows c.args.link (budget d c.args.link) (within d h.entries before h.is c.state_follows_history.ensures.held c.args.link)) in
    none_over c.most_of-taken.result c.from.result (subst (λ (n : ℕ). c.most_of-taken.result ≤ n) (sym c.from.ensures) fits) c.if-prove.true

pub returns-clause-held : goal.returns-clause-held
returns-clause-held c entries r =
    c.most_of-taken.ensures
    ∙ ap (λ (f : Figures). held_most f.stands c.args.link) c.self.view_is
    ∙ ap (λ (rows : List Standing). held_most rows c.args.link) r.0.are_streams
    ∙ costs_most c.args.domain.now entries c.args.link
