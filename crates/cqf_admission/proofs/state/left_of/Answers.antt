use Rattle.std.proofs.Common.{◌≤◌, ℕ, subst, sym}
use Rattle.cqf_model.specs.Domain.{budget}
use Rattle.cqf_admission.specs.Holdings.{held_most_at}
use Rattle.cqf_admission.proofs.Left.{active_cycles_within, fits_in, none_over}
use Rattle.cqf_admission.proofs.state.left_of.Goals as goal

pub prove-unreachable-requires : goal.prove-unreachable-requires
prove-unreachable-requires c =
    let d = c.args.domain.now in
    let rows = c.args.holdings.now.rows in
    let hop = c.args.hop.now in
    let fits =
    fits_in c.most_at-taken.result c.budget_on-most.result.0 (held_most_at rows hop.link c.args.pace hop.hop_number) (budget d hop.link) c.most_at-taken.ensures
    c.budget_on-most.ensures
    (active_cycles_within rows hop.link (budget d hop.link) (λ cycle. c.requires.within hop.link cycle c.requires.inside) c.args.pace hop.hop_number) in
    none_over c.most_at-taken.result c.from.result (subst (λ (n : ℕ). c.most_at-taken.result ≤ n) (sym c.from.ensures) fits) c.if-prove.true
