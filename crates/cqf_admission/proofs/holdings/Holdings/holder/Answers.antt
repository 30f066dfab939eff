use Rattle.std.proofs.Common.{MatchOption, ◌∙◌, map, subst}
use Rattle.cqf_admission.specs.Holdings.{IsFree, IsHolder, Stands, held_under, standing_of}
use Rattle.cqf_admission.proofs.Figures.{holder_is}
use Rattle.cqf_admission.proofs.holdings.Holdings.holder.Goals as goal

pub returns : goal.returns
returns c =
    subst (λ (h : Stands). MatchOption c.copied.result (IsFree h.rows c.args.name.now) (IsHolder h.rows c.args.name.now)) c.self.view_is
    (holder_is (map standing_of c.self.inside.rows.items) (held_under c.self.inside.by_name) c.self.inside.held.items c.self.inside.sums
    c.self.invariant c.args.name.now c.copied.result (c.copied.ensures ∙ c.get.ensures.value))
