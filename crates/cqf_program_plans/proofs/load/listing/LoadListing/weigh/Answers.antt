use Rattle.std.proofs.Common.{◌≡◌, ◌<◌, ◌∙◌, ℕ, List, false, ap, arith, length, sym}
use Rattle.std.specs.List.{list_any}
use Rattle.cqf_admission.proofs.GrantLemmas.{row_granted}
use Rattle.cqf_admission.specs.Asking.{asked_paced}
use Rattle.cqf_model.specs.declared.topology.Row.{Row}
use Rattle.cqf_model.specs.Domain.{is_text}
use Rattle.cqf_model.specs.Limits.{streams_within}
use Rattle.cqf_program_plans.proofs.LookedOver.{is_listed}
use Rattle.cqf_program_plans.proofs.load.listing.LoadListing.weigh.Goals as goal

pub returns : goal.returns
returns c =
    let d = c.args.domain.now in
    let rows : List Row = c.args.self.now in
    let asked = asked_paced c.args.request.now in
    let judged = c.in_ok-judged.judged in
    let form = c.in_ok-judged.ensures in
    let free : list_any (λ (other : Row). is_text other.name asked.name) rows ≡ false =
    ap (λ (n : List ℕ). list_any (λ (other : Row). is_text other.name n) rows) (sym form.named) ∙ sym c.has_name.ensures ∙ c.if-has_name.false in
    let few : length rows < streams_within d.limits =
    omega (arith, c.if-len-streams_within.false, c.len.ensures, c.streams_within.ensures, ap streams_within c.limits.ensures) in
    is_listed d rows asked _ c.know.ensures.accepted.overhead_short form.none form.most_octets free few
    (row_granted d (length rows) (record { 0 = 0 }) asked judged.name judged.overhead judged.pace judged.tree.items form.named form.overhead form.paced form.linked)
