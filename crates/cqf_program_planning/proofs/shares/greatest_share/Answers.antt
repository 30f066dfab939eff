use Rattle.std.proofs.Common.{◌≡◌, ◌∙◌, ◌∷◌, [], List, ℕ, ap, length, slice_index}
use Rattle.cqf_lists.proofs.EachBelow.{get_or-singles, length-singles, same_below}
use Rattle.cqf_lists.specs.Lists.{each_below}
use Rattle.cqf_model.specs.Domain.{budget}
use Rattle.cqf_admission.specs.Costs.{most_cost}
use Rattle.cqf_program_planning.specs.Judging.{greatest_of, share_of}
use Rattle.cqf_program_planning.proofs.shares.greatest_share.Goals as goal

-- there is a number for each link
pub greatest_by-requires : goal.greatest_by-requires
greatest_by-requires c =
    ap length (c.as_slice.ensures.value ∙ c.in_ok-held.ensures)
    ∙ length-singles (λ l. most_cost c.args.rows.now l) (length c.args.domain.now.links)

-- and it is the most that the rows cost of the link in a cycle
pub returns : goal.returns
returns c =
    let d = c.args.domain.now in
    let rows = c.args.rows.now in
    let held : c.as_slice.result.now ≡ each_below (λ l. most_cost rows l ∷ []) (length d.links) = c.as_slice.ensures.value ∙ c.in_ok-held.ensures in
    c.greatest_by.ensures
    ∙ ap greatest_of (same_below (λ l. share_of (budget d l) (slice_index c.as_slice.result.now l)) (λ l. share_of (budget d l) (most_cost rows l))
    (length d.links)
    (λ k low. ap (λ (n : ℕ). share_of (budget d k) n)
    (ap (λ (xs : List ℕ). slice_index xs k) held ∙ get_or-singles (λ l. most_cost rows l) (length d.links) k 0 low)))
