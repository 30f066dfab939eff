-- The offers of a run, with the positions of their first hops.
use Rattle.std.specs.Prelude.{ℕ, ◌≡◌, ◌<◌, nat_lt, if◌then◌else◌, List, Some, length, slice_get}
use Rattle.cqf_model.specs.declared.frames.Offer.{Offer}
use Rattle.cqf_instants.specs.declared.offers.Entering.{Entering}
use Rattle.cqf_instants.specs.Entering.{offer_at}
use Rattle.cqf_instants.specs.declared.laying.Group.{Group}
use Rattle.cqf_instants.specs.LaidTrees.{group_at}
use Rattle.cqf_instants_run.specs.declared.judged.EdgeVerdict.{EdgeVerdict}
use Rattle.cqf_instants_run.specs.declared.judged.EdgeVerdict.TheVariants.{Covered, Dropped}
use Rattle.cqf_instants_run.specs.Laid.{no_group}

-- the first hops of an offer: those of the row that covers it, and none if it is dropped
abbrev pub group_for : List Group → EdgeVerdict → Group
group_for groups (Covered index) = group_at groups index
group_for groups (Dropped reason) = no_group

-- the first hops of an offer that is offered before the run's end, by its verdict; none if it is offered at that end or later
abbrev pub group_until : ℕ → List Group → Offer → EdgeVerdict → Group
group_until end groups offer edge_verdict = if nat_lt offer.at.0 end then group_for groups edge_verdict else no_group

-- the offer with these hops
abbrev pub entering_by : Offer → Group → Entering
entering_by offer group = record { at = offer.at.0; octets = offer.octets; first = group.first; many = group.many }

-- the first `many` offers enter by their verdicts
pub record AreEntered (end : ℕ) (offers : List Offer) (edge_verdicts : List EdgeVerdict) (groups : List Group) (many : ℕ) (entering : List Entering) : Type 0 where
  pub count : length entering ≡ many
  pub each : (index : ℕ) (offer : Offer) (edge_verdict : EdgeVerdict) → index < many → slice_get offers index ≡ Some offer →
      slice_get edge_verdicts index ≡ Some edge_verdict → offer_at entering index ≡ entering_by offer (group_until end groups offer edge_verdict)
