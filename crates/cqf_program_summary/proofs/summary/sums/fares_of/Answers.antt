use Rattle.std.proofs.Common.{◌≡◌, ◌∙◌, ◌++◌, ◌∷◌, [], ℕ, List, Option, ap, ap₂, subst, sym}
use Rattle.std.proofs.lemmas.List.{map_more}
use Rattle.std.proofs.lemmas.List.Elements.{All-get_or}
use Rattle.cqf_program_runs.specs.Deliveries.Deadlines.{deadline_in}
use Rattle.cqf_program_summary.specs.declared.summary.listing.ListedStream.{ListedStream}
use Rattle.cqf_program_summary.specs.Summary.Listing.{IsOfStream, cost_beside, fare_from, fare_named}
use Rattle.cqf_program_summary.specs.Summary.{Fare}
use Rattle.cqf_program_summary.proofs.summary.sums.fares_of.Goals as goal

pub new-requires-clause-listed : goal.new-requires-clause-listed
new-requires-clause-listed c =
    let d = c.args.domain.now in
    subst (IsOfStream d) (sym c.listed-item.is)
    (All-get_or (IsOfStream d) c.args.streams.now c.loop-listed.listed-index c.listed-item.result c.loop-listed-test.true c.requires.listed)

pub loop-listed-preserved : goal.loop-listed-preserved
loop-listed-preserved c =
    let d = c.args.domain.now in
    let costs = c.args.costs.now in
    let item = c.listed-item.result in
    let named : ListedStream → Fare = fare_named d costs (deadline_in c.args.deadlines.now) in
    let fare : c.in_ok-new.field-0 ≡ named item =
    c.in_ok-new.ensures ∙ ap (λ (due : Option ℕ). fare_from d (cost_beside costs item.row) due item) c.of-deadline.ensures in
    c.in_ok-push.ensures.items
    ∙ ap₂ (λ (fs : List Fare) (f : Fare). fs ++ f ∷ []) c.loop-listed.invariant (fare ∙ ap named c.listed-item.is)
    ∙ sym (map_more named c.args.streams.now c.loop-listed.listed-index item c.loop-listed-test.true)
