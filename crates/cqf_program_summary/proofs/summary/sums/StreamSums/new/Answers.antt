use Rattle.std.proofs.Common.{◌≡◌, ◌∙◌, ◌∷◌, [], ℕ, All, List, Option, ap, map, refl, subst, sym}
use Rattle.cqf_model.specs.Domain.{Domain}
use Rattle.cqf_model.specs.History.{Asked}
use Rattle.cqf_admission.specs.Asking.{asked_paced}
use Rattle.cqf_program_runs.specs.Deliveries.Deadlines.{Due, deadline_in}
use Rattle.cqf_program_summary.specs.declared.summary.listing.ListedStream.{ListedStream}
use Rattle.cqf_program_summary.specs.Summary.Listing.{IsOfStream, fare_named}
use Rattle.cqf_program_summary.specs.Summary.{Fare, Summary, fare_of, summary_by}
use Rattle.cqf_program_summary.specs.Summary.Written.{written_cost, written_streams}
use Rattle.cqf_program_summary.proofs.Listed.{bounded_listing, first_fares, listed_are}
use Rattle.cqf_program_summary.proofs.summary.sums.StreamSums.new.Goals as goal

pub fares_of-requires-clause-bounded : goal.fares_of-requires-clause-bounded
fares_of-requires-clause-bounded c =
    bounded_listing c.args.domain.now (map asked_paced c.args.requests.now) c.in_ok-listing.listing c.in_ok-listing.ensures

pub fares_of-requires-clause-all : goal.fares_of-requires-clause-all
fares_of-requires-clause-all c = c.in_ok-listing.ensures.all

pub fares_of-requires-clause-listed : goal.fares_of-requires-clause-listed
fares_of-requires-clause-listed c =
    let d = c.args.domain.now in
    subst (λ (ls : List ListedStream). All (IsOfStream d) ls) (sym c.as_slice.ensures.value)
    (listed_are d (map asked_paced c.args.requests.now) c.in_ok-listing.listing c.in_ok-listing.ensures)

-- the counts of streams have their names
names_of : (d : Domain) (cost : Asked → ℕ → ℕ) (due : List ℕ → Option ℕ) (them : List Asked) →
    map (λ (a : Asked). a.name) them ≡ map (λ (f : Fare). f.name) (map (fare_of d cost due [] []) them)
names_of d cost due [] = refl
names_of d cost due (a ∷ more) = ap (λ (ns : List (List ℕ)). a.name ∷ ns) (names_of d cost due more)

pub invariant_of-result : goal.invariant_of-result
invariant_of-result c =
    let d = c.args.domain.now in
    let streams = map asked_paced c.args.requests.now in
    let due = deadline_in c.in_ok-due.due in
    let first : c.in_ok-fares.fares.items ≡ (summary_by d (written_streams streams) due [] []).fares =
    c.in_ok-fares.ensures
    ∙ ap (map (fare_named d c.in_ok-listing.listing.costs due)) c.as_slice.ensures.value
    ∙ first_fares d streams due c.in_ok-listing.listing c.know.ensures.accepted c.in_ok-listing.ensures in
    c.in_ok-listing.ensures.names
    ∙ names_of d (written_cost d (written_streams streams)) due (written_streams streams)
    ∙ ap (map (λ (f : Fare). f.name)) (sym first)

pub returns : goal.returns
returns c =
    let d = c.args.domain.now in
    let streams = map asked_paced c.args.requests.now in
    let due = deadline_in c.in_ok-due.due in
    let first : c.in_ok-fares.fares.items ≡ (summary_by d (written_streams streams) due [] []).fares =
    c.in_ok-fares.ensures
    ∙ ap (map (fare_named d c.in_ok-listing.listing.costs due)) c.as_slice.ensures.value
    ∙ first_fares d streams due c.in_ok-listing.listing c.know.ensures.accepted c.in_ok-listing.ensures in
    ap {B = Summary} (λ (fs : List Fare). record { fares = fs; others = record { offered = 0; dropped = 0 } }) first
    ∙ ap (λ (k : Due). summary_by d (written_streams streams) (deadline_in k) [] []) c.in_ok-due.ensures
