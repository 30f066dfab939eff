-- The deliveries that were made are those in the book of the scenario.
use Rattle.std.proofs.Common.{◌≡◌, ◌∙◌, ◌⊎◌, ℕ, ◌≤◌, ◌<◌, Bool, List, inl, inr, Option, Some, None, ap, arith, get_or}
use Rattle.std.proofs.Common.{length, map, refl, subst, sym, position, find}
use Rattle.std.specs.Prelude.{slice_get}
use Rattle.std.specs.Option.{option_and_then}
use Rattle.std.proofs.lemmas.List.{get_or-map, get_or_past, length-map}
use Rattle.std.proofs.lemmas.Option.{get_or_from_slice_get, slice_get_cases, slice_get_within}
use Rattle.cqf_lists.proofs.EachBelow.{length-singles}
use Rattle.cqf_model.specs.declared.frames.Offer.{Offer}
use Rattle.cqf_model.specs.declared.frames.Started.{Started}
use Rattle.cqf_model.specs.declared.topology.Row.{Row}
use Rattle.cqf_model.specs.Book.{Contents}
use Rattle.cqf_model.specs.Domain.{Domain, is_text}
use Rattle.cqf_model.specs.History.{Asked, Recorded, seals, table_at, tables_of}
use Rattle.cqf_model.specs.Shift.{offer_cycle}
use Rattle.cqf_model.specs.Policing.{numbered}
use Rattle.cqf_model.specs.Promise.{IsDecided}
use Rattle.cqf_topology.specs.declared.paced.PacedRequest.{PacedRequest}
use Rattle.cqf_topology.specs.PlannedText.{PlannedText}
use Rattle.cqf_admission.specs.Asking.{asked_by, asked_paced}
use Rattle.cqf_lists.proofs.Mapped.{position-map}
use Rattle.cqf_admission.specs.Names.{index_named}
use Rattle.cqf_lists.proofs.Firsts.{found_nowhere, found_there}
use Rattle.cqf_laws_coverage.specs.Counted.{AreDecided}
use Rattle.cqf_laws_coverage.specs.Judged.{OffersAreJudged, StandInOrder}
use Rattle.cqf_instants_run.specs.declared.judged.EdgeVerdict.{EdgeVerdict}
use Rattle.cqf_instants_run.specs.Coverage.{AreJudged}
use Rattle.cqf_instants_run.specs.Columns.{verdict_at}
use Rattle.cqf_instants_run.proofs.JudgedSums.{at_index}
use Rattle.cqf_program_plans.specs.Latency.Input.{deadlines_in}
use Rattle.cqf_program_scenario.specs.Books.{IsBookOfScenario}
use Rattle.cqf_program_scenario.specs.Calls.{history_of}
use Rattle.cqf_program_scenario.specs.Scenario.{Scenario}
use Rattle.cqf_program_runs.specs.declared.deliveries.delivery.Delivery.{Delivery}
use Rattle.cqf_program_runs.specs.Deliveries.ByVerdict.{deliveries_of_all, known_by}
use Rattle.cqf_program_runs.specs.Deliveries.Deadlines.{deadline_in}
use Rattle.cqf_program_runs.specs.Deliveries.{deadline_named, whole_on}
use Rattle.cqf_program_runs.proofs.ByBook.{deliveries_judged}
use Rattle.cqf_program_runs.specs.Deliveries.PlannedScenario.{run_of_scenario}
use Rattle.cqf_program_runs.specs.Deliveries.Reading.{AreDeliveries, ArePlannedBeside}

-- what is found by a name, or nothing, has its deadline at its index
due_at : (streams : List PlannedText) (k : ℕ) (found : Option PlannedText) → slice_get streams k ≡ found →
    get_or (map (λ (planned : PlannedText). planned.1) streams) k None ≡ option_and_then (λ (planned : PlannedText). planned.1) found
due_at streams k (Some planned) at =
    get_or-map (λ (p : PlannedText). p.1) streams k planned None (slice_get_within streams k planned at)
    ∙ ap (λ (p : PlannedText). p.1) (get_or_from_slice_get streams k planned planned at)
due_at streams k None at = none (slice_get_cases streams k).1
  where
    none : ((x : PlannedText) × (k < length streams) × (slice_get streams k ≡ Some x) × (get_or streams k x ≡ x))
        ⊎ ((length streams ≤ k) × (slice_get streams k ≡ None)) →
        get_or (map (λ (planned : PlannedText). planned.1) streams) k None ≡ None
    none (inl here) = absurd (let both : Some here.0 ≡ None = sym here.2 ∙ at in cc)
    none (inr past) = get_or_past (map (λ (planned : PlannedText). planned.1) streams) k None
        (omega (arith, past.0, length-map streams (λ (planned : PlannedText). planned.1)))

-- whether a stream has a name
abbrev named : List ℕ → PlannedText → Bool
named name planned = is_text planned.0.name name

-- so the deadline of a name is that of the first stream of it
pub due_is : (streams : List PlannedText) (requests : List PacedRequest) (deadlines : List (Option ℕ)) → ArePlannedBeside streams requests deadlines
    → (name : List ℕ) →
    deadline_in (record { requests = requests; deadlines = deadlines }) name ≡ deadline_named streams name
due_is streams requests deadlines planned name =
    ap (option_and_then (λ (k : ℕ). get_or deadlines k None)) indices
    ∙ ap (λ (ends : List (Option ℕ)). option_and_then (λ (k : ℕ). get_or ends k None) (position (named name) streams)) planned.ends
    ∙ by (position (named name) streams) refl
  where
    -- the first request with the name has the index of the first such stream
    indices : index_named requests name ≡ position (named name) streams
    indices =
        sym (position-map (λ (asked : Asked). is_text asked.name name) asked_paced requests)
        ∙ ap (position (λ (asked : Asked). is_text asked.name name)) planned.asked
        ∙ position-map (λ (asked : Asked). is_text asked.name name) (λ (p : PlannedText). asked_by p.0) streams

    -- whether there is one
    by : (index : Option ℕ) → position (named name) streams ≡ index →
        option_and_then (λ (k : ℕ). get_or (deadlines_in streams) k None) index ≡ deadline_named streams name
    by None is = ap (option_and_then (λ (planned : PlannedText). planned.1)) (found_nowhere (named name) streams is)
    by (Some k) is = due_at streams k (find (named name) streams) (found_there (named name) streams k is)

-- each verdict is what the definitions say
pub edge_verdicts_decide : OffersAreJudged → (cycles : ℕ) (s : Scenario) (book : Contents) (rows : List Row) (edge_verdicts : List EdgeVerdict) →
    IsBookOfScenario cycles s book → AreJudged s.domain (history_of cycles s) rows s.offers (length s.offers) edge_verdicts → StandInOrder s.offers →
    AreDecided (run_of_scenario cycles s) (verdict_at s.domain rows edge_verdicts)
edge_verdicts_decide law cycles s book rows edge_verdicts is_book judged ordered x inside within =
    let many : length (tables_of s.domain (history_of cycles s) cycles) ≡ cycles = length-singles (table_at s.domain (history_of cycles s)) cycles in
    let early : offer_cycle s.domain x < cycles = omega (arith, within, many) in
    let sealed : cycles ≤ seals (history_of cycles s) = is_book.is_book.sealed in
    subst (IsDecided (run_of_scenario cycles s) x)
    (sym (at_index s.domain (history_of cycles s) rows s.offers edge_verdicts judged cycles sealed x inside early))
    (law s.domain (history_of cycles s) s.offers s.background cycles x sealed ordered inside early)

-- the deliveries by the verdicts are those by the book
pub AreDeliveries-made : OffersAreJudged → (cycles : ℕ) (s : Scenario) (streams : List PlannedText) (book : Contents) (rows : List Row)
    (edge_verdicts : List EdgeVerdict) (due : List ℕ → Option ℕ) (deliveries : List Delivery) → IsBookOfScenario cycles s book →
    AreJudged s.domain (history_of cycles s) rows s.offers (length s.offers) edge_verdicts → StandInOrder s.offers →
    ((name : List ℕ) → due name ≡ deadline_named streams name) →
    deliveries ≡ deliveries_of_all s.domain cycles (known_by due (whole_on s.domain book.starts)) (verdict_at s.domain rows edge_verdicts) (numbered s.offers) →
    AreDeliveries cycles s streams deliveries
AreDeliveries-made law cycles s streams book rows edge_verdicts due deliveries is_book judged ordered same_due are = record {
  book = book;
  is_book = is_book;
  are = are
      ∙ ap (λ (n : ℕ). deliveries_of_all s.domain n (known_by due (whole_on s.domain book.starts)) (verdict_at s.domain rows edge_verdicts) (numbered s.offers))
      (sym many)
      ∙ deliveries_judged (run_of_scenario cycles s) streams book is_book.promise.says due same_due (verdict_at s.domain rows edge_verdicts)
      (edge_verdicts_decide law cycles s book rows edge_verdicts is_book judged ordered);
}
  where
    -- there is a table for each cycle
    many : length (tables_of s.domain (history_of cycles s) cycles) ≡ cycles
    many = length-singles (table_at s.domain (history_of cycles s)) cycles

-- and so if the same things were given under other names
pub AreDeliveries-run : OffersAreJudged → (cycles : ℕ) (s : Scenario) (streams : List PlannedText) (book : Contents) (d : Domain) (entries : List Recorded)
    (offers : List Offer) (starts : List Started) (rows : List Row) (edge_verdicts : List EdgeVerdict) (due : List ℕ → Option ℕ) (deliveries : List Delivery) →
    IsBookOfScenario cycles s book → d ≡ s.domain → entries ≡ history_of cycles s → offers ≡ s.offers → starts ≡ book.starts →
    AreJudged d entries rows offers (length offers) edge_verdicts → StandInOrder s.offers → ((name : List ℕ) → due name ≡ deadline_named streams name) →
    deliveries ≡ deliveries_of_all d cycles (known_by due (whole_on d starts)) (verdict_at d rows edge_verdicts) (numbered offers) →
    AreDeliveries cycles s streams deliveries
AreDeliveries-run law cycles s streams book d entries offers starts rows edge_verdicts due deliveries is_book domain history same started judged
    ordered same_due are =
    AreDeliveries-made law cycles s streams book rows edge_verdicts due deliveries is_book
    (subst (λ (os : List Offer). AreJudged s.domain (history_of cycles s) rows os (length os) edge_verdicts) same
    (subst (λ (es : List Recorded). AreJudged s.domain es rows offers (length offers) edge_verdicts) history
    (subst (λ (x : Domain). AreJudged x entries rows offers (length offers) edge_verdicts) domain judged)))
    ordered same_due
    (are
    ∙ ap (λ (x : Domain). deliveries_of_all x cycles (known_by due (whole_on x starts)) (verdict_at x rows edge_verdicts) (numbered offers)) domain
    ∙ ap (λ (os : List Offer). deliveries_of_all s.domain cycles (known_by due (whole_on s.domain starts)) (verdict_at s.domain rows edge_verdicts) (numbered os))
    same
    ∙ ap (λ (ss : List Started). deliveries_of_all s.domain cycles (known_by due (whole_on s.domain ss)) (verdict_at s.domain rows edge_verdicts)
    (numbered s.offers)) started)
