use Rattle.std.proofs.Common.{◌≡◌, ◌++◌, List, ℕ, codes, map, subst, sym}
use Rattle.cqf_model.specs.History.{Asked}
use Rattle.cqf_admission.specs.Asking.{asked_paced}
use Rattle.cqf_admission.specs.Ledger.{recorded_in}
use Rattle.cqf_admission.specs.Running.{AreThere}
use Rattle.cqf_output.specs.Stops.{line_of}
use Rattle.cqf_output.proofs.WriterLemmas.{Puts-as, Puts-then}
use Rattle.cqf_report.specs.Books.{text_of_book}
use Rattle.cqf_report.specs.HistoryText.{history_text}
use Rattle.cqf_program_scenario.specs.Logged.{entries_in}
use Rattle.cqf_program_runs.proofs.run.outputs.put_run.Goals as goal

pub put_log-requires : goal.put_log-requires
put_log-requires g c =
    let given = c.args.given.now in
    let entries = c.args.entries.now in
    let requests : map asked_paced given.requests.items ≡ map asked_paced c.as_slice-requests.result.now =
    λ i. map asked_paced (sym c.as_slice-requests.ensures.value i) in
    subst (λ (asked : List Asked). AreThere asked c.as_slice-script.result.now entries) requests
    (subst (λ (text : List ℕ). AreThere (map asked_paced given.requests.items) text entries) (sym c.as_slice-script.ensures.value) c.requires)

pub returns : goal.returns
returns g c book parts =
    let given = c.args.given.now in
    let entries = c.args.entries.now in
    let history : List ℕ = history_text (entries_in given entries) in
    let of_book : List ℕ = text_of_book given.domain book in
    let same : history_text (map (recorded_in (map asked_paced c.as_slice-requests.result.now) c.as_slice-script.result.now) entries) ≡ history =
    λ i. history_text (map (recorded_in (map asked_paced (c.as_slice-requests.ensures.value i)) (c.as_slice-script.ensures.value i)) entries) in
    Puts-then history (line_of (codes "%%") ++ of_book) (Puts-as _ history same c.put_log.ensures)
    (Puts-then (line_of (codes "%%")) of_book c.put_parting.ensures (c.put.ensures book parts))
