use Rattle.std.proofs.Common.{◌≡◌, ◌∙◌, ℕ, None, Some, ap, map, sym}
use Rattle.std.proofs.lemmas.List.Elements.{All-contains}
use Rattle.cqf_admission.specs.Asking.{asked_paced}
use Rattle.cqf_admission.specs.declared.logs.Logged.{Logged}
use Rattle.cqf_admission.specs.Orders.{StandsIn}
use Rattle.cqf_program_scenario.specs.Closing.{scenario_given}
use Rattle.cqf_program_scenario.proofs.BookOf.{scenario_has_book}
use Rattle.cqf_program_runs.specs.Check.RefusedInLog.{refused_from}
use Rattle.cqf_program_runs.proofs.RefusedInLogs.{found_refused}
use Rattle.cqf_program_runs.proofs.Written.{IsRefusedGiven-call, refused_is}
use Rattle.cqf_program_runs.proofs.deliveries.command.check_outcome.Goals as goal

pub refused_stop-requires-clause-there : goal.refused_stop-requires-clause-there
refused_stop-requires-clause-there c =
    let given = c.args.planned.now.given in
    let log = c.args.outcome.entries.items in
    let call : ℕ × Logged = (c.in-Some.number, c.in-Some.logged) in
    let first : refused_from 1 log ≡ Some call = ap (refused_from 1) (sym c.as_slice.ensures.value) ∙ sym c.first_refused.ensures ∙ c.in-Some.is in
    All-contains (λ (logged : Logged). StandsIn (map asked_paced given.requests.items) given.script.items logged.what) log c.in-Some.logged
    c.requires.outcome.there (found_refused log call first).0

pub refused_stop-requires-clause-refused : goal.refused_stop-requires-clause-refused
refused_stop-requires-clause-refused c =
    (found_refused c.as_slice.result.now (c.in-Some.number, c.in-Some.logged) (sym c.first_refused.ensures ∙ c.in-Some.is)).1

pub returns-in-Some-clause-err : goal.returns-in-Some-clause-err
returns-in-Some-clause-err c =
    let history = c.requires.outcome.history in
    let book = scenario_has_book c.book_of_history_is_there.ensures c.args.cycles (scenario_given c.args.planned.now.given) c.know.ensures.accepted
    c.requires.may history.legal history.sealed in
    IsRefusedGiven-call c.args.cycles c.args.planned.now c.args.outcome book.0 (c.in-Some.number, c.in-Some.logged)
    c.refused_stop.result c.requires.outcome book.1
    (ap (refused_from 1) (sym c.as_slice.ensures.value) ∙ sym c.first_refused.ensures ∙ c.in-Some.is) c.refused_stop.ensures

pub check_frames-requires-clause-granted : goal.check_frames-requires-clause-granted
check_frames-requires-clause-granted c =
    refused_is c.args.cycles c.args.planned.now.given c.args.outcome None c.requires.outcome
    (ap (refused_from 1) (sym c.as_slice.ensures.value) ∙ sym c.first_refused.ensures ∙ c.in-None.is)
