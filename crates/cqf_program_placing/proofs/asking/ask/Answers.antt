use Rattle.std.proofs.Common.{◌∙◌, Some, ap}
use Rattle.cqf_admission.specs.Asking.{asked_paced}
use Rattle.cqf_model.specs.History.{held_in, seals}
use Rattle.cqf_program_placing.specs.Placing.{Unplaced}
use Rattle.cqf_program_placing.proofs.AskLemmas.{granted_answer, refusal_entered, refused_answer, refused_due, short_is_there}
use Rattle.cqf_program_placing.proofs.asking.ask.Goals as goal

-- a refusal for lack of room names a link of the domain
pub fault_of_refusal-requires : goal.fault_of_refusal-requires
fault_of_refusal-requires c = λ link left is.
    let d = c.args.domain.now in
    let old = c.args.admission.now in
    let asked = asked_paced c.args.request in
    let refused = c.in-Err.refused in
    let due = refused_due old c.admit_paced.new.self asked d c.requires.domain refused c.in-Err.ensures.answers
    (refusal_entered refused c.in_default.not-HistoryFull c.in_default.not-Memory) in
    short_is_there d (held_in d old.entries (seals old.entries)) asked link left (due ∙ ap Some is)

pub returns : goal.returns
returns c =
    let refused = c.in-Err.refused in
    let answer = refused_answer c.args.admission.now c.admit_paced.new.self (asked_paced c.args.request) c.args.domain.now c.requires.domain refused
    c.in-Err.ensures.answers (refusal_entered refused c.in_default.not-HistoryFull c.in_default.not-Memory) in
    record {
      domain = c.in-Err.ensures.answers.domain ∙ c.requires.domain;
      answered = ap Unplaced c.fault_of_refusal.ensures ∙ answer.0;
      entered = answer.1;
    }

-- it is placed if it is granted
pub returns-in-Ok-clause-answered : goal.returns-in-Ok-clause-answered
returns-in-Ok-clause-answered c =
    (granted_answer c.args.admission.now c.admit_paced.new.self (asked_paced c.args.request) c.args.domain.now c.requires.domain c.in-Ok.field-0
    c.in-Ok.ensures.answers).0
