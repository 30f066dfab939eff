use Rattle.std.proofs.Common.{◌∙◌, Bool, None, Some, ap, refl, sym}
use Rattle.std.specs.Prelude.{option_copied}
use Rattle.cqf_model.specs.Policing.{is_queued_of}
use Rattle.cqf_bridge.specs.declared.policing.FrameVerdict.TheVariants.{ExceedsGate, GoesOn, LacksRow}
use Rattle.cqf_bridge.specs.Taking.{PassesGate, class_in, passes_by, received_as, verdict_if}
use Rattle.cqf_bridge.proofs.PolicedVerdicts.{class_given, none_given, polices_none, polices_row, verdict_inside, verdict_lacking, verdict_not_leading}
use Rattle.cqf_bridge.proofs.policing.police_inside.Goals as goal

pub returns-in_default-clause-polices : goal.returns-in_default-clause-polices
returns-in_default-clause-polices c =
    let v = verdict_lacking c.args.phase.domain.now c.args.phase.table.now.rows c.args.phase.number c.args.phase.cycle.0 c.args.gates.now
    (received_as c.args.frame.now)
    c.args.link c.args.stream c.requires.ingress (ap option_copied (sym c.in_default.is) ∙ c.row_of.ensures.found) in
    polices_none c.args.phase.domain.now c.args.phase.table.now.rows c.args.phase.number c.args.phase.cycle.0 (received_as c.args.frame.now)
    c.args.gates.now _ LacksRow (sym v) tt
    (λ number. refl) refl

pub returns-then-not-leads_on-clause-polices : goal.returns-then-not-leads_on-clause-polices
returns-then-not-leads_on-clause-polices c =
    let v = verdict_not_leading c.args.phase.domain.now c.args.phase.table.now.rows c.args.phase.number c.args.phase.cycle.0 c.args.gates.now
    (received_as c.args.frame.now)
    c.args.link c.args.stream c.in-Some.row.now c.requires.ingress (ap option_copied (sym c.in-Some.is) ∙ c.row_of.ensures.found)
    (sym c.leads_on.ensures ∙ c.if-not-leads_on.true) in
    polices_none c.args.phase.domain.now c.args.phase.table.now.rows c.args.phase.number c.args.phase.cycle.0 (received_as c.args.frame.now)
    c.args.gates.now _ LacksRow (sym v) tt
    (λ number. refl) refl

pub returns-in-Some-2-clause-polices : goal.returns-in-Some-2-clause-polices
returns-in-Some-2-clause-polices c =
    let d = c.args.phase.domain.now in
    let rows = c.args.phase.table.now.rows in
    let x = received_as c.args.frame.now in
    let row = c.in-Some.row.now in
    let found = ap option_copied (sym c.in-Some.is) ∙ c.row_of.ensures.found in
    let p : PassesGate d c.args.phase.cycle.0 x row c.args.gates.now c.pass_gate.new.gates (Some c.in-Some-2.class) =
    rw c.in-Some-2.is at c.in_ok-class.ensures.passes in
    let w = class_given (passes_by d c.args.gates.now x row) c.in-Some-2.class (class_in d x row) p.decided in
    let v = verdict_inside d rows c.args.phase.number c.args.phase.cycle.0 c.args.gates.now x c.args.link c.args.stream row c.requires.ingress found
    (sym c.leads_on.ensures ∙ c.if-not-leads_on.false) ∙ ap (λ (b : Bool). verdict_if b row) w.0 in
    polices_row d rows c.args.phase.number c.args.phase.cycle.0 x c.args.gates.now _ row (Some c.in-Some-2.class) p (GoesOn c.in-Some.row c.in-Some-2.class) (sym v) w.1
    (λ number. ap (λ (b : Bool). is_queued_of number (verdict_if b row)) w.0)

pub returns-in-None-clause-polices : goal.returns-in-None-clause-polices
returns-in-None-clause-polices c =
    let d = c.args.phase.domain.now in
    let rows = c.args.phase.table.now.rows in
    let x = received_as c.args.frame.now in
    let row = c.in-Some.row.now in
    let found = ap option_copied (sym c.in-Some.is) ∙ c.row_of.ensures.found in
    let p : PassesGate d c.args.phase.cycle.0 x row c.args.gates.now c.pass_gate.new.gates None = rw c.in-None.is at c.in_ok-class.ensures.passes in
    let over = none_given (passes_by d c.args.gates.now x row) (class_in d x row) p.decided in
    let v = verdict_inside d rows c.args.phase.number c.args.phase.cycle.0 c.args.gates.now x c.args.link c.args.stream row c.requires.ingress found
    (sym c.leads_on.ensures ∙ c.if-not-leads_on.false) ∙ ap (λ (b : Bool). verdict_if b row) over in
    polices_row d rows c.args.phase.number c.args.phase.cycle.0 x c.args.gates.now _ row None p ExceedsGate (sym v) tt
    (λ number. ap (λ (b : Bool). is_queued_of number (verdict_if b row)) over)
