use Rattle.std.proofs.Common.{◌∙◌, Bool, None, Some, ap, not, refl, sym}
use Rattle.std.specs.Prelude.{if◌then◌else◌, option_copied}
use Rattle.cqf_model.specs.declared.frames.Reason.TheVariants.{Octets, Unknown}
use Rattle.cqf_model.specs.Policing.{DroppedFor, Queued, is_queued_of}
use Rattle.cqf_bridge.specs.declared.policing.FrameVerdict.TheVariants.{Dropped, GoesOn}
use Rattle.cqf_bridge.specs.Taking.{PassesGate, class_in, passes_by, received_as, verdict_if, verdict_unless}
use Rattle.cqf_bridge.proofs.PolicedVerdicts.{class_given, none_given, polices_none, polices_row, verdict_at_edge}
use Rattle.cqf_bridge.proofs.policing.police_offer.Goals as goal

pub returns-in_default-clause-polices : goal.returns-in_default-clause-polices
returns-in_default-clause-polices c =
    let v = verdict_at_edge c.args.phase.domain.now c.args.phase.table.now.rows c.args.phase.number c.args.phase.cycle.0 c.args.gates.now
    (received_as c.args.frame.now)
    c.args.name.now None c.requires.ingress (ap option_copied (sym c.in_default.is) ∙ c.row_named.ensures.found) in
    polices_none c.args.phase.domain.now c.args.phase.table.now.rows c.args.phase.number c.args.phase.cycle.0 (received_as c.args.frame.now)
    c.args.gates.now _ (Dropped Unknown)
    (sym v) tt (λ number. refl) refl

pub returns-in-Some-refused-clause-polices : goal.returns-in-Some-refused-clause-polices
returns-in-Some-refused-clause-polices c =
    let d = c.args.phase.domain.now in
    let x = received_as c.args.frame.now in
    let row = c.in-Some.row.now in
    let passes = passes_by d c.args.gates.now x in
    let v = verdict_at_edge d c.args.phase.table.now.rows c.args.phase.number c.args.phase.cycle.0 c.args.gates.now x c.args.name.now (Some row) c.requires.ingress
    (ap option_copied (sym c.in-Some.is) ∙ c.row_named.ensures.found)
    ∙ c.refused.ensures passes ∙ ap (λ o. verdict_unless o (passes row) row) c.in-Some-refused.is in
    polices_none d c.args.phase.table.now.rows c.args.phase.number c.args.phase.cycle.0 x c.args.gates.now _ (Dropped c.in-Some-refused.reason)
    (sym v) tt (λ number. refl) refl

pub returns-in-Some-2-clause-polices : goal.returns-in-Some-2-clause-polices
returns-in-Some-2-clause-polices c =
    let d = c.args.phase.domain.now in
    let rows = c.args.phase.table.now.rows in
    let x = received_as c.args.frame.now in
    let row = c.in-Some.row.now in
    let passes = passes_by d c.args.gates.now x in
    let found = ap option_copied (sym c.in-Some.is) ∙ c.row_named.ensures.found in
    let p : PassesGate d c.args.phase.cycle.0 x row c.args.gates.now c.pass_gate.new.gates (Some c.in-Some-2.class) =
    rw c.in-Some-2.is at c.in_ok-class.ensures.passes in
    let w = class_given (passes row) c.in-Some-2.class (class_in d x row) p.decided in
    let v = verdict_at_edge d rows c.args.phase.number c.args.phase.cycle.0 c.args.gates.now x c.args.name.now (Some row) c.requires.ingress found
    ∙ c.refused.ensures passes ∙ ap (λ o. verdict_unless o (passes row) row) c.in_default-refused.is
    ∙ ap (λ (b : Bool). if not b then DroppedFor Octets else Queued row) w.0 in
    polices_row d rows c.args.phase.number c.args.phase.cycle.0 x c.args.gates.now _ row (Some c.in-Some-2.class) p (GoesOn c.in-Some.row c.in-Some-2.class) (sym v) w.1
    (λ number. ap (λ (b : Bool). is_queued_of number (verdict_if b row)) w.0)

pub returns-in-None-clause-polices : goal.returns-in-None-clause-polices
returns-in-None-clause-polices c =
    let d = c.args.phase.domain.now in
    let rows = c.args.phase.table.now.rows in
    let x = received_as c.args.frame.now in
    let row = c.in-Some.row.now in
    let passes = passes_by d c.args.gates.now x in
    let found = ap option_copied (sym c.in-Some.is) ∙ c.row_named.ensures.found in
    let p : PassesGate d c.args.phase.cycle.0 x row c.args.gates.now c.pass_gate.new.gates None = rw c.in-None.is at c.in_ok-class.ensures.passes in
    let over = none_given (passes row) (class_in d x row) p.decided in
    let v = verdict_at_edge d rows c.args.phase.number c.args.phase.cycle.0 c.args.gates.now x c.args.name.now (Some row) c.requires.ingress found
    ∙ c.refused.ensures passes ∙ ap (λ o. verdict_unless o (passes row) row) c.in_default-refused.is
    ∙ ap (λ (b : Bool). if not b then DroppedFor Octets else Queued row) over in
    polices_row d rows c.args.phase.number c.args.phase.cycle.0 x c.args.gates.now _ row None p (Dropped Octets) (sym v) tt
    (λ number. ap (λ (b : Bool). is_queued_of number (verdict_if b row)) over)
