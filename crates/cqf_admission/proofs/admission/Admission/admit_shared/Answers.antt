-- A request is judged by itself, and is what the call requests.
use Rattle.std.proofs.Common.{◌∙◌, ap, arith, subst}
use Rattle.std.specs.Arc.{arc_value}
use Rattle.cqf_model.specs.History.{Act, Admits}
use Rattle.cqf_topology.specs.declared.paced.PacedRequest.{PacedRequest}
use Rattle.cqf_admission.specs.declared.entries.Call.TheVariants.{AdmitPaced}
use Rattle.cqf_admission.specs.Admission.{Administration, Answers}
use Rattle.cqf_admission.specs.Asking.{asked_paced}
use Rattle.cqf_admission.specs.Calling.{IsJudgedCall}
use Rattle.cqf_admission.specs.Judging.{Judges}
use Rattle.cqf_admission.proofs.Entered.{room_left}
use Rattle.cqf_admission.proofs.admission.Admission.admit_shared.Goals as goal

pub admit_judged-requires-clause-room : goal.admit_judged-requires-clause-room
admit_judged-requires-clause-room c =
    room_left c.is_full.result c.len.result c.self.inside.history.items c.self.inside.domain c.self.inside.state c.args.self.now c.if-is_full.false
    c.is_full.ensures (omega (arith, c.len.ensures)) c.self.invariant.0 c.self.view_is

pub admit_judged-requires-clause-judged : goal.admit_judged-requires-clause-judged
admit_judged-requires-clause-judged c =
    let judges : Judges c.self.inside.domain (asked_paced (arc_value c.args.request.now)) c.judge-judged.result = subst
    (λ (request : PacedRequest). Judges c.self.inside.domain (asked_paced request) c.judge-judged.result) c.deref-2.ensures
    c.judge-judged.ensures in
    subst (λ (a : Administration). IsJudgedCall a.domain (AdmitPaced c.in_ok-asked.asked) c.request-wanted.result.now.octets c.judge-judged.result)
    c.self.view_is (
    record {
      asked = asked_paced (arc_value c.args.request.now);
      act = ap (λ request. Admits (asked_paced request)) c.in_ok-asked.ensures;
      octets_asked = ap (λ (request : PacedRequest). request.octets) (c.request-wanted.ensures ∙ c.deref.ensures);
      judges = judges;
    }
    )

pub returns-clause-answers : goal.returns-clause-answers
returns-clause-answers c =
    subst (λ (act : Act). Answers c.args.self.now c.admit_judged.new.self c.args.seat act c.admit_judged.result)
    (ap (λ request. Admits (asked_paced request)) c.in_ok-asked.ensures) c.admit_judged.ensures.answers

pub returns-clause-held : goal.returns-clause-held
returns-clause-held c =
    c.admit_judged.ensures.held (asked_paced (arc_value c.args.request.now)) (ap (λ request. Admits (asked_paced request)) c.in_ok-asked.ensures)
