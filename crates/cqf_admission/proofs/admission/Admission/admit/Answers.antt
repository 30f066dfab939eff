-- A request is judged by itself, and is what the call requests.
use Rattle.std.proofs.Common.{ap, arith, refl, subst}
use Rattle.cqf_model.specs.History.{Act, Admits}
use Rattle.cqf_admission.specs.declared.entries.Call.TheVariants.{Admit}
use Rattle.cqf_admission.specs.Admission.{Administration, Answers}
use Rattle.cqf_admission.specs.Asking.{asked_by, asked_of}
use Rattle.cqf_admission.specs.Calling.{IsJudgedCall}
use Rattle.cqf_topology.specs.PacedText.{in_each_cycle}
use Rattle.cqf_admission.proofs.Entered.{room_left}
use Rattle.cqf_admission.proofs.admission.Admission.admit.Goals as goal

pub admit_judged-requires-clause-room : goal.admit_judged-requires-clause-room
admit_judged-requires-clause-room c =
    room_left c.is_full.result c.len.result c.self.inside.history.items c.self.inside.domain c.self.inside.state c.args.self.now c.if-is_full.false
    c.is_full.ensures (omega (arith, c.len.ensures)) c.self.invariant.0 c.self.view_is

pub admit_judged-requires-clause-judged : goal.admit_judged-requires-clause-judged
admit_judged-requires-clause-judged c =
    subst (λ (a : Administration). IsJudgedCall a.domain (Admit c.in_ok-asked.asked) c.args.request.now.octets c.judge-judged.result) c.self.view_is (
    record {
      asked = asked_of c.args.request.now;
      act = ap (λ text. Admits (asked_by (in_each_cycle text))) c.in_ok-asked.ensures;
      octets_asked = refl;
      judges = c.judge-judged.ensures;
    }
    )

pub returns-clause-answers : goal.returns-clause-answers
returns-clause-answers c =
    subst (λ (act : Act). Answers c.args.self.now c.admit_judged.new.self c.args.seat act c.admit_judged.result)
    (ap (λ text. Admits (asked_by (in_each_cycle text))) c.in_ok-asked.ensures) c.admit_judged.ensures.answers

pub returns-clause-held : goal.returns-clause-held
returns-clause-held c =
    c.admit_judged.ensures.held (asked_of c.args.request.now) (ap (λ text. Admits (asked_by (in_each_cycle text))) c.in_ok-asked.ensures)
