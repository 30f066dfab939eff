use Rattle.std.proofs.Common.{ap, sym, subst, ◌∙◌}
use Rattle.cqf_model.specs.History.{Act, Withdraws, is_seal}
use Rattle.cqf_admission.specs.Admission.{Answers, act_of, recorded_of}
use Rattle.cqf_desk.proofs.Nowhere.{comes_answered, comes_closed}
use Rattle.cqf_desk.proofs.again.make.Goals as goal

pub returns-in-Admit : goal.returns-in-Admit
returns-in-Admit c =
    comes_answered c.state_follows_history.ensures.counted c.args.admission.now c.admit.new.self (recorded_of c.args.entry.now) c.admit.result c.answered.result
    (subst (λ (act : Act). Answers c.args.admission.now c.admit.new.self c.args.entry.now.seat act c.admit.result) (sym (ap act_of c.in-Admit.is))
    c.admit.ensures.answers) (ap is_seal (ap act_of c.in-Admit.is)) c.answered.ensures

pub returns-in-AdmitPaced : goal.returns-in-AdmitPaced
returns-in-AdmitPaced c =
    comes_answered c.state_follows_history.ensures.counted c.args.admission.now c.admit_shared.new.self (recorded_of c.args.entry.now) c.admit_shared.result
    c.answered-in-AdmitPaced.result
    (subst (λ (act : Act). Answers c.args.admission.now c.admit_shared.new.self c.args.entry.now.seat act c.admit_shared.result)
    (sym (ap act_of c.in-AdmitPaced.is)) c.admit_shared.ensures.answers) (ap is_seal (ap act_of c.in-AdmitPaced.is))
    c.answered-in-AdmitPaced.ensures

pub returns-in-Withdraw : goal.returns-in-Withdraw
returns-in-Withdraw c =
    comes_answered c.state_follows_history.ensures.counted c.args.admission.now c.withdraw.new.self (recorded_of c.args.entry.now) c.withdraw.result
    c.answered-in-Withdraw.result
    (subst (λ (act : Act). Answers c.args.admission.now c.withdraw.new.self c.args.entry.now.seat act c.withdraw.result)
    (ap Withdraws c.as_str.ensures.value ∙ sym (ap act_of c.in-Withdraw.is)) c.withdraw.ensures.answers) (ap is_seal (ap act_of c.in-Withdraw.is))
    c.answered-in-Withdraw.ensures

pub returns-in-Seal : goal.returns-in-Seal
returns-in-Seal c =
    comes_closed c.state_follows_history.ensures.counted c.args.admission.now c.seal.new.self (recorded_of c.args.entry.now) c.seal.result c.closed.result
    c.seal.ensures.closes c.seal.ensures.lets_go (ap act_of c.in-Seal.is) c.closed.ensures
