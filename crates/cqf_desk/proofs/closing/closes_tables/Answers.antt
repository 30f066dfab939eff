use Rattle.std.proofs.Common.{◌≡◌, ◌++◌, ◌↔◌, length, map, subst, sym, true}
use Rattle.cqf_model.specs.History.{IsLegalHistory}
use Rattle.cqf_admission.specs.Admission.{Administration, recorded_of}
use Rattle.cqf_desk.specs.Closing.{tables_by}
use Rattle.cqf_desk.proofs.Borne.{decides}
use Rattle.cqf_desk.proofs.closing.closes_tables.Goals as goal

pub returns : goal.returns
returns c =
    let Closes : Administration → Type 0 = λ a. (c.in_ok-so.so ≡ true) ↔ (c.args.tables.now
    ≡ tables_by a.domain (a.entries ++ map recorded_of c.args.rest.now) (length a.entries) c.args.number) in
    let Legal : Administration → Type 0 = λ a. IsLegalHistory a.domain (a.entries ++ map recorded_of c.args.rest.now) in
    subst Closes c.in_ok-again.ensures (decides c.in_ok-so.so c.in_ok-so.ensures.closes
    (λ other. c.in_ok-so.ensures.differs other (subst Legal (sym c.in_ok-again.ensures) c.requires)))
