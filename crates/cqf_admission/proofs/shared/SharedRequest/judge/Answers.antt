-- What was found is the judgement of the request by itself.
use Rattle.std.proofs.Common.{ap, arith, subst}
use Rattle.cqf_model.specs.declared.topology.Row.{Row}
use Rattle.cqf_admission.specs.Asking.{asked_paced}
use Rattle.cqf_admission.specs.Forms.{IsFormOf, IsRowOfGoodForm}
use Rattle.cqf_admission.proofs.Entered.{judged_by_row}
use Rattle.cqf_admission.proofs.shared.SharedRequest.judge.Goals as goal

pub of_row-requires-clause-octets : goal.of_row-requires-clause-octets
of_row-requires-clause-octets c =
    let d = c.args.domain.now in
    let asked = asked_paced c.args.self.now in
    let good : IsRowOfGoodForm d asked c.in-Good.row = subst (IsFormOf d asked) c.in-Good.is c.in-Some.ensures in
    let same = ap (λ (row : Row). row.octets) good.is in
    omega (arith, good.most_octets, same)

pub of_row-requires-clause-overhead : goal.of_row-requires-clause-overhead
of_row-requires-clause-overhead c =
    let d = c.args.domain.now in
    let good : IsRowOfGoodForm d (asked_paced c.args.self.now) c.in-Good.row = subst (IsFormOf d (asked_paced c.args.self.now)) c.in-Good.is c.in-Some.ensures in
    omega (arith, ap (λ (row : Row). row.overhead) good.is, c.know.ensures.accepted.overhead_short)

pub returns-in-Good : goal.returns-in-Good
returns-in-Good c =
    let d = c.args.domain.now in
    let asked = asked_paced c.args.self.now in
    judged_by_row d asked c.in-Good.row c.of_row.result (subst (IsFormOf d asked) c.in-Good.is c.in-Some.ensures) c.of_row.ensures

pub returns-in-Bad : goal.returns-in-Bad
returns-in-Bad c = subst (IsFormOf c.args.domain.now (asked_paced c.args.self.now)) c.in-Bad.is c.in-Some.ensures
