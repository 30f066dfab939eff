use Rattle.std.proofs.Common.{◌∙◌, Ok, refl, subst, sym}
use Rattle.std.proofs.lemmas.Result.{IfErr-weaker, IfOk-weaker}
use Rattle.cqf_program_runs.specs.Check.Checked.{counts_of}
use Rattle.cqf_program_runs.specs.Check.Counting.{checked_over}
use Rattle.cqf_program_runs.specs.Deliveries.Ending.{Over, deliveries_over, over_by, over_of}
use Rattle.cqf_program_runs.specs.Deliveries.Following.{IsFollowed}
use Rattle.cqf_program_runs.proofs.Written.{IsCheckedGiven-made, IsRefused-same, IsRefusedGiven-made}
use Rattle.cqf_program_runs.proofs.deliveries.command.check_noted.Goals as goal

pub check_each-requires : goal.check_each-requires
check_each-requires c =
    let noted = c.requires.noted in
    record {
      whole = noted.whole;
      is = subst (λ (over : Over). IsFollowed over 0 c.args.under_way) (sym (c.over.ensures noted.whole)) noted.followed;
    }

pub returns-in-Ok-clause-ok : goal.returns-in-Ok-clause-ok
returns-in-Ok-clause-ok c =
    let noted = c.requires.noted in
    let over = over_by c.args.planned.now c.args.cycles c.args.noted.now noted.whole in
    let same = c.over.ensures noted.whole in
    let followed = subst (λ (x : Over). IsFollowed x 0 c.args.under_way) (sym same) noted.followed in
    let ds = deliveries_over over in
    IfOk-weaker c.check_each.result _ _
    (λ line reported. IsCheckedGiven-made c.args.cycles c.args.planned.now ds (counts_of c.args.offers ds)
    c.requires.granted noted.are c.args.offers c.requires.counted refl (Ok line.items)
    ((λ i. checked_over (sym same i) c.args.offers) ∙ reported noted.whole followed))
    c.check_each.ensures.ok

pub returns-in-Ok-clause-err : goal.returns-in-Ok-clause-err
returns-in-Ok-clause-err c =
    let noted = c.requires.noted in
    let over = over_by c.args.planned.now c.args.cycles c.args.noted.now noted.whole in
    let same = c.over.ensures noted.whole in
    let followed = subst (λ (x : Over). IsFollowed x 0 c.args.under_way) (sym same) noted.followed in
    let ds = deliveries_over over in
    IfErr-weaker c.check_each.result _ _
    (λ stop refused. IsRefusedGiven-made c.args.cycles c.args.planned.now ds (counts_of c.args.offers ds)
    c.requires.granted noted.are c.args.offers c.requires.counted refl stop
    (IsRefused-same (checked_over over c.args.offers) (checked_over (over_of c.over.result noted.whole) c.args.offers) stop
    (λ i. checked_over (sym same i) c.args.offers) (refused noted.whole followed)))
    c.check_each.ensures.err
