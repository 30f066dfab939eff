use Rattle.std.proofs.Common.{◌≡◌, ◌≤◌, ◌∙◌, ℕ, Ok, IfErr, ap, subst, arith, length}
use Rattle.cqf_model.specs.Limits.{profile, rows_within}
use Rattle.cqf_model.specs.declared.limits.Limits.{Limits}
use Rattle.cqf_report.specs.Arrivals.{AreArrivals, arrival_header, arrival_instant, arrival_of}
use Rattle.cqf_report.specs.Table.{IsFaultOf, in_four, table_read}
use Rattle.cqf_report.specs.declared.tables.TableFault.{TableFault}
use Rattle.cqf_report.proofs.ArrivalLemmas.{arrivals-few, arrivals-good}
use Rattle.cqf_report.proofs.TableLemmas.{ok-of}
use Rattle.cqf_report.proofs.arrivals.read_arrivals.Goals as goal

pub returns-clause-good : goal.returns-clause-good
returns-clause-good c =
    let most : c.rows_within-most.result ≡ rows_within profile =
    c.rows_within-most.ensures ∙ ap (λ (limits : Limits). rows_within limits) c.of_profile.ensures in
    ok-of c.read_table.result _ (λ v. AreArrivals v.items) c.read_table.ensures.ok
    (λ v is. arrivals-good c.args.text.now v.items
    (subst (λ (n : ℕ). table_read n arrival_header (in_four arrival_of) arrival_instant c.args.text.now ≡ Ok v.items) most is))

pub returns-clause-few : goal.returns-clause-few
returns-clause-few c =
    let most : c.rows_within-most.result ≡ rows_within profile =
    c.rows_within-most.ensures ∙ ap (λ (limits : Limits). rows_within limits) c.of_profile.ensures in
    ok-of c.read_table.result _ (λ v. length v.items ≤ 16777215) c.read_table.ensures.ok
    (λ v is.
    let few : length v.items ≤ 1000000 = arrivals-few c.args.text.now v.items
    (subst (λ (n : ℕ). table_read n arrival_header (in_four arrival_of) arrival_instant c.args.text.now ≡ Ok v.items) most is) in
    omega (arith, few))

pub returns-clause-err : goal.returns-clause-err
returns-clause-err c =
    let most : c.rows_within-most.result ≡ rows_within profile =
    c.rows_within-most.ensures ∙ ap (λ (limits : Limits). rows_within limits) c.of_profile.ensures in
    subst (λ (n : ℕ). IfErr c.read_table.result (λ (fault : TableFault). IsFaultOf (table_read n arrival_header (in_four arrival_of) arrival_instant c.args.text.now) fault))
    most c.read_table.ensures.err
