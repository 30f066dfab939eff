use Rattle.std.proofs.Common.{◌≡◌, ◌≤◌, ◌∙◌, ℕ, Ok, IfErr, ap, subst, arith, length}
use Rattle.std.proofs.Math.Nat.{min-le_right}
use Rattle.cqf_model.specs.Limits.{rows_within}
use Rattle.cqf_model.specs.Run.{AreBackground}
use Rattle.cqf_model.specs.declared.limits.Limits.{Limits}
use Rattle.cqf_report.specs.BackgroundFrames.{background_header, background_instant, background_of_table}
use Rattle.cqf_report.specs.Table.{IsFaultOf, in_five, table_read}
use Rattle.cqf_report.specs.declared.tables.TableFault.{TableFault}
use Rattle.cqf_report.proofs.BackgroundLemmas.{frames-few, frames-good}
use Rattle.cqf_report.proofs.TableLemmas.{ok-of}
use Rattle.cqf_report.proofs.background.read_background.Goals as goal

pub returns-clause-good : goal.returns-clause-good
returns-clause-good c =
    let most : c.rows_within-most.result ≡ rows_within c.args.domain.now.limits =
    c.rows_within-most.ensures ∙ ap (λ (limits : Limits). rows_within limits) c.limits.ensures in
    ok-of c.read_table.result _ (λ v. AreBackground c.args.domain.now v.items) c.read_table.ensures.ok
    (λ v is. frames-good c.args.domain.now c.args.text.now v.items
    (subst (λ (n : ℕ). table_read n background_header (in_five (background_of_table c.args.domain.now)) background_instant c.args.text.now ≡ Ok v.items) most is))

pub returns-clause-few : goal.returns-clause-few
returns-clause-few c =
    let most : c.rows_within-most.result ≡ rows_within c.args.domain.now.limits =
    c.rows_within-most.ensures ∙ ap (λ (limits : Limits). rows_within limits) c.limits.ensures in
    ok-of c.read_table.result _ (λ v. length v.items ≤ 16777215) c.read_table.ensures.ok
    (λ v is.
    let few : length v.items ≤ rows_within c.args.domain.now.limits = frames-few c.args.domain.now c.args.text.now v.items
    (subst (λ (n : ℕ). table_read n background_header (in_five (background_of_table c.args.domain.now)) background_instant c.args.text.now ≡ Ok v.items) most is) in
    omega (arith, few, min-le_right c.args.domain.now.limits.rows 16777215))

pub returns-clause-err : goal.returns-clause-err
returns-clause-err c =
    let most : c.rows_within-most.result ≡ rows_within c.args.domain.now.limits =
    c.rows_within-most.ensures ∙ ap (λ (limits : Limits). rows_within limits) c.limits.ensures in
    subst (λ (n : ℕ). IfErr c.read_table.result (λ (fault : TableFault). IsFaultOf (table_read n background_header (in_five (background_of_table c.args.domain.now)) background_instant c.args.text.now) fault))
    most c.read_table.ensures.err
