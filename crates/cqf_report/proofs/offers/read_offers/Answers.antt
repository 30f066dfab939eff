use Rattle.std.proofs.Common.{◌≡◌, ◌≤◌, ◌∙◌, ℕ, Ok, IfErr, ap, subst, arith, length}
use Rattle.std.proofs.Math.Nat.{min-le_right}
use Rattle.cqf_model.specs.Limits.{rows_within}
use Rattle.cqf_model.specs.Run.{AreOffers}
use Rattle.cqf_model.specs.declared.limits.Limits.{Limits}
use Rattle.cqf_report.specs.Offers.{offer_header, offer_instant, offer_of}
use Rattle.cqf_report.specs.Table.{IsFaultOf, in_four, table_read}
use Rattle.cqf_report.specs.declared.tables.TableFault.{TableFault}
use Rattle.cqf_report.proofs.OfferLemmas.{offers-few, offers-good}
use Rattle.cqf_report.proofs.TableLemmas.{ok-of}
use Rattle.cqf_report.proofs.offers.read_offers.Goals as goal

pub returns-clause-good : goal.returns-clause-good
returns-clause-good c =
    let most : c.rows_within-most.result ≡ rows_within c.args.domain.now.limits =
    c.rows_within-most.ensures ∙ ap (λ (limits : Limits). rows_within limits) c.limits.ensures in
    ok-of c.read_table.result _ (λ v. AreOffers c.args.domain.now v.items) c.read_table.ensures.ok
    (λ v is. offers-good c.args.domain.now c.args.text.now v.items
    (subst (λ (n : ℕ). table_read n offer_header (in_four (offer_of c.args.domain.now)) offer_instant c.args.text.now ≡ Ok v.items) most is))

pub returns-clause-few : goal.returns-clause-few
returns-clause-few c =
    let most : c.rows_within-most.result ≡ rows_within c.args.domain.now.limits =
    c.rows_within-most.ensures ∙ ap (λ (limits : Limits). rows_within limits) c.limits.ensures in
    ok-of c.read_table.result _ (λ v. length v.items ≤ 16777215) c.read_table.ensures.ok
    (λ v is.
    let few : length v.items ≤ rows_within c.args.domain.now.limits = offers-few c.args.domain.now c.args.text.now v.items
    (subst (λ (n : ℕ). table_read n offer_header (in_four (offer_of c.args.domain.now)) offer_instant c.args.text.now ≡ Ok v.items) most is) in
    omega (arith, few, min-le_right c.args.domain.now.limits.rows 16777215))

pub returns-clause-err : goal.returns-clause-err
returns-clause-err c =
    let most : c.rows_within-most.result ≡ rows_within c.args.domain.now.limits =
    c.rows_within-most.ensures ∙ ap (λ (limits : Limits). rows_within limits) c.limits.ensures in
    subst (λ (n : ℕ). IfErr c.read_table.result (λ (fault : TableFault). IsFaultOf (table_read n offer_header (in_four (offer_of c.args.domain.now)) offer_instant c.args.text.now) fault))
    most c.read_table.ensures.err
