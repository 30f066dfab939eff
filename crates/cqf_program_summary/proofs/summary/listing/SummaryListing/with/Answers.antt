use Rattle.std.proofs.Common.{◌≡◌, ◌∙◌, ℕ, true, false, List, Option, ap, arith, refl, subst, subst₂, sym}
use Rattle.std.specs.List.{list_any}
use Rattle.std.proofs.lemmas.Bool.{both_ways, false_from_ne_true}
use Rattle.cqf_model.specs.declared.topology.Row.{Row}
use Rattle.cqf_model.specs.Domain.{is_text}
use Rattle.cqf_model.specs.History.{Asked}
use Rattle.cqf_units.specs.Name.{is_name}
use Rattle.cqf_admission.specs.Asking.{asked_paced}
use Rattle.cqf_program_summary.specs.Summary.Listing.{ListsOne, MayBeSummed}
use Rattle.cqf_program_summary.specs.Summary.Written.{written_streams}
use Rattle.cqf_program_summary.proofs.Listed.{bounded_listing, known_by_name, listing_more, listing_stays, written_known, written_unnamed}
use Rattle.cqf_program_summary.proofs.summary.listing.SummaryListing.with.Goals as goal

pub push-requires-clause-bounded : goal.push-requires-clause-bounded
push-requires-clause-bounded c = bounded_listing c.args.domain.now c.requires.0 c.args.self c.requires.1

pub returns-in_default : goal.returns-in_default
returns-in_default c = λ before is.
    let asked = asked_paced c.args.request.now in
    let unnamed : is_name asked.name ≡ false =
    false_from_ne_true (is_name asked.name) (λ t. both_ways false refl (c.in_default.ensures.form.1 (ap is_name c.as_bytes.ensures.value ∙ t))) in
    listing_stays c.args.domain.now before asked c.args.self (written_unnamed before asked unnamed) is

pub returns-then-contains : goal.returns-then-contains
returns-then-contains c = λ before is.
    let asked = asked_paced c.args.request.now in
    let named = ap is_name (sym c.as_bytes.ensures.value) ∙ c.in-Some.ensures.form.0 refl in
    let name_is = c.in-Some.ensures.value ∙ c.as_bytes.ensures.value in
    let known =
    ap (λ (n : List ℕ). list_any (λ (a : Asked). is_text a.name n) (written_streams before)) (sym name_is)
    ∙ sym (known_by_name c.args.domain.now before c.args.self is c.in-Some.name) ∙ sym c.contains.ensures ∙ c.if-contains.true in
    listing_stays c.args.domain.now before asked c.args.self (written_known before asked named known) is

pub returns : goal.returns
returns c = λ before is.
    let asked = asked_paced c.args.request.now in
    let named = ap is_name (sym c.as_bytes.ensures.value) ∙ c.in-Some.ensures.form.0 refl in
    let name_is = c.in-Some.ensures.value ∙ c.as_bytes.ensures.value in
    let new =
    ap (λ (n : List ℕ). list_any (λ (a : Asked). is_text a.name n) (written_streams before)) (sym name_is)
    ∙ sym (known_by_name c.args.domain.now before c.args.self is c.in-Some.name) ∙ sym c.contains.ensures ∙ c.if-contains.false in
    listing_more c.args.domain.now before asked c.args.self c.in_ok-after.after is named new (omega (arith, c.len.ensures, c.if-len-ge-MOST_LISTED.false))
    (subst MayBeSummed c.in_ok-row.ensures.row c.in_ok-row.ensures.summable)
    (subst₂ (λ (n : List ℕ) (r : Option Row). ListsOne c.args.self n r c.in_ok-after.after) name_is c.in_ok-row.ensures.row c.in_ok-after.ensures)
