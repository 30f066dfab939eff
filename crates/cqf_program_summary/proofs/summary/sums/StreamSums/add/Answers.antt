use Rattle.std.proofs.Common.{◌≡◌, ◌∙◌, ◌+◌, ◌<◌, ℕ, List, Option, None, Some, ap, get_or, length, position, subst, sym}
use Rattle.std.specs.Prelude.{slice_get}
use Rattle.std.proofs.Math.Seq.{map-set_same}
use Rattle.std.proofs.lemmas.List.Elements.{All-get_or, All-set}
use Rattle.std.proofs.lemmas.Option.{slice_get-get_or}
use Rattle.std.proofs.lemmas.List.Quantifiers.{position-Some}
use Rattle.cqf_model.specs.Domain.{is_text}
use Rattle.cqf_program_summary.specs.declared.summary.fares.Others.{Others}
use Rattle.cqf_program_summary.specs.Summary.Counting.{FareWithin, SummaryWithin, fare_with_offer, summary_at, summary_with}
use Rattle.cqf_program_summary.specs.Summary.{Fare, Summary}
use Rattle.cqf_program_summary.proofs.Changed.{set_changes}
use Rattle.cqf_program_summary.proofs.Named.{named_index, offer_name}
use Rattle.cqf_program_summary.proofs.Within.{fares_later, others_later}
use Rattle.cqf_program_summary.proofs.summary.sums.StreamSums.add.Goals as goal

-- a name that is found is that of one of them
index_within : (name : List ℕ) (fares : List Fare) (index : ℕ) (old : Fare) → position (λ (f : Fare). is_text f.name name) fares ≡ Some index →
    index < length fares
index_within name fares index old found = (position-Some (λ (f : Fare). is_text f.name name) fares index old found).0

pub invariant_of-self : goal.invariant_of-self
invariant_of-self c =
    let items = c.self.inside.fares.items in
    let old = c.index_mut.result.now in
    c.self.invariant
    ∙ sym (map-set_same (λ (f : Fare). f.name) items c.in-Some.index c.add_offer.new.self old
    (ap (λ (f : Fare). f.name) c.add_offer.ensures.fare ∙ offer_name c.args.here.now old ∙ ap (λ (f : Fare). f.name) c.index_mut.ensures.value))

pub returns-in-Some-clause-sums : goal.returns-in-Some-clause-sums
returns-in-Some-clause-sums c =
    let name = c.args.name.now in
    let here = c.args.here.now in
    let items = c.self.inside.fares.items in
    let index = c.in-Some.index in
    let old = c.index_mut.result.now in
    let view : Summary = record { fares = items; others = c.self.inside.others } in
    let found : position (λ (f : Fare). is_text f.name name) items ≡ Some index =
    sym (named_index name c.self.inside.names.keys items c.self.invariant) ∙ sym c.number_of.ensures.number ∙ c.in-Some.is in
    let at : slice_get items index ≡ Some (get_or items index old) = slice_get-get_or items index old (index_within name items index old found) in
    let new : c.add_offer.new.self ≡ fare_with_offer here (get_or items index old) = c.add_offer.ensures.fare ∙ ap (fare_with_offer here) c.index_mut.ensures.value in
    ap {B = Summary} (λ (fs : List Fare). record { fares = fs; others = c.self.inside.others })
    (set_changes (fare_with_offer here) items index (get_or items index old) c.add_offer.new.self at new)
    ∙ ap (λ (o : Option ℕ). summary_at here o view) (sym found)
    ∙ ap (summary_with name here) c.self.view_is

pub returns-in-Some-clause-more : goal.returns-in-Some-clause-more
returns-in-Some-clause-more c = λ many is.
    let name = c.args.name.now in
    let items = c.self.inside.fares.items in
    let index = c.in-Some.index in
    let old = c.index_mut.result.now in
    let before : SummaryWithin many (record { fares = items; others = c.self.inside.others }) = subst (SummaryWithin many) (sym c.self.view_is) is in
    let found : position (λ (f : Fare). is_text f.name name) items ≡ Some index =
    sym (named_index name c.self.inside.names.keys items c.self.invariant) ∙ sym c.number_of.ensures.number ∙ c.in-Some.is in
    let was : FareWithin many old = subst (FareWithin many) (sym c.index_mut.ensures.value)
    (All-get_or (FareWithin many) items index old (index_within name items index old found) before.fares) in
    record {
      fares = All-set (FareWithin (many + 201)) items index c.add_offer.new.self (c.add_offer.ensures.more many was) (fares_later many 201 items before.fares);
      others = others_later many 201 c.self.inside.others before.others;
    }

pub returns-in-None-clause-sums : goal.returns-in-None-clause-sums
returns-in-None-clause-sums c =
    let name = c.args.name.now in
    let here = c.args.here.now in
    let items = c.self.inside.fares.items in
    let view : Summary = record { fares = items; others = c.self.inside.others } in
    let none : position (λ (f : Fare). is_text f.name name) items ≡ None =
    sym (named_index name c.self.inside.names.keys items c.self.invariant) ∙ sym c.number_of.ensures.number ∙ c.in-None.is in
    ap {B = Summary} (λ (o : Others). record { fares = items; others = o }) c.with-self-inside.ensures.others
    ∙ ap (λ (o : Option ℕ). summary_at here o view) (sym none)
    ∙ ap (summary_with name here) c.self.view_is
