use Rattle.std.proofs.Common.{◌≡◌, ◌∙◌, ℕ, List, Option, false, ap, inl, inr, refl, subst, sym}
use Rattle.std.specs.Prelude.{MatchOption, is_some}
use Rattle.std.proofs.lemmas.Bool.{both_ways, false_from_ne_true}
use Rattle.cqf_units.specs.Name.{is_name}
use Rattle.cqf_model.specs.declared.topology.Row.{Row}
use Rattle.cqf_admission.specs.Holdings.{IsFree, IsHolder}
use Rattle.cqf_admission.proofs.GrantLemmas.{none_from}
use Rattle.cqf_admission.proofs.state.find_open.Goals as goal

pub returns-in_default : goal.returns-in_default
returns-in_default c =
    let other : is_name c.args.word.now ≡ false =
    false_from_ne_true (is_name c.args.word.now) (λ t. both_ways false refl (c.in_default.ensures.form.1 (ap is_name c.as_bytes.ensures.value ∙ t))) in
    inl (refl, inl other)

pub returns-in_default-holder : goal.returns-in_default-holder
returns-in_default-holder c =
    let named : c.in-Some.name ≡ c.args.word.now = c.in-Some.ensures.value ∙ c.as_bytes.ensures.value in
    let rows = c.args.holdings.now.rows in
    let free : IsFree rows c.in-Some.name =
    subst (λ (o : Option ℕ). MatchOption o (IsFree rows c.in-Some.name) (IsHolder rows c.in-Some.name)) c.in_default-holder.is c.holder.ensures in
    inl (refl, inr (subst (IsFree rows) named free))

pub row-requires : goal.row-requires
row-requires c =
    let rows = c.args.holdings.now.rows in
    let holder : IsHolder rows c.in-Some.name c.in-Some-holder.number =
    subst (λ (o : Option ℕ). MatchOption o (IsFree rows c.in-Some.name) (IsHolder rows c.in-Some.name)) c.in-Some-holder.is c.holder.ensures in
    holder.is_held.inside

pub returns-then-is_some : goal.returns-then-is_some
returns-then-is_some c =
    let named : c.in-Some.name ≡ c.args.word.now = c.in-Some.ensures.value ∙ c.as_bytes.ensures.value in
    let rows = c.args.holdings.now.rows in
    let holder : IsHolder rows c.in-Some.name c.in-Some-holder.number =
    subst (λ (o : Option ℕ). MatchOption o (IsFree rows c.in-Some.name) (IsHolder rows c.in-Some.name)) c.in-Some-holder.is c.holder.ensures in
    inr (
      refl,
      c.in-Some-holder.number,
      (
        subst (λ (name : List ℕ). IsHolder rows name c.in-Some-holder.number) named holder,
        λ d. ap (λ (row : Row). is_some row.withdrawn) (c.row.ensures d) ∙ sym c.is_some.ensures ∙ c.if-is_some.true,
      ),
    )

pub returns : goal.returns
returns c =
    let named : c.in-Some.name ≡ c.args.word.now = c.in-Some.ensures.value ∙ c.as_bytes.ensures.value in
    let rows = c.args.holdings.now.rows in
    let holder : IsHolder rows c.in-Some.name c.in-Some-holder.number =
    subst (λ (o : Option ℕ). MatchOption o (IsFree rows c.in-Some.name) (IsHolder rows c.in-Some.name)) c.in-Some-holder.is c.holder.ensures in (
      subst (λ (name : List ℕ). IsHolder rows name c.in-Some-holder.number) named holder,
      λ d. ap (λ (r : Row). r.withdrawn) (c.row.ensures d) ∙ none_from c.row.result.now.withdrawn (sym c.is_some.ensures ∙ c.if-is_some.false),
    )
