-- Whether a name is held, given its holder, and the reasons against a stream one after the other.
use Rattle.std.proofs.Common.{◌≡◌, ℕ, ◌<◌, ◌≤◌, Bool, true, false, List, Option, Some, None, [], ◌∷◌, get_or, length, sym, ap, ◌∙◌, arith, inl, inr}
use Rattle.std.specs.Prelude.{MatchOption, ◌&&◌, is_some, nat_le}
use Rattle.std.proofs.lemmas.Bool.{and_from, and_parts, cases_Bool, le-leb, lt-leb}
use Rattle.std.proofs.lemmas.List.{get_or_default}
use Rattle.std.proofs.lemmas.List.Elements.{Contains-get_or}
use Rattle.cqf_lists.specs.Lists.{or_else}
use Rattle.cqf_lists.proofs.Members.{any_member, member_any}
use Rattle.cqf_model.specs.declared.history.Refused.TheVariants.{NameHeld, TooManyStreams}
use Rattle.cqf_model.specs.declared.topology.Hop.{Hop}
use Rattle.cqf_model.specs.declared.topology.Pace.{Pace}
use Rattle.cqf_model.specs.Domain.{Domain, is_text}
use Rattle.cqf_model.specs.Limits.{streams_within}
use Rattle.cqf_model.specs.History.{refused_if}
use Rattle.cqf_model.proofs.Texts.{is_text_itself, is_text_same}
use Rattle.cqf_admission.specs.Holdings.{IsFree, IsHolder, Standing, held_count}
use Rattle.cqf_admission.specs.Weighing.{is_taken, stand_refusal, stand_short}

-- a name is held if and only if it has a holder
pub taken_by : (stands : List Standing) (name : List ℕ) (o : Option ℕ) → MatchOption o (IsFree stands name) (IsHolder stands name) → is_taken stands name ≡ is_some o
taken_by stands name None free = elim (cases_Bool (is_taken stands name)) [
  | inl t ↦ (
      let w = any_member (λ (stand : Standing). stand.held && is_text stand.row.name name) stands t in
      let index = w.1.0 in
      let at : get_or stands index w.0 ≡ w.0 = w.1.2 in
      let parts = and_parts w.0.held (is_text w.0.row.name name) w.2 in
      absurd (free index (record {
        inside = w.1.1;
        held = λ d. ap (λ (s : Standing). s.held) (get_or_default stands index d w.0 w.1.1 ∙ at) ∙ parts.0;
      }) w.0 (ap (λ (s : Standing). s.row.name) at ∙ is_text_same w.0.row.name name parts.1)))
  | inr f ↦ f
]
taken_by stands name (Some number) holder = elim (cases_Bool (is_taken stands name)) [
  | inl t ↦ t
  | inr f ↦ holds stands holder
]
  where
    first : (xs : List Standing) → number < length xs → Standing
    first [] h = absurd (omega (arith, h))
    first (x ∷ xs) h = x

    holds : (xs : List Standing) → IsHolder xs name number → is_taken xs name ≡ true
    holds xs h =
        let d = first xs h.is_held.inside in
        member_any (λ (stand : Standing). stand.held && is_text stand.row.name name) xs (get_or xs number d) (Contains-get_or xs number d h.is_held.inside)
        (and_from (get_or xs number d).held (is_text (get_or xs number d).row.name name) (h.is_held.held d)
        (ap (λ (n : List ℕ). is_text n name) (h.named d) ∙ is_text_itself name))

-- the first reason
pub refused_taken : (d : Domain) (stands : List Standing) (name : List ℕ) (cost : ℕ) (pace : Pace) (tree : List Hop) → is_taken stands name ≡ true →
    Some NameHeld ≡ stand_refusal d stands name cost pace tree
refused_taken d stands name cost pace tree taken =
    sym (ap (λ (b : Bool). or_else (refused_if b NameHeld)
    (or_else (refused_if (nat_le (streams_within d.limits) (held_count stands)) TooManyStreams) (stand_short d stands cost pace tree))) taken)

pub refused_many : (d : Domain) (stands : List Standing) (name : List ℕ) (cost : ℕ) (pace : Pace) (tree : List Hop) → is_taken stands name ≡ false → streams_within d.limits ≤ held_count stands →
    Some TooManyStreams ≡ stand_refusal d stands name cost pace tree
refused_many d stands name cost pace tree free many =
    sym (ap (λ (b : Bool). or_else (refused_if b NameHeld)
    (or_else (refused_if (nat_le (streams_within d.limits) (held_count stands)) TooManyStreams) (stand_short d stands cost pace tree))) free
    ∙ ap (λ (b : Bool). or_else (refused_if b TooManyStreams) (stand_short d stands cost pace tree)) (le-leb (streams_within d.limits) (held_count stands) many))

pub refused_short : (d : Domain) (stands : List Standing) (name : List ℕ) (cost : ℕ) (pace : Pace) (tree : List Hop) → is_taken stands name ≡ false → held_count stands < streams_within d.limits →
    stand_short d stands cost pace tree ≡ stand_refusal d stands name cost pace tree
refused_short d stands name cost pace tree free few =
    sym (ap (λ (b : Bool). or_else (refused_if b NameHeld)
    (or_else (refused_if (nat_le (streams_within d.limits) (held_count stands)) TooManyStreams) (stand_short d stands cost pace tree))) free
    ∙ ap (λ (b : Bool). or_else (refused_if b TooManyStreams) (stand_short d stands cost pace tree)) (lt-leb (streams_within d.limits) (held_count stands) few))
