-- A stream to which nothing objects is listed.
use Rattle.std.proofs.Common.{ℕ, ◌≡◌, ◌∙◌, ◌≤◌, ◌<◌, ◌&&◌, Bool, true, false, not, List, None, ap, arith, length, min, subst, sym}
use Rattle.std.specs.Prelude.{nat_le}
use Rattle.std.specs.List.{list_any}
use Rattle.std.proofs.lemmas.Bool.{lt-leb, not-false}
use Rattle.std.proofs.lemmas.List.Elements.{All-weaker}
use Rattle.cqf_lists.specs.Lists.{or_else}
use Rattle.cqf_admission.proofs.GrantLemmas.{granted_countable}
use Rattle.cqf_admission.specs.Judging.{form_refusal}
use Rattle.cqf_admission.specs.Rows.{IsCountable}
use Rattle.cqf_model.specs.declared.history.Refused.TheVariants.{BadName, BadOctets, BadPace, NameHeld, TooManyStreams}
use Rattle.cqf_model.specs.declared.topology.Row.{Row}
use Rattle.cqf_model.specs.Domain.{Domain, is_text}
use Rattle.cqf_model.specs.History.{Asked, is_pace, refused_if}
use Rattle.cqf_model.specs.Limits.{most_overhead, most_reserved, streams_within}
use Rattle.cqf_model.specs.Table.{links_of}
use Rattle.cqf_units.specs.Name.{is_name}
use Rattle.cqf_admission.proofs.ActiveCycleLemmas.{asked_is_good}
use Rattle.cqf_admission.specs.Branches.{tree_refusal}
use Rattle.cqf_admission.specs.ActiveCycles.{IsOfGoodPace}
use Rattle.cqf_program_plans.proofs.Fits.{first_none, not_due, second_none}
use Rattle.cqf_program_plans.specs.Load.Listing.{IsListed, listed_row}

-- no domain has more streams than the limit
few_of : (within number : ℕ) → number < min within 16384 → number < 16384
few_of within number low = omega arith

-- a request of good form has a pace
form_paced : (d : Domain) (asked : Asked) → form_refusal d asked ≡ None → is_pace asked.every asked.phase ≡ true
form_paced d asked form =
    let tree = tree_refusal d asked.paths in
    let pace = refused_if (not (is_pace asked.every asked.phase)) BadPace in
    let octets = refused_if (not (nat_le 64 asked.octets && nat_le asked.octets most_reserved)) BadOctets in
    let name = refused_if (not (is_name asked.name)) BadName in
    not-false (is_pace asked.every asked.phase)
    (not_due (not (is_pace asked.every asked.phase)) BadPace
    (first_none pace tree (second_none octets (or_else pace tree) (second_none name (or_else octets (or_else pace tree)) form))))

-- if its form is good, its name is free and there aren't too many streams, a stream is listed with its row
pub is_listed : (d : Domain) (rows : List Row) (asked : Asked) (row : Row) → d.overhead ≤ most_overhead → form_refusal d asked ≡ None → asked.octets ≤ most_reserved →
    list_any (λ (other : Row). is_text other.name asked.name) rows ≡ false → length rows < streams_within d.limits → row ≡ listed_row d rows asked →
    IsListed d rows asked row
is_listed d rows asked row short form most free few is = record {
  none = ap (λ o. or_else o (or_else (refused_if (list_any (λ (other : Row). is_text other.name asked.name) rows) NameHeld)
      (refused_if (nat_le (streams_within d.limits) (length rows)) TooManyStreams))) form
      ∙ ap (λ (b : Bool). or_else (refused_if b NameHeld) (refused_if (nat_le (streams_within d.limits) (length rows)) TooManyStreams)) free
      ∙ ap (λ (b : Bool). refused_if b TooManyStreams) (lt-leb (streams_within d.limits) (length rows) few);
  is = is;
  paced = ap (λ (r : Row). r.pace) is;
  good = subst IsOfGoodPace (sym is) (asked_is_good asked (form_paced d asked form));
  countable = granted_countable d row asked (length rows) 0 short is most;
  few = few_of d.limits.streams (length rows) few;
  free = ap (λ (r : Row). list_any (λ (other : Row). is_text other.name r.name) rows) is ∙ free;
}

-- what can be added to sums of this number of links can be added to sums of more links
pub countable_within : (row : Row) (links most : ℕ) → links ≤ most → IsCountable links row → IsCountable most row
countable_within row links most few is = record {
  octets = is.octets;
  overhead = is.overhead;
  inside = All-weaker (λ (l : ℕ). l < links) (λ (l : ℕ). l < most) (λ l below. omega (arith, below, few)) (links_of row) is.inside;
  apart = is.apart;
}
