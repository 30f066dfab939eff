-- The positions of names that differ.
use Rattle.std.proofs.Common.{◌≡◌, ◌≢◌, ◌+◌, ◌<◌, ℕ, List, [], ◌++◌, Bool, Option, Some, None, AllPairs, MatchOption, length, get_or}
use Rattle.std.proofs.Common.{refl, ap, sym, ◌∙◌, inl, inr, arith, position}
use Rattle.std.proofs.lemmas.Bool.{cases_order, true≢false}
use Rattle.std.proofs.lemmas.List.{get_or_append_left, get_or-append-add}
use Rattle.std.proofs.lemmas.List.Quantifiers.{position-Some}
use Rattle.std.proofs.lemmas.Option.{get_or_from_slice_get, slice_get-get_or, slice_get_within}
use Rattle.std.proofs.Common.{length-append}
use Rattle.cqf_model.proofs.Texts.{is_text_itself, is_text_same}
use Rattle.cqf_model.specs.Domain.{is_text}
use Rattle.cqf_topology.specs.DomainText.{first_taken, index_of}
use Rattle.cqf_topology.specs.FirstFaults.{IsFirstRepeated, StoodEarlier}
use Rattle.cqf_topology.proofs.Accepted.{position-None}
use Rattle.cqf_topology.proofs.Written.{taken-reported}

-- each two of the names differ
abbrev pub AreApart : List (List ℕ) → Type 0
AreApart names = AllPairs (λ a b. a ≢ b) names

-- if the names differ, none is taken
pub none_taken : (names : List (List ℕ)) → AreApart names → first_taken [] names ≡ None
none_taken names apart = by (first_taken [] names) (taken-reported names)
  where
    -- a name that is reported as taken would occur twice
    by : (o : Option (List ℕ)) → MatchOption o ((index : ℕ) → ¬ StoodEarlier names index) (λ name. IsFirstRepeated names name) → o ≡ None
    by None none = refl
    by (Some name) first =
        let again = first.repeats in
        absurd (apart again.before first.index [] again.earlier (slice_get_within names first.index again.name again.stands)
        (get_or_from_slice_get names again.before again.name [] again.stood ∙ sym (get_or_from_slice_get names first.index again.name [] again.stands)))

-- each name is found at its index
pub index_is : (names : List (List ℕ)) → AreApart names → (k : ℕ) → k < length names → index_of (get_or names k []) names ≡ Some k
index_is names apart k inside = by (position same names) refl
  where
    -- whether a name equals this one
    same : List ℕ → Bool
    same = λ (other : List ℕ). is_text other (get_or names k [])

    -- no other index is found
    by : (o : Option ℕ) → position same names ≡ o → o ≡ Some k
    by None none =
        absurd (true≢false (sym (is_text_itself (get_or names k [])) ∙
        position-None same names none k (get_or names k []) (slice_get-get_or names k [] inside)))
    by (Some i) found =
        let (within, is, least) = position-Some same names i [] found in
        let alike : get_or names i [] ≡ get_or names k [] = is_text_same _ _ is in
        elim (cases_order i k) [
          | inl here ↦ ap Some here
          | inr other ↦ elim other [
            | inl before ↦ absurd (apart i k [] before inside alike)
            | inr following ↦ absurd (apart k i [] following within (sym alike))
          ]
        ]

-- a name that occurs nowhere in the list isn't found
pub no_index : (name : List ℕ) (names : List (List ℕ)) → ((i : ℕ) → i < length names → get_or names i [] ≢ name) → index_of name names ≡ None
no_index name names nowhere = by (position (λ other. is_text other name) names) refl
  where
    -- an index that is found would have that name
    by : (o : Option ℕ) → position (λ other. is_text other name) names ≡ o → o ≡ None
    by None none = refl
    by (Some i) found =
        let at = position-Some (λ (other : List ℕ). is_text other name) names i [] found in
        absurd (nowhere i at.0 (is_text_same _ _ at.1))

module _ (xs ys : List (List ℕ)) (apart : AreApart (xs ++ ys)) where
  -- if all names of two lists together differ, so do those of each list
  pub front_apart : AreApart xs
  front_apart i j d before inside same =
      apart i j d before (omega (arith, length-append xs ys))
      (get_or_append_left xs ys d i (omega arith) ∙ same ∙ sym (get_or_append_left xs ys d j inside))

  pub after_apart : AreApart ys
  after_apart i j d before inside same =
      apart (length xs + i) (length xs + j) d (omega arith) (omega (arith, length-append xs ys))
      (get_or-append-add xs ys i d ∙ same ∙ sym (get_or-append-add xs ys j d))

  -- and no name of the first list occurs in the second
  pub apart_across : (i j : ℕ) → i < length xs → j < length ys → get_or xs i [] ≢ get_or ys j []
  apart_across i j in_front following same =
      apart i (length xs + j) [] (omega arith) (omega (arith, length-append xs ys))
      (get_or_append_left xs ys [] i in_front ∙ same ∙ sym (get_or-append-add xs ys j []))
