-- Words that name candidates, and the candidates one by one.
use Rattle.std.proofs.Common.{◌≡◌, ◌≢◌, ◌∙◌, ◌<◌, ◌++◌, ◌∷◌, ℕ, List, Option, Some, None, true, false}
use Rattle.std.proofs.Common.{arith, ap, sym, refl, codes, get_or, length, subst, Bor, drop, Bool, inl, inr, cond}
use Rattle.std.specs.Char.{is_ascii_digit}
use Rattle.std.specs.List.{list_all}
use Rattle.std.specs.Prelude.{MatchOption}
use Rattle.std.proofs.Math.Seq.{get_or-append_seam}
use Rattle.std.proofs.lemmas.List.{length-append}
use Rattle.std.proofs.lemmas.List.Folds.{list_all_at}
use Rattle.std.proofs.lemmas.Str.Pattern.{IsSplitOnceResult, split_after}
use Rattle.clap.specs.Words.{Text}
use Rattle.cqf_text.specs.Decimal.{decimal_in, in_range, is_decimal}
use Rattle.cqf_program_words.specs.declared.candidates.Candidates.{Candidates}
use Rattle.cqf_program_words.specs.Candidates.{AreFromTo, AreNamed, range_word}
use Rattle.std.specs.Option.{option_and_then}
use Rattle.std.proofs.lemmas.Grind.{common_steps}

-- a digit isn't another byte
pub lacks : (byte : ℕ) (digits : Text) → is_ascii_digit byte ≡ false → list_all is_ascii_digit digits ≡ true →
    (i : ℕ) → i < length digits → get_or digits i 0 ≢ byte
lacks byte digits other all i inside is =
    let none : list_all is_ascii_digit digits ≡ false = list_all_at is_ascii_digit digits i 0 inside (ap is_ascii_digit is ∙ other) in
    absurd (cc)

-- what follows the first dot of a range; and the same with that dot
abbrev pub after_dot : Text → Text → Text
after_dot to step = 46 ∷ (to ++ (codes "/" ++ step))

abbrev pub after_two : Text → Text → Text
after_two to step = 46 ∷ after_dot to step

-- the first dot of a range follows its first text
pub dot_cut : (word from to step : Text) (r : Option (Bor (List ℕ) × Bor (List ℕ))) → IsSplitOnceResult 46 word r → word ≡ range_word from to step →
    list_all is_ascii_digit from ≡ true → MatchOption r ⊥ (λ x. (x.0.now ≡ from) × (x.1.now ≡ after_dot to step))
dot_cut word from to step r cut is digits = split_after 46 word from (after_dot to step) r cut (omega arith) is (lacks 46 from refl digits)

-- and the first slash after the dots follows its second text
pub slash_cut : (others to step : Text) (r : Option (Bor (List ℕ) × Bor (List ℕ))) → IsSplitOnceResult 47 others r → others ≡ to ++ (codes "/" ++ step) →
    list_all is_ascii_digit to ≡ true → MatchOption r ⊥ (λ x. (x.0.now ≡ to) × (x.1.now ≡ step))
slash_cut others to step r cut is digits = split_after 47 others to step r cut (omega arith) is (lacks 47 to refl digits)

-- the value that is there meets its condition
pub at_some : {A : Type 0} (r : Option A) (x : A) (N : Type 0) (P : A → Type 0) → r ≡ Some x → MatchOption r N P → P x
at_some {A = A} r x N P is h = let Q : Option A → Type 0 = λ v. MatchOption v N P in subst Q is h

-- and if there is none, the condition for none holds
pub at_none : {A : Type 0} (r : Option A) (N : Type 0) (P : A → Type 0) → r ≡ None → MatchOption r N P → N
at_none {A = A} r N P is h = let Q : Option A → Type 0 = λ v. MatchOption v N P in subst Q is h

-- what follows the first of two dots; nothing if another byte follows
pub second_dot : (following rest : Text) (r : Option (Bor (List ℕ))) → MatchOption r ((more : Text) → following ≢ 46 ∷ more) (λ x. following ≡ 46 ∷ x.now) →
    following ≡ 46 ∷ rest →
    MatchOption r ⊥ (λ x. x.now ≡ rest)
second_dot following rest None none is = none rest is
second_dot following rest (Some x) some is = ap (drop 1) (sym some ∙ is)

-- a text that writes a number has the form of one
written_form : (form : Bool) (least most value number : ℕ) → option_and_then (in_range least most) (cond form (Some value) None) ≡ Some number → form ≡ true
written_form true least most value number is = refl
written_form false least most value number is = absurd (cc)

-- and consists of digits alone
pub digits_by_form : (text : Text) → is_decimal text ≡ true → list_all is_ascii_digit text ≡ true
digits_by_form text is = grind (arith, common_steps)

pub digits_of : (least most number : ℕ) (text : Text) → decimal_in least most text ≡ Some number → list_all is_ascii_digit text ≡ true
digits_of least most number text is = digits_by_form text (written_form (is_decimal text) least most _ number is)

-- a range isn't a number
pub range_no_number : (word from to step : Text) (least most number : ℕ) → word ≡ range_word from to step → decimal_in least most word ≡ Some number → ⊥
range_no_number word from to step least most number is written =
    let dot : get_or (from ++ after_two to step) (length from) 0 ≡ 46 = get_or-append_seam from 46 (after_dot to step) 0 in
    let inside : length from < length word = rw is (omega (arith, length-append from (after_two to step))) in
    lacks 46 word refl (digits_of least most number word written) (length from) inside (ap (λ (w : Text). get_or w (length from) 0) is ∙ dot)

-- candidates by other texts of the same range are candidates by these
same_range : (from to step other_from other_to other_step : Text) (c : Candidates) → from ≡ other_from → to ≡ other_to → step ≡ other_step →
    AreFromTo other_from other_to other_step c → AreFromTo from to step c
same_range from to step other_from other_to other_step c f t s are =
    let P : Text → Type 0 = λ x. AreFromTo x to step c in
    let Q : Text → Type 0 = λ x. AreFromTo other_from x step c in
    let R : Text → Type 0 = λ x. AreFromTo other_from other_to x c in
    subst P (sym f) (subst Q (sym t) (subst R (sym s) are))

-- candidates by the texts of a range are those that the word names
pub named_by_range : (word from to step : Text) (r : Option Candidates) → word ≡ range_word from to step →
    ((other_from other_to other_step : Text) → word ≡ range_word other_from other_to other_step → list_all is_ascii_digit other_from ≡ true
    → list_all is_ascii_digit other_to ≡ true → (from ≡ other_from) × (to ≡ other_to) × (step ≡ other_step)) →
    MatchOption r ((c : Candidates) → ¬ AreFromTo from to step c) (AreFromTo from to step) →
    MatchOption r ((c : Candidates) → ¬ AreNamed word c) (AreNamed word)
named_by_range word from to step (Some c) is whole some = inr (from, to, step, is, some)
named_by_range word from to step None is whole none = λ c named. elim named [
  | inl alone ↦ range_no_number word from to step 10000 10000000 c.first is alone.first
  | inr other ↦
      let from_digits = digits_of 10000 10000000 c.first other.0 other.4.first in
      let to_digits = digits_of 10000 10000000 c.last other.1 other.4.last in
      let same = whole other.0 other.1 other.2 other.3 from_digits to_digits in
      none c (same_range from to step other.0 other.1 other.2 c same.0 same.1 same.2 other.4)
]
