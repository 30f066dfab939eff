-- The number that bytes denote, digit by digit.
use Rattle.std.proofs.Common.{◌≡◌, ◌∙◌, ℕ, ◌+◌, ◌-◌, ◌*◌, ◌^◌, ◌<◌, ◌≤◌, ◌&&◌, Bool, true, false, List, get_or, length}
use Rattle.std.proofs.Common.{take, None, Some, cond, refl, sym, ap₂, arith, rules}
use Rattle.std.specs.Char.{is_ascii_digit}
use Rattle.std.specs.Int.{IsInRange}
use Rattle.std.specs.List.{list_all}
use Rattle.std.specs.Option.{option_and_then}
use Rattle.std.specs.Str.Parse.{digits_value}
use Rattle.std.proofs.lemmas.Grind.{common_steps}
use Rattle.std.proofs.lemmas.Int.Digits.{digits_value_more}
use Rattle.std.proofs.lemmas.List.{length-take-le}
use Rattle.std.proofs.lemmas.List.Folds.{list_all_more}
use Rattle.std.proofs.lemmas.Str.{digit_value_digit}
use Rattle.std.proofs.lemmas.Str.Parse.{IsNumeralModel, digits_value_short, numerals_by_value, digits_value-take-le}
use Rattle.cqf_text.specs.Decimal.{is_decimal, in_range, decimal_in}

-- the test of digits, and std's value of them, match std's numerals
pub own : IsNumeralModel (λ ds. list_all is_ascii_digit ds ≡ true) (digits_value 10)
own = numerals_by_value _ (search rules)

-- a number above the range isn't in it
past_range : (least most number : ℕ) → most < number → in_range least most number ≡ None
past_range least most number large = grind (arith, common_steps)

-- a number above the range isn't returned, regardless of the form
none_past_range : (form : Bool) (least most number : ℕ) → most < number → None ≡ option_and_then (in_range least most) (cond form (Some number) None)
none_past_range true least most number large = sym (past_range least most number large)
none_past_range false least most number large = refl

-- if the first digits denote too large a number, all of them do
pub none_by_size : (least most count : ℕ) (bytes : List ℕ) → most < digits_value 10 (take count bytes) → None ≡ decimal_in least most bytes
none_by_size least most count bytes large =
    none_past_range (is_decimal bytes) least most (digits_value 10 bytes) (omega (arith, digits_value-take-le 10 bytes count (omega arith)))

-- the first `count` bytes are digits, and denote the number
pub record AreRead (bytes : List ℕ) (count number : ℕ) : Type 0 where
  pub digits : list_all is_ascii_digit (take count bytes) ≡ true
  pub value : number ≡ digits_value 10 (take count bytes)

-- with one more digit they denote ten times as much plus the digit
pub read_more : (bytes : List ℕ) (count number more : ℕ) → count < length bytes → is_ascii_digit (get_or bytes count 0) ≡ true → AreRead bytes count number →
    more ≡ number * 10 + (get_or bytes count 0 - 48) → AreRead bytes (count + 1) more
read_more bytes count number more inside digit before is =
    let within : IsInRange 48 57 (get_or bytes count 0) = search rules in
    record {
      digits = list_all_more is_ascii_digit bytes count 0 inside ∙ ap₂ (λ a b. a && b) before.digits digit;
      value = omega (arith, digits_value_more 10 bytes count inside, digit_value_digit (get_or bytes count 0) within, before.value, is);
    }

-- fewer than nineteen digits denote less than 10 ^ 18
pub read_few : (bytes : List ℕ) (count number : ℕ) → count < length bytes → length bytes ≤ 19 → AreRead bytes count number → number < 10 ^ 18
read_few bytes count number inside few before =
    let short : length (take count bytes) ≤ 18 = omega (arith, length-take-le count bytes (omega arith), few, inside) in
    omega (arith, before.value, digits_value_short own (take count bytes) 18 before.digits short)
