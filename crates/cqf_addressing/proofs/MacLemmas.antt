-- An address that is written reads back as itself.
use Rattle.std.proofs.Common.{ℕ, ◌≡◌, ◌<◌, ◌+◌, ◌*◌, ◌/◌, ◌%◌, Bool, true, List, [], ◌∷◌, Some, None, ap, arith, cond}
use Rattle.std.proofs.Common.{ltb}
use Rattle.std.specs.Char.{digit_value}
use Rattle.std.proofs.lemmas.Bool.Decides.{nat_tests}
use Rattle.cqf_addressing.specs.Laws.{MacsReadBack}
use Rattle.cqf_addressing.specs.Mac.{hex_digit, if_forwarded, is_forwarded, octet_of}

-- a digit is read as its number
digit_value-hex : (n : ℕ) → n < 16 → digit_value (hex_digit n) ≡ n
digit_value-hex n h = grind (arith, nat_tests)

-- an octet is read back from its two digits
octet_back : (octet : ℕ) → octet < 256 → octet_of (hex_digit (octet / 16)) (hex_digit (octet % 16)) ≡ Some octet
octet_back octet small =
    let high : digit_value (hex_digit (octet / 16)) ≡ octet / 16 = digit_value-hex (octet / 16) (omega arith) in
    let low : digit_value (hex_digit (octet % 16)) ≡ octet % 16 = digit_value-hex (octet % 16) (omega arith) in
    let high_digit : ltb (octet / 16) 16 ≡ true = grind (arith, nat_tests) in
    let low_digit : ltb (octet % 16) 16 ≡ true = grind (arith, nat_tests) in
    let whole : 16 * (octet / 16) + octet % 16 ≡ octet = omega arith in
    simp (high, low, high_digit, low_digit, whole)

-- octets that pass the test are kept
kept : (octets : List ℕ) → is_forwarded octets ≡ true → if_forwarded octets ≡ Some octets
kept octets e = ap (λ (b : Bool). cond b (Some octets) None) e

pub reads_back : MacsReadBack
reads_back [] m = absurd (omega (arith, m.six))
reads_back (a ∷ []) m = absurd (omega (arith, m.six))
reads_back (a ∷ b ∷ []) m = absurd (omega (arith, m.six))
reads_back (a ∷ b ∷ c ∷ []) m = absurd (omega (arith, m.six))
reads_back (a ∷ b ∷ c ∷ d ∷ []) m = absurd (omega (arith, m.six))
reads_back (a ∷ b ∷ c ∷ d ∷ e ∷ []) m = absurd (omega (arith, m.six))
reads_back (a ∷ b ∷ c ∷ d ∷ e ∷ f ∷ []) m =
    rw (
      octet_back a (m.octet 0 0 (omega arith)),
      octet_back b (m.octet 1 0 (omega arith)),
      octet_back c (m.octet 2 0 (omega arith)),
      octet_back d (m.octet 3 0 (omega arith)),
      octet_back e (m.octet 4 0 (omega arith)),
      octet_back f (m.octet 5 0 (omega arith)),
    )
    (kept (a ∷ b ∷ c ∷ d ∷ e ∷ f ∷ []) m.forwarded)
reads_back (a ∷ b ∷ c ∷ d ∷ e ∷ f ∷ g ∷ more) m = absurd (omega (arith, m.six))
