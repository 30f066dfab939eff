use Rattle.std.proofs.Common.{◌≡◌, ◌∙◌, true, eqb-true, ap, sym, refl}
use Rattle.std.proofs.lemmas.Bool.{true≢false}
use Rattle.std.proofs.lemmas.Float.{T_from_true}
use lib.Ieee.{Float, nan, inf, fin, is_nan, binary64, of_bits, to_bits}
use lib.Ieee.Bits.{of_bits-to_bits}
use Rattle.cqf_network_text.proofs.same.is_same_float.Goals as goal

-- there is one value that isn't a number
only_nan : (x : Float) → is_nan x ≡ true → x ≡ nan
unfolding is_nan
only_nan nan is = refl
only_nan (inf s) is = absurd (true≢false (sym is))
only_nan (fin s m e) is = absurd (true≢false (sym is))

pub returns-then-is_nan : goal.returns-then-is_nan
returns-then-is_nan c same =
    only_nan c.args.number (sym c.is_nan.ensures.value ∙ c.if-is_nan.true)
    ∙ sym (only_nan c.args.other (sym c.is_nan-then-is_nan.ensures.value ∙ same))

pub returns : goal.returns
returns c same =
    sym (of_bits-to_bits binary64 c.args.number (T_from_true _ c.well_formed.0.1))
    ∙ ap (of_bits binary64) (eqb-true (to_bits binary64 c.args.number) (to_bits binary64 c.args.other) same)
    ∙ of_bits-to_bits binary64 c.args.other (T_from_true _ c.well_formed.1.0.1)
