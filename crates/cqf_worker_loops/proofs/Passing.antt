-- A fault that `?` returns.
use Rattle.std.proofs.Common.{◌≡◌, Err, IfErr, Ok, Result, subst, sym}
use Rattle.std.specs.Prelude.{IsErrAnd}

-- what holds of a fault holds of the result that returns it
pub passed_on : {V F : Type 0} (result : Result V F) (fault : F) (P : F → Type 0) → IsErrAnd result (λ e. e ≡ fault) → P fault → IfErr result P
passed_on (Ok v) fault P passed h = absurd passed
passed_on (Err e) fault P passed h = subst P (sym passed) h
