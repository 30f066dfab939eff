-- An error that is passed on.
use Rattle.std.proofs.Common.{◌≡◌, Result, Ok, Err, IfErr, IsErrAnd, subst, sym}

-- what holds of it holds of the result that it is passed on with
pub passed-on : {V F : Type 0} (result : Result V F) (fault : F) (P : F → Type 0) → IsErrAnd result (λ e. e ≡ fault) → P fault → IfErr result P
passed-on (Ok v) fault P passed h = absurd passed
passed-on (Err e) fault P passed h = subst P (sym passed) h
