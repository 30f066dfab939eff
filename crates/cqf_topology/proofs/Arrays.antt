-- An array, read one element after the other.
use Rattle.std.proofs.Common.{List, ◌++◌, Result, Ok, Err}

-- what was read so far, followed by what is read of the rest
abbrev pub with_front : {A E : Type 0} → List A → Result (List A) E → Result (List A) E
with_front done (Ok rest) = Ok (done ++ rest)
with_front done (Err e) = Err e
