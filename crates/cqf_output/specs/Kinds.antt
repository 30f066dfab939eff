-- The kinds of error with which a reader may fail, or for which a writer may refuse.
use Rattle.std.specs.Prelude.{◌≡◌}
use Rattle.std.specs.declared.io.ErrorKind.{ErrorKind}
use Rattle.std.specs.declared.io.ErrorKind.TheVariants.{OutOfMemory}

-- there is a kind of error with which a reader may fail, or for which a writer may refuse
abbrev pub SomeKind : (ErrorKind → Type 0) → Type 0
SomeKind may = ∥ ((kind : ErrorKind) × may kind) ∥₁

-- there is no kind of error with which a reader may fail, or for which a writer may refuse
abbrev pub NoKind : (ErrorKind → Type 0) → Type 0
NoKind may = (kind : ErrorKind) → ¬ may kind

-- a reader may fail, or a writer refuse, only with `OutOfMemory`
abbrev pub MemoryAlone : (ErrorKind → Type 0) → Type 0
MemoryAlone may = (kind : ErrorKind) → may kind → kind ≡ OutOfMemory
