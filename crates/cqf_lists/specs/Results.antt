-- Sequences of steps that may end with a fault.
use Rattle.std.specs.Prelude.{Option, Some, None, Result, Ok, Err}

-- the first step's fault if it failed, otherwise the next step applied to the first step's result
abbrev pub and_then : {A B E : Type 0} → Result A E → (A → Result B E) → Result B E
and_then (Ok x) next = next x
and_then (Err e) next = Err e

-- the fault made from the value if there is a value, otherwise the rest
abbrev pub refuse : {A B E : Type 0} → Option A → (A → E) → Result B E → Result B E
refuse None fault rest = rest
refuse (Some x) fault rest = Err (fault x)
