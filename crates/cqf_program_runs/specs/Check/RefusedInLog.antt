-- The first refused call of a log.
use Rattle.std.specs.Prelude.{ℕ, Bool, true, false, List, Option, filter, find}
use Rattle.std.specs.List.{enumerate_from}
use Rattle.cqf_admission.specs.declared.logs.Logged.{Logged}
use Rattle.cqf_admission.specs.declared.orders.What.{What}
use Rattle.cqf_admission.specs.declared.orders.What.TheVariants.{Admit, Seal, Withdraw}
use Rattle.cqf_program_runs.specs.Check.RefusedCalls.{is_refused}

-- whether an entry of a log is a call; a Seal isn't
abbrev pub is_call : What → Bool
is_call (Admit index) = true
is_call (Withdraw from octets) = true
is_call Seal = false

-- the first refused call of a log whose first call has the given number
abbrev pub refused_from : ℕ → List Logged → Option (ℕ × Logged)
refused_from number log =
    find (λ (call : ℕ × Logged). is_refused call.1.reply) (enumerate_from number (filter (λ (logged : Logged). is_call logged.what) log))
