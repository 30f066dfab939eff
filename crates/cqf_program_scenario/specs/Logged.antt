-- A scenario's orders and its history, which refer to its requests and to its script.
use Rattle.std.specs.Prelude.{List, All, map}
use Rattle.cqf_model.specs.History.{Recorded}
use Rattle.cqf_admission.specs.declared.orders.Ordered.{Ordered}
use Rattle.cqf_admission.specs.Orders.{StandsIn}
use Rattle.cqf_admission.specs.Asking.{asked_paced}
use Rattle.cqf_admission.specs.declared.logs.Logged.{Logged}
use Rattle.cqf_admission.specs.Ledger.{recorded_in}
use Rattle.cqf_program_scenario.specs.declared.given.RunInput.{RunInput}

-- what its orders name is among its requests and in its script
abbrev pub HasOrders : RunInput → Type 0
HasOrders given = All (λ (order : Ordered). StandsIn (map asked_paced given.requests.items) given.script.items order.what) given.orders.items

-- the entries of a log, in the form of the definitions
abbrev pub entries_in : RunInput → List Logged → List Recorded
entries_in given log = map (recorded_in (map asked_paced given.requests.items) given.script.items) log
