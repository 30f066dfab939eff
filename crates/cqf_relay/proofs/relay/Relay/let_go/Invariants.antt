use Rattle.std.proofs.Common.{◌≤◌, ◌-◌, All, take}
use Rattle.cqf_relay.specs.declared.outlet.Outlet.{Outlet}
use Rattle.cqf_relay.proofs.LettingGo.{IsLettingGo}
use Rattle.cqf_relay.proofs.relay.Relay.let_go.Given as goal

-- the links so far have sent far enough
abbrev pub invariant-loop-outlet : goal.invariant-loop-outlet
invariant-loop-outlet l = All (λ (outlet : Outlet). l.least ≤ outlet.sent - 1) (take l.outlet-index l.outlet-items)

-- the inlets so far have let go
abbrev pub invariant-loop-index : goal.invariant-loop-index
invariant-loop-index l = IsLettingGo l.least l.index l.fn.self l.self
