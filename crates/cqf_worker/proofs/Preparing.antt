-- What a run begins with, and what is closed in the end, from their parts.
use Rattle.std.proofs.Common.{ℕ, ◌≡◌, ◌+◌, List, inl, inr, map, ap, subst, sym, ◌∙◌}
use Rattle.std.specs.Prelude.{Err, IfErr, IsErrAnd, Ok, Result}
use Rattle.cqf_model.specs.Domain.{Domain}
use Rattle.cqf_admission.specs.Admission.{Administration}
use Rattle.cqf_trace.specs.declared.bridge_trace.BridgeTrace.{BridgeTrace}
use Rattle.cqf_trace.specs.BridgeTraces.{AreGatheredFrom}
use Rattle.cqf_desk.specs.Closing.{IsClosed}
use Rattle.cqf_desk.specs.Desk.{Counter, Sitting}
use Rattle.cqf_worker.specs.declared.account.TracedAccount.{TracedAccount}
use Rattle.cqf_worker.specs.declared.faults.ConductFault.{ConductFault}
use Rattle.cqf_worker.specs.declared.threads.EndedRun.{EndedRun}
use Rattle.cqf_worker.specs.Closing.{bridge_trace_at}
use Rattle.cqf_worker.specs.Conducting.{IsDeskFault, IsPipeFault, IsSettleFault, IsSettled, all_seats}
use Rattle.cqf_worker.specs.Wires.{AreFedByWires, AreGiven}

-- what holds of a fault holds of the result that returns it
pub passed_on : {V F : Type 0} (result : Result V F) (fault : F) (P : F → Type 0) → IsErrAnd result (λ e. e ≡ fault) → P fault → IfErr result P
passed_on (Ok v) fault P passed h = absurd passed
passed_on (Err e) fault P passed h = subst P (sym passed) h

-- a desk of an administration with this many seats and one more
abbrev desk_of : Administration → ℕ → Counter
desk_of opening count = record { opening = opening; seats = count + 1 }

-- the desk is that of the domain for which the administration is
pub desk_is : (desk : Counter) (opening : Administration) (d : Domain) (many count : ℕ) → desk ≡ desk_of opening many → opening.domain ≡ d → many ≡ count →
    desk ≡ record { opening = record { domain = d; entries = opening.entries }; seats = count + 1 }
desk_is desk opening d many count is domain same =
    is
    ∙ ap (λ (e : Domain). desk_of (record { domain = e; entries = opening.entries }) many) domain
    ∙ ap (λ (n : ℕ). desk_of (record { domain = d; entries = opening.entries }) n) same

-- the closed desk and the gathered traces give the account of the run's seats and bridge traces
pub settled_so : (d : Domain) (desk : Counter) (e : EndedRun) (seats : List Sitting) (bridge_traces : List BridgeTrace) (account : TracedAccount) →
    AreFedByWires e.workers.items → AreGiven e.sealed.tables.items e.workers.items → seats ≡ all_seats e → bridge_traces ≡ map bridge_trace_at e.workers.items →
    IsClosed desk seats account.history → AreGatheredFrom d bridge_traces account.traces → IsSettled d desk e account
settled_so d desk e seats bridge_traces account fed given all own closed gathered = record {
  fed = fed;
  given = given;
  history = subst (λ (ss : List Sitting). IsClosed desk ss account.history) all closed;
  gathered = subst (λ (rs : List BridgeTrace). AreGatheredFrom d rs account.traces) own gathered;
}

module _ (desk : Counter) (e : EndedRun) where
  -- the reason why pipes aren't closed is reported for the run
  pub reported_of_pipes : (fault : ConductFault) → IsPipeFault e.workers.items fault → IsSettleFault desk e fault
  reported_of_pipes fault why = elim why [
    | inl memory ↦ subst (IsSettleFault desk e) (sym memory) tt
    | inr lost ↦ subst (IsSettleFault desk e) (sym lost.0) lost.1
  ]

  -- and so is the reason why its desk isn't closed
  pub reported_of_desk : (seats : List Sitting) (fault : ConductFault) → seats ≡ all_seats e → IsDeskFault desk seats fault → IsSettleFault desk e fault
  reported_of_desk seats fault all why = elim (subst (λ (ss : List Sitting). IsDeskFault desk ss fault) all why) [
    | inl memory ↦ subst (IsSettleFault desk e) (sym memory) tt
    | inr open_still ↦ subst (IsSettleFault desk e) (sym open_still.0) open_still.1
  ]
