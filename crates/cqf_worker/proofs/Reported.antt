-- From a fault that is reported to its cause.
use Rattle.std.proofs.Common.{ℕ, ◌<◌, List, Contains, inl, inr, length, map, subst}
use Rattle.cqf_lists.proofs.Members.{contains_map}
use Rattle.cqf_model.specs.declared.frames.Background.{Background}
use Rattle.cqf_model.specs.declared.frames.Offer.{Offer}
use Rattle.cqf_model.specs.Domain.{Domain, IsAccepted}
use Rattle.cqf_model.specs.History.{Recorded}
use Rattle.cqf_admission.specs.declared.entries.Command.{Command}
use Rattle.cqf_desk.specs.Closing.{IsCloseFault}
use Rattle.cqf_desk.specs.Desk.{Counter}
use Rattle.cqf_worker.specs.declared.faults.ConductFault.{ConductFault}
use Rattle.cqf_worker.specs.declared.faults.ConductFault.TheVariants as conduct
use Rattle.cqf_worker.specs.declared.threads.EndedRun.{EndedRun}
use Rattle.cqf_worker.specs.Running.{IsEnded}
use Rattle.cqf_worker.specs.Reporting.{IsStartFault, MayBeReported}
use Rattle.cqf_worker.specs.Laying.{traffic_of}
use Rattle.cqf_worker.specs.declared.conducting.PreparedRun.{PreparedRun}
use Rattle.cqf_worker.specs.Conducting.{IsPrepared, IsSettleFault, all_seats, commands_of}
use Rattle.cqf_worker.specs.Failing.{IsConductFault, SomeCall}
use Rattle.cqf_worker.proofs.Accounts.{seated_so}
use Rattle.cqf_worker.proofs.Lacking.{none_lacks}

module _ (d : Domain) (opening : List Recorded) (offers : List Offer) (background : List Background) (cycles : ℕ) (admins : List (List Command)) where
  -- why a run can't begin
  pub reported_before : (fault : ConductFault) → IsStartFault fault → IsConductFault d opening offers background cycles admins fault
  reported_before conduct.Memory is = tt
  reported_before conduct.DeskDisagrees is = absurd is
  reported_before conduct.ChannelLost is = absurd is
  reported_before conduct.Spawn is = tt

  module _ (p : PreparedRun) (is : IsPrepared d opening offers cycles admins p) where
    -- an administrator with commands is one of those with requests
    calls_somewhere : (commands : List Command) → Contains (map commands_of p.ready.administrators.items) commands → 0 < length commands → SomeCall admins
    calls_somewhere commands there some = (commands, subst (λ (all : List (List Command)). Contains all commands) is.seated.commands there, some)

    -- the fault that its threads report
    pub reported_of_threads : (fault : ConductFault) → MayBeReported cycles p.ready fault → IsConductFault d opening offers background cycles admins fault
    reported_of_threads conduct.Memory may = tt
    reported_of_threads conduct.DeskDisagrees may = elim may [
      | inl some ↦ inl some
      | inr calls ↦
          inr (inl (calls_somewhere (commands_of calls.administrator)
          (contains_map commands_of p.ready.administrators.items calls.administrator calls.there) calls.some))
    ]
    reported_of_threads conduct.ChannelLost may = may
    reported_of_threads conduct.Spawn may = tt

    module _ (e : EndedRun) (ended : IsEnded cycles p.ready e) where
      -- why it can't be closed
      pub reported_in_the_end : IsAccepted d → (fault : ConductFault) → IsSettleFault p.desk e fault →
          IsConductFault d opening offers background cycles admins fault
      reported_in_the_end accepted conduct.Memory why = tt
      reported_in_the_end accepted conduct.DeskDisagrees why = inr (inr (record {
        seats = all_seats e;
        seated = (seated_so d opening offers background cycles admins p is e ended).0;
        why = why.0;
        other = why.1;
        fault = subst (λ (desk : Counter). IsCloseFault desk (all_seats e) why.0) is.desk why.2;
      }))
      reported_in_the_end accepted conduct.ChannelLost why =
          absurd (none_lacks (traffic_of d offers) cycles p.ready.workers.items e.workers.items is.laid.workers is.laid.many ended.worked accepted
          why.0 why.1)
      reported_in_the_end accepted conduct.Spawn why = absurd why
