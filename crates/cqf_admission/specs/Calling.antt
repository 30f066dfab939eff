-- A call for a stream, and the judgement of its request by itself.
use Rattle.std.specs.Prelude.{ℕ, ◌≡◌, Result}
use Rattle.cqf_model.specs.declared.history.Refused.{Refused}
use Rattle.cqf_model.specs.Domain.{Domain}
use Rattle.cqf_model.specs.History.{Admits, Asked}
use Rattle.cqf_admission.specs.declared.entries.Call.{Call}
use Rattle.cqf_admission.specs.declared.judged.JudgedRequest.{JudgedRequest}
use Rattle.cqf_admission.specs.Admission.{act_of}
use Rattle.cqf_admission.specs.Judging.{Judges}

-- the call requests a stream with this number of octets, and `judged` is the judgement of its request by itself
pub record IsJudgedCall (d : Domain) (call : Call) (octets : ℕ) (judged : Result JudgedRequest Refused) : Type 0 where
  pub asked : Asked
  pub act : act_of call ≡ Admits asked
  pub octets_asked : octets ≡ asked.octets
  pub judges : Judges d asked judged
