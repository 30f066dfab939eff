-- What each link of a run carries is in order of instant, batch by batch.
use Rattle.std.proofs.Common.{◌≡◌, ℕ, ◌*◌, ◌<◌, inl, inr, sym, ap, subst, arith, AllPairs, Contains, length, get_or}
use Rattle.std.specs.List.Sorted.{IsNonDecreasingBy}
use Rattle.std.proofs.lemmas.Bool.{cases_order}
use Rattle.cqf_lists.specs.Lists.{each_below}
use Rattle.cqf_lists.proofs.Keys.{by_key}
use Rattle.cqf_lists.proofs.Made.{pairs_of_flat}
use Rattle.cqf_units.proofs.Cycles.{cycle_below, cycles_ordered}
use Rattle.cqf_model.specs.declared.frames.Sent.{Sent}
use Rattle.cqf_model.specs.Book.{batch}
use Rattle.cqf_model.specs.Domain.{Domain, cycle_of}
use Rattle.cqf_model.specs.Network.{Network, comes_before, sent_of}
use Rattle.cqf_model.specs.Port.{Transmission}
use Rattle.cqf_model.specs.Run.{Run}
use Rattle.cqf_model.specs.Policing.{Carried}
use Rattle.cqf_model.proofs.Sending.{sent_in_run, sent_of_once, sent_of_when}
use Rattle.cqf_laws_shift.specs.Run.{IsLegalRun}

-- what each link of a run carries is in order of instant, and is sent before the end
pub record IsInTurn (d : Domain) (cycles : ℕ) (carried : Carried) : Type 0 where
  pub in_order : (l : ℕ) → l < length d.links → AllPairs (λ (a b : Sent). a.start.0 < b.start.0) (carried l)
  pub before_end : (l : ℕ) (x : Sent) → Contains (carried l) x → x.start.0 < cycles * d.cycle_time

-- this holds in a legal run
pub run_in_turn : (run : Run) (net : Network) → IsLegalRun run net → IsInTurn run.domain (length run.tables) net.carried
run_in_turn run net legal = record {
  in_order = λ l is_link.
      let s = legal.legal.sends l is_link in
      let queued = comes_before run net.carried l (length run.tables) in
      subst (λ z. AllPairs (λ (a b : Sent). a.start.0 < b.start.0) z) (sym s.are_sent)
      (pairs_of_flat (sent_of queued) (λ (a b : Transmission). a.1 < b.1) (λ (a b : Sent). a.start.0 < b.start.0) s.starts
      (λ x c. sent_of_once (λ (a b : Sent). a.start.0 < b.start.0) queued x)
      (λ x z u v c e less h k. omega (arith, less, sent_of_when queued x u h, sent_of_when queued z v k))
      s.legal.in_order);
  before_end = λ l x c. sent_in_run run _ (length run.tables) net legal.legal l x c;
}

module _ (d : Domain) (cycles : ℕ) (carried : Carried) (some : 0 < d.cycle_time) (in_turn : IsInTurn d cycles carried) where
  -- what a link carries is the sequence of its batches
  pub batches : (l : ℕ) → l < length d.links → carried l ≡ each_below (batch d carried l) cycles
  batches l is_link = by_key (λ (x : Sent). cycle_of d x.start.0) cycles (carried l) ascends
      (λ x c. cycle_below d.cycle_time x.start.0 cycles (in_turn.before_end l x c))
    where
      -- its cycles ascend
      ascends : IsNonDecreasingBy (λ (x : Sent). cycle_of d x.start.0) (carried l)
      ascends i j z le inside =
          cycles_ordered d.cycle_time (get_or (carried l) i z).start.0 (get_or (carried l) j z).start.0 some (elim (cases_order i j) [
            | inl e ↦ omega (arith, ap (λ k. (get_or (carried l) k z).start.0) e)
            | inr o ↦ elim o [
              | inl less ↦ omega (arith, in_turn.in_order l is_link i j z less inside)
              | inr more ↦ absurd (omega (arith, more, le))
            ]
          ])
