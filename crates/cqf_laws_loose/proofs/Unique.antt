-- If frames arrive in given ways, there is only one loose network.
use Rattle.cqf_model.proofs.Links.{guard_within}
use Rattle.std.proofs.Common.{◌≡◌, ℕ, ◌+◌, ◌-◌, ◌*◌, ◌<◌, ◌≤◌, List, length, sym, refl, ap, ◌∙◌, inl, inr, arith, subst}
use Rattle.std.specs.Prelude.{[], ◌++◌, nat_lt, zero, suc}
use Rattle.std.specs.List.{flat_map}
use Rattle.std.proofs.Math.Nat.{mul-le-mul_right}
use Rattle.std.proofs.lemmas.Bool.{cases_lt, le-ltb, lt-ltb}
use Rattle.std.proofs.lemmas.List.{append-nil}
use Rattle.cqf_lists.specs.Lists.{each_below}
use Rattle.cqf_lists.proofs.EachBelow.{below_plus, contains_from_below, filter_each, filter_none}
use Rattle.cqf_lists.proofs.Members.{contains_none}
use Rattle.cqf_model.specs.declared.frames.Sent.{Sent}
use Rattle.cqf_model.specs.Domain.{guard_of, octet_time_of}
use Rattle.cqf_model.specs.Network.{Network, QueuedFrame, Sends, arrivals_of, backed_in, backed_of, comes_before, comes_in, compiled_lists, sent_of}
use Rattle.cqf_model.specs.Port.{Transmission}
use Rattle.cqf_model.specs.Run.{Run}
use Rattle.cqf_model.proofs.Coming.{comes_in_late}
use Rattle.cqf_model.proofs.Sending.{sent_within}
use Rattle.cqf_laws_network.specs.PortLaws.{LateArrivalChangesNothing, LegalStartsExist}
use Rattle.cqf_laws_network.specs.NetworkLaws.{CarryTheSame, PortGoesByThePast, SendTheSame, Sending, sent_before}
use Rattle.cqf_laws_cycle.specs.Compiled.{PortListIsOpen}
use Rattle.cqf_laws_cycle.specs.PortCycle.{waits_in}
use Rattle.cqf_laws_cycle.proofs.PortCycles.{sends_of_all}
use Rattle.cqf_laws_shift.proofs.CycleLaws.{CycleLaws}
use Rattle.cqf_laws_loose.specs.LooseLaws.{LooseNetworkIsUnique}
use Rattle.cqf_laws_loose.specs.LooseRuns.{heard_by}
use Rattle.cqf_laws_loose.proofs.Exists.{GoesSo, NoSooner, comes_same, transit_heard}

-- before the beginning nothing is sent
none_sent : (n : ℕ) (sents : List Sent) → sent_before (0 * n) sents ≡ []
none_sent n sents = filter_none (λ (sent : Sent). nat_lt sent.start.0 (0 * n)) sents (λ x c. le-ltb x.start.0 (0 * n) (omega arith))

module _ (exist : LegalStartsExist) (late : LateArrivalChangesNothing) (port : PortGoesByThePast) (laws : CycleLaws) (opens : PortListIsOpen) (run : Run)
    (noted : ℕ → Sent → Sent) (short : (l : ℕ) → guard_of run.domain l < run.domain.cycle_time) (later : NoSooner run.domain noted) where
  -- what a port starts of some frames up to an end
  abbrev starts : ℕ → List QueuedFrame → ℕ → List Transmission
  starts l queued end = (exist (record { entries = compiled_lists run.domain l; octet_time = octet_time_of run.domain l }) (arrivals_of queued) end).0

  -- these starts are legal
  sends_some : (l : ℕ) (queued : List QueuedFrame) (end : ℕ) →
      Sends run.domain (compiled_lists run.domain l) end l queued (flat_map (sent_of queued) (starts l queued end)) (flat_map (backed_of queued) (starts l queued end))
  sends_some l queued end = record {
    starts = starts l queued end;
    legal = (exist (record { entries = compiled_lists run.domain l; octet_time = octet_time_of run.domain l }) (arrivals_of queued) end).1;
    are_sent = refl;
    are_backed = refl;
  }

  -- up to the end of a cycle a link sends what its port starts of what it has when it sends the cycle
  by_cycle : (cycles : ℕ) (net : Network) → GoesSo run noted cycles net → (c l : ℕ) → c < cycles → l < length run.domain.links →
      SendTheSame ((c + 1) * run.domain.cycle_time) (net.carried l)
      (flat_map (sent_of (waits_in run (heard_by noted net.carried) l c)) (starts l (waits_in run (heard_by noted net.carried) l c) ((c + 1) * run.domain.cycle_time)))
      (net.backed l)
      (flat_map (backed_of (waits_in run (heard_by noted net.carried) l c)) (starts l (waits_in run (heard_by noted net.carried) l c) ((c + 1) * run.domain.cycle_time)))
  by_cycle cycles net so c l less h =
      let d = run.domain in
      let n = run.domain.cycle_time in
      let heard = heard_by noted net.carried in
      let last = (c + 1) * n in
      let queued = waits_in run heard l c in
      let front = comes_before run heard l (c + 1) in
      let more = cycles - (c + 1) in
      let rest = each_below (λ k. comes_in run heard l (c + 1 + k)) more in
      let all : cycles ≡ c + 1 + more = omega (arith, less) in
      let parts : comes_before run heard l cycles ≡ front ++ rest = ap (comes_before run heard l) all ∙ below_plus (comes_in run heard l) (c + 1) more in
      let one : Sending d (compiled_lists d l) l (front ++ rest) =
      record {
        end = cycles * n;
        sents = net.carried l;
        backed = net.backed l;
        sends = subst (λ (xs : List QueuedFrame). Sends d (compiled_lists d l) (cycles * n) l xs (net.carried l) (net.backed l)) parts (so.sends l h);
      } in
      let sents = flat_map (sent_of queued) (starts l queued last) in
      let backed = flat_map (backed_of queued) (starts l queued last) in
      let other : Sending d (compiled_lists d l) l (front ++ []) =
      record {
        end = last;
        sents = sents;
        backed = backed;
        sends = subst (λ (xs : List QueuedFrame). Sends d (compiled_lists d l) last l xs sents backed) (sym (append-nil front))
            (sends_of_all late laws.gives opens run heard c l sents backed (short l) h (sends_some l queued last));
      } in
      let upto : last ≤ cycles * n = mul-le-mul_right n (omega (arith, less)) in
      port d (compiled_lists d l) l last front rest []
      (λ x m. let k = contains_from_below (λ k. comes_in run heard l (c + 1 + k)) more x m in
      let begins : (c + 1) * n ≤ (c + 1 + k.0) * n = mul-le-mul_right n (omega arith) in
      omega (arith, begins, comes_in_late run heard l (c + 1 + k.0) x k.2))
      (λ x m. absurd (contains_none x m)) one other upto (omega arith)

  module _ (cycles : ℕ) (net other : Network) (so : GoesSo run noted cycles net) (and_so : GoesSo run noted cycles other) where
    -- the links send the same before each cycle
    pub carry_the_same : (c : ℕ) → c ≤ cycles → CarryTheSame run.domain (c * run.domain.cycle_time) net.carried other.carried
    carry_the_same zero upto l h = none_sent run.domain.cycle_time (net.carried l) ∙ sym (none_sent run.domain.cycle_time (other.carried l))
    carry_the_same (suc c) upto l h =
        let one = by_cycle cycles net so c l (omega (arith, upto)) h in
        let two = by_cycle cycles other and_so c l (omega (arith, upto)) h in
        let last = (c + 1) * run.domain.cycle_time in
        let waits : waits_in run (heard_by noted net.carried) l c ≡ waits_in run (heard_by noted other.carried) l c =
        ap (λ (xs : List QueuedFrame). xs ++ backed_in run.domain run.background l c)
        (comes_same run noted later net.carried other.carried c (carry_the_same c (omega (arith, upto))) l) in
        let same = one.sent ∙ ap (λ (xs : List QueuedFrame). sent_before last (flat_map (sent_of xs) (starts l xs last))) waits ∙ sym two.sent in
        let e : c + 1 ≡ suc c = omega arith in
        subst (λ z. sent_before (z * run.domain.cycle_time) (net.carried l) ≡ sent_before (z * run.domain.cycle_time) (other.carried l)) e same

    -- so in all they send the same
    pub same_carried : (l : ℕ) → net.carried l ≡ other.carried l
    same_carried l = elim (cases_lt l (length run.domain.links)) [
      | inr past ↦ (so.no_others l past).0 ∙ sym (and_so.no_others l past).0
      | inl h ↦
          let end = cycles * run.domain.cycle_time in
          let all : (it : Network) → GoesSo run noted cycles it → sent_before end (it.carried l) ≡ it.carried l =
          λ it goes. filter_each (λ (sent : Sent). nat_lt sent.start.0 end) (it.carried l) (λ x c. lt-ltb x.start.0 end
          (sent_within run.domain (compiled_lists run.domain l) end l (comes_before run (heard_by noted it.carried) l cycles) (it.carried l) (it.backed l)
          (goes.sends l h) x c)) in
          sym (all net so) ∙ carry_the_same cycles (omega arith) l h ∙ all other and_so
    ]

-- the law
pub loose_network_is_unique : LegalStartsExist → LateArrivalChangesNothing → PortGoesByThePast → CycleLaws → PortListIsOpen → LooseNetworkIsUnique
loose_network_is_unique exist late port laws opens run slack noted net other transit one two =
    let later : NoSooner run.domain noted = λ l sent h. (transit_heard run.domain slack noted one.accepted transit l sent h).no_sooner in
    let so : GoesSo run noted (length run.tables) net = one.loose.goes in
    let and_so : GoesSo run noted (length run.tables) other = two.loose.goes in
    λ l. same_carried exist late port laws opens run noted (λ l. guard_within run.domain l one.accepted.accepted) later (length run.tables) net other so and_so l
