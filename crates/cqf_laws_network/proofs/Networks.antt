-- Legal networks: one exists, it is the only one, and a shorter run is the beginning of a longer one.
use Rattle.std.proofs.Common.{◌≡◌, ℕ, ◌*◌, ◌<◌, ◌≤◌, Bool, cond, List, length, sym, refl, ap, ap₂, ◌∙◌, inl, inr, arith, subst}
use std.Path.{fun_ext}
use Rattle.std.proofs.Math.Nat.{mul-le-mul_right}
use Rattle.std.specs.Prelude.{[], nat_lt, take, zero, suc}
use Rattle.std.specs.List.{flat_map}
use Rattle.std.proofs.lemmas.Bool.{cases_lt, le-ltb, lt-ltb, ltb-true}
use Rattle.std.proofs.lemmas.List.{get_or-take}
use Rattle.cqf_lists.proofs.EachBelow.{filter_none}
use Rattle.cqf_lists.proofs.Filters.{filter_weaker}
use Rattle.cqf_lists.proofs.Fronts.{Front, each_front, front_whole}
use Rattle.cqf_model.specs.declared.frames.Sent.{Sent}
use Rattle.cqf_model.specs.declared.ports.Start.{Start}
use Rattle.cqf_model.specs.declared.topology.Row.{Row}
use Rattle.cqf_model.specs.Domain.{octet_time_of}
use Rattle.cqf_model.specs.GateList.{Entry}
use Rattle.cqf_model.specs.Network.{IsLegalNetwork, Network, QueuedFrame, Sends, arrivals_of, backed_of, comes_before, comes_in, sent_of}
use Rattle.cqf_model.specs.Port.{AreLegal, PortRules}
use Rattle.cqf_model.specs.Run.{Run}
use Rattle.cqf_model.specs.Policing.{Carried}
use Rattle.cqf_model.proofs.Coming.{comes_in_late}
use Rattle.cqf_model.proofs.Legal.{none_at_0}
use Rattle.cqf_laws_network.specs.PortLaws.{LegalPartIsLegalForTheSamePast, LegalStartsExist, OnlyThePastCounts}
use Rattle.cqf_laws_network.specs.NetworkLaws.{CarryTheSame, HaveOnePast, HaveTheSameTables, IsShorter, SendTheSame, backed_before, carried_before}
use Rattle.cqf_laws_network.specs.NetworkLaws.{network_before, sent_before, with_tables}
use Rattle.cqf_laws_network.proofs.Came.{Late, one_front, ports_by_past}
use Rattle.cqf_laws_network.proofs.Ports.{backed_before_end, port_part, port_past, sends_before_end}

-- nothing is sent before instant 0
sent_before_0 : (sents : List Sent) → sent_before 0 sents ≡ []
sent_before_0 sents = filter_none (λ (sent : Sent). nat_lt sent.start.0 0) sents (λ sent h. le-ltb sent.start.0 0 (omega arith))

-- what is sent before an instant, taken from what is sent before a later one
pub sent_before_less : (t n : ℕ) (sents : List Sent) → t ≤ n → sent_before t (sent_before n sents) ≡ sent_before t sents
sent_before_less t n sents le =
    sym (filter_weaker (λ (sent : Sent). nat_lt sent.start.0 t) (λ (sent : Sent). nat_lt sent.start.0 n) sents
    (λ sent c h. lt-ltb sent.start.0 n (omega (arith, le, ltb-true sent.start.0 t h))))

-- two networks are equal if each link sends the same in both, of both kinds
one_network : (net other : Network) → ((l : ℕ) → net.carried l ≡ other.carried l) → ((l : ℕ) → net.backed l ≡ other.backed l) → net ≡ other
one_network net other carried backed =
    let by : Carried → (ℕ → List Start) → Network = λ c b. record { carried = c; backed = b } in
    ap₂ by (fun_ext carried) (fun_ext backed)

-- each link of the domain sends what is legal up to an instant, for what comes in the run's cycles
abbrev IsLegalUntil : Run → (ℕ → List Entry) → ℕ → ℕ → Network → Type 0
IsLegalUntil run lists cycles end net = (l : ℕ) → l < length run.domain.links →
    Sends run.domain (lists l) end l (comes_before run net.carried l cycles) (net.carried l) (net.backed l)

module _ (run : Run) (lists : ℕ → List Entry) (cycles : ℕ) where
  -- two networks that are legal up to an end send the same before each instant up to it
  both_until : OnlyThePastCounts → (end t : ℕ) (net other : Network) → IsLegalUntil run lists cycles end net → IsLegalUntil run lists cycles end other →
      suc t ≤ end → CarryTheSame run.domain t net.carried other.carried → (l : ℕ) → l < length run.domain.links →
      SendTheSame (suc t) (net.carried l) (other.carried l) (net.backed l) (other.backed l)
  both_until past end t net other a b le alike l h =
      let f = one_front run net.carried other.carried t alike l (suc t) cycles (omega arith) in
      port_past run.domain (lists l) l (suc t) end (comes_before run net.carried l cycles) (comes_before run other.carried l cycles) f.front (net.carried l)
      (net.backed l) f.first f.second (a l h) past end (other.carried l) (other.backed l) le le (b l h)

  -- the links carry the same streams' frames before each instant up to the end
  same_until : OnlyThePastCounts → (end : ℕ) (net other : Network) → IsLegalUntil run lists cycles end net → IsLegalUntil run lists cycles end other → (t : ℕ) →
      t ≤ end → CarryTheSame run.domain t net.carried other.carried
  same_until past end net other a b zero le l h = sent_before_0 (net.carried l) ∙ sym (sent_before_0 (other.carried l))
  same_until past end net other a b (suc t) le l h =
      (both_until past end t net other a b le (same_until past end net other a b t (omega (arith, le))) l h).sent

  -- and at the end they send the same of both kinds
  same_at_end : OnlyThePastCounts → (end : ℕ) (net other : Network) → IsLegalUntil run lists cycles end net → IsLegalUntil run lists cycles end other →
      (l : ℕ) → l < length run.domain.links → SendTheSame end (net.carried l) (other.carried l) (net.backed l) (other.backed l)
  same_at_end past end net other a b l h =
      let f = one_front run net.carried other.carried end (same_until past end net other a b end (omega arith)) l end cycles (omega arith) in
      port_past run.domain (lists l) l end end (comes_before run net.carried l cycles) (comes_before run other.carried l cycles) f.front (net.carried l)
      (net.backed l) f.first f.second (a l h) past end (other.carried l) (other.backed l) (omega arith) (omega arith) (b l h)

  -- legal networks are unique
  pub network_same : OnlyThePastCounts → (net other : Network) → IsLegalNetwork run lists cycles net → IsLegalNetwork run lists cycles other → net ≡ other
  network_same past net other a b =
      let d = run.domain in
      let end = cycles * d.cycle_time in
      let came = λ (l : ℕ). comes_before run net.carried l cycles in
      let came_other = λ (l : ℕ). comes_before run other.carried l cycles in
      one_network net other
      (λ l. elim (cases_lt l (length d.links)) [
        | inl h ↦
            sym (sends_before_end d (lists l) l end (came l) (net.carried l) (net.backed l) (a.sends l h))
            ∙ (same_at_end past end net other a.sends b.sends l h).sent
            ∙ sends_before_end d (lists l) l end (came_other l) (other.carried l) (other.backed l) (b.sends l h)
        | inr g ↦ (a.no_others l g).0 ∙ sym (b.no_others l g).0
      ])
      (λ l. elim (cases_lt l (length d.links)) [
        | inl h ↦
            sym (backed_before_end d (lists l) l end (came l) (net.carried l) (net.backed l) (a.sends l h))
            ∙ (same_at_end past end net other a.sends b.sends l h).background
            ∙ backed_before_end d (lists l) l end (came_other l) (other.carried l) (other.backed l) (b.sends l h)
        | inr g ↦ (a.no_others l g).1 ∙ sym (b.no_others l g).1
      ])

  -- what arrives at a port in the run is the front of what arrives in a longer one
  longer_front : (carried : Carried) (l longer : ℕ) → cycles ≤ longer →
      Front (comes_before run carried l longer) (comes_before run carried l cycles) (Late (cycles * run.domain.cycle_time))
  longer_front carried l longer le =
      let f = each_front (comes_in run carried l) cycles longer le in
      record {
        rest = f.rest;
        is = f.is;
        late = λ x h.
            let w = f.late x h in
            let begun : cycles * run.domain.cycle_time ≤ w.0 * run.domain.cycle_time = mul-le-mul_right run.domain.cycle_time w.1 in
            omega (arith, begun, comes_in_late run carried l w.0 x w.3);
      }

  -- a longer run's beginning is legal
  pub beginning : LegalPartIsLegalForTheSamePast → (others : List (List Row)) (longer : ℕ) (net : Network) → IsShorter cycles longer run.tables others →
      IsLegalNetwork run lists longer net → IsLegalNetwork (with_tables run others) lists cycles (network_before (cycles * run.domain.cycle_time) net)
  beginning part others longer net shorter legal =
      let d = run.domain in
      let n = cycles * d.cycle_time in
      let short = carried_before n net.carried in
      let past : HaveOnePast run others net.carried short cycles =
      record { tables = shorter.tables_same; links = λ m k. sym (sent_before_less n n (net.carried m) (omega arith)) } in
      record {
        sends = λ l h.
            let ys = comes_before (with_tables run others) short l cycles in
            let e : comes_before run net.carried l cycles ≡ ys = ports_by_past run others net.carried short cycles l past in
            let front = subst (λ (xs : List QueuedFrame). Front (comes_before run net.carried l longer) xs (Late n)) e
            (longer_front net.carried l longer shorter.fewer) in
            port_part d (lists l) l n (longer * d.cycle_time) (comes_before run net.carried l longer) ys ys (net.carried l) (net.backed l) front
            (front_whole ys ys (Late n) refl) (legal.sends l h) part (mul-le-mul_right d.cycle_time shorter.fewer);
        no_others = λ l g. (ap (sent_before n) (legal.no_others l g).0, ap (backed_before n) (legal.no_others l g).1);
      }

  -- a network that is legal up to an instant can be continued
  longer_until : LegalPartIsLegalForTheSamePast → OnlyThePastCounts → LegalStartsExist → (end : ℕ) (net : Network) → IsLegalUntil run lists cycles end net →
      (more : Network) × IsLegalUntil run lists cycles (suc end) more
  longer_until part past exist end net legal =
      let d = run.domain in
      let queue = λ (l : ℕ). comes_before run net.carried l cycles in
      let rules : ℕ → PortRules = λ l. record { entries = lists l; octet_time = octet_time_of d l } in
      let starts = λ (l : ℕ). (exist (rules l) (arrivals_of (queue l)) (suc end)).0 in
      let more : Network = record { carried = λ l. flat_map (sent_of (queue l)) (starts l); backed = λ l. flat_map (backed_of (queue l)) (starts l) } in
      let sends : (l : ℕ) → Sends d (lists l) (suc end) l (queue l) (more.carried l) (more.backed l) =
      λ l. record { starts = starts l; legal = (exist (rules l) (arrivals_of (queue l)) (suc end)).1; are_sent = refl; are_backed = refl } in
      let alike : CarryTheSame d end net.carried more.carried =
      λ l h. (port_past d (lists l) l end end (queue l) (queue l) (queue l) (net.carried l) (net.backed l) (front_whole (queue l) (queue l) (Late end) refl)
      (front_whole (queue l) (queue l) (Late end) refl) (legal l h) past (suc end) (more.carried l) (more.backed l) (omega arith) (omega arith)
      (sends l)).sent in (
        more,
        λ l h.
            let f = one_front run net.carried more.carried end alike l (suc end) cycles (omega arith) in
            let ys = comes_before run more.carried l cycles in
            let part_sends : Sends d (lists l) (suc end) l ys (sent_before (suc end) (more.carried l)) (backed_before (suc end) (more.backed l)) =
            port_part d (lists l) l (suc end) (suc end) (queue l) ys f.front (more.carried l) (more.backed l) f.first f.second (sends l) part (omega arith) in
            subst (λ (sents : List Sent). Sends d (lists l) (suc end) l ys sents (more.backed l))
            (sends_before_end d (lists l) l (suc end) (queue l) (more.carried l) (more.backed l) (sends l))
            (subst (λ (backed : List Start). Sends d (lists l) (suc end) l ys (sent_before (suc end) (more.carried l)) backed)
            (backed_before_end d (lists l) l (suc end) (queue l) (more.carried l) (more.backed l) (sends l)) part_sends),
      )

  -- some network is legal up to each instant
  some_until : LegalPartIsLegalForTheSamePast → OnlyThePastCounts → LegalStartsExist → (end : ℕ) → (net : Network) × IsLegalUntil run lists cycles end net
  some_until part past exist zero =
      let nothing : Network = record { carried = λ l. []; backed = λ l. [] } in
      let rules : ℕ → PortRules = λ l. record { entries = lists l; octet_time = octet_time_of run.domain l } in (
        nothing,
        λ l h.
            let arrivals = arrivals_of (comes_before run nothing.carried l cycles) in
            let w = exist (rules l) arrivals 0 in
            record {
              starts = [];
              legal = subst (AreLegal (rules l) arrivals 0) (none_at_0 (rules l) arrivals 0 w.0 refl w.1) w.1;
              are_sent = refl;
              are_backed = refl;
            },
      )
  some_until part past exist (suc end) =
      let w = some_until part past exist end in longer_until part past exist end w.0 w.1

  -- a network without other links than the domain's
  abbrev only_links : Network → Network
  only_links net = record {
    carried = λ l. cond (nat_lt l (length run.domain.links)) (net.carried l) [];
    backed = λ l. cond (nat_lt l (length run.domain.links)) (net.backed l) [];
  }

  -- for a link of the domain the list is kept
  kept : {X : Type 0} (xs : List X) (l : ℕ) → l < length run.domain.links → xs ≡ cond (nat_lt l (length run.domain.links)) xs []
  kept xs l h = sym (ap (λ (b : Bool). cond b xs []) (lt-ltb l (length run.domain.links) h))

  -- for any other number it is empty
  left_out : {X : Type 0} (xs : List X) (l : ℕ) → length run.domain.links ≤ l → cond (nat_lt l (length run.domain.links)) xs [] ≡ []
  left_out xs l g = ap (λ (b : Bool). cond b xs []) (le-ltb l (length run.domain.links) g)

  -- a legal network exists
  pub network_exists : LegalPartIsLegalForTheSamePast → OnlyThePastCounts → LegalStartsExist → (net : Network) × IsLegalNetwork run lists cycles net
  network_exists part past exist =
      let d = run.domain in
      let end = cycles * d.cycle_time in
      let w = some_until part past exist end in
      let net = only_links w.0 in
      let one_past : HaveOnePast run run.tables w.0.carried net.carried cycles =
      record { tables = λ cycle h. refl; links = λ l h. ap (sent_before end) (kept (w.0.carried l) l h) } in (
        net,
        record {
          sends = λ l h.
              let queue = comes_before run w.0.carried l cycles in
              let same : queue ≡ comes_before run net.carried l cycles = ports_by_past run run.tables w.0.carried net.carried cycles l one_past in
              subst (λ (xs : List QueuedFrame). Sends d (lists l) end l xs (net.carried l) (net.backed l)) same
              (subst (λ (backed : List Start). Sends d (lists l) end l queue (net.carried l) backed) (kept (w.0.backed l) l h)
              (subst (λ (sents : List Sent). Sends d (lists l) end l queue sents (w.0.backed l)) (kept (w.0.carried l) l h) (w.1 l h)));
          no_others = λ l g. (left_out (w.0.carried l) l g, left_out (w.0.backed l) l g);
        },
      )

-- the first tables alone are the same
pub first_tables : (cycles : ℕ) (tables : List (List Row)) → HaveTheSameTables cycles tables (take cycles tables)
first_tables cycles tables cycle l = sym (get_or-take cycles tables cycle [] l)
