-- A bridge whose ports start nothing in a cycle, and at which nothing arrives, has sent and received it by passing over it.
use Rattle.std.proofs.Common.{◌≡◌, ℕ, ◌+◌, ◌≤◌, ◌<◌, ◌++◌, Bool, true, false, List, [], ◌∷◌, Contains, sym, refl, ap}
use Rattle.std.proofs.Common.{◌∙◌, inl, inr, arith, subst, length, map, filter, append-nil, flat_map}
use Rattle.std.specs.Prelude.{◌==◌, nat_lt, suc, if◌then◌else◌}
use Rattle.std.specs.List.{zip}
use Rattle.std.proofs.lemmas.Bool.{le-ltb, lt-ltb}
use Rattle.std.proofs.lemmas.List.Elements.{filter-append}
use Rattle.cqf_lists.specs.Lists.{each_below}
use Rattle.cqf_lists.proofs.EachBelow.{filter_each, filter_none, none_below}
use Rattle.cqf_lists.proofs.Members.{contains_cases, contains_from_map, contains_here, contains_later, contains_none, contains_one}
use Rattle.cqf_model.specs.declared.frames.Sent.{Sent}
use Rattle.cqf_model.specs.Book.{drop_by, is_of_index}
use Rattle.cqf_model.specs.Domain.{enters}
use Rattle.cqf_model.specs.Port.{AreLegal, Transmission}
use Rattle.cqf_model.specs.Run.{Run}
use Rattle.cqf_model.specs.Policing.{Carried, Policed, Received, offer_received, police_all, sent_received}
use Rattle.cqf_laws_cycle.specs.BridgeCycle.{received_in}
use Rattle.cqf_laws_cycle.specs.Gathered.{FramesAreTakenInOrder, IsInOrderOf, gathered_in, offered_for}
use Rattle.cqf_laws_network.specs.PortLaws.{LegalPartIsLegal}
use Rattle.cqf_port.specs.NextStart.{StartsNext}
use Rattle.cqf_bridge.specs.Batch.{LinkBatch}
use Rattle.cqf_bridge.specs.BridgeState.{BridgeState, SendsCycle, background_from, batch_from, end_of_cycle, port_after, port_with}
use Rattle.cqf_bridge.specs.PortRecord.{AreDemanded, PortRecord, with_frames}
use Rattle.cqf_bridge.specs.Quiet.{IsQuiet, passed, rested}
use Rattle.cqf_bridge.specs.Receiving.{ReceivesCycle, carried_by, port_queued, verdicts_in}
use Rattle.cqf_plain.specs.Due.{IsNoted, Moments, NoneBefore}

-- up to an instant that isn't after its next start, a port starts nothing more
quiet_until : LegalPartIsLegal → (r : PortRecord) (end t : ℕ) → ((index s : ℕ) → Contains r.port.starts (index, s) → s < end) → end ≤ t →
    StartsNext r.port t → IsQuiet end r
quiet_until part r end t before upto next =
    let test = λ (x : Transmission). nat_lt x.1 end in
    let last : List Transmission = (next.index, t) ∷ [] in
    let same : filter test (r.port.starts ++ last) ≡ r.port.starts =
    filter-append test r.port.starts last
    ∙ (λ i. filter_each test r.port.starts (λ x h. lt-ltb x.1 end (before x.0 x.1 h)) i
    ++ filter_none test last (λ x h. ap (λ (y : Transmission). nat_lt y.1 end) (sym (contains_one (next.index, t) x h)) ∙ le-ltb t end upto) i)
    ∙ append-nil r.port.starts in
    subst (λ (xs : List Transmission). AreLegal r.port.rules r.port.arrivals end xs) same
    (part r.port.rules r.port.arrivals end (t + 1) (r.port.starts ++ last) (omega (arith, upto)) next.legal)

-- so a port that is recorded starts nothing before the least recorded start
pub noted_quiet : LegalPartIsLegal → (due : Moments) (r : PortRecord) (end : ℕ) → IsNoted due r → r.port.reached ≤ end →
    ((index s : ℕ) → Contains r.port.starts (index, s) → s < end) → NoneBefore end due → IsQuiet end r
noted_quiet part due r end noted from before none = elim noted [
  | inl never ↦ never end from
  | inr some ↦ quiet_until part r end some.0.0 before (none (some.0, r.link) some.2) some.1
]

-- its next start is that of the port that has rested
pub starts_rested : (r : PortRecord) (t end : ℕ) → StartsNext r.port t → end ≤ t → StartsNext (rested end r).port t
starts_rested r t end next upto = record { from_now = upto; index = next.index; legal = next.legal }

-- which is recorded then
pub noted_rested : (due : Moments) (r : PortRecord) (end : ℕ) → IsNoted due r → r.port.reached ≤ end → NoneBefore end due → IsNoted due (rested end r)
noted_rested due r end noted from none = elim noted [
  | inl never ↦ inl (λ later following. never later (omega (arith, from, following)))
  | inr some ↦ inr (some.0, starts_rested r some.0.0 end some.1 (none (some.0, r.link) some.2), some.2)
]

-- a port with nothing more recorded is unchanged
with_none : (r : PortRecord) → with_frames r [] ≡ r
with_none r = λ i. record {
  link = r.link;
  port = record { rules = r.port.rules; reached = r.port.reached; arrivals = append-nil r.port.arrivals i; starts = r.port.starts };
  streams = append-nil r.streams i;
}

-- a list without elements is empty
no_members : {X : Type 0} (xs : List X) → ((x : X) → Contains xs x → ⊥) → xs ≡ []
no_members [] h = refl
no_members (x ∷ xs) h = absurd (h x (contains_here x xs))

-- a flat map is empty if it is empty for each element
flat_none : {X Y : Type 0} (f : X → List Y) (xs : List X) → ((x : X) → Contains xs x → f x ≡ []) → flat_map f xs ≡ []
flat_none f [] h = refl
flat_none f (x ∷ xs) h = λ i. h x (contains_here x xs) i ++ flat_none f xs (λ y held. h y (contains_later x xs y held)) i

-- an empty list for each element
pub no_starts : {X Y : Type 0} → List X → List (List Y)
no_starts [] = []
no_starts (x ∷ xs) = [] ∷ no_starts xs

beside_none : {X : Type 0} (Y : Type 0) (xs : List X) → length (no_starts {X = X} {Y = Y} xs) ≡ length xs
unfolding no_starts
beside_none Y [] = refl
beside_none Y (x ∷ xs) = ap suc (beside_none Y xs)

from_beside : {X Y : Type 0} (xs : List X) (p : X × List Y) → Contains (zip xs (no_starts {X = X} {Y = Y} xs)) p → Contains xs p.0 × (p.1 ≡ [])
unfolding no_starts
from_beside [] p held = absurd (contains_none p held)
from_beside {X} {Y} (x ∷ xs) p held =
    let first : X × List Y = (x, []) in
    elim (contains_cases first (zip xs (no_starts {X = X} {Y = Y} xs)) p held) [
      | inl here ↦ (subst (Contains (x ∷ xs)) (ap (λ (q : X × List Y). q.0) here) (contains_here x xs), sym (ap (λ (q : X × List Y). q.1) here))
      | inr there ↦ (let w = from_beside {X = X} {Y = Y} xs p there in (contains_later x xs p.0 w.0, w.1))
    ]

map_beside : {X Y Z : Type 0} (f : X × List Y → Z) (g : X → Z) (xs : List X) → ((x : X) → f (x, []) ≡ g x) →
    map f (zip xs (no_starts {X = X} {Y = Y} xs)) ≡ map g xs
unfolding no_starts
map_beside f g [] same = refl
map_beside {X} {Y} {Z} f g (x ∷ xs) same = λ i. same x i ∷ map_beside {X = X} {Y = Y} {Z = Z} f g xs same i

-- a bridge halfway through a cycle in which its ports started nothing
abbrev pub halfway_past : ℕ → BridgeState → BridgeState
halfway_past cycle b = record {
  domain = b.domain;
  number = b.number;
  sent = b.sent + 1;
  received = b.received;
  spent = false;
  ports = map (rested (end_of_cycle b.domain cycle)) b.ports;
  background = [];
}

module _ (b : BridgeState) (cycle : ℕ) (quiet : (r : PortRecord) → Contains b.ports r → IsQuiet (end_of_cycle b.domain cycle) r) where
  -- its ports, each with no starts
  abbrev pub beside : List (PortRecord × List Transmission)
  beside = zip b.ports (no_starts b.ports)

  -- none are demanded of such a port
  demands_none : (p : PortRecord × List Transmission) → Contains beside p → AreDemanded (port_with [] p.0) (end_of_cycle b.domain cycle) p.1
  demands_none p held =
      let w = from_beside {X = PortRecord} {Y = Transmission} b.ports p held in
      let end = end_of_cycle b.domain cycle in
      subst (λ (made : List Transmission). AreDemanded (port_with [] p.0) end made) (sym w.1)
      (subst (λ (r : PortRecord). AreDemanded r end []) (sym (with_none p.0))
      (record {
        legal = subst (λ (xs : List Transmission). AreLegal p.0.port.rules p.0.port.arrivals end xs) (sym (append-nil p.0.port.starts)) (quiet p.0 w.0);
        later = λ index s none. absurd (contains_none {X = Transmission} (index, s) none);
      }))

  -- it rests
  rests : (r : PortRecord) → port_after b.domain cycle [] (r, []) ≡ rested (end_of_cycle b.domain cycle) r
  rests r = λ i. record {
    link = r.link;
    port = record {
      rules = r.port.rules;
      reached = end_of_cycle b.domain cycle;
      arrivals = append-nil r.port.arrivals i;
      starts = append-nil r.port.starts i;
    };
    streams = append-nil r.streams i;
  }

  -- its batches
  abbrev pub empty_batches : List LinkBatch
  empty_batches = map (batch_from cycle []) beside

  -- none has a frame
  pub batches_empty : (x : LinkBatch) → Contains empty_batches x → x.frames ≡ []
  batches_empty x held =
      let w = contains_from_map (batch_from cycle []) beside x held in
      let none = (from_beside {X = PortRecord} {Y = Transmission} b.ports w.0 w.1).1 in
      ap (λ (y : LinkBatch). y.frames) (sym w.2) ∙ ap (λ (made : List Transmission). (batch_from cycle [] (w.0.0, made)).frames) none

  -- so the bridge has sent the cycle
  pub sends_none : SendsCycle b (halfway_past cycle b) cycle [] [] empty_batches
  sends_none =
      let ports : map (port_after b.domain cycle []) beside ≡ map (rested (end_of_cycle b.domain cycle)) b.ports =
      map_beside (port_after b.domain cycle []) (rested (end_of_cycle b.domain cycle)) b.ports rests in
      let background : flat_map (background_from cycle []) beside ≡ [] =
      flat_none (background_from cycle []) beside (λ p held.
      ap (λ (made : List Transmission). background_from cycle [] (p.0, made)) (from_beside {X = PortRecord} {Y = Transmission} b.ports p held).1) in
      record {
        made = no_starts b.ports;
        one_each = beside_none Transmission b.ports;
        demanded = demands_none;
        bridge = λ i. record {
          domain = b.domain;
          number = b.number;
          sent = b.sent + 1;
          received = b.received;
          spent = false;
          ports = sym ports i;
          background = sym background i;
        };
        batches = refl;
      }

-- empty batches
abbrev no_batch : Carried
no_batch m = []

-- with them and no offers nothing arrives
brings_nothing : FramesAreTakenInOrder → (run : Run) (bridge cycle : ℕ) → 0 < run.domain.cycle_time →
    offered_for run.domain run.offers bridge cycle ≡ [] → received_in run no_batch bridge cycle ≡ []
brings_nothing in_order run bridge cycle some none =
    let d = run.domain in
    let empty : gathered_in run no_batch bridge cycle ≡ [] =
    (λ i. by_links i ++ map offer_received (none i)) in
    sym (in_order run no_batch bridge cycle [] some (λ m sent into h. absurd (contains_none sent h))
    (subst (λ (xs : List Received). IsInOrderOf (λ (x : Received). x.at) xs []) (sym empty)
    (record { in_order = λ i j z less below. absurd (omega (arith, below)); stable = λ k. refl })))
  where
    -- nothing arrives by a link
    by_link : (m : ℕ) (b : Bool) → (if b then map (sent_received run.domain m) (no_batch m) else []) ≡ []
    by_link m true = refl
    by_link m false = refl

    -- so nothing arrives by any link
    by_links : each_below (λ m. if enters run.domain m bridge then map (sent_received run.domain m) (no_batch m) else []) (length run.domain.links) ≡ []
    by_links = none_below _ (length run.domain.links) (λ m inside. by_link m (enters run.domain m bridge))

module _ (run : Run) (cycle : ℕ) (law : FramesAreTakenInOrder) (some : 0 < run.domain.cycle_time) (batches : List LinkBatch)
    (empty : (x : LinkBatch) → Contains batches x → x.frames ≡ []) where
  -- such batches carry nothing
  carry_none : (m : ℕ) → carried_by batches m ≡ []
  carry_none m = flat_none (λ (x : LinkBatch). if x.link == m then x.frames else []) batches (λ x held. if_none (x.link == m) x.frames (empty x held))
    where
      if_none : (t : Bool) (xs : List Sent) → xs ≡ [] → (if t then xs else []) ≡ []
      if_none true xs none = none
      if_none false xs none = refl

  -- so with them there are no verdicts at a bridge without offers
  pub verdicts_none : (bridge : ℕ) → offered_for run.domain run.offers bridge cycle ≡ [] → verdicts_in run bridge cycle batches ≡ []
  verdicts_none bridge none =
      let same : carried_by batches ≡ no_batch = λ i. λ m. carry_none m i in
      ap (police_all run.domain run.tables bridge [])
      (ap (λ (carried : Carried). received_in run carried bridge cycle) same ∙ brings_nothing law run bridge cycle some none)

  module _ (b : BridgeState) (none : offered_for run.domain run.offers b.number cycle ≡ []) (at : b.received ≡ cycle) (turn : b.sent ≡ b.received) where
    -- and the bridge has received the cycle
    pub receives_none : ReceivesCycle run (halfway_past cycle b) (passed cycle b) cycle batches []
    receives_none =
        let here = verdicts_none b.number none in
        let ports : map (port_queued run (verdicts_in run b.number cycle batches)) (halfway_past cycle b).ports ≡ (halfway_past cycle b).ports =
        ap (λ (ps : List Policed). map (port_queued run ps) (halfway_past cycle b).ports) here ∙ map_same_all (halfway_past cycle b).ports in
        record {
          bridge = λ i. record {
            domain = b.domain;
            number = b.number;
            sent = sym (turn ∙ at) i + 1;
            received = sym at i + 1;
            spent = false;
            ports = sym ports i;
            background = [];
          };
          none_lost = λ p held. absurd (contains_none p (subst (λ (ps : List Policed). Contains ps p) here held));
          drops = sym (none_below _ (length run.offers) (λ index inside.
              ap (λ (ps : List Policed). flat_map (λ (p : Policed). drop_by cycle b.number p.received p.verdict)
              (filter (is_of_index run.domain cycle index) ps)) here));
        }
      where
        -- each is unchanged
        map_same_all : (rs : List PortRecord) → map (port_queued run []) rs ≡ rs
        map_same_all [] = refl
        map_same_all (r ∷ rs) = λ i. with_none r i ∷ map_same_all rs i
