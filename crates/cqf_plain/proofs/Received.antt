-- The bridges receive a cycle one after the other.
use Rattle.std.proofs.Common.{◌≡◌, ℕ, ◌+◌, ◌<◌, ◌++◌, List, [], length, get_or, set, sym, ap, refl, ◌∙◌, inl, inr}
use Rattle.std.proofs.Common.{arith, subst, append-nil, append_assoc, Contains}
use Rattle.std.specs.Prelude.{suc}
use Rattle.std.proofs.lemmas.Bool.{cases_eq}
use Rattle.cqf_lists.proofs.Members.{contains_at}
use Rattle.cqf_model.specs.declared.frames.Dropped.{Dropped}
use Rattle.cqf_model.specs.declared.frames.Offered.{Offered}
use Rattle.cqf_model.specs.declared.topology.Row.{Row}
use Rattle.cqf_model.specs.Domain.{Domain}
use Rattle.cqf_model.specs.Network.{IsLoss, Network}
use Rattle.cqf_model.specs.Run.{Run}
use Rattle.cqf_model.specs.Policing.{Policed}
use Rattle.cqf_laws_cycle.specs.BridgeCycle.{policed_of}
use Rattle.cqf_laws_cycle.specs.Gathered.{offered_for}
use Rattle.cqf_admission.specs.Tables.{CycleTable}
use Rattle.cqf_bridge.specs.declared.faults.BridgeFault.{BridgeFault}
use Rattle.cqf_bridge.specs.declared.faults.BridgeFault.TheVariants as fault
use Rattle.cqf_bridge.specs.Batch.{LinkBatch}
use Rattle.cqf_bridge.specs.BridgeState.{BridgeState}
use Rattle.cqf_bridge.specs.Receiving.{AreBatchesOf, Handed, IsReceiveFault, IsRunOfBridge, ReceivesCycle, verdicts_in}
use Rattle.cqf_agenda.specs.Agenda.{AgendaOf, IsAgendaOf, offers_listed_at}
use Rattle.cqf_bridge.specs.Cycles.{GivesTheDrops, OffersAreOfTheBridge, ReceivingFollows, drops_of_cycle}
use Rattle.cqf_bridge.specs.Follows.{batches_into}
use Rattle.cqf_bridge.specs.Verdicts.{LosesNothingIn, UnlostBatchesMayCome, VerdictsAreTheRuns}
use Rattle.cqf_plain.specs.declared.driven.RunBridge.{RunBridge}
use Rattle.cqf_plain.specs.declared.faults.RunFault.{RunFault}
use Rattle.cqf_plain.specs.declared.faults.RunFault.TheVariants.{WrongTables, Inside, Memory}
use Rattle.cqf_plain.specs.Driven.{AllStandBefore, AllStandHalfway, FirstLoseNothing, HasCome, IsCycleOf, IsTableOf}
use Rattle.cqf_plain.specs.Driven.{ReceivesOne, StandsBeforeCycle, StandsHalfway, all_of, drops_of_first}
use Rattle.cqf_plain.specs.Losing.{IsFaultAtBridge, IsFaultInCycle}
use Rattle.cqf_plain.proofs.Turning.{all_turned, next_was, none_turned, one_turned}
use Rattle.cqf_plain.proofs.Turning.{AreTurned}

-- a refused call leaves the bridge's domain and number
pub same_bridge : (run : Run) (before after : BridgeState) (cycle : ℕ) (handed : Handed) (f : BridgeFault) → IsReceiveFault run before after cycle handed f →
    (after.domain ≡ before.domain) × (after.number ≡ before.number)
same_bridge run before after cycle handed fault.Spent h = (ap (λ (b : BridgeState). b.domain) h.1, ap (λ (b : BridgeState). b.number) h.1)
same_bridge run before after cycle handed fault.WrongCycle h = (ap (λ (b : BridgeState). b.domain) h.2, ap (λ (b : BridgeState). b.number) h.2)
same_bridge run before after cycle handed fault.StrangeBatch h = (ap (λ (b : BridgeState). b.domain) h.2, ap (λ (b : BridgeState). b.number) h.2)
same_bridge run before after cycle handed (fault.OverOctets frame) h = (h.2.domain, h.2.number)
same_bridge run before after cycle handed fault.Memory h = (h.1.domain, h.1.number)

module _ (run : Run) (net : Network) (table : CycleTable) (of : IsCycleOf run net table.cycle) (is_table : IsTableOf run table) where
  abbrev cycle : ℕ
  cycle = table.cycle

  module _ (bridge : ℕ) (s : RunBridge) (st : StandsHalfway run net cycle (all_of run net cycle) bridge s) (batches : List LinkBatch) (offers : List Offered)
      (are : batches ≡ s.inbox.items) (offered : offers ≡ offers_listed_at s.agenda cycle) where
    batches_are : batches ≡ batches_into run.domain net.carried bridge cycle
    batches_are = are ∙ st.came_are

    -- the bridge's own number
    into_own : batches ≡ batches_into run.domain net.carried s.bridge.number cycle
    into_own = batches_are ∙ ap (λ (n : ℕ). batches_into run.domain net.carried n cycle) (sym st.own.number)

    -- the run's input for the bridge is given to it
    pub run_so : OffersAreOfTheBridge → IsRunOfBridge s.bridge.domain s.bridge.number cycle table.rows offers run
    run_so law =
        subst (λ (xs : List Offered). IsRunOfBridge s.bridge.domain s.bridge.number cycle table.rows xs run) (sym (offered ∙ st.own.agenda.offers_are cycle))
        (subst (λ (n : ℕ). IsRunOfBridge s.bridge.domain n cycle table.rows (offered_for run.domain run.offers bridge cycle) run) (sym st.own.number)
        (subst (λ (rows : List Row). IsRunOfBridge s.bridge.domain bridge cycle rows (offered_for run.domain run.offers bridge cycle) run) is_table.rows
        (law s.bridge.domain run bridge cycle st.own.domain of.offers)))

    -- the verdicts are those of the run
    verdicts_are : VerdictsAreTheRuns → verdicts_in run s.bridge.number cycle batches ≡ policed_of run net.carried bridge cycle
    verdicts_are law =
        (λ i. verdicts_in run (st.own.number i) cycle (batches_are i)) ∙ law run (length run.tables) cycle bridge net of.compiled

    -- it receives the cycle
    pub received_so : ReceivingFollows → VerdictsAreTheRuns → (after : RunBridge) (drops : List Dropped) →
        ReceivesCycle run s.bridge after.bridge cycle batches drops → after.agenda ≡ s.agenda → after.inbox.items ≡ [] →
        ReceivesOne run net cycle bridge after drops
    received_so law verdicts after drops receives agenda none =
        let gives : GivesTheDrops run cycle net s.bridge after.bridge drops =
        law run (length run.tables) cycle net s.bridge after.bridge drops (record {
          compiled = of.compiled;
          has_sent = st.has_sent;
          next = sym st.own.received;
          receives = subst (λ (bs : List LinkBatch). ReceivesCycle run s.bridge after.bridge cycle bs drops) into_own receives;
        }) in
        record {
          stands = record {
            own = record {
              domain = gives.follows.of_run.domain;
              number = gives.number ∙ st.own.number;
              received = gives.one_on;
              agenda = subst (λ (a : AgendaOf). IsAgendaOf run.domain run.offers run.background bridge a) (sym agenda) st.own.agenda;
            };
            follows = gives.follows;
            none_came = none;
          };
          are_drops = gives.are_drops ∙ ap (λ (n : ℕ). drops_of_cycle run net n cycle) st.own.number;
          none_lost = λ p held. receives.none_lost p (subst (λ (ps : List Policed). Contains ps p) (sym (verdicts_are verdicts)) held);
        }

    -- or it doesn't
    module _ (after : RunBridge) (f : BridgeFault)
        (refused : IsReceiveFault run s.bridge after.bridge cycle (record { table_cycle = table.cycle; rows = table.rows; batches = batches }) f) where
      -- then all batches have arrived at it
      pub come_so : after.agenda ≡ s.agenda → after.inbox.items ≡ s.inbox.items → HasCome run net cycle bridge after
      come_so agenda inbox =
          let same = same_bridge run s.bridge after.bridge cycle (record { table_cycle = table.cycle; rows = table.rows; batches = batches }) f refused in
          record {
            domain = same.0 ∙ st.own.domain;
            number = same.1 ∙ st.own.number;
            agenda = subst (λ (a : AgendaOf). IsAgendaOf run.domain run.offers run.background bridge a) (sym agenda) st.own.agenda;
            came_are = inbox ∙ st.came_are;
          }

    -- and unless memory was refused, one of their frames is lost
    pub lost_so : VerdictsAreTheRuns → UnlostBatchesMayCome → (after : BridgeState) (f : BridgeFault) →
        IsReceiveFault run s.bridge after cycle (record { table_cycle = table.cycle; rows = table.rows; batches = batches }) f → (f ≡ fault.Memory → ⊥) →
        LosesNothingIn run net bridge cycle → ⊥
    lost_so verdicts may_come after fault.Spent refused other none = absurd (cc (refused.0, st.has_sent.of_run.not_spent))
    lost_so verdicts may_come after fault.WrongCycle refused other none =
        refused.1 (sym st.own.received, st.has_sent.turn, refl)
    lost_so verdicts may_come after fault.StrangeBatch refused other none =
        refused.1
        (subst (λ (bs : List LinkBatch). AreBatchesOf s.bridge.domain s.bridge.number cycle table.rows bs) (sym batches_are)
        (subst (λ (n : ℕ). AreBatchesOf s.bridge.domain n cycle table.rows (batches_into run.domain net.carried bridge cycle)) (sym st.own.number)
        (subst (λ (d : Domain). AreBatchesOf d bridge cycle table.rows (batches_into run.domain net.carried bridge cycle)) (sym st.own.domain)
        (subst (λ (rows : List Row). AreBatchesOf run.domain bridge cycle rows (batches_into run.domain net.carried bridge cycle)) is_table.rows
        (may_come run (length run.tables) cycle bridge net of.compiled none)))))
    lost_so verdicts may_come after (fault.OverOctets frame) refused other none =
        let over = refused.1 in
        let among : Contains (policed_of run net.carried bridge cycle) over.over =
        subst (λ (ps : List Policed). Contains ps over.over) (verdicts_are verdicts)
        (contains_at (verdicts_in run s.bridge.number cycle batches) over.index over.over over.there) in
        none over.over among (subst IsLoss (sym over.exceeds) tt)
    lost_so verdicts may_come after fault.Memory refused other none = other refl

  -- the first bridges have received it
  pub record FirstHaveReceived (count : ℕ) (bridges : List RunBridge) (drops drops_after : List Dropped) : Type 0 where
    pub turned : AreTurned (StandsHalfway run net cycle (all_of run net cycle)) (StandsBeforeCycle run net (cycle + 1))
        (length run.domain.bridges) count bridges
    pub dropped : drops_after ≡ drops ++ drops_of_first run net cycle count
    pub none_lost : FirstLoseNothing run net cycle count

  -- at first none has
  pub none_received : (bridges : List RunBridge) (drops : List Dropped) → AllStandHalfway run net cycle (all_of run net cycle) bridges →
      FirstHaveReceived 0 bridges drops drops
  none_received bridges drops all = record {
    turned = none_turned (StandsHalfway run net cycle (all_of run net cycle)) (StandsBeforeCycle run net (cycle + 1)) (length run.domain.bridges) bridges all;
    dropped = sym (append-nil drops);
    none_lost = λ bridge below. absurd (omega (arith, below));
  }

  -- the next is still halfway through it
  pub next_receives : (count : ℕ) (bridges : List RunBridge) (drops now : List Dropped) (x : RunBridge) → FirstHaveReceived count bridges drops now →
      count < length run.domain.bridges → x ≡ get_or bridges count x → StandsHalfway run net cycle (all_of run net cycle) count x
  next_receives count bridges drops now x so inside is =
      next_was (StandsHalfway run net cycle (all_of run net cycle)) (StandsBeforeCycle run net (cycle + 1)) (length run.domain.bridges) count
      bridges x so.turned inside is

  -- then one more
  pub one_received : (count index : ℕ) (bridges after : List RunBridge) (drops now now_after : List Dropped) (dropped : List Dropped)
      (y : RunBridge) →
      FirstHaveReceived count bridges drops now → count < length run.domain.bridges → index ≡ count → after ≡ set bridges index y →
      ReceivesOne run net cycle count y dropped → now_after ≡ now ++ dropped → FirstHaveReceived (count + 1) after drops now_after
  one_received count index bridges after drops now now_after dropped y so inside at is more listed =
      let next : suc count ≡ count + 1 = omega arith in
      record {
        turned = one_turned (StandsHalfway run net cycle (all_of run net cycle)) (StandsBeforeCycle run net (cycle + 1))
            (length run.domain.bridges) count index bridges after y
            so.turned inside at more.stands is;
        dropped = listed ∙ (λ i. so.dropped i ++ more.are_drops i)
            ∙ append_assoc drops (drops_of_first run net cycle count) (drops_of_cycle run net count cycle)
            ∙ ap (λ (n : ℕ). drops ++ drops_of_first run net cycle n) next;
        none_lost = λ bridge below. elim (cases_eq bridge count) [
          | inl same ↦ subst (λ (b : ℕ). LosesNothingIn run net b cycle) (sym same) more.none_lost
          | inr differ ↦ so.none_lost bridge (omega (arith, below, differ))
        ];
      }

  -- or one doesn't
  pub one_stops : (count : ℕ) (bridges : List RunBridge) (drops now : List Dropped) (f : RunFault) → FirstHaveReceived count bridges drops now →
      count < length run.domain.bridges → IsFaultAtBridge run net cycle count f → IsFaultInCycle run net cycle f
  one_stops count bridges drops now WrongTables so inside stop = stop
  one_stops count bridges drops now (Inside frame) so inside stop = record {
    bridge = count;
    inside = inside;
    lost = stop;
    none_lower = so.none_lost;
  }
  one_stops count bridges drops now Memory so inside stop = tt

  -- in the end all have
  pub all_before : (count : ℕ) (bridges : List RunBridge) (drops now : List Dropped) → FirstHaveReceived count bridges drops now →
      count ≡ length run.domain.bridges → AllStandBefore run net (cycle + 1) bridges
  all_before count bridges drops now so past =
      all_turned (StandsHalfway run net cycle (all_of run net cycle)) (StandsBeforeCycle run net (cycle + 1)) (length run.domain.bridges)
      count bridges so.turned (omega (arith, past))

  pub all_dropped : (count : ℕ) (bridges : List RunBridge) (drops now : List Dropped) → FirstHaveReceived count bridges drops now →
      count ≡ length run.domain.bridges → now ≡ drops ++ drops_of_first run net cycle (length run.domain.bridges)
  all_dropped count bridges drops now so past = so.dropped ∙ ap (λ (n : ℕ). drops ++ drops_of_first run net cycle n) past

  pub all_unlost : (count : ℕ) (bridges : List RunBridge) (drops now : List Dropped) → FirstHaveReceived count bridges drops now →
      count ≡ length run.domain.bridges → FirstLoseNothing run net cycle (length run.domain.bridges)
  all_unlost count bridges drops now so past = subst (FirstLoseNothing run net cycle) past so.none_lost
