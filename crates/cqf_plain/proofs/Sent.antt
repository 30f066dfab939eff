-- The bridges send a cycle one after the other.
use Rattle.std.proofs.Common.{◌≡◌, ℕ, ◌+◌, ◌<◌, ◌++◌, List, [], length, get_or, set, sym, ap, ◌∙◌, arith, subst}
use Rattle.std.specs.Prelude.{suc}
use Rattle.cqf_model.specs.declared.frames.Backed.{Backed}
use Rattle.cqf_model.specs.Network.{Network}
use Rattle.cqf_model.specs.Run.{Run}
use Rattle.cqf_laws_cycle.specs.Gathered.{backed_for}
use Rattle.cqf_bridge.specs.declared.faults.BridgeFault.{BridgeFault}
use Rattle.cqf_bridge.specs.declared.faults.BridgeFault.TheVariants.{Memory}
use Rattle.cqf_bridge.specs.Batch.{LinkBatch}
use Rattle.cqf_bridge.specs.BridgeState.{AreBackedOf, BridgeState, SendsCycle}
use Rattle.cqf_bridge.specs.Faults.{IsSendFault}
use Rattle.cqf_agenda.specs.Agenda.{background_at}
use Rattle.cqf_bridge.specs.Cycles.{BackgroundIsOfTheBridge, GivesTheBatches, SendingFollows}
use Rattle.cqf_bridge.specs.Follows.{batches_from}
use Rattle.cqf_bridge.specs.NoFaults.{SendsButForMemory}
use Rattle.cqf_plain.specs.declared.driven.RunBridge.{RunBridge}
use Rattle.cqf_plain.specs.Driven.{AllStandBefore, HaveAllSentCycle, IsCycleOf, StandsBeforeCycle, StandsHalfway, none_yet, sent_by_first}
use Rattle.cqf_plain.proofs.Turning.{all_turned, next_was, none_turned, one_turned}
use Rattle.cqf_plain.proofs.Turning.{AreTurned}

module _ (run : Run) (net : Network) (cycle : ℕ) (of : IsCycleOf run net cycle) where
  module _ (bridge : ℕ) (s : RunBridge) (st : StandsBeforeCycle run net cycle bridge s) (given : List Backed) (is : given ≡ background_at s.agenda cycle) where
    -- the agenda's frames of the cycle are the run's input for the bridge
    given_is : given ≡ backed_for run.domain run.background bridge cycle
    given_is = is ∙ st.own.agenda.background_are cycle

    -- so they may be given to it
    pub backed_so : BackgroundIsOfTheBridge → AreBackedOf s.bridge.domain s.bridge.number cycle given
    backed_so law =
        subst (λ (xs : List Backed). AreBackedOf s.bridge.domain s.bridge.number cycle xs) (sym given_is)
        (subst (λ (n : ℕ). AreBackedOf s.bridge.domain n cycle (backed_for run.domain run.background bridge cycle)) (sym st.own.number)
        (law s.bridge.domain run bridge cycle st.own.domain of.background))

    module _ (after : BridgeState) (batches batches_after : List LinkBatch) (sends : SendsCycle s.bridge after cycle given batches batches_after)
        (law : SendingFollows) where
      -- and it sends as the network does
      gives : GivesTheBatches run cycle net s.bridge after batches batches_after
      gives = law run (length run.tables) cycle net s.bridge after batches batches_after (record {
        compiled = of.compiled;
        follows = st.follows;
        next = (sym st.own.received, st.follows.turn);
        within_run = of.within_run;
        sends =
            subst (λ (n : ℕ). SendsCycle s.bridge after cycle (backed_for run.domain run.background n cycle) batches batches_after) (sym st.own.number)
            (subst (λ (xs : List Backed). SendsCycle s.bridge after cycle xs batches batches_after) given_is sends);
      })

      pub halfway_so : StandsHalfway run net cycle none_yet bridge (record s { bridge = after })
      halfway_so = record {
        own = record {
          domain = gives.has_sent.of_run.domain;
          number = gives.number ∙ st.own.number;
          received = gives.cycle_same;
          agenda = st.own.agenda;
        };
        has_sent = gives.has_sent;
        came_are = st.none_came;
      }

      pub batches_so : batches_after ≡ batches ++ batches_from run.domain net.carried bridge cycle
      batches_so = gives.batches ∙ ap (λ (n : ℕ). batches ++ batches_from run.domain net.carried n cycle) st.own.number

    -- it refuses to send only if memory is refused
    pub memory_so : SendsButForMemory → (after : BridgeState) (fault : BridgeFault) → IsSendFault s.bridge after cycle fault → fault ≡ Memory
    memory_so law after fault h = law cycle s.bridge after fault st.follows.of_run.not_spent (sym st.own.received, st.follows.turn) h

  -- the first bridges have sent
  pub record FirstHaveSent (count : ℕ) (bridges : List RunBridge) (batches : List LinkBatch) : Type 0 where
    pub turned : AreTurned (StandsBeforeCycle run net cycle) (StandsHalfway run net cycle none_yet) (length run.domain.bridges) count bridges
    pub batches_are : batches ≡ sent_by_first run net cycle count

  -- at first none has
  pub none_sent : (bridges : List RunBridge) (batches : List LinkBatch) → batches ≡ [] → AllStandBefore run net cycle bridges → FirstHaveSent 0 bridges batches
  none_sent bridges batches none all = record {
    turned = none_turned (StandsBeforeCycle run net cycle) (StandsHalfway run net cycle none_yet) (length run.domain.bridges) bridges all;
    batches_are = none;
  }

  -- the next is still before the cycle
  pub next_sends : (count : ℕ) (bridges : List RunBridge) (batches : List LinkBatch) (x : RunBridge) → FirstHaveSent count bridges batches →
      count < length run.domain.bridges → x ≡ get_or bridges count x → StandsBeforeCycle run net cycle count x
  next_sends count bridges batches x so inside is =
      next_was (StandsBeforeCycle run net cycle) (StandsHalfway run net cycle none_yet) (length run.domain.bridges) count bridges x so.turned inside is

  -- then one more
  pub one_sent : (count index : ℕ) (bridges after : List RunBridge) (batches batches_after : List LinkBatch) (y : RunBridge) → FirstHaveSent count bridges batches →
      count < length run.domain.bridges → index ≡ count → after ≡ set bridges index y → StandsHalfway run net cycle none_yet count y →
      batches_after ≡ batches ++ batches_from run.domain net.carried count cycle → FirstHaveSent (count + 1) after batches_after
  one_sent count index bridges after batches batches_after y so inside at more is given =
      let next : suc count ≡ count + 1 = omega arith in
      record {
        turned = one_turned (StandsBeforeCycle run net cycle) (StandsHalfway run net cycle none_yet) (length run.domain.bridges) count index
            bridges after y so.turned inside at is more;
        batches_are = given ∙ ap (λ (xs : List LinkBatch). xs ++ batches_from run.domain net.carried count cycle) so.batches_are
            ∙ ap (sent_by_first run net cycle) next;
      }

  -- in the end all have
  pub all_sent : (count : ℕ) (bridges : List RunBridge) (batches : List LinkBatch) → FirstHaveSent count bridges batches → count ≡ length run.domain.bridges →
      HaveAllSentCycle run net cycle bridges batches
  all_sent count bridges batches so past = record {
    halfway = all_turned (StandsBeforeCycle run net cycle) (StandsHalfway run net cycle none_yet) (length run.domain.bridges) count bridges
        so.turned (omega (arith, past));
    batches_are = so.batches_are ∙ ap (sent_by_first run net cycle) past;
  }
