-- A bridge is given a table.
use Rattle.std.proofs.Common.{◌≡◌, ℕ, ◌+◌, ◌<◌, List, length, map, get_or, set, sym, ap, ◌∙◌, arith, refl, subst}
use Rattle.std.specs.Prelude.{false}
use Rattle.std.proofs.lemmas.List.{length-set, map-set}
use Rattle.cqf_model.specs.Domain.{bridge_of}
use Rattle.cqf_model.specs.History.{seals}
use Rattle.cqf_admission.specs.Tables.{CycleTable}
use Rattle.cqf_world.specs.declared.parts.Line.{Line}
use Rattle.cqf_world.specs.declared.parts.WorldBridge.{WorldBridge}
use Rattle.cqf_world.specs.Events.{MayBeGiven}
use Rattle.cqf_world.specs.Parts.{IsLine, IsRunningWorld, IsDriven, IsWorld, given_of, links_taken, sent_of_driven}
use Rattle.cqf_world.specs.World.{WorldState, cycle_of_bridge, sealed_run}
use Rattle.cqf_world.proofs.Keeping.{given_counts}
use Rattle.cqf_world.proofs.Standing.{count_kept, each_with, given_at, driven_at}

-- a bridge with one more table
abbrev pub with_table : WorldBridge → WorldBridge
with_table s = record {
  bridge = s.bridge;
  agenda = s.agenda;
  incoming = s.incoming;
  given = s.posted + 1;
  sent = s.sent;
  posted = s.posted;
  starts = s.starts;
  taken = s.taken;
}

-- a world with such a bridge
abbrev pub world_given : WorldState → List WorldBridge → ℕ → WorldBridge → WorldState
world_given w driven bridge s = record {
  domain = w.domain;
  offers = w.offers;
  background = w.background;
  cycles = w.cycles;
  entries = w.entries;
  pages = w.pages;
  given = map given_of (set driven bridge (with_table s));
  sent = map sent_of_driven (set driven bridge (with_table s));
  taken = w.taken;
  stopped = w.stopped;
}

module _ (w : WorldState) (tables : List CycleTable) (driven : List WorldBridge) (lines : List Line) (is : IsRunningWorld w tables driven lines) where
  -- a bridge may be given a table if its counts say so
  pub may_be_given : (bridge : ℕ) (s : WorldBridge) → bridge < length driven → s ≡ get_or driven bridge s → s.given ≡ s.posted → s.posted < w.cycles →
      s.posted < length tables → MayBeGiven w bridge
  may_be_given bridge s inside there lacks of_run closed =
      let st = driven_at w tables driven lines is bridge s inside there in
      record {
        inside = omega (arith, inside, is.all_driven);
        of_run = omega (arith, of_run, st.in_cycle);
        lacks = given_at w tables driven lines is bridge s inside there ∙ lacks ∙ st.in_cycle;
        sealed = omega (arith, closed, st.in_cycle, is.all_tables);
      }

  -- and its counts say so if it may be
  pub counts_given : (bridge : ℕ) (s : WorldBridge) → bridge < length driven → s ≡ get_or driven bridge s → MayBeGiven w bridge →
      (s.given ≡ s.posted) × (s.posted < w.cycles) × (s.posted < length tables)
  counts_given bridge s inside there may =
      let st = driven_at w tables driven lines is bridge s inside there in (
        sym (given_at w tables driven lines is bridge s inside there) ∙ may.lacks ∙ sym st.in_cycle,
        omega (arith, may.of_run, st.in_cycle),
        omega (arith, may.sealed, st.in_cycle, is.all_tables),
      )

  -- nothing else changes
  pub sent_stays : (bridge : ℕ) (s : WorldBridge) → s ≡ get_or driven bridge s → map sent_of_driven (set driven bridge (with_table s)) ≡ w.sent
  sent_stays bridge s there =
      count_kept sent_of_driven driven bridge s (with_table s) there refl ∙ sym is.sent_are

  -- so the world goes on
  pub goes_on_given : (bridge : ℕ) (s : WorldBridge) → bridge < length driven → s ≡ get_or driven bridge s → MayBeGiven w bridge →
      IsRunningWorld (world_given w driven bridge s) tables (set driven bridge (with_table s)) lines
  goes_on_given bridge s inside there may =
      let same = sent_stays bridge s there in
      let st = driven_at w tables driven lines is bridge s inside there in
      let c = counts_given bridge s inside there may in
      let with_it : IsDriven (sealed_run w) (seals w.entries) is.net bridge (cycle_of_bridge w bridge) (links_taken w bridge) (with_table s) = record {
        in_cycle = st.in_cycle;
        not_after = st.not_after;
        with_table = omega (arith, st.with_table, c.0);
        not_ahead = omega arith;
        closed = omega (arith, c.2, is.all_tables);
        number = st.number;
        received = st.received;
        follows = st.follows;
        has_sent = st.has_sent;
        starts = st.starts;
        taken = st.taken;
        incoming = st.incoming;
        agenda = st.agenda;
      } in
      record {
        net = is.net;
        compiled = is.compiled;
        within_run = is.within_run;
        all_tables = is.all_tables;
        table = is.table;
        all_driven = length-set driven bridge (with_table s) ∙ is.all_driven;
        given_are = refl;
        sent_are = refl;
        bridge_driven = each_with (λ k. IsDriven (sealed_run w) (seals w.entries) is.net k (cycle_of_bridge w k) (links_taken w k)) driven
            bridge (with_table s) inside
            with_it (λ other d in_driven differ. is.bridge_driven other d in_driven);
        all_lines = is.all_lines;
        taken_are = is.taken_are;
        line = λ link to x ends. subst (λ (sent : List ℕ). IsLine w.domain is.net link (cycle_of_bridge w to) (get_or sent to 0)
            (get_or sent (bridge_of w.domain link) 0) (get_or lines link x)) (sym same) (is.line link to x ends);
      }

module _ (w : WorldState) (tables : List CycleTable) (driven : List WorldBridge) (lines : List Line) (bridge index : ℕ) (s : WorldBridge)
    (old : WorldState)
    (same : w ≡ old) (world : IsWorld w tables driven lines) (old_goes_on : old.stopped ≡ false) (old_may : MayBeGiven old bridge)
    (at : index ≡ bridge) (there : s ≡ get_or driven index s) where
  goes_on : w.stopped ≡ false
  goes_on = subst (λ (v : WorldState). v.stopped ≡ false) (sym same) old_goes_on

  may : MayBeGiven w bridge
  may = subst (λ (v : WorldState). MayBeGiven v bridge) (sym same) old_may

  is : IsRunningWorld w tables driven lines
  is = world.running goes_on

  inside : bridge < length driven
  inside = omega (arith, may.inside, is.all_driven)

  here : s ≡ get_or driven bridge s
  here = there ∙ ap (λ (k : ℕ). get_or driven k s) at

  -- so it is still a world, with a table given
  pub given_world : IsWorld (world_given w driven bridge s) tables (set driven bridge (with_table s)) lines
  given_world = record {
    given = given_counts w _ _ w.taken w.stopped world.given;
    pages = world.pages;
    sealed = world.sealed;
    running = λ still. goes_on_given w tables driven lines is bridge s inside here may;
  }

  -- and it is the same world except for what was given
  pub given_alone : world_given w driven bridge s ≡ record old { given = set old.given bridge (cycle_of_bridge old bridge + 1) }
  given_alone =
      let st = driven_at w tables driven lines is bridge s inside here in
      let now_given : map given_of (set driven bridge (with_table s)) ≡ set w.given bridge (cycle_of_bridge w bridge + 1) =
      map-set given_of driven bridge (with_table s)
      ∙ ap (λ (n : ℕ). set (map given_of driven) bridge (n + 1)) st.in_cycle
      ∙ ap (λ (ns : List ℕ). set ns bridge (cycle_of_bridge w bridge + 1)) (sym is.given_are) in
      let still_sent = sent_stays w tables driven lines is bridge s here in
      subst (λ (v : WorldState). world_given w driven bridge s ≡ record v { given = set v.given bridge (cycle_of_bridge v bridge + 1) }) same
      (λ i. record w { given = now_given i; sent = still_sent i })
