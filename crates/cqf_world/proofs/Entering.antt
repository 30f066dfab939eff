-- A call enters the history.
use Rattle.std.proofs.Common.{◌≡◌, ℕ, ◌+◌, ◌<◌, Bool, List, Result, get_or, sym, ap, ◌∙◌, arith, refl, inl, inr, subst, false, add-zero}
use Rattle.std.specs.Prelude.{◌++◌, ◌∷◌, [], if◌then◌else◌}
use Rattle.std.proofs.lemmas.Bool.{cases_Bool}
use Rattle.cqf_lists.proofs.EachBelow.{same_below}
use Rattle.cqf_model.specs.declared.history.Receipt.{Receipt}
use Rattle.cqf_model.specs.declared.history.Refused.{Refused}
use Rattle.cqf_model.specs.declared.topology.Row.{Row}
use Rattle.cqf_model.specs.Book.{IsOneThreadBook}
use Rattle.cqf_model.specs.Domain.{Domain}
use Rattle.cqf_model.specs.History.{Act, IsLegalHistory, Recorded, is_seal, seals, table_at, tables_of}
use Rattle.cqf_model.specs.Run.{Run}
use Rattle.cqf_laws_history.specs.StateLaws.{SealsAreCounted}
use Rattle.cqf_laws_history.specs.TableLaws.{ClosedTablesStay}
use Rattle.cqf_laws_cycle.specs.BridgeCycle.{IsCompiledNetwork}
use Rattle.cqf_admission.specs.declared.entries.Command.{Command}
use Rattle.cqf_admission.specs.declared.entries.Command.TheVariants.{Admit, AdmitPaced, Withdraw}
use Rattle.cqf_admission.specs.Admission.{Administration, Answers, is_entered, reply_of}
use Rattle.cqf_admission.specs.Tables.{CycleTable}
use Rattle.cqf_world.specs.declared.parts.Line.{Line}
use Rattle.cqf_world.specs.declared.parts.WorldBridge.{WorldBridge}
use Rattle.cqf_admission.specs.Commands.{act_of_command}
use Rattle.cqf_world.specs.Parts.{IsDriven, IsWorld, links_taken}
use Rattle.cqf_world.specs.World.{WorldState, cycle_of_bridge, sealed_run}
use Rattle.cqf_world.proofs.Keeping.{given_entries}

-- no command closes a cycle
pub no_seal : (command : Command) → is_seal (act_of_command command) ≡ false
no_seal (Admit request) = refl
no_seal (AdmitPaced request) = refl
no_seal (Withdraw name) = refl

module _ (v : WorldState) (tables : List CycleTable) (driven : List WorldBridge) (lines : List Line) (entries : List Recorded)
    (world : IsWorld v tables driven lines)
    (legal : IsLegalHistory v.domain entries) (counted : seals entries ≡ seals v.entries)
    (stay : (cycle : ℕ) → cycle < seals v.entries → table_at v.domain entries cycle ≡ table_at v.domain v.entries cycle) where
  -- with more entries and no Seal among them, the run is the same
  run_same : sealed_run (record v { entries = entries }) ≡ sealed_run v
  run_same =
      let same : tables_of v.domain entries (seals entries) ≡ tables_of v.domain v.entries (seals v.entries) =
      ap (tables_of v.domain entries) counted
      ∙ same_below (λ cycle. table_at v.domain entries cycle ∷ []) (λ cycle. table_at v.domain v.entries cycle ∷ []) (seals v.entries)
      (λ cycle within. ap (λ (rows : List Row). rows ∷ []) (stay cycle within)) in
      λ i. record { domain = v.domain; tables = same i; offers = v.offers; background = v.background }

  -- so it is still a world
  pub entries_grow : IsWorld (record v { entries = entries }) tables driven lines
  entries_grow = record {
    given = given_entries v entries world.given legal;
    pages = λ bridge cycle page book there is. world.pages bridge cycle page book there
        (record { sealed = omega arith; is_book = subst (λ (r : Run). IsOneThreadBook r book) run_same is.is_book });
    sealed = λ bridge. omega (arith, world.sealed bridge, counted);
    running = λ goes_on. (let r = world.running goes_on in record {
      net = r.net;
      compiled = subst (λ (n : ℕ). IsCompiledNetwork (sealed_run (record v { entries = entries })) n r.net) (sym counted)
          (subst (λ (run : Run). IsCompiledNetwork run (seals v.entries) r.net) (sym run_same) r.compiled);
      within_run = omega (arith, r.within_run, counted);
      all_tables = r.all_tables ∙ sym counted;
      table = λ cycle x within. (let t = r.table cycle x within in (t.0, t.1 ∙ sym (stay cycle (omega (arith, within, r.all_tables)))));
      all_driven = r.all_driven;
      given_are = r.given_are;
      sent_are = r.sent_are;
      bridge_driven = λ bridge s inside.
          subst (λ (n : ℕ). IsDriven (sealed_run (record v { entries = entries })) n r.net bridge (cycle_of_bridge v bridge)
          (links_taken v bridge) (get_or driven bridge s)) (sym counted)
          (subst (λ (run : Run). IsDriven run (seals v.entries) r.net bridge (cycle_of_bridge v bridge) (links_taken v bridge) (get_or driven bridge s))
          (sym run_same)
          (r.bridge_driven bridge s inside));
      all_lines = r.all_lines;
      taken_are = r.taken_are;
      line = r.line;
    });
  }

-- the effect of an answered call
pub called_world : (v : WorldState) (tables : List CycleTable) (driven : List WorldBridge) (lines : List Line) (old new : Administration) (seat : ℕ) (act : Act)
    (result : Result Receipt Refused) → SealsAreCounted → ClosedTablesStay → IsWorld v tables driven lines → v.domain ≡ old.domain → v.entries ≡ old.entries →
    is_seal act ≡ false → Answers old new seat act result → IsLegalHistory new.domain new.entries →
    IsWorld (record v { domain = new.domain; entries = new.entries }) tables driven lines
called_world v tables driven lines old new seat act result counted stay world domain entries not_seal answers legal =
    let same_domain : new.domain ≡ v.domain = answers.domain ∙ sym domain in
    elim (cases_Bool (is_entered result)) [
      | inl t ↦
          let is_new = answers.entered t in
          let with_it = λ (es : List Recorded). es ++ record { seat = seat; act = act; reply = reply_of result } ∷ [] in
          let more : new.entries ≡ with_it v.entries = is_new ∙ ap with_it (sym entries) in
          let count : seals (with_it v.entries) ≡ seals v.entries =
          counted v.entries seat act (reply_of result) ∙ ap (λ (b : Bool). seals v.entries + (if b then 1 else 0)) not_seal ∙ add-zero (seals v.entries) in
          subst (λ (d : Domain). IsWorld (record v { domain = d; entries = new.entries }) tables driven lines) (sym same_domain)
          (subst (λ (es : List Recorded). IsWorld (record v { entries = es }) tables driven lines) (sym more)
          (entries_grow v tables driven lines (with_it v.entries) world
          (subst (λ (es : List Recorded). IsLegalHistory v.domain es) more (subst (λ (d : Domain). IsLegalHistory d new.entries) same_domain legal)) count
          (λ cycle within. stay v.domain v.entries seat act (reply_of result) cycle within)))
      | inr f ↦
          let same = answers.unchanged f in
          subst (λ (d : Domain). IsWorld (record v { domain = d; entries = new.entries }) tables driven lines) (sym same_domain)
          (subst (λ (es : List Recorded). IsWorld (record v { entries = es }) tables driven lines)
          (entries ∙ ap (λ (a : Administration). a.entries) (sym same)) world)
    ]
