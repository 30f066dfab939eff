-- A Seal's table has what is held, and its entry is the next one.
use Rattle.std.proofs.Common.{◌≡◌, ◌∙◌, ◌<◌, ◌+◌, ◌≢◌, List, ap, arith, map, refl, subst, sym}
use Rattle.std.specs.Prelude.{AllPairs, Ok}
use Rattle.cqf_model.specs.declared.history.Reply.TheVariants.{Sealed}
use Rattle.cqf_model.specs.declared.topology.Row.{Row}
use Rattle.cqf_model.specs.Domain.{Domain}
use Rattle.cqf_model.specs.History.{IsLegalHistory, Recorded, Seals, held_in, next_number, seals, table_at}
use Rattle.cqf_laws_history.specs.StateLaws.{AreHeld, HeldAreSound, with_entry}
use Rattle.cqf_admission.proofs.TableLemmas.{trees_go_along_links}
use Rattle.cqf_admission.specs.declared.entries.Call.TheVariants.{Seal}
use Rattle.cqf_admission.specs.Admission.{Administration, Closes, LetsGo, recorded_of}
use Rattle.cqf_admission.specs.State.{IsStateOf, LeavesSealed, of_entries}
use Rattle.cqf_admission.specs.ActiveCycles.{AreOfGoodPaces}
use Rattle.cqf_admission.specs.Tables.{AreTrees}
use Rattle.cqf_admission.specs.Tabling.{AreTablesOf}
use Rattle.cqf_admission.proofs.Entered.{entered_after}
use Rattle.cqf_admission.proofs.Paced.{good_held}
use Rattle.cqf_admission.proofs.Tabled.{held_alike, tables_less}
use Rattle.cqf_admission.proofs.admission.Admission.seal.Goals as goal

-- the streams that are held are sound
sound : HeldAreSound → (d : Domain) (entries : List Recorded) → IsLegalHistory d entries →
    AreHeld d (held_in d entries (seals entries)) (next_number d entries) (seals entries)
sound held d entries legal = held d entries (held_in d entries (seals entries)) (next_number d entries) legal (record { held = refl; number = refl })

pub new-requires-clause-order : goal.new-requires-clause-order
new-requires-clause-order c =
    let entries = map recorded_of c.self.inside.history.items in
    let is = c.in_ok-listed.ensures.rows c.self.inside.domain entries c.self.invariant.0 c.self.invariant.1 in
    let held = sound c.state_follows_history.ensures.held c.self.inside.domain entries c.self.invariant.0.0.running.legal in
    record {
      numbers = subst (AllPairs (λ (a b : Row). a.no < b.no)) (sym is) held.numbers;
      names = subst (AllPairs (λ (a b : Row). a.name ≢ b.name)) (sym is) held.names;
    }

pub new-requires-clause-good : goal.new-requires-clause-good
new-requires-clause-good c =
    let entries = map recorded_of c.self.inside.history.items in
    subst AreOfGoodPaces (sym (c.in_ok-listed.ensures.rows c.self.inside.domain entries c.self.invariant.0 c.self.invariant.1))
    (good_held c.self.inside.domain entries c.self.invariant.0.0.running.legal (seals entries))

-- a Seal that enters the history
module _ (c : goal.After-new) where
  abbrev entries : List Recorded
  entries = map recorded_of c.self.inside.history.items

  abbrev with_seal : List Recorded
  with_seal = with_entry entries c.args.seat Seals Sealed

  after_is : map recorded_of c.enter.new.history.items ≡ with_seal
  after_is =
      entered_after c.self.inside.history.items c.reserve.new.self.items c.enter.new.history.items
      (record { seat = c.args.seat; call = Seal; reply = Sealed }) Seals c.reserve.ensures.items c.enter.ensures refl

  leaves : LeavesSealed c.self.inside.domain entries c.seal-ends.new.self c.args.seat
  leaves = c.seal-ends.ensures.closes c.self.inside.domain entries c.args.seat c.self.invariant.0

  listed_is : c.new.result.rows ≡ held_in c.self.inside.domain entries (seals entries)
  listed_is = c.new.ensures.rows ∙ c.in_ok-listed.ensures.rows c.self.inside.domain entries c.self.invariant.0 c.self.invariant.1

pub invariant_of-self-2 : goal.invariant_of-self-2
invariant_of-self-2 c =
    let d = c.self.inside.domain in (
      subst (λ (es : List Recorded). IsStateOf d es c.seal-ends.new.self) (sym (after_is c)) (leaves c).of,
      subst (λ (es : List Recorded). AreTablesOf d es c.note.new.self) (sym (after_is c))
          (tables_less d (entries c) (record { seat = c.args.seat; act = Seals; reply = Sealed }) c.share.new.self c.note.new.self c.seal-ends.result
          (seals (entries c) + 1) (c.share.ensures.same d (entries c) c.self.invariant.0 c.self.invariant.1) c.note.ensures (leaves c).held
          (λ none. held_alike d (entries c) (with_seal c)
          (sym (leaves c).of.0.are_streams ∙ c.seal-ends.ensures.stays none ∙ c.self.invariant.0.0.are_streams))),
    )

pub returns-clause-closes : goal.returns-clause-closes
returns-clause-closes c =
    let d = c.self.inside.domain in
    let rows = held_in d (entries c) (seals (entries c)) in
    subst (λ (a : Administration). Closes a (of_entries d (map recorded_of c.enter.new.history.items)) c.args.seat (Ok c.new.result)) c.self.view_is (
      omega (arith, c.if-cycle-ge-MOST_SEALS.false, c.next_cycle-cycle.ensures, c.self.invariant.0.0.running.counted),
      refl,
      after_is c,
      c.new.ensures.cycle ∙ c.next_cycle-cycle.ensures ∙ c.self.invariant.0.0.running.counted,
      listed_is c
          ∙ sym (c.state_follows_history.ensures.closes d (entries c) rows (next_number d (entries c)) c.args.seat (record { held = refl; number = refl }))
          ∙ ap (λ (es : List Recorded). table_at d es (seals (entries c))) (sym (after_is c)),
    )

pub returns-clause-lets_go : goal.returns-clause-lets_go
returns-clause-lets_go c =
    let d = c.self.inside.domain in
    let trees : AreTrees d c.new.result.rows = subst (AreTrees d) (sym (listed_is c))
    (sound c.state_follows_history.ensures.held d (entries c) c.self.invariant.0.0.running.legal).trees in
    subst (λ (a : Administration). LetsGo a (of_entries d (map recorded_of c.enter.new.history.items)) c.new.result) c.self.view_is (record {
      rows = listed_is c;
      held = ap (λ (es : List Recorded). held_in d es (seals es)) (after_is c) ∙ (leaves c).held;
      trees = trees;
      links = trees_go_along_links d c.new.result.rows trees;
    })
