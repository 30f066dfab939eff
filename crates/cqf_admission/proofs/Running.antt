-- The figures of a history with one more entry.
use Rattle.std.proofs.Common.{◌≡◌, ◌≢◌, ℕ, ◌+◌, ◌-◌, ◌<◌, ◌≤◌, ◌%◌, Bool, false, true, List, None, Result, Ok, Err, [], ◌∷◌}
use Rattle.std.proofs.Common.{◌++◌, filter, map, get_or, set, length, refl, sym, ap, ◌∙◌, subst, arith}
use Rattle.std.proofs.Common.{length-append, mod-lt}
use Rattle.std.specs.Prelude.{AllPairs, Contains, ◌==◌, ◌&&◌}
use Rattle.std.proofs.lemmas.Bool.{and_parts, eq-eqb, le-leb}
use Rattle.std.proofs.lemmas.List.{length-map, map-append}
use Rattle.std.proofs.lemmas.Option.{slice_get_within}
use Rattle.cqf_lists.proofs.Members.{contains_none, member_any}
use Rattle.cqf_lists.proofs.Pairs.{pairs_none}
use Rattle.cqf_model.specs.declared.history.Receipt.{Receipt}
use Rattle.cqf_model.specs.declared.history.Refused.{Refused}
use Rattle.cqf_model.specs.declared.history.Reply.TheVariants.{Accepted, Sealed, Refused as RefusedFor}
use Rattle.cqf_model.specs.declared.topology.Row.{Row}
use Rattle.cqf_model.specs.Domain.{Domain}
use Rattle.cqf_model.specs.History.{Act, Admits, Asked, Recorded, Seals, admit_reply, held_in, is_seal, next_number, refusal_of}
use Rattle.cqf_model.specs.History.{reply_to, seals, streams_of}
use Rattle.cqf_model.specs.Limits.{most_calls, most_cycles}
use Rattle.cqf_model.specs.Table.{is_held}
use Rattle.cqf_laws_history.specs.StateLaws.{GrantedIsHeld, HistoryGoesOn, IsState, SealLetsGo, SealsAreCounted, granted_row, with_entry}
use Rattle.cqf_laws_history.specs.StreamLaws.{GrantedIsLast}
use Rattle.cqf_laws_history.proofs.Growth.{begun_now, no_seal_refused, refused_ends_none, refused_none, seals_same, streams_same}
use Rattle.cqf_admission.specs.Admission.{Answers, IsRunning, held_of, is_entered, reply_of}
use Rattle.cqf_admission.specs.Holdings.{AreLetGo, IsHeldAt, Standing, held_by}
use Rattle.cqf_admission.specs.Ring.{IsRing}
use Rattle.cqf_admission.specs.State.{AreOf, Figures, IsStateOf, Leaves, LeavesSealed, StaysSo, entries_with, of_entries, stands_in}
use Rattle.cqf_admission.specs.Streams.{stand_of}
use Rattle.cqf_admission.proofs.Ring.{ring_pushed}
use Rattle.cqf_admission.proofs.RunLemmas.{answers_entered, run_on, run_sealed}
use Rattle.cqf_admission.proofs.Streams.{let_go_is_next_cycle}
use Rattle.cqf_admission.proofs.Whole.{ring_lists_ends, ring_stays_sealed}

-- the effect of a call that is entered, and what is held after it
abbrev pub LeavesHeld : Domain → List Recorded → Figures → ℕ → Act → Result Receipt Refused → List Row → Type 0
LeavesHeld d entries after seat act result held =
    Leaves d entries after seat act result × (held_of (of_entries d (entries_with entries seat act result)) ≡ held)

module _ (d : Domain) (entries : List Recorded) (before : Figures) (r : IsStateOf d entries before) where
  pub state : IsState d entries (held_in d entries (seals entries)) (next_number d entries)
  state = record { held = refl; number = refl }

  -- a call that isn't a Seal, whose answer is the one that is due
  module _ (goes_on : HistoryGoesOn) (count : SealsAreCounted) (seat : ℕ) (act : Act) (result : Result Receipt Refused) (no_seal : is_seal act ≡ false)
      (few : length entries - before.sealed < most_calls) (due : reply_to d entries act ≡ reply_of result) where
    abbrev all : List Recorded
    all = entries_with entries seat act result

    -- it is the next entry with the answer that is due
    pub same : with_entry entries seat act (reply_to d entries act) ≡ all
    same = ap (with_entry entries seat act) due

    pub sealed_same : seals all ≡ seals entries
    sealed_same = seals_same entries seat act (reply_of result) no_seal

    pub running : next_number d all ≤ next_number d entries + 1 →
        IsRunning d all (held_in d all (seals all)) (next_number d all) before.sealed
    running more =
        let due_all = with_entry entries seat act (reply_to d entries act) in
        subst (λ (es : List Recorded). IsRunning d es (held_in d es (seals es)) (next_number d es) before.sealed) same
        (run_on goes_on count d entries (held_in d entries (seals entries)) (held_in d due_all (seals due_all)) (next_number d entries)
        (next_number d due_all) before.sealed seat act no_seal r.0.running few (omega (arith, more, ap (next_number d) same))
        (record { held = refl; number = refl }))

    pub answered : is_entered result ≡ true → Answers (of_entries d entries) (of_entries d all) seat act result
    answered is = answers_entered (of_entries d entries) (of_entries d all) seat act result is (omega (arith, few, r.0.running.counted)) refl (sym due) refl

  -- a refused call changes nothing
  pub refused_leaves : HistoryGoesOn → SealsAreCounted → (seat : ℕ) (act : Act) (refused : Refused) (after : Figures) → is_entered (Err refused) ≡ true →
      length entries - before.sealed < most_calls → reply_to d entries act ≡ RefusedFor refused → StaysSo before after →
      LeavesHeld d entries after seat act (Err refused) (held_in d entries (seals entries))
  refused_leaves goes_on count seat act refused after is few due so =
      let all = entries_with entries seat act (Err refused) in
      let no_seal = no_seal_refused d entries act refused due in
      let streams : streams_of d all ≡ streams_of d entries =
      streams_same d entries (record { seat = seat; act = act; reply = RefusedFor refused }) (refused_none d (seals entries) act refused)
      (λ number. refused_ends_none (seals entries) number act refused) in
      let cycle = sealed_same goes_on count seat act (Err refused) no_seal few due in
      let held : held_in d all (seals all) ≡ held_in d entries (seals entries) = λ i. filter (λ (x : Row). is_held x (cycle i)) (streams i) in (
        record {
          of = (
            record {
              running = subst (λ (n : ℕ). IsRunning d all (held_in d all (seals all)) (next_number d all) n) (sym so.sealed)
                  (running goes_on count seat act (Err refused) no_seal few due (omega (arith, ap (λ (rs : List Row). length rs) streams)));
              are_streams = so.stands ∙ r.0.are_streams ∙ sym (λ i. map (stand_of (cycle i)) (streams i));
              ring = subst (λ (ss : List Standing). IsRing ss after.slots) (sym so.stands)
                  (subst (λ (slots : List (List ℕ)). IsRing before.stands slots) (sym so.slots) r.0.ring);
            },
            so.links ∙ r.1,
          );
          answers = answered goes_on count seat act (Err refused) no_seal few due is;
        },
        held,
      )

  -- a granted request adds its stream
  module _ (goes_on : HistoryGoesOn) (count : SealsAreCounted) (grants : GrantedIsHeld) (last : GrantedIsLast) (seat : ℕ) (asked : Asked) (receipt : Receipt)
      (row : Row) (after : Figures) (few : length entries - before.sealed < most_calls) (none : refusal_of d (held_in d entries (seals entries)) asked ≡ None)
      (is_receipt : receipt ≡ record { no = length before.stands; effect = record { 0 = before.sealed } })
      (is_row : row ≡ granted_row d (next_number d entries) (seals entries) asked) (more : after.stands ≡ before.stands ++ held_by row ∷ [])
      (links : after.links ≡ before.links) (slots : after.slots ≡ before.slots) (sealed : after.sealed ≡ before.sealed) where
    number : length before.stands ≡ next_number d entries
    number = ap (λ (ss : List Standing). length ss) r.0.are_streams ∙ length-map (streams_of d entries) (stand_of (seals entries))

    due : reply_to d entries (Admits asked) ≡ Accepted receipt
    due = ap (admit_reply (next_number d entries) (seals entries)) none
        ∙ (λ i. Accepted (record { no = sym number i; effect = record { 0 = sym r.0.running.counted i } }))
        ∙ ap Accepted (sym is_receipt)

    abbrev new : Row
    new = granted_row d (next_number d entries) (seals entries) asked

    abbrev grown : List Recorded
    grown = entries_with entries seat (Admits asked) (Ok receipt)

    streams : streams_of d grown ≡ streams_of d entries ++ new ∷ []
    streams = ap (streams_of d) (sym (same goes_on count seat (Admits asked) (Ok receipt) refl few due)) ∙ last d entries seat asked r.0.running.legal none

    cycle : seals grown ≡ seals entries
    cycle = sealed_same goes_on count seat (Admits asked) (Ok receipt) refl few due

    -- its stream is held now
    is_stand : held_by row ≡ stand_of (seals entries) new
    is_stand = ap held_by is_row ∙ ap with_flag (sym now)
      where
        with_flag : Bool → Standing
        with_flag b = record { row = new; held = b }

        now : is_held new (seals entries) ≡ true
        now = ap (λ (b : Bool). b && true) (le-leb (seals entries) (seals entries) (omega arith))

    -- what is held after it
    holds_now : held_in d grown (seals grown) ≡ held_in d entries (seals entries) ++ new ∷ []
    holds_now =
        ap (λ (es : List Recorded). held_in d es (seals es)) (sym (same goes_on count seat (Admits asked) (Ok receipt) refl few due))
        ∙ (grants d entries (held_in d entries (seals entries)) (next_number d entries) seat asked r.0.running.legal state none).held

    pub granted_leaves : LeavesHeld d entries after seat (Admits asked) (Ok receipt)
        (held_in d entries (seals entries) ++ granted_row d receipt.no receipt.effect.0 asked ∷ [])
    granted_leaves = (
      record {
        of = (
          record {
            running = subst (λ (n : ℕ). IsRunning d grown (held_in d grown (seals grown)) (next_number d grown) n) (sym sealed)
                (running goes_on count seat (Admits asked) (Ok receipt) refl few due
                (omega (arith, ap (λ (rs : List Row). length rs) streams, length-append (streams_of d entries) (new ∷ []))));
            are_streams =
                more ∙ (λ i. r.0.are_streams i ++ is_stand i ∷ [])
                ∙ sym (map-append (stand_of (seals entries)) (streams_of d entries) (new ∷ []))
                ∙ sym (λ i. map (stand_of (cycle i)) (streams i));
            ring = subst (λ (ss : List Standing). IsRing ss after.slots) (sym more)
                (subst (λ (lists : List (List ℕ)). IsRing (before.stands ++ held_by row ∷ []) lists) (sym slots)
                (ring_pushed before.stands before.slots r.0.ring (held_by row) (ap (λ (x : Row). x.withdrawn) is_row)));
          },
          links ∙ r.1,
        );
        answers = answered goes_on count seat (Admits asked) (Ok receipt) refl few due refl;
      },
      holds_now
          ∙ (λ i. held_in d entries (seals entries) ++ granted_row d (sym number i) (sym r.0.running.counted i) asked ∷ [])
          ∙ ap (λ (x : Receipt). held_in d entries (seals entries) ++ granted_row d x.no x.effect.0 asked ∷ []) (sym is_receipt),
    )

  -- the effect of a Seal
  pub sealed_leaves : HistoryGoesOn → SealsAreCounted → SealLetsGo → (seat : ℕ) (after : Figures) → before.sealed < most_cycles →
      AreLetGo (get_or before.slots ((before.sealed + 1) % 128) []) before.stands after.stands →
      after.links ≡ before.links → after.slots ≡ set before.slots ((before.sealed + 1) % 128) [] → after.sealed ≡ before.sealed + 1 →
      LeavesSealed d entries after seat
  sealed_leaves goes_on count lets_go seat after some gone links slots next =
      let all = with_entry entries seat Seals Sealed in
      let c = r.0.running.counted in
      let streams : streams_of d all ≡ streams_of d entries =
      streams_same d entries (record { seat = seat; act = Seals; reply = Sealed }) refl (λ number. refl) in
      let more : seals all ≡ seals entries + 1 = count entries seat Seals Sealed in
      let held : held_in d all (seals all) ≡ filter (λ (row : Row). is_held row (seals entries + 1)) (held_in d entries (seals entries)) =
      (lets_go d entries (held_in d entries (seals entries)) (next_number d entries) seat r.0.running.legal state).held in
      let ran = run_sealed goes_on count lets_go d entries (held_in d entries (seals entries)) (next_number d entries) before.sealed seat r.0.running some in
      let gone_in : AreLetGo (get_or before.slots ((seals entries + 1) % 128) []) (stands_in d entries) after.stands =
      subst (λ (n : ℕ). AreLetGo (get_or before.slots ((n + 1) % 128) []) (stands_in d entries) after.stands) c
      (subst (λ (ss : List Standing). AreLetGo (get_or before.slots ((before.sealed + 1) % 128) []) ss after.stands) r.0.are_streams gone) in
      let lists = ring_lists_ends d entries before.slots r.0.running.legal
      (subst (λ (ss : List Standing). IsRing ss before.slots) r.0.are_streams r.0.ring) in
      record {
        of = (
          record {
            running = record {
              legal = ran.legal;
              state = record { held = refl; number = refl };
              counted = next ∙ ap (λ (n : ℕ). n + 1) c ∙ sym more;
              few = omega (arith, ran.few, next, ap (λ (rs : List Row). length rs) streams);
            };
            are_streams =
                let_go_is_next_cycle (streams_of d entries) (seals entries) (get_or before.slots ((seals entries + 1) % 128) []) after.stands
                (λ row at. begun_now d entries row r.0.running.legal at) lists gone_in
                ∙ sym (λ i. map (stand_of (more i)) (streams i));
            ring = subst (λ (lists : List (List ℕ)). IsRing after.stands lists) (sym slots)
                (ring_stays_sealed before.stands after.stands before.slots ((before.sealed + 1) % 128) r.0.ring
                (mod-lt (before.sealed + 1) (omega arith)) gone);
          },
          links ∙ r.1,
        );
        held = held;
      }

-- the streams whose numbers are in a slot are held
pub slot_is_held : (stands : List Standing) (slots : List (List ℕ)) → IsRing stands slots → (slot : ℕ) → slot < 128 →
    (number : ℕ) → Contains (get_or slots slot []) number → IsHeldAt stands number
slot_is_held stands slots ring slot low number there =
    let inside = ring.inside slot number low there in
    record {
      inside = inside;
      held = λ s. (and_parts (get_or stands number s).held _
          (sym (ring.lists slot number s low inside) ∙ member_any (λ other. other == number) (get_or slots slot []) number there (eq-eqb number number refl))).0;
    }

-- at the start there is nothing
pub begins : (d : Domain) (slots : List (List ℕ)) → length slots ≡ 128 → ((slot : ℕ) → slot < 128 → get_or slots slot [] ≡ []) → AreOf d [] [] slots 0
begins d slots many none = record {
  running = record {
    legal = record {
      replies = λ index e at. absurd (omega (arith, slice_get_within [] index e at));
      few_seals = omega arith;
      few_calls = omega arith;
    };
    state = record { held = refl; number = refl };
    counted = refl;
    few = omega arith;
  };
  are_streams = refl;
  ring = record {
    as_many = many;
    lists = λ slot number s low inside. absurd (omega (arith, inside));
    inside = λ slot number low c. absurd (contains_none number (subst (λ (xs : List ℕ). Contains xs number) (none slot low) c));
    once = λ slot low. subst (AllPairs (λ (a b : ℕ). a ≢ b)) (sym (none slot low)) (pairs_none (λ (a b : ℕ). a ≢ b));
  };
}
