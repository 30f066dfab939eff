-- The figures of a history with one more withdrawal.
use Rattle.std.proofs.Common.{◌≡◌, ℕ, ◌+◌, ◌-◌, ◌<◌, ◌%◌, Bool, List, None, Ok, [], ◌∷◌, ◌++◌, map}
use Rattle.std.proofs.Common.{get_or, set, length, refl, sym, ap, ◌∙◌, subst, arith, mod-lt}
use Rattle.std.specs.Prelude.{if◌then◌else◌}
use Rattle.std.proofs.lemmas.Bool.{eq-eqb}
use Rattle.std.proofs.lemmas.List.{length-map}
use Rattle.cqf_model.specs.declared.history.Receipt.{Receipt}
use Rattle.cqf_model.specs.declared.history.Reply.TheVariants.{Accepted}
use Rattle.cqf_model.specs.declared.topology.Row.{Row}
use Rattle.cqf_model.specs.Domain.{Domain}
use Rattle.cqf_model.specs.History.{Recorded, Withdraws, held_in, next_number, reply_to, seals, streams_of, withdraw_reply, withdraw_row}
use Rattle.cqf_model.specs.Limits.{most_calls}
use Rattle.cqf_model.specs.Table.{is_held, residence}
use Rattle.cqf_model.proofs.Residence.{residence_some}
use Rattle.cqf_laws_history.specs.StateLaws.{HeldAreSound, HistoryGoesOn, SealsAreCounted, WithdrawnIsHeldOn, ended_row}
use Rattle.cqf_laws_history.specs.StreamLaws.{WithdrawnEnds}
use Rattle.cqf_laws_history.proofs.Growth.{held_with_end, tree_now}
use Rattle.cqf_laws_history.proofs.Numbers.{numbered, one_ends}
use Rattle.cqf_admission.specs.Admission.{IsRunning}
use Rattle.cqf_admission.specs.Holdings.{Standing, with_row}
use Rattle.cqf_admission.specs.Ring.{IsRing}
use Rattle.cqf_admission.specs.Rows.{ended}
use Rattle.cqf_admission.specs.State.{Figures, IsStateOf, entries_with, stands_in}
use Rattle.cqf_admission.specs.Streams.{stand_of}
use Rattle.cqf_admission.specs.Weighing.{IsOpenAt}
use Rattle.cqf_admission.proofs.Found.{IsFound, found}
use Rattle.cqf_admission.proofs.Lists.{map_set}
use Rattle.cqf_admission.proofs.Running.{LeavesHeld, answered, running, same, sealed_same}
use Rattle.cqf_admission.proofs.Whole.{ring_stays_withdrawn}

module _ (d : Domain) (entries : List Recorded) (before : Figures) (r : IsStateOf d entries before) (goes_on : HistoryGoesOn) (count : SealsAreCounted)
    (withdraws : WithdrawnIsHeldOn) (sound : HeldAreSound) (ends : WithdrawnEnds) (seat : ℕ) (name : List ℕ) (number slot : ℕ) (row over : Row)
    (receipt : Receipt) (after : Figures) (few : length entries - before.sealed < most_calls) (opened : IsOpenAt before.stands name number)
    (is_row : (s : Standing) → (get_or before.stands number s).row ≡ row) (is_slot : slot ≡ (before.sealed + residence row) % 128)
    (is_over : over ≡ ended row (record { 0 = before.sealed }))
    (less : (s : Standing) → after.stands ≡ set before.stands number (with_row (get_or before.stands number s) over))
    (links : after.links ≡ before.links) (more : after.slots ≡ set before.slots slot (get_or before.slots slot [] ++ number ∷ []))
    (sealed : after.sealed ≡ before.sealed) (is_receipt : receipt ≡ record { no = number; effect = record { 0 = before.sealed } }) where
  abbrev f : IsFound d entries before.stands name number
  f = found d entries before.stands before.slots before.sealed r.0 sound name number opened.0

  abbrev as_stand : Row → Standing
  as_stand one = stand_of (seals entries) one

  is_found : row ≡ f.row
  is_found = sym (is_row (as_stand f.row)) ∙ ap (λ (s : Standing). s.row) (f.is (as_stand f.row))

  open_end : f.row.withdrawn ≡ None
  open_end = ap (λ (s : Standing). s.row.withdrawn) (sym (f.is (as_stand f.row))) ∙ opened.1 (as_stand f.row)

  due : reply_to d entries (Withdraws name) ≡ Accepted receipt
  due = ap (withdraw_reply (seals entries)) f.named ∙ ap (withdraw_row (seals entries) f.row.no) open_end
      ∙ (λ i. Accepted (record { no = f.number_is i; effect = record { 0 = sym r.0.running.counted i } }))
      ∙ ap Accepted (sym is_receipt)

  abbrev all : List Recorded
  all = entries_with entries seat (Withdraws name) (Ok receipt)

  abbrev gone : Row
  gone = ended f.row (record { 0 = seals entries })

  map_of : streams_of d all ≡ map (ended_row f.row.no (seals entries)) (streams_of d entries)
  map_of = ap (streams_of d) (sym (same d entries before r goes_on count seat (Withdraws name) (Ok receipt) refl few due))
      ∙ ends d entries seat name f.row r.0.running.legal f.named open_end

  streams : streams_of d all ≡ set (streams_of d entries) number gone
  streams = map_of
      ∙ one_ends (streams_of d entries) 0 f.row.no (seals entries) number f.row (λ k one at. numbered d entries r.0.running.legal k one at ∙ omega arith)
      (f.number_is ∙ omega arith) f.at

  -- it is still held
  held_on : is_held gone (seals entries) ≡ is_held f.row (seals entries)
  held_on =
      ap (λ (b : Bool). is_held (if b then gone else f.row) (seals entries)) (sym (eq-eqb f.row.no f.row.no refl))
      ∙ held_with_end f.row (seals entries) f.row.no (residence_some d f.row (tree_now d entries f.row r.0.running.legal f.among)) (λ e. open_end)

  ends_so : as_stand gone ≡ with_row (as_stand f.row) gone
  ends_so = ap with_flag held_on
    where
      with_flag : Bool → Standing
      with_flag b = record { row = gone; held = b }

  over_is : over ≡ gone
  over_is = is_over ∙ (λ i. ended (is_found i) (record { 0 = r.0.running.counted i }))

  cycle : seals all ≡ seals entries
  cycle = sealed_same d entries before r goes_on count seat (Withdraws name) (Ok receipt) refl few due

  -- what is held after it
  held_now : held_in d all (seals all) ≡ map (ended_row f.row.no (seals entries)) (held_in d entries (seals entries))
  held_now =
      ap (λ (es : List Recorded). held_in d es (seals es)) (sym (same d entries before r goes_on count seat (Withdraws name) (Ok receipt) refl few due))
      ∙ (withdraws d entries (held_in d entries (seals entries)) (next_number d entries) seat name f.row r.0.running.legal
      (record { held = refl; number = refl }) f.named open_end).held

  -- their ring
  ring : IsRing after.stands after.slots
  ring =
      let stand = as_stand f.row in
      let set_so : after.stands ≡ set before.stands number (with_row stand (ended stand.row (record { 0 = before.sealed }))) =
      less stand ∙ ap (λ (s : Standing). set before.stands number (with_row s over)) (f.is stand)
      ∙ ap (λ (x : Row). set before.stands number (with_row stand x)) (is_over ∙ ap (λ (x : Row). ended x (record { 0 = before.sealed })) is_found) in
      let slot_so : slot ≡ (before.sealed + residence f.row) % 128 = is_slot ∙ ap (λ (x : Row). (before.sealed + residence x) % 128) is_found in
      subst (λ (ss : List (List ℕ)). IsRing after.stands ss) (sym more)
      (subst (λ (ss : List Standing). IsRing ss (set before.slots slot (get_or before.slots slot [] ++ number ∷ []))) (sym set_so)
      (ring_stays_withdrawn before.stands before.slots number slot (record { 0 = before.sealed }) stand r.0.ring opened.0.is_held f.is open_end slot_so
      (subst (λ (n : ℕ). n < 128) (sym slot_so) (mod-lt (before.sealed + residence f.row) (omega arith)))))

  pub withdrawn_leaves : LeavesHeld d entries after seat (Withdraws name) (Ok receipt)
      (map (ended_row receipt.no receipt.effect.0) (held_in d entries (seals entries)))
  withdrawn_leaves = (
    record {
      of = (
        record {
          running = subst (λ (n : ℕ). IsRunning d all (held_in d all (seals all)) (next_number d all) n) (sym sealed)
              (running d entries before r goes_on count seat (Withdraws name) (Ok receipt) refl few due
              (omega (arith, ap (λ (rs : List Row). length rs) map_of, length-map (streams_of d entries) (ended_row f.row.no (seals entries)))));
          are_streams =
              less (as_stand f.row)
              ∙ (λ i. set (r.0.are_streams i) number (with_row (f.is (as_stand f.row) i) (over_is i)))
              ∙ ap (set (stands_in d entries) number) (sym ends_so)
              ∙ sym (map_set as_stand (streams_of d entries) number gone)
              ∙ sym (λ i. map (stand_of (cycle i)) (streams i));
          ring = ring;
        },
        links ∙ r.1,
      );
      answers = answered d entries before r goes_on count seat (Withdraws name) (Ok receipt) refl few due refl;
    },
    held_now
        ∙ (λ i. map (ended_row (f.number_is i) (sym r.0.running.counted i)) (held_in d entries (seals entries)))
        ∙ ap (λ (x : Receipt). map (ended_row x.no x.effect.0) (held_in d entries (seals entries))) (sym is_receipt),
  )
