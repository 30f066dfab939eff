-- The stream held under a name is the row with the name.
use Rattle.std.proofs.Common.{◌≡◌, ℕ, ◌<◌, ◌⊎◌, false, true, List, Option, Some, None, Err, get_or, length, refl, sym, ap, ◌∙◌, arith, inl, inr}
use Rattle.std.specs.Prelude.{Contains, is_some, slice_get}
use Rattle.std.proofs.lemmas.List.{get_or-map, length-map}
use Rattle.std.proofs.lemmas.Option.{get_or_from_slice_get, slice_get_within}
use Rattle.cqf_lists.proofs.Members.{contains_at, contains_filter, contains_from_filter, find_member, index_of_member}
use Rattle.cqf_units.specs.Name.{is_name}
use Rattle.cqf_model.specs.declared.history.Refused.{Refused}
use Rattle.cqf_model.specs.declared.history.Reply.TheVariants.{Refused as RefusedFor}
use Rattle.cqf_model.specs.declared.topology.Row.{Row}
use Rattle.cqf_model.specs.Domain.{Domain, is_text}
use Rattle.cqf_model.specs.History.{Recorded, Withdraws, held_in, next_number, reply_to, seals, streams_of, withdraw_reply}
use Rattle.cqf_model.specs.Table.{is_held, row_named}
use Rattle.cqf_model.proofs.Texts.{is_text_same}
use Rattle.cqf_laws_history.specs.StateLaws.{AreHeld, HeldAreSound}
use Rattle.cqf_laws_history.proofs.Indices.{entry_at}
use Rattle.cqf_laws_history.proofs.Sound.{named_is_held}
use Rattle.cqf_laws_history.proofs.Numbers.{numbered}
use Rattle.cqf_admission.specs.Holdings.{IsFree, IsHolder, Standing}
use Rattle.cqf_admission.specs.State.{AreOf}
use Rattle.cqf_admission.specs.Streams.{stand_of}
use Rattle.cqf_admission.specs.Weighing.{FindsOpen}
use Rattle.cqf_admission.proofs.GrantLemmas.{ended_reply, not_a_name}
use Rattle.cqf_admission.proofs.TableLemmas.{the_row_named}

-- the stream with a number is the held one with the name
pub record IsFound (d : Domain) (entries : List Recorded) (stands : List Standing) (name : List ℕ) (number : ℕ) : Type 0 where
  pub row : Row
  pub at : slice_get (streams_of d entries) number ≡ Some row
  pub among : Contains (streams_of d entries) row
  pub held : is_held row (seals entries) ≡ true
  pub named : row_named (held_in d entries (seals entries)) name ≡ Some row
  pub is : (s : Standing) → get_or stands number s ≡ stand_of (seals entries) row
  pub number_is : row.no ≡ number

module _ (d : Domain) (entries : List Recorded) (stands : List Standing) (slots : List (List ℕ)) (sealed : ℕ) (r : AreOf d entries stands slots sealed)
    (sound : HeldAreSound) where
  abbrev as_stand : Row → Standing
  as_stand row = stand_of (seals entries) row

  many : length stands ≡ length (streams_of d entries)
  many = ap (λ (ss : List Standing). length ss) r.are_streams ∙ length-map (streams_of d entries) as_stand

  held_rows : AreHeld d (held_in d entries (seals entries)) (next_number d entries) (seals entries)
  held_rows = sound d entries (held_in d entries (seals entries)) (next_number d entries) r.running.legal (record { held = refl; number = refl })

  -- a stream, with whether it is held, at the index of its number
  stands_at : (number : ℕ) (row : Row) → slice_get (streams_of d entries) number ≡ Some row → (s : Standing) → get_or stands number s ≡ as_stand row
  stands_at number row at s =
      ap (λ (ss : List Standing). get_or ss number s) r.are_streams
      ∙ get_or-map as_stand (streams_of d entries) number row s (slice_get_within (streams_of d entries) number row at)
      ∙ ap as_stand (get_or_from_slice_get (streams_of d entries) number row row at)

  pub found : (name : List ℕ) (number : ℕ) → IsHolder stands name number → IsFound d entries stands name number
  found name number holder =
      let inside : number < length (streams_of d entries) = omega (arith, holder.is_held.inside, many) in
      let one = entry_at (streams_of d entries) number inside in
      let row = one.0 in
      let among = contains_at (streams_of d entries) number row one.1 in
      let is = stands_at number row one.1 in
      let held : is_held row (seals entries) ≡ true = ap (λ (s : Standing). s.held) (sym (is (as_stand row))) ∙ holder.is_held.held (as_stand row) in
      let same : row.name ≡ name = ap (λ (s : Standing). s.row.name) (sym (is (as_stand row))) ∙ holder.named (as_stand row) in
      let rows = held_in d entries (seals entries) in
      let there : Contains rows row = contains_filter (λ (x : Row). is_held x (seals entries)) (streams_of d entries) row among held in
      record {
        row = row;
        at = one.1;
        among = among;
        held = held;
        named = (the_row_named rows name (record { numbers = held_rows.numbers; names = held_rows.names }) row).1 (there, same);
        is = is;
        number_is = numbered d entries r.running.legal number row one.1;
      }

  -- if no stream is held under a name, or it is no name, no row has it
  pub none_found : (name : List ℕ) → (is_name name ≡ false) ⊎ IsFree stands name → row_named (held_in d entries (seals entries)) name ≡ None
  none_found name free = elim free [
    | inl bad ↦ not_a_name (held_in d entries (seals entries)) name held_rows.named bad
    | inr nobody ↦ by nobody (row_named (held_in d entries (seals entries)) name) refl
  ]
    where
      by : IsFree stands name → (o : Option Row) → row_named (held_in d entries (seals entries)) name ≡ o → row_named (held_in d entries (seals entries)) name ≡ None
      by nobody None e = e
      by nobody (Some row) e =
          let rows = held_in d entries (seals entries) in
          let there = contains_from_filter (λ (x : Row). is_held x (seals entries)) (streams_of d entries) row (named_is_held rows name row e) in
          let same : row.name ≡ name = is_text_same row.name name (find_member (λ (x : Row). is_text x.name name) rows row e).1 in
          let index = index_of_member (streams_of d entries) row there.0 in
          let is = stands_at index.0 row index.1 in
          absurd (nobody index.0 (record {
            inside = omega (arith, slice_get_within (streams_of d entries) index.0 row index.1, many);
            held = λ s. ap (λ (x : Standing). x.held) (is s) ∙ there.1;
          }) (as_stand row) (ap (λ (x : Standing). x.row.name) (is (as_stand row)) ∙ same))

  -- the reason why a stream can't be withdrawn is the answer that is due
  pub not_open : (name : List ℕ) (refused : Refused) → FindsOpen stands name (Err refused) → reply_to d entries (Withdraws name) ≡ RefusedFor refused
  not_open name refused finds = elim finds [
    | inl none ↦ ap (withdraw_reply (seals entries)) (none_found name none.1) ∙ ap RefusedFor (sym none.0)
    | inr ended ↦ (
        let f = found name ended.1 ended.2.0 in
        let over : is_some f.row.withdrawn ≡ true = ap (λ (s : Standing). is_some s.row.withdrawn) (sym (f.is (as_stand f.row))) ∙ ended.2.1 (as_stand f.row) in
        ap (withdraw_reply (seals entries)) f.named ∙ ended_reply (seals entries) f.row.no f.row.withdrawn over ∙ ap RefusedFor (sym ended.0))
  ]
