-- The paces of a history's streams.
use Rattle.std.proofs.Common.{◌≡◌, ◌≢◌, ℕ, ◌<◌, ◌%◌, ◌==◌, ◌∙◌, List, Option, Some, None, [], ap, arith, length, nat_lt, refl, subst, sym}
use Rattle.std.specs.Prelude.{Contains, false, slice_get, take}
use Rattle.std.specs.Option.{option_map_or}
use Rattle.std.proofs.Math.Nat.{mod-eq_of_lt, mod-zero}
use Rattle.std.proofs.lemmas.Bool.{and_left, ne_eqb}
use Rattle.cqf_lists.proofs.EachBelow.{contains_from_below}
use Rattle.cqf_lists.proofs.Members.{contains_from_filter, contains_none, contains_one}
use Rattle.cqf_model.specs.declared.history.Receipt.{Receipt}
use Rattle.cqf_model.specs.declared.history.Refused.{Refused}
use Rattle.cqf_model.specs.declared.history.Reply.{Reply}
use Rattle.cqf_model.specs.declared.history.Reply.TheVariants.{Accepted, Sealed, Refused as RefusedFor}
use Rattle.cqf_model.specs.declared.topology.Pace.{Pace}
use Rattle.cqf_model.specs.declared.topology.Row.{Row}
use Rattle.cqf_model.specs.Domain.{Domain}
use Rattle.cqf_model.specs.History.{Act, Admits, Asked, IsLegalHistory, Recorded, Seals, Withdraws, admit_reply, held_in, is_pace, next_number, pace_of, refusal_of, reply_to}
use Rattle.cqf_model.specs.History.{seals, stream_by, streams_of}
use Rattle.cqf_model.specs.Table.{is_held}
use Rattle.cqf_laws_history.proofs.Granted.{granted}
use Rattle.cqf_laws_history.proofs.Indices.{entry_at}
use Rattle.cqf_admission.specs.ActiveCycles.{AreOfGoodPaces, IsGoodPace, IsOfGoodPace}
use Rattle.cqf_admission.proofs.ActiveCycleLemmas.{asked_is_good}

-- 0 isn't a pace, nor is a number of cycles that doesn't divide 80
no_pace : (every phase : ℕ) → 80 % every ≢ 0 → is_pace every phase ≡ false
no_pace every phase differ = and_left (80 % every == 0) (nat_lt phase every) (ne_eqb (80 % every) 0 differ)

pub never_a_pace : (every phase : ℕ) → every ≡ 0 → is_pace every phase ≡ false
never_a_pace every phase is = no_pace every phase (λ divides. omega (arith, divides, ap (λ (n : ℕ). 80 % n) is, mod-zero 80))

pub too_long_a_pace : (every phase : ℕ) → 80 < every → is_pace every phase ≡ false
too_long_a_pace every phase long = no_pace every phase (λ divides. omega (arith, divides, mod-eq_of_lt long))

-- what holds for the paces of all granted requests holds for each stream's pace
module _ (d : Domain) (entries : List Recorded) (P : Pace → Type 0)
    (each : (index : ℕ) (e : Recorded) (asked : Asked) (receipt : Receipt) → slice_get entries index ≡ Some e → e.act ≡ Admits asked →
    e.reply ≡ Accepted receipt → P (pace_of asked)) where
  of_entry : (index effect : ℕ) (e : Recorded) (act : Act) (reply : Reply) → slice_get entries index ≡ Some e → e.act ≡ act → e.reply ≡ reply → (row : Row) →
      Contains (stream_by d entries effect act reply) row → P row.pace
  of_entry index effect e (Withdraws name) reply at acts replies row among = absurd (contains_none row among)
  of_entry index effect e Seals reply at acts replies row among = absurd (contains_none row among)
  of_entry index effect e (Admits asked) (RefusedFor refused) at acts replies row among = absurd (contains_none row among)
  of_entry index effect e (Admits asked) Sealed at acts replies row among = absurd (contains_none row among)
  of_entry index effect e (Admits asked) (Accepted receipt) at acts replies row among =
      subst (λ (r : Row). P r.pace) (contains_one _ row among) (each index e asked receipt at acts replies)

  pub each_pace : (row : Row) → Contains (streams_of d entries) row → P row.pace
  each_pace row among =
      let gives : Option Recorded → ℕ → List Row = λ o index. option_map_or (λ (e : Recorded). stream_by d entries (seals (take index entries)) e.act e.reply) o [] in
      let there = contains_from_below (λ index. gives (slice_get entries index) index) (length entries) row among in
      let one = entry_at entries there.0 there.1 in
      of_entry there.0 (seals (take there.0 entries)) one.0 one.0.act one.0.reply one.1 refl refl row
      (subst (λ (o : Option Recorded). Contains (gives o there.0) row) one.1 there.2)

-- a request that was answered with a receipt isn't refused
not_refused : (next effect : ℕ) (refusal : Option Refused) (receipt : Receipt) → admit_reply next effect refusal ≡ Accepted receipt → refusal ≡ None
not_refused next effect None receipt is = refl
not_refused next effect (Some refused) receipt is = absurd cc

-- so the streams of a legal history have good paces
pub good_now : (d : Domain) (entries : List Recorded) → IsLegalHistory d entries → (row : Row) → Contains (streams_of d entries) row → IsOfGoodPace row
good_now d entries legal = each_pace d entries IsGoodPace (λ index e asked receipt at acts replies.
    let before = take index entries in
    let due : reply_to d before (Admits asked) ≡ Accepted receipt =
    sym (legal.replies index e at ∙ ap (reply_to d before) acts) ∙ replies in
    let held = held_in d before (seals before) in
    let none = not_refused (next_number d before) (seals before) (refusal_of d held asked) receipt due in
    asked_is_good asked (granted d held asked none).pace)

-- and so have the held ones
pub good_held : (d : Domain) (entries : List Recorded) → IsLegalHistory d entries → (cycle : ℕ) → AreOfGoodPaces (held_in d entries cycle)
good_held d entries legal cycle row among = good_now d entries legal row (contains_from_filter (λ (r : Row). is_held r cycle) (streams_of d entries) row among).0
