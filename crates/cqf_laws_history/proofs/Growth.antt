-- What one more entry changes of the streams.
use Rattle.std.proofs.Common.{◌≡◌, ◌≢◌, ℕ, ◌+◌, ◌<◌, ◌≤◌, Bool, true, false, cond, List, Option, Some, None, length, get_or, sym, refl, ap, ◌∙◌, inl, inr}
use Rattle.std.proofs.Common.{arith, subst, append-nil, length-append}
use std.Path.{fun_ext}
use Rattle.std.specs.Prelude.{[], ◌∷◌, ◌++◌, ◌==◌, ◌&&◌, if◌then◌else◌, filter, map, nat_le, nat_lt, slice_get, take, suc, AllPairs, Contains}
use Rattle.std.specs.Option.{option_map_or}
use Rattle.std.proofs.lemmas.Bool.{cases_lt, eqb-true, eqb-false, ne_eqb, eq-eqb, le-leb, lt-ltb}
use Rattle.std.proofs.lemmas.List.{length-map, map-append, take-append-le, take_all, take_at}
use Rattle.std.proofs.lemmas.List.Elements.{filter-append}
use Rattle.std.proofs.lemmas.List.Sums.{sum_by_push}
use Rattle.std.proofs.lemmas.Option.{same_Some, slice_get-get_or, slice_get_within}
use Rattle.cqf_units.specs.Name.{is_name}
use Rattle.cqf_units.specs.declared.reservations.Cycle.{Cycle}
use Rattle.cqf_model.specs.declared.history.Refused.{Refused}
use Rattle.cqf_model.specs.declared.history.Reply.{Reply}
use Rattle.cqf_model.specs.declared.history.Reply.TheVariants.{Refused as RefusedFor, Sealed}
use Rattle.cqf_model.specs.declared.topology.Row.{Row}
use Rattle.cqf_model.specs.Domain.{Domain, budget}
use Rattle.cqf_model.specs.History.{Act, Admits, Asked, IsLegalHistory, Recorded, Seals, Withdraws, admit_reply, held_in, is_seal, next_number, refusal_of}
use Rattle.cqf_model.specs.History.{reply_to, seal_indices, seals, stream_by, streams_of, withdraw_reply, withdraw_row, withdrawal_by}
use Rattle.cqf_model.specs.Limits.{most_reserved}
use Rattle.cqf_model.specs.Table.{IsTree, is_held, link_cost, residence, row_named}
use Rattle.cqf_model.proofs.Residence.{residence_some}
use Rattle.cqf_lists.proofs.Filters.{filter_weaker}
use Rattle.cqf_lists.specs.Lists.{each_below}
use Rattle.cqf_laws_history.specs.StateLaws.{AreHeld, GrantedIsHeld, HeldAreSound, HistoryGoesOn, IsState, RefusedChangesNothing, SealClosesTable, SealLetsGo}
use Rattle.cqf_laws_history.specs.StateLaws.{SealsAreCounted, WithdrawnIsHeldOn, ended_row, granted_row, with_entry}
use Rattle.cqf_laws_history.specs.StreamLaws.{GrantedIsLast, SealChangesNoStream, WithdrawnEnds}
use Rattle.cqf_lists.proofs.Members.{contains_from_filter, contains_from_map, contains_here, contains_later}
use Rattle.cqf_lists.proofs.Pairs.{pairs_kept}
use Rattle.cqf_lists.proofs.Indices.{nil_from_none, slice_get_after, slice_get_front}
use Rattle.cqf_laws_history.proofs.Indices.{SealAt, admitted_at, admitted_before, seal_at, sealed-suc, sealed_before, sealed_more, streams_front, with_end}
use Rattle.cqf_laws_history.proofs.Indices.{withdrawn_at, withdrawn_before}
use Rattle.cqf_laws_history.proofs.Sound.{AreDue, Sound, held_less, named_is_held, number_below, sound}

-- a Seal adds one Seal
pub seals_are_counted : SealsAreCounted
seals_are_counted entries seat act reply =
    sum_by_push (λ (e : Recorded). cond (is_seal e.act) 1 0) entries (record { seat = seat; act = act; reply = reply })

-- the parts of a history with one entry more
module _ (entries : List Recorded) (e : Recorded) where
  -- before the new entry are the old ones
  pub front_is : take (length entries) (entries ++ e ∷ []) ≡ entries
  front_is = take_at entries (e ∷ []) (length entries) refl

  -- it follows them
  pub last_is : slice_get (entries ++ e ∷ []) (length entries) ≡ Some e
  last_is = slice_get_after entries e [] (length entries) refl

  -- and with it they are all
  pub whole_is : take (suc (length entries)) (entries ++ e ∷ []) ≡ entries ++ e ∷ []
  whole_is = take_all (suc (length entries)) (entries ++ e ∷ []) (omega (arith, length-append entries (e ∷ [])))

-- if a reply that is due is appended, all replies are due
pub due_more : (d : Domain) (entries : List Recorded) (seat : ℕ) (act : Act) → AreDue d entries →
    AreDue d (with_entry entries seat act (reply_to d entries act))
due_more d entries seat act due index x at =
    let e : Recorded = record { seat = seat; act = act; reply = reply_to d entries act } in
    elim (cases_lt index (length entries)) [
      | inl l ↦ due index x (sym (slice_get_front entries (e ∷ []) index l) ∙ at)
          ∙ ap (λ (front : List Recorded). reply_to d front x.act) (sym (take-append-le index entries (e ∷ []) (omega (arith, l))))
      | inr g ↦ (let last : index ≡ length entries = omega (arith, g, slice_get_within (entries ++ e ∷ []) index x at, length-append entries (e ∷ [])) in
          let is : e ≡ x = same_Some e x (sym (last_is entries e) ∙ ap (slice_get (entries ++ e ∷ [])) (sym last) ∙ at) in
          let front : take index (entries ++ e ∷ []) ≡ entries = ap (λ (k : ℕ). take k (entries ++ e ∷ [])) last ∙ front_is entries e in
          ap (λ (y : Recorded). y.reply) (sym is) ∙ ap (λ (a : Act). reply_to d entries a) (ap (λ (y : Recorded). y.act) is)
          ∙ ap (λ (xs : List Recorded). reply_to d xs x.act) (sym front))
    ]

-- a legal history goes on with the answer that is due
pub history_goes_on : HistoryGoesOn
history_goes_on d entries seat act legal few_seals few_calls =
    let reply = reply_to d entries act in
    let count = seals_are_counted entries seat act reply in
    record {
      replies = due_more d entries seat act legal.replies;
      few_seals = omega (arith, count, few_seals);
      few_calls = omega (arith, count, few_calls, length-append entries (record { seat = seat; act = act; reply = reply } ∷ []));
    }

-- the streams before an entry and after it
module _ (d : Domain) (entries : List Recorded) (e : Recorded) where
  -- the streams without the new entry
  pub streams_before : streams_of d entries ≡ map (with_end (withdrawn_before (entries ++ e ∷ []) (length entries)))
      (admitted_before d (entries ++ e ∷ []) (length entries))
  streams_before = ap (streams_of d) (sym (front_is entries e))
      ∙ streams_front (entries ++ e ∷ []) (length entries) (omega (arith, length-append entries (e ∷ []))) d

  -- and with it
  pub streams_after : streams_of d (entries ++ e ∷ []) ≡ map (with_end (withdrawn_before (entries ++ e ∷ []) (suc (length entries))))
      (admitted_before d (entries ++ e ∷ []) (length entries) ++ admitted_at d (entries ++ e ∷ []) (length entries))
  streams_after = ap (streams_of d) (sym (whole_is entries e))
      ∙ streams_front (entries ++ e ∷ []) (suc (length entries)) (omega (arith, length-append entries (e ∷ []))) d

  -- before the new entry are the Seals of the old ones
  pub sealed_here : sealed_before (entries ++ e ∷ []) (length entries) ≡ seals entries
  sealed_here = ap seals (front_is entries e)

  -- what the new entry admits
  pub admitted_here : admitted_at d (entries ++ e ∷ []) (length entries) ≡ stream_by d [] (seals entries) e.act e.reply
  admitted_here =
      ap (λ (o : Option Recorded). option_map_or (λ (x : Recorded). stream_by d [] (sealed_before (entries ++ e ∷ []) (length entries)) x.act x.reply) o [])
      (last_is entries e)
      ∙ ap (λ (c : ℕ). stream_by d [] c e.act e.reply) sealed_here

  -- and what it withdraws
  pub withdrawn_here : (number : ℕ) → withdrawn_at (entries ++ e ∷ []) number (length entries) ≡ withdrawal_by (seals entries) number e.act e.reply
  withdrawn_here number =
      ap (λ (o : Option Recorded). option_map_or
      (λ (x : Recorded). withdrawal_by (sealed_before (entries ++ e ∷ []) (length entries)) number x.act x.reply) o []) (last_is entries e)
      ∙ ap (λ (c : ℕ). withdrawal_by c number e.act e.reply) sealed_here

  -- if it withdraws nothing, the ends stay
  pub ends_same : ((number : ℕ) → withdrawal_by (seals entries) number e.act e.reply ≡ []) →
      withdrawn_before (entries ++ e ∷ []) (suc (length entries)) ≡ withdrawn_before (entries ++ e ∷ []) (length entries)
  ends_same none = fun_ext (λ number.
      let front = each_below (withdrawn_at (entries ++ e ∷ []) number) (length entries) in
      ap (λ (xs : List Cycle). slice_get (front ++ xs) 0) (withdrawn_here number ∙ none number) ∙ ap (λ (xs : List Cycle). slice_get xs 0) (append-nil front))

  -- an entry that admits and withdraws nothing leaves the streams as they are
  pub streams_same : stream_by d [] (seals entries) e.act e.reply ≡ [] → ((number : ℕ) → withdrawal_by (seals entries) number e.act e.reply ≡ []) →
      streams_of d (entries ++ e ∷ []) ≡ streams_of d entries
  streams_same none ends =
      let old = admitted_before d (entries ++ e ∷ []) (length entries) in
      streams_after
      ∙ ap (λ (w : ℕ → Option Cycle). map (with_end w) (old ++ admitted_at d (entries ++ e ∷ []) (length entries))) (ends_same ends)
      ∙ ap (λ (xs : List Row). map (with_end (withdrawn_before (entries ++ e ∷ []) (length entries))) (old ++ xs)) (admitted_here ∙ none)
      ∙ ap (λ (xs : List Row). map (with_end (withdrawn_before (entries ++ e ∷ []) (length entries))) xs) (append-nil old)
      ∙ sym streams_before

-- a state by its streams
pub state_by : (d : Domain) (entries : List Recorded) (streams rows : List Row) (cycle next : ℕ) → streams_of d entries ≡ streams → seals entries ≡ cycle →
    filter (λ (row : Row). is_held row cycle) streams ≡ rows → length streams ≡ next → IsState d entries rows next
state_by d entries streams rows cycle next is now_at held count =
    record {
      held = ap (held_in d entries) now_at ∙ ap (λ (xs : List Row). filter (λ (row : Row). is_held row cycle) xs) is ∙ held;
      number = ap length is ∙ count;
    }

-- a refused call admits nothing
pub refused_none : (d : Domain) (effect : ℕ) (act : Act) (refused : Refused) → stream_by d [] effect act (RefusedFor refused) ≡ []
refused_none d effect (Admits asked) refused = refl
refused_none d effect (Withdraws name) refused = refl
refused_none d effect Seals refused = refl

-- and withdraws nothing
pub refused_ends_none : (effect number : ℕ) (act : Act) (refused : Refused) → withdrawal_by effect number act (RefusedFor refused) ≡ []
refused_ends_none effect number (Admits asked) refused = refl
refused_ends_none effect number (Withdraws name) refused = refl
refused_ends_none effect number Seals refused = refl

-- no Seal is refused
pub no_seal_refused : (d : Domain) (entries : List Recorded) (act : Act) (refused : Refused) → reply_to d entries act ≡ RefusedFor refused → is_seal act ≡ false
no_seal_refused d entries (Admits asked) refused e = refl
no_seal_refused d entries (Withdraws name) refused e = refl
no_seal_refused d entries Seals refused e = absurd cc

-- an entry that is no Seal leaves the next cycle as it was
pub seals_same : (entries : List Recorded) (seat : ℕ) (act : Act) (reply : Reply) → is_seal act ≡ false → seals (with_entry entries seat act reply)
    ≡ seals entries
seals_same entries seat act reply none =
    let count = seals_are_counted entries seat act reply in
    let no_more : ◌≡◌ {A = ℕ} (if is_seal act then 1 else 0) 0 = ap (λ (b : Bool). cond {A = ℕ} b 1 0) none in
    omega (arith, count, no_more)

-- so a refused call changes nothing
pub refused_changes_nothing : RefusedChangesNothing
refused_changes_nothing d entries rows next seat act refused state answer =
    let reply = reply_to d entries act in
    let e : Recorded = record { seat = seat; act = act; reply = reply } in
    let same = streams_same d entries e (ap (λ (r : Reply). stream_by d [] (seals entries) act r) answer ∙ refused_none d (seals entries) act refused)
    (λ number. ap (λ (r : Reply). withdrawal_by (seals entries) number act r) answer ∙ refused_ends_none (seals entries) number act refused) in
    state_by d (entries ++ e ∷ []) (streams_of d entries) rows (seals entries) next same
    (seals_same entries seat act reply (no_seal_refused d entries act refused answer)) state.held state.number

-- a row whose number wasn't withdrawn is itself
pub with_no_end : (w : ℕ → Option Cycle) (row : Row) → row.withdrawn ≡ None → w row.no ≡ None → with_end w row ≡ row
with_no_end w row none same =
    ap (λ (o : Option Cycle). let made : Row =
    record { no = row.no; name = row.name; octets = row.octets; overhead = row.overhead; pace = row.pace; tree = row.tree; admitted = row.admitted; withdrawn = o } in made) (same ∙ sym none)

-- an option that can't have a value is `None`
pub none_unless : (o : Option Cycle) → ((x : Cycle) → o ≡ Some x → ⊥) → o ≡ None
none_unless None h = refl
none_unless (Some x) h = absurd (h x refl)

-- a stream that is admitted in a cycle is held in it
pub new_is_held : (d : Domain) (number effect : ℕ) (asked : Asked) →
    filter (λ (row : Row). is_held row effect) (granted_row d number effect asked ∷ []) ≡ granted_row d number effect asked ∷ []
new_is_held d number effect asked =
    let new = granted_row d number effect asked in
    ap (λ (b : Bool). cond (b && true) (new ∷ []) []) (le-leb effect effect (omega arith))

-- a Seal changes no stream
pub seal_changes_no_stream : SealChangesNoStream
seal_changes_no_stream d entries seat = streams_same d entries (record { seat = seat; act = Seals; reply = Sealed }) refl (λ number. refl)

-- a granted stream is appended to the others
pub granted_is_last : GrantedIsLast
granted_is_last d entries seat asked legal none =
    let next = next_number d entries in
    let reply = reply_to d entries (Admits asked) in
    let e : Recorded = record { seat = seat; act = Admits asked; reply = reply } in
    let all = entries ++ e ∷ [] in
    let n = length entries in
    let old = admitted_before d all n in
    let w = withdrawn_before all n in
    let before = streams_before d entries e in
    let answer : reply ≡ admit_reply next (seals entries) None = ap (λ (r : Option Refused). admit_reply next (seals entries) r) none in
    let new = granted_row d next (seals entries) asked in
    let admitted : admitted_at d all n ≡ new ∷ [] = admitted_here d entries e ∙ ap (λ (r : Reply). stream_by d [] (seals entries) (Admits asked) r) answer in
    let count : length old ≡ next = sym (length-map old (with_end w)) ∙ ap length (sym before) in
    let s = sound d all (due_more d entries seat (Admits asked) legal.replies) n (omega (arith, length-append entries (e ∷ []))) in
    let not_ended : w next ≡ None = none_unless (w next) (λ x f. omega (arith, count, s.ends next x f)) in
    streams_after d entries e
    ∙ ap (λ (v : ℕ → Option Cycle). map (with_end v) (old ++ admitted_at d all n)) (ends_same d entries e (λ number. refl))
    ∙ ap (λ (xs : List Row). map (with_end w) (old ++ xs)) admitted
    ∙ map-append (with_end w) old (new ∷ [])
    ∙ ap (λ (r : Row). map (with_end w) old ++ r ∷ []) (with_no_end w new refl not_ended)
    ∙ ap (λ (xs : List Row). xs ++ new ∷ []) (sym before)

-- it is held, and takes the next number
pub granted_is_held : GrantedIsHeld
granted_is_held d entries rows next seat asked legal state free =
    let all = with_entry entries seat (Admits asked) (reply_to d entries (Admits asked)) in
    let new = granted_row d next (seals entries) asked in
    let none : refusal_of d (held_in d entries (seals entries)) asked ≡ None = ap (λ (xs : List Row). refusal_of d xs asked) state.held ∙ free in
    let streams : streams_of d all ≡ streams_of d entries ++ new ∷ [] =
    granted_is_last d entries seat asked legal none
    ∙ ap (λ (k : ℕ). streams_of d entries ++ granted_row d k (seals entries) asked ∷ []) state.number in
    let held : filter (λ (row : Row). is_held row (seals entries)) (streams_of d entries ++ new ∷ []) ≡ rows ++ new ∷ [] =
    filter-append (λ (row : Row). is_held row (seals entries)) (streams_of d entries) (new ∷ [])
    ∙ ap (λ (xs : List Row). xs ++ filter (λ (row : Row). is_held row (seals entries)) (new ∷ [])) state.held
    ∙ ap (λ (xs : List Row). rows ++ xs) (new_is_held d next (seals entries) asked) in
    state_by d all (streams_of d entries ++ new ∷ []) (rows ++ new ∷ []) (seals entries) (next + 1) streams
    (seals_same entries seat (Admits asked) (reply_to d entries (Admits asked)) refl) held (length-append (streams_of d entries) (new ∷ [])
    ∙ ap (λ (k : ℕ). k + 1) state.number)

-- filtering a mapped list, if the map doesn't change the test
pub filter_mapped : (p : Row → Bool) (g : Row → Row) (xs : List Row) → ((x : Row) → Contains xs x → p (g x) ≡ p x) → filter p (map g xs) ≡ map g (filter p xs)
filter_mapped p g [] h = refl
filter_mapped p g (x ∷ xs) h =
    ap (λ (b : Bool). cond b (g x ∷ filter p (map g xs)) (filter p (map g xs))) (h x (contains_here x xs))
    ∙ ap (λ (zs : List Row). cond (p x) (g x ∷ zs) zs) (filter_mapped p g xs (λ z k. h z (contains_later x xs z k)))
    ∙ map_kept (p x)
  where
    -- it makes no difference whether the first element is mapped before or after the filter
    map_kept : (b : Bool) → cond b (g x ∷ map g (filter p xs)) (map g (filter p xs)) ≡ map g (cond b (x ∷ filter p xs) (filter p xs))
    map_kept true = refl
    map_kept false = refl

-- mapping twice, compared with one map that agrees on the members
pub map_twice : (f g h : Row → Row) (xs : List Row) → ((x : Row) → Contains xs x → f x ≡ g (h x)) → map f xs ≡ map g (map h xs)
map_twice f g h [] e = refl
map_twice f g h (x ∷ xs) e =
    ap (λ (y : Row). y ∷ map f xs) (e x (contains_here x xs)) ∙ ap (λ (ys : List Row). g (h x) ∷ ys) (map_twice f g h xs (λ z k. e z (contains_later x xs z k)))

-- the sound streams of a legal history
pub sound_now : (d : Domain) (entries : List Recorded) → IsLegalHistory d entries → Sound d entries (length entries)
sound_now d entries legal = sound d entries legal.replies (length entries) (omega arith)

-- the first `length` entries are all entries
pub all_is : (entries : List Recorded) → take (length entries) entries ≡ entries
all_is entries = take_all (length entries) entries (omega arith)

-- a stream of a legal history was admitted
pub stream_of : (d : Domain) (entries : List Recorded) (row : Row) → Contains (streams_of d entries) row → (stream : Row) ×
    Contains (admitted_before d entries (length entries)) stream × (with_end (withdrawn_before entries (length entries)) stream ≡ row)
stream_of d entries row h =
    contains_from_map (with_end (withdrawn_before entries (length entries))) (admitted_before d entries (length entries)) row
    (subst (λ (xs : List Row). Contains xs row) (ap (streams_of d) (sym (all_is entries)) ∙ streams_front entries (length entries) (omega arith) d) h)

-- each stream has begun by now
pub begun_now : (d : Domain) (entries : List Recorded) (row : Row) → IsLegalHistory d entries → Contains (streams_of d entries) row →
    row.admitted.0 ≤ seals entries
begun_now d entries row legal h =
    let s = stream_of d entries row h in
    omega (arith, (sound_now d entries legal).begun s.0 s.1, ap (λ (r : Row). r.admitted.0) s.2, ap seals (all_is entries))

-- and its tree is one of the domain
pub tree_now : (d : Domain) (entries : List Recorded) (row : Row) → IsLegalHistory d entries → Contains (streams_of d entries) row → IsTree d row.tree.items
tree_now d entries row legal h =
    let s = stream_of d entries row h in
    subst (λ (r : Row). IsTree d r.tree.items) s.2 ((sound_now d entries legal).trees s.0 s.1)

-- a Seal lets go the streams whose last frame has left
pub seal_lets_go : SealLetsGo
seal_lets_go d entries rows next seat legal state =
    let e : Recorded = record { seat = seat; act = Seals; reply = Sealed } in
    let c = seals entries in
    let same = streams_same d entries e refl (λ number. refl) in
    let less : (x : Row) → Contains (streams_of d entries) x → is_held x (c + 1) ≡ true → is_held x c ≡ true =
    λ x h t. held_less x (λ number. x.withdrawn) (λ number. x.withdrawn) c (c + 1) (omega arith) (begun_now d entries x legal h) (inr refl) t in
    state_by d (entries ++ e ∷ []) (streams_of d entries) (filter (λ (row : Row). is_held row (c + 1)) rows) (c + 1) next same
    (seals_are_counted entries seat Seals Sealed)
    (filter_weaker (λ (row : Row). is_held row (c + 1)) (λ (row : Row). is_held row c) (streams_of d entries) less
    ∙ ap (λ (xs : List Row). filter (λ (row : Row). is_held row (c + 1)) xs) state.held)
    state.number

-- and closes the table of the held streams
pub seal_closes_table : SealClosesTable
seal_closes_table d entries rows next seat state =
    let e : Recorded = record { seat = seat; act = Seals; reply = Sealed } in
    let all = entries ++ e ∷ [] in
    let more = seals_are_counted entries seat Seals Sealed in
    let index = get_or (seal_indices all) (seals entries) (length all) in
    let at = seal_at all (seals entries) (omega (arith, more)) in
    let last : index ≡ length entries = last_seal index at in
    ap (λ (k : ℕ). held_in d (take k all) (seals entries)) last ∙ ap (λ (xs : List Recorded). held_in d xs (seals entries)) (front_is entries e) ∙ state.held
  where
    -- the Seal that was just entered follows all earlier entries
    last_seal : (index : ℕ) → SealAt (with_entry entries seat Seals Sealed) (seals entries) index → index ≡ length entries
    last_seal index at =
        let e : Recorded = record { seat = seat; act = Seals; reply = Sealed } in
        let all = entries ++ e ∷ [] in
        elim (cases_lt index (length entries)) [
          | inl l ↦ (let one_more : sealed_before all (suc index) ≡ sealed_before all index + 1 = sealed-suc all index at.entry at.is
              ∙ ap (λ (b : Bool). sealed_before all index + cond b 1 0) at.seal in
              let early : sealed_before all (suc index) ≤ sealed_before all (length entries) =
              sealed_more all (suc index) (length entries) (omega (arith, l)) (omega (arith, length-append entries (e ∷ []))) in
              absurd (omega (arith, one_more, early, at.before, ap seals (front_is entries e))))
          | inr g ↦ omega (arith, g, at.inside, length-append entries (e ∷ []))
        ]

-- ---- a withdrawal

-- the first element of a list that was empty and got one
pub first_of_none : (front : List Cycle) (x : Cycle) → slice_get front 0 ≡ None → slice_get (front ++ x ∷ []) 0 ≡ Some x
first_of_none front x e = ap (λ (xs : List Cycle). slice_get (xs ++ x ∷ []) 0) (nil_from_none front e)

-- a row with this end
abbrev row_ending : Row → Option Cycle → Row
row_ending row end = record { no = row.no; name = row.name; octets = row.octets; overhead = row.overhead; pace = row.pace; tree = row.tree; admitted = row.admitted; withdrawn = end }

-- a row that is held without an end is still held in this cycle if it ends from this cycle on
pub held_with_end : (row : Row) (cycle number : ℕ) → 0 < residence row → (row.no ≡ number → row.withdrawn ≡ None) →
    is_held (ended_row number cycle row) cycle ≡ is_held row cycle
held_with_end row cycle number long open_end = by_number (row.no == number) refl
  where
    -- this is so whether the row has the number or not
    by_number : (b : Bool) → (row.no == number) ≡ b → is_held (ended_row number cycle row) cycle ≡ is_held row cycle
    by_number false t = ap (λ (c : Bool). is_held (if c then row_ending row (Some (record { 0 = cycle })) else row) cycle) t
    by_number true t =
        let made = row_ending row (Some (record { 0 = cycle })) in
        let none : row.withdrawn ≡ None = open_end (eqb-true row.no number t) in
        ap (λ (c : Bool). is_held (if c then made else row) cycle) t
        ∙ ap (λ (b : Bool). nat_le row.admitted.0 cycle && b) (lt-ltb cycle (cycle + residence row) (omega (arith, long)))
        ∙ ap (λ (o : Option Cycle). nat_le row.admitted.0 cycle && option_map_or (λ (w : Cycle). nat_lt cycle (w.0 + residence row)) o true) (sym none)

-- a stream's end is the withdrawal of its number
pub end_of : (d : Domain) (entries : List Recorded) (row : Row) → Contains (streams_of d entries) row →
    row.withdrawn ≡ withdrawn_before entries (length entries) row.no
end_of d entries row h =
    let s = stream_of d entries row h in
    ap (λ (r : Row). r.withdrawn) (sym s.2) ∙ ap (withdrawn_before entries (length entries)) (ap (λ (r : Row). r.no) s.2)

-- with one more withdrawal, exactly the row of that number ends
pub ended_by : (v w : ℕ → Option Cycle) (number cycle : ℕ) → ((other : ℕ) → (number == other) ≡ true → v other ≡ Some (record { 0 = cycle })) →
    ((other : ℕ) → (number == other) ≡ false → v other ≡ w other) → (row : Row) → with_end v row ≡ ended_row number cycle (with_end w row)
ended_by v w number cycle here elsewhere row = by_number (row.no == number) refl
  where
    -- this is so whether the row has the number or not
    by_number : (b : Bool) → (row.no == number) ≡ b → with_end v row ≡ ended_row number cycle (with_end w row)
    by_number true t =
        ap (row_ending row) (here row.no (eq-eqb number row.no (sym (eqb-true row.no number t))))
        ∙ ap (λ (c : Bool). if c then row_ending row (Some (record { 0 = cycle })) else with_end w row) (sym t)
    by_number false t =
        ap (row_ending row) (elsewhere row.no (ne_eqb number row.no (λ e. eqb-false row.no number t (sym e))))
        ∙ ap (λ (c : Bool). if c then row_ending row (Some (record { 0 = cycle })) else with_end w row) (sym t)

-- a withdrawn stream keeps its position and gets its end
pub withdrawn_ends : WithdrawnEnds
withdrawn_ends d entries seat name row legal found open_end =
    let c = seals entries in
    let reply = reply_to d entries (Withdraws name) in
    let e : Recorded = record { seat = seat; act = Withdraws name; reply = reply } in
    let all = entries ++ e ∷ [] in
    let n = length entries in
    let old = admitted_before d all n in
    let w = withdrawn_before all n in
    let v = withdrawn_before all (suc n) in
    let before = streams_before d entries e in
    let answer : reply ≡ withdraw_row c row.no None = ap (withdraw_reply c) found ∙ ap (withdraw_row c row.no) open_end in
    let in_held : Contains (held_in d entries c) row = named_is_held (held_in d entries c) name row found in
    let in_streams : Contains (streams_of d entries) row = (contains_from_filter (λ (r : Row). is_held r c) (streams_of d entries) row in_held).0 in
    let made = contains_from_map (with_end w) old row (subst (λ (xs : List Row). Contains xs row) before in_streams) in
    let number_of : made.0.no ≡ row.no = ap (λ (r : Row). r.no) made.2 in
    let end_here : w made.0.no ≡ row.withdrawn = ap (λ (r : Row). r.withdrawn) made.2 in
    let not_ended : w row.no ≡ None = ap w (sym number_of) ∙ end_here ∙ open_end in
    let one_more : (number : ℕ) → withdrawn_at all number n ≡ (if row.no == number then record { 0 = c } ∷ [] else []) =
    λ number. withdrawn_here d entries e number ∙ ap (λ (r : Reply). withdrawal_by c number (Withdraws name) r) answer in
    let front : ℕ → List Cycle = λ number. each_below (withdrawn_at all number) n in
    let here : (other : ℕ) → (row.no == other) ≡ true → v other ≡ Some (record { 0 = c }) =
    λ other t.
    let ends_here : w other ≡ None = ap w (sym (eqb-true row.no other t)) ∙ not_ended in
    ap (λ (xs : List Cycle). slice_get (front other ++ xs) 0) (one_more other ∙ ap (λ (b : Bool). if b then record { 0 = c } ∷ [] else []) t)
    ∙ first_of_none (front other) (record { 0 = c }) ends_here in
    let elsewhere : (other : ℕ) → (row.no == other) ≡ false → v other ≡ w other =
    λ other t.
    ap (λ (xs : List Cycle). slice_get (front other ++ xs) 0) (one_more other ∙ ap (λ (b : Bool). if b then record { 0 = c } ∷ [] else []) t)
    ∙ ap (λ (xs : List Cycle). slice_get xs 0) (append-nil (front other)) in
    streams_after d entries e
    ∙ ap (λ (xs : List Row). map (with_end v) (old ++ xs)) (admitted_here d entries e)
    ∙ ap (map (with_end v)) (append-nil old)
    ∙ map_twice (with_end v) (ended_row row.no c) (with_end w) old (λ s k. ended_by v w row.no c here elsewhere s)
    ∙ ap (map (ended_row row.no c)) (sym before)

-- it is held on
pub withdrawn_is_held_on : WithdrawnIsHeldOn
withdrawn_is_held_on d entries rows next seat name row legal state found open_end =
    let c = seals entries in
    let all = with_entry entries seat (Withdraws name) (reply_to d entries (Withdraws name)) in
    let there : row_named (held_in d entries c) name ≡ Some row = ap (λ (xs : List Row). row_named xs name) state.held ∙ found in
    let streams = withdrawn_ends d entries seat name row legal there open_end in
    let in_held : Contains (held_in d entries c) row = named_is_held (held_in d entries c) name row there in
    let in_streams : Contains (streams_of d entries) row = (contains_from_filter (λ (r : Row). is_held r c) (streams_of d entries) row in_held).0 in
    let kept : (x : Row) → Contains (streams_of d entries) x → is_held (ended_row row.no c x) c ≡ is_held x c =
    λ x h. held_with_end x c row.no (residence_some d x (tree_now d entries x legal h)) (λ same.
    end_of d entries x h ∙ ap (withdrawn_before entries (length entries)) same ∙ sym (end_of d entries row in_streams) ∙ open_end) in
    state_by d all (map (ended_row row.no c) (streams_of d entries)) (map (ended_row row.no c) rows) c next streams
    (seals_same entries seat (Withdraws name) (reply_to d entries (Withdraws name)) refl)
    (filter_mapped (λ (r : Row). is_held r c) (ended_row row.no c) (streams_of d entries) kept ∙ ap (map (ended_row row.no c)) state.held)
    (length-map (streams_of d entries) (ended_row row.no c) ∙ state.number)

-- ---- what holds for held streams

-- held streams are sound
pub held_sound : (d : Domain) (entries : List Recorded) → IsLegalHistory d entries →
    AreHeld d (held_in d entries (seals entries)) (next_number d entries) (seals entries)
held_sound d entries legal =
    let n = length entries in
    let c = seals entries in
    let s = sound_now d entries legal in
    let w = withdrawn_before entries n in
    let old = admitted_before d entries n in
    let streams : streams_of d entries ≡ map (with_end w) old = ap (streams_of d) (sym (all_is entries)) ∙ streams_front entries n (omega arith) d in
    let held_is : filter (λ (r : Row). is_held r c) (map (with_end w) old) ≡ held_in d entries c =
    ap (λ (xs : List Row). filter (λ (r : Row). is_held r c) xs) (sym streams) in
    let sealed : sealed_before entries n ≡ c = ap seals (all_is entries) in
    let stream : (row : Row) → Contains (held_in d entries c) row → Contains (streams_of d entries) row =
    λ row h. (contains_from_filter (λ (r : Row). is_held r c) (streams_of d entries) row h).0 in
    let pairs_here : (R : Row → Row → Type 0) →
    AllPairs (λ (a b : Row). is_held (with_end w a) (sealed_before entries n) ≡ true → is_held (with_end w b) (sealed_before entries n) ≡ true →
    R (with_end w a) (with_end w b)) old → AllPairs R (held_in d entries c) =
    λ R pairs. subst (AllPairs R) held_is (pairs_kept R (with_end w) (λ (r : Row). is_held r c) old
    (subst (λ (k : ℕ). AllPairs (λ (a b : Row). is_held (with_end w a) k ≡ true → is_held (with_end w b) k ≡ true →
    R (with_end w a) (with_end w b)) old) sealed pairs)) in
    record {
      trees = λ row h. tree_now d entries row legal (stream row h);
      named = λ row h. let t = stream_of d entries row (stream row h) in subst (λ (r : Row). is_name r.name ≡ true) t.2 (s.named t.0 t.1);
      least_octets = λ row h. let t = stream_of d entries row (stream row h) in subst (λ (r : Row). 64 ≤ r.octets) t.2 (s.least_octets t.0 t.1);
      most_octets = λ row h. let t = stream_of d entries row (stream row h) in subst (λ (r : Row). r.octets ≤ most_reserved) t.2 (s.most_octets t.0 t.1);
      below = λ row h.
          let t = stream_of d entries row (stream row h) in
          omega (arith, number_below d entries n t.0 s t.1, ap (λ (r : Row). r.no) t.2, ap length streams, length-map old (with_end w));
      begun = λ row h. begun_now d entries row legal (stream row h);
      numbers = pairs_here (λ (a b : Row). a.no < b.no) (λ i j x l m held_a held_b.
          let early : (get_or old i x).no ≡ i = s.numbers i (get_or old i x) (slice_get-get_or old i x (omega (arith, l, m))) in
          let late : (get_or old j x).no ≡ j = s.numbers j (get_or old j x) (slice_get-get_or old j x m) in
          omega (arith, l, early, late));
      names = pairs_here (λ (a b : Row). a.name ≢ b.name) s.names;
      overheads = λ row h. let t = stream_of d entries row (stream row h) in subst (λ (r : Row). r.overhead ≡ d.overhead) t.2 (s.overheads t.0 t.1);
      loads = λ l active_cycle.
          let there : link_cost (filter (λ (r : Row). is_held r c) (map (with_end w) old)) l active_cycle ≤ budget d l =
          subst (λ (k : ℕ). link_cost (filter (λ (r : Row). is_held r k) (map (with_end w) old)) l active_cycle ≤ budget d l) sealed (s.loads l active_cycle) in
          subst (λ (xs : List Row). link_cost xs l active_cycle ≤ budget d l) held_is there;
    }

-- and so is each running state
pub held_are_sound : HeldAreSound
held_are_sound d entries rows next legal state =
    subst (λ (k : ℕ). AreHeld d rows k (seals entries)) state.number
    (subst (λ (xs : List Row). AreHeld d xs (next_number d entries) (seals entries)) state.held (held_sound d entries legal))
