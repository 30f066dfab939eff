-- Histories that admit only streams of a list: what their tables cost.
use Rattle.cqf_model.specs.declared.topology.Pace.{Pace}
use Rattle.cqf_model.specs.History.{pace_of}
use Rattle.cqf_model.specs.Table.{uses}
use Rattle.std.proofs.Common.{◌≡◌, ◌≢◌, ℕ, ◌+◌, ◌≤◌, ◌∷◌, [], ◌++◌, List, Bool, true, Option, Some, None, inl, inr, refl, sym, ap, ◌∙◌}
use Rattle.std.proofs.Common.{subst, arith, AllPairs, Contains, length, sum_by, take, length-append, if◌then◌else◌, zero-add}
use Rattle.std.specs.Prelude.{slice_get, slice_index_or}
use Rattle.std.specs.Option.{option_map_or}
use Rattle.std.proofs.lemmas.Bool.{cases_lt, cond-true}
use Rattle.std.proofs.lemmas.List.{get_or_past}
use Rattle.std.proofs.lemmas.List.Elements.{Contains-append_cases}
use Rattle.std.proofs.lemmas.List.Sums.{sum_by-cons, sum_by_push}
use Rattle.cqf_units.specs.Timing.{cost_of}
use Rattle.cqf_lists.proofs.EachBelow.{contains_from_below, get_or-singles, length-singles}
use Rattle.cqf_lists.proofs.Members.{contains_at, contains_from_filter, contains_from_take, contains_none, contains_one}
use Rattle.cqf_lists.proofs.Pairs.{pairs_weaker}
use Rattle.cqf_lists.proofs.Sums.{sum_matched, sum_member}
use Rattle.cqf_model.specs.declared.history.Receipt.{Receipt}
use Rattle.cqf_model.specs.declared.history.Reply.{Reply}
use Rattle.cqf_model.specs.declared.history.Reply.TheVariants.{Accepted, Sealed, Refused as RefusedFor}
use Rattle.cqf_model.specs.declared.topology.Hop.{Hop}
use Rattle.cqf_model.specs.declared.topology.Row.{Row}
use Rattle.cqf_model.specs.Domain.{Domain, is_text}
use Rattle.cqf_model.specs.History.{Act, Admits, Asked, IsLegalHistory, Recorded, Seals, Withdraws, held_in, refusal_of, reply_to, seal_indices, seals}
use Rattle.cqf_model.specs.History.{stream_by, streams_of, table_at, tables_of, tree_of}
use Rattle.cqf_model.specs.Table.{cost_on, is_held, link_cost, table_of}
use Rattle.cqf_model.proofs.Texts.{is_text_itself, is_text_same}
use Rattle.cqf_laws_history.specs.HistoryLaws.{TablesAreOrderly}
use Rattle.cqf_laws_history.specs.StateLaws.{GrantedFindsRoom, GrantedIsHeld, HistoryGoesOn, IsState, SealsAreCounted, granted_row, with_entry}
use Rattle.cqf_laws_timing.specs.Streams.{AdmitsOnly, AdmitsOnlyGoesOn, AdmittedHaveNames, AreGranted, IsOfList}
use Rattle.cqf_laws_timing.specs.Streams.{ListCostsItsTable, NoneAdmitsOnly, RowsAreOfList, TablesCostNoMore}
use Rattle.cqf_laws_timing.specs.Streams.{OneOfAName, cost_of_all, with_all}
use Rattle.cqf_laws_history.proofs.Granted.{granted}
use Rattle.std.proofs.Common.{append-nil, append_assoc, map}
use Rattle.std.proofs.lemmas.Bool.{both_ways}
use Rattle.std.proofs.lemmas.List.{map-append}
use Rattle.cqf_lists.proofs.Any.{none_member}
use Rattle.cqf_lists.proofs.Members.{contains_from_map, contains_map, find_member, find_some}
use Rattle.cqf_lists.proofs.Pairs.{one_of_pairs, pairs_none, pairs_push}

-- ---- which streams are admitted

-- an empty history admits nothing
pub none_admits_only : NoneAdmitsOnly
none_admits_only streams e asked receipt c admits accepted = absurd (contains_none e c)

-- one more call
pub admits_only_goes_on : AdmitsOnlyGoesOn
admits_only_goes_on streams entries seat act reply only more e asked receipt c admits accepted =
    elim (Contains-append_cases entries (record { seat = seat; act = act; reply = reply } ∷ []) e c) [
      | inl before ↦ only e asked receipt before admits accepted
      | inr last ↦ more asked (ap (λ (x : Recorded). x.act) (contains_one (record { seat = seat; act = act; reply = reply }) e last) ∙ admits)
    ]

-- a stream that an entry admits
record IsAdmittedBy (d : Domain) (act : Act) (reply : Reply) (row : Row) : Type 0 where
  pub asked : Asked
  pub receipt : Receipt
  pub admits : act ≡ Admits asked
  pub accepted : reply ≡ Accepted receipt
  pub name : row.name ≡ asked.name
  pub octets : row.octets ≡ asked.octets
  pub overhead : row.overhead ≡ d.overhead
  pub pace : row.pace ≡ pace_of asked
  pub tree : row.tree.items ≡ tree_of d asked.paths

-- an entry admits no other stream
admitted_by : (d : Domain) (entries : List Recorded) (effect : ℕ) (act : Act) (reply : Reply) (row : Row) →
    Contains (stream_by d entries effect act reply) row →
    IsAdmittedBy d act reply row
admitted_by d entries effect (Withdraws name) reply row c = absurd (contains_none row c)
admitted_by d entries effect Seals reply row c = absurd (contains_none row c)
admitted_by d entries effect (Admits asked) (RefusedFor refused) row c = absurd (contains_none row c)
admitted_by d entries effect (Admits asked) Sealed row c = absurd (contains_none row c)
admitted_by d entries effect (Admits asked) (Accepted receipt) row c =
    let is = contains_one _ row c in
    record {
      asked = asked;
      receipt = receipt;
      admits = refl;
      accepted = refl;
      name = ap (λ (r : Row). r.name) (sym is);
      octets = ap (λ (r : Row). r.octets) (sym is);
      overhead = ap (λ (r : Row). r.overhead) (sym is);
      pace = ap (λ (r : Row). r.pace) (sym is);
      tree = ap (λ (r : Row). r.tree.items) (sym is);
    }

-- each stream of a history is one of the list
of_list : (d : Domain) (entries : List Recorded) (streams : List Asked) (row : Row) → AdmitsOnly streams entries → Contains (streams_of d entries) row →
    IsOfList d streams row
of_list d entries streams row only c =
    let at = contains_from_below
    (λ index. option_map_or (λ (e : Recorded). stream_by d entries (seals (take index entries)) e.act e.reply) (slice_get entries index) [])
    (length entries) row c in
    by_entry at.0 (slice_get entries at.0) refl at.2
  where
    -- it is the stream of the entry at its index
    by_entry : (index : ℕ) (o : Option Recorded) → slice_get entries index ≡ o →
        Contains (option_map_or (λ (e : Recorded). stream_by d entries (seals (take index entries)) e.act e.reply) o []) row → IsOfList d streams row
    by_entry index None is k = absurd (contains_none row k)
    by_entry index (Some e) is k =
        let a = admitted_by d entries (seals (take index entries)) e.act e.reply row k in
        record {
          asked = a.asked;
          listed = only e a.asked a.receipt (contains_at entries index e is) a.admits a.accepted;
          name = a.name;
          octets = a.octets;
          overhead = a.overhead;
          pace = a.pace;
          tree = a.tree;
        }

-- and so is each row of a table
pub rows_are_of_list : RowsAreOfList
rows_are_of_list d entries streams cycles cycle row only c =
    elim (cases_lt cycle cycles) [
      | inl less ↦
          let index = slice_index_or (seal_indices entries) cycle (length entries) in
          let there = subst (λ (xs : List Row). Contains xs row) (get_or-singles (table_at d entries) cycles cycle [] less) c in
          let held = contains_from_filter (λ (r : Row). is_held r cycle) (streams_of d (take index entries)) row there in
          of_list d (take index entries) streams row
          (λ e asked receipt k admits accepted. only e asked receipt (contains_from_take entries index e k) admits accepted) held.0
      | inr past ↦
          let none : table_of (tables_of d entries cycles) cycle ≡ [] =
          get_or_past (tables_of d entries cycles) cycle [] (omega (arith, past, length-singles (table_at d entries) cycles)) in
          absurd (contains_none row (subst (λ (xs : List Row). Contains xs row) none c))
    ]

-- ---- what they cost

-- the cost on a link, by a tree, octets, an overhead and a pace
abbrev cost_by : List Hop → ℕ → ℕ → Pace → ℕ → ℕ → ℕ
cost_by tree octets overhead pace link cycle = if uses tree pace link cycle then cost_of overhead octets else 0

-- a row costs what its stream costs in the list
costs_the_same : (d : Domain) (streams : List Asked) (row : Row) (link cycle : ℕ) (of : IsOfList d streams row) →
    cost_on row link cycle ≡ cost_on (granted_row d 0 0 of.asked) link cycle
costs_the_same d streams row link cycle of = λ i. cost_by (of.tree i) (of.octets i) (of.overhead i) (of.pace i) link cycle

-- rows of the list with different names cost no more than the list
rows_cost_no_more : (d : Domain) (streams : List Asked) (rows : List Row) (link active_cycle : ℕ) → ((row : Row) → Contains rows row → IsOfList d streams row) →
    AllPairs (λ (a b : Row). a.name ≢ b.name) rows → link_cost rows link active_cycle ≤ cost_of_all d streams link active_cycle
rows_cost_no_more d streams rows link active_cycle listed names = sum_matched costs of_asked matches rows streams has apart
  where
    costs : Row → ℕ
    costs row = cost_on row link active_cycle

    of_asked : Asked → ℕ
    of_asked asked = cost_on (granted_row d 0 0 asked) link active_cycle

    matches : Row → Asked → Bool
    matches row asked = is_text row.name asked.name

    -- each row costs what its stream does
    has : (row : Row) → Contains rows row → costs row ≤ sum_by (λ asked. if matches row asked then of_asked asked else 0) streams
    has row c =
        let of = listed row c in
        let named : matches row of.asked ≡ true = ap (λ (n : List ℕ). is_text n of.asked.name) of.name ∙ is_text_itself of.asked.name in
        let own = sum_member (λ asked. if matches row asked then of_asked asked else 0) streams of.asked of.listed in
        omega (arith, own, cond-true (matches row of.asked) (of_asked of.asked) 0 named, costs_the_same d streams row link active_cycle of)

    -- and no two are of the same stream
    apart : (asked : Asked) → AllPairs (λ (a b : Row). matches a asked ≡ true → matches b asked ≡ true → ⊥) rows
    apart asked = pairs_weaker (λ (a b : Row). a.name ≢ b.name) (λ (a b : Row). matches a asked ≡ true → matches b asked ≡ true → ⊥) rows
        (λ a b ca cb differ one two. differ (is_text_same a.name asked.name one ∙ sym (is_text_same b.name asked.name two))) names

-- no table costs more than the list
pub tables_cost_no_more : TablesAreOrderly → TablesCostNoMore
tables_cost_no_more orderly d entries streams cycles cycle link active_cycle legal sealed only =
    rows_cost_no_more d streams (table_of (tables_of d entries cycles) cycle) link active_cycle
    (λ row c. rows_are_of_list d entries streams cycles cycle row only c) ((orderly d entries cycles legal sealed).names cycle)

-- ---- streams that are all admitted

module _ (held : GrantedIsHeld) (goes_on : HistoryGoesOn) (counted : SealsAreCounted) (room : GrantedFindsRoom) (d : Domain) (link active_cycle : ℕ) where
  -- the cost of streams that are all admitted after a history without Seals
  all_cost : (streams : List Asked) (entries : List Recorded) (rows : List Row) (next : ℕ) → IsLegalHistory d entries → IsState d entries rows next →
      seals entries ≡ 0 → length rows ≡ length entries → AreGranted d entries streams →
      link_cost (held_in d (with_all d entries streams) 0) link active_cycle ≡ link_cost rows link active_cycle + cost_of_all d streams link active_cycle
  all_cost [] entries rows next legal state none each granted =
      ap (λ (k : ℕ). link_cost (held_in d entries k) link active_cycle) (sym none) ∙ ap (λ (xs : List Row). link_cost xs link active_cycle) state.held
      ∙ sym (add_zero (link_cost rows link active_cycle))
    where
      add_zero : (n : ℕ) → n + 0 ≡ n
      add_zero n = omega arith
  all_cost (asked ∷ more) entries rows next legal state none each granted =
      let reply = reply_to d entries (Admits asked) in
      let entry : Recorded = record { seat = 0; act = Admits asked; reply = reply } in
      let free : refusal_of d rows asked ≡ None = ap (λ (xs : List Row). refusal_of d xs asked) (sym state.held) ∙ granted.0 in
      let new = granted_row d next (seals entries) asked in
      let few = room d rows asked free in
      let long = length-append entries (entry ∷ []) in
      let count = counted entries 0 (Admits asked) reply in
      let rest = all_cost more (with_entry entries 0 (Admits asked) reply) (rows ++ new ∷ []) (next + 1)
      (goes_on d entries 0 (Admits asked) legal (omega (arith, none)) (omega (arith, few, each)))
      (held d entries rows next 0 asked legal state free) (omega (arith, count, none)) (omega (arith, length-append rows (new ∷ []), long, each)) granted.1 in
      let pushed = sum_by_push (λ (row : Row). cost_on row link active_cycle) rows new in
      let split = sum_by-cons (λ (a : Asked). cost_on (granted_row d 0 0 a) link active_cycle) asked more in
      added (link_cost (held_in d (with_all d entries (asked ∷ more)) 0) link active_cycle) (link_cost (rows ++ new ∷ []) link active_cycle) (cost_of_all d more link active_cycle)
      (link_cost rows link active_cycle) (cost_on new link active_cycle) (cost_of_all d (asked ∷ more) link active_cycle) rest pushed split
    where
      added : (whole grown rest rows new all : ℕ) → whole ≡ grown + rest → grown ≡ rows + new → all ≡ new + rest → whole ≡ rows + all
      added whole grown rest rows new all a b c = omega (arith, a, b, c)

-- after an empty history
pub list_costs_its_table : GrantedIsHeld → HistoryGoesOn → SealsAreCounted → GrantedFindsRoom → ListCostsItsTable
list_costs_its_table held goes_on counted room d streams link active_cycle granted =
    all_cost held goes_on counted room d link active_cycle streams [] [] 0
    (record { replies = λ index e is. absurd (nothing index e is); few_seals = omega arith; few_calls = omega arith })
    (record { held = refl; number = refl }) refl refl granted ∙ zero-add (cost_of_all d streams link active_cycle)
  where
    nothing : (index : ℕ) (e : Recorded) → slice_get [] index ≡ Some e → ⊥
    nothing index e is = contains_none e (contains_at [] index e is)

-- ---- their names

-- two streams differ in their names
abbrev apart : Asked → Asked → Type 0
apart a b = a.name ≢ b.name

module _ (held : GrantedIsHeld) (goes_on : HistoryGoesOn) (counted : SealsAreCounted) (room : GrantedFindsRoom) (d : Domain) where
  -- a stream that is granted doesn't have the name of an earlier one
  new_name : (rows : List Row) (before : List Asked) (asked : Asked) → map (λ (r : Row). r.name) rows ≡ map (λ (a : Asked). a.name) before →
      refusal_of d rows asked ≡ None → (x : Asked) → Contains before x → apart x asked
  new_name rows before asked same free x c e =
      let name = subst (λ (xs : List (List ℕ)). Contains xs x.name) (sym same) (contains_map (λ (a : Asked). a.name) before x c) in
      let row = contains_from_map (λ (r : Row). r.name) rows x.name name in
      let other = none_member (λ (r : Row). is_text r.name asked.name) rows row.0 (granted d rows asked free).name_free row.1 in
      both_ways (is_text row.0.name asked.name) other (ap (λ (n : List ℕ). is_text n asked.name) (row.2 ∙ e) ∙ is_text_itself asked.name)

  -- so all streams that are granted after a history without Seals have different names
  names_apart : (before streams : List Asked) (entries : List Recorded) (rows : List Row) (next : ℕ) → IsLegalHistory d entries → IsState d entries rows next →
      seals entries ≡ 0 → length rows ≡ length entries → map (λ (r : Row). r.name) rows ≡ map (λ (a : Asked). a.name) before → AllPairs apart before →
      AreGranted d entries streams → AllPairs apart (before ++ streams)
  names_apart before [] entries rows next legal state none each same pairs granted = subst (AllPairs apart) (sym (append-nil before)) pairs
  names_apart before (asked ∷ more) entries rows next legal state none each same pairs granted =
      let reply = reply_to d entries (Admits asked) in
      let entry : Recorded = record { seat = 0; act = Admits asked; reply = reply } in
      let free : refusal_of d rows asked ≡ None = ap (λ (xs : List Row). refusal_of d xs asked) (sym state.held) ∙ granted.0 in
      let new = granted_row d next (seals entries) asked in
      let few = room d rows asked free in
      let long = length-append entries (entry ∷ []) in
      let count = counted entries 0 (Admits asked) reply in
      let named : map (λ (r : Row). r.name) (rows ++ new ∷ []) ≡ map (λ (a : Asked). a.name) (before ++ asked ∷ []) =
      map-append (λ (r : Row). r.name) rows (new ∷ []) ∙ ap (λ (xs : List (List ℕ)). xs ++ asked.name ∷ []) same
      ∙ sym (map-append (λ (a : Asked). a.name) before (asked ∷ [])) in
      let rest = names_apart (before ++ asked ∷ []) more (with_entry entries 0 (Admits asked) reply) (rows ++ new ∷ []) (next + 1)
      (goes_on d entries 0 (Admits asked) legal (omega (arith, none)) (omega (arith, few, each)))
      (held d entries rows next 0 asked legal state free) (omega (arith, count, none)) (omega (arith, length-append rows (new ∷ []), long, each)) named
      (pairs_push apart before asked pairs (new_name rows before asked same free)) granted.1 in
      subst (AllPairs apart) (append_assoc before (asked ∷ []) more) rest

-- after an empty history
pub admitted_have_names : GrantedIsHeld → HistoryGoesOn → SealsAreCounted → GrantedFindsRoom → AdmittedHaveNames
admitted_have_names held goes_on counted room d streams granted =
    names_apart held goes_on counted room d [] streams [] [] 0
    (record { replies = λ index e is. absurd (nothing index e is); few_seals = omega arith; few_calls = omega arith })
    (record { held = refl; number = refl }) refl refl refl (pairs_none apart) granted
  where
    nothing : (index : ℕ) (e : Recorded) → slice_get [] index ≡ Some e → ⊥
    nothing index e is = contains_none e (contains_at [] index e is)

-- so the stream of a name is the first of that name
pub one_of_a_name : GrantedIsHeld → HistoryGoesOn → SealsAreCounted → GrantedFindsRoom → OneOfAName
one_of_a_name held goes_on counted room d streams asked granted c =
    let test = λ (other : Asked). is_text other.name asked.name in
    let found = find_some test streams asked c (is_text_itself asked.name) in
    let member = find_member test streams found.0 found.1 in
    let same = is_text_same found.0.name asked.name member.1 in
    let one = one_of_pairs apart streams found.0 asked (admitted_have_names held goes_on counted room d streams granted) member.0 c
    (λ differ. differ same) (λ differ. differ (sym same)) in
    found.1 ∙ ap (λ (a : Asked). Some a) one
