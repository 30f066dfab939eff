-- The tables of a legal history are orderly.
use Rattle.std.proofs.Common.{◌≡◌, ◌≢◌, ℕ, ◌+◌, ◌<◌, ◌≤◌, Bool, true, false, cond, List, Option, Some, None, length, get_or, sym, refl, ap, ◌∙◌, inl, inr}
use Rattle.std.proofs.Common.{arith, subst}
use Rattle.std.specs.Prelude.{[], ◌∷◌, ◌++◌, ◌==◌, if◌then◌else◌, filter, map, nat_le, nat_lt, slice_get, suc, AllPairs, Contains}
use Rattle.std.specs.Option.{option_map_or}
use Rattle.std.proofs.lemmas.Bool.{both_ways, cases_lt, and_parts, and_from, leb-true, le-leb, ltb-true, lt-ltb}
use Rattle.std.proofs.lemmas.List.{get_or_past}
use Rattle.std.proofs.lemmas.List.Elements.{Contains-append_left}
use Rattle.std.proofs.lemmas.Option.{same_Some, slice_get-get_or}
use Rattle.cqf_units.specs.declared.reservations.Cycle.{Cycle}
use Rattle.cqf_model.specs.declared.history.Reply.{Reply}
use Rattle.cqf_model.specs.declared.history.Reply.TheVariants.{Accepted, Sealed, Refused as RefusedFor}
use Rattle.cqf_model.specs.declared.topology.Row.{Row}
use Rattle.cqf_model.specs.Domain.{Domain, budget}
use Rattle.cqf_model.specs.History.{Act, Admits, IsLegalHistory, Recorded, Seals, Withdraws, is_seal, seal_indices, seals, table_at, tables_of, withdrawal_by}
use Rattle.cqf_model.specs.Table.{AreOrderly, IsTree, SameStream, is_held, is_live, link_cost, residence, table_of}
use Rattle.cqf_lists.specs.Lists.{each_below}
use Rattle.cqf_lists.proofs.Members.{contains_at, contains_cases, contains_filter, contains_from_filter, contains_from_map, contains_map, contains_none}
use Rattle.cqf_lists.proofs.Pairs.{pairs_kept, pairs_none}
use Rattle.cqf_lists.proofs.Indices.{first_stays, nil_from_none}
use Rattle.cqf_lists.proofs.EachBelow.{get_or-singles, length-singles}
use Rattle.cqf_lists.proofs.Fronts.{each_front}
use Rattle.cqf_laws_history.proofs.Indices.{SealAt, admitted_at, admitted_before, entry_at, seal_at, sealed-suc, sealed_before, sealed_more, streams_front}
use Rattle.cqf_laws_history.proofs.Indices.{with_end, withdrawn_at, withdrawn_before}
use Rattle.cqf_laws_history.proofs.Sound.{Sound, held_before, sound}

-- a closed table: the Seal's index, and the streams before it
record Closed (d : Domain) (entries : List Recorded) (table : List Row) (cycle : ℕ) : Type 0 where
  index : ℕ
  seal : SealAt entries cycle index
  sound_there : Sound d entries index
  is : table ≡ filter (λ (row : Row). is_held row cycle) (map (with_end (withdrawn_before entries index)) (admitted_before d entries index))

-- a row of it comes from a stream that was admitted before the Seal
record RowOf (d : Domain) (entries : List Recorded) (index cycle : ℕ) (row : Row) : Type 0 where
  stream : Row
  admitted_there : Contains (admitted_before d entries index) stream
  is : with_end (withdrawn_before entries index) stream ≡ row
  held : is_held row cycle ≡ true

-- an entry that withdraws is no Seal, and it takes effect in the cycle of the Seals before it
effect_by : (effect number : ℕ) (act : Act) (reply : Reply) (x : Cycle) → Contains (withdrawal_by effect number act reply) x → (is_seal act ≡ false) ×
    (x.0 ≡ effect)
effect_by effect number (Admits asked) reply x h = absurd (contains_none x h)
effect_by effect number Seals reply x h = absurd (contains_none x h)
effect_by effect number (Withdraws name) (RefusedFor refused) x h = absurd (contains_none x h)
effect_by effect number (Withdraws name) Sealed x h = absurd (contains_none x h)
effect_by effect number (Withdraws name) (Accepted receipt) x h = (refl, of_cycle (receipt.no == number) h)
  where
    -- a list that has at most this cycle contains no other
    of_cycle : (b : Bool) → Contains (if b then record { 0 = effect } ∷ [] else []) x → x.0 ≡ effect
    of_cycle true k = elim (contains_cases (record { 0 = effect }) [] x k) [ inl e ↦ ap (λ (c : Cycle). c.0) (sym e) | inr n ↦ absurd (contains_none x n) ]
    of_cycle false k = absurd (contains_none x k)

-- an entry that withdraws is no Seal, and it takes effect in the cycle of the Seals before it
effect_at : (entries : List Recorded) (number index : ℕ) (x : Cycle) (e : Recorded) → slice_get entries index ≡ Some e →
    Contains (withdrawn_at entries number index) x → (is_seal e.act ≡ false) × (x.0 ≡ sealed_before entries index)
effect_at entries number index x e is h =
    effect_by (sealed_before entries index) number e.act e.reply x
    (subst (λ (o : Option Recorded). Contains (option_map_or (λ (y : Recorded). withdrawal_by (sealed_before entries index) number y.act y.reply) o []) x) is h)

module _ (d : Domain) (entries : List Recorded) (cycles : ℕ) (legal : IsLegalHistory d entries) (few : cycles ≤ seals entries) where
  -- the table of a cycle that is run
  closed : (cycle : ℕ) → cycle < cycles → Closed d entries (table_of (tables_of d entries cycles) cycle) cycle
  closed cycle h =
      let index = get_or (seal_indices entries) cycle (length entries) in
      let seal = seal_at entries cycle (omega (arith, h, few)) in
      let within : index ≤ length entries = omega (arith, seal.inside) in
      record {
        index = index;
        seal = seal;
        sound_there = sound d entries legal.replies index within;
        is = get_or-singles (table_at d entries) cycles cycle [] h
            ∙ ap (filter (λ (row : Row). is_held row cycle)) (streams_front entries index within d);
      }

  -- only the table of a cycle that is run has rows
  run_cycle : (cycle : ℕ) (row : Row) → Contains (table_of (tables_of d entries cycles) cycle) row → cycle < cycles
  run_cycle cycle row h =
      elim (cases_lt cycle cycles) [
        | inl l ↦ l
        | inr g ↦ (let none : table_of (tables_of d entries cycles) cycle ≡ [] =
            get_or_past (tables_of d entries cycles) cycle [] (omega (arith, g, length-singles (table_at d entries) cycles)) in
            absurd (contains_none row (subst (λ (xs : List Row). Contains xs row) none h)))
      ]

  -- each row of a table is that of a stream admitted before its Seal
  row_of_table : (cycle : ℕ) (row : Row) (h : cycle < cycles) → Contains (table_of (tables_of d entries cycles) cycle) row →
      RowOf d entries (closed cycle h).index cycle row
  row_of_table cycle row h k =
      let t = closed cycle h in
      let held = λ (r : Row). is_held r cycle in
      let kept = contains_from_filter held (map (with_end (withdrawn_before entries t.index)) (admitted_before d entries t.index)) row
      (subst (λ (xs : List Row). Contains xs row) t.is k) in
      let made = contains_from_map (with_end (withdrawn_before entries t.index)) (admitted_before d entries t.index) row kept.0 in
      record { stream = made.0; admitted_there = made.1; is = made.2; held = kept.1 }

  -- a relation of any two held streams holds for each pair in a table
  pairs_of_table : (R : Row → Row → Type 0) →
      ((index : ℕ) → Sound d entries index →
      AllPairs (λ (a b : Row). held_before entries index a ≡ true → held_before entries index b ≡ true →
      R (with_end (withdrawn_before entries index) a) (with_end (withdrawn_before entries index) b)) (admitted_before d entries index)) → (cycle : ℕ) →
      AllPairs R (table_of (tables_of d entries cycles) cycle)
  pairs_of_table R pairs cycle =
      elim (cases_lt cycle cycles) [
        | inl l ↦ (let t = closed cycle l in
            let w = withdrawn_before entries t.index in
            let there : AllPairs (λ (a b : Row). is_held (with_end w a) cycle ≡ true → is_held (with_end w b) cycle ≡ true → R (with_end w a) (with_end w b))
            (admitted_before d entries t.index) =
            subst (λ (c : ℕ). AllPairs (λ (a b : Row). is_held (with_end w a) c ≡ true → is_held (with_end w b) c ≡ true → R (with_end w a) (with_end w b))
            (admitted_before d entries t.index)) t.seal.before (pairs t.index t.sound_there) in
            subst (AllPairs R) (sym t.is) (pairs_kept R (with_end w) (λ (row : Row). is_held row cycle) (admitted_before d entries t.index) there))
        | inr g ↦ (let none : table_of (tables_of d entries cycles) cycle ≡ [] =
            get_or_past (tables_of d entries cycles) cycle [] (omega (arith, g, length-singles (table_at d entries) cycles)) in
            subst (AllPairs R) (sym none) (pairs_none R))
      ]

  -- what is admitted before an index is admitted before a later one
  admitted_later : (n m : ℕ) → n ≤ m → (row : Row) → Contains (admitted_before d entries n) row → Contains (admitted_before d entries m) row
  admitted_later n m le row h =
      let more = each_front (admitted_at d entries) n m le in
      subst (λ (xs : List Row). Contains xs row) (sym more.is) (Contains-append_left (admitted_before d entries n) more.rest row h)

  -- a number identifies one admitted stream
  one_admitted : (n : ℕ) → Sound d entries n → (a b : Row) → Contains (admitted_before d entries n) a → Contains (admitted_before d entries n) b → a.no ≡ b.no →
      a ≡ b
  one_admitted n s a b (i, h, e) (j, k, f) same =
      let rows = admitted_before d entries n in
      let there : slice_get rows i ≡ Some a = slice_get-get_or rows i a h ∙ ap (λ (r : Row). Some r) e in
      let here : slice_get rows j ≡ Some b = slice_get-get_or rows j b k ∙ ap (λ (r : Row). Some r) f in
      let index : i ≡ j = sym (s.numbers i a there) ∙ same ∙ s.numbers j b here in
      same_Some a b (sym there ∙ ap (λ (k : ℕ). slice_get rows k) index ∙ here)

  -- if a live stream is withdrawn later, it ends in a later cycle
  ends_later : (cycle n m : ℕ) (stream : Row) (x : Cycle) → n ≤ m → m ≤ length entries → SealAt entries cycle n →
      is_live (with_end (withdrawn_before entries n) stream) cycle ≡ true → withdrawn_before entries m stream.no ≡ Some x → cycle < x.0
  ends_later cycle n m stream x le within seal live e = by_front (withdrawn_before entries n stream.no) refl
    where
      by_front : (o : Option Cycle) → withdrawn_before entries n stream.no ≡ o → cycle < x.0
      by_front (Some y) f =
          let more = each_front (withdrawn_at entries stream.no) n m le in
          let stayed : withdrawn_before entries m stream.no ≡ Some y =
          ap (λ (xs : List Cycle). slice_get xs 0) more.is ∙ first_stays (each_below (withdrawn_at entries stream.no) n) more.rest y f in
          let equal : y ≡ x = same_Some y x (sym stayed ∙ e) in
          let parts = and_parts (nat_le stream.admitted.0 cycle)
          (option_map_or (λ (w : Cycle). nat_lt cycle w.0) (withdrawn_before entries n stream.no) true) live in
          let sooner : nat_lt cycle y.0 ≡ true = ap (λ (o : Option Cycle). option_map_or (λ (w : Cycle). nat_lt cycle w.0) o true) (sym f) ∙ parts.1 in
          subst (λ (w : Cycle). cycle < w.0) equal (ltb-true cycle y.0 sooner)
      by_front None f =
          let more = each_front (withdrawn_at entries stream.no) n m le in
          let nothing : each_below (withdrawn_at entries stream.no) n ≡ [] = nil_from_none (each_below (withdrawn_at entries stream.no) n) f in
          let is : each_below (withdrawn_at entries stream.no) m ≡ more.rest = more.is ∙ ap (λ (xs : List Cycle). xs ++ more.rest) nothing in
          let first : slice_get more.rest 0 ≡ Some x = ap (λ (xs : List Cycle). slice_get xs 0) (sym is) ∙ e in
          let later = more.late x (contains_at more.rest 0 x first) in
          let entry = entry_at entries later.0 (omega (arith, later.2, within)) in
          let made = effect_at entries stream.no later.0 x entry.0 entry.1 later.3 in
          let apart : n ≢ later.0 = λ q. both_ways (is_seal entry.0.act) made.0
          (ap (λ (y : Recorded). is_seal y.act) (same_Some entry.0 seal.entry (sym entry.1 ∙ ap (λ (k : ℕ). slice_get entries k) (sym q) ∙ seal.is))
          ∙ seal.seal) in
          let closed_more : sealed_before entries (suc n) ≡ sealed_before entries n + 1 = sealed-suc entries n seal.entry seal.is
          ∙ ap (λ (b : Bool). sealed_before entries n + cond b 1 0) seal.seal in
          omega (arith, made.1, closed_more, seal.before, sealed_more entries (suc n) later.0 (omega (arith, apart, later.1)) (omega (arith, later.2, within)))

  -- the Seals are in the order of their cycles
  seals_in_order : (early late n m : ℕ) → early ≤ late → SealAt entries early n → SealAt entries late m → n ≤ m
  seals_in_order early late n m le a b =
      elim (cases_lt m n) [
        | inl l ↦ (let closed_more : sealed_before entries (suc m) ≡ sealed_before entries m + 1 = sealed-suc entries m b.entry b.is
            ∙ ap (λ (c : Bool). sealed_before entries m + cond c 1 0) b.seal in
            absurd (omega (arith, le, a.before, b.before, closed_more, sealed_more entries (suc m) n (omega (arith, l)) (omega (arith, a.inside)))))
        | inr g ↦ g
      ]

  -- a live stream is held for as many cycles more as the hop number of its deepest link
  held_on : (cycle later n m : ℕ) (stream : Row) → n ≤ m → m ≤ length entries → SealAt entries cycle n → cycle ≤ later → later ≤ cycle + residence stream →
      is_live (with_end (withdrawn_before entries n) stream) cycle ≡ true → is_held (with_end (withdrawn_before entries m) stream) later ≡ true
  held_on cycle later n m stream le within seal after before live =
      let begun = leb-true stream.admitted.0 cycle
      (and_parts (nat_le stream.admitted.0 cycle) (option_map_or (λ (w : Cycle). nat_lt cycle w.0) (withdrawn_before entries n stream.no) true) live).0 in
      and_from (nat_le stream.admitted.0 later)
      (option_map_or (λ (w : Cycle). nat_lt later (w.0 + residence stream)) (withdrawn_before entries m stream.no) true)
      (le-leb stream.admitted.0 later (omega (arith, begun, after))) (by_end (withdrawn_before entries m stream.no) refl)
    where
      by_end : (o : Option Cycle) → withdrawn_before entries m stream.no ≡ o →
          option_map_or (λ (w : Cycle). nat_lt later (w.0 + residence stream)) o true ≡ true
      by_end None e = refl
      by_end (Some x) e = lt-ltb later (x.0 + residence stream) (omega (arith, before, ends_later cycle n m stream x le within seal live e))

  -- rows of one number in two tables are of one stream
  same_stream : (cycle later : ℕ) (early late : Row) → Contains (table_of (tables_of d entries cycles) cycle) early →
      Contains (table_of (tables_of d entries cycles) later) late → early.no ≡ late.no → SameStream early late
  same_stream cycle later early late a b same =
      let h = run_cycle cycle early a in
      let k = run_cycle later late b in
      let e = row_of_table cycle early h a in
      let l = row_of_table later late k b in
      let number : Row → ℕ = λ r. r.no in
      let one : e.stream ≡ l.stream = one_admitted (length entries) (sound d entries legal.replies (length entries) (omega arith)) e.stream l.stream
      (admitted_later (closed cycle h).index (length entries) (omega (arith, (closed cycle h).seal.inside)) e.stream e.admitted_there)
      (admitted_later (closed later k).index (length entries) (omega (arith, (closed later k).seal.inside)) l.stream l.admitted_there)
      (ap number e.is ∙ same ∙ ap number (sym l.is)) in
      record {
        name = ap (λ (r : Row). r.name) (sym e.is) ∙ ap (λ (r : Row). r.name) one ∙ ap (λ (r : Row). r.name) l.is;
        octets = ap (λ (r : Row). r.octets) (sym e.is) ∙ ap (λ (r : Row). r.octets) one ∙ ap (λ (r : Row). r.octets) l.is;
        pace = ap (λ (r : Row). r.pace) (sym e.is) ∙ ap (λ (r : Row). r.pace) one ∙ ap (λ (r : Row). r.pace) l.is;
        tree = ap (λ (r : Row). r.tree.items) (sym e.is) ∙ ap (λ (r : Row). r.tree.items) one ∙ ap (λ (r : Row). r.tree.items) l.is;
      }

  -- a live stream is in each table until its last frame has left
  stays_on : (cycle later : ℕ) (row : Row) → Contains (table_of (tables_of d entries cycles) cycle) row → is_live row cycle ≡ true → cycle ≤ later →
      later ≤ cycle + residence row → later < length (tables_of d entries cycles) → (late : Row) × Contains (table_of (tables_of d entries cycles) later) late ×
      (row.no ≡ late.no)
  stays_on cycle later row a live after before run =
      let h = run_cycle cycle row a in
      let k : later < cycles = omega (arith, run, length-singles (table_at d entries) cycles) in
      let r = row_of_table cycle row h a in
      let early = closed cycle h in
      let late = closed later k in
      let in_order = seals_in_order cycle later early.index late.index after early.seal late.seal in
      let w = withdrawn_before entries late.index in
      let alive : is_live (with_end (withdrawn_before entries early.index) r.stream) cycle ≡ true = ap (λ (x : Row). is_live x cycle) r.is ∙ live in
      let hops : later ≤ cycle + residence r.stream = subst (λ (x : Row). later ≤ cycle + residence x) (sym r.is) before in
      let held = held_on cycle later early.index late.index r.stream in_order (omega (arith, late.seal.inside)) early.seal after hops alive in
      let there = contains_map (with_end w) (admitted_before d entries late.index) r.stream
      (admitted_later early.index late.index in_order r.stream r.admitted_there) in
      let kept = contains_filter (λ (x : Row). is_held x later) (map (with_end w) (admitted_before d entries late.index)) (with_end w r.stream) there held in
      (with_end w r.stream, subst (λ (xs : List Row). Contains xs (with_end w r.stream)) (sym late.is) kept, ap (λ (x : Row). x.no) (sym r.is))

  -- what a table costs of a link is within its budget
  loads_fit : (cycle l active_cycle : ℕ) → link_cost (table_of (tables_of d entries cycles) cycle) l active_cycle ≤ budget d l
  loads_fit cycle l active_cycle =
      elim (cases_lt cycle cycles) [
        | inl h ↦ (let t = closed cycle h in
            let there : link_cost (filter (λ (row : Row). is_held row cycle)
            (map (with_end (withdrawn_before entries t.index)) (admitted_before d entries t.index))) l active_cycle ≤ budget d l =
            subst (λ (c : ℕ). link_cost (filter (λ (row : Row). is_held row c)
            (map (with_end (withdrawn_before entries t.index)) (admitted_before d entries t.index))) l active_cycle ≤ budget d l) t.seal.before
            (t.sound_there.loads l active_cycle) in
            subst (λ (xs : List Row). link_cost xs l active_cycle ≤ budget d l) (sym t.is) there)
        | inr g ↦ (let none : table_of (tables_of d entries cycles) cycle ≡ [] =
            get_or_past (tables_of d entries cycles) cycle [] (omega (arith, g, length-singles (table_at d entries) cycles)) in
            subst (λ (xs : List Row). link_cost xs l active_cycle ≤ budget d l) (sym none) (omega arith))
      ]

  -- the rows of a table are sorted by number
  pub rows_ascend : (cycle : ℕ) → AllPairs (λ (a b : Row). a.no < b.no) (table_of (tables_of d entries cycles) cycle)
  rows_ascend cycle = pairs_of_table (λ (a b : Row). a.no < b.no) (λ index s i j e l m held_a held_b.
      let rows = admitted_before d entries index in
      let early : (get_or rows i e).no ≡ i = s.numbers i (get_or rows i e) (slice_get-get_or rows i e (omega (arith, l, m))) in
      let late : (get_or rows j e).no ≡ j = s.numbers j (get_or rows j e) (slice_get-get_or rows j e m) in
      omega (arith, l, early, late)) cycle

  -- so the tables are orderly
  pub tables_orderly : AreOrderly d (tables_of d entries cycles)
  tables_orderly =
      record {
        trees = λ cycle row k.
            let h = run_cycle cycle row k in
            let r = row_of_table cycle row h k in
            subst (λ (x : Row). IsTree d x.tree.items) r.is ((closed cycle h).sound_there.trees r.stream r.admitted_there);
        numbers = λ cycle i j e l m same. omega (arith, same, rows_ascend cycle i j e l m);
        names = pairs_of_table (λ (a b : Row). a.name ≢ b.name) (λ index s. s.names);
        one_stream = same_stream;
        stays = stays_on;
        loads = λ cycle l active_cycle h. loads_fit cycle l active_cycle;
        overheads = λ cycle row k.
            let h = run_cycle cycle row k in
            let r = row_of_table cycle row h k in
            subst (λ (x : Row). x.overhead ≡ d.overhead) r.is ((closed cycle h).sound_there.overheads r.stream r.admitted_there);
      }
