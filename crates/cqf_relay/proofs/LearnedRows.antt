-- The new rows of a table follow the known ones, and are learned one after the other.
use Rattle.std.proofs.Common.{ℕ, ◌≡◌, ◌∙◌, ◌+◌, ◌-◌, ◌<◌, ◌≤◌, Bool, true, false, List, [], ◌∷◌, ◌++◌, length, drop, get_or, map, set}
use Rattle.std.proofs.Common.{refl, sym, ap, subst, inl, inr, arith, Some}
use Rattle.std.specs.Prelude.{AllPairs, Contains, filter, nat_le, nat_lt, slice_get, take}
use Rattle.std.specs.List.Sorted.{IsNonDecreasingBy, IsPartitionPoint, IsPartitionedBy}
use Rattle.std.proofs.lemmas.Bool.{cases_eq, cases_lt, le-leb, lt-leb, ltb-false, ltb-true}
use Rattle.std.proofs.lemmas.List.{get_or-drop, get_or-set_same, get_or-take, length-drop, length-set, length-take-le, map-append, map_more, take-append-drop, take_all, take_rest}
use Rattle.std.proofs.lemmas.List.Elements.{filter-append}
use Rattle.std.proofs.lemmas.List.Sorted.{IsPartitionedBy-ltb}
use Rattle.std.proofs.lemmas.Option.{same_Some, slice_get-get_or, slice_get_within}
use Rattle.cqf_lists.proofs.EachBelow.{filter_each, filter_none}
use Rattle.cqf_lists.proofs.Members.{contains_from_map}
use Rattle.cqf_lists.proofs.Pairs.{pairs_from_map}
use Rattle.cqf_lists.proofs.Written.{slice_get-set_other}
use Rattle.cqf_model.specs.declared.topology.Row.{Row}
use Rattle.cqf_relay.specs.declared.outlet.Outlet.{Outlet}
use Rattle.cqf_relay.specs.declared.relay.Relay.{Relay}
use Rattle.cqf_relay.specs.Sending.{LearnsOf}
use Rattle.cqf_relay.specs.Standing.{LearnEach, LearnOnEach, LearnsRows, known_after, new_rows}
use Rattle.cqf_relay.proofs.Learning.{known_push, learn_push}

-- the links before an index have learned a row, and the others are unchanged
pub record LearnedBelow (row : Row) (n : ℕ) (before now : List Outlet) : Type 0 where
  pub count : length now ≡ length before
  pub done : (index : ℕ) (outlet learned : Outlet) → index < n → slice_get before index ≡ Some outlet → slice_get now index ≡ Some learned →
      LearnsOf row outlet learned
  pub rest : (index : ℕ) → n ≤ index → slice_get now index ≡ slice_get before index

-- at first none has
pub none_learned : (row : Row) (outlets : List Outlet) → LearnedBelow row 0 outlets outlets
none_learned row outlets = record {
  count = refl;
  done = λ index outlet learned early was is. absurd (omega (arith, early));
  rest = λ index _. refl;
}

-- then one more
pub one_learned : (row : Row) (n : ℕ) (before now : List Outlet) (outlet learned : Outlet) → n < length now → slice_get now n ≡ Some outlet →
    LearnsOf row outlet learned → LearnedBelow row n before now → LearnedBelow row (n + 1) before (set now n learned)
one_learned row n before now outlet learned within at learns below = record {
  count = length-set now n learned ∙ below.count;
  done = λ index old new early was is. elim (cases_eq index n) [
    | inl same ↦
        let there : slice_get before n ≡ Some old = subst (λ (k : ℕ). slice_get before k ≡ Some old) same was in
        let first : outlet ≡ old = same_Some outlet old (sym at ∙ below.rest n (omega arith) ∙ there) in
        let here : slice_get (set now n learned) n ≡ Some new = subst (λ (k : ℕ). slice_get (set now n learned) k ≡ Some new) same is in
        let last : learned ≡ new = same_Some learned new (sym put ∙ here) in
        subst (λ (one : Outlet). LearnsOf row one new) first (subst (λ (one : Outlet). LearnsOf row outlet one) last learns)
    | inr other ↦
        below.done index old new (omega (arith, early, other)) was (sym (slice_get-set_other now n index learned other) ∙ is)
  ];
  rest = λ index late.
      slice_get-set_other now n index learned (λ same. omega (arith, same, late)) ∙ below.rest index (omega (arith, late));
}
  where
    -- what was written is there
    put : slice_get (set now n learned) n ≡ Some learned
    put =
        slice_get-get_or (set now n learned) n learned (omega (arith, length-set now n learned, within))
        ∙ ap Some (get_or-set_same now n learned learned within)

-- and in the end all
pub all_learned : (row : Row) (n : ℕ) (before now : List Outlet) → length now ≤ n → LearnedBelow row n before now → LearnOnEach row before now
all_learned row n before now over below = record {
  count = below.count;
  each = λ index outlet learned was is.
      below.done index outlet learned (omega (arith, over, slice_get_within now index learned is)) was is;
}

-- a bridge has learned rows, one after the other
pub record LearnsThese (rows : List Row) (before after : Relay) : Type 0 where
  pub domain : after.domain ≡ before.domain
  pub number : after.number ≡ before.number
  pub cycles : after.cycles ≡ before.cycles
  pub tables : after.tables ≡ before.tables
  pub inlets : after.inlets ≡ before.inlets
  pub edge : after.edge ≡ before.edge
  pub known : after.known ≡ known_after before.known rows
  pub learn : LearnEach rows before.outlets.items after.outlets.items

-- if these are the new ones of a table, it has learned the table's rows
pub learned_new : (rows table : List Row) (before after : Relay) → rows ≡ new_rows before.known table → LearnsThese rows before after →
    LearnsRows table before after
learned_new rows table before after new these = record {
  domain = these.domain;
  number = these.number;
  cycles = these.cycles;
  tables = these.tables;
  inlets = these.inlets;
  edge = these.edge;
  known = these.known ∙ ap (known_after before.known) new;
  learn = subst (λ (some : List Row). LearnEach some before.outlets.items after.outlets.items) new these.learn;
}

module _ {X : Type 0} (value : X → Row) where
  -- rows in order of number ascend
  ascend : (xs : List X) → AllPairs (λ (a b : Row). a.no < b.no) (map value xs) → IsNonDecreasingBy (λ x. (value x).no) xs
  ascend xs order = λ i j d before within. elim (cases_lt i j) [
    | inl less ↦
        let up : (value (get_or xs i d)).no < (value (get_or xs j d)).no =
        pairs_from_map (λ (a b : Row). a.no < b.no) value xs order i j d less within in
        omega (arith, up)
    | inr more ↦
        let same : i ≡ j = omega (arith, before, more) in
        let level : (value (get_or xs i d)).no ≡ (value (get_or xs j d)).no = ap (λ (k : ℕ). (value (get_or xs k d)).no) same in
        omega (arith, level)
  ]

  -- so those from the first new one on are the new ones
  pub new_from : (known first : ℕ) (xs : List X) (table : List Row) → map value xs ≡ table → AllPairs (λ (a b : Row). a.no < b.no) table →
      first ≤ length xs →
      (IsPartitionedBy (λ x. nat_lt (value x).no known) xs →
      IsPartitionPoint (λ x. nat_lt (value x).no known ≡ true) (λ x. nat_lt (value x).no known ≡ false) xs first) →
      map value (take (length xs - first) (drop first xs)) ≡ new_rows known table
  new_from known first xs table is order within cut =
      ap (map value) (take_rest xs first)
      ∙ sym (filter_each test (map value (drop first xs)) (λ row there.
      let from = contains_from_map value (drop first xs) row there in
      subst (λ (it : Row). nat_le known it.no ≡ true) from.2 (le-leb known (value from.0).no (later from.0 from.1))))
      ∙ ap (λ (rows : List Row). rows ++ filter test (map value (drop first xs)))
      (sym (filter_none test (map value (take first xs)) (λ row there.
      let from = contains_from_map value (take first xs) row there in
      subst (λ (it : Row). nat_le known it.no ≡ false) from.2 (lt-leb known (value from.0).no (sooner from.0 from.1)))))
      ∙ sym (filter-append test (map value (take first xs)) (map value (drop first xs)))
      ∙ ap (filter test) (sym (map-append value (take first xs) (drop first xs)) ∙ ap (map value) (take-append-drop first xs) ∙ is)
    where
      -- whether a row is new
      test : Row → Bool
      test row = nat_le known row.no

      -- the cut is at the first new one
      point : IsPartitionPoint (λ x. nat_lt (value x).no known ≡ true) (λ x. nat_lt (value x).no known ≡ false) xs first
      point =
          cut (IsPartitionedBy-ltb (λ (x : X). (value x).no) xs known
          (ascend xs (subst (λ (rows : List Row). AllPairs (λ (a b : Row). a.no < b.no) rows) (sym is) order)))

      -- the rows before it are known
      sooner : (x : X) → Contains (take first xs) x → (value x).no < known
      sooner x held =
          let before : held.0 < first = omega (arith, held.1, length-take-le first xs within) in
          let at : get_or xs held.0 x ≡ x = sym (get_or-take first xs held.0 x before) ∙ held.2 in
          ltb-true (value x).no known (ap (λ (y : X). nat_lt (value y).no known) (sym at) ∙ point.0 held.0 x (omega arith) before)

      -- the rows after it aren't
      later : (x : X) → Contains (drop first xs) x → known ≤ (value x).no
      later x held =
          let at : get_or xs (first + held.0) x ≡ x = sym (get_or-drop first xs held.0 x) ∙ held.2 in
          ltb-false (value x).no known (ap (λ (y : X). nat_lt (value y).no known) (sym at)
          ∙ point.1 (first + held.0) x (omega arith) (omega (arith, held.1, length-drop first xs, within)))

  -- one row more is learned
  pub learned_one : (xs : List X) (n : ℕ) (x : X) (before mid after : Relay) → n < length xs → x ≡ get_or xs n x →
      LearnsThese (map value (take n xs)) before mid → after.domain ≡ mid.domain → after.number ≡ mid.number → after.cycles ≡ mid.cycles →
      after.tables ≡ mid.tables → after.inlets ≡ mid.inlets → after.edge ≡ mid.edge → after.known ≡ (value x).no + 1 →
      LearnOnEach (value x) mid.outlets.items after.outlets.items → LearnsThese (map value (take (n + 1) xs)) before after
  learned_one xs n x before mid after within is these domain number cycles tables inlets edge known one =
      let more : map value (take (n + 1) xs) ≡ map value (take n xs) ++ value x ∷ [] =
      map_more value xs n x within ∙ ap (λ (y : X). map value (take n xs) ++ value y ∷ []) (sym is) in
      record {
        domain = domain ∙ these.domain;
        number = number ∙ these.number;
        cycles = cycles ∙ these.cycles;
        tables = tables ∙ these.tables;
        inlets = inlets ∙ these.inlets;
        edge = edge ∙ these.edge;
        known = known ∙ sym (known_push before.known (map value (take n xs)) (value x)) ∙ ap (known_after before.known) (sym more);
        learn = subst (λ (rows : List Row). LearnEach rows before.outlets.items after.outlets.items) (sym more)
            (learn_push (map value (take n xs)) (value x) before.outlets.items mid.outlets.items after.outlets.items these.learn one);
      }

  -- in the end all are
  pub learned_all : (xs : List X) (n : ℕ) (before after : Relay) → length xs ≤ n → LearnsThese (map value (take n xs)) before after →
      LearnsThese (map value xs) before after
  learned_all xs n before after over these =
      subst (λ (some : List X). LearnsThese (map value some) before after) (take_all n xs over) these
