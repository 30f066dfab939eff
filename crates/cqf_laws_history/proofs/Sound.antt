-- What holds for the streams of a legal history before each of its entries.
use Rattle.std.proofs.Common.{◌≡◌, ◌≢◌, ℕ, ◌+◌, ◌<◌, ◌≤◌, ◌⊎◌, Bool, true, false, cond, ◌%◌, List, Option, Some, None, length, sym, refl, ap, ◌∙◌, inl, inr, arith}
use Rattle.std.proofs.Common.{subst, append-nil, length-append}
use Rattle.std.specs.Prelude.{[], ◌∷◌, ◌++◌, ◌==◌, ◌||◌, if◌then◌else◌, filter, find, map, nat_le, nat_lt, slice_get, take, zero, suc, AllPairs, Contains}
use Rattle.std.specs.Option.{option_map_or}
use Rattle.std.specs.List.{list_any}
use Rattle.std.proofs.lemmas.Bool.{cases_Bool, cases_lt, both_ways, and_parts, and_from, or_parts, le-leb, ltb-true, ltb-false, lt-ltb, eqb-true}
use Rattle.std.proofs.lemmas.List.{length-map, map-append}
use Rattle.std.proofs.lemmas.List.Elements.{Contains-append_cases, filter-append}
use Rattle.std.proofs.lemmas.List.Sums.{sum_by-append, sum_by-cons}
use Rattle.std.proofs.lemmas.Option.{same_Some, slice_get-get_or, slice_get_within}
use Rattle.cqf_units.specs.Name.{is_name}
use Rattle.cqf_units.specs.Timing.{cost_of}
use Rattle.cqf_units.specs.declared.reservations.Cycle.{Cycle}
use Rattle.cqf_model.specs.declared.history.Reply.{Reply}
use Rattle.cqf_model.specs.declared.history.Refused.{Refused}
use Rattle.cqf_model.specs.declared.topology.Row.{Row}
use Rattle.cqf_model.specs.Domain.{Domain, budget, is_text}
use Rattle.cqf_lists.specs.Lists.{each_below}
use Rattle.cqf_model.specs.History.{Act, Admits, Asked, Recorded, Seals, Withdraws, admit_reply, held_in, left_on, pace_of, refusal_of, reply_to, short_link, stream_by}
use Rattle.cqf_model.specs.History.{streams_of, tree_of, withdraw_reply, withdraw_row, withdrawal_by}
use Rattle.cqf_model.specs.Limits.{most_reserved}
use Rattle.cqf_model.specs.Table.{IsTree, cost_on, is_held, link_cost, links_of, residence, row_named, uses}
use Rattle.cqf_lists.proofs.Members.{contains_cases, contains_filter, contains_from_filter, contains_from_map, contains_here, contains_later, contains_map}
use Rattle.cqf_lists.proofs.Members.{contains_none}
use Rattle.cqf_lists.proofs.Pairs.{pairs_none, pairs_push, pairs_weaker}
use Rattle.cqf_lists.proofs.Indices.{first_stays, slice_get_after, slice_get_front}
use Rattle.cqf_model.proofs.Texts.{is_text_itself}
use Rattle.cqf_laws_history.specs.StateLaws.{granted_row}
use Rattle.cqf_model.specs.declared.topology.Hop.{Hop}
use Rattle.cqf_model.specs.declared.topology.Pace.{Pace}
use Rattle.cqf_laws_history.proofs.ActiveCycles.{IsPaced, cost_within_most, paced, used_is_crossed}
use Rattle.cqf_laws_history.proofs.Granted.{IsGranted, granted, is_tree}
use Rattle.cqf_laws_history.proofs.Indices.{admitted_at, admitted_before, entry_at, sealed_before, sealed_more, streams_front, with_end, withdrawn_at}
use Rattle.cqf_laws_history.proofs.Indices.{withdrawn_before}

-- ---- names

-- if no row has a name, no member has it
name_apart : (rows : List Row) (name : List ℕ) (row : Row) → list_any (λ (row : Row). is_text row.name name) rows ≡ false → Contains rows row → row.name ≢ name
name_apart [] name row e h s = absurd (contains_none row h)
name_apart (x ∷ rows) name row e h s =
    let parts = or_parts (is_text x.name name) (list_any (λ (row : Row). is_text row.name name) rows) e in
    elim (contains_cases x rows row h) [
      | inl same ↦ both_ways (is_text x.name name) parts.0 (ap (λ (n : List ℕ). is_text n name) (ap (λ (r : Row). r.name) same ∙ s) ∙ is_text_itself name)
      | inr k ↦ name_apart rows name row parts.1 k s
    ]

-- ---- costs

-- the cost of rows is the cost of the first plus that of the rest
link_cost-cons : (y : Row) (ys : List Row) (l active_cycle : ℕ) → link_cost (y ∷ ys) l active_cycle ≡ cost_on y l active_cycle + link_cost ys l active_cycle
link_cost-cons y ys l active_cycle = sum_by-cons (λ (row : Row). cost_on row l active_cycle) y ys

-- if more rows are kept, they cost no less
cost_cond : (b c : Bool) (y z : Row) (ys zs : List Row) (l active_cycle : ℕ) → (b ≡ true → c ≡ true) → cost_on y l active_cycle ≡ cost_on z l active_cycle → link_cost ys l active_cycle ≤ link_cost zs l active_cycle →
    link_cost (cond b (y ∷ ys) ys) l active_cycle ≤ link_cost (cond c (z ∷ zs) zs) l active_cycle
cost_cond true true y z ys zs l active_cycle h e r =
    let early : link_cost (y ∷ ys) l active_cycle ≡ cost_on y l active_cycle + link_cost ys l active_cycle = link_cost-cons y ys l active_cycle in
    let late : link_cost (z ∷ zs) l active_cycle ≡ cost_on z l active_cycle + link_cost zs l active_cycle = link_cost-cons z zs l active_cycle in
    let sums : link_cost (y ∷ ys) l active_cycle ≤ link_cost (z ∷ zs) l active_cycle = omega (arith, early, late, e, r) in
    sums
cost_cond true false y z ys zs l active_cycle h e r = absurd (both_ways false refl (h refl))
cost_cond false true y z ys zs l active_cycle h e r =
    let late : link_cost (z ∷ zs) l active_cycle ≡ cost_on z l active_cycle + link_cost zs l active_cycle = link_cost-cons z zs l active_cycle in
    let kept : link_cost ys l active_cycle ≤ link_cost (z ∷ zs) l active_cycle = omega (arith, late, r) in
    kept
cost_cond false false y z ys zs l active_cycle h e r = r

-- if fewer rows are held, they cost no more
pub cost_less : (rows : List Row) (p q : Row → Bool) (v w : ℕ → Option Cycle) (l active_cycle : ℕ) →
    ((row : Row) → Contains rows row → p (with_end v row) ≡ true → q (with_end w row) ≡ true) →
    link_cost (filter p (map (with_end v) rows)) l active_cycle ≤ link_cost (filter q (map (with_end w) rows)) l active_cycle
cost_less [] p q v w l active_cycle h = omega arith
cost_less (x ∷ rows) p q v w l active_cycle h =
    cost_cond (p (with_end v x)) (q (with_end w x)) (with_end v x) (with_end w x) (filter p (map (with_end v) rows)) (filter q (map (with_end w) rows)) l active_cycle
    (h x (contains_here x rows)) refl (cost_less rows p q v w l active_cycle (λ row k. h row (contains_later x rows row k)))

-- one row under a test costs no more than itself
link_cost_one : (b : Bool) (row : Row) (l active_cycle : ℕ) → link_cost (cond b (row ∷ []) []) l active_cycle ≤ cost_on row l active_cycle
link_cost_one true row l active_cycle = omega arith
link_cost_one false row l active_cycle = omega arith

-- a link of a tree has at least the cost left
room_on : (d : Domain) (rows : List Row) (tree : List Hop) (pace : Pace) (cost : ℕ) (links : List ℕ) (l : ℕ) → find (λ l. nat_lt (left_on d rows tree pace l) cost) links ≡ None →
    list_any (λ k. k == l) links ≡ true → cost ≤ left_on d rows tree pace l
room_on d rows tree pace cost [] l e t = absurd cc
room_on d rows tree pace cost (x ∷ links) l e t =
    room_case (nat_lt (left_on d rows tree pace x) cost) refl e (x == l) refl t (room_on d rows tree pace cost links l)
  where
    -- the link has enough left if the first link and the others have, whichever of them it is
    room_case : (short : Bool) → nat_lt (left_on d rows tree pace x) cost ≡ short → (if short then Some x else find (λ l. nat_lt (left_on d rows tree pace l) cost) links) ≡ None →
        (here : Bool) → (x == l) ≡ here → (here || list_any (λ k. k == l) links) ≡ true →
        (find (λ l. nat_lt (left_on d rows tree pace l) cost) links ≡ None → list_any (λ k. k == l) links ≡ true → cost ≤ left_on d rows tree pace l) → cost ≤ left_on d rows tree pace l
    room_case true s f here i u r = absurd cc
    room_case false s f true i u r = let same : x ≡ l = eqb-true x l i in subst (λ (k : ℕ). cost ≤ left_on d rows tree pace k) same (ltb-false (left_on d rows tree pace x) cost s)
    room_case false s f false i u r = r f u

-- ---- held streams

-- a stream that is held in a cycle was held in each earlier one since its admission, with no more withdrawals
pub held_less : (row : Row) (v w : ℕ → Option Cycle) (c e : ℕ) → c ≤ e → row.admitted.0 ≤ c → (w row.no ≡ None) ⊎ (w row.no ≡ v row.no) →
    is_held (with_end v row) e ≡ true → is_held (with_end w row) c ≡ true
held_less row v w c e le begun same h =
    let parts = and_parts (nat_le row.admitted.0 e) (option_map_or (λ (x : Cycle). nat_lt e (x.0 + residence row)) (v row.no) true) h in
    and_from (nat_le row.admitted.0 c) (option_map_or (λ (x : Cycle). nat_lt c (x.0 + residence row)) (w row.no) true) (le-leb row.admitted.0 c begun)
    (elim same [
      | inl none ↦ ap (λ (o : Option Cycle). option_map_or (λ (x : Cycle). nat_lt c (x.0 + residence row)) o true) none
      | inr equal ↦ ap (λ (o : Option Cycle). option_map_or (λ (x : Cycle). nat_lt c (x.0 + residence row)) o true) equal ∙ sooner (v row.no) parts.1
    ])
  where
    -- a stream whose end keeps it in a cycle was there in each earlier one
    sooner : (o : Option Cycle) → option_map_or (λ (x : Cycle). nat_lt e (x.0 + residence row)) o true ≡ true →
        option_map_or (λ (x : Cycle). nat_lt c (x.0 + residence row)) o true ≡ true
    sooner None t = refl
    sooner (Some x) t = lt-ltb c (x.0 + residence row) (omega (arith, le, ltb-true e (x.0 + residence row) t))

-- the first withdrawal of a number stays the first
end_stays : (entries : List Recorded) (n number : ℕ) →
    (withdrawn_before entries n number ≡ None) ⊎ (withdrawn_before entries n number ≡ withdrawn_before entries (suc n) number)
end_stays entries n number = stays (withdrawn_before entries n number) refl
  where
    -- if there is a withdrawal of the number, it stays the first when an entry follows
    stays : (o : Option Cycle) → withdrawn_before entries n number ≡ o →
        (withdrawn_before entries n number ≡ None) ⊎ (withdrawn_before entries n number ≡ withdrawn_before entries (suc n) number)
    stays None e = inl e
    stays (Some x) e = inr (e ∙ sym (first_stays (each_below (withdrawn_at entries number) n) (withdrawn_at entries number n) x e))

-- whether a stream of a history is held in the cycle that the next Seal closes
abbrev pub held_before : List Recorded → ℕ → Row → Bool
held_before entries n row = is_held (with_end (withdrawn_before entries n) row) (sealed_before entries n)

-- what holds for the streams that a legal history admits before an index
pub record Sound (d : Domain) (entries : List Recorded) (n : ℕ) : Type 0 where
  pub numbers : (k : ℕ) (row : Row) → slice_get (admitted_before d entries n) k ≡ Some row → row.no ≡ k
  pub trees : (row : Row) → Contains (admitted_before d entries n) row → IsTree d row.tree.items
  pub named : (row : Row) → Contains (admitted_before d entries n) row → is_name row.name ≡ true
  pub least_octets : (row : Row) → Contains (admitted_before d entries n) row → 64 ≤ row.octets
  pub most_octets : (row : Row) → Contains (admitted_before d entries n) row → row.octets ≤ most_reserved
  pub overheads : (row : Row) → Contains (admitted_before d entries n) row → row.overhead ≡ d.overhead
  pub ends : (number : ℕ) (x : Cycle) → withdrawn_before entries n number ≡ Some x → number < length (admitted_before d entries n)
  pub begun : (row : Row) → Contains (admitted_before d entries n) row → row.admitted.0 ≤ sealed_before entries n
  pub names : AllPairs (λ (a b : Row). held_before entries n a ≡ true → held_before entries n b ≡ true → a.name ≢ b.name) (admitted_before d entries n)
  pub paces : (row : Row) → Contains (admitted_before d entries n) row → IsPaced row.pace
  pub loads : (l active_cycle : ℕ) → link_cost
      (filter (λ (row : Row). is_held row (sealed_before entries n)) (map (with_end (withdrawn_before entries n)) (admitted_before d entries n))) l active_cycle ≤ budget d l

-- a stream that is held after an entry was held before it
held_shrinks : (d : Domain) (entries : List Recorded) (n : ℕ) → suc n ≤ length entries → Sound d entries n → (row : Row) →
    Contains (admitted_before d entries n) row → held_before entries (suc n) row ≡ true → held_before entries n row ≡ true
held_shrinks d entries n h s row k t =
    held_less row (withdrawn_before entries (suc n)) (withdrawn_before entries n) (sealed_before entries n) (sealed_before entries (suc n))
    (sealed_more entries n (suc n) (omega arith) h) (s.begun row k) (end_stays entries n row.no) t

-- an entry that admits nothing keeps all this
sound_kept : (d : Domain) (entries : List Recorded) (n : ℕ) → suc n ≤ length entries → admitted_at d entries n ≡ [] →
    ((number : ℕ) (x : Cycle) → withdrawn_before entries (suc n) number ≡ Some x → number < length (admitted_before d entries n)) → Sound d entries n →
    Sound d entries (suc n)
sound_kept d entries n h none ends s =
    let rows = admitted_before d entries n in
    let same : admitted_before d entries (suc n) ≡ rows = ap (λ (xs : List Row). rows ++ xs) none ∙ append-nil rows in
    let back : (row : Row) → Contains (admitted_before d entries (suc n)) row → Contains rows row =
    λ row k. subst (λ (xs : List Row). Contains xs row) same k in
    let apart : Row → Row → Type 0 = λ (a b : Row). held_before entries n a ≡ true → held_before entries n b ≡ true → a.name ≢ b.name in
    let apart_later : Row → Row → Type 0 = λ (a b : Row). held_before entries (suc n) a ≡ true → held_before entries (suc n) b ≡ true → a.name ≢ b.name in
    record {
      numbers = λ k row e. s.numbers k row (ap (λ (xs : List Row). slice_get xs k) (sym same) ∙ e);
      trees = λ row k. s.trees row (back row k);
      named = λ row k. s.named row (back row k);
      least_octets = λ row k. s.least_octets row (back row k);
      paces = λ row k. s.paces row (back row k);
      most_octets = λ row k. s.most_octets row (back row k);
      overheads = λ row k. s.overheads row (back row k);
      ends = λ number x e. omega (arith, ends number x e, ap (λ (xs : List Row). length xs) same);
      begun = λ row k. omega (arith, s.begun row (back row k), sealed_more entries n (suc n) (omega arith) h);
      names = subst (λ (xs : List Row). AllPairs apart_later xs) (sym same)
          (pairs_weaker apart apart_later rows (λ a b k l r t u. r (held_shrinks d entries n h s a k t) (held_shrinks d entries n h s b l u)) s.names);
      loads = λ l active_cycle.
          let less = cost_less rows (λ (row : Row). is_held row (sealed_before entries (suc n))) (λ (row : Row). is_held row (sealed_before entries n))
          (withdrawn_before entries (suc n)) (withdrawn_before entries n) l active_cycle (held_shrinks d entries n h s) in
          subst (λ (xs : List Row). link_cost
          (filter (λ (row : Row). is_held row (sealed_before entries (suc n))) (map (with_end (withdrawn_before entries (suc n))) xs)) l active_cycle ≤ budget d l)
          (sym same) (omega (arith, less, s.loads l active_cycle));
    }

-- the members of a list with one more at its end
pushed_cases : (rows : List Row) (new row : Row) → Contains (rows ++ new ∷ []) row → Contains rows row ⊎ (new ≡ row)
pushed_cases rows new row h =
    elim (Contains-append_cases rows (new ∷ []) row h) [
      | inl k ↦ inl k
      | inr k ↦ elim (contains_cases new [] row k) [ inl e ↦ inr e | inr none ↦ absurd (contains_none row none) ]
    ]

-- rows that are kept, with their withdrawals, have valid paces
kept_paced : (rows : List Row) (q : Row → Bool) (w : ℕ → Option Cycle) → ((row : Row) → Contains rows row → IsPaced row.pace) → (row : Row) →
    Contains (filter q (map (with_end w) rows)) row → IsPaced row.pace
kept_paced rows q w paces row k =
    let m = contains_from_map (with_end w) rows row (contains_from_filter q (map (with_end w) rows) row k).0 in
    subst (λ (r : Row). IsPaced r.pace) m.2 (paces m.0 m.1)

-- one more stream that finds room on each link of its tree
load_more : (d : Domain) (rows : List Row) (new : Row) (p q : Row → Bool) (v w : ℕ → Option Cycle) (l active_cycle : ℕ) →
    ((row : Row) → Contains rows row → p (with_end v row) ≡ true → q (with_end w row) ≡ true) →
    ((row : Row) → Contains rows row → IsPaced row.pace) → IsPaced new.pace → link_cost (filter q (map (with_end w) rows)) l active_cycle ≤ budget d l →
    short_link d (filter q (map (with_end w) rows)) (cost_of new.overhead new.octets) new.pace new.tree.items ≡ None →
    link_cost (filter p (map (with_end v) (rows ++ new ∷ []))) l active_cycle ≤ budget d l
load_more d rows new p q v w l active_cycle less paces own within room =
    let old = filter p (map (with_end v) rows) in
    let kept = filter q (map (with_end w) rows) in
    let one = filter p (with_end v new ∷ []) in
    let tree = new.tree.items in
    let split : link_cost (filter p (map (with_end v) (rows ++ new ∷ []))) l active_cycle ≡ link_cost old l active_cycle + link_cost one l active_cycle =
    ap (λ (xs : List Row). link_cost (filter p xs) l active_cycle) (map-append (with_end v) rows (new ∷ []))
    ∙ ap (λ (xs : List Row). link_cost xs l active_cycle) (filter-append p (map (with_end v) rows) (with_end v new ∷ []))
    ∙ sum_by-append (λ (row : Row). cost_on row l active_cycle) old one in
    let shrunk = cost_less rows p q v w l active_cycle less in
    let single : link_cost one l active_cycle ≤ cost_on new l active_cycle = link_cost_one (p (with_end v new)) (with_end v new) l active_cycle in
    let fits : cost_on new l active_cycle + link_cost kept l active_cycle ≤ budget d l =
    elim (cases_Bool (uses tree new.pace l active_cycle)) [
      | inl t ↦
          let cost : cost_on new l active_cycle ≡ cost_of new.overhead new.octets = ap (λ (b : Bool). if b then cost_of new.overhead new.octets else 0) t in
          let enough = room_on d kept tree new.pace (cost_of new.overhead new.octets) (links_of new) l room (used_is_crossed tree new.pace l active_cycle t) in
          let most = cost_within_most kept tree new.pace l active_cycle (kept_paced rows q w paces) own t in
          omega (arith, cost, within, enough, most)
      | inr f ↦ (let cost : cost_on new l active_cycle ≡ 0 = ap (λ (b : Bool). if b then cost_of new.overhead new.octets else 0) f in omega (arith, cost, within))
    ] in
    omega (arith, split, shrunk, single, fits)

-- an entry that admits a stream keeps all this
sound_admitted : (d : Domain) (entries : List Recorded) (n : ℕ) (asked : Asked) → suc n ≤ length entries →
    admitted_at d entries n ≡ granted_row d (length (streams_of d (take n entries))) (sealed_before entries n) asked ∷ [] →
    ((number : ℕ) → withdrawn_before entries (suc n) number ≡ withdrawn_before entries n number) →
    IsGranted d (held_in d (take n entries) (sealed_before entries n)) asked → Sound d entries n → Sound d entries (suc n)
sound_admitted d entries n asked h is ends g s =
    let rows = admitted_before d entries n in
    let w = withdrawn_before entries n in
    let v = withdrawn_before entries (suc n) in
    let c = sealed_before entries n in
    let e = sealed_before entries (suc n) in
    let later : c ≤ e = sealed_more entries n (suc n) (omega arith) h in
    let streams = streams_front entries n (omega (arith, h)) d in
    let held = filter (λ (row : Row). is_held row c) (map (with_end w) rows) in
    let granted_here : IsGranted d held asked = subst (λ (xs : List Row). IsGranted d (filter (λ (row : Row). is_held row c) xs) asked) streams g in
    let new = granted_row d (length (streams_of d (take n entries))) c asked in
    let count : new.no ≡ length rows = ap length streams ∙ length-map rows (with_end w) in
    let same : admitted_before d entries (suc n) ≡ rows ++ new ∷ [] = ap (λ (xs : List Row). rows ++ xs) is in
    let back : (row : Row) → Contains (admitted_before d entries (suc n)) row → Contains rows row ⊎ (new ≡ row) =
    λ row k. pushed_cases rows new row (subst (λ (xs : List Row). Contains xs row) same k) in
    let divides = and_parts (80 % asked.every == 0) (nat_lt asked.phase asked.every) granted_here.pace in
    let new_paced : IsPaced (pace_of asked) = paced asked.every (eqb-true (80 % asked.every) 0 divides.0) in
    let tree_good : IsTree d (tree_of d asked.paths) = is_tree d held asked granted_here in
    let apart : Row → Row → Type 0 = λ (a b : Row). held_before entries n a ≡ true → held_before entries n b ≡ true → a.name ≢ b.name in
    let apart_later : Row → Row → Type 0 = λ (a b : Row). held_before entries (suc n) a ≡ true → held_before entries (suc n) b ≡ true → a.name ≢ b.name in
    record {
      numbers = λ k row f.
          let there : slice_get (rows ++ new ∷ []) k ≡ Some row = ap (λ (xs : List Row). slice_get xs k) (sym same) ∙ f in
          elim (cases_lt k (length rows)) [
            | inl l ↦ s.numbers k row (sym (slice_get_front rows (new ∷ []) k l) ∙ there)
            | inr l ↦ (let last : k ≡ length rows = omega (arith, l, slice_get_within (rows ++ new ∷ []) k row there, length-append rows (new ∷ [])) in
                let is_new : new ≡ row = same_Some new row (sym (slice_get_after rows new [] k last) ∙ there) in
                ap (λ (r : Row). r.no) (sym is_new) ∙ count ∙ sym last)
          ];
      trees = λ row k. elim (back row k) [ inl m ↦ s.trees row m | inr m ↦ subst (λ (r : Row). IsTree d r.tree.items) m tree_good ];
      named = λ row k. elim (back row k) [ inl m ↦ s.named row m | inr m ↦ subst (λ (r : Row). is_name r.name ≡ true) m granted_here.named ];
      paces = λ row k. elim (back row k) [ inl m ↦ s.paces row m | inr m ↦ subst (λ (r : Row). IsPaced r.pace) m new_paced ];
      least_octets = λ row k. elim (back row k) [ inl m ↦ s.least_octets row m | inr m ↦ subst (λ (r : Row). 64 ≤ r.octets) m granted_here.least_octets ];
      most_octets = λ row k. elim (back row k) [ inl m ↦ s.most_octets row m | inr m ↦ subst (λ (r : Row). r.octets ≤ most_reserved) m granted_here.most_octets ];
      overheads = λ row k. elim (back row k) [ inl m ↦ s.overheads row m | inr m ↦ ap (λ (r : Row). r.overhead) (sym m) ];
      ends = λ number x e. omega (arith, s.ends number x (sym (ends number) ∙ e), ap (λ (xs : List Row). length xs) same, length-append rows (new ∷ []));
      begun = λ row k. elim (back row k) [ inl m ↦ omega (arith, later, s.begun row m) | inr m ↦ subst (λ (r : Row). r.admitted.0 ≤ e) m later ];
      names = subst (λ (xs : List Row). AllPairs apart_later xs) (sym same)
          (pairs_push apart_later rows new
          (pairs_weaker apart apart_later rows (λ a b k l r t u. r (held_shrinks d entries n h s a k t) (held_shrinks d entries n h s b l u)) s.names)
          (λ row k t u same_name.
          let kept = contains_filter (λ (r : Row). is_held r c) (map (with_end w) rows) (with_end w row) (contains_map (with_end w) rows row k)
          (held_shrinks d entries n h s row k t) in
          name_apart held asked.name (with_end w row) granted_here.name_free kept same_name));
      loads = λ l active_cycle.
          subst (λ (xs : List Row). link_cost (filter (λ (row : Row). is_held row e) (map (with_end v) xs)) l active_cycle ≤ budget d l) (sym same)
          (load_more d rows new (λ (row : Row). is_held row e) (λ (row : Row). is_held row c) v w l active_cycle (held_shrinks d entries n h s)
          s.paces new_paced (s.loads l active_cycle) granted_here.enough);
    }

-- no entry but an accepted request admits a stream
admits_none : (d : Domain) (entries : List Recorded) (n : ℕ) (e : Recorded) → slice_get entries n ≡ Some e →
    stream_by d [] (sealed_before entries n) e.act e.reply ≡ [] → admitted_at d entries n ≡ []
admits_none d entries n e is none =
    ap (λ (o : Option Recorded). option_map_or (λ (x : Recorded). stream_by d [] (sealed_before entries n) x.act x.reply) o []) is ∙ none

-- an entry that withdraws nothing leaves each number's withdrawal as it was
pub no_end_more : (entries : List Recorded) (n number : ℕ) (e : Recorded) → slice_get entries n ≡ Some e →
    withdrawal_by (sealed_before entries n) number e.act e.reply ≡ [] → withdrawn_before entries (suc n) number ≡ withdrawn_before entries n number
no_end_more entries n number e is none =
    let front = each_below (withdrawn_at entries number) n in
    let nothing : withdrawn_at entries number n ≡ [] =
    ap (λ (o : Option Recorded). option_map_or (λ (x : Recorded). withdrawal_by (sealed_before entries n) number x.act x.reply) o []) is ∙ none in
    ap (λ (xs : List Cycle). slice_get (front ++ xs) 0) nothing ∙ ap (λ (xs : List Cycle). slice_get xs 0) (append-nil front)

-- a request leaves the streams sound
request_sound : (d : Domain) (entries : List Recorded) (n : ℕ) (e : Recorded) (asked : Asked) (refusal : Option Refused) → suc n ≤ length entries →
    slice_get entries n ≡ Some e → e.act ≡ Admits asked → e.reply ≡ admit_reply (length (streams_of d (take n entries))) (sealed_before entries n) refusal →
    refusal_of d (held_in d (take n entries) (sealed_before entries n)) asked ≡ refusal → Sound d entries n → Sound d entries (suc n)
request_sound d entries n e asked None h is act reply refusal s =
    let found : admitted_at d entries n ≡ stream_by d [] (sealed_before entries n) (Admits asked)
    (admit_reply (length (streams_of d (take n entries))) (sealed_before entries n) None) =
    ap (λ (o : Option Recorded). option_map_or (λ (x : Recorded). stream_by d [] (sealed_before entries n) x.act x.reply) o []) is
    ∙ ap (λ (a : Act). stream_by d [] (sealed_before entries n) a e.reply) act
    ∙ ap (λ (r : Reply). stream_by d [] (sealed_before entries n) (Admits asked) r) reply in
    sound_admitted d entries n asked h found
    (λ number. no_end_more entries n number e is (ap (λ (a : Act). withdrawal_by (sealed_before entries n) number a e.reply) act))
    (granted d (held_in d (take n entries) (sealed_before entries n)) asked refusal) s
request_sound d entries n e asked (Some refused) h is act reply refusal s =
    sound_kept d entries n h (admits_none d entries n e is
    (ap (λ (a : Act). stream_by d [] (sealed_before entries n) a e.reply) act
    ∙ ap (λ (r : Reply). stream_by d [] (sealed_before entries n) (Admits asked) r) reply))
    (λ number x f. s.ends number x
    (sym (no_end_more entries n number e is (ap (λ (a : Act). withdrawal_by (sealed_before entries n) number a e.reply) act)) ∙ f)) s

-- the row of a name is one of the rows
pub named_is_held : (rows : List Row) (name : List ℕ) (row : Row) → row_named rows name ≡ Some row → Contains rows row
named_is_held [] name row e = absurd cc
named_is_held (x ∷ rows) name row e = first_or_later (is_text x.name name) e (named_is_held rows name row)
  where
    -- a row that is found by its name is the first, or one of the rest
    first_or_later : (b : Bool) → cond b (Some x) (row_named rows name) ≡ Some row → (row_named rows name ≡ Some row → Contains rows row) →
        Contains (x ∷ rows) row
    first_or_later true f r = subst (λ (y : Row). Contains (x ∷ rows) y) (same_Some x row f) (contains_here x rows)
    first_or_later false f r = contains_later x rows row (r f)

-- a held row is an admitted one with its withdrawal
pub held_stream : (d : Domain) (entries : List Recorded) (n : ℕ) (row : Row) → n ≤ length entries →
    Contains (held_in d (take n entries) (sealed_before entries n)) row → (stream : Row) × Contains (admitted_before d entries n) stream ×
    (with_end (withdrawn_before entries n) stream ≡ row)
held_stream d entries n row within h =
    let streams = contains_from_filter (λ (r : Row). is_held r (sealed_before entries n)) (streams_of d (take n entries)) row h in
    contains_from_map (with_end (withdrawn_before entries n)) (admitted_before d entries n) row
    (subst (λ (xs : List Row). Contains xs row) (streams_front entries n within d) streams.0)

-- the number of an admitted stream is below the next one
pub number_below : (d : Domain) (entries : List Recorded) (n : ℕ) (stream : Row) → Sound d entries n → Contains (admitted_before d entries n) stream →
    stream.no < length (admitted_before d entries n)
number_below d entries n stream s (k, h, e) =
    let rows = admitted_before d entries n in
    let there : slice_get rows k ≡ Some stream = slice_get-get_or rows k stream h ∙ ap (λ (r : Row). Some r) e in
    omega (arith, h, s.numbers k stream there)

-- an entry withdraws an admitted stream only
withdrawal_of_one : (d : Domain) (entries : List Recorded) (n : ℕ) (e : Recorded) (name : List ℕ) (found : Option Row) → n ≤ length entries →
    slice_get entries n ≡ Some e → e.act ≡ Withdraws name → e.reply ≡ withdraw_reply (sealed_before entries n) found →
    row_named (held_in d (take n entries) (sealed_before entries n)) name ≡ found → Sound d entries n → (number : ℕ) (x : Cycle) →
    withdrawn_before entries (suc n) number ≡ Some x → number < length (admitted_before d entries n)
withdrawal_of_one d entries n e name None within is act reply found s number x f =
    s.ends number x (sym (no_end_more entries n number e is
    (ap (λ (a : Act). withdrawal_by (sealed_before entries n) number a e.reply) act
    ∙ ap (λ (r : Reply). withdrawal_by (sealed_before entries n) number (Withdraws name) r) reply)) ∙ f)
withdrawal_of_one d entries n e name (Some row) within is act reply found s number x f = by_end row.withdrawn reply
  where
    -- a number that is withdrawn, with this row or before, is below the count of the admitted streams
    of_this : (b : Bool) → (row.no == number) ≡ b →
        withdrawal_by (sealed_before entries n) number e.act e.reply ≡ (if row.no == number then record { 0 = sealed_before entries n } ∷ [] else []) →
        number < length (admitted_before d entries n)
    of_this true t w =
        let held = held_stream d entries n row within (named_is_held (held_in d (take n entries) (sealed_before entries n)) name row found) in
        let same : row.no ≡ number = eqb-true row.no number t in
        let of_stream : held.0.no ≡ row.no = ap (λ (r : Row). r.no) held.2 in
        omega (arith, same, of_stream, number_below d entries n held.0 s held.1)
    of_this false t w = s.ends number x
        (sym (no_end_more entries n number e is (w ∙ ap (λ (b : Bool). if b then record { 0 = sealed_before entries n } ∷ [] else []) t)) ∙ f)

    -- a number that is withdrawn is below that count, regardless of the row's end
    by_end : (o : Option Cycle) → e.reply ≡ withdraw_row (sealed_before entries n) row.no o → number < length (admitted_before d entries n)
    by_end None r = of_this (row.no == number) refl
        (ap (λ (a : Act). withdrawal_by (sealed_before entries n) number a e.reply) act
        ∙ ap (λ (q : Reply). withdrawal_by (sealed_before entries n) number (Withdraws name) q) r)
    by_end (Some before) r =
        s.ends number x (sym (no_end_more entries n number e is
        (ap (λ (a : Act). withdrawal_by (sealed_before entries n) number a e.reply) act
        ∙ ap (λ (q : Reply). withdrawal_by (sealed_before entries n) number (Withdraws name) q) r)) ∙ f)

-- and so does each entry
entry_sound : (d : Domain) (entries : List Recorded) (n : ℕ) (e : Recorded) (act : Act) → suc n ≤ length entries → slice_get entries n ≡ Some e → e.act ≡ act →
    e.reply ≡ reply_to d (take n entries) act → Sound d entries n → Sound d entries (suc n)
entry_sound d entries n e (Admits asked) h is act reply s =
    request_sound d entries n e asked (refusal_of d (held_in d (take n entries) (sealed_before entries n)) asked) h is act reply refl s
entry_sound d entries n e (Withdraws name) h is act reply s =
    sound_kept d entries n h (admits_none d entries n e is (ap (λ (a : Act). stream_by d [] (sealed_before entries n) a e.reply) act))
    (withdrawal_of_one d entries n e name (row_named (held_in d (take n entries) (sealed_before entries n)) name) (omega (arith, h)) is act reply refl s) s
entry_sound d entries n e Seals h is act reply s =
    sound_kept d entries n h (admits_none d entries n e is (ap (λ (a : Act). stream_by d [] (sealed_before entries n) a e.reply) act))
    (λ number x f. s.ends number x
    (sym (no_end_more entries n number e is (ap (λ (a : Act). withdrawal_by (sealed_before entries n) number a e.reply) act)) ∙ f)) s

-- each reply is the one that is due
abbrev pub AreDue : Domain → List Recorded → Type 0
AreDue d entries = (index : ℕ) (e : Recorded) → slice_get entries index ≡ Some e → e.reply ≡ reply_to d (take index entries) e.act

-- all this holds before each entry of a legal history
pub sound : (d : Domain) (entries : List Recorded) → AreDue d entries → (n : ℕ) → n ≤ length entries → Sound d entries n
sound d entries due zero h =
    record {
      numbers = λ k row e. absurd cc;
      trees = λ row k. absurd (contains_none row k);
      named = λ row k. absurd (contains_none row k);
      least_octets = λ row k. absurd (contains_none row k);
      most_octets = λ row k. absurd (contains_none row k);
      overheads = λ row k. absurd (contains_none row k);
      ends = λ number x e. absurd cc;
      begun = λ row k. absurd (contains_none row k);
      names = pairs_none (λ (a b : Row). held_before entries 0 a ≡ true → held_before entries 0 b ≡ true → a.name ≢ b.name);
      paces = λ row k. absurd (contains_none row k);
      loads = λ l active_cycle. omega arith;
    }
sound d entries due (suc n) h =
    let e = entry_at entries n (omega (arith, h)) in
    entry_sound d entries n e.0 e.0.act h e.1 refl (due n e.0 e.1) (sound d entries due n (omega (arith, h)))
