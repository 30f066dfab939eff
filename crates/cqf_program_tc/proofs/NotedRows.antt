-- Indices noted at bridges.
use Rattle.std.proofs.Common.{ℕ, zero, suc, ◌≡◌, ◌∙◌, ◌<◌, ◌≤◌, ◌+◌, ◌-◌, ◌++◌, ◌==◌, ◌||◌, Bool, true, false, List, [], ◌∷◌, Some, Option}
use Rattle.std.proofs.Common.{add-one, ap, append-nil, arith, get_or, inl, inr, length, refl, subst, sym}
use Rattle.std.specs.Prelude.{find, if◌then◌else◌, is_some, slice_get}
use Rattle.std.specs.Global.{Global}
use Rattle.std.specs.List.{list_any}
use Rattle.std.specs.Option.{option_map_or}
use Rattle.std.specs.declared.vec.Vec.{Vec}
use Rattle.std.proofs.lemmas.Bool.{cond-false, cond-true, ne_eqb}
use Rattle.std.proofs.lemmas.Bool.Decides.{eqb_tells, nat_tests}
use Rattle.std.proofs.lemmas.List.{get_or-map, length-map}
use Rattle.std.proofs.lemmas.List.Folds.{list_any-append}
use Rattle.std.proofs.lemmas.Option.{slice_get_past}
use Rattle.cqf_lists.specs.ByNumber.{AddsTo, AreListsBy, lists_of}
use Rattle.cqf_lists.proofs.Numbers.{kept_below}
use Rattle.cqf_model.specs.declared.topology.Hop.{Hop}
use Rattle.cqf_model.specs.declared.topology.Link.{Link}
use Rattle.cqf_model.specs.declared.topology.Row.{Row}
use Rattle.cqf_model.specs.Domain.{Domain, leaves}
use Rattle.cqf_program_tc.specs.Rows.{AreBelow, IsNoted, IsNotedBy, indices_below, indices_in, is_last, leaves_bridge, with_index}

-- with no index noted
abbrev pub no_index : ℕ → List ℕ
no_index bridge = []

pub below_none : (d : Domain) (rows : List Row) (lists : List (Vec ℕ Global)) (count : ℕ) → count ≡ length d.bridges →
    AreListsBy no_index count (lists_of lists) → AreBelow d rows 0 (indices_in lists)
below_none d rows lists count all are = record {
  one_each = are.one_each ∙ all;
  each = λ bridge none below. are.each bridge none (omega (arith, below, all));
}

-- the view has the same number of lists
pub length-indices : (lists : List (Vec ℕ Global)) → length (indices_in lists) ≡ length lists
length-indices lists = length-map lists (λ (indices : Vec ℕ Global). indices.items)

-- the last of these indices
pub is_last-at : (index : ℕ) (indices : List ℕ) →
    is_last index indices ≡ option_map_or (λ (last : ℕ). last == index) (slice_get indices (length indices - 1)) false
is_last-at index [] = refl
is_last-at index (last ∷ []) = refl
is_last-at index (first ∷ second ∷ rest) =
    let few : length (second ∷ rest) - 1 ≡ length rest = omega arith in
    let more : length (first ∷ second ∷ rest) - 1 ≡ suc (length rest) = omega arith in
    is_last-at index (second ∷ rest)
    ∙ ap (λ (k : ℕ). option_map_or (λ (last : ℕ). last == index) (slice_get (second ∷ rest) k) false) few
    ∙ sym (ap (λ (k : ℕ). option_map_or (λ (last : ℕ). last == index) (slice_get (first ∷ second ∷ rest) k) false) more)

is_last-push : (index : ℕ) (indices : List ℕ) (last : ℕ) → is_last index (indices ++ last ∷ []) ≡ (last == index)
is_last-push index [] last = refl
is_last-push index (first ∷ []) last = refl
is_last-push index (first ∷ second ∷ rest) last = is_last-push index (second ∷ rest) last

-- an index isn't among those below it
not_last : (test : ℕ → Bool) (n index : ℕ) → n ≤ index → is_last index (kept_below test n) ≡ false
not_last test zero index low = refl
not_last test (suc n) index low = by (test n) (not_last test n index (omega (arith, low)))
  where
    -- whether the number before it is kept
    by : (b : Bool) → is_last index (kept_below test n) ≡ false → is_last index (kept_below test n ++ (if b then n ∷ [] else [])) ≡ false
    by true before = is_last-push index (kept_below test n) n ∙ ne_eqb n index (λ same. omega (arith, low, same))
    by false before = ap (is_last index) (append-nil (kept_below test n)) ∙ before

-- the list of a bridge
module _ (lists : List (Vec ℕ Global)) (at bridge : ℕ) (list d : Vec ℕ Global) (is : at ≡ bridge) (below : at < length lists)
    (there : list ≡ get_or lists at d) where
  pub list_at : (none : List ℕ) → get_or (indices_in lists) bridge none ≡ list.items
  list_at none =
      ap (λ (k : ℕ). get_or (indices_in lists) k none) (sym is)
      ∙ get_or-map (λ (indices : Vec ℕ Global). indices.items) lists at d none below
      ∙ ap (λ (indices : Vec ℕ Global). indices.items) (sym there)

  -- if the index is its last one, nothing is noted
  pub noted_before : (index : ℕ) → is_last index list.items ≡ true → IsNoted (indices_in lists) (indices_in lists) bridge index
  noted_before index last = record {
    one_each = refl;
    own = λ none low.
        let here = get_or (indices_in lists) bridge none in
        sym (cond-true (is_last index here) here (here ++ index ∷ []) (ap (is_last index) (list_at none) ∙ last));
    others = λ other none apart. refl;
  }

  -- else the index is appended
  pub noted_now : (index : ℕ) (after : List (List ℕ)) → is_last index list.items ≡ false → AddsTo (indices_in lists) after bridge index →
      IsNoted (indices_in lists) after bridge index
  noted_now index after last adds = record {
    one_each = adds.as_many;
    own = λ none low.
        let here = get_or (indices_in lists) bridge none in
        adds.own none ∙ sym (cond-false (is_last index here) here (here ++ index ∷ []) (ap (is_last index) (list_at none) ∙ last));
    others = adds.others;
  }

-- a link that the domain lacks leaves no bridge
pub noted_by_none : (d : Domain) (link index : ℕ) (lists : List (List ℕ)) → length d.links ≤ link → IsNotedBy d link index lists lists
noted_by_none d link index lists past = record {
  one_each = refl;
  each = λ bridge none below.
      let here = get_or lists bridge none in
      let none_leaves : leaves d link bridge ≡ false =
      ap (λ (found : Option Link). option_map_or (λ (l : Link). l.from == bridge) found false) (slice_get_past d.links link past) in
      sym (cond-false (leaves d link bridge) (with_index index here) here none_leaves);
}

-- any other link leaves only one bridge
pub noted_by_link : (d : Domain) (link index : ℕ) (l : Link) (before after : List (List ℕ)) → slice_get d.links link ≡ Some l →
    l.from < length before → IsNoted before after l.from index → IsNotedBy d link index before after
noted_by_link d link index l before after there inside noted = record {
  one_each = noted.one_each;
  each = λ bridge none below.
      let here = get_or before bridge none in
      let same : leaves d link bridge ≡ (l.from == bridge) =
      ap (λ (found : Option Link). option_map_or (λ (x : Link). x.from == bridge) found false) there in
      elim (eqb_tells l.from bridge) [
        | inl own ↦
            subst (λ (n : ℕ). get_or after n none ≡ with_index index (get_or before n none)) own.1 (noted.own none inside)
            ∙ sym (cond-true (leaves d link bridge) (with_index index here) here (same ∙ own.0))
        | inr other ↦
            noted.others bridge none (λ e. other.1 (sym e))
            ∙ sym (cond-false (leaves d link bridge) (with_index index here) here (same ∙ other.0))
      ];
}

-- whether one of these hops leaves a bridge
abbrev pub some_leaves : Domain → ℕ → List Hop → Bool
some_leaves d bridge hops = list_any (λ (hop : Hop). leaves d hop.link bridge) hops

any_found : {X : Type 0} (test : X → Bool) (xs : List X) → list_any test xs ≡ is_some (find test xs)
any_found test [] = refl
any_found {X} test (x ∷ xs) = by (test x) (any_found test xs)
  where
    -- the first hop, or one of the others
    by : (b : Bool) → list_any test xs ≡ is_some (find test xs) → (b || list_any test xs) ≡ is_some (if b then Some x else find test xs)
    by true others = refl
    by false others = others

-- the indices of the rows before, and the next index if one of these hops leaves a bridge
pub record AreUpTo (d : Domain) (rows : List Row) (index : ℕ) (hops : List Hop) (lists : List (List ℕ)) : Type 0 where
  pub one_each : length lists ≡ length d.bridges
  pub each : (bridge : ℕ) (none : List ℕ) → bridge < length d.bridges →
      get_or lists bridge none ≡ indices_below d rows bridge index ++ (if some_leaves d bridge hops then index ∷ [] else [])

pub up_to_none : (d : Domain) (rows : List Row) (index : ℕ) (lists : List (List ℕ)) → AreBelow d rows index lists → AreUpTo d rows index [] lists
up_to_none d rows index lists are = record {
  one_each = are.one_each;
  each = λ bridge none below. are.each bridge none below ∙ sym (append-nil (indices_below d rows bridge index));
}

-- an index is noted once
noted_once : (index : ℕ) (before : List ℕ) (noted leaving : Bool) → is_last index before ≡ false →
    (if leaving then with_index index (before ++ (if noted then index ∷ [] else [])) else before ++ (if noted then index ∷ [] else []))
    ≡ before ++ (if noted || (leaving || false) then index ∷ [] else [])
noted_once index before true true last =
    let all = before ++ index ∷ [] in
    cond-true (is_last index all) all (all ++ index ∷ []) (is_last-push index before index ∙ sym (itself index))
  where
    -- a number is itself
    itself : (n : ℕ) → true ≡ (n == n)
    itself n = grind (arith, nat_tests)
noted_once index before true false last = refl
noted_once index before false true last =
    ap (with_index index) (append-nil before) ∙ cond-false (is_last index before) before (before ++ index ∷ []) last
noted_once index before false false last = refl

pub up_to_more : (d : Domain) (rows : List Row) (index : ℕ) (hops more : List Hop) (hop : Hop) (before after : List (List ℕ)) →
    more ≡ hops ++ hop ∷ [] → IsNotedBy d hop.link index before after → AreUpTo d rows index hops before → AreUpTo d rows index more after
up_to_more d rows index hops more hop before after is noted are = record {
  one_each = noted.one_each ∙ are.one_each;
  each = λ bridge none below.
      let so_far = indices_below d rows bridge index in
      let leaving = leaves d hop.link bridge in
      let any : some_leaves d bridge more ≡ (some_leaves d bridge hops || (leaving || false)) =
      ap (some_leaves d bridge) is ∙ list_any-append (λ (h : Hop). leaves d h.link bridge) hops (hop ∷ []) in
      noted.each bridge none below
      ∙ ap (λ (here : List ℕ). if leaving then with_index index here else here) (are.each bridge none below)
      ∙ noted_once index so_far (some_leaves d bridge hops) leaving
      (not_last (λ (k : ℕ). option_map_or (leaves_bridge d bridge) (slice_get rows k) false) index index (omega arith))
      ∙ ap (λ (b : Bool). so_far ++ (if b then index ∷ [] else [])) (sym any);
}

-- with all hops of the row, the indices are those of one more row
pub below_more : (d : Domain) (rows : List Row) (index : ℕ) (row : Row) (lists : List (List ℕ)) → slice_get rows index ≡ Some row →
    AreUpTo d rows index row.tree.items lists → AreBelow d rows (index + 1) lists
below_more d rows index row lists there are = record {
  one_each = are.one_each;
  each = λ bridge none below.
      let so_far = indices_below d rows bridge index in
      let found : some_leaves d bridge row.tree.items ≡ option_map_or (leaves_bridge d bridge) (slice_get rows index) false =
      any_found (λ (hop : Hop). leaves d hop.link bridge) row.tree.items
      ∙ sym (ap (λ (it : Option Row). option_map_or (leaves_bridge d bridge) it false) there) in
      are.each bridge none below
      ∙ ap (λ (b : Bool). so_far ++ (if b then index ∷ [] else [])) found
      ∙ sym (ap (indices_below d rows bridge) (add-one index));
}
