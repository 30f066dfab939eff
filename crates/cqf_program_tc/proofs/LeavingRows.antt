-- Rows whose streams don't leave a bridge change nothing there.
use Rattle.std.proofs.Common.{ℕ, suc, ◌≡◌, ◌∙◌, ◌<◌, ◌≤◌, ◌+◌, ◌++◌, Bool, false, List, [], ◌∷◌, Option, Some, None, inl, inr}
use Rattle.std.proofs.Common.{Contains, add-one, ap, append-nil, arith, get_or, length, refl, subst, sym, take}
use Rattle.std.specs.Prelude.{is_some, option_map, slice_get}
use Rattle.std.specs.Option.{option_map_or}
use Rattle.std.proofs.lemmas.Bool.{true≢false}
use Rattle.std.proofs.lemmas.List.{get_or_default, get_or_past, take_all}
use Rattle.std.proofs.lemmas.List.Concat.{flat_map-append}
use Rattle.std.specs.List.{flat_map}
use Rattle.std.proofs.lemmas.List.Elements.{Contains-get_or}
use Rattle.std.proofs.lemmas.Option.{slice_get_cases}
use Rattle.cqf_addressing.specs.declared.links.LinkInterfaces.{LinkInterfaces}
use Rattle.cqf_addressing.specs.declared.streams.StreamAddress.{StreamAddress}
use Rattle.cqf_lists.specs.Lists.{each_below}
use Rattle.cqf_lists.proofs.Numbers.{kept_number}
use Rattle.cqf_model.specs.declared.topology.Hop.{Hop}
use Rattle.cqf_model.specs.declared.topology.Row.{Row}
use Rattle.cqf_model.specs.Domain.{Domain}
use Rattle.cqf_compile.specs.BridgeGates.{first_hop}
use Rattle.cqf_program_tc.specs.Bridge.{clearing_by, is_new, needs_by, stream_at, stream_clearing, stream_gates, stream_lines, stream_needs}
use Rattle.cqf_program_tc.specs.Env.{lines_by, stream_env}
use Rattle.cqf_program_tc.specs.Rows.{indices_at, leaves_bridge}
use Rattle.cqf_program_tc.specs.Variables.{stream_variable}
use Rattle.cqf_program_tc.specs.Ingresses.{IsSeenIngress}
use Rattle.cqf_program_tc.proofs.NextKept.{following, to_next}
use Rattle.cqf_program_tc.proofs.Streams.{row_at, seen_same, stream_more}

none_from : (found : Option Hop) → is_some found ≡ false → found ≡ None
none_from None e = refl
none_from (Some hop) e = absurd (true≢false e)

-- a text that is empty for a stream that doesn't leave the bridge
abbrev pub IsSilent : Domain → ℕ → (List Row → Row → List ℕ) → Type 0
IsSilent d bridge text = (before : List Row) (row : Row) → first_hop d bridge row ≡ None → text before row ≡ []

pub needs_silent : (d : Domain) (gates : ℕ → ℕ) (rows : List Row) (bridge : ℕ) → IsSilent d bridge (stream_needs d gates rows bridge)
needs_silent d gates rows bridge before row none =
    ap (λ (found : Option Hop). option_map_or (needs_by d bridge (stream_variable rows row) (gates row.no) row)
    (option_map (λ (hop : Hop). (hop.from, is_new d bridge before hop.from)) found) []) none

pub clearing_silent : (d : Domain) (rows : List Row) (bridge : ℕ) → IsSilent d bridge (stream_clearing d rows bridge)
clearing_silent d rows bridge before row none =
    ap (λ (found : Option Hop). option_map_or (clearing_by d (stream_variable rows row))
    (option_map (λ (hop : Hop). (hop.from, is_new d bridge before hop.from)) found) []) none

pub env_silent : (d : Domain) (interfaces : List LinkInterfaces) (addresses : List StreamAddress) (rows : List Row) (bridge : ℕ) →
    IsSilent d bridge (stream_env d interfaces addresses rows bridge)
env_silent d interfaces addresses rows bridge before row none =
    ap (λ (found : Option Hop). option_map_or (lines_by d interfaces addresses bridge (stream_variable rows row) row)
    (option_map (λ (hop : Hop). (hop.from, is_new d bridge before hop.from)) found) []) none

-- the texts of the rows so far are written, and it is noted over which links their streams arrived
pub record AreSoFar (Written : List ℕ → Type 0) (text : List Row → Row → List ℕ) (d : Domain) (bridge : ℕ) (rows : List Row) (seen : List Bool)
    (count : ℕ) : Type 0 where
  pub put : Written (each_below (stream_at text rows) count)
  pub noted : IsSeenIngress d bridge (take count rows) seen

module _ (d : Domain) (bridge : ℕ) (rows : List Row) where
  -- whether the stream of the row at an index leaves the bridge
  abbrev leaving : ℕ → Bool
  leaving index = option_map_or (leaves_bridge d bridge) (slice_get rows index) false

  idle_row : (k : ℕ) → k < length rows → leaving k ≡ false →
      (row : Row) × (slice_get rows k ≡ Some row) × (take (suc k) rows ≡ take k rows ++ row ∷ []) × (first_hop d bridge row ≡ None)
  idle_row k below idle = elim ((slice_get_cases rows k).1) [
    | inl h ↦ (
      h.0,
      h.2,
      ap (λ (n : ℕ). take n rows) (sym (add-one k)) ∙ (row_at rows k h.0 below (sym h.3)).1,
      none_from (first_hop d bridge h.0) (ap (λ (found : Option Row). option_map_or (leaves_bridge d bridge) found false) (sym h.2) ∙ idle),
    )
    | inr past ↦ absurd (omega (arith, below, past.0))
  ]

  -- the index of a stream that leaves the bridge is one of the rows'
  pub index_inside : (indices : List ℕ) (i : ℕ) → indices ≡ indices_at d rows bridge → i < length indices → get_or indices i 0 < length rows
  index_inside indices i are inside =
      (kept_number leaving (length rows) (get_or indices i 0)
      (subst (λ (l : List ℕ). Contains l (get_or indices i 0)) are (Contains-get_or indices i 0 inside))).0

  -- what holds after the first i of those indices holds up to the next one, if rows that don't leave the bridge change nothing
  pub to_next_index : (P : ℕ → Type 0) (indices : List ℕ) (i : ℕ) → indices ≡ indices_at d rows bridge →
      ((k : ℕ) (row : Row) → slice_get rows k ≡ Some row → take (suc k) rows ≡ take k rows ++ row ∷ [] → first_hop d bridge row ≡ None → P k → P (suc k)) →
      i ≤ length indices → P (following indices i) → P (get_or indices i (length rows))
  to_next_index P indices i are same within there =
      subst (λ (l : List ℕ). P (get_or l i (length rows))) (sym are)
      (to_next P leaving (length rows) i
      (λ k below idle so_far. let it = idle_row k below idle in same k it.0 it.1 it.2 it.3 so_far)
      (subst (λ (l : List ℕ). i ≤ length l) are within) (subst (λ (l : List ℕ). P (following l i)) are there))

  module _ (Written : List ℕ → Type 0) (text : List Row → Row → List ℕ) (seen : List Bool) (silent : IsSilent d bridge text) where
    so_far_same : (k : ℕ) (row : Row) → slice_get rows k ≡ Some row → take (suc k) rows ≡ take k rows ++ row ∷ [] → first_hop d bridge row ≡ None →
        AreSoFar Written text d bridge rows seen k → AreSoFar Written text d bridge rows seen (suc k)
    so_far_same k row there more none so_far =
        let at : stream_at text rows k ≡ [] =
        ap (λ (found : Option Row). option_map_or (text (take k rows)) found []) there ∙ silent (take k rows) row none in
        let texts = each_below (stream_at text rows) k in
        record {
          put = subst Written (sym (ap (λ (z : List ℕ). texts ++ z) at ∙ append-nil texts)) so_far.put;
          noted = subst (λ (before : List Row). IsSeenIngress d bridge before seen) (sym more) (seen_same d bridge (take k rows) row seen so_far.noted none);
        }

    so_far_next : (indices : List ℕ) (i : ℕ) → indices ≡ indices_at d rows bridge → i ≤ length indices →
        AreSoFar Written text d bridge rows seen (following indices i) → AreSoFar Written text d bridge rows seen (get_or indices i (length rows))
    so_far_next indices i are within there = to_next_index (AreSoFar Written text d bridge rows seen) indices i are so_far_same within there

    -- up to the first of the indices
    pub so_far_none : (indices : List ℕ) → indices ≡ indices_at d rows bridge → Written [] → IsSeenIngress d bridge [] seen →
        AreSoFar Written text d bridge rows seen (get_or indices 0 (length rows))
    so_far_none indices are put noted = so_far_next indices 0 are (omega arith) (record { put = put; noted = noted })

    -- one more of the indices
    pub so_far_more : (indices : List ℕ) (i : ℕ) (row : Row) → indices ≡ indices_at d rows bridge → i < length indices →
        slice_get rows (get_or indices i 0) ≡ Some row → take (get_or indices i 0 + 1) rows ≡ take (get_or indices i 0) rows ++ row ∷ [] →
        Written (each_below (stream_at text rows) (get_or indices i 0) ++ text (take (get_or indices i 0) rows) row) →
        IsSeenIngress d bridge (take (get_or indices i 0) rows ++ row ∷ []) seen →
        AreSoFar Written text d bridge rows seen (get_or indices (i + 1) (length rows))
    so_far_more indices i row are inside there more put noted =
        let index = get_or indices i 0 in
        let after_it : AreSoFar Written text d bridge rows seen (suc index) = record {
          put = subst Written (sym (stream_more text rows index row there) ∙ ap (each_below (stream_at text rows)) (add-one index)) put;
          noted = subst (λ (before : List Row). IsSeenIngress d bridge before seen) (sym more ∙ ap (λ (n : ℕ). take n rows) (add-one index)) noted;
        } in
        subst (λ (n : ℕ). AreSoFar Written text d bridge rows seen (get_or indices n (length rows))) (sym (add-one i))
        (so_far_next indices (suc i) are (omega (arith, inside)) after_it)

  -- what is so far at an index
  pub so_far_here : {Written : List ℕ → Type 0} {text : List Row → Row → List ℕ} {seen : List Bool} (indices : List ℕ) (i : ℕ) → i < length indices →
      AreSoFar Written text d bridge rows seen (get_or indices i (length rows)) → AreSoFar Written text d bridge rows seen (get_or indices i 0)
  so_far_here {Written} {text} {seen} indices i inside so_far =
      subst (AreSoFar Written text d bridge rows seen) (get_or_default indices i (length rows) 0 inside) so_far

  -- in the end all texts are written
  pub so_far_all : (Written : List ℕ → Type 0) (text : List Row → Row → List ℕ) (seen : List Bool) (indices : List ℕ) (i : ℕ) → length indices ≤ i →
      AreSoFar Written text d bridge rows seen (get_or indices i (length rows)) → Written (each_below (stream_at text rows) (length rows))
  so_far_all Written text seen indices i past so_far =
      (subst (AreSoFar Written text d bridge rows seen) (get_or_past indices i (length rows) past) so_far).put

-- the lines of the streams so far, for lines that don't depend on what is noted
module _ (d : Domain) (bridge : ℕ) (rows : List Row) (gates : ℕ → ℕ) where
  abbrev lines : ℕ → List ℕ
  lines count = flat_map (stream_gates d gates rows bridge) (take count rows)

  lines_more : (k : ℕ) (row : Row) → take (suc k) rows ≡ take k rows ++ row ∷ [] → lines (suc k) ≡ lines k ++ stream_gates d gates rows bridge row
  lines_more k row more =
      let gates = stream_gates d gates rows bridge in
      ap (flat_map gates) more ∙ flat_map-append gates (take k rows) (row ∷ []) ∙ ap (λ (z : List ℕ). lines k ++ z) (append-nil (gates row))

  module _ (Written : List ℕ → Type 0) where
    lines_same : (k : ℕ) (row : Row) → slice_get rows k ≡ Some row → take (suc k) rows ≡ take k rows ++ row ∷ [] → first_hop d bridge row ≡ None →
        Written (lines k) → Written (lines (suc k))
    lines_same k row there more none put =
        let silent : stream_gates d gates rows bridge row ≡ [] =
        ap (λ (found : Option Hop). option_map_or (λ (hop : Hop). stream_lines d bridge (stream_variable rows row) (gates row.no) row hop.from) found []) none in
        subst Written (sym (lines_more k row more ∙ ap (λ (z : List ℕ). lines k ++ z) silent ∙ append-nil (lines k))) put

    pub lines_none : (indices : List ℕ) → indices ≡ indices_at d rows bridge → Written [] →
        Written (flat_map (stream_gates d gates rows bridge) (take (get_or indices 0 (length rows)) rows))
    lines_none indices are put = to_next_index d bridge rows (λ k. Written (lines k)) indices 0 are lines_same (omega arith) put

    pub lines_next : (indices : List ℕ) (i : ℕ) (row : Row) → indices ≡ indices_at d rows bridge → i < length indices →
        take (get_or indices i 0 + 1) rows ≡ take (get_or indices i 0) rows ++ row ∷ [] →
        Written (flat_map (stream_gates d gates rows bridge) (take (get_or indices i 0) rows) ++ stream_gates d gates rows bridge row) →
        Written (flat_map (stream_gates d gates rows bridge) (take (get_or indices (i + 1) (length rows)) rows))
    lines_next indices i row are inside more put =
        let index = get_or indices i 0 in
        let next : take (suc index) rows ≡ take index rows ++ row ∷ [] = ap (λ (n : ℕ). take n rows) (sym (add-one index)) ∙ more in
        subst (λ (n : ℕ). Written (lines (get_or indices n (length rows)))) (sym (add-one i))
        (to_next_index d bridge rows (λ k. Written (lines k)) indices (suc i) are lines_same (omega (arith, inside)) (subst Written (sym (lines_more index row next)) put))

    pub lines_all : (indices : List ℕ) (i : ℕ) → length indices ≤ i →
        Written (flat_map (stream_gates d gates rows bridge) (take (get_or indices i (length rows)) rows)) → Written (flat_map (stream_gates d gates rows bridge) rows)
    lines_all indices i past put =
        let all : take (get_or indices i (length rows)) rows ≡ rows =
        ap (λ (n : ℕ). take n rows) (get_or_past indices i (length rows) past) ∙ take_all (length rows) rows (omega arith) in
        subst (λ (rs : List Row). Written (flat_map (stream_gates d gates rows bridge) rs)) all put
