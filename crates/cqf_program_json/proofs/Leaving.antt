-- The rows whose streams leave a bridge, by their indices.
use Rattle.std.proofs.Common.{ℕ, zero, suc, ◌≡◌, ◌<◌, ◌≤◌, ◌+◌, ◌++◌, ◌∙◌, Bool, true, false, List, [], ◌∷◌, Option, Some, None, Contains, inl, inr, ap, append-nil, arith}
use Rattle.std.proofs.Common.{add-one, cond, get_or, length, map, refl, subst, sym, take}
use Rattle.std.specs.Prelude.{filter, slice_get}
use Rattle.std.specs.Option.{option_map_or}
use Rattle.std.proofs.lemmas.List.{map-append, take_all, take_more}
use Rattle.std.proofs.lemmas.List.Elements.{Contains-get_or, filter-append}
use Rattle.std.proofs.lemmas.Option.{slice_get_cases, slice_get_read}
use Rattle.cqf_lists.specs.Lists.{each_below}
use Rattle.cqf_lists.proofs.Numbers.{kept_number}
use Rattle.cqf_model.specs.declared.topology.Row.{Row}
use Rattle.cqf_model.specs.Domain.{Domain}
use Rattle.cqf_program_tc.specs.Rows.{index_of_leaving, indices_at, indices_below, leaves_bridge}

-- the text of the row at an index
abbrev pub written_at : (Row → List ℕ) → List Row → ℕ → List ℕ
written_at text rows index = option_map_or text (slice_get rows index) []

-- the index of a stream that leaves the bridge is one of the rows'
pub index_inside : (d : Domain) (bridge : ℕ) (rows : List Row) (indices : List ℕ) (i : ℕ) → indices ≡ indices_at d rows bridge → i < length indices →
    get_or indices i 0 < length rows
index_inside d bridge rows indices i are inside =
    (kept_number (λ k. option_map_or (leaves_bridge d bridge) (slice_get rows k) false) (length rows) (get_or indices i 0)
    (subst (λ (l : List ℕ). Contains l (get_or indices i 0)) are (Contains-get_or indices i 0 inside))).0

-- the row there is the row that is read
pub written_of : (text : Row → List ℕ) (rows : List Row) (index : ℕ) (row : Row) → index < length rows → row ≡ get_or rows index row →
    written_at text rows index ≡ text row
written_of text rows index row inside is =
    ap (λ (found : Option Row). option_map_or text found []) (slice_get_read rows (length rows) index row refl inside is)

module _ (d : Domain) (bridge : ℕ) (rows : List Row) (text : Row → List ℕ) where
  -- at the indices below a number are the rows before it whose streams leave the bridge
  written_below : (k : ℕ) → k ≤ length rows →
      map (written_at text rows) (indices_below d rows bridge k) ≡ map text (filter (leaves_bridge d bridge) (take k rows))
  written_below zero within = refl
  written_below (suc k) within = elim ((slice_get_cases rows k).1) [
    | inl h ↦ here (written_below k (omega (arith, within))) h.0 h.2 h.3
    | inr past ↦ absurd (omega (arith, within, past.0))
  ]
    where
      here : map (written_at text rows) (indices_below d rows bridge k) ≡ map text (filter (leaves_bridge d bridge) (take k rows)) → (row : Row) → slice_get rows k ≡ Some row → get_or rows k row ≡ row →
          map (written_at text rows) (indices_below d rows bridge (suc k)) ≡ map text (filter (leaves_bridge d bridge) (take (suc k) rows))
      here before row there is =
          let one : take (suc k) rows ≡ take k rows ++ row ∷ [] =
          ap (λ (n : ℕ). take n rows) (sym (add-one k)) ∙ take_more rows k row (omega (arith, within)) ∙ ap (λ (x : Row). take k rows ++ x ∷ []) is in
          map-append (written_at text rows) (indices_below d rows bridge k) (index_of_leaving d rows bridge k)
          ∙ ap (λ (z : List (List ℕ)). z ++ map (written_at text rows) (index_of_leaving d rows bridge k)) before
          ∙ ap (λ (z : List (List ℕ)). map text (filter (leaves_bridge d bridge) (take k rows)) ++ z)
          (ap (λ (found : Option Row). map (written_at text rows) (cond (option_map_or (leaves_bridge d bridge) found false) (k ∷ []) [])) there
          ∙ by (leaves_bridge d bridge row) (ap (λ (found : Option Row). option_map_or text found []) there))
          ∙ sym (map-append text (filter (leaves_bridge d bridge) (take k rows)) (cond (leaves_bridge d bridge row) (row ∷ []) []))
          ∙ ap (map text) (sym (filter-append (leaves_bridge d bridge) (take k rows) (row ∷ [])))
          ∙ ap (λ (z : List Row). map text (filter (leaves_bridge d bridge) z)) (sym one)
        where
          by : (b : Bool) → written_at text rows k ≡ text row → map (written_at text rows) (cond b (k ∷ []) []) ≡ map text (cond b (row ∷ []) [])
          by true e = ap (λ (z : List ℕ). z ∷ []) e
          by false e = refl

  -- and so at all of the bridge's indices
  pub written_all : map (written_at text rows) (indices_at d rows bridge) ≡ map text (filter (leaves_bridge d bridge) rows)
  written_all = written_below (length rows) (omega arith) ∙ ap (λ (z : List Row). map text (filter (leaves_bridge d bridge) z)) (take_all (length rows) rows (omega arith))
