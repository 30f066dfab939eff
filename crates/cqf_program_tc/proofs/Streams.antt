-- The streams of a bridge, one more at each step, and what is noted of the ingresses by which they arrive.
use Rattle.std.proofs.Common.{ℕ, ◌≡◌, ◌<◌, ◌+◌, ◌++◌, ◌==◌, ◌∙◌, ◌||◌, Bool, true, false, not, List, [], ◌∷◌, Option}
use Rattle.std.proofs.Common.{Some, None, add-one, ap, arith, cond, eq-eqb, get_or, inl, inr, length, refl, set, subst}
use Rattle.std.proofs.Common.{sym, take}
use Rattle.std.specs.Prelude.{replicate, slice_get}
use Rattle.std.specs.List.{list_any}
use Rattle.std.specs.Option.{option_map_or}
use Rattle.std.proofs.lemmas.List.{get_or-replicate, get_or-set_other, get_or-set_same, length-replicate, length-set, take_more}
use Rattle.std.proofs.lemmas.Bool.Decides.{eqb_tells}
use Rattle.std.proofs.lemmas.List.Folds.{list_any-append}
use Rattle.std.proofs.lemmas.Option.{slice_get_read}
use Rattle.cqf_lists.specs.Lists.{each_below}
use Rattle.cqf_model.specs.declared.topology.Hop.{Hop}
use Rattle.cqf_model.specs.declared.topology.Row.{Row}
use Rattle.cqf_model.specs.Domain.{Domain}
use Rattle.cqf_model.specs.Table.{same_ingress}
use Rattle.cqf_program_tc.specs.Bridge.{comes_by, is_new, stream_at}
use Rattle.cqf_compile.specs.BridgeGates.{first_hop}
use Rattle.cqf_program_tc.specs.Ingresses.{IsSeenIngress, NotesIngress, is_unseen}

-- the row at an index of a loop, and the rows up to it
pub row_at : (rows : List Row) (k : ℕ) (row : Row) → k < length rows → row ≡ get_or rows k row →
    (slice_get rows k ≡ Some row) × (take (k + 1) rows ≡ take k rows ++ row ∷ [])
row_at rows k row inside is = (
  slice_get_read rows (length rows) k row refl inside is,
  take_more rows k row inside ∙ ap (λ (x : Row). take k rows ++ x ∷ []) (sym is),
)

-- one more text after those so far
pub stream_more : (text : List Row → Row → List ℕ) (rows : List Row) (k : ℕ) (row : Row) → slice_get rows k ≡ Some row →
    each_below (stream_at text rows) (k + 1) ≡ each_below (stream_at text rows) k ++ text (take k rows) row
stream_more text rows k row there =
    ap (each_below (stream_at text rows)) (add-one k)
    ∙ ap (λ (found : Option Row). each_below (stream_at text rows) k ++ option_map_or (text (take k rows)) found []) there

-- nothing is noted before the first stream
pub seen_none : (d : Domain) (bridge : ℕ) → IsSeenIngress d bridge [] (replicate 65536 false)
seen_none d bridge = record { size = length-replicate {A = Bool} 65536 false; each = λ link low. get_or-replicate {A = Bool} 65536 link false false low }

unequal : (b : Bool) → b ≡ true → b ≡ false → ⊥
unequal true one other = cc
unequal false one other = cc

-- a stream that arrives from its talker notes nothing; one that arrives over a link notes only that link
pub notes_none : (seen : List Bool) → NotesIngress seen None seen
notes_none seen = record { size = refl; each = λ link low. refl }

pub notes_some : (seen : List Bool) (link : ℕ) → link < length seen → NotesIngress seen (Some link) (set seen link true)
notes_some seen link inside = record {
  size = length-set seen link true;
  each = λ other low. elim (eqb_tells link other) [
    | inl same ↦
        subst (λ (n : ℕ). get_or (set seen link true) n false ≡ cond (link == n) true (get_or seen n false)) same.1
        (get_or-set_same seen link true false inside ∙ ap (λ (b : Bool). cond b true (get_or seen link false)) (sym (eq-eqb link link refl)))
    | inr different ↦
        get_or-set_other seen link other true false (λ e. absurd (unequal (link == other) (eq-eqb link other (sym e)) different.0))
        ∙ ap (λ (b : Bool). cond b true (get_or seen other false)) (sym different.0)
  ];
}

joined : (same any : Bool) → cond same true any ≡ (any || (same || false))
joined true true = refl
joined true false = refl
joined false true = refl
joined false false = refl

left_out : (any : Bool) → any ≡ (any || (false || false))
left_out true = refl
left_out false = refl

module _ (d : Domain) (bridge : ℕ) (before : List Row) (row : Row) (seen : List Bool) (now : IsSeenIngress d bridge before seen) where
  -- a stream that leaves the bridge is noted
  pub seen_more : (hop : Hop) (after : List Bool) → first_hop d bridge row ≡ Some hop → NotesIngress seen hop.from after →
      IsSeenIngress d bridge (before ++ row ∷ []) after
  seen_more hop after there notes = record {
    size = notes.size ∙ now.size;
    each = λ link low.
        let p = comes_by d bridge link in
        let comes : p row ≡ same_ingress hop.from (Some link) =
        ap (λ (found : Option Hop). option_map_or (λ (h : Hop). same_ingress h.from (Some link)) found false) there in
        notes.each link (omega (arith, low, now.size))
        ∙ ap (λ (x : Bool). cond (same_ingress hop.from (Some link)) true x) (now.each link low)
        ∙ joined (same_ingress hop.from (Some link)) (list_any p before)
        ∙ ap (λ (x : Bool). list_any p before || (x || false)) (sym comes)
        ∙ sym (list_any-append p before (row ∷ []));
  }

  -- a stream that doesn't leave it isn't noted
  pub seen_same : first_hop d bridge row ≡ None → IsSeenIngress d bridge (before ++ row ∷ []) seen
  seen_same there = record {
    size = now.size;
    each = λ link low.
        let p = comes_by d bridge link in
        let comes : p row ≡ false = ap (λ (found : Option Hop). option_map_or (λ (h : Hop). same_ingress h.from (Some link)) found false) there in
        now.each link low
        ∙ left_out (list_any p before)
        ∙ ap (λ (x : Bool). list_any p before || (x || false)) (sym comes)
        ∙ sym (list_any-append p before (row ∷ []));
  }

  -- an ingress is new if it isn't noted
  pub new_where_unseen : (ingress : Option ℕ) → ((link : ℕ) → ingress ≡ Some link → link < 65536) → is_unseen seen ingress ≡ is_new d bridge before ingress
  new_where_unseen None range = refl
  new_where_unseen (Some link) range = ap not (now.each link (range link refl))
