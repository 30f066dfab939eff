-- Rows of a table if one of them is shortened, and values made from elements by index.
use Rattle.std.proofs.Common.{◌≡◌, ℕ, zero, suc, ◌<◌, ◌∷◌, ◌++◌, [], List, length, get_or, map, set, sym, ap, ◌∙◌, refl}
use Rattle.std.specs.Prelude.{Option, slice_get}
use Rattle.std.specs.Global.{Global}
use Rattle.std.specs.Option.{option_map_or}
use Rattle.std.specs.declared.vec.Vec.{Vec}
use Rattle.std.proofs.lemmas.List.{append-nil, append_assoc, length-map, length-set, map-append}
use Rattle.std.proofs.lemmas.Option.{slice_get-get_or}
use Rattle.cqf_lists.specs.ByNumber.{lists_of}
use Rattle.cqf_lists.proofs.Written.{slice_get-set_other, slice_get-set_same}
use Rattle.cqf_model.specs.declared.frames.Dropped.{Dropped}
use Rattle.cqf_trace.specs.declared.bridge_trace.BridgeTrace.{BridgeTrace}
use Rattle.cqf_trace.specs.declared.trace.Trace.{Trace}
use Rattle.cqf_trace.specs.BridgeTraces.{TakesLast, row_at}

-- the value made from the element at an index; the given default if there is none
pub made_at : {A B : Type 0} (f : A → B) (xs : List A) (k : ℕ) (none : B) → option_map_or f (slice_get xs k) none ≡ get_or (map f xs) k none
made_at f [] k none = refl
made_at f (x ∷ xs) zero none = refl
made_at f (x ∷ xs) (suc k) none = made_at f xs k none

-- a row inside the table
pub row_here : {X : Type 0} (rows : List (Vec X Global)) (index : ℕ) (d : Vec X Global) → index < length rows → row_at rows index ≡ (get_or rows index d).items
row_here {X} rows index d inside =
    ap (λ (o : Option (Vec X Global)). option_map_or (λ (row : Vec X Global). row.items) o []) (slice_get-get_or rows index d inside)

-- a row loses its last trace
pub taken_last : (before : List (Vec Trace Global)) (index bridge : ℕ) (old new : Vec Trace Global) (trace : Trace) → index ≡ bridge → index < length before →
    old ≡ get_or before index old → old.items ≡ new.items ++ trace ∷ [] → TakesLast bridge before (set before index new) trace
taken_last before index bridge old new trace is inside stands parts = record {
  many = length-set before index new;
  last =
      ap (row_at before) (sym is)
      ∙ row_here before index old inside
      ∙ ap (λ (row : Vec Trace Global). row.items) (sym stands)
      ∙ parts
      ∙ ap (λ (traces : List Trace). traces ++ trace ∷ [])
      (sym (ap (row_at (set before index new)) (sym is)
      ∙ ap (λ (o : Option (Vec Trace Global)). option_map_or (λ (row : Vec Trace Global). row.items) o []) (slice_get-set_same before index new inside)));
  others = λ other apart.
      ap (λ (o : Option (Vec Trace Global)). option_map_or (λ (row : Vec Trace Global). row.items) o [])
      (slice_get-set_other before index other new (λ same. apart (same ∙ is)));
}

-- a row with nothing to take
pub nothing_there : (rows : List (Vec Trace Global)) (index bridge : ℕ) (old : Vec Trace Global) → index ≡ bridge → index < length rows →
    old ≡ get_or rows index old → old.items ≡ [] → row_at rows bridge ≡ []
nothing_there rows index bridge old is inside stands none =
    ap (row_at rows) (sym is) ∙ row_here rows index old inside ∙ ap (λ (row : Vec Trace Global). row.items) (sym stands) ∙ none

-- ---- bridge traces that are taken apart, and those that remain

-- what is on bridge traces
abbrev pub traces_on : BridgeTrace → List Trace
traces_on bridge_trace = bridge_trace.traces.items

abbrev pub drops_on : BridgeTrace → List Dropped
drops_on bridge_trace = bridge_trace.drops.items

-- the rows so far, followed by what the remaining bridge traces give, are what all bridge traces give
pub record IsTakenUpTo {X : Type 0} (made : BridgeTrace → List X) (rows : List (Vec X Global)) (rest all : List BridgeTrace) : Type 0 where
  pub parts : lists_of rows ++ map made rest ≡ map made all

module _ {X : Type 0} (made : BridgeTrace → List X) where
  pub none_taken : (rows : List (Vec X Global)) (rest all : List BridgeTrace) → rows ≡ [] → rest ≡ all → IsTakenUpTo made rows rest all
  none_taken rows rest all none given = record { parts = ap (λ (vs : List (Vec X Global)). lists_of vs ++ map made rest) none ∙ ap (map made) given }

  -- one more row is that of the next bridge trace
  pub one_taken : (rows after : List (Vec X Global)) (row : Vec X Global) (bridge_trace : BridgeTrace) (rest left all : List BridgeTrace) → IsTakenUpTo made rows left all →
      left ≡ bridge_trace ∷ rest → after ≡ rows ++ row ∷ [] → row.items ≡ made bridge_trace → IsTakenUpTo made after rest all
  one_taken rows after row bridge_trace rest left all h next more is = record {
    parts =
        ap (λ (vs : List (Vec X Global)). lists_of vs ++ map made rest) more
        ∙ ap (λ (ls : List (List X)). ls ++ map made rest) (map-append (λ (v : Vec X Global). v.items) rows (row ∷ []))
        ∙ ap (λ (l : List X). (lists_of rows ++ l ∷ []) ++ map made rest) is
        ∙ append_assoc (lists_of rows) (made bridge_trace ∷ []) (map made rest)
        ∙ ap (λ (rs : List BridgeTrace). lists_of rows ++ map made rs) (sym next)
        ∙ h.parts;
  }

  -- in the end each bridge trace has its row
  pub all_taken : (rows : List (Vec X Global)) (rest all : List BridgeTrace) → IsTakenUpTo made rows rest all → rest ≡ [] → lists_of rows ≡ map made all
  all_taken rows rest all h none =
      sym (append-nil (lists_of rows)) ∙ ap (λ (rs : List BridgeTrace). lists_of rows ++ map made rs) (sym none) ∙ h.parts

  pub rows_taken : (rows : List (Vec X Global)) (rest all : List BridgeTrace) (bridge : ℕ) → IsTakenUpTo made rows rest all → rest ≡ [] →
      row_at rows bridge ≡ option_map_or made (slice_get all bridge) []
  rows_taken rows rest all bridge h none =
      made_at (λ (row : Vec X Global). row.items) rows bridge []
      ∙ ap (λ (ls : List (List X)). get_or ls bridge []) (all_taken rows rest all h none)
      ∙ sym (made_at made all bridge [])

  pub many_taken : (rows : List (Vec X Global)) (rest all : List BridgeTrace) → IsTakenUpTo made rows rest all → rest ≡ [] → length rows ≡ length all
  many_taken rows rest all h none =
      sym (length-map rows (λ (row : Vec X Global). row.items)) ∙ ap length (all_taken rows rest all h none) ∙ length-map all made
