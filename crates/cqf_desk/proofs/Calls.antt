-- A seat's calls among all, one by one.
use Rattle.std.proofs.Common.{◌≡◌, ℕ, ◌+◌, ◌<◌, ◌≤◌, ◌==◌, List, Some, [], ◌∷◌, ◌++◌, map, length, take, get_or, refl, ap, sym, ◌∙◌, arith, if◌then◌else◌}
use Rattle.std.proofs.lemmas.Bool.{eq-eqb, ne_eqb}
use Rattle.std.specs.Prelude.{option_map, slice_get}
use Rattle.std.proofs.lemmas.List.{append-nil, length-map, length-take-le, map-append, take_all}
use Rattle.std.proofs.lemmas.Option.{same_Some, slice_get-map, slice_get_within}
use Rattle.cqf_lists.proofs.Indices.{slice_get_after}
use Rattle.std.proofs.lemmas.List.Elements.{filter-append}
use Rattle.cqf_model.specs.History.{Recorded}
use Rattle.cqf_model.specs.Calls.{calls_by}
use Rattle.cqf_admission.specs.declared.entries.Entry.{Entry}
use Rattle.cqf_admission.specs.Admission.{recorded_of}
use Rattle.cqf_desk.proofs.Rests.{is_at, one_more, parts_at}

-- the seat has read its own calls among the entries so far
pub record HasRead (number : ℕ) (calls rest : List Entry) (next k : ℕ) : Type 0 where
  pub few : next ≤ length calls
  pub same : map recorded_of (take next calls) ≡ calls_by number (map recorded_of (take k rest))

-- none yet
pub reads_none : (number : ℕ) (calls rest : List Entry) → HasRead number calls rest 0 0
reads_none number calls rest = record { few = omega arith; same = refl }

-- an entry of another seat
pub reads_other : (number : ℕ) (calls rest : List Entry) (next k : ℕ) (e : Entry) → HasRead number calls rest next k → k < length rest → e ≡ get_or rest k e →
    (e.seat ≡ number → ⊥) → HasRead number calls rest next (k + 1)
reads_other number calls rest next k e read inside is other =
    record {
      few = read.few;
      same = read.same
          ∙ sym (ap (calls_by number) (one_more recorded_of rest k e inside is)
          ∙ filter-append (λ (r : Recorded). r.seat == number) (map recorded_of (take k rest)) (recorded_of e ∷ [])
          ∙ ap (λ b. calls_by number (map recorded_of (take k rest)) ++ (if b then recorded_of e ∷ [] else [])) (ne_eqb e.seat number other)
          ∙ append-nil (calls_by number (map recorded_of (take k rest))));
    }

-- one of its own
pub reads_own : (number : ℕ) (calls rest : List Entry) (next k : ℕ) (e own : Entry) → HasRead number calls rest next k → k < length rest → e ≡ get_or rest k e →
    e.seat ≡ number → next < length calls → own ≡ get_or calls next own → recorded_of own ≡ recorded_of e → HasRead number calls rest (next + 1) (k + 1)
reads_own number calls rest next k e own read inside is its there own_is same =
    record {
      few = omega (arith, there);
      same = one_more recorded_of calls next own there own_is
          ∙ ap (λ r. map recorded_of (take next calls) ++ r ∷ []) same
          ∙ ap (λ xs. xs ++ recorded_of e ∷ []) read.same
          ∙ sym (ap (calls_by number) (one_more recorded_of rest k e inside is)
          ∙ filter-append (λ (r : Recorded). r.seat == number) (map recorded_of (take k rest)) (recorded_of e ∷ [])
          ∙ ap (λ b. calls_by number (map recorded_of (take k rest)) ++ (if b then recorded_of e ∷ [] else [])) (eq-eqb e.seat number its));
    }

-- all of them
pub reads_all : (number : ℕ) (calls rest : List Entry) (next k : ℕ) → HasRead number calls rest next k → length calls ≤ next → length rest ≤ k →
    map recorded_of calls ≡ calls_by number (map recorded_of rest)
reads_all number calls rest next k read all through =
    ap (map recorded_of) (sym (take_all next calls all)) ∙ read.same ∙ ap (λ xs. calls_by number (map recorded_of xs)) (take_all k rest through)

-- if the seat has exactly its calls, its next one is the next of its own among the entries
pub next_call : (number : ℕ) (calls rest : List Entry) (next k : ℕ) (e : Entry) → HasRead number calls rest next k → k < length rest → e ≡ get_or rest k e →
    e.seat ≡ number → map recorded_of calls ≡ calls_by number (map recorded_of rest) → slice_get (map recorded_of calls) next ≡ Some (recorded_of e)
next_call number calls rest next k e read inside is its all =
    let parts = parts_at rest k e (is_at rest k e inside is) in
    let front = calls_by number (map recorded_of (take k rest)) in
    let following = calls_by number (map recorded_of parts.0) in
    let whole : calls_by number (map recorded_of rest) ≡ front ++ recorded_of e ∷ following =
    ap (λ (es : List Entry). calls_by number (map recorded_of es)) parts.1
    ∙ ap (calls_by number) (map-append recorded_of (take k rest) (e ∷ parts.0))
    ∙ filter-append (λ (r : Recorded). r.seat == number) (map recorded_of (take k rest)) (recorded_of e ∷ map recorded_of parts.0)
    ∙ ap (λ b. front ++ (if b then recorded_of e ∷ following else following)) (eq-eqb e.seat number its) in
    let many : next ≡ length front =
    sym (length-take-le next calls read.few) ∙ sym (length-map (take next calls) recorded_of) ∙ ap length read.same in
    ap (λ (es : List Recorded). slice_get es next) (all ∙ whole) ∙ slice_get_after front (recorded_of e) following next many

-- so it has a next call
pub none_lacks : (number : ℕ) (calls rest : List Entry) (next k : ℕ) (e : Entry) → HasRead number calls rest next k → k < length rest → e ≡ get_or rest k e →
    e.seat ≡ number → length calls ≤ next → map recorded_of calls ≡ calls_by number (map recorded_of rest) → ⊥
none_lacks number calls rest next k e read inside is its few all =
    let there = slice_get_within (map recorded_of calls) next (recorded_of e) (next_call number calls rest next k e read inside is its all) in
    let many = length-map calls recorded_of in
    omega (arith, there, many, few)

-- and it is that one
pub same_there : (number : ℕ) (calls rest : List Entry) (next k : ℕ) (e own : Entry) → HasRead number calls rest next k → k < length rest →
    e ≡ get_or rest k e →
    e.seat ≡ number → next < length calls → own ≡ get_or calls next own → map recorded_of calls ≡ calls_by number (map recorded_of rest) →
    recorded_of own ≡ recorded_of e
same_there number calls rest next k e own read inside is its there own_is all =
    same_Some (recorded_of own) (recorded_of e)
    (sym (slice_get-map recorded_of calls next ∙ ap (option_map recorded_of) (is_at calls next own there own_is))
    ∙ next_call number calls rest next k e read inside is its all)

-- and it has no more calls
pub no_more : (number : ℕ) (calls rest : List Entry) (next k : ℕ) → HasRead number calls rest next k → length rest ≤ k →
    map recorded_of calls ≡ calls_by number (map recorded_of rest) → next ≡ length calls
no_more number calls rest next k read through all =
    let same : map recorded_of (take next calls) ≡ map recorded_of calls =
    read.same ∙ ap (λ xs. calls_by number (map recorded_of xs)) (take_all k rest through) ∙ sym all in
    sym (length-take-le next calls read.few) ∙ sym (length-map (take next calls) recorded_of) ∙ ap length same ∙ length-map calls recorded_of
