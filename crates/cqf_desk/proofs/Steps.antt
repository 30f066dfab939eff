-- Calls made again, one by one.
use Rattle.std.proofs.Common.{◌≡◌, ℕ, ◌+◌, ◌-◌, ◌<◌, ◌≤◌, ◌==◌, Bool, List, Option, Some, [], ◌∷◌, ◌++◌, true, false}
use Rattle.std.proofs.Common.{map, length, take, get_or, refl, ap, sym, ◌∙◌, arith, length-append, subst, add-one}
use Rattle.std.proofs.Common.{if◌then◌else◌}
use Rattle.std.specs.Prelude.{IfSome, slice_get, option_map, suc, zero}
use Rattle.std.specs.List.{list_any}
use Rattle.std.specs.Option.{option_map_or}
use Rattle.std.proofs.lemmas.Bool.{and_parts}
use Rattle.std.proofs.lemmas.List.{append-nil, append_assoc, length-map, take_all, take_more}
use Rattle.std.proofs.lemmas.Option.{get_or_from_slice_get, slice_get-map, slice_get_within}
use Rattle.cqf_lists.specs.Lists.{each_below}
use Rattle.cqf_lists.proofs.Any.{none_member}
use Rattle.cqf_lists.proofs.EachBelow.{none_below}
use Rattle.cqf_lists.proofs.Members.{contains_at}
use Rattle.cqf_model.specs.Domain.{Domain}
use Rattle.cqf_model.specs.History.{Recorded, held_in, is_seal, seals, table_at}
use Rattle.cqf_admission.specs.declared.entries.Entry.{Entry}
use Rattle.cqf_admission.specs.Admission.{Administration, recorded_of}
use Rattle.cqf_admission.specs.Tables.{CycleTable}
use Rattle.cqf_desk.specs.Again.{FollowerGoesOn, FollowerHasGone, MovesOn, FollowerStepsTo, next_table}
use Rattle.cqf_desk.specs.Closing.{closed_by, is_seal_by, table_closed, tables_by}
use Rattle.cqf_model.specs.declared.history.Reply.TheVariants.{Sealed}
use Rattle.cqf_laws_history.specs.TableLaws.{ClosedTablesStay}
use Rattle.cqf_laws_history.specs.StateLaws.{SealClosesTable, SealsAreCounted}
use Rattle.cqf_desk.proofs.ClosedTables.{table_there}
use Rattle.cqf_desk.proofs.Rests.{parts_at, before, following, is_at, one_more, take-map}

-- an administration has continued with the first of these calls
pub record HasGoneOn (start again : Administration) (rest : List Entry) (k : ℕ) : Type 0 where
  pub domain : again.domain ≡ start.domain
  pub entries : again.entries ≡ start.entries ++ map recorded_of (take k rest)

-- it has made none yet
pub none_made : (start : Administration) (rest : List Entry) → HasGoneOn start start rest 0
none_made start rest = record { domain = refl; entries = sym (append-nil start.entries) }

-- it has made one more
pub one_made : (start again new : Administration) (rest : List Entry) (k : ℕ) (e : Entry) → HasGoneOn start again rest k → k < length rest →
    e ≡ get_or rest k e →
    FollowerGoesOn again new (recorded_of e) → HasGoneOn start new rest (k + 1)
one_made start again new rest k e gone inside is goes =
    record {
      domain = goes.domain ∙ gone.domain;
      entries = goes.entries ∙ ap (λ xs. xs ++ recorded_of e ∷ []) gone.entries
          ∙ append_assoc start.entries (map recorded_of (take k rest)) (recorded_of e ∷ [])
          ∙ ap (λ xs. start.entries ++ xs) (sym (one_more recorded_of rest k e inside is));
    }

-- the tables so far are those that the seat's Seals closed among the calls so far
pub record HasClosed (start again : Administration) (rest : List Entry) (number : ℕ) (tables : List CycleTable) (next k : ℕ) : Type 0 where
  pub gone : HasGoneOn start again rest k
  pub few : next ≤ length tables
  pub closed : take next tables ≡ each_below (λ i. closed_by start.domain (start.entries ++ map recorded_of rest) number (length start.entries + i)) k

-- none yet
pub none_closed : (start : Administration) (rest : List Entry) (number : ℕ) (tables : List CycleTable) → HasClosed start start rest number tables 0 0
none_closed start rest number tables = record { gone = none_made start rest; few = omega arith; closed = refl }

-- the entry at an index after the opening part
pub stands : (start : List Recorded) (rest : List Entry) (k : ℕ) (e : Entry) → k < length rest → e ≡ get_or rest k e →
    slice_get (start ++ map recorded_of rest) (length start + k) ≡ Some (recorded_of e)
stands start rest k e inside is =
    following start (map recorded_of rest) k ∙ slice_get-map recorded_of rest k ∙ ap (option_map recorded_of) (is_at rest k e inside is)

-- what the seat closes there
pub closes : (d : Domain) (entries : List Recorded) (number index : ℕ) (e : Recorded) (b : Bool) → slice_get entries index ≡ Some e → is_seal_by number e ≡ b →
    closed_by d entries number index ≡ (if b then table_closed d entries index ∷ [] else [])
closes d entries number index e b at is =
    ap (λ (o : Option Recorded). option_map_or (λ (r : Recorded). if is_seal_by number r then table_closed d entries index ∷ [] else []) o []) at
    ∙ ap (λ (t : Bool). if t then table_closed d entries index ∷ [] else []) is

-- one more index
pub one_index : (f : ℕ → List CycleTable) (k : ℕ) → each_below f (k + 1) ≡ each_below f k ++ f k
one_index f k = ap (each_below f) (add-one k)

-- there is an element at each index of a list
pub some_at : {X : Type 0} (xs : List X) (i : ℕ) → i < length xs → (x : X) × (slice_get xs i ≡ Some x)
some_at [] i inside = absurd (omega (arith, inside))
some_at (x ∷ xs) zero inside = (x, refl)
some_at (x ∷ xs) (suc i) inside = some_at xs i (omega (arith, inside))

-- a call that isn't a Seal of the seat
pub closes_nothing : (start again new : Administration) (rest : List Entry) (number : ℕ) (tables : List CycleTable) (next k : ℕ) (e : Entry) →
    HasClosed start again rest number tables next k → k < length rest → e ≡ get_or rest k e → FollowerGoesOn again new (recorded_of e) →
    is_seal_by number (recorded_of e) ≡ false → HasClosed start new rest number tables next (k + 1)
closes_nothing start again new rest number tables next k e has inside is goes none =
    let all = start.entries ++ map recorded_of rest in
    let no_table : closed_by start.domain all number (length start.entries + k) ≡ [] =
    closes start.domain all number (length start.entries + k) (recorded_of e) false (stands start.entries rest k e inside is) none in
    record {
      gone = one_made start again new rest k e has.gone inside is goes;
      few = has.few;
      closed = has.closed
          ∙ sym (one_index (λ i. closed_by start.domain all number (length start.entries + i)) k
          ∙ ap (λ ts. each_below (λ i. closed_by start.domain all number (length start.entries + i)) k ++ ts) no_table
          ∙ append-nil (each_below (λ i. closed_by start.domain all number (length start.entries + i)) k));
    }

-- the history so far is the first part of the whole one
pub so_far : (start again : Administration) (rest : List Entry) (k : ℕ) → HasGoneOn start again rest k →
    take (length start.entries + k) (start.entries ++ map recorded_of rest) ≡ again.entries
so_far start again rest k gone =
    before start.entries (map recorded_of rest) k ∙ ap (λ xs. start.entries ++ xs) (take-map recorded_of rest k) ∙ sym gone.entries

-- the table that the seat closes by a Seal there
pub closes_there : ClosedTablesStay → SealsAreCounted → SealClosesTable → (start again : Administration) (rest : List Entry) (number k : ℕ) (e : Entry) →
    HasGoneOn start again rest k → k < length rest → e ≡ get_or rest k e → is_seal_by number (recorded_of e) ≡ true → e.reply ≡ Sealed →
    closed_by start.domain (start.entries ++ map recorded_of rest) number (length start.entries + k) ≡ next_table again ∷ []
closes_there stay counted closing start again rest number k e gone inside is its sealed =
    let all = start.entries ++ map recorded_of rest in
    let parts = parts_at all (length start.entries + k) (recorded_of e) (stands start.entries rest k e inside is) in
    let front = take (length start.entries + k) all in
    let its_rows : table_at start.domain all (seals front) ≡ held_in start.domain front (seals front) =
    ap (λ (es : List Recorded). table_at start.domain es (seals front)) parts.1
    ∙ table_there stay counted closing start.domain front parts.0 (recorded_of e) (and_parts (e.seat == number) (is_seal (recorded_of e).act) its).1 sealed in
    let the_table : table_closed start.domain all (length start.entries + k) ≡ next_table again =
    (λ i. record { cycle = seals front; rows = its_rows i })
    ∙ ap (λ (es : List Recorded). next_table (record { domain = start.domain; entries = es })) (so_far start again rest k gone)
    ∙ ap (λ (d : Domain). next_table (record { domain = d; entries = again.entries })) (sym gone.domain) in
    closes start.domain all number (length start.entries + k) (recorded_of e) true (stands start.entries rest k e inside is) its
    ∙ ap (λ t. t ∷ []) the_table

-- a Seal of the seat
pub closes_its_table : ClosedTablesStay → SealsAreCounted → SealClosesTable → (start again new : Administration) (rest : List Entry)
    (number : ℕ) (tables : List CycleTable) (next k : ℕ) (e : Entry) (table : CycleTable) →
    HasClosed start again rest number tables next k → k < length rest → e ≡ get_or rest k e → FollowerGoesOn again new (recorded_of e) →
    is_seal_by number (recorded_of e) ≡ true → e.reply ≡ Sealed → next < length tables → table ≡ get_or tables next table → table ≡ next_table again →
    HasClosed start new rest number tables (next + 1) (k + 1)
closes_its_table stay counted closing start again new rest number tables next k e table has inside is goes its sealed there own next_is =
    let all = start.entries ++ map recorded_of rest in
    let one_table : closed_by start.domain all number (length start.entries + k) ≡ table ∷ [] =
    closes_there stay counted closing start again rest number k e has.gone inside is its sealed ∙ ap (λ t. t ∷ []) (sym next_is) in
    record {
      gone = one_made start again new rest k e has.gone inside is goes;
      few = omega (arith, there);
      closed = take_more tables next table there ∙ ap (λ t. take next tables ++ t ∷ []) (sym own)
          ∙ ap (λ ts. ts ++ table ∷ []) has.closed
          ∙ sym (one_index (λ i. closed_by start.domain all number (length start.entries + i)) k
          ∙ ap (λ ts. each_below (λ i. closed_by start.domain all number (length start.entries + i)) k ++ ts) one_table);
    }

-- one step
pub steps_on : ClosedTablesStay → SealsAreCounted → SealClosesTable → (start again new : Administration) (rest : List Entry) (number : ℕ)
    (tables : List CycleTable) (next after k : ℕ) (e : Entry) →
    HasClosed start again rest number tables next k → k < length rest → e ≡ get_or rest k e → FollowerStepsTo again new (recorded_of e)
    number tables next after →
    HasClosed start new rest number tables after (k + 1)
steps_on stay counted closing start again new rest number tables next after k e has inside is steps =
    by_seal (is_seal_by number (recorded_of e)) refl steps.moves
  where
    -- by whether it is a Seal of the seat
    by_seal : (b : Bool) → is_seal_by number (recorded_of e) ≡ b → MovesOn b tables next after (next_table again) →
        HasClosed start new rest number tables after (k + 1)
    by_seal true its moves =
        let there = slice_get_within tables next (next_table again) moves.0 in
        let own : next_table again ≡ get_or tables next (next_table again) =
        sym (get_or_from_slice_get tables next (next_table again) (next_table again) moves.0) in
        subst (λ n. HasClosed start new rest number tables n (k + 1)) (sym moves.1)
        (closes_its_table stay counted closing start again new rest number tables next k e (next_table again) has inside is steps.goes its
        (steps.sealed (and_parts (e.seat == number) (is_seal (recorded_of e).act) its).1) there own refl)
    by_seal false none moves =
        subst (λ n. HasClosed start new rest number tables n (k + 1)) (sym moves)
        (closes_nothing start again new rest number tables next k e has inside is steps.goes none)

-- the number of calls after the opening part
pub rest_length : (start : List Recorded) (rest : List Entry) → length (start ++ map recorded_of rest) - length start ≡ length rest
rest_length start rest =
    let both = length-append start (map recorded_of rest) in
    let same = length-map rest recorded_of in
    omega (arith, both, same)

-- all tables
pub closes_all : (start again : Administration) (rest : List Entry) (number : ℕ) (tables : List CycleTable) (next k : ℕ) →
    HasClosed start again rest number tables next k → length rest ≡ k → length tables ≡ next →
    tables ≡ tables_by start.domain (start.entries ++ map recorded_of rest) (length start.entries) number
closes_all start again rest number tables next k has through all =
    sym (take_all next tables (omega (arith, all))) ∙ has.closed
    ∙ ap (each_below (λ i. closed_by start.domain (start.entries ++ map recorded_of rest) number (length start.entries + i)))
    (sym through ∙ sym (rest_length start.entries rest))

-- all calls
pub goes_through : (start again : Administration) (rest : List Entry) (number : ℕ) (tables : List CycleTable) (next k : ℕ) →
    HasClosed start again rest number tables next k → length rest ≤ k → FollowerHasGone start again (map recorded_of rest)
goes_through start again rest number tables next k has through = record {
  domain = has.gone.domain;
  entries = has.gone.entries ∙ ap (λ xs. start.entries ++ map recorded_of xs) (take_all k rest through);
}

-- a seat that seals nothing closes no table
pub closes_none : (start : Administration) (rest : List Entry) (number : ℕ) → list_any (λ e. is_seal_by number (recorded_of e)) rest ≡ false →
    tables_by start.domain (start.entries ++ map recorded_of rest) (length start.entries) number ≡ []
closes_none start rest number none =
    none_below (λ i. closed_by start.domain (start.entries ++ map recorded_of rest) number (length start.entries + i))
    (length (start.entries ++ map recorded_of rest) - length start.entries)
    (λ i inside. nothing_at i (omega (arith, inside, rest_length start.entries rest)))
  where
    -- no table at any index
    nothing_at : (i : ℕ) → i < length rest → closed_by start.domain (start.entries ++ map recorded_of rest) number (length start.entries + i) ≡ []
    nothing_at i inside =
        let there = some_at rest i inside in
        closes start.domain (start.entries ++ map recorded_of rest) number (length start.entries + i) (recorded_of there.0) false
        (following start.entries (map recorded_of rest) i ∙ slice_get-map recorded_of rest i ∙ ap (option_map recorded_of) there.1)
        (none_member (λ (e : Entry). is_seal_by number (recorded_of e)) rest there.0 none (contains_at rest i there.0 there.1))

-- a property of an option's value
pub some_of : {X : Type 0} (P : X → Type 0) (o : Option X) (x : X) → o ≡ Some x → IfSome o P → P x
some_of P o x is holds = subst (λ p. IfSome p P) is holds
