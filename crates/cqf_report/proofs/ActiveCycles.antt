-- The records that a reader still returns, one after the other.
use Rattle.std.proofs.Common.{◌≡◌, ◌≢◌, ◌≤◌, ◌<◌, ◌+◌, ◌==◌, ◌||◌, ℕ, zero, suc, Bool, true, false, List, [], ◌∷◌, ◌++◌, Option, Some, None, IfSome, option_map}
use Rattle.std.proofs.Common.{if◌then◌else◌, length, refl, sym, ap, subst, ◌∙◌, arith, inl, inr}
use Rattle.csv.specs.Machine.{Read, ends_at_end, field_after, fields_after, in_field, is_end, next_record, start_field, step}
use Rattle.csv.specs.Reading.{NextIs, Reached, ReadRecord, TookRecord, ReadsNext, default_config, expected_len, is_flexible, names_headers, reader_config}
use Rattle.csv.specs.Reading.{reader_headers, reader_state, reader_trim, records_from, strip_bom, source_of, pending_of, took_first}
use Rattle.csv.specs.declared.parser.Action.{Action}
use Rattle.csv.specs.declared.parser.State.{State}
use Rattle.csv.specs.declared.parser.State.TheVariants as st
use Rattle.csv.specs.declared.reader.Reader.{Reader}
use Rattle.csv.specs.declared.reader.Trim.TheVariants as trim
use Rattle.csv.proofs.ReadFacts.{rows-end, rows-more}
use Rattle.cqf_report.specs.Records.{Fields, RefusesRow, StillGives, TakesRow, records_of}

-- if a step ends a record, the machine is between two records
abbrev EndsBetween : State × Action → Type 0
EndsBetween x = is_end x.1 ≡ true → ends_at_end x.0 ≡ false

-- either of two steps that end between records
if-ends : (b : Bool) (x y : State × Action) → EndsBetween x → EndsBetween y → EndsBetween (if b then x else y)
if-ends true x y f g = f
if-ends false x y f g = g

-- after a record the reader is between records
after-between : (b : Bool) → ends_at_end (if b then st.AfterCr else st.StartRecord) ≡ false
after-between true = refl
after-between false = refl

-- a byte in a field
in_field-ends : (c : ℕ) → EndsBetween (in_field default_config c)
in_field-ends c = if-ends (c == 44) _ _ (λ e. cc) (if-ends ((c == 13) || (c == 10)) _ _ (λ e. after-between (c == 13)) (λ e. cc))

-- a byte at a field's start
start_field-ends : (c : ℕ) → EndsBetween (start_field default_config c)
start_field-ends c = if-ends (c == 34) _ _ (λ e. cc) (in_field-ends c)

-- a byte at a record's start
start_record-ends : (c : ℕ) → EndsBetween (step default_config st.StartRecord c)
start_record-ends c = if-ends ((c == 13) || (c == 10)) _ _ (λ e. cc) (start_field-ends c)

-- so each byte ends between records or continues the record
step-ends : (s : State) (c : ℕ) → EndsBetween (step default_config s c)
step-ends st.StartRecord c = start_record-ends c
step-ends st.StartField c = start_field-ends c
step-ends st.InField c = in_field-ends c
step-ends st.InQuoted c = if-ends (c == 34) _ _ (λ e. cc) (λ e. cc)
step-ends st.InEscape c = λ e. cc
step-ends st.AfterQuote c = if-ends (c == 34) _ _ (λ e. cc) (in_field-ends c)
step-ends st.InComment c = if-ends (c == 10) _ _ (λ e. cc) (λ e. cc)
step-ends st.AfterCr c = if-ends (c == 10) _ _ (λ e. cc) (start_record-ends c)

-- what a read leaves
abbrev tail_of : Option Read → List ℕ
tail_of None = []
tail_of (Some p) = p.2

-- a read leaves the machine between two records, with at most this number of bytes
record Leaves (most : ℕ) (p : Read) : Type 0 where
  between : ends_at_end p.1 ≡ false
  short : length p.2 ≤ most

-- equal reads leave the same
leaves-along : (most : ℕ) (q p : Read) → Some q ≡ Some p → Leaves most q → Leaves most p
leaves-along most q p e h = let same : q ≡ p = cc in subst (λ (r : Read). Leaves most r) same h

-- reading a record leaves fewer bytes
next-leaves : (s : State) (fields : Fields) (field xs : List ℕ) (p : Read) → next_record default_config s fields field xs ≡ Some p → Leaves (length xs) p
unfolding next_record
next-leaves s fields field [] p e = by (ends_at_end s) e
  where
    -- a record that ends with the text leaves no byte
    by : (b : Bool) → (if b then Some (fields ++ (field ∷ []), st.StartRecord, []) else None) ≡ Some p → Leaves 0 p
    by true e = leaves-along 0 _ p e (record { between = refl; short = omega arith })
    by false e = cc e
next-leaves s fields field (c ∷ rest) p e =
    by (is_end (step default_config s c).1) refl
    (λ k. next-leaves (step default_config s c).0 (fields_after (step default_config s c).1 fields field)
    (field_after (step default_config s c).1 c field) rest p k) e
  where
    -- a record leaves no more than there was, whether it ends with this byte or not
    by : (b : Bool) → is_end (step default_config s c).1 ≡ b
        → (next_record default_config (step default_config s c).0 (fields_after (step default_config s c).1 fields field)
        (field_after (step default_config s c).1 c field) rest ≡ Some p → Leaves (length rest) p)
        → (if b then Some (fields_after (step default_config s c).1 fields field, (step default_config s c).0, rest) else next_record default_config
        (step default_config s c).0 (fields_after (step default_config s c).1 fields field) (field_after (step default_config s c).1 c field) rest) ≡ Some p
        → Leaves (length (c ∷ rest)) p
    by true ends more e = leaves-along _ _ p e (record { between = step-ends s c ends; short = omega arith })
    by false ends more e = let h = more e in record { between = h.between; short = omega (arith, h.short) }

-- a record that begins between two records takes at least one byte
next-shorter : (s : State) (xs : List ℕ) (p : Read) → ends_at_end s ≡ false → next_record default_config s [] [] xs ≡ Some p → length p.2 < length xs
unfolding next_record
next-shorter s [] p between e = by (ends_at_end s) between e
  where
    -- between two records the end of the text ends no record
    by : (b : Bool) → b ≡ false → (if b then Some ([] ++ ([] ∷ []), st.StartRecord, []) else None) ≡ Some p → length p.2 < 0
    by true no-end e = cc
    by false no-end e = cc
next-shorter s (c ∷ rest) p between e =
    by (is_end (step default_config s c).1)
    (λ k. next-leaves (step default_config s c).0 (fields_after (step default_config s c).1 [] []) (field_after (step default_config s c).1 c []) rest p k) e
  where
    -- a record takes at least one byte, whether it ends with this one or not
    by : (b : Bool)
        → (next_record default_config (step default_config s c).0 (fields_after (step default_config s c).1 [] [])
        (field_after (step default_config s c).1 c []) rest ≡ Some p → Leaves (length rest) p)
        → (if b then Some (fields_after (step default_config s c).1 [] [], (step default_config s c).0, rest) else next_record default_config
        (step default_config s c).0 (fields_after (step default_config s c).1 [] []) (field_after (step default_config s c).1 c []) rest) ≡ Some p
        → length p.2 < length (c ∷ rest)
    by true more e = let same : rest ≡ p.2 = ap (λ (o : Option Read). tail_of o) e in omega (arith, ap length same)
    by false more e = let h = more e in omega (arith, h.short)

-- the records of a text, if there is a next one
record Goes (active_cycles : ℕ) (s : State) (xs : List ℕ) (p : Read) : Type 0 where
  left : ℕ
  enough : length p.2 < left
  between : ends_at_end p.1 ≡ false
  gives : records_from default_config active_cycles s xs ≡ p.0 ∷ records_from default_config left p.1 p.2

-- while there are turns left, the reader goes on
goes-on : (active_cycles : ℕ) (s : State) (xs : List ℕ) (p : Read) → length xs < active_cycles → ends_at_end s ≡ false → next_record default_config s [] [] xs ≡ Some p →
    Goes active_cycles s xs p
unfolding records_from
goes-on zero s xs p enough between e = absurd (omega arith)
goes-on (suc active_cycles) s xs p enough between e =
    let shorter = next-shorter s xs p between e in
    let leaves = next-leaves s [] [] xs p e in
    record { left = active_cycles; enough = omega (arith, shorter); between = leaves.between; gives = rw e refl }

-- if no record is left, it ends
goes-no-further : (active_cycles : ℕ) (s : State) (xs : List ℕ) → next_record default_config s [] [] xs ≡ None → records_from default_config active_cycles s xs ≡ []
unfolding records_from
goes-no-further zero s xs e = refl
goes-no-further (suc active_cycles) s xs e = rw e refl

-- the same records under other names
first-of : (rows : List Fields) (fields f : Fields) (left : ℕ) (s s2 : State) (xs ys : List ℕ) → rows ≡ f ∷ records_from default_config left s xs → fields ≡ f →
    s ≡ s2 → xs ≡ ys
    → rows ≡ fields ∷ records_from default_config left s2 ys
first-of rows fields f left s s2 xs ys is same state bytes = rw (same, ← state, ← bytes) is

-- an expected length that doesn't change
as-expected : (old new : Option ℕ) (count : ℕ) → IfSome old (λ n. new ≡ Some n) → new ≡ Some count → IfSome old (λ n. n ≡ count)
as-expected None new count same is = tt
as-expected (Some n) new count same is = let e : ◌≡◌ {A = Option ℕ} (Some n) (Some count) = sym same ∙ is in cc

-- a record that was read is the first of those that the reader returns
pub takes-row : {R : Type 0} (rem : R → Option (List ℕ)) (expected : Option ℕ) (old new : Reader R) (fields : Fields) (rows : List Fields)
    → StillGives rem expected old rows → ReadRecord rem old new true fields → took_first new ≡ true → is_flexible new ≡ is_flexible old
    → TakesRow rem expected new fields rows
unfolding Reached
takes-row rem expected old new fields rows gives read took flexible =
    let (z, source, reached) = rows-more rem old new fields default_config old.state gives.unread gives.unread [] gives.plain gives.source (refl, refl) read in
    let (p, is, same, at) = reached in
    let on = goes-on gives.active_cycles old.state gives.unread p gives.enough gives.between is in
    record {
      rest = records_from default_config on.left new.state z;
      first = first-of rows fields p.0 on.left p.1 new.state p.2 z (gives.gives ∙ on.gives) same at.0 at.1;
      fits = rw (← gives.expects) (as-expected old.expected new.expected (length fields) (read.5 refl gives.inflexible).0 (read.5 refl gives.inflexible).1);
      goes_on = record {
        ready = inl took;
        untrimmed = read.3 ∙ gives.untrimmed;
        plain = read.2 ∙ gives.plain;
        inflexible = flexible ∙ gives.inflexible;
        expects = (read.5 refl gives.inflexible).1;
        between = rw (← at.0) on.between;
        unread = z;
        source = source;
        active_cycles = on.left;
        enough = rw (← at.1) on.enough;
        gives = refl;
      };
    }

-- if there is none, the reader returns none
pub takes-none : {R : Type 0} (rem : R → Option (List ℕ)) (expected : Option ℕ) (old new : Reader R) (fields : Fields) (rows : List Fields)
    → StillGives rem expected old rows → ReadRecord rem old new false fields → rows ≡ []
takes-none rem expected old new fields rows gives read =
    gives.gives ∙ goes-no-further gives.active_cycles old.state gives.unread (rows-end rem old new fields default_config gives.unread gives.plain gives.source read)

-- what was read of known bytes is the next record
read-next : (s after : State) (xs : List ℕ) (left : Option (List ℕ)) (fields : Fields) → ReadsNext default_config s (Some xs) left true fields after
    → (p : Read) × (next_record default_config s [] [] xs ≡ Some p) × (fields ≡ p.0)
read-next s after xs None fields h = absurd h
read-next s after xs (Some ys) fields h = by (next_record default_config s [] [] xs) refl h
  where
    -- there is a next record, and it is the one that was read
    by : (o : Option Read) → next_record default_config s [] [] xs ≡ o → NextIs o true fields after ys → (p : Read) ×
        (next_record default_config s [] [] xs ≡ Some p) × (fields ≡ p.0)
    by None e h = cc
    by (Some p) e h = (p, e, h.1)

-- the records, given the fields of the first
first-row : (rows : List Fields) (fields : Fields) (p : Read) (all : List Fields) (left : ℕ) → rows ≡ all →
    all ≡ p.0 ∷ records_from default_config left p.1 p.2 → fields ≡ p.0
    → rows ≡ fields ∷ records_from default_config left p.1 p.2
first-row rows fields p all left e f same = e ∙ f ∙ rw same refl

-- a record that csv refuses for its length is the first of those that the reader returns
pub refuses-row : {R : Type 0} (rem : R → Option (List ℕ)) (expected : Option ℕ) (old new : Reader R) (rows : List Fields) (count len : ℕ)
    → StillGives rem expected old rows → expected_len old ≡ Some count → count ≢ len → (fields : Fields) → TookRecord rem old new fields → length fields ≡ len
    → RefusesRow expected rows
refuses-row rem expected old new rows count len gives expects other fields took same =
    let read : ReadsNext default_config old.state (Some gives.unread) (pending_of (rem new.rdr) new) true fields new.state =
    rw (gives.plain, gives.source) at took in
    let (p, is, first) = read-next old.state new.state gives.unread (pending_of (rem new.rdr) new) fields read in
    let on = goes-on gives.active_cycles old.state gives.unread p gives.enough gives.between is in
    record {
      fields = fields;
      rest = records_from default_config on.left p.1 p.2;
      first = first-row rows fields p _ on.left (gives.gives) on.gives first;
      count = count;
      expects = sym gives.expects ∙ expects;
      other = rw same other;
    }

-- a reader at the start of a text returns its records
pub opened : {R : Type 0} (remaining : R → Option (List ℕ)) (reader : Reader R) (source : R) (bytes : List ℕ)
    → reader_config reader ≡ default_config → names_headers reader ≡ false → reader_headers reader ≡ None → is_flexible reader ≡ false →
    reader_trim reader ≡ trim.None
    → expected_len reader ≡ None → reader_state reader ≡ st.StartRecord → source_of remaining reader ≡ option_map strip_bom (remaining source) →
    remaining source ≡ Some bytes
    → StillGives remaining None reader (records_of bytes)
opened remaining reader source bytes config unnamed headers flexible untrimmed expected state unread is = record {
  ready = inr (inr (unnamed, headers));
  untrimmed = untrimmed;
  plain = config;
  inflexible = flexible;
  expects = expected;
  between = rw state refl;
  unread = strip_bom bytes;
  source = unread ∙ ap (option_map strip_bom) is;
  active_cycles = length (strip_bom bytes) + 1;
  enough = omega arith;
  gives = rw state refl;
}
