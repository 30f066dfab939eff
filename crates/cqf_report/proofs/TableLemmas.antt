-- The rows of a table, one after the other.
use Rattle.std.proofs.Common.{◌≡◌, ◌≤◌, ◌<◌, ◌+◌, ℕ, true, false, List, [], ◌∷◌, ◌++◌, Option, Some, None, Result, Ok, Err, IfErr, IfOk, IsErrAnd, subst}
use Rattle.std.proofs.Common.{nat_lt, length, refl, sym, ap, ◌∙◌, rules}
use Rattle.std.proofs.lemmas.List.{append-nil}
use Rattle.std.specs.Str.{bytes_eq}
use lib.Pointwise.{pointwise_long}
use Rattle.csv.specs.declared.reader.Reader.{Reader}
use Rattle.cqf_report.specs.Records.{Fields, RefusesRow, StillGives, TakesRow}
use Rattle.cqf_report.specs.Table.{IsFaultOf, TakesHeader, TakesNext, has_header, is_header, rows_from, rows_under, with_row}
use Rattle.cqf_report.specs.declared.tables.TableFault.{TableFault}
use Rattle.cqf_report.specs.declared.tables.TableFault.TheVariants.{BadHeader, TooMany, BadRow, OutOfOrder}

-- a row that doesn't have the form of a row
pub rows_from-bad : {A : Type 0} (most : ℕ) (read : Fields → Option A) (instant : A → ℕ) (number before : ℕ) (fields : Fields) (rest : List Fields)
    → number ≤ most → read fields ≡ None → rows_from most read instant number before (fields ∷ rest) ≡ Err (BadRow number)
rows_from-bad most read instant number before fields rest few bad =
    let in_range : nat_lt most number ≡ false = search rules in
    rw (in_range, bad) refl

-- a row that is before the previous row
pub rows_from-back : {A : Type 0} (most : ℕ) (read : Fields → Option A) (instant : A → ℕ) (number before : ℕ) (fields : Fields) (rest : List Fields) (row : A)
    → number ≤ most → read fields ≡ Some row → instant row < before → rows_from most read instant number before (fields ∷ rest) ≡ Err (OutOfOrder number)
rows_from-back most read instant number before fields rest row few good back =
    let in_range : nat_lt most number ≡ false = search rules in
    let goes_back : nat_lt (instant row) before ≡ true = search rules in
    rw (in_range, good, goes_back) refl

-- a good row, and those after it
pub rows_from-good : {A : Type 0} (most : ℕ) (read : Fields → Option A) (instant : A → ℕ) (number before : ℕ) (fields : Fields) (rest : List Fields) (row : A)
    → number ≤ most → read fields ≡ Some row → before ≤ instant row
    → rows_from most read instant number before (fields ∷ rest) ≡ with_row row (rows_from most read instant (number + 1) (instant row) rest)
rows_from-good most read instant number before fields rest row few good in_order =
    let in_range : nat_lt most number ≡ false = search rules in
    let goes_on : nat_lt (instant row) before ≡ false = search rules in
    rw (in_range, good, goes_on) refl

-- one more row than a table may have
pub rows_from-too_many : {A : Type 0} (most : ℕ) (read : Fields → Option A) (instant : A → ℕ) (number before : ℕ) (fields : Fields) (rest : List Fields)
    → most < number → rows_from most read instant number before (fields ∷ rest) ≡ Err TooMany
rows_from-too_many most read instant number before fields rest many =
    let beyond : nat_lt most number ≡ true = search rules in
    rw beyond refl

-- the rows that were taken, followed by the others
abbrev pub following : {A : Type 0} → List A → Result (List A) TableFault → Result (List A) TableFault
following [] others = others
following (row ∷ rows) others = with_row row (following rows others)

-- one more row before what is read
pub following-more : {A : Type 0} (rows : List A) (row : A) (others : Result (List A) TableFault) →
    following (rows ++ row ∷ []) others ≡ following rows (with_row row others)
following-more [] row others = refl
following-more (first ∷ rows) row others = ap (λ r. with_row first r) (following-more rows row others)

-- rows followed by rows
pub following-ok : {A : Type 0} (rows others : List A) → following rows (Ok others) ≡ Ok (rows ++ others)
following-ok [] others = refl
following-ok (first ∷ rows) others = ap (λ r. with_row first r) (following-ok rows others)

-- a fault after rows is the fault
pub following-err : {A : Type 0} (rows : List A) (fault : TableFault) → following rows (Err fault) ≡ Err fault
following-err [] fault = refl
following-err (first ∷ rows) fault = ap (λ r. with_row first r) (following-err rows fault)

-- a row that was taken and writes nothing is the first fault
pub next-bad : {A R : Type 0} (most : ℕ) (columns : ℕ) (read : Fields → Option A) (instant : A → ℕ) (remaining : R → Option (List ℕ)) (number before : ℕ) (fields : Fields)
    (rows : List Fields) (after : Reader R)
    → number ≤ most → TakesRow remaining (Some columns) after fields rows → read fields ≡ None →
    rows_from most read instant number before rows ≡ Err (BadRow number)
next-bad most columns read instant remaining number before fields rows after few takes bad =
    rw takes.first (rows_from-bad most read instant number before fields takes.rest few bad)

-- a row of another number of fields is the first fault
pub next-refused : {A : Type 0} (most : ℕ) (columns : ℕ) (read : Fields → Option A) (instant : A → ℕ) (number before : ℕ) (rows : List Fields)
    → number ≤ most → RefusesRow (Some columns) rows → ((fields : Fields) → (columns ≡ length fields → ⊥) → read fields ≡ None) →
    rows_from most read instant number before rows ≡ Err (BadRow number)
next-refused most columns read instant number before rows few refuses other =
    let count : columns ≡ refuses.count = some-inj columns refuses.count refuses.expects in
    rw refuses.first (rows_from-bad most read instant number before refuses.fields refuses.rest few (other refuses.fields (λ e. refuses.other (sym count ∙ e))))
  where
    -- `Some` is injective
    some-inj : (a b : ℕ) → ◌≡◌ {A = Option ℕ} (Some a) (Some b) → a ≡ b
    some-inj a b e = cc

-- a row that was taken and is before the previous row is the first fault
pub next-back : {A R : Type 0} (most : ℕ) (columns : ℕ) (read : Fields → Option A) (instant : A → ℕ) (remaining : R → Option (List ℕ)) (number before : ℕ)
    (fields : Fields) (rows : List Fields) (after : Reader R) (row : A)
    → number ≤ most → TakesRow remaining (Some columns) after fields rows → read fields ≡ Some row → instant row < before →
    rows_from most read instant number before rows ≡ Err (OutOfOrder number)
next-back most columns read instant remaining number before fields rows after row few takes good back =
    rw takes.first (rows_from-back most read instant number before fields takes.rest row few good back)

-- a good row that was taken
pub next-good : {A R : Type 0} (most : ℕ) (columns : ℕ) (read : Fields → Option A) (instant : A → ℕ) (remaining : R → Option (List ℕ)) (number before : ℕ)
    (fields : Fields) (rows : List Fields) (after : Reader R) (row : A)
    → number ≤ most → TakesRow remaining (Some columns) after fields rows → read fields ≡ Some row → before ≤ instant row
    → (rest : List Fields) × StillGives remaining (Some columns) after rest
    × (rows_from most read instant number before rows ≡ with_row row (rows_from most read instant (number + 1) (instant row) rest))
next-good most columns read instant remaining number before fields rows after row few takes good in_order =
    let as_many : columns ≡ length fields = takes.fits in
    (takes.rest, rw (← as_many) at takes.goes_on, rw takes.first (rows_from-good most read instant number before fields takes.rest row few good in_order))

-- these rows were taken, those before the row with this number, and the reader still returns the others
abbrev pub Taken : {A R : Type 0} → ℕ → ℕ → (Fields → Option A) → (A → ℕ) → (R → Option (List ℕ)) → Reader R → ℕ → ℕ → List A → Reader R → Type 0
Taken most columns read instant remaining first number before taken after = (rows : List Fields) → StillGives remaining (Some columns) first rows
    → (rest : List Fields) × StillGives remaining (Some columns) after rest
    × (rows_from most read instant 1 0 rows ≡ following taken (rows_from most read instant number before rest))

-- if the reader returns no further row, the table has the rows that were taken
pub taken-end : {A R : Type 0} (most : ℕ) (columns : ℕ) (read : Fields → Option A) (instant : A → ℕ) (remaining : R → Option (List ℕ)) (first : Reader R)
    (number before : ℕ) (taken : List A) (after : Reader R)
    → Taken most columns read instant remaining first number before taken after → ((rest : List Fields) → StillGives remaining (Some columns) after rest → rest ≡ [])
    → (rows : List Fields) → StillGives remaining (Some columns) first rows → rows_from most read instant 1 0 rows ≡ Ok taken
taken-end most columns read instant remaining first number before taken after so_far none rows gives =
    let (rest, still, is) = so_far rows gives in
    let ended : rows_from most read instant number before rest ≡ Ok [] = rw (none rest still) refl in
    is ∙ ap (following taken) ended ∙ following-ok taken [] ∙ ap Ok (append-nil taken)

-- if the next row has a fault, it is the table's fault
pub taken-fault : {A R : Type 0} (most : ℕ) (columns : ℕ) (read : Fields → Option A) (instant : A → ℕ) (remaining : R → Option (List ℕ)) (first : Reader R)
    (number before : ℕ) (taken : List A) (after : Reader R) (fault : TableFault)
    → Taken most columns read instant remaining first number before taken after →
    ((rest : List Fields) → StillGives remaining (Some columns) after rest → rows_from most read instant number before rest ≡ Err fault)
    → (rows : List Fields) → StillGives remaining (Some columns) first rows → rows_from most read instant 1 0 rows ≡ Err fault
taken-fault most columns read instant remaining first number before taken after fault so_far bad rows gives =
    let (rest, still, is) = so_far rows gives in
    is ∙ ap (following taken) (bad rest still) ∙ following-err taken fault

-- one more row was taken
pub taken-more : {A R : Type 0} (most : ℕ) (columns : ℕ) (read : Fields → Option A) (instant : A → ℕ) (remaining : R → Option (List ℕ)) (first : Reader R)
    (number before : ℕ) (taken : List A) (after next : Reader R) (row : A)
    → Taken most columns read instant remaining first number before taken after →
    ((rest : List Fields) → StillGives remaining (Some columns) after rest →
    TakesNext most columns read instant remaining number before rest next (Ok (Some row)))
    → Taken most columns read instant remaining first (number + 1) (instant row) (taken ++ row ∷ []) next
taken-more most columns read instant remaining first number before taken after next row so_far goes rows gives =
    let (rest, still, is) = so_far rows gives in
    let (more, on, follows) = goes rest still in
    (more, on, is ∙ ap (following taken) follows ∙ sym (following-more taken row (rows_from most read instant (number + 1) (instant row) more)))

-- a row beyond the most that a table may have
pub next-beyond : {A : Type 0} (most : ℕ) (read : Fields → Option A) (instant : A → ℕ) (number before : ℕ) (fields : Fields) (rest rows : List Fields)
    → most < number → rows ≡ fields ∷ rest → rows_from most read instant number before rows ≡ Err TooMany
next-beyond most read instant number before fields rest rows many is = rw is (rows_from-too_many most read instant number before fields rest many)

-- an error that is passed on
pub passed-on : {V : Type 0} (result : Result V TableFault) (fault : TableFault) (P : TableFault → Type 0) → IsErrAnd result (λ e. e ≡ fault) → P fault →
    IfErr result P
passed-on (Ok v) fault P passed h = absurd passed
passed-on (Err e) fault P passed h = subst P (sym passed) h

-- a record with the header's fields is the header
pub header-taken : {R : Type 0} (remaining : R → Option (List ℕ)) (names fields : Fields) (rows : List Fields) (after : Reader R)
    → TakesRow remaining None after fields rows → is_header names fields ≡ true → TakesHeader remaining names rows after
header-taken remaining names fields rows after takes named =
    let as_many : length names ≡ length fields = pointwise_long bytes_eq names fields named in
    record { first = fields; rest = takes.rest; begins = takes.first; named = named; goes_on = rw (← as_many) at takes.goes_on }

-- rows that begin with another record have no header
pub header-other : {R : Type 0} (remaining : R → Option (List ℕ)) (names fields : Fields) (rows : List Fields) (after : Reader R)
    → TakesRow remaining None after fields rows → is_header names fields ≡ false → has_header names rows ≡ false
header-other remaining names fields rows after takes other = rw takes.first other

-- a first record has no expected length
pub header-unrefused : (rows : List Fields) → RefusesRow None rows → ⊥
header-unrefused rows refuses = let e = refuses.expects in cc

-- the table's rows are those after its header
pub under-header : {A R : Type 0} (most : ℕ) (read : Fields → Option A) (instant : A → ℕ) (remaining : R → Option (List ℕ)) (names : Fields) (rows : List Fields)
    (after : Reader R) (begins : TakesHeader remaining names rows after)
    → rows_under most names read instant rows ≡ rows_from most read instant 1 0 begins.rest
under-header most read instant remaining names rows after begins = rw (begins.begins, begins.named) refl

-- a table without its header
pub without-header : {A : Type 0} (most : ℕ) (read : Fields → Option A) (instant : A → ℕ) (names : Fields) (rows : List Fields)
    → has_header names rows ≡ false → rows_under most names read instant rows ≡ Err BadHeader
without-header most read instant names [] none = refl
without-header most read instant names (first ∷ rows) none = rw none refl

-- a consequence of an error, from that of its cause
pub err-of : {V : Type 0} (result : Result V TableFault) (P Q : TableFault → Type 0) → IfErr result P → ((fault : TableFault) → P fault → Q fault) →
    IfErr result Q
err-of (Ok v) P Q h follows = tt
err-of (Err fault) P Q h follows = follows fault h

-- the same for a result that is `Ok`
pub ok-of : {V E : Type 0} (result : Result V E) (P Q : V → Type 0) → IfOk result P → ((v : V) → P v → Q v) → IfOk result Q
ok-of (Ok v) P Q h follows = follows v h
ok-of (Err fault) P Q h follows = tt

-- the table's rows, from the rows after its header
pub table-ok : {A V R : Type 0} (most : ℕ) (read : Fields → Option A) (instant : A → ℕ) (remaining : R → Option (List ℕ)) (items : V → List A) (names : Fields)
    (rows : List Fields) (after : Reader R) (result : Result V TableFault)
    → TakesHeader remaining names rows after
    → IfOk result (λ v. (rest : List Fields) → StillGives remaining (Some (length names)) after rest → rows_from most read instant 1 0 rest ≡ Ok (items v))
    → IfOk result (λ v. rows_under most names read instant rows ≡ Ok (items v))
table-ok most read instant remaining items names rows after result begins h =
    ok-of result _ (λ v. rows_under most names read instant rows ≡ Ok (items v)) h
    (λ v is. under-header most read instant remaining names rows after begins ∙ is begins.rest begins.goes_on)

-- the table's fault, from the fault of the rows after its header
pub table-err : {A V R : Type 0} (most : ℕ) (read : Fields → Option A) (instant : A → ℕ) (remaining : R → Option (List ℕ)) (names : Fields) (rows : List Fields)
    (after : Reader R) (result : Result V TableFault)
    → TakesHeader remaining names rows after
    → IfErr result (λ fault. (rest : List Fields) → StillGives remaining (Some (length names)) after rest → IsFaultOf (rows_from most read instant 1 0 rest) fault)
    → IfErr result (λ fault. IsFaultOf (rows_under most names read instant rows) fault)
table-err most read instant remaining names rows after result begins h =
    err-of result _ (λ fault. IsFaultOf (rows_under most names read instant rows) fault) h
    (λ fault is other. under-header most read instant remaining names rows after begins ∙ is begins.rest begins.goes_on other)
