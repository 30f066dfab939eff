-- The tables that a seat closes in a history that continues.
use Rattle.std.proofs.Common.{◌≡◌, ℕ, ◌+◌, ◌-◌, ◌<◌, ◌≤◌, ◌==◌, Bool, List, Some, [], ◌∷◌, ◌++◌, true, false, map}
use Rattle.std.proofs.Common.{length, take, drop, refl, ap, sym, ◌∙◌, arith, length-append, subst}
use Rattle.std.specs.Prelude.{slice_get}
use Rattle.std.specs.List.{list_any}
use Rattle.std.proofs.lemmas.Bool.{and_parts, or_parts}
use Rattle.std.proofs.lemmas.List.{append-nil, append_assoc, length-map, map-append, take-append-drop, take-append-le}
use Rattle.cqf_lists.specs.Lists.{each_below}
use Rattle.cqf_lists.proofs.Any.{list_any-map}
use Rattle.cqf_lists.proofs.EachBelow.{same_below}
use Rattle.cqf_lists.proofs.Indices.{slice_get_after, slice_get_front}
use Rattle.cqf_model.specs.declared.history.Reply.TheVariants.{Sealed}
use Rattle.cqf_model.specs.Domain.{Domain}
use Rattle.cqf_model.specs.History.{Recorded, Seals, is_seal, seals, table_at}
use Rattle.cqf_admission.specs.declared.entries.Entry.{Entry}
use Rattle.cqf_admission.specs.Admission.{Administration, recorded_of}
use Rattle.cqf_admission.specs.Tables.{CycleTable}
use Rattle.cqf_laws_history.specs.TableLaws.{ClosedTablesStay}
use Rattle.cqf_laws_history.specs.StateLaws.{SealClosesTable, SealsAreCounted}
use Rattle.cqf_desk.specs.Again.{FollowerGoesOn, FollowerHasGone, next_table}
use Rattle.cqf_desk.specs.Closing.{closed_by, is_seal_by, table_closed, tables_by}
use Rattle.cqf_desk.specs.declared.following.Follower.{Follower}
use Rattle.cqf_desk.specs.Following.{AddsTable, HasFollowed, HasTables, IsUpToSeal, KeepsTables}
use Rattle.cqf_desk.proofs.ClosedTables.{is_the_seal, stays, table_there}
use Rattle.cqf_desk.proofs.Rests.{front_is, parts_at}
use Rattle.cqf_desk.proofs.Steps.{closes, one_index, some_at}

-- more entries don't have fewer Seals
pub not_fewer : SealsAreCounted → (es more : List Recorded) → seals es ≤ seals (es ++ more)
not_fewer counted es [] =
    let same : seals (es ++ []) ≡ seals es = ap seals (append-nil es) in
    omega (arith, same)
not_fewer counted es (e ∷ more) =
    let longer = counted es e.seat e.act e.reply in
    let further = not_fewer counted (es ++ e ∷ []) more in
    let same : seals ((es ++ e ∷ []) ++ more) ≡ seals (es ++ e ∷ more) = ap seals (append_assoc es (e ∷ []) more) in
    omega (arith, longer, further, same)

-- the cycle of a Seal among the entries is closed by their end
is_closed : SealsAreCounted → (es : List Recorded) (index : ℕ) (e : Recorded) → slice_get es index ≡ Some e → is_seal e.act ≡ true →
    seals (take index es) < seals es
is_closed counted es index e at its =
    let parts = parts_at es index e at in
    let entry_is : e ≡ record { seat = e.seat; act = Seals; reply = e.reply } =
    (λ i. record { seat = e.seat; act = is_the_seal e.act its i; reply = e.reply }) in
    let one_more : seals (take index es ++ e ∷ []) ≡ seals (take index es) + 1 =
    ap (λ (r : Recorded). seals (take index es ++ r ∷ [])) entry_is ∙ counted (take index es) e.seat Seals e.reply in
    let further = not_fewer counted (take index es ++ e ∷ []) parts.0 in
    let whole : seals ((take index es ++ e ∷ []) ++ parts.0) ≡ seals es =
    ap seals (append_assoc (take index es) (e ∷ []) parts.0 ∙ sym parts.1) in
    omega (arith, one_more, further, whole)

-- a Seal among the entries closes the same table when the history continues
same_table : ClosedTablesStay → SealsAreCounted → (d : Domain) (es more : List Recorded) (index : ℕ) (e : Recorded) → index < length es →
    slice_get es index ≡ Some e → is_seal e.act ≡ true → table_closed d (es ++ more) index ≡ table_closed d es index
same_table stay counted d es more index e inside at its =
    let front : take index (es ++ more) ≡ take index es = take-append-le index es more (omega (arith, inside)) in
    (λ i. record { cycle = seals (front i); rows = table_at d (es ++ more) (seals (front i)) })
    ∙ (λ i. record { cycle = seals (take index es); rows = stays stay counted d es more (seals (take index es)) (is_closed counted es index e at its) i })

-- so the seat closes the same there
same_closed : ClosedTablesStay → SealsAreCounted → (d : Domain) (es more : List Recorded) (number index : ℕ) → index < length es →
    closed_by d (es ++ more) number index ≡ closed_by d es number index
same_closed stay counted d es more number index inside = by_seal (is_seal_by number there.0) refl
  where
    -- the entry there
    there : (e : Recorded) × (slice_get es index ≡ Some e)
    there = some_at es index inside

    -- whether or not it is a Seal of the seat
    by_seal : (b : Bool) → is_seal_by number there.0 ≡ b → closed_by d (es ++ more) number index ≡ closed_by d es number index
    by_seal true its =
        closes d (es ++ more) number index there.0 true (slice_get_front es more index inside ∙ there.1) its
        ∙ ap (λ t. t ∷ []) (same_table stay counted d es more index there.0 inside there.1 (and_parts (there.0.seat == number) (is_seal there.0.act) its).1)
        ∙ sym (closes d es number index there.0 true there.1 its)
    by_seal false none =
        closes d (es ++ more) number index there.0 false (slice_get_front es more index inside ∙ there.1) none
        ∙ sym (closes d es number index there.0 false there.1 none)

-- one more entry adds the table that the seat closes by it
one_entry : ClosedTablesStay → SealsAreCounted → (d : Domain) (es : List Recorded) (e : Recorded) (first number : ℕ) → first ≤ length es →
    tables_by d (es ++ e ∷ []) first number ≡ tables_by d es first number ++ closed_by d (es ++ e ∷ []) number (length es)
one_entry stay counted d es e first number begun =
    let many : length (es ++ e ∷ []) - first ≡ (length es - first) + 1 = let both = length-append es (e ∷ []) in omega (arith, both, begun) in
    let last : first + (length es - first) ≡ length es = omega (arith, begun) in
    ap (each_below (λ i. closed_by d (es ++ e ∷ []) number (first + i))) many
    ∙ one_index (λ i. closed_by d (es ++ e ∷ []) number (first + i)) (length es - first)
    ∙ ap (λ ts. ts ++ closed_by d (es ++ e ∷ []) number (first + (length es - first)))
    (same_below (λ i. closed_by d (es ++ e ∷ []) number (first + i)) (λ i. closed_by d es number (first + i)) (length es - first)
    (λ i inside. same_closed stay counted d es (e ∷ []) number (first + i) (omega (arith, inside, begun))))
    ∙ ap (λ index. tables_by d es first number ++ closed_by d (es ++ e ∷ []) number index) last

-- a call that isn't a Seal of the seat leaves its tables
by_other : ClosedTablesStay → SealsAreCounted → (d : Domain) (es : List Recorded) (e : Recorded) (first number : ℕ) → first ≤ length es →
    is_seal_by number e ≡ false → tables_by d (es ++ e ∷ []) first number ≡ tables_by d es first number
by_other stay counted d es e first number begun none =
    one_entry stay counted d es e first number begun
    ∙ ap (λ ts. tables_by d es first number ++ ts) (closes d (es ++ e ∷ []) number (length es) e false (slice_get_after es e [] (length es) refl) none)
    ∙ append-nil (tables_by d es first number)

-- a Seal of the seat adds the next table
by_own : ClosedTablesStay → SealsAreCounted → SealClosesTable → (d : Domain) (es : List Recorded) (e : Recorded) (first number : ℕ) → first ≤ length es →
    is_seal_by number e ≡ true → e.reply ≡ Sealed →
    tables_by d (es ++ e ∷ []) first number ≡ tables_by d es first number ++ next_table (record { domain = d; entries = es }) ∷ []
by_own stay counted closing d es e first number begun its sealed =
    let rows : table_at d (es ++ e ∷ []) (seals es) ≡ (next_table (record { domain = d; entries = es })).rows =
    table_there stay counted closing d es [] e (and_parts (e.seat == number) (is_seal e.act) its).1 sealed in
    let the_table : table_closed d (es ++ e ∷ []) (length es) ≡ next_table (record { domain = d; entries = es }) =
    ap (λ (front : List Recorded). record { cycle = seals front; rows = table_at d (es ++ e ∷ []) (seals front) }) (front_is es (e ∷ []))
    ∙ (λ i. record { cycle = seals es; rows = rows i }) in
    one_entry stay counted d es e first number begun
    ∙ ap (λ ts. tables_by d es first number ++ ts) (closes d (es ++ e ∷ []) number (length es) e true (slice_get_after es e [] (length es) refl) its)
    ∙ ap (λ t. tables_by d es first number ++ t ∷ []) the_table

-- calls without a Seal of the seat leave its tables
by_others : ClosedTablesStay → SealsAreCounted → (d : Domain) (es more : List Recorded) (first number : ℕ) → first ≤ length es →
    list_any (λ (e : Recorded). is_seal_by number e) more ≡ false → tables_by d (es ++ more) first number ≡ tables_by d es first number
by_others stay counted d es [] first number begun none = ap (λ (xs : List Recorded). tables_by d xs first number) (append-nil es)
by_others stay counted d es (e ∷ more) first number begun none =
    let parts = or_parts (is_seal_by number e) (list_any (λ (e : Recorded). is_seal_by number e) more) none in
    let longer = length-append es (e ∷ []) in
    ap (λ (xs : List Recorded). tables_by d xs first number) (sym (append_assoc es (e ∷ []) more))
    ∙ by_others stay counted d (es ++ e ∷ []) more first number (omega (arith, longer, begun)) parts.1
    ∙ by_other stay counted d es e first number begun parts.0

-- the tables of an administration that continues
gone_on : (old new : Administration) (e : Recorded) (first after number : ℕ) → after ≡ first → FollowerGoesOn old new e →
    tables_by old.domain (old.entries ++ e ∷ []) first number ≡ tables_by new.domain new.entries after number
gone_on old new e first after number same goes =
    (λ i. tables_by (sym goes.domain i) (sym goes.entries i) (sym same i) number)

-- a follower that continues has the same opening part
begun_so : (old new : Administration) (e : Recorded) (first after : ℕ) → after ≡ first → FollowerGoesOn old new e → first ≤ length old.entries
    → after ≤ length new.entries
begun_so old new e first after same goes begun =
    let long : length new.entries ≡ length (old.entries ++ e ∷ []) = ap length goes.entries in
    let longer = length-append old.entries (e ∷ []) in
    omega (arith, same, long, longer, begun)

-- a follower that has made all calls after an opening part, by which the seat closes its tables
pub joins_so : (opening again : Administration) (f : Follower) (rest : List Recorded) (tables : List CycleTable) (number : ℕ) →
    f ≡ record { first = length opening.entries; admission = again } → FollowerHasGone opening again rest →
    tables ≡ tables_by opening.domain (opening.entries ++ rest) (length opening.entries) number → HasTables f number tables
joins_so opening again f rest tables number is gone own =
    let longer = length-append opening.entries rest in
    let many : length again.entries ≡ length (opening.entries ++ rest) = ap length gone.entries in
    subst (λ (g : Follower). HasTables g number tables) (sym is) (record {
      begun = omega (arith, longer, many);
      own = own ∙ (λ i. tables_by (sym gone.domain i) (sym gone.entries i) (length opening.entries) number);
    })

-- the tables of an unchanged follower
pub keeps_all : (old new : Follower) (number : ℕ) → new ≡ old → KeepsTables old new number
keeps_all old new number same = λ tables has. subst (λ (f : Follower). HasTables f number tables) (sym same) has

-- the tables of a follower that continued in two steps
pub keeps_on : (old mid new : Follower) (number : ℕ) → KeepsTables old mid number → KeepsTables mid new number → KeepsTables old new number
keeps_on old mid new number keeps then = λ tables has. then tables (keeps tables has)

-- a follower continues with a call that isn't a Seal of the seat
pub keeps_tables : ClosedTablesStay → SealsAreCounted → (old new : Follower) (e : Recorded) (number : ℕ) → new.first ≡ old.first →
    FollowerGoesOn old.admission new.admission e → is_seal_by number e ≡ false → KeepsTables old new number
keeps_tables stay counted old new e number same goes none = λ tables has. record {
  begun = begun_so old.admission new.admission e old.first new.first same goes has.begun;
  own = has.own ∙ sym (by_other stay counted old.admission.domain old.admission.entries e old.first number has.begun none)
      ∙ gone_on old.admission new.admission e old.first new.first number same goes;
}

-- a follower continues with a Seal of the seat
pub adds_table : ClosedTablesStay → SealsAreCounted → SealClosesTable → (old new : Follower) (e : Recorded) (number : ℕ) (table : CycleTable)
    → new.first ≡ old.first →
    FollowerGoesOn old.admission new.admission e → is_seal_by number e ≡ true → e.reply ≡ Sealed → table ≡ next_table old.admission →
    AddsTable old new number table
adds_table stay counted closing old new e number table same goes its sealed is = λ tables has. record {
  begun = begun_so old.admission new.admission e old.first new.first same goes has.begun;
  own = ap (λ ts. ts ++ table ∷ []) has.own
      ∙ ap (λ t. tables_by old.admission.domain old.admission.entries old.first number ++ t ∷ []) is
      ∙ sym (by_own stay counted closing old.admission.domain old.admission.entries e old.first number has.begun its sealed)
      ∙ gone_on old.admission new.admission e old.first new.first number same goes;
}

-- calls that come first, without a Seal of the seat after them
pub up_to_seal : (followed rest front following : List Entry) (number n : ℕ) → front ≡ take n rest → following ≡ drop n rest → map recorded_of followed
    ≡ map recorded_of front →
    list_any (λ (e : Entry). is_seal_by number (recorded_of e)) following ≡ false → IsUpToSeal (map recorded_of followed) (map recorded_of rest) number
up_to_seal followed rest front following number n is_front is_after same none = (
  map recorded_of following,
  ap (map recorded_of) (sym (take-append-drop n rest)) ∙ map-append recorded_of (take n rest) (drop n rest)
      ∙ (λ i. map recorded_of (sym is_front i) ++ map recorded_of (sym is_after i)) ∙ ap (λ es. es ++ map recorded_of following) (sym same),
  list_any-map (λ (e : Recorded). is_seal_by number e) recorded_of following ∙ none,
)

-- a follower of the history up to the seat's last Seal has its tables
followed_so : ClosedTablesStay → SealsAreCounted → (f : Follower) (opening : Administration) (followed rest : List Recorded) (number : ℕ) →
    f.first ≡ length opening.entries → FollowerHasGone opening f.admission followed → IsUpToSeal followed rest number →
    HasFollowed f opening rest number
followed_so stay counted f opening followed rest number first gone up = λ tables has.
    let longer = length-append opening.entries followed in
    has.own
    ∙ (λ i. tables_by (gone.domain i) (gone.entries i) (first i) number)
    ∙ sym (by_others stay counted opening.domain (opening.entries ++ followed) up.0 (length opening.entries) number (omega (arith, longer)) up.2)
    ∙ ap (λ (es : List Recorded). tables_by opening.domain es (length opening.entries) number)
    (append_assoc opening.entries followed up.0 ∙ ap (λ (es : List Recorded). opening.entries ++ es) (sym up.1))

-- the same for a follower with the opening part that was compared
pub has_followed : ClosedTablesStay → SealsAreCounted → (f : Follower) (opening : Administration) (start : List Entry) (followed rest : List Recorded)
    (number : ℕ) →
    f.first ≡ length start → map recorded_of start ≡ opening.entries → FollowerHasGone opening f.admission followed → IsUpToSeal followed rest number →
    HasFollowed f opening rest number
has_followed stay counted f opening start followed rest number begun starts =
    followed_so stay counted f opening followed rest number (begun ∙ sym (length-map start recorded_of) ∙ ap length starts)
