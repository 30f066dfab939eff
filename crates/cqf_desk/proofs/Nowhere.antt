-- Calls with which no legal history continues.
use Rattle.std.proofs.Common.{◌≡◌, ℕ, ◌+◌, ◌<◌, ◌≤◌, Bool, List, Some, [], ◌∷◌, ◌++◌, true, false, map, length, take}
use Rattle.std.proofs.Common.{get_or, refl, ap, sym, ◌∙◌, arith, length-append, subst, if◌then◌else◌, inl, inr}
use Rattle.std.specs.Prelude.{◌≢◌, IfOk, Result, slice_get}
use Rattle.std.proofs.lemmas.List.{append-nil, append_assoc, length-take-le}
use Rattle.cqf_lists.specs.Lists.{each_below}
use Rattle.cqf_lists.proofs.EachBelow.{parted_below}
use Rattle.std.proofs.lemmas.List.Sums.{count_by-le-length}
use Rattle.cqf_lists.proofs.Indices.{slice_get_after}
use Rattle.cqf_model.specs.declared.history.Receipt.{Receipt}
use Rattle.cqf_model.specs.declared.history.Refused.{Refused}
use Rattle.cqf_model.specs.declared.history.Reply.TheVariants.{Sealed}
use Rattle.cqf_model.specs.Domain.{Domain}
use Rattle.cqf_model.specs.History.{IsLegalHistory, Recorded, Seals, is_seal, reply_to, seals}
use Rattle.cqf_model.specs.Limits.{most_calls, most_cycles}
use Rattle.cqf_laws_history.specs.StateLaws.{SealClosesTable, SealsAreCounted}
use Rattle.cqf_laws_history.specs.TableLaws.{ClosedTablesStay}
use Rattle.cqf_admission.specs.declared.entries.Entry.{Entry}
use Rattle.cqf_admission.specs.declared.entries.SealFault.{SealFault}
use Rattle.cqf_admission.specs.Admission.{Administration, Answers, Closes, LetsGo, calls, recorded_of}
use Rattle.cqf_admission.specs.Tables.{CycleTable}
use Rattle.cqf_desk.specs.Again.{ComesTo, FollowerStops, GoesOnNowhere, IsAnsweredSo, IsClosedSo, next_table}
use Rattle.cqf_desk.specs.Closing.{closed_by, is_seal_by, tables_by}
use Rattle.cqf_desk.specs.declared.again.Made.{Made}
use Rattle.cqf_desk.specs.declared.again.Made.TheVariants as made
use Rattle.cqf_desk.proofs.Rests.{front_is, parts_at}
use Rattle.cqf_desk.proofs.Longer.{not_fewer}
use Rattle.cqf_desk.proofs.Steps.{HasClosed, HasGoneOn, closes_there, rest_length, so_far, stands}

-- the answer in a legal history is the one that is due
is_due : (a : Administration) (e : Recorded) (more : List Recorded) → IsLegalHistory a.domain (a.entries ++ e ∷ more) → e.reply
    ≡ reply_to a.domain a.entries e.act
is_due a e more legal =
    legal.replies (length a.entries) e (slice_get_after a.entries e more (length a.entries) refl)
    ∙ ap (λ (es : List Recorded). reply_to a.domain es e.act) (front_is a.entries (e ∷ more))

-- more entries don't have fewer calls that aren't Seals
calls_not_fewer : SealsAreCounted → (es more : List Recorded) → calls es ≤ calls (es ++ more)
calls_not_fewer counted es [] =
    let same : calls (es ++ []) ≡ calls es = ap calls (append-nil es) in
    omega (arith, same)
calls_not_fewer counted es (e ∷ more) =
    let longer = counted es e.seat e.act e.reply in
    let one = length-append es (e ∷ []) in
    let further = calls_not_fewer counted (es ++ e ∷ []) more in
    let same : calls ((es ++ e ∷ []) ++ more) ≡ calls (es ++ e ∷ more) = ap calls (append_assoc es (e ∷ []) more) in
    let few : (if is_seal e.act then 1 else 0) ≤ 1 = at_most_one (is_seal e.act) in
    omega (arith, longer, one, further, same, few)
  where
    at_most_one : (b : Bool) → (if b then 1 else 0) ≤ 1
    at_most_one true = omega arith
    at_most_one false = omega arith

-- no legal history continues with a call if it is full
full_there : SealsAreCounted → (a : Administration) (e : Recorded) → is_seal e.act ≡ false → most_calls ≤ calls a.entries → GoesOnNowhere a e
full_there counted a e none full = λ more legal.
    let longer : seals (a.entries ++ e ∷ []) ≡ seals a.entries + 0 =
    counted a.entries e.seat e.act e.reply ∙ ap (λ (b : Bool). seals a.entries + (if b then 1 else 0)) none in
    let one = length-append a.entries (e ∷ []) in
    let within = count_by-le-length (λ (r : Recorded). is_seal r.act) a.entries in
    let further = calls_not_fewer counted (a.entries ++ e ∷ []) more in
    let same : calls ((a.entries ++ e ∷ []) ++ more) ≡ calls (a.entries ++ e ∷ more) = ap calls (append_assoc a.entries (e ∷ []) more) in
    omega (arith, full, longer, one, within, further, same, legal.few_calls)

-- nor with a Seal if all cycles are spent
spent_there : SealsAreCounted → (a : Administration) (e : Recorded) → is_seal e.act ≡ true → most_cycles ≤ seals a.entries → GoesOnNowhere a e
spent_there counted a e its spent = λ more legal.
    let longer : seals (a.entries ++ e ∷ []) ≡ seals a.entries + 1 =
    counted a.entries e.seat e.act e.reply ∙ ap (λ (b : Bool). seals a.entries + (if b then 1 else 0)) its in
    let further = not_fewer counted (a.entries ++ e ∷ []) more in
    let same : seals ((a.entries ++ e ∷ []) ++ more) ≡ seals (a.entries ++ e ∷ more) = ap seals (append_assoc a.entries (e ∷ []) more) in
    omega (arith, spent, longer, further, same, legal.few_seals)

-- the result of making a request or a withdrawal again
pub comes_answered : SealsAreCounted → (old new : Administration) (e : Recorded) (answer : Result Receipt Refused) (result : Made) →
    Answers old new e.seat e.act answer → is_seal e.act ≡ false → IsAnsweredSo answer e.reply result → ComesTo old new e result
comes_answered counted old new e answer made.Answered answers none so = (
  record {
    domain = answers.domain;
    entries = answers.entered so.0 ∙ (λ i. old.entries ++ record { seat = e.seat; act = e.act; reply = so.1 i } ∷ []);
  },
  none,
)
comes_answered counted old new e answer (made.Closed table) answers none so = absurd so
comes_answered counted old new e answer made.Otherwise answers none so = elim so [
  | inl full ↦ full_there counted old e none (answers.full.0 full)
  | inr other ↦ λ more legal. other.1 (answers.due other.0 ∙ sym (is_due old e more legal))
]
comes_answered counted old new e answer made.Memory answers none so = answers.unchanged so

-- the result of making a Seal again
pub comes_closed : SealsAreCounted → (old new : Administration) (e : Recorded) (answer : Result CycleTable SealFault) (result : Made) →
    Closes old new e.seat answer → IfOk answer (λ table. LetsGo old new table) → e.act ≡ Seals → IsClosedSo answer e.reply result → ComesTo old new e result
comes_closed counted old new e answer made.Answered closes lets act so = absurd so
comes_closed counted old new e answer (made.Closed table) closes lets act so =
    let done = subst (Closes old new e.seat) so.0 closes in
    let held = subst (λ (r : Result CycleTable SealFault). IfOk r (λ table. LetsGo old new table)) so.0 lets in (
      record {
        domain = done.1;
        entries = done.2 ∙ (λ i. old.entries ++ record { seat = e.seat; act = sym act i; reply = sym so.1 i } ∷ []);
      },
      ap is_seal act,
      so.1,
      λ i. record { cycle = done.3 i; rows = held.rows i },
    )
comes_closed counted old new e answer made.Otherwise closes lets act so = elim so [
  | inl spent ↦ spent_there counted old e (ap is_seal act) (subst (Closes old new e.seat) spent closes).0
  | inr other ↦ λ more legal. other (is_due old e more legal ∙ ap (reply_to old.domain old.entries) act)
]
comes_closed counted old new e answer made.Memory closes lets act so = (subst (Closes old new e.seat) so closes).1

-- a history isn't legal if no legal history continues with one of its calls
pub not_legal : (start again : Administration) (rest : List Entry) (k : ℕ) (e : Entry) → HasGoneOn start again rest k → k < length rest → e ≡ get_or rest k e →
    GoesOnNowhere again (recorded_of e) → IsLegalHistory start.domain (start.entries ++ map recorded_of rest) → ⊥
not_legal start again rest k e gone inside is nowhere legal =
    let all = start.entries ++ map recorded_of rest in
    let parts = parts_at all (length start.entries + k) (recorded_of e) (stands start.entries rest k e inside is) in
    let whole : all ≡ again.entries ++ recorded_of e ∷ parts.0 =
    parts.1 ∙ ap (λ (es : List Recorded). es ++ recorded_of e ∷ parts.0) (so_far start again rest k gone) in
    nowhere parts.0 (subst (λ (d : Domain). IsLegalHistory d (again.entries ++ recorded_of e ∷ parts.0)) (sym gone.domain)
    (subst (λ (es : List Recorded). IsLegalHistory start.domain es) whole legal))

-- nor has a seat closed such tables if it closes another one by its Seal
pub not_its_tables : ClosedTablesStay → SealsAreCounted → SealClosesTable → (start again : Administration) (rest : List Entry) (number : ℕ)
    (tables : List CycleTable) (next k : ℕ) (e : Entry) →
    HasClosed start again rest number tables next k → k < length rest → e ≡ get_or rest k e → is_seal_by number (recorded_of e) ≡ true → e.reply ≡ Sealed →
    (slice_get tables next ≡ Some (next_table again) → ⊥) →
    tables ≡ tables_by start.domain (start.entries ++ map recorded_of rest) (length start.entries) number → ⊥
not_its_tables stay counted closing start again rest number tables next k e has inside is its sealed other same =
    let f : ℕ → List CycleTable = λ i. closed_by start.domain (start.entries ++ map recorded_of rest) number (length start.entries + i) in
    let parted = parted_below f k (length rest) inside in
    let whole : tables ≡ each_below f k ++ (next_table again ∷ parted.0) =
    same ∙ ap (each_below f) (rest_length start.entries rest) ∙ parted.1
    ∙ ap (λ ts. each_below f k ++ (ts ++ parted.0)) (closes_there stay counted closing start again rest number k e has.gone inside is its sealed) in
    let many : next ≡ length (each_below f k) = sym (length-take-le next tables has.few) ∙ ap length has.closed in
    other (ap (λ ts. slice_get ts next) whole ∙ slice_get_after (each_below f k) (next_table again) parted.0 next many)

-- if a step stops, the seat closes other tables in a legal history
pub stops_so : ClosedTablesStay → SealsAreCounted → SealClosesTable → (start again : Administration) (rest : List Entry) (number : ℕ)
    (tables : List CycleTable) (next k : ℕ) (e : Entry) →
    HasClosed start again rest number tables next k → k < length rest → e ≡ get_or rest k e → FollowerStops again (recorded_of e) number tables next →
    IsLegalHistory start.domain (start.entries ++ map recorded_of rest) →
    tables ≢ tables_by start.domain (start.entries ++ map recorded_of rest) (length start.entries) number
stops_so stay counted closing start again rest number tables next k e has inside is stops legal = λ same. elim stops [
  | inl nowhere ↦ not_legal start again rest k e has.gone inside is nowhere legal
  | inr other ↦ not_its_tables stay counted closing start again rest number tables next k e has inside is other.0 other.1 other.2 same
]

-- if not all tables were closed, they differ
pub too_many : (start again : Administration) (rest : List Entry) (number : ℕ) (tables : List CycleTable) (next k : ℕ) →
    HasClosed start again rest number tables next k → length rest ≡ k → (next ≡ length tables → ⊥) →
    tables ≢ tables_by start.domain (start.entries ++ map recorded_of rest) (length start.entries) number
too_many start again rest number tables next k has through other = λ same.
    let closed : take next tables ≡ tables =
    has.closed ∙ ap (each_below (λ i. closed_by start.domain (start.entries ++ map recorded_of rest) number (length start.entries + i)))
    (sym through ∙ sym (rest_length start.entries rest)) ∙ sym same in
    other (sym (length-take-le next tables has.few) ∙ ap length closed)
