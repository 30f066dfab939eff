-- The result of comparing a history with its seats.
use Rattle.std.proofs.Common.{◌≡◌, ◌∙◌, ◌++◌, ℕ, suc, zero, ◌<◌, ◌==◌, List, [], ◌∷◌, Option, None, Some, All, map, drop, take}
use Rattle.std.proofs.Common.{length, length-take, ap, refl, sym, subst, arith, eq-eqb, inl, inr}
use Rattle.std.specs.Prelude.{Err, IfErr, Ok, Result}
use Rattle.std.proofs.lemmas.List.{length-map, map-append, take-append-drop}
use Rattle.std.proofs.lemmas.List.Elements.{All-map}
use Rattle.cqf_lists.proofs.Members.{member_any}
use Rattle.cqf_model.specs.History.{IsLegalHistory, Recorded}
use Rattle.cqf_admission.specs.declared.entries.Entry.{Entry}
use Rattle.cqf_admission.specs.Admission.{Administration, recorded_of}
use Rattle.cqf_desk.specs.declared.faults.CloseFault.{CloseFault}
use Rattle.cqf_desk.specs.declared.faults.CloseFault.TheVariants.{Memory, SeatMissing, SeatsDisagree}
use Rattle.cqf_desk.specs.declared.history.History.{History}
use Rattle.cqf_desk.specs.Again.{FollowerHasGone}
use Rattle.cqf_desk.specs.Closing.{AreItsSeats, ComesToLeast, Disagrees, HasOpening, IsCloseFault, IsOfSeats, IsOneOrCount, Settles}
use Rattle.cqf_desk.specs.Desk.{Counter, Sitting}
use Rattle.cqf_desk.proofs.Rests.{front_is, rest_is, take-map}

-- the first part of a history that was compared with the opening part
front_of : (start : List Recorded) (held : List Recorded) (begun history : List Entry) → map recorded_of begun ≡ start → map recorded_of history ≡ held →
    map recorded_of (take (length begun) history) ≡ take (length start) held
front_of start held begun history is its =
    sym (take-map recorded_of history (length begun)) ∙ ap (take (length begun)) its
    ∙ ap (λ (n : ℕ). take n held) (sym (length-map begun recorded_of) ∙ ap length is)

-- no history with the opening part is shorter than it
pub is_shorter : (start held : Administration) (begun history : List Entry) → map recorded_of begun ≡ start.entries → map recorded_of history ≡ held.entries →
    length history < length begun → HasOpening start held → ⊥
is_shorter start held begun history is its less has =
    let front : length (map recorded_of (take (length begun) history)) ≡ length (map recorded_of begun) =
    ap length (front_of start.entries held.entries begun history is its ∙ has.begins ∙ sym is) in
    let many = length-map begun recorded_of in
    let fewer = length-map (take (length begun) history) recorded_of in
    let front_many = length-take (length begun) history in
    omega (arith, less, front, many, fewer, front_many)

-- its first part is the opening part
pub is_front : (start held : Administration) (begun history first : List Entry) → map recorded_of begun ≡ start.entries → map recorded_of history
    ≡ held.entries →
    first ≡ take (length begun) history → HasOpening start held → map recorded_of first ≡ map recorded_of begun
is_front start held begun history first is its is_first has =
    ap (map recorded_of) is_first ∙ front_of start.entries held.entries begun history is its ∙ has.begins ∙ sym is

-- what comes after such a first part
pub goes_after : (start held : Administration) (begun history first rest : List Entry) (n : ℕ) → map recorded_of begun ≡ start.entries →
    map recorded_of history ≡ held.entries →
    first ≡ take n history → rest ≡ drop n history → map recorded_of first ≡ map recorded_of begun → held.domain ≡ start.domain →
    FollowerHasGone start held (map recorded_of rest)
goes_after start held begun history first rest n is its is_first is_rest same domain = record {
  domain = domain;
  entries = sym its ∙ ap (map recorded_of) (sym (take-append-drop n history)) ∙ map-append recorded_of (take n history) (drop n history)
      ∙ (λ i. map recorded_of (sym is_first i) ++ map recorded_of (sym is_rest i)) ∙ ap (λ es. es ++ map recorded_of rest) (same ∙ is);
}

-- the administration with these calls after the opening part
abbrev gone_by : Administration → List Recorded → Administration
gone_by start rest = record { domain = start.domain; entries = start.entries ++ rest }

-- it is the one that has continued with them
is_gone : (start held : Administration) (rest : List Recorded) → FollowerHasGone start held rest → held ≡ gone_by start rest
is_gone start held rest gone = (λ i. record { domain = gone.domain i; entries = gone.entries i })

-- its history is legal if that one is
legal_by : (start held : Administration) (rest : List Recorded) → FollowerHasGone start held rest → IsLegalHistory held.domain held.entries →
    IsLegalHistory start.domain (start.entries ++ rest)
legal_by start held rest gone legal = subst (λ (a : Administration). IsLegalHistory a.domain a.entries) (is_gone start held rest gone) legal

-- it has the opening part
opens : (start : Administration) (rest : List Recorded) → HasOpening start (gone_by start rest)
opens start rest = record { domain = refl; begins = front_is start.entries rest }

-- an option that is no `Some` is `None`
pub is_none : (o : Option ℕ) → ((number : ℕ) → o ≡ Some number → ⊥) → o ≡ None
is_none None none = refl
is_none (Some number) none = absurd (none number refl)

-- what holds for each entry holds for each call
each_known : (count : ℕ) (xs : List Entry) → All (λ (e : Recorded). e.seat < count) (map recorded_of xs) → All (λ (e : Entry). e.seat < count) xs
each_known count [] all k d inside = absurd (omega (arith, inside))
each_known count (x ∷ xs) all zero d inside = all 0 (recorded_of d) (omega arith)
each_known count (x ∷ xs) all (suc k) d inside =
    each_known count xs (λ j r within. all (suc j) r (omega (arith, within))) k d (omega (arith, inside))

-- a disagreement with the number of seats, since a call is of none of them
pub names_none : (start held : Administration) (count : ℕ) (rest : List Entry) (seats : List Sitting) → FollowerHasGone start held (map recorded_of rest) →
    ComesToLeast start.domain (start.entries ++ map recorded_of rest) (length start.entries) seats None →
    (All (λ (e : Entry). e.seat < count) rest → ⊥) → Disagrees start count held seats count
names_none start held count rest seats gone comes unknown =
    subst (λ (a : Administration). Disagrees start count a seats count) (sym (is_gone start held (map recorded_of rest) gone))
    (inr (
      refl,
      inr (
        opens start (map recorded_of rest),
        comes,
        λ known.
            unknown (each_known count rest (subst (All (λ (e : Recorded). e.seat < count)) (rest_is start.entries (map recorded_of rest)) known)),
      ),
    ))

-- a comparison without a disagreement
pub are_of_seats : (start held : Administration) (count : ℕ) (rest : List Entry) (seats : List Sitting) → FollowerHasGone start held (map recorded_of rest) →
    IsLegalHistory held.domain held.entries →
    ComesToLeast start.domain (start.entries ++ map recorded_of rest) (length start.entries) seats None →
    All (λ (e : Entry). e.seat < count) rest → IsOfSeats start.entries start.domain count seats held.entries
are_of_seats start held count rest seats gone legal comes known =
    subst (λ (es : List Recorded). IsOfSeats start.entries start.domain count seats es) (sym gone.entries) (record {
      legal = legal_by start held (map recorded_of rest) gone legal;
      begins = front_is start.entries (map recorded_of rest);
      known = subst (All (λ (e : Recorded). e.seat < count)) (sym (rest_is start.entries (map recorded_of rest)))
          (All-map (λ (e : Recorded). e.seat < count) recorded_of rest known);
      own = comes;
    })

-- a disagreement has the number of one of the seats, or the number of seats
pub one_or_count : (start held : Administration) (count : ℕ) (seats : List Sitting) (number : ℕ) → Disagrees start count held seats number →
    IsOneOrCount count seats number
one_or_count start held count seats number disagrees = elim disagrees [
  | inl least ↦
      inl (member_any (λ (s : Sitting). s.number == number) seats least.1.0.0 least.1.0.1 (eq-eqb least.1.0.0.number number least.1.0.2))
  | inr none ↦ inr none.0
]

-- why a desk with these seats isn't closed
pub close_fault : (desk : Counter) (seats : List Sitting) (held : Administration) (fault : CloseFault) → AreItsSeats desk.seats seats →
    IsLegalHistory held.domain held.entries → Settles desk.opening desk.seats held seats (Err fault) → IsCloseFault desk seats fault
close_fault desk seats held SeatMissing its legal settles = absurd settles
close_fault desk seats held (SeatsDisagree number) its legal settles = (its, held, legal, settles)
close_fault desk seats held Memory its legal settles = its

-- the same for the result of a comparison
pub close_faults : (desk : Counter) (seats : List Sitting) (held : Administration) (result : Result History CloseFault) → AreItsSeats desk.seats seats →
    IsLegalHistory held.domain held.entries →
    IfErr result (λ fault. Settles desk.opening desk.seats held seats (Err fault)) → IfErr result (λ fault. IsCloseFault desk seats fault)
close_faults desk seats held (Ok history) its legal settles = tt
close_faults desk seats held (Err fault) its legal settles = close_fault desk seats held fault its legal settles

-- its number is that of one of the seats, or the number of seats
pub named_so : (start held : Administration) (count : ℕ) (seats : List Sitting) (result : Result History CloseFault) →
    IfErr result (λ fault. Settles start count held seats (Err fault)) → (number : ℕ) → result ≡ Err (SeatsDisagree number) → IsOneOrCount count seats number
named_so start held count seats result settles number is =
    one_or_count start held count seats number
    (subst (λ (r : Result History CloseFault). IfErr r (λ fault. Settles start count held seats (Err fault))) is settles)
