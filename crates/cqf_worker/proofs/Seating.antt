-- The seats of a run: each administrator has the seat of its number, and the conductor the next one.
use Rattle.std.proofs.Common.{ℕ, zero, suc, ◌≡◌, ◌+◌, ◌<◌, ◌∷◌, ◌++◌, [], List, Contains, Some, length, length-append}
use Rattle.std.proofs.Common.{get_or, take, map, refl, sym, ap, subst, ◌∙◌, append-nil, arith, inl, inr, add-one}
use Rattle.std.specs.Prelude.{false, option_map, slice_get}
use Rattle.std.specs.List.{AllZip}
use Rattle.std.proofs.Math.Seq.{take-append_seam}
use Rattle.std.proofs.lemmas.List.{length-map, nil_from_length}
use Rattle.std.proofs.lemmas.List.Elements.{Contains-append_left, Contains-append_right}
use Rattle.std.proofs.lemmas.Option.{get_or_from_slice_get, same_Some, slice_get_cases, slice_get-map, slice_get_within}
use Rattle.cqf_lists.proofs.EachBelow.{get_or-singles, length-singles}
use Rattle.cqf_lists.proofs.Members.{contains_at, contains_from_map, contains_here}
use Rattle.cqf_lists.proofs.Indices.{slice_get_after}
use Rattle.cqf_model.specs.History.{Act, is_seal}
use Rattle.cqf_model.specs.Calls.{acts_of}
use Rattle.cqf_admission.specs.declared.entries.Command.{Command}
use Rattle.cqf_admission.specs.declared.entries.Command.TheVariants.{Admit, AdmitPaced, Withdraw}
use Rattle.cqf_admission.specs.Commands.{act_of_command}
use Rattle.cqf_desk.specs.Desk.{Sitting, fresh_seats}
use Rattle.cqf_laws_account.specs.Seated.{AreSeated, AsksForNoSeal}
use Rattle.cqf_worker.specs.declared.threads.Administrator.{Administrator}
use Rattle.cqf_worker.specs.Account.{all_asked}
use Rattle.cqf_worker_loops.specs.Commands.{acts_asked}
use Rattle.cqf_worker.specs.Conducting.{AreSeatedFor, commands_of, seat_of}
use Rattle.cqf_worker_loops.specs.Handing.{HasSealed, TableEnd}
use Rattle.cqf_worker.specs.Running.{CallsOf}

-- a seat with which nobody has called yet
abbrev pub fresh_seat : ℕ → Sitting
fresh_seat number = record { number = number; calls = []; tables = [] }

-- this many seats
pub seats_count : (count : ℕ) → length (fresh_seats count) ≡ count
seats_count count = length-singles fresh_seat count

-- a seat after others has their number, and is one of these seats
pub next_seat : (count : ℕ) (before rest : List Sitting) (seat : Sitting) → before ++ seat ∷ rest ≡ fresh_seats count →
    (seat ≡ fresh_seat (length before)) × (length before < count)
next_seat count before rest seat is =
    let below : length before < count = omega (arith, ap length is, length-append before (seat ∷ rest), seats_count count) in (
      sym (get_or_from_slice_get (before ++ seat ∷ rest) (length before) seat seat (slice_get_after before seat rest (length before) refl))
          ∙ ap (λ (xs : List Sitting). get_or xs (length before) seat) is
          ∙ get_or-singles fresh_seat count (length before) seat below,
      below,
    )

-- the seats before the last one
pub seats_before : (count : ℕ) (before rest : List Sitting) (seat : Sitting) → length before ≡ count → before ++ seat ∷ rest ≡ fresh_seats (count + 1) →
    before ≡ fresh_seats count
seats_before count before rest seat long is =
    sym (take-append_seam before (seat ∷ rest))
    ∙ ap (λ (n : ℕ). take n (before ++ seat ∷ rest)) long
    ∙ ap (take count) (is ∙ ap fresh_seats (add-one count))
    ∙ ap (λ (n : ℕ). take n (fresh_seats count ++ fresh_seat count ∷ [])) (sym (seats_count count))
    ∙ take-append_seam (fresh_seats count) (fresh_seat count ∷ [])

-- while some administrators are still to be seated, there is one more seat than these
pub seats_left : {X : Type 0} (f : X → List Command) (administrators : List Administrator) (left seats : List Sitting) (yielded rest all : List X) →
    map seat_of administrators ++ left ≡ seats → seats ≡ fresh_seats (length all + 1) → map commands_of administrators ≡ map f yielded →
    yielded ++ rest ≡ all → length left ≡ length rest + 1
seats_left f administrators left seats yielded rest all so fresh commands given =
    omega (
      arith,
      ap length so,
      length-append (map seat_of administrators) left,
      length-map administrators seat_of,
      ap length fresh,
      seats_count (length all + 1),
      ap length commands,
      length-map administrators commands_of,
      length-map yielded f,
      ap length given,
      length-append yielded rest,
    )

-- once all have a seat, the next seat is the conductor's
pub all_seated : {X : Type 0} (f : X → List Command) (administrators : List Administrator) (left seats more : List Sitting) (yielded rest all : List X)
    (conductor : Sitting) → map seat_of administrators ++ left ≡ seats → seats ≡ fresh_seats (length all + 1) →
    map commands_of administrators ≡ map f yielded → yielded ++ rest ≡ all → length rest ≡ 0 → left ≡ conductor ∷ more →
    AreSeatedFor (map f all) administrators conductor
all_seated f administrators left seats more yielded rest all conductor so fresh commands given none next =
    let each : map commands_of administrators ≡ map f all =
    commands ∙ ap (map f) (sym (append-nil yielded) ∙ ap (λ xs. yielded ++ xs) (sym (nil_from_length rest none)) ∙ given) in
    let many : length (map seat_of administrators) ≡ length (map f all) =
    length-map administrators seat_of ∙ sym (length-map administrators commands_of) ∙ ap length each in
    let in_order : map seat_of administrators ++ conductor ∷ more ≡ fresh_seats (length (map f all) + 1) =
    ap (λ (xs : List Sitting). map seat_of administrators ++ xs) (sym next)
    ∙ so
    ∙ fresh
    ∙ ap (λ (n : ℕ). fresh_seats (n + 1)) (sym (length-map all f)) in
    record {
      commands = each;
      seats = seats_before (length (map f all)) (map seat_of administrators) more conductor many in_order;
      next = (next_seat (length (map f all) + 1) (map seat_of administrators) more conductor in_order).0 ∙ ap fresh_seat many;
    }

-- if two lists are related index by index, there is an element of the second at each index of the first
zipped_at : {A B : Type 0} (R : A → B → Type 0) (xs : List A) (ys : List B) (k : ℕ) (x : A) → AllZip R xs ys → slice_get xs k ≡ Some x →
    (y : B) × (slice_get ys k ≡ Some y) × R x y
zipped_at R [] [] k x all there = absurd cc
zipped_at R [] (y ∷ ys) k x all there = absurd all
zipped_at R (z ∷ xs) [] k x all there = absurd all
zipped_at R (z ∷ xs) (y ∷ ys) zero x all there = (y, refl, subst (λ w. R w y) (same_Some z x there) all.0)
zipped_at R (z ∷ xs) (y ∷ ys) (suc k) x all there = zipped_at R xs ys k x all.1 there

-- no command requests a Seal
never_seal : (c : Command) → is_seal (act_of_command c) ≡ false
never_seal (Admit request) = refl
never_seal (AdmitPaced request) = refl
never_seal (Withdraw name) = refl

-- so no administrator requests one
pub asks_no_seal : (admins : List (List Command)) → AsksForNoSeal (all_asked admins)
asks_no_seal admins acts act among this =
    let of_admin = contains_from_map acts_asked admins acts among in
    let of_command = contains_from_map act_of_command of_admin.0 act (subst (λ (xs : List Act). Contains xs act) (sym of_admin.2) this) in
    subst (λ (a : Act). is_seal a ≡ false) of_command.2 (never_seal of_command.0)

-- there are as many lists of requests as administrators
pub asked_count : (admins : List (List Command)) → length (all_asked admins) ≡ length admins
asked_count admins = length-map admins acts_asked

module _ (admins : List (List Command)) (administrators : List Administrator) (conductor : Sitting) (seats : List Sitting) (done : Sitting) (cycles : ℕ)
    (before after : List TableEnd) (seated : AreSeatedFor admins administrators conductor) (called : AllZip CallsOf administrators seats)
    (sealed : HasSealed cycles conductor done before after) where
  -- the administrator at an index has the seat of that number
  number_at : (index : ℕ) (a : Administrator) → slice_get administrators index ≡ Some a → a.seat.number ≡ index
  number_at index a there =
      let at : slice_get (fresh_seats (length admins)) index ≡ Some a.seat =
      sym (ap (λ (xs : List Sitting). slice_get xs index) seated.seats) ∙ slice_get-map seat_of administrators index ∙ ap (option_map seat_of) there in
      let below : index < length admins =
      omega (arith, slice_get_within (fresh_seats (length admins)) index a.seat at, seats_count (length admins)) in
      ap (λ (s : Sitting). s.number)
      (sym (get_or_from_slice_get (fresh_seats (length admins)) index a.seat a.seat at) ∙ get_or-singles fresh_seat (length admins) index a.seat below)

  -- the requests at an index are those of its administrator's commands
  asked_at : (index : ℕ) (acts : List Act) (a : Administrator) → slice_get (all_asked admins) index ≡ Some acts →
      slice_get administrators index ≡ Some a → acts_asked (commands_of a) ≡ acts
  asked_at index acts a asked there =
      let commands : slice_get admins index ≡ Some (commands_of a) =
      sym (ap (λ (xs : List (List Command)). slice_get xs index) seated.commands)
      ∙ slice_get-map commands_of administrators index
      ∙ ap (option_map commands_of) there in
      same_Some (acts_asked (commands_of a)) acts (sym (slice_get-map acts_asked admins index ∙ ap (option_map acts_asked) commands) ∙ asked)

  -- there are as many lists of requests as administrators
  as_many : length administrators ≡ length (all_asked admins)
  as_many = sym (length-map administrators commands_of) ∙ ap length seated.commands ∙ sym (asked_count admins)

  -- each administrator's seat has made the calls requested of it
  calls_at : (admin : ℕ) (acts : List Act) → slice_get (all_asked admins) admin ≡ Some acts →
      (s : Sitting) × Contains (seats ++ done ∷ []) s × (s.number ≡ admin) × (acts_of s.calls ≡ acts)
  calls_at admin acts asked =
      elim (slice_get_cases administrators admin).1 [
        | inl w ↦
            let its = zipped_at CallsOf administrators seats admin w.0 called w.2 in (
              its.0,
              Contains-append_left seats (done ∷ []) its.0 (contains_at seats admin its.0 its.1),
              its.2.number ∙ number_at admin w.0 w.2,
              its.2.calls ∙ asked_at admin acts w.0 asked w.2,
            )
        | inr past ↦ absurd (omega (arith, past.0, as_many, slice_get_within (all_asked admins) admin acts asked))
      ]

  -- so in the end the seats are seated, and the sealing one is the conductor's
  pub are_seated : (s : AreSeated (all_asked admins) cycles (seats ++ done ∷ [])) × (s.conductor ≡ done)
  are_seated = (
    record {
      calls = calls_at;
      conductor = done;
      among = Contains-append_right seats (done ∷ []) done (contains_here done []);
      next = sealed.number ∙ ap (λ (s : Sitting). s.number) seated.next ∙ sym (asked_count admins);
      sealed = sealed.acts;
      tables = sealed.many;
    },
    refl,
  )
