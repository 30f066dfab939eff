-- Streams admitted in turn; each is held from cycle 0 on.
use Rattle.std.proofs.Common.{◌≡◌, ◌≢◌, ◌⊎◌, ◌∙◌, ◌<◌, ◌+◌, ◌++◌, ℕ, true, List, [], ◌∷◌, Option, Some, None, Result, Ok, Err, length, map, arith, ap, subst}
use Rattle.std.proofs.Common.{refl, sym, length-append, inl, inr}
use Rattle.cqf_model.specs.declared.history.Receipt.{Receipt}
use Rattle.cqf_model.specs.declared.history.Refused.{Refused}
use Rattle.cqf_model.specs.declared.history.Refused.TheVariants.{BadName, BadOctets, BadPace, UnknownNode, BrokenPath, LoopingPath, NotATree, TooManyHops, NameHeld, TooManyStreams}
use Rattle.cqf_model.specs.declared.history.Refused.TheVariants.{BudgetShort, NotHeld, AlreadyWithdrawn, HistoryFull, Memory}
use Rattle.cqf_model.specs.declared.history.Reply.TheVariants.{Accepted, Refused as RefusedFor}
use Rattle.cqf_model.specs.declared.topology.Row.{Row}
use Rattle.cqf_model.specs.Domain.{Domain}
use Rattle.cqf_model.specs.History.{Admits, Asked, IsLegalHistory, Recorded, admit_reply, held_in, next_number, refusal_of, reply_to, seals}
use Rattle.cqf_topology.specs.declared.paced.PacedRequest.{PacedRequest}
use Rattle.cqf_laws_history.specs.StateLaws.{AreHeld, GrantedFindsRoom, GrantedIsHeld, HeldAreSound, HistoryGoesOn, SealsAreCounted, granted_row, with_entry}
use Rattle.cqf_admission.specs.Admission.{Administration, Answers, is_entered}
use Rattle.cqf_admission.specs.Asking.{asked_by, asked_paced}
use Rattle.cqf_topology.specs.PacedText.{paced_text}
use Rattle.cqf_lists.specs.Results.{and_then, refuse}
use Rattle.cqf_output.specs.Stops.{EndsWith}
use Rattle.cqf_program_plans.specs.Compile.Output.{AreAllHeld, admitted_from, plan_of_network, stream_line, with_asked}
use Rattle.cqf_program_plans.specs.NetworkRequests.{requests_of_network}
use Rattle.cqf_program_scenario.proofs.AskedTexts.{asked_texts}
use Rattle.cqf_program_scenario.specs.Networks.{domain_of}
use Rattle.cqf_output.specs.Stops.{IsRefused}
use Rattle.cqf_network.specs.NetworkDomain.{NetworkDomain}
use Rattle.cqf_output.specs.declared.stops.Stop.{Stop}

-- what the answer to a request says of it
granted : (number effect : ℕ) (receipt : Receipt) (refusal : Option Refused) → Accepted receipt ≡ admit_reply number effect refusal → refusal ≡ None
granted number effect receipt None h = refl
granted number effect receipt (Some refused) h = cc

-- what the answer to a refused request says of it
refused_for : (number effect : ℕ) (refused : Refused) (refusal : Option Refused) → RefusedFor refused ≡ admit_reply number effect refusal →
    refusal ≡ Some refused
refused_for number effect refused None h = cc
refused_for number effect refused (Some other) h = cc

-- two equal values of a result are the same; and a result with a value was not refused
pub same_ok : {A E : Type 0} (x y : A) → ◌≡◌ {A = Result A E} (Ok x) (Ok y) → x ≡ y
same_ok x y h = cc

pub refuse_ok : {A E : Type 0} (refusal : Option Refused) (fault : Refused → E) (rest : Result A E) (x : A) → refuse refusal fault rest ≡ Ok x →
    (refusal ≡ None) × (rest ≡ Ok x)
refuse_ok None fault rest x h = (refl, h)
refuse_ok (Some refused) fault rest x h = cc

-- no call yet
pub AreAllHeld-none : (d : Domain) → IsLegalHistory d [] → AreAllHeld d []
AreAllHeld-none d legal = record { legal = legal; no_seal = refl; one_each = refl; few = omega arith }

-- one more stream
pub AreAllHeld-more : (d : Domain) (entries : List Recorded) (asked : Asked) → HistoryGoesOn → SealsAreCounted → GrantedIsHeld → GrantedFindsRoom →
    AreAllHeld d entries → refusal_of d (held_in d entries (seals entries)) asked ≡ None → AreAllHeld d (with_asked d entries asked)
AreAllHeld-more d entries asked goes_on counted grants finds all granted_is =
    let rows : List Row = held_in d entries (seals entries) in
    let count : length rows ≡ length entries = ap (λ c. length (held_in d entries c)) all.no_seal ∙ all.one_each in
    let room : length rows < 16384 = finds d rows asked granted_is in
    let one_more : length (with_asked d entries asked) ≡ length entries + 1 = length-append entries _ in
    let no_seal : seals (with_asked d entries asked) ≡ 0 = omega (arith, counted entries 0 (Admits asked) (reply_to d entries (Admits asked)), all.no_seal) in
    let state = grants d entries rows (next_number d entries) 0 asked all.legal (record { held = refl; number = refl }) granted_is in
    let held : held_in d (with_asked d entries asked) 0 ≡ rows ++ granted_row d (next_number d entries) (seals entries) asked ∷ [] =
    subst (λ c. held_in d (with_asked d entries asked) c ≡ rows ++ granted_row d (next_number d entries) (seals entries) asked ∷ []) no_seal state.held in
    let held_count : length (held_in d (with_asked d entries asked) 0) ≡ length rows + 1 = ap length held ∙ length-append rows _ in
    record {
      legal = goes_on d entries 0 (Admits asked) all.legal (omega (arith, all.no_seal)) (omega (arith, all.few, all.no_seal));
      no_seal = no_seal;
      one_each = omega arith;
      few = omega arith;
    }

-- if each stream is held, those held in cycle 0 are sound
pub AreAllHeld-sound : (d : Domain) (entries : List Recorded) → HeldAreSound → AreAllHeld d entries → AreHeld d (held_in d entries 0) (next_number d entries) 0
AreAllHeld-sound d entries sound all =
    let held : AreHeld d (held_in d entries (seals entries)) (next_number d entries) (seals entries) =
    sound d entries (held_in d entries (seals entries)) (next_number d entries) all.legal (record { held = refl; number = refl }) in
    subst (λ cycle. AreHeld d (held_in d entries cycle) (next_number d entries) cycle) all.no_seal held

-- what a granted call implies
module _ (old new : Administration) (asked : Asked) (receipt : Receipt) (answers : Answers old new 0 (Admits asked) (Ok receipt)) where
  -- the refusal of the request, if there is one
  abbrev refusal : Option Refused
  refusal = refusal_of old.domain (held_in old.domain old.entries (seals old.entries)) asked

  -- a granted call was due no refusal
  none_due : refusal ≡ None
  none_due = granted (next_number old.domain old.entries) (seals old.entries) receipt refusal (answers.due refl)

  -- and it is the history's next entry
  entered : new.entries ≡ with_asked old.domain old.entries asked
  entered = answers.entered refl ∙ ap (λ reply. with_entry old.entries 0 (Admits asked) reply) (answers.due refl)

  -- so the streams after it are admitted after that entry
  pub granted-goes_on : (index : ℕ) (more : List Asked) →
      admitted_from old.domain old.entries index (asked ∷ more) ≡ admitted_from old.domain new.entries (index + 1) more
  granted-goes_on index more =
      ap (λ (r : Option Refused). refuse r (stream_line index) (admitted_from old.domain (with_asked old.domain old.entries asked) (index + 1) more)) none_due
      ∙ ap (λ (entries : List Recorded). admitted_from old.domain entries (index + 1) more) (sym entered)

  -- so its stream is held with the others
  pub granted-held : HistoryGoesOn → SealsAreCounted → GrantedIsHeld → GrantedFindsRoom → AreAllHeld old.domain old.entries → AreAllHeld new.domain new.entries
  granted-held goes_on counted grants finds all =
      subst (λ d. AreAllHeld d new.entries) (sym answers.domain)
      (subst (λ entries. AreAllHeld old.domain entries) (sym entered) (AreAllHeld-more old.domain old.entries asked goes_on counted grants finds all none_due))

-- a refusal is entered, unless the history is full or an allocation fails
entered_unless : (refused : Refused) → refused ≢ HistoryFull → refused ≢ Memory → is_entered (Err refused) ≡ true
entered_unless BadName full memory = refl
entered_unless BadOctets full memory = refl
entered_unless BadPace full memory = refl
entered_unless (UnknownNode index) full memory = refl
entered_unless (BrokenPath index) full memory = refl
entered_unless (LoopingPath index) full memory = refl
entered_unless (NotATree branch) full memory = refl
entered_unless TooManyHops full memory = refl
entered_unless NameHeld full memory = refl
entered_unless TooManyStreams full memory = refl
entered_unless (BudgetShort link left) full memory = refl
entered_unless NotHeld full memory = refl
entered_unless AlreadyWithdrawn full memory = refl
entered_unless HistoryFull full memory = absurd (full refl)
entered_unless Memory full memory = absurd (memory refl)

-- a refusal is an allocation failure, or it isn't
pub is_memory : (refused : Refused) → (refused ≡ Memory) ⊎ (refused ≢ Memory)
is_memory Memory = inl refl
is_memory BadName = inr (λ h. cc)
is_memory BadOctets = inr (λ h. cc)
is_memory BadPace = inr (λ h. cc)
is_memory (UnknownNode index) = inr (λ h. cc)
is_memory (BrokenPath index) = inr (λ h. cc)
is_memory (LoopingPath index) = inr (λ h. cc)
is_memory (NotATree branch) = inr (λ h. cc)
is_memory TooManyHops = inr (λ h. cc)
is_memory NameHeld = inr (λ h. cc)
is_memory TooManyStreams = inr (λ h. cc)
is_memory (BudgetShort link left) = inr (λ h. cc)
is_memory NotHeld = inr (λ h. cc)
is_memory AlreadyWithdrawn = inr (λ h. cc)
is_memory HistoryFull = inr (λ h. cc)

-- an end with a line, or with the status of an allocation failure
pub IsRefused-line : {A : Type 0} (found : Result A (List ℕ)) (line : List ℕ) (stop : Stop) → found ≡ Err line → EndsWith 1 line stop → IsRefused found stop
IsRefused-line found line stop h e = record { statuses = e.statuses; line = λ one. h ∙ ap Err (sym (e.line_is one)); memory = e.memory }

-- an allocation failure ends with only its status
pub IsRefused-memory : {A : Type 0} (found : Result A (List ℕ)) (stop : Stop) → EndsWith 3 [] stop → IsRefused found stop
IsRefused-memory found stop e =
    let three : stop.status ≡ 3 = elim e.statuses [ inl three ↦ three | inr three ↦ three ] in
    record { statuses = inr three; line = λ one. absurd (omega (arith, three, one)); memory = e.memory }

-- a history in which each stream is held isn't full
never_full : (old new : Administration) (asked : Asked) → AreAllHeld old.domain old.entries → ¬ Answers old new 0 (Admits asked) (Err HistoryFull)
never_full old new asked all answers = omega (arith, answers.full.0 refl, all.few)

-- a refused stream ends the run with its line, or with the status of an allocation failure
pub refused_so : (d : Domain) (entries : List Recorded) (asked : Asked) (refused : Refused) (index : ℕ) (stop : Stop) (more : List Asked) →
    (refused ≢ Memory → refusal_of d (held_in d entries (seals entries)) asked ≡ Some refused) →
    (refused ≢ Memory → EndsWith 1 (stream_line index refused) stop) →
    (refused ≡ Memory → EndsWith 3 [] stop) → IsRefused (admitted_from d entries index (asked ∷ more)) stop
refused_so d entries asked refused index stop more due line memory =
    let found = admitted_from d entries index (asked ∷ more) in
    elim (is_memory refused) [
      | inl lacks ↦ IsRefused-memory found stop (memory lacks)
      | inr there ↦
          IsRefused-line found (stream_line index refused) stop
          (ap (λ r. refuse r (stream_line index) (admitted_from d (with_asked d entries asked) (index + 1) more)) (due there)) (line there)
    ]

-- what a refused call implies
pub refused-ends : (old new : Administration) (asked : Asked) (refused : Refused) (index : ℕ) (stop : Stop) (more : List Asked) →
    AreAllHeld old.domain old.entries → Answers old new 0 (Admits asked) (Err refused) → (refused ≢ Memory → EndsWith 1 (stream_line index refused) stop) →
    (refused ≡ Memory → EndsWith 3 [] stop) → IsRefused (admitted_from old.domain old.entries index (asked ∷ more)) stop
refused-ends old new asked refused index stop more all answers line memory =
    let full : refused ≢ HistoryFull = λ is. never_full old new asked all (subst (λ r. Answers old new 0 (Admits asked) (Err r)) is answers) in
    let refusal : Option Refused = refusal_of old.domain (held_in old.domain old.entries (seals old.entries)) asked in
    refused_so old.domain old.entries asked refused index stop more
    (λ there. refused_for (next_number old.domain old.entries) (seals old.entries) refused refusal (answers.due (entered_unless refused full there)))
    line memory

-- the domain and the streams that are read are a network's
pub plan_of_network-is : (network : NetworkDomain) (text : List ℕ) (domain : Domain) (requests : List PacedRequest) → domain ≡ domain_of network →
    requests_of_network network text ≡ Ok (map paced_text requests) → plan_of_network network text ≡ Ok (domain, map asked_paced requests)
plan_of_network-is network text domain requests domain_is requests_are =
    ap (λ found. and_then found (λ read. Ok (domain_of network, map asked_by read))) requests_are
    ∙ ap (λ asked. Ok (domain_of network, asked)) (asked_texts requests)
    ∙ ap (λ (d : Domain). Ok (d, map asked_paced requests)) (sym domain_is)
