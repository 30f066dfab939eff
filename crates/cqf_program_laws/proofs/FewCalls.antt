-- There is room for the calls of a script: it has no more Seals than cycles, and no more than 100,000 other calls.
use Rattle.std.proofs.Common.{◌≡◌, ◌∙◌, ◌+◌, ◌≤◌, ◌<◌, ◌∷◌, [], ℕ, Bool, true, false, List, Option, Some, None, Ok, Err, ap, arith, refl, subst, sym}
use Rattle.std.specs.Prelude.{codes, if◌then◌else◌, not, nat_le, ok_or, option_and_then, option_map}
use Rattle.std.proofs.lemmas.Bool.{leb-false}
use Rattle.std.proofs.lemmas.Option.{same_Some}
use Rattle.cqf_lists.specs.Lists.{or_else}
use Rattle.cqf_lists.specs.Results.{and_then}
use Rattle.cqf_model.specs.History.{Act, Admits, Asked, Seals, Withdraws, is_seal}
use Rattle.cqf_model.specs.Limits.{most_calls}
use Rattle.cqf_text.specs.Lines.{lines_of}
use Rattle.cqf_admission.specs.declared.faults.ScriptFault.{ScriptFault}
use Rattle.cqf_admission.specs.declared.faults.ScriptFault.TheVariants.{BadLine, TooMany, UnknownStream}
use Rattle.cqf_admission.specs.Lines.{Written, is_seal_line, order_after, order_of_line, seat_of_digit, word_after}
use Rattle.cqf_admission.specs.Script.{Called, act_for, administrators, call_of_line, call_of_order, call_of_seal, called_after, calls_from, others_among}
use Rattle.cqf_admission.specs.Script.{request_named, script_of, sealed_after, seals_among}
use Rattle.cqf_program_scenario.specs.Calls.{HasRoom}
use Rattle.cqf_program_plans.proofs.CompileLemmas.{same_ok}
use Rattle.cqf_program_laws.proofs.Legal.{others-cons, seals-cons}
use Rattle.cqf_program_laws.proofs.Scripts.{parted, stepped, there}

-- after this many Seals and other calls there is room for some more calls
record IsRoom (cycles sealed called : ℕ) (found : List Called) : Type 0 where
  seals : sealed + seals_among found ≤ cycles
  others : called + others_among found ≤ most_calls

-- a test that fails lets the rest through
passes : {A : Type 0} (test : Bool) (fault : ScriptFault) (x found : A) → (if test then Err fault else Ok x) ≡ Ok found → (test ≡ false) × (x ≡ found)
passes true fault x found h = absurd (cc)
passes false fault x found h = (refl, cc)

-- an order that is found calls for no Seal
abbrev CallsForNoSeal : List Asked → Option Written → Type 0
CallsForNoSeal requests found =
    (order : Written) → found ≡ Some order → (act : Act) → act_for requests order.wish order.name ≡ Some act → is_seal act ≡ false

request_calls : (found : Option Asked) (act : Act) → option_map (λ (asked : Asked). Admits asked) found ≡ Some act → is_seal act ≡ false
request_calls None act h = absurd (cc)
request_calls (Some asked) act h = let same : Admits asked ≡ act = cc in ap is_seal (sym same)

withdrawal_calls : (name : List ℕ) (act : Act) → ◌≡◌ {A = Option Act} (Some (Withdraws name)) (Some act) → is_seal act ≡ false
withdrawal_calls name act h = ap is_seal (sym (same_Some (Withdraws name) act h))

either_calls : (requests : List Asked) (a b : Option Written) → CallsForNoSeal requests a → CallsForNoSeal requests b → CallsForNoSeal requests (or_else a b)
either_calls requests None b first second = second
either_calls requests (Some order) b first second = first

word_calls : (requests : List Asked) (make : List ℕ → Written) (found : Option (List ℕ)) →
    ((word : List ℕ) (act : Act) → act_for requests (make word).wish (make word).name ≡ Some act → is_seal act ≡ false) →
    CallsForNoSeal requests (option_map make found)
word_calls requests make None each order e act h = absurd (cc)
word_calls requests make (Some word) each order e act h =
    each word act (ap (λ (o : Written). act_for requests o.wish o.name) (same_Some (make word) order e) ∙ h)

seat_calls : (requests : List Asked) (rest : List ℕ) (seat : Option ℕ) → CallsForNoSeal requests (option_and_then (order_after rest) seat)
seat_calls requests rest None = λ order e act h. absurd (cc)
seat_calls requests rest (Some seat) =
    either_calls requests _ _
    (word_calls requests _ (word_after (codes " admit ") rest) (λ word act h. request_calls (request_named requests word) act h))
    (word_calls requests _ (word_after (codes " withdraw ") rest) (λ word act h. withdrawal_calls word act h))

line_calls : (requests : List Asked) (line : List ℕ) → CallsForNoSeal requests (order_of_line line)
line_calls requests [] = λ order e act h. absurd (cc)
line_calls requests (digit ∷ rest) = seat_calls requests rest (seat_of_digit digit)

-- a call that is no Seal, before others
other_call : (cycles sealed called : ℕ) (call : Called) (rest : List Called) → is_seal call.1 ≡ false → IsRoom cycles sealed (called + 1) rest →
    IsRoom cycles sealed called (call ∷ rest)
other_call cycles sealed called call rest other room =
    let none : seals_among (call ∷ rest) ≡ 0 + seals_among rest = seals-cons call rest ∙ ap (λ b. (if b then 1 else 0) + seals_among rest) other in
    let one : others_among (call ∷ rest) ≡ 1 + others_among rest =
    others-cons call rest ∙ ap (λ b. (if not b then 1 else 0) + others_among rest) other in
    record { seals = omega (arith, room.seals, none); others = omega (arith, room.others, one) }

-- the call of a line before others, by whether it is the line of a Seal
line_before : (requests : List Asked) (seat cycles number sealed called : ℕ) (line : List ℕ) (call : Called) (rest : List Called) (b : Bool) →
    sealed ≤ cycles → called ≤ most_calls →
    (if b then call_of_seal seat cycles number sealed
    else and_then (ok_or (order_of_line line) (BadLine number)) (call_of_order requests number called)) ≡ Ok call →
    ((if b then sealed + 1 else sealed) ≤ cycles → (if b then called else called + 1) ≤ most_calls →
    IsRoom cycles (if b then sealed + 1 else sealed) (if b then called else called + 1) rest) → IsRoom cycles sealed called (call ∷ rest)
line_before requests seat cycles number sealed called line call rest true low few h next =
    let seal : Called = (seat, Seals) in
    let p = passes {A = Called} (nat_le cycles sealed) (TooMany number) seal call h in
    let below : sealed < cycles = leb-false cycles sealed p.0 in
    let room = next (omega (arith, below)) few in
    let one : seals_among (seal ∷ rest) ≡ 1 + seals_among rest = seals-cons seal rest in
    let none : others_among (seal ∷ rest) ≡ 0 + others_among rest = others-cons seal rest in
    subst (λ (c : Called). IsRoom cycles sealed called (c ∷ rest)) p.1
    (record { seals = omega (arith, room.seals, one); others = omega (arith, room.others, none) })
line_before requests seat cycles number sealed called line call rest false low few h next =
    let order = stepped (ok_or (order_of_line line) (BadLine number)) (call_of_order requests number called) call h in
    let t = stepped {B = Called} (ok_or (act_for requests order.0.wish order.0.name) (UnknownStream number))
    (λ (act : Act). if nat_le most_calls called then Err (TooMany number) else Ok (order.0.seat, act)) call order.2 in
    let made : Called = (order.0.seat, t.0) in
    let p = passes {A = Called} (nat_le most_calls called) (TooMany number) made call t.2 in
    let below : called < most_calls = leb-false most_calls called p.0 in
    let written = there (order_of_line line) (BadLine number) order.0 order.1 in
    let act = there (act_for requests order.0.wish order.0.name) (UnknownStream number) t.0 t.1 in
    subst (λ (c : Called). IsRoom cycles sealed called (c ∷ rest)) p.1
    (other_call cycles sealed called made rest (line_calls requests line order.0 written t.0 act) (next low (omega (arith, below))))

-- so there is room for the calls of some lines
lines_have_room : (requests : List Asked) (seat cycles number sealed called : ℕ) (lines : List (List ℕ)) (found : List Called) → sealed ≤ cycles →
    called ≤ most_calls → calls_from requests seat cycles number sealed called lines ≡ Ok found → IsRoom cycles sealed called found
lines_have_room requests seat cycles number sealed called [] found low few h =
    let none : [] ≡ found = same_ok {A = List Called} [] found h in
    subst (λ (xs : List Called). IsRoom cycles sealed called xs) none (record { seals = omega (arith, low); others = omega (arith, few) })
lines_have_room requests seat cycles number sealed called (line ∷ lines) found low few h =
    let two = parted (call_of_line requests seat cycles number sealed called line)
    (calls_from requests seat cycles (number + 1) (sealed_after sealed line) (called_after called line) lines) found h in
    subst (λ (xs : List Called). IsRoom cycles sealed called xs) (sym two.4)
    (line_before requests seat cycles number sealed called line two.0 two.1 (is_seal_line line) low few two.2
    (λ low_next few_next.
    lines_have_room requests seat cycles (number + 1) (sealed_after sealed line) (called_after called line) lines two.1 low_next few_next two.3))

pub calls_have_room : (requests : List Asked) (cycles : ℕ) (text : List ℕ) (found : List Called) → script_of requests cycles text ≡ Ok found →
    HasRoom cycles [] found
calls_have_room requests cycles text found h =
    let room = lines_have_room requests (administrators (lines_of text)) cycles 1 0 0 (lines_of text) found (omega arith) (omega arith) h in
    record { for_seals = omega (arith, room.seals); for_others = omega (arith, room.others) }
