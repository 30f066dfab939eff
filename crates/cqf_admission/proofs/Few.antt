-- A script that is read makes no more Seals than cycles, and no more than 100,000 other calls.
use Rattle.std.proofs.Common.{◌≡◌, ◌∙◌, ◌+◌, ◌≤◌, ◌<◌, ◌∷◌, [], ℕ, Bool, true, false, List, Option, Some, None, Result, Ok, Err, arith, ap, sym, subst, refl}
use Rattle.std.specs.Prelude.{if◌then◌else◌, not, nat_le, ok_or, option_map}
use Rattle.std.proofs.lemmas.Bool.{leb-false}
use Rattle.std.proofs.lemmas.List.Sums.{sum_by-cons}
use Rattle.cqf_lists.specs.Results.{and_then}
use Rattle.cqf_topology.specs.Fields.{and_first}
use Rattle.cqf_model.specs.History.{Act, Admits, Asked, Seals, Withdraws, is_seal}
use Rattle.cqf_text.specs.Lines.{lines_of}
use Rattle.cqf_admission.specs.declared.faults.ScriptFault.{ScriptFault}
use Rattle.cqf_admission.specs.declared.faults.ScriptFault.TheVariants.{BadLine, UnknownStream, TooMany}
use Rattle.cqf_admission.specs.declared.lines.Wish.{Wish}
use Rattle.cqf_admission.specs.declared.lines.Wish.TheVariants.{Admit, Withdraw}
use Rattle.cqf_admission.specs.Lines.{Written, is_seal_line, order_of_line}
use Rattle.cqf_model.specs.Limits.{most_calls}
use Rattle.cqf_admission.specs.Script.{AreFew, Called, act_for, administrators, call_of_line, call_of_order}
use Rattle.cqf_admission.specs.Script.{call_of_seal, called_after, calls_from, others_among, request_named}
use Rattle.cqf_admission.specs.Script.{script_of, sealed_after, seals_among}

-- the results of a step and of the rest, if both have one
pub parted : {A E : Type 0} (first : Result A E) (rest : Result (List A) E) (found : List A) → and_first first rest ≡ Ok found →
    (x : A) × (xs : List A) × (first ≡ Ok x) × (rest ≡ Ok xs) × (found ≡ x ∷ xs)
parted (Err e) rest found h = absurd (cc)
parted (Ok x) (Err e) found h = absurd (cc)
parted (Ok x) (Ok xs) found h = (x, xs, refl, refl, cc)

-- the result of a step that another step followed
pub stepped : {A B E : Type 0} (first : Result A E) (next : A → Result B E) (found : B) → and_then first next ≡ Ok found →
    (x : A) × (first ≡ Ok x) × (next x ≡ Ok found)
stepped (Err e) next found h = absurd (cc)
stepped (Ok x) next found h = (x, refl, h)

-- the value that was found
pub there : {A E : Type 0} (found : Option A) (fault : E) (x : A) → ok_or found fault ≡ Ok x → found ≡ Some x
there None fault x h = absurd (cc)
there (Some y) fault x h = cc

-- a test that fails lets the rest through
pub unless : {A : Type 0} (test : Bool) (fault : ScriptFault) (x found : A) → (if test then Err fault else Ok x) ≡ Ok found → (test ≡ false) × (found ≡ x)
unless true fault x found h = absurd (cc)
unless false fault x found h = (refl, cc)

-- the act of a request is not a Seal
admitted : (found : Option Asked) (act : Act) → option_map (λ (asked : Asked). Admits asked) found ≡ Some act → is_seal act ≡ false
admitted None act h = absurd (cc)
admitted (Some asked) act h =
    let same : Admits asked ≡ act = cc in ap is_seal (sym same)

-- an order is no Seal
ordered : (requests : List Asked) (wish : Wish) (name : List ℕ) (act : Act) → act_for requests wish name ≡ Some act → is_seal act ≡ false
ordered requests Admit name act h = admitted (request_named requests name) act h
ordered requests Withdraw name act h =
    let same : Withdraws name ≡ act = cc in ap is_seal (sym same)

-- what the call of a line may be, after this many Seals and other calls
record IsCounted (cycles sealed called : ℕ) (line : List ℕ) (call : Called) : Type 0 where
  seal : is_seal call.1 ≡ is_seal_line line
  few_seals : is_seal_line line ≡ true → sealed < cycles
  few_others : is_seal_line line ≡ false → called < 100000

-- the line of a Seal
counted-seal : (seat cycles number sealed called : ℕ) (line : List ℕ) (call : Called) → is_seal_line line ≡ true →
    call_of_seal seat cycles number sealed ≡ Ok call → IsCounted cycles sealed called line call
counted-seal seat cycles number sealed called line call is h =
    let found = unless (nat_le cycles sealed) (TooMany number) (seat, Seals) call h in
    record {
      seal = ap (λ (c : Called). is_seal c.1) found.1 ∙ sym is;
      few_seals = λ _. leb-false cycles sealed found.0;
      few_others = λ off. absurd (cc);
    }

-- the line of an order
counted-order : (requests : List Asked) (cycles number sealed called : ℕ) (line : List ℕ) (order : Written) (call : Called) → is_seal_line line ≡ false →
    call_of_order requests number called order ≡ Ok call → IsCounted cycles sealed called line call
counted-order requests cycles number sealed called line order call off h =
    let step = stepped (ok_or (act_for requests order.wish order.name) (UnknownStream number))
    (λ act. if nat_le most_calls called then Err (TooMany number) else Ok (order.seat, act)) call h in
    let act : Act = step.0 in
    let found = unless (nat_le most_calls called) (TooMany number) (order.seat, act) call step.2 in
    let none = ordered requests order.wish order.name act (there (act_for requests order.wish order.name) (UnknownStream number) act step.1) in
    record {
      seal = ap (λ (c : Called). is_seal c.1) found.1 ∙ none ∙ sym off;
      few_seals = λ is. absurd (cc);
      few_others = λ _. leb-false most_calls called found.0;
    }

-- either kind of line
counted-line : (requests : List Asked) (seat cycles number sealed called : ℕ) (line : List ℕ) (call : Called) (test : Bool) → is_seal_line line ≡ test →
    call_of_line requests seat cycles number sealed called line ≡ Ok call → IsCounted cycles sealed called line call
counted-line requests seat cycles number sealed called line call true is h =
    counted-seal seat cycles number sealed called line call is
    (ap (λ b. if b then call_of_seal seat cycles number sealed
    else and_then (ok_or (order_of_line line) (BadLine number)) (call_of_order requests number called)) (sym is) ∙ h)
counted-line requests seat cycles number sealed called line call false off h =
    let step = stepped (ok_or (order_of_line line) (BadLine number)) (call_of_order requests number called) call
    (ap (λ b. if b then call_of_seal seat cycles number sealed
    else and_then (ok_or (order_of_line line) (BadLine number)) (call_of_order requests number called)) (sym off) ∙ h) in
    counted-order requests cycles number sealed called line step.0 call off step.2

-- the calls of the lines from one on, after this many others
record AreSoFew (cycles sealed called : ℕ) (found : List Called) : Type 0 where
  seals : sealed + seals_among found ≤ cycles
  others : called + others_among found ≤ 100000

-- the same with one more call before them
AreSoFew-more : (cycles sealed called : ℕ) (line : List ℕ) (call : Called) (found : List Called) (test : Bool) → is_seal_line line ≡ test →
    IsCounted cycles sealed called line call → AreSoFew cycles (sealed_after sealed line) (called_after called line) found →
    AreSoFew cycles sealed called (call ∷ found)
AreSoFew-more cycles sealed called line call found true is c few =
    let seal : is_seal call.1 ≡ true = c.seal ∙ is in
    let one : seals_among (call ∷ found) ≡ 1 + seals_among found =
    sum_by-cons (λ (x : Called). if is_seal x.1 then 1 else 0) call found ∙ ap (λ b. (if b then 1 else 0) + seals_among found) seal in
    let none : others_among (call ∷ found) ≡ 0 + others_among found =
    sum_by-cons (λ (x : Called). if not (is_seal x.1) then 1 else 0) call found ∙ ap (λ b. (if not b then 1 else 0) + others_among found) seal in
    let following : sealed_after sealed line ≡ sealed + 1 = ap (λ b. if b then sealed + 1 else sealed) is in
    let still : called_after called line ≡ called = ap (λ b. if b then called else called + 1) is in
    record { seals = omega (arith, few.seals, one, following); others = omega (arith, few.others, none, still) }
AreSoFew-more cycles sealed called line call found false off c few =
    let other : is_seal call.1 ≡ false = c.seal ∙ off in
    let none : seals_among (call ∷ found) ≡ 0 + seals_among found =
    sum_by-cons (λ (x : Called). if is_seal x.1 then 1 else 0) call found ∙ ap (λ b. (if b then 1 else 0) + seals_among found) other in
    let one : others_among (call ∷ found) ≡ 1 + others_among found =
    sum_by-cons (λ (x : Called). if not (is_seal x.1) then 1 else 0) call found ∙ ap (λ b. (if not b then 1 else 0) + others_among found) other in
    let still : sealed_after sealed line ≡ sealed = ap (λ b. if b then sealed + 1 else sealed) off in
    let following : called_after called line ≡ called + 1 = ap (λ b. if b then called else called + 1) off in
    record { seals = omega (arith, few.seals, none, still); others = omega (arith, few.others, one, following) }

-- few calls stay within the bounds
AreSoFew-following : (cycles sealed called : ℕ) (line : List ℕ) (call : Called) (test : Bool) → is_seal_line line ≡ test →
    IsCounted cycles sealed called line call →
    sealed ≤ cycles → called ≤ 100000 → (sealed_after sealed line ≤ cycles) × (called_after called line ≤ 100000)
AreSoFew-following cycles sealed called line call true is c s o =
    let following : sealed_after sealed line ≡ sealed + 1 = ap (λ b. if b then sealed + 1 else sealed) is in
    let still : called_after called line ≡ called = ap (λ b. if b then called else called + 1) is in
    (omega (arith, c.few_seals is, following), omega (arith, o, still))
AreSoFew-following cycles sealed called line call false off c s o =
    let still : sealed_after sealed line ≡ sealed = ap (λ b. if b then sealed + 1 else sealed) off in
    let following : called_after called line ≡ called + 1 = ap (λ b. if b then called else called + 1) off in
    (omega (arith, s, still), omega (arith, c.few_others off, following))

-- the calls of some lines are few
few_from : (requests : List Asked) (seat cycles number sealed called : ℕ) (lines : List (List ℕ)) (found : List Called) → sealed ≤ cycles → called ≤ 100000 →
    calls_from requests seat cycles number sealed called lines ≡ Ok found → AreSoFew cycles sealed called found
few_from requests seat cycles number sealed called [] found s o h =
    let none : [] ≡ found = cc in
    subst (λ (xs : List Called). AreSoFew cycles sealed called xs) none (record { seals = omega (arith, s); others = omega (arith, o) })
few_from requests seat cycles number sealed called (line ∷ lines) found s o h =
    let two = parted (call_of_line requests seat cycles number sealed called line)
    (calls_from requests seat cycles (number + 1) (sealed_after sealed line) (called_after called line) lines) found h in
    let call : Called = two.0 in
    let rest : List Called = two.1 in
    let counted = counted-line requests seat cycles number sealed called line call (is_seal_line line) refl two.2 in
    let bounds = AreSoFew-following cycles sealed called line call (is_seal_line line) refl counted s o in
    let few = few_from requests seat cycles (number + 1) (sealed_after sealed line) (called_after called line) lines rest bounds.0 bounds.1 two.3 in
    subst (λ (xs : List Called). AreSoFew cycles sealed called xs) (sym two.4)
    (AreSoFew-more cycles sealed called line call rest (is_seal_line line) refl counted few)

-- so are those of a script
pub AreFew-script : (requests : List Asked) (cycles : ℕ) (text : List ℕ) (found : List Called) → script_of requests cycles text ≡ Ok found →
    AreFew cycles found
AreFew-script requests cycles text found h =
    let few = few_from requests (administrators (lines_of text)) cycles 1 0 0 (lines_of text) found (omega arith) (omega arith) h in
    record { for_seals = omega (arith, few.seals); for_others = omega (arith, few.others) }
