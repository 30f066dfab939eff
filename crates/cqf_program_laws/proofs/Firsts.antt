-- The listed streams are all that a script can have admitted.
use Rattle.std.proofs.Common.{◌≡◌, ◌∙◌, ◌+◌, ◌∷◌, [], ℕ, Bool, true, false, Contains, List, Some, None, Option, Result, Ok, Err, ap, filter, find, if◌then◌else◌, inl, inr, refl, subst, sym}
use Rattle.std.specs.Prelude.{codes, cond, fold, nat_le, ok_or, option_map}
use Rattle.std.specs.List.{list_any}
use Rattle.std.specs.Option.{option_and_then, option_or}
use Rattle.std.proofs.lemmas.Bool.{cases_Bool, cond-false, cond-true}
use Rattle.std.proofs.lemmas.List.Folds.{find-append}
use Rattle.std.proofs.lemmas.Option.{same_Some}
use Rattle.cqf_lists.specs.Lists.{each_once, or_else}
use Rattle.cqf_lists.proofs.EachOnce.{keep, kept_with, once_apart}
use Rattle.cqf_lists.proofs.Members.{any_member, find_member, find_some}
use Rattle.cqf_lists.proofs.Pairs.{one_of_pairs}
use Rattle.cqf_lists.specs.Results.{and_then}
use Rattle.cqf_units.specs.Name.{is_name}
use Rattle.cqf_model.specs.Domain.{is_text}
use Rattle.cqf_model.specs.History.{Act, Admits, Asked}
use Rattle.cqf_model.specs.Limits.{most_calls}
use Rattle.cqf_model.proofs.Texts.{is_text_itself, is_text_same}
use Rattle.cqf_text.specs.Lines.{lines_of}
use Rattle.cqf_topology.specs.Fields.{and_first}
use Rattle.cqf_admission.specs.declared.faults.ScriptFault.{ScriptFault}
use Rattle.cqf_admission.specs.declared.faults.ScriptFault.TheVariants.{BadLine, TooMany, UnknownStream}
use Rattle.cqf_admission.specs.Lines.{Written, is_seal_line, order_after, order_of_line, seat_of_digit, word_after}
use Rattle.cqf_admission.specs.Script.{Called, act_for, administrators, call_of_line, call_of_order, call_of_seal, called_after, calls_from, request_named, script_of, sealed_after}
use Rattle.cqf_program_summary.specs.Summary.Written.{written_streams}

-- what is found among some, or else among others
or_none : {X : Type 0} (o : Option X) → option_or o None ≡ o
or_none None = refl
or_none (Some x) = refl

or_apart : {X : Type 0} (a b c : Option X) → option_or (option_or a b) c ≡ option_or a (option_or b c)
or_apart None b c = refl
or_apart (Some x) b c = refl

or_found : {X : Type 0} (a b c : Option X) (x : X) → a ≡ Some x → option_or a b ≡ option_or a c
or_found a b c x e = ap (λ o. option_or o b) e ∙ sym (ap (λ o. option_or o c) e)

-- if a test doesn't distinguish what is the same, it finds the first of the list among the first of each
module _ {X : Type 0} (same : X → X → Bool) (p : X → Bool) (stable : (a b : X) → same a b ≡ true → p b ≡ true → p a ≡ true) where
  find_kept : (kept : List X) (x : X) (more : Option X) → option_or (find p (keep same kept x)) more ≡ option_or (find p kept) (cond (p x) (Some x) more)
  find_kept kept x more = elim (cases_Bool (list_any (λ y. same y x) kept)) [
    | inr new ↦
        ap (λ (b : Bool). option_or (find p (kept_with b kept x)) more) new
        ∙ ap (λ o. option_or o more) (find-append p kept (x ∷ []))
        ∙ or_apart (find p kept) (find p (x ∷ [])) more
        ∙ ap (option_or (find p kept)) (passes (p x))
    | inl known ↦ ap (λ (b : Bool). option_or (find p (kept_with b kept x)) more) known ∙ elim (cases_Bool (p x)) [
      | inr fails ↦ ap (option_or (find p kept)) (sym (cond-false (p x) (Some x) more fails))
      | inl own ↦ (let other = any_member (λ y. same y x) kept known in
          let found = find_some p kept other.0 other.1 (stable other.0 x other.2 own) in
          or_found (find p kept) more (cond (p x) (Some x) more) found.0 found.1)
    ]
  ]
    where
      passes : (b : Bool) → option_or (cond b (Some x) None) more ≡ cond b (Some x) more
      passes true = refl
      passes false = refl

  find_folded : (kept xs : List X) → find p (fold (keep same) kept xs) ≡ option_or (find p kept) (find p xs)
  find_folded kept [] = sym (or_none (find p kept))
  find_folded kept (x ∷ xs) = find_folded (keep same kept x) xs ∙ find_kept kept x (find p xs)

  pub find_once : (xs : List X) → find p (each_once same xs) ≡ find p xs
  find_once xs = find_folded [] xs

-- so the first of each name are all that a script can name
abbrev pub same_name : Asked → Asked → Bool
same_name a b = is_text a.name b.name

abbrev pub firsts : List Asked → List Asked
firsts requests = each_once same_name requests

named_first : (requests : List Asked) (name : List ℕ) → request_named requests name ≡ request_named (firsts requests) name
named_first requests name =
    sym (find_once same_name (λ (a : Asked). is_text a.name name)
    (λ a b alike own. subst (λ (n : List ℕ). is_text n name ≡ true) (sym (is_text_same a.name b.name alike)) own) requests)

-- an order that is found calls for the same
abbrev AgreesOn : List Asked → Option Written → Type 0
AgreesOn requests found = (order : Written) → found ≡ Some order →
    act_for requests order.wish order.name ≡ act_for (firsts requests) order.wish order.name

either_agrees : (requests : List Asked) (a b : Option Written) → AgreesOn requests a → AgreesOn requests b → AgreesOn requests (or_else a b)
either_agrees requests None b first second = second
either_agrees requests (Some order) b first second = first

word_agrees : (requests : List Asked) (make : List ℕ → Written) (found : Option (List ℕ)) →
    ((word : List ℕ) → act_for requests (make word).wish (make word).name ≡ act_for (firsts requests) (make word).wish (make word).name) →
    AgreesOn requests (option_map make found)
word_agrees requests make None each order e = absurd (cc)
word_agrees requests make (Some word) each order e =
    subst (λ (o : Written). act_for requests o.wish o.name ≡ act_for (firsts requests) o.wish o.name) (same_Some (make word) order e) (each word)

seat_agrees : (requests : List Asked) (rest : List ℕ) (seat : Option ℕ) → AgreesOn requests (option_and_then (order_after rest) seat)
seat_agrees requests rest None = λ order e. absurd (cc)
seat_agrees requests rest (Some seat) =
    either_agrees requests _ _
    (word_agrees requests _ (word_after (codes " admit ") rest)
    (λ word. ap (option_map (λ (asked : Asked). Admits asked)) (named_first requests word)))
    (word_agrees requests _ (word_after (codes " withdraw ") rest) (λ word. refl))

line_agrees : (requests : List Asked) (line : List ℕ) → AgreesOn requests (order_of_line line)
line_agrees requests [] = λ order e. absurd (cc)
line_agrees requests (digit ∷ rest) = seat_agrees requests rest (seat_of_digit digit)

line_first : (requests : List Asked) (seat cycles number sealed called : ℕ) (line : List ℕ) →
    call_of_line requests seat cycles number sealed called line ≡ call_of_line (firsts requests) seat cycles number sealed called line
line_first requests seat cycles number sealed called line =
    ap (λ (more : Result Called ScriptFault). if is_seal_line line then call_of_seal seat cycles number sealed else more)
    (by (order_of_line line) (line_agrees requests line))
  where
    by : (found : Option Written) → AgreesOn requests found →
        and_then (ok_or found (BadLine number)) (call_of_order requests number called)
        ≡ and_then (ok_or found (BadLine number)) (call_of_order (firsts requests) number called)
    by None agrees = refl
    by (Some order) agrees =
        ap {B = Result Called ScriptFault} (λ (o : Option Act). and_then (ok_or o (UnknownStream number)) (λ (act : Act).
        if nat_le most_calls called then Err (TooMany number) else Ok (order.seat, act))) (agrees order refl)

calls_first : (requests : List Asked) (seat cycles number sealed called : ℕ) (lines : List (List ℕ)) →
    calls_from requests seat cycles number sealed called lines ≡ calls_from (firsts requests) seat cycles number sealed called lines
calls_first requests seat cycles number sealed called [] = refl
calls_first requests seat cycles number sealed called (line ∷ lines) = λ i.
    and_first (line_first requests seat cycles number sealed called line i)
    (calls_first requests seat cycles (number + 1) (sealed_after sealed line) (called_after called line) lines i)

pub script_first : (requests : List Asked) (cycles : ℕ) (text : List ℕ) → script_of requests cycles text ≡ script_of (firsts requests) cycles text
script_first requests cycles text = calls_first requests (administrators (lines_of text)) cycles 1 0 0 (lines_of text)

-- a test that passes only what is kept finds the same among what is kept
find_filtered : {X : Type 0} (p q : X → Bool) (xs : List X) → ((x : X) → p x ≡ true → q x ≡ true) → find p (filter q xs) ≡ find p xs
find_filtered p q [] enough = refl
find_filtered p q (x ∷ xs) enough = by (find_filtered p q xs enough)
  where
    passed_over : find p (filter q xs) ≡ find p xs → (b : Bool) → p x ≡ false → find p (if b then x ∷ filter q xs else filter q xs) ≡ find p xs
    passed_over rest true other = cond-false (p x) (Some x) (find p (filter q xs)) other ∙ rest
    passed_over rest false other = rest

    by : find p (filter q xs) ≡ find p xs → find p (filter q (x ∷ xs)) ≡ find p (x ∷ xs)
    by rest = elim (cases_Bool (p x)) [
      | inl own ↦
          ap (λ (b : Bool). find p (if b then x ∷ filter q xs else filter q xs)) (enough x own)
          ∙ cond-true (p x) (Some x) (find p (filter q xs)) own ∙ sym (cond-true (p x) (Some x) (find p xs) own)
      | inr other ↦ passed_over rest (q x) other ∙ sym (cond-false (p x) (Some x) (find p xs) other)
    ]

-- so each first stream whose name has the form of a name is listed
pub written_has : (requests : List Asked) (asked : Asked) → Contains (firsts requests) asked → is_name asked.name ≡ true →
    Contains (written_streams requests) asked
written_has requests asked c named = (find_member (λ (a : Asked). is_text a.name asked.name) (written_streams requests) asked reported).0
  where
    stable : (a b : Asked) → is_text a.name b.name ≡ true → is_text b.name asked.name ≡ true → is_text a.name asked.name ≡ true
    stable a b alike it = subst (λ (n : List ℕ). is_text n asked.name ≡ true) (sym (is_text_same a.name b.name alike)) it

    -- no other first one has the name
    only : (y : Asked) → Contains (firsts requests) y → is_text y.name asked.name ≡ true → y ≡ asked
    only y k it = one_of_pairs (λ (a b : Asked). is_text a.name b.name ≡ false) (firsts requests) y asked (once_apart same_name requests) k c
        (λ differ. clash (sym it ∙ differ))
        (λ differ. clash (sym (ap (λ (n : List ℕ). is_text asked.name n) (is_text_same y.name asked.name it) ∙ is_text_itself asked.name) ∙ differ))
      where
        clash : true ≡ false → ⊥
        clash e = absurd cc

    found : find (λ (a : Asked). is_text a.name asked.name) (firsts requests) ≡ Some asked
    found =
        let some = find_some (λ (a : Asked). is_text a.name asked.name) (firsts requests) asked c (is_text_itself asked.name) in
        let member = find_member (λ (a : Asked). is_text a.name asked.name) (firsts requests) some.0 some.1 in
        some.1 ∙ ap (λ (y : Asked). Some y) (only some.0 member.0 member.1)

    reported : find (λ (a : Asked). is_text a.name asked.name) (written_streams requests) ≡ Some asked
    reported =
        find_once same_name (λ (a : Asked). is_text a.name asked.name) stable (filter (λ (a : Asked). is_name a.name) requests)
        ∙ find_filtered (λ (a : Asked). is_text a.name asked.name) (λ (a : Asked). is_name a.name) requests
        (λ a it. ap is_name (is_text_same a.name asked.name it) ∙ named)
        ∙ sym (find_once same_name (λ (a : Asked). is_text a.name asked.name) stable requests)
        ∙ found
