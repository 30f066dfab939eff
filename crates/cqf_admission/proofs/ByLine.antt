-- A script is read line by line: what each line calls for, or its fault.
use Rattle.std.proofs.Common.{◌≡◌, ℕ, ◌+◌, ◌<◌, Bool, true, false, cond, List, Option, Some, None, Result, Ok, Err, length, sym, refl, ap, ap₂, ◌∙◌, inl, inr}
use Rattle.std.proofs.Common.{arith, subst}
use Rattle.std.specs.Prelude.{[], ◌∷◌, if◌then◌else◌, count_by, max, nat_le, not, ok_or, option_map, slice_get, take, zero, suc, Contains}
use Rattle.std.proofs.lemmas.Bool.{cases_lt, le-leb, leb-false, leb-true, lt-leb}
use Rattle.std.proofs.lemmas.List.Sums.{sum_by-cons}
use Rattle.std.proofs.lemmas.Option.{same_Some}
use Rattle.cqf_lists.specs.Results.{and_then}
use Rattle.cqf_lists.proofs.Least.{unmapped_none}
use Rattle.cqf_lists.proofs.Members.{contains_cases, contains_here, contains_later, contains_none}
use Rattle.cqf_topology.specs.Fields.{and_first}
use Rattle.cqf_text.specs.Lines.{lines_of}
use Rattle.cqf_model.specs.History.{Act, Admits, Asked, Seals, Withdraws}
use Rattle.cqf_admission.specs.declared.faults.ScriptFault.{ScriptFault}
use Rattle.cqf_admission.specs.declared.faults.ScriptFault.TheVariants.{BadLine, UnknownStream, TooMany, Memory}
use Rattle.cqf_admission.specs.declared.lines.Wish.{Wish}
use Rattle.cqf_admission.specs.declared.lines.Wish.TheVariants.{Admit, Withdraw}
use Rattle.cqf_admission.specs.Lines.{Written, is_seal_line, order_of_line}
use Rattle.cqf_admission.specs.LineLaws.{AdministratorsAreCounted, AreTheAdministrators, CallsFor, FaultsAreOfTheirLines, HasGreatest}
use Rattle.cqf_admission.specs.LineLaws.{HasNoForm, IsActFor, IsFaultOfLine, ScriptsAreTheirLines, WritesOrder}
use Rattle.cqf_admission.specs.LineLaws.{other_lines_before, seal_lines_before}
use Rattle.cqf_model.specs.Limits.{most_calls}
use Rattle.cqf_admission.specs.Script.{Called, act_for, administrators, call_of_line, call_of_order, call_of_seal, called_after, calls_from}
use Rattle.cqf_admission.specs.Script.{request_named, sealed_after, seats_up_to}
use Rattle.cqf_admission.proofs.Few.{parted, stepped, there, unless}

-- ---- what is called for

-- an act that is found is the one called for
act_found : (requests : List Asked) (wish : Wish) (name : List ℕ) (act : Act) → act_for requests wish name ≡ Some act → IsActFor requests wish name act
act_found requests Admit name act e = by_request (request_named requests name) refl e
  where
    -- a request with the name exists
    by_request : (o : Option Asked) → request_named requests name ≡ o → option_map (λ (asked : Asked). Admits asked) o ≡ Some act →
        IsActFor requests Admit name act
    by_request None f g = absurd cc
    by_request (Some asked) f g = (asked, f, sym (same_Some (Admits asked) act g))
act_found requests Withdraw name act e = sym (same_Some (Withdraws name) act e)

-- the act called for is found
act_is : (requests : List Asked) (wish : Wish) (name : List ℕ) (act : Act) → IsActFor requests wish name act → act_for requests wish name ≡ Some act
act_is requests Admit name act w = ap (option_map (λ (asked : Asked). Admits asked)) w.1 ∙ ap (λ (a : Act). Some a) (sym w.2)
act_is requests Withdraw name act w = ap (λ (a : Act). Some a) (sym w)

-- no act is found if a stream is to be admitted that isn't among the requests
no_act : (requests : List Asked) (wish : Wish) (name : List ℕ) → act_for requests wish name ≡ None → (wish ≡ Admit) × (request_named requests name ≡ None)
no_act requests Admit name e = (refl, unmapped_none (λ (asked : Asked). Admits asked) (request_named requests name) e)
no_act requests Withdraw name e = absurd cc

-- ---- one line

-- a refusal by a test
refused : {A : Type 0} (test : Bool) (given fault : ScriptFault) (x : A) → (if test then Err given else Ok x) ≡ Err fault → (test ≡ true) × (given ≡ fault)
refused true given fault x h = (refl, cc)
refused false given fault x h = absurd cc

-- a result that is a fault, of a given type
abbrev failed : (A : Type 0) → ScriptFault → Result A ScriptFault
failed A fault = Err fault

-- results that are faults are equal if the faults are
same_fault : (A : Type 0) (a b : ScriptFault) → failed A a ≡ failed A b → a ≡ b
same_fault A a b h = cc

module _ (requests : List Asked) (seat cycles number sealed called : ℕ) (line : List ℕ) where
  -- what a line gives, by whether it is a Seal
  abbrev by_seal : Bool → Result Called ScriptFault
  by_seal b =
      if b then call_of_seal seat cycles number sealed
      else and_then (ok_or (order_of_line line) (BadLine number)) (call_of_order requests number called)

  -- what a line that isn't a Seal gives, by whether it is an order
  abbrev by_order : Option Written → Result Called ScriptFault
  by_order o = and_then (ok_or o (BadLine number)) (call_of_order requests number called)

  -- what an order gives, by whether it has an act
  abbrev by_act : Written → Option Act → Result Called ScriptFault
  by_act order a =
      and_then (ok_or a (UnknownStream number)) (λ act. if nat_le most_calls called then Err (TooMany number) else Ok (order.seat, act))

  -- a Seal gives its call, or is one too many
  seal_line : is_seal_line line ≡ true → call_of_line requests seat cycles number sealed called line ≡ call_of_seal seat cycles number sealed
  seal_line t = ap by_seal t

  -- an order gives what it calls for
  order_line : (order : Written) → WritesOrder line order →
      call_of_line requests seat cycles number sealed called line ≡ by_act order (act_for requests order.wish order.name)
  order_line order w = ap by_seal w.no_seal ∙ ap by_order w.written

  -- another line gives nothing
  bad_line : HasNoForm line → call_of_line requests seat cycles number sealed called line ≡ Err (BadLine number)
  bad_line h = ap by_seal h.no_seal ∙ ap by_order h.no_order

module _ (requests : List Asked) (cycles : ℕ) (lines : List (List ℕ)) (index : ℕ) (line : List ℕ) where
  -- what the line at an index gives
  abbrev given : Result Called ScriptFault
  given = call_of_line requests (administrators lines) cycles (index + 1) (seal_lines_before lines index) (other_lines_before lines index) line

  -- if the line calls for something, that is its call
  calls_to : (call : Called) → CallsFor requests cycles lines index line call → given ≡ Ok call
  calls_to call w =
      let seat = administrators lines in
      let number = index + 1 in
      let sealed = seal_lines_before lines index in
      let called = other_lines_before lines index in
      elim w [
        | inl s ↦ (
            let same : (seat, Seals) ≡ call = λ i. (sym s.seat i, sym s.act i) in
            seal_line requests seat cycles number sealed called line s.seal
            ∙ ap (λ (b : Bool). if b then Err (TooMany number) else Ok (seat, Seals)) (lt-leb cycles sealed s.room)
            ∙ ap (λ (c : Called). Ok c) same)
        | inr m ↦ (
            let same : (m.order.seat, call.1) ≡ call = λ i. (sym m.seat i, call.1) in
            order_line requests seat cycles number sealed called line m.order m.writes
            ∙ ap (by_act requests seat cycles number sealed called line m.order) (act_is requests m.order.wish m.order.name call.1 m.act)
            ∙ ap (λ (b : Bool). if b then Err (TooMany number) else Ok (m.order.seat, call.1)) (lt-leb most_calls called m.room)
            ∙ ap (λ (c : Called). Ok c) same)
      ]

  -- its call is what the line calls for
  calls_of_line : (call : Called) → given ≡ Ok call → CallsFor requests cycles lines index line call
  calls_of_line call e = by_test (is_seal_line line) refl
    where
      -- by whether it is a Seal
      by_test : (b : Bool) → is_seal_line line ≡ b → CallsFor requests cycles lines index line call
      by_test true t =
          let seat = administrators lines in
          let number = index + 1 in
          let sealed = seal_lines_before lines index in
          let found = unless (nat_le cycles sealed) (TooMany number) (seat, Seals) call
          (sym (seal_line requests seat cycles number sealed (other_lines_before lines index) line t) ∙ e) in
          inl (record {
            seal = t;
            room = leb-false cycles sealed found.0;
            seat = ap (λ (c : Called). c.0) found.1;
            act = ap (λ (c : Called). c.1) found.1;
          })
      by_test false off =
          let seat = administrators lines in
          let number = index + 1 in
          let sealed = seal_lines_before lines index in
          let called = other_lines_before lines index in
          let step = stepped (ok_or (order_of_line line) (BadLine number)) (call_of_order requests number called) call
          (sym (ap (by_seal requests seat cycles number sealed called line) off) ∙ e) in
          let order : Written = step.0 in
          let late = stepped (ok_or (act_for requests order.wish order.name) (UnknownStream number))
          (λ act. if nat_le most_calls called then Err (TooMany number) else Ok (order.seat, act)) call step.2 in
          let act : Act = late.0 in
          let found = unless (nat_le most_calls called) (TooMany number) (order.seat, act) call late.2 in
          let same : act ≡ call.1 = sym (ap (λ (c : Called). c.1) found.1) in
          inr (record {
            order = order;
            writes = record { no_seal = off; written = there (order_of_line line) (BadLine number) order step.1 };
            room = leb-false most_calls called found.0;
            seat = ap (λ (c : Called). c.0) found.1;
            act = subst (λ (a : Act). IsActFor requests order.wish order.name a) same
                (act_found requests order.wish order.name act (there (act_for requests order.wish order.name) (UnknownStream number) act late.1));
          })

  -- what is wrong with the line is its fault
  fault_to : (fault : ScriptFault) → IsFaultOfLine requests cycles lines index line fault → given ≡ Err fault
  fault_to (BadLine n) w =
      bad_line requests (administrators lines) cycles (index + 1) (seal_lines_before lines index) (other_lines_before lines index) line w.1
      ∙ ap (λ (k : ℕ). Err (BadLine k)) (sym w.0)
  fault_to (UnknownStream n) w =
      let seat = administrators lines in
      let number = index + 1 in
      let sealed = seal_lines_before lines index in
      let called = other_lines_before lines index in
      let order = w.1.order in
      let none : act_for requests order.wish order.name ≡ None =
      ap (λ (wish : Wish). act_for requests wish order.name) w.1.admits ∙ ap (option_map (λ (asked : Asked). Admits asked)) w.1.none in
      order_line requests seat cycles number sealed called line order w.1.writes
      ∙ ap (by_act requests seat cycles number sealed called line order) none
      ∙ ap (λ (k : ℕ). Err (UnknownStream k)) (sym w.0)
  fault_to (TooMany n) w =
      let seat = administrators lines in
      let number = index + 1 in
      let sealed = seal_lines_before lines index in
      let called = other_lines_before lines index in
      elim w.1 [
        | inl s ↦
            seal_line requests seat cycles number sealed called line s.seal
            ∙ ap (λ (b : Bool). if b then Err (TooMany number) else Ok (seat, Seals)) (le-leb cycles sealed s.full)
            ∙ ap (λ (k : ℕ). Err (TooMany k)) (sym w.0)
        | inr m ↦
            order_line requests seat cycles number sealed called line m.order m.writes
            ∙ ap (by_act requests seat cycles number sealed called line m.order) (act_is requests m.order.wish m.order.name m.act m.is_act)
            ∙ ap (λ (b : Bool). if b then Err (TooMany number) else Ok (m.order.seat, m.act)) (le-leb most_calls called m.full)
            ∙ ap (λ (k : ℕ). Err (TooMany k)) (sym w.0)
      ]
  fault_to Memory w = absurd w

  -- its fault is what is wrong with the line
  fault_of_line : (fault : ScriptFault) → given ≡ Err fault → IsFaultOfLine requests cycles lines index line fault
  fault_of_line fault e = by_test (is_seal_line line) refl
    where
      -- an order may be one too many, or for a stream that isn't among the requests
      by_found : (order : Written) (a : Option Act) → WritesOrder line order → act_for requests order.wish order.name ≡ a →
          by_act requests (administrators lines) cycles (index + 1) (seal_lines_before lines index) (other_lines_before lines index) line order a ≡ Err fault →
          IsFaultOfLine requests cycles lines index line fault
      by_found order None w f h =
          let none = no_act requests order.wish order.name f in
          subst (λ (x : ScriptFault). IsFaultOfLine requests cycles lines index line x) (same_fault Called (UnknownStream (index + 1)) fault h)
          (refl, record { order = order; writes = w; admits = none.0; none = none.1 })
      by_found order (Some act) w f h =
          let called = other_lines_before lines index in
          let r = refused (nat_le most_calls called) (TooMany (index + 1)) fault (order.seat, act) h in
          subst (λ (x : ScriptFault). IsFaultOfLine requests cycles lines index line x) r.1 (
            refl,
            inr (record {
              order = order;
              writes = w;
              act = act;
              is_act = act_found requests order.wish order.name act f;
              full = leb-true most_calls called r.0;
            }),
          )

      -- a line that isn't a Seal may not be an order
      by_written : (o : Option Written) → is_seal_line line ≡ false → order_of_line line ≡ o →
          by_order requests (administrators lines) cycles (index + 1) (seal_lines_before lines index) (other_lines_before lines index) line o ≡ Err fault →
          IsFaultOfLine requests cycles lines index line fault
      by_written None off f h =
          subst (λ (x : ScriptFault). IsFaultOfLine requests cycles lines index line x) (same_fault Called (BadLine (index + 1)) fault h)
          (refl, record { no_seal = off; no_order = f })
      by_written (Some order) off f h =
          by_found order (act_for requests order.wish order.name) (record { no_seal = off; written = f }) refl h

      -- a Seal may be one too many
      by_test : (b : Bool) → is_seal_line line ≡ b → IsFaultOfLine requests cycles lines index line fault
      by_test true t =
          let seat = administrators lines in
          let number = index + 1 in
          let sealed = seal_lines_before lines index in
          let r = refused (nat_le cycles sealed) (TooMany number) fault (seat, Seals)
          (sym (seal_line requests seat cycles number sealed (other_lines_before lines index) line t) ∙ e) in
          subst (λ (x : ScriptFault). IsFaultOfLine requests cycles lines index line x) r.1
          (refl, inl (record { seal = t; full = leb-true cycles sealed r.0 }))
      by_test false off =
          by_written (order_of_line line) off refl
          (sym (ap (by_seal requests (administrators lines) cycles (index + 1) (seal_lines_before lines index) (other_lines_before lines index) line) off)
          ∙ e)

-- ---- line after line

-- the number of Seals in some lines, and of other lines
abbrev seals_in : List (List ℕ) → ℕ
seals_in lines = count_by is_seal_line lines

abbrev others_in : List (List ℕ) → ℕ
others_in lines = count_by (λ line. not (is_seal_line line)) lines

-- one more line before others
seal_after : (b : Bool) (sealed n : ℕ) → sealed + (cond b 1 0 + n) ≡ cond b (sealed + 1) sealed + n
seal_after true sealed n = omega arith
seal_after false sealed n = omega arith

-- the same for a line that isn't a Seal
call_after : (b : Bool) (called n : ℕ) → called + (cond (not b) 1 0 + n) ≡ cond b called (called + 1) + n
call_after true called n = omega arith
call_after false called n = omega arith

module _ (requests : List Asked) (seat cycles : ℕ) where
  -- what a line at an index of some lines gives, after the lines before these
  abbrev at : ℕ → ℕ → ℕ → List (List ℕ) → ℕ → List ℕ → Result Called ScriptFault
  at number sealed called lines k line =
      call_of_line requests seat cycles (number + k) (sealed + seals_in (take k lines)) (called + others_in (take k lines)) line

  -- the first line
  at_first : (number sealed called : ℕ) (lines : List (List ℕ)) (line : List ℕ) →
      at number sealed called lines 0 line ≡ call_of_line requests seat cycles number sealed called line
  at_first number sealed called lines line =
      let n : number + 0 ≡ number = omega arith in
      let s : sealed + 0 ≡ sealed = omega arith in
      let c : called + 0 ≡ called = omega arith in
      λ i. call_of_line requests seat cycles (n i) (s i) (c i) line

  -- a later line
  at_next : (number sealed called : ℕ) (first : List ℕ) (lines : List (List ℕ)) (k : ℕ) (line : List ℕ) →
      at number sealed called (first ∷ lines) (suc k) line
      ≡ at (number + 1) (sealed_after sealed first) (called_after called first) lines k line
  at_next number sealed called first lines k line =
      let n : number + suc k ≡ number + 1 + k = omega arith in
      let s : sealed + seals_in (first ∷ take k lines) ≡ sealed_after sealed first + seals_in (take k lines) =
      ap (λ (m : ℕ). sealed + m) (sum_by-cons (λ (x : List ℕ). cond (is_seal_line x) 1 0) first (take k lines))
      ∙ seal_after (is_seal_line first) sealed (seals_in (take k lines)) in
      let c : called + others_in (first ∷ take k lines) ≡ called_after called first + others_in (take k lines) =
      ap (λ (m : ℕ). called + m) (sum_by-cons (λ (x : List ℕ). cond (not (is_seal_line x)) 1 0) first (take k lines))
      ∙ call_after (is_seal_line first) called (others_in (take k lines)) in
      λ i. call_of_line requests seat cycles (n i) (s i) (c i) line

  -- some calls are those of some lines, one for each line
  record FoundEach (number sealed called : ℕ) (lines : List (List ℕ)) (found : List Called) : Type 0 where
    one_each : length found ≡ length lines
    each : (k : ℕ) (line : List ℕ) (call : Called) → slice_get lines k ≡ Some line → slice_get found k ≡ Some call →
        at number sealed called lines k line ≡ Ok call

  -- the calls that are found are such calls
  found_each : (number sealed called : ℕ) (lines : List (List ℕ)) (found : List Called) →
      calls_from requests seat cycles number sealed called lines ≡ Ok found → FoundEach number sealed called lines found
  found_each number sealed called [] found h =
      let none : [] ≡ found = cc in
      subst (λ (xs : List Called). FoundEach number sealed called [] xs) none (record { one_each = refl; each = λ k line call e f. absurd cc })
  found_each number sealed called (first ∷ lines) found h =
      let two = parted (call_of_line requests seat cycles number sealed called first)
      (calls_from requests seat cycles (number + 1) (sealed_after sealed first) (called_after called first) lines) found h in
      let r = found_each (number + 1) (sealed_after sealed first) (called_after called first) lines two.1 two.3 in
      subst (λ (xs : List Called). FoundEach number sealed called (first ∷ lines) xs) (sym two.4) (more two.0 two.1 two.2 r)
    where
      -- with one more line first
      more : (call : Called) (rest : List Called) → call_of_line requests seat cycles number sealed called first ≡ Ok call →
          FoundEach (number + 1) (sealed_after sealed first) (called_after called first) lines rest →
          FoundEach number sealed called (first ∷ lines) (call ∷ rest)
      more call rest one r = record { one_each = omega (arith, r.one_each); each = each_more }
        where
          each_more : (k : ℕ) (line : List ℕ) (c : Called) → slice_get (first ∷ lines) k ≡ Some line → slice_get (call ∷ rest) k ≡ Some c →
              at number sealed called (first ∷ lines) k line ≡ Ok c
          each_more zero line c e f =
              at_first number sealed called (first ∷ lines) line
              ∙ ap (λ (x : List ℕ). call_of_line requests seat cycles number sealed called x) (sym (same_Some first line e))
              ∙ one ∙ ap (λ (x : Called). Ok x) (same_Some call c f)
          each_more (suc k) line c e f = at_next number sealed called first lines k line ∙ r.each k line c e f

  -- such calls are found
  ok_from : (number sealed called : ℕ) (lines : List (List ℕ)) (found : List Called) → FoundEach number sealed called lines found →
      calls_from requests seat cycles number sealed called lines ≡ Ok found
  ok_from number sealed called [] [] w = refl
  ok_from number sealed called [] (call ∷ found) w = absurd (omega (arith, w.one_each))
  ok_from number sealed called (first ∷ lines) [] w = absurd (omega (arith, w.one_each))
  ok_from number sealed called (first ∷ lines) (call ∷ found) w =
      ap₂ (λ (a : Result Called ScriptFault) (b : Result (List Called) ScriptFault). and_first a b)
      (sym (at_first number sealed called (first ∷ lines) first) ∙ w.each 0 first call refl refl)
      (ok_from (number + 1) (sealed_after sealed first) (called_after called first) lines found (record {
        one_each = omega (arith, w.one_each);
        each = λ k line c e f. sym (at_next number sealed called first lines k line) ∙ w.each (suc k) line c e f;
      }))

  -- a fault is that of the first line that has one
  record FaultAt (number sealed called : ℕ) (lines : List (List ℕ)) (fault : ScriptFault) : Type 0 where
    index : ℕ
    line : List ℕ
    here : slice_get lines index ≡ Some line
    faulty : at number sealed called lines index line ≡ Err fault
    before : (k : ℕ) (other : List ℕ) → k < index → slice_get lines k ≡ Some other → (call : Called) × (at number sealed called lines k other ≡ Ok call)

  -- a fault that is found is such a fault
  fault_at : (number sealed called : ℕ) (lines : List (List ℕ)) (fault : ScriptFault) →
      calls_from requests seat cycles number sealed called lines ≡ Err fault → FaultAt number sealed called lines fault
  fault_at number sealed called [] fault h = absurd cc
  fault_at number sealed called (first ∷ lines) fault h =
      by_first (call_of_line requests seat cycles number sealed called first)
      (calls_from requests seat cycles (number + 1) (sealed_after sealed first) (called_after called first) lines) refl
      (fault_at (number + 1) (sealed_after sealed first) (called_after called first) lines) h
    where
      -- a fault after the first line
      later : (call : Called) → call_of_line requests seat cycles number sealed called first ≡ Ok call →
          FaultAt (number + 1) (sealed_after sealed first) (called_after called first) lines fault → FaultAt number sealed called (first ∷ lines) fault
      later call one r = record {
        index = suc r.index;
        line = r.line;
        here = r.here;
        faulty = at_next number sealed called first lines r.index r.line ∙ r.faulty;
        before = before_it;
      }
        where
          before_it : (k : ℕ) (other : List ℕ) → k < suc r.index → slice_get (first ∷ lines) k ≡ Some other →
              (c : Called) × (at number sealed called (first ∷ lines) k other ≡ Ok c)
          before_it zero other l e = (
            call,
            at_first number sealed called (first ∷ lines) other
                ∙ ap (λ (x : List ℕ). call_of_line requests seat cycles number sealed called x) (sym (same_Some first other e)) ∙ one,
          )
          before_it (suc k) other l e =
              let c = r.before k other (omega (arith, l)) e in
              (c.0, at_next number sealed called first lines k other ∙ c.1)

      -- the first line has the fault, or a later one
      by_first : (a : Result Called ScriptFault) (b : Result (List Called) ScriptFault) →
          call_of_line requests seat cycles number sealed called first ≡ a →
          ((f : ScriptFault) → b ≡ Err f → FaultAt (number + 1) (sealed_after sealed first) (called_after called first) lines f) →
          and_first a b ≡ Err fault → FaultAt number sealed called (first ∷ lines) fault
      by_first (Err e) b is rest f = record {
        index = 0;
        line = first;
        here = refl;
        faulty = at_first number sealed called (first ∷ lines) first ∙ is ∙ ap (λ (x : ScriptFault). Err x) (same_fault (List Called) e fault f);
        before = λ k other l g. absurd (omega (arith, l));
      }
      by_first (Ok call) (Err e) is rest f = later call is (rest fault (ap (λ (x : ScriptFault). Err x) (same_fault (List Called) e fault f)))
      by_first (Ok call) (Ok found) is rest f = absurd cc

  -- such a fault is found
  err_from : (number sealed called : ℕ) (lines : List (List ℕ)) (fault : ScriptFault) (index : ℕ) (line : List ℕ) → slice_get lines index ≡ Some line →
      at number sealed called lines index line ≡ Err fault →
      ((k : ℕ) (other : List ℕ) → k < index → slice_get lines k ≡ Some other → (call : Called) × (at number sealed called lines k other ≡ Ok call)) →
      calls_from requests seat cycles number sealed called lines ≡ Err fault
  err_from number sealed called [] fault index line here faulty before = absurd cc
  err_from number sealed called (first ∷ lines) fault zero line here faulty before =
      ap (λ (a : Result Called ScriptFault).
      and_first a (calls_from requests seat cycles (number + 1) (sealed_after sealed first) (called_after called first) lines))
      (ap (λ (x : List ℕ). call_of_line requests seat cycles number sealed called x) (same_Some first line here)
      ∙ sym (at_first number sealed called (first ∷ lines) line) ∙ faulty)
  err_from number sealed called (first ∷ lines) fault (suc index) line here faulty before =
      let c = before 0 first (omega arith) refl in
      ap₂ (λ (a : Result Called ScriptFault) (b : Result (List Called) ScriptFault). and_first a b)
      (sym (at_first number sealed called (first ∷ lines) first) ∙ c.1)
      (err_from (number + 1) (sealed_after sealed first) (called_after called first) lines fault index line here
      (sym (at_next number sealed called first lines index line) ∙ faulty)
      (λ k other l e. let r = before (suc k) other (omega (arith, l)) e in (r.0, sym (at_next number sealed called first lines k other) ∙ r.1)))

-- ---- a script

-- what the line at an index of a script gives
at_script : (requests : List Asked) (cycles : ℕ) (lines : List (List ℕ)) (index : ℕ) (line : List ℕ) →
    at requests (administrators lines) cycles 1 0 0 lines index line ≡ given requests cycles lines index line
at_script requests cycles lines index line =
    let n : 1 + index ≡ index + 1 = omega arith in
    let s : 0 + seals_in (take index lines) ≡ seals_in (take index lines) = omega arith in
    let c : 0 + others_in (take index lines) ≡ others_in (take index lines) = omega arith in
    λ i. call_of_line requests (administrators lines) cycles (n i) (s i) (c i) line

-- the calls of a script are exactly those of its lines
pub scripts_are_their_lines : ScriptsAreTheirLines
scripts_are_their_lines requests cycles text found =
    let lines = lines_of text in
    let seat = administrators lines in (
      λ e. let r = found_each requests seat cycles 1 0 0 lines found e in record {
        one_each = r.one_each;
        each = λ index line call f g. calls_of_line requests cycles lines index line call
            (sym (at_script requests cycles lines index line) ∙ r.each index line call f g);
      },
      λ w. ok_from requests seat cycles 1 0 0 lines found (record {
        one_each = w.one_each;
        each = λ index line call f g. at_script requests cycles lines index line ∙ calls_to requests cycles lines index line call (w.each index line call f g);
      }),
    )

-- the fault of a script is exactly that of its first line with a fault
pub faults_are_of_their_lines : FaultsAreOfTheirLines
faults_are_of_their_lines requests cycles text fault =
    let lines = lines_of text in
    let seat = administrators lines in (
      λ e. let r = fault_at requests seat cycles 1 0 0 lines fault e in record {
        index = r.index;
        line = r.line;
        here = r.here;
        faulty = fault_of_line requests cycles lines r.index r.line fault (sym (at_script requests cycles lines r.index r.line) ∙ r.faulty);
        before = λ k other l f.
            let c = r.before k other l f in
            (c.0, calls_of_line requests cycles lines k other c.0 (sym (at_script requests cycles lines k other) ∙ c.1));
      },
      λ w. err_from requests seat cycles 1 0 0 lines fault w.index w.line w.here
          (at_script requests cycles lines w.index w.line ∙ fault_to requests cycles lines w.index w.line fault w.faulty)
          (λ k other l f.
          let c = w.before k other l f in
          (c.0, at_script requests cycles lines k other ∙ calls_to requests cycles lines k other c.0 c.1)),
    )

-- ---- administrators

-- the administrator's number of an order, plus 1
up_to : (o : Option Written) (order : Written) → o ≡ Some order → seats_up_to o ≡ order.seat + 1
up_to o order e = ap seats_up_to e

-- the administrators are one more than the greatest number
pub administrators_are_counted : AdministratorsAreCounted
administrators_are_counted [] = record { above = λ line order c e. absurd (contains_none line c); least = λ l. absurd (omega (arith, l)) }
administrators_are_counted (first ∷ lines) =
    let r = administrators_are_counted lines in
    record { above = above_all r; least = λ l. least_of (order_of_line first) refl r l }
  where
    -- each number is below the count
    above_all : AreTheAdministrators lines (administrators lines) → (line : List ℕ) (order : Written) → Contains (first ∷ lines) line →
        order_of_line line ≡ Some order → order.seat < max (seats_up_to (order_of_line first)) (administrators lines)
    above_all r line order c e = elim (contains_cases first lines line c) [
      | inl same ↦ (let one : seats_up_to (order_of_line first) ≡ order.seat + 1 = up_to (order_of_line first) order (ap order_of_line same ∙ e) in
          omega (arith, one))
      | inr h ↦ omega (arith, r.above line order h e)
    ]

    -- the greatest number is one less
    least_of : (o : Option Written) → order_of_line first ≡ o → AreTheAdministrators lines (administrators lines) →
        0 < max (seats_up_to (order_of_line first)) (administrators lines) →
        HasGreatest (first ∷ lines) (max (seats_up_to (order_of_line first)) (administrators lines))
    least_of None e r l =
        let none : seats_up_to (order_of_line first) ≡ 0 = ap seats_up_to e in
        let g = r.least (omega (arith, l, none)) in
        record {
          line = g.line;
          of_lines = contains_later first lines g.line g.of_lines;
          order = g.order;
          written = g.written;
          greatest = omega (arith, g.greatest, none);
        }
    least_of (Some order) e r l =
        let one : seats_up_to (order_of_line first) ≡ order.seat + 1 = ap seats_up_to e in
        elim (cases_lt (order.seat + 1) (administrators lines)) [
          | inl less ↦ (let g = r.least (omega (arith, less)) in
              record {
                line = g.line;
                of_lines = contains_later first lines g.line g.of_lines;
                order = g.order;
                written = g.written;
                greatest = omega (arith, g.greatest, one, less);
              })
          | inr more ↦ record { line = first; of_lines = contains_here first lines; order = order; written = e; greatest = omega (arith, one, more) }
        ]
