-- What administrators request, call by call.
use Rattle.std.proofs.Common.{◌≡◌, ◌≢◌, ◌∙◌, ◌++◌, ◌∷◌, [], ◌<◌, ◌+◌, ◌⊎◌, ℕ, Bool, true, false, List, filter, map, ap}
use Rattle.std.proofs.Common.{sym, length, refl, arith, get_or, inl, inr, set, drop, take, position, Some, None, nat_lt}
use Rattle.std.proofs.Common.{cond, ◌-◌, ◌≤◌, suc, zero}
use Rattle.std.specs.Prelude.{◌==◌, ◌&&◌, not, if◌then◌else◌}
use Rattle.std.proofs.lemmas.Bool.{cases_lt, true≢false}
use Rattle.std.proofs.lemmas.Bool.Decides.{nat_tests}
use Rattle.std.specs.Global.{Global}
use Rattle.std.specs.declared.vec.Vec.{Vec}
use Rattle.std.specs.List.{position_or_len}
use Rattle.cqf_admission.specs.declared.entries.Call.{Call}
use Rattle.cqf_admission.specs.declared.entries.Command.{Command}
use Rattle.std.proofs.lemmas.List.{map-append, append-nil, length-append, length-map, length-set, get_or-map}
use Rattle.std.proofs.lemmas.List.{get_or-set_same, get_or-set_other, get_or-append_right, get_or_append_left, map-set}
use Rattle.std.proofs.lemmas.List.{drop-map, take-map, take_all, drop_all}
use Rattle.std.proofs.lemmas.List.Elements.{filter-append}
use Rattle.cqf_model.specs.History.{Act}
use Rattle.cqf_admission.specs.Script.{Called, called_of, others_among, seals_among}
use Rattle.cqf_program_scenario.specs.Calls.{HasRoom}
use Rattle.cqf_program_scenario.proofs.Room.{others-cons, seals-cons}
use Rattle.cqf_admission.specs.Commands.{act_of_command}
use Rattle.cqf_program_scenario.specs.Parted.{acts_parted, acts_of_each}
use Rattle.cqf_program_scenario.specs.Parting.{AddsCommand, AreCommandsBy, calls_from_seal, closes, commands_by, is_command_of, opening_calls}

-- the commands of an administrator with one more call
module _ (found : List Called) (call : Called) (admin : ℕ) where
  -- are those before, and the one that the call makes
  parts : commands_by (found ++ call ∷ []) admin ≡ commands_by found admin ++ commands_by (call ∷ []) admin
  parts = ap (map (λ (c : Called). c.1)) (filter-append (is_command_of admin) found (call ∷ []))
      ∙ map-append (λ (c : Called). c.1) (filter (is_command_of admin) found) (filter (is_command_of admin) (call ∷ []))

  -- the commands that one call makes
  of_one : (b : Bool) → is_command_of admin call ≡ b → commands_by (call ∷ []) admin ≡ (if b then call.1 ∷ [] else [])
  of_one true e = ap (λ (b : Bool). map (λ (c : Called). c.1) (if b then call ∷ [] else [])) e
  of_one false e = ap (λ (b : Bool). map (λ (c : Called). c.1) (if b then call ∷ [] else [])) e

  -- the call is added if it is one of the administrator's commands
  commands-more : is_command_of admin call ≡ true → commands_by (found ++ call ∷ []) admin ≡ commands_by found admin ++ call.1 ∷ []
  commands-more e = parts ∙ ap (λ (more : List Act). commands_by found admin ++ more) (of_one true e)

  -- and else it isn't
  commands-same : is_command_of admin call ≡ false → commands_by (found ++ call ∷ []) admin ≡ commands_by found admin
  commands-same e = parts ∙ ap (λ (more : List Act). commands_by found admin ++ more) (of_one false e) ∙ append-nil (commands_by found admin)

-- a Seal is no administrator's command
none-of-seal : (call : Called) (admin : ℕ) → closes call ≡ true → is_command_of admin call ≡ false
none-of-seal call admin seal = by (call.0 == admin)
  where
    -- no matter whose it is
    by : (b : Bool) → (b && not (closes call)) ≡ false
    by true = ap not seal
    by false = refl

-- a number is itself
itself : (n : ℕ) → (n == n) ≡ true
itself n = grind (arith, nat_tests)

-- no lists
pub AreCommandsBy-none : (lists : List (Vec Command Global)) → lists ≡ [] → AreCommandsBy [] 0 (acts_of_each lists)
AreCommandsBy-none lists none = record {
  one_each = ap (λ (l : List (Vec Command Global)). length (acts_of_each l)) none;
  each = λ admin d below. absurd (omega (arith, below));
}

-- one more list, without commands
pub AreCommandsBy-next : (n : ℕ) (lists after : List (Vec Command Global)) (last : Vec Command Global) → AreCommandsBy [] n (acts_of_each lists)
    → last.items ≡ [] →
    after ≡ lists ++ last ∷ [] → AreCommandsBy [] (n + 1) (acts_of_each after)
AreCommandsBy-next n lists after last h empty is = record {
  one_each = ap length same ∙ length-append (acts_of_each lists) ([] ∷ []) ∙ ap (λ k. k + 1) h.one_each;
  each = λ admin none below. ap (λ (l : List (List Act)). get_or l admin none) same ∙ by admin none below (cases_lt admin n);
}
  where
    -- the acts of the lists
    same : acts_of_each after ≡ acts_of_each lists ++ [] ∷ []
    same = ap acts_of_each is ∙ map-append acts_parted lists (last ∷ []) ∙ ap (λ (acts : List Act). acts_of_each lists ++ acts ∷ [])
        (ap (map act_of_command) empty)

    -- the lists before, and the new one
    by : (admin : ℕ) (none : List Act) → admin < n + 1 → (admin < n) ⊎ (n ≤ admin) → get_or (acts_of_each lists ++ [] ∷ []) admin none ≡ []
    by admin none below (inl l) = get_or_append_left (acts_of_each lists) ([] ∷ []) none admin (omega (arith, l, h.one_each)) ∙ h.each admin none l
    by admin none below (inr g) =
        let here : admin - n ≡ 0 = omega (arith, below) in
        get_or-append_right (acts_of_each lists) ([] ∷ []) n admin none h.one_each g ∙ ap (λ (k : ℕ). get_or ([] ∷ []) k none) here

-- with one more Seal the lists are the same
pub AreCommandsBy-seal : (found : List Called) (call : Called) (n : ℕ) (lists : List (List Act)) → closes call ≡ true → AreCommandsBy found n lists →
    AreCommandsBy (found ++ call ∷ []) n lists
AreCommandsBy-seal found call n lists seal h = record {
  one_each = h.one_each;
  each = λ admin none below. h.each admin none below ∙ sym (commands-same found call admin (none-of-seal call admin seal));
}

-- with one more call that isn't a Seal, its command is added
pub AreCommandsBy-call : (found : List Called) (call : Called) (n : ℕ) (before after : List (List Act)) → closes call ≡ false →
    AddsCommand before after call.0 call.1 → AreCommandsBy found n before → AreCommandsBy (found ++ call ∷ []) n after
AreCommandsBy-call found call n before after other adds h = record {
  one_each = adds.as_many ∙ h.one_each;
  each = λ admin none below. by admin none below (call.0 == admin) refl;
}
  where
    -- the administrator's own list has it, and the others are the same
    by : (admin : ℕ) (none : List Act) → admin < n → (b : Bool) → (call.0 == admin) ≡ b → get_or after admin none ≡ commands_by (found ++ call ∷ []) admin
    by admin none below true e =
        let same : admin ≡ call.0 = grind (arith, nat_tests) in
        let is : is_command_of admin call ≡ true = (λ i. e i && not (other i)) in
        ap (λ (k : ℕ). get_or after k none) same ∙ adds.own none (omega (arith, below, same, h.one_each))
        ∙ ap (λ (k : ℕ). get_or before k none ++ call.1 ∷ []) (sym same)
        ∙ ap (λ (front : List Act). front ++ call.1 ∷ []) (h.each admin none below) ∙ sym (commands-more found call admin is)
    by admin none below false e =
        let apart : admin ≢ call.0 = λ same. true≢false (sym (itself call.0) ∙ ap (λ (k : ℕ). call.0 == k) (sym same) ∙ e) in
        let is : is_command_of admin call ≡ false = ap (λ (b : Bool). b && not (closes call)) e in
        adds.others admin none apart ∙ h.each admin none below ∙ sym (commands-same found call admin is)

-- a command is added to the list at its administrator's index
pub AddsCommand-set : (lists : List (Vec Command Global)) (index admin : ℕ) (own : Vec Command Global) (old : Vec Command Global)
    (d : Vec Command Global) (command : Command) →
    index ≡ admin → index < length lists → old ≡ get_or lists index d → own.items ≡ old.items ++ command ∷ [] →
    AddsCommand (acts_of_each lists) (acts_of_each (set lists index own)) admin (act_of_command command)
AddsCommand-set lists index admin own old d command is below at more = record {
  as_many = ap length same ∙ length-set (acts_of_each lists) index (acts_parted own);
  own = λ none inside.
      ap (λ (zs : List (List Act)). get_or zs admin none) same
      ∙ ap (λ (k : ℕ). get_or (set (acts_of_each lists) index (acts_parted own)) k none) (sym is)
      ∙ get_or-set_same (acts_of_each lists) index (acts_parted own) none (omega (arith, below, length-map lists acts_parted))
      ∙ ap (map act_of_command) more ∙ map-append act_of_command old.items (command ∷ [])
      ∙ ap (λ (v : Vec Command Global). acts_parted v ++ act_of_command command ∷ []) at
      ∙ ap (λ (acts : List Act). acts ++ act_of_command command ∷ []) (sym (get_or-map acts_parted lists index d none below))
      ∙ ap (λ (k : ℕ). get_or (acts_of_each lists) k none ++ act_of_command command ∷ []) is;
  others = λ other none apart.
      ap (λ (zs : List (List Act)). get_or zs other none) same
      ∙ get_or-set_other (acts_of_each lists) index other (acts_parted own) none (λ e. apart (e ∙ is));
}
  where
    -- the list that was set is seen at its index
    same : acts_of_each (set lists index own) ≡ set (acts_of_each lists) index (acts_parted own)
    same = map-set acts_parted lists index own

-- the first index at which an element of a list, under a function, passes
pub index-map : {X Y : Type 0} (p : Y → Bool) (f : X → Y) (xs : List X) → position_or_len p (map f xs) ≡ position_or_len (λ x. p (f x)) xs
index-map p f [] = refl
index-map p f (x ∷ xs) = ap (λ (n : ℕ). cond (not (p (f x))) (1 + n) 0) (index-map p f xs)

-- an index that is found is the first one at which an element passes
module _ {X : Type 0} (p : X → Bool) (xs : List X) where
  found_at : (k : ℕ) → position p xs ≡ Some k → position_or_len p xs ≡ k
  found_at k h = by (nat_lt (position_or_len p xs) (length xs)) h
    where
      -- whether one passes
      by : (b : Bool) → cond b (Some (position_or_len p xs)) None ≡ Some k → position_or_len p xs ≡ k
      by true e = cc
      by false e = absurd (cc)

  -- and if none is found, it is the list's length
  found_none : position p xs ≡ None → length xs ≤ position_or_len p xs
  found_none h = by (nat_lt (position_or_len p xs) (length xs)) refl h
    where
      -- whether one passes
      by : (b : Bool) → nat_lt (position_or_len p xs) (length xs) ≡ b → cond b (Some (position_or_len p xs)) None ≡ None → length xs ≤ position_or_len p xs
      by true e none = absurd (cc)
      by false e none = grind (arith, nat_tests)

-- calls that were read, divided at the first Seal
module _ (calls : List (ℕ × Call)) where
  -- the index of that Seal among the acts
  seal_at : position_or_len closes (map called_of calls) ≡ position_or_len (λ (call : ℕ × Call). closes (called_of call)) calls
  seal_at = index-map closes called_of calls

  -- the calls before it are the opening calls, and those from it on are the others
  pub opening-cut : (k : ℕ) → position (λ (call : ℕ × Call). closes (called_of call)) calls ≡ Some k →
      map called_of (take k calls) ≡ opening_calls (map called_of calls)
  opening-cut k h = sym (take-map called_of k calls) ∙ ap (λ (n : ℕ). take n (map called_of calls)) (sym (seal_at ∙ found_at _ calls k h))

  pub following-cut : (k : ℕ) → position (λ (call : ℕ × Call). closes (called_of call)) calls ≡ Some k →
      map called_of (drop k calls) ≡ calls_from_seal (map called_of calls)
  following-cut k h = sym (drop-map called_of k calls) ∙ ap (λ (n : ℕ). drop n (map called_of calls)) (sym (seal_at ∙ found_at _ calls k h))

  -- if there is none, all are opening calls, and there are no others
  pub opening-all : position (λ (call : ℕ × Call). closes (called_of call)) calls ≡ None → map called_of calls ≡ opening_calls (map called_of calls)
  opening-all h = sym (take_all _ (map called_of calls) (omega (arith, found_none _ calls h, seal_at, length-map calls called_of)))

  pub following-none : position (λ (call : ℕ × Call). closes (called_of call)) calls ≡ None → [] ≡ calls_from_seal (map called_of calls)
  following-none h = sym (drop_all _ (map called_of calls) (omega (arith, found_none _ calls h, seal_at, length-map calls called_of)))

-- a call without a command is a Seal; the command of another call requests the same as the call
pub seal-of : (b : Bool) (act : Act) → None ≡ (if b then None else Some act) → b ≡ true
seal-of true act e = refl
seal-of false act e = absurd (cc)

-- a call with a command is no Seal, and requests the same as its command
pub command-of : (b : Bool) (act found : Act) → Some found ≡ (if b then None else Some act) → (b ≡ false) × (found ≡ act)
command-of true act found e = absurd (cc)
command-of false act found e = (refl, cc)

-- none and none are none
none_more : (n : ℕ) → n ≡ 0 → 0 + n ≡ 0
none_more n e = omega (arith, e)

-- one more than a number is the next
next : (n : ℕ) → 1 + n ≡ suc n
next n = omega arith

-- before the first Seal there is no Seal
seals-opening : (calls : List Called) → seals_among (opening_calls calls) ≡ 0
seals-opening [] = refl
seals-opening (call ∷ calls) = by (seals-opening calls) (closes call) refl
  where
    -- whether the first call is a Seal
    by : seals_among (opening_calls calls) ≡ 0 → (b : Bool) → closes call ≡ b →
        seals_among (take (cond (not (closes call)) (1 + position_or_len closes calls) 0) (call ∷ calls)) ≡ 0
    by rest true e = ap (λ (b : Bool). seals_among (take (cond (not b) (1 + position_or_len closes calls) 0) (call ∷ calls))) e
    by rest false e =
        ap (λ (b : Bool). seals_among (take (cond (not b) (1 + position_or_len closes calls) 0) (call ∷ calls))) e
        ∙ ap (λ (n : ℕ). seals_among (take n (call ∷ calls))) (next (position_or_len closes calls)) ∙ seals-cons call (opening_calls calls)
        ∙ ap (λ (b : Bool). (if b then 1 else 0) + seals_among (opening_calls calls)) e
        ∙ none_more (seals_among (opening_calls calls)) rest

-- the first calls have no more calls that aren't Seals than all calls have
others-take : (calls : List Called) (n : ℕ) → others_among (take n calls) ≤ others_among calls
others-take calls zero = omega arith
others-take [] (suc n) = omega arith
others-take (call ∷ calls) (suc n) = omega (arith, others-cons call (take n calls), others-cons call calls, others-take calls n)

-- so if there is room for all calls, there is room for the opening ones, with no cycle closed
pub HasRoom-opening : (cycles : ℕ) (found : List Called) → HasRoom cycles [] found → HasRoom 0 [] (opening_calls found)
HasRoom-opening cycles found h = record {
  for_seals = omega (arith, seals-opening found);
  for_others = omega (arith, h.for_others, others-take found (position_or_len closes found));
}
