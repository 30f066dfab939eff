-- The first refused call of a log is that of the log's history.
use Rattle.std.proofs.Common.{◌≡◌, ◌∙◌, ◌+◌, ◌∷◌, ◌<◌, ◌≤◌, ℕ, Bool, true, false, not, List, [], Some, None, ap, drop, filter, find}
use Rattle.std.proofs.Common.{Contains, get_or, length, map, option_map, refl, sym}
use Rattle.std.specs.List.{enumerate_from}
use Rattle.std.proofs.lemmas.Bool.{cond-false, cond-true}
use Rattle.std.proofs.lemmas.List.{drop_all, drop_more}
use Rattle.cqf_lists.proofs.Filters.{filter-map, filter_alike}
use Rattle.cqf_lists.proofs.Members.{contains_at, contains_from_filter, find_member}
use Rattle.cqf_lists.proofs.Numbered.{enum_at}
use Rattle.cqf_model.specs.History.{Asked, Recorded, is_seal}
use Rattle.cqf_laws_coverage.proofs.Found.{find-map}
use Rattle.cqf_admission.specs.declared.logs.Logged.{Logged}
use Rattle.cqf_admission.specs.Ledger.{recorded_in}
use Rattle.cqf_admission.specs.declared.orders.What.{What}
use Rattle.cqf_admission.specs.declared.orders.What.TheVariants.{Admit, Seal, Withdraw}
use Rattle.cqf_admission.specs.Orders.{act_in}
use Rattle.cqf_program_runs.specs.Check.RefusedCalls.{first_refused, is_refused}
use Rattle.cqf_program_runs.specs.Check.RefusedInLog.{is_call, refused_from}

-- numbered elements of a mapped list
enumerate_from-map : {X Y : Type 0} (f : X → Y) (n : ℕ) (xs : List X) →
    enumerate_from n (map f xs) ≡ map (λ (e : ℕ × X). (e.0, f e.1)) (enumerate_from n xs)
enumerate_from-map f n [] = refl
enumerate_from-map {X} {Y} f n (x ∷ xs) = ap (λ (rest : List (ℕ × Y)). (n, f x) ∷ rest) (enumerate_from-map f (n + 1) xs)

module _ (requests : List Asked) (script : List ℕ) where
  abbrev entry : Logged → Recorded
  entry logged = recorded_in requests script logged

  abbrev with_entry : ℕ × Logged → ℕ × Recorded
  with_entry call = (call.0, entry call.1)

  -- a call isn't a Seal
  call_is : (what : What) → not (is_seal (act_in requests script what)) ≡ is_call what
  call_is (Admit index) = refl
  call_is (Withdraw from octets) = refl
  call_is Seal = refl

  pub first_refused-log : (log : List Logged) → first_refused (map entry log) ≡ option_map with_entry (refused_from 1 log)
  first_refused-log log =
      let refused : ℕ × Recorded → Bool = λ call. is_refused call.1.reply in
      let calls : List Logged = filter (λ (l : Logged). is_call l.what) log in
      let same : filter (λ (e : Recorded). not (is_seal e.act)) (map entry log) ≡ map entry calls =
      filter-map entry (λ (e : Recorded). not (is_seal e.act)) log
      ∙ ap (map entry) (filter_alike (λ (l : Logged). not (is_seal (entry l).act)) (λ (l : Logged). is_call l.what) log (λ l c. call_is l.what)) in
      ap (λ (es : List Recorded). find refused (enumerate_from 1 es)) same
      ∙ ap (find refused) (enumerate_from-map entry 1 calls)
      ∙ find-map with_entry refused (enumerate_from 1 calls)

-- one entry of a log more
module _ (number : ℕ) (logged : Logged) (rest : List Logged) where
  abbrev calls : List Logged → List Logged
  calls log = filter (λ (l : Logged). is_call l.what) log

  abbrev refused : ℕ × Logged → Bool
  refused call = is_refused call.1.reply

  as_call : is_call logged.what ≡ true → refused_from number (logged ∷ rest) ≡ find refused ((number, logged) ∷ enumerate_from (number + 1) (calls rest))
  as_call call = ap (λ (log : List Logged). find refused (enumerate_from number log)) (cond-true (is_call logged.what) (logged ∷ calls rest) (calls rest) call)

  pub seal_passed : is_call logged.what ≡ false → refused_from number (logged ∷ rest) ≡ refused_from number rest
  seal_passed none = ap (λ (log : List Logged). find refused (enumerate_from number log))
      (cond-false (is_call logged.what) (logged ∷ calls rest) (calls rest) none)

  pub call_passed : is_call logged.what ≡ true → is_refused logged.reply ≡ false →
      refused_from number (logged ∷ rest) ≡ refused_from (number + 1) rest
  call_passed call fine = as_call call
      ∙ cond-false (is_refused logged.reply) (Some (number, logged)) (refused_from (number + 1) rest) fine

  pub call_found : is_call logged.what ≡ true → is_refused logged.reply ≡ true → refused_from number (logged ∷ rest) ≡ Some (number, logged)
  call_found call bad = as_call call ∙ cond-true (is_refused logged.reply) (Some (number, logged)) (refused_from (number + 1) rest) bad

-- from an index of a log on
module _ (log : List Logged) (index number : ℕ) (h : refused_from (number + 1) (drop index log) ≡ refused_from 1 log) where
  -- the entry at that index
  module _ (d : Logged) (inside : index < length log) where
    abbrev logged : Logged
    logged = get_or log index d

    from_it : refused_from (number + 1) (logged ∷ drop (index + 1) log) ≡ refused_from 1 log
    from_it = sym (ap (refused_from (number + 1)) (drop_more log index d inside)) ∙ h

    pub after_seal : is_call logged.what ≡ false → refused_from (number + 1) (drop (index + 1) log) ≡ refused_from 1 log
    after_seal none = sym (seal_passed (number + 1) logged (drop (index + 1) log) none) ∙ from_it

    pub after_call : is_call logged.what ≡ true → is_refused logged.reply ≡ false →
        refused_from (number + 1 + 1) (drop (index + 1) log) ≡ refused_from 1 log
    after_call call fine = sym (call_passed (number + 1) logged (drop (index + 1) log) call fine) ∙ from_it

    pub at_call : is_call logged.what ≡ true → is_refused logged.reply ≡ true → Some (number + 1, logged) ≡ refused_from 1 log
    at_call call bad = sym (call_found (number + 1) logged (drop (index + 1) log) call bad) ∙ from_it

  -- past the end no call is left
  pub after_all : length log ≤ index → None ≡ refused_from 1 log
  after_all past = sym (ap (refused_from (number + 1)) (drop_all index log past)) ∙ h

-- the call that is found is an entry of the log, and refused
pub found_refused : (log : List Logged) (call : ℕ × Logged) → refused_from 1 log ≡ Some call → Contains log call.1 × (is_refused call.1.reply ≡ true)
found_refused log call is =
    let calls : List Logged = filter (λ (l : Logged). is_call l.what) log in
    let member = find_member (λ (c : ℕ × Logged). is_refused c.1.reply) (enumerate_from 1 calls) call is in
    let at = enum_at 1 calls call member.0 in
    ((contains_from_filter (λ (l : Logged). is_call l.what) log call.1 (contains_at calls at.0 call.1 at.2)).0, member.1)
