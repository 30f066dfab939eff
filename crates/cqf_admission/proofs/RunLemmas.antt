-- An administration that keeps the held streams in place of its history.
use Rattle.std.proofs.Common.{◌≡◌, ℕ, ◌+◌, ◌-◌, ◌<◌, ◌≤◌, Bool, true, false, cond, List, Option, Some, None, [], ◌∷◌, ◌&&◌, not, length}
use Rattle.std.proofs.Common.{◌∙◌, position, refl, ap, sym, arith, subst, length-append}
use Rattle.std.specs.Prelude.{Result, Err, if◌then◌else◌, nat_le, nat_lt, is_none, filter}
use Rattle.std.specs.List.{flat_map, list_any}
use Rattle.std.proofs.lemmas.Bool.{both_ways}
use Rattle.std.proofs.lemmas.Option.{same_Some}
use Rattle.cqf_lists.specs.Lists.{least, or_else}
use Rattle.cqf_units.specs.Name.{is_name}
use Rattle.cqf_units.specs.Timing.{cost_of}
use Rattle.cqf_units.specs.declared.reservations.Cycle.{Cycle}
use Rattle.cqf_model.specs.declared.history.Receipt.{Receipt}
use Rattle.cqf_model.specs.declared.history.Refused.{Refused}
use Rattle.cqf_model.specs.declared.history.Refused.TheVariants.{BadName, BadOctets, BadPace, UnknownNode, BrokenPath, LoopingPath, NotATree, NameHeld, TooManyStreams}
use Rattle.cqf_model.specs.declared.history.Refused.TheVariants.{TooManyHops, BudgetShort, NotHeld, AlreadyWithdrawn, HistoryFull, Memory}
use Rattle.cqf_model.specs.declared.history.Reply.TheVariants.{Sealed, Refused as RefusedFor}
use Rattle.cqf_model.specs.declared.topology.Row.{Row}
use Rattle.cqf_model.specs.Domain.{Domain, is_text, node_named}
use Rattle.cqf_model.specs.History.{Act, Asked, Recorded, Seals, broken_index, first_index, is_loop_at, is_pace, is_seal, is_stray, left_on, pace_of, refusal_of}
use Rattle.cqf_model.specs.History.{refused_at, refused_if, reply_to, short_link, tree_of, withdraw_reply, withdraw_row}
use Rattle.cqf_model.specs.Limits.{hops_within, most_calls, most_reserved, streams_within}
use Rattle.cqf_model.specs.Table.{is_held}
use Rattle.cqf_laws_history.specs.StateLaws.{HistoryGoesOn, IsState, SealLetsGo, SealsAreCounted, with_entry}
use Rattle.cqf_admission.specs.Admission.{Administration, Answers, IsRunning, calls, is_entered, reply_of}

-- a refusal of a request that is entered, if there is one
abbrev IsCallRefusal : Option Refused → Type 0
IsCallRefusal o = (refused : Refused) → o ≡ Some refused → is_entered (Err refused) ≡ true

-- the first of two refusals that are entered is entered
either_entered : (a b : Option Refused) → IsCallRefusal a → IsCallRefusal b → IsCallRefusal (or_else a b)
either_entered None b h k = k
either_entered (Some x) b h k = h

-- a refusal after a test is entered
if_entered : (b : Bool) (refused : Refused) → is_entered (Err refused) ≡ true → IsCallRefusal (refused_if b refused)
if_entered true refused h other e = subst (λ (r : Refused). is_entered (Err r) ≡ true) (same_Some refused other e) h
if_entered false refused h other e = absurd cc

-- so is a refusal with an index
at_entered : (refused : ℕ → Refused) (o : Option ℕ) → ((k : ℕ) → is_entered (Err (refused k)) ≡ true) → IsCallRefusal (refused_at refused o)
at_entered refused None h other e = absurd cc
at_entered refused (Some k) h other e = subst (λ (r : Refused). is_entered (Err r) ≡ true) (same_Some (refused k) other e) (h k)

-- each refusal of a request is entered
pub refusal_is_entered : (d : Domain) (rows : List Row) (asked : Asked) (refused : Refused) → refusal_of d rows asked ≡ Some refused →
    is_entered (Err refused) ≡ true
refusal_is_entered d rows asked =
    let tree = tree_of d asked.paths in
    let pace = pace_of asked in
    let short = refused_at (λ l. BudgetShort l (left_on d rows tree pace l)) (short_link d rows (cost_of d.overhead asked.octets) pace tree) in
    let many = refused_if (nat_le (streams_within d.limits) (length rows)) TooManyStreams in
    let held = refused_if (list_any (λ (row : Row). is_text row.name asked.name) rows) NameHeld in
    let stray = refused_at (λ branch. NotATree branch) (least (is_stray asked.paths) (length asked.paths)) in
    let looping = refused_at (λ index. LoopingPath index) (first_index (is_loop_at d) asked.paths) in
    let broken = refused_at (λ index. BrokenPath index) (broken_index d asked.paths) in
    let unknown = refused_at (λ index. UnknownNode index) (position (λ name. is_none (node_named d name)) (flat_map (λ branch. branch) asked.paths)) in
    let after_many = or_else many short in
    let after_held = or_else held after_many in
    let hops = refused_if (nat_lt (hops_within d.limits) (length tree)) TooManyHops in
    let after_hops = or_else hops after_held in
    let after_stray = or_else stray after_hops in
    let after_looping = or_else looping after_stray in
    let after_broken = or_else broken after_looping in
    let after_unknown = or_else unknown after_broken in
    let pace_refusal = refused_if (not (is_pace asked.every asked.phase)) BadPace in
    let after_pace = or_else pace_refusal after_unknown in
    let octets = refused_if (not (nat_le 64 asked.octets && nat_le asked.octets most_reserved)) BadOctets in
    let name = refused_if (not (is_name asked.name)) BadName in
    either_entered name (or_else octets after_pace) (if_entered (not (is_name asked.name)) BadName refl)
    (either_entered octets after_pace (if_entered (not (nat_le 64 asked.octets && nat_le asked.octets most_reserved)) BadOctets refl)
    (either_entered pace_refusal after_unknown (if_entered (not (is_pace asked.every asked.phase)) BadPace refl)
    (either_entered unknown after_broken
    (at_entered (λ index. UnknownNode index) (position (λ name. is_none (node_named d name)) (flat_map (λ branch. branch) asked.paths)) (λ k. refl))
    (either_entered broken after_looping (at_entered (λ index. BrokenPath index) (broken_index d asked.paths) (λ k. refl))
    (either_entered looping after_stray (at_entered (λ index. LoopingPath index) (first_index (is_loop_at d) asked.paths) (λ k. refl))
    (either_entered stray after_hops (at_entered (λ branch. NotATree branch) (least (is_stray asked.paths) (length asked.paths)) (λ k. refl))
    (either_entered hops after_held (if_entered (nat_lt (hops_within d.limits) (length tree)) TooManyHops refl)
    (either_entered held after_many (if_entered (list_any (λ (row : Row). is_text row.name asked.name) rows) NameHeld refl)
    (either_entered many short (if_entered (nat_le (streams_within d.limits) (length rows)) TooManyStreams refl)
    (at_entered (λ l. BudgetShort l (left_on d rows tree pace l)) (short_link d rows (cost_of d.overhead asked.octets) pace tree) (λ k. refl)))))))))))

-- a history that goes on keeps its running state
pub run_on : HistoryGoesOn → SealsAreCounted →
    (d : Domain) (entries : List Recorded) (rows rows_after : List Row) (next next_after sealed seat : ℕ) (act : Act) → is_seal act ≡ false →
    IsRunning d entries rows next sealed → length entries - sealed < 100000 → next_after ≤ next + 1 →
    IsState d (with_entry entries seat act (reply_to d entries act)) rows_after next_after →
    IsRunning d (with_entry entries seat act (reply_to d entries act)) rows_after next_after sealed
run_on goes_on counted d entries rows rows_after next next_after sealed seat act no_seal r few more state =
    let none : ◌≡◌ {A = ℕ} (if is_seal act then 1 else 0) 0 = ap (λ (b : Bool). cond {A = ℕ} b 1 0) no_seal in
    let count = counted entries seat act (reply_to d entries act) in
    record {
      legal = goes_on d entries seat act r.legal (omega (arith, none, r.legal.few_seals)) (omega (arith, none, few, r.counted));
      state = state;
      counted = omega (arith, count, none, r.counted);
      few = omega (arith, more, r.few, length-append entries (record { seat = seat; act = act; reply = reply_to d entries act } ∷ []));
    }

-- a call that is entered
pub answers_entered : (old new : Administration) (seat : ℕ) (act : Act) (result : Result Receipt Refused) → is_entered result ≡ true →
    calls old.entries < 100000 → new.domain ≡ old.domain → reply_of result ≡ reply_to old.domain old.entries act →
    new.entries ≡ with_entry old.entries seat act (reply_of result) → Answers old new seat act result
answers_entered old new seat act result is few same due entered =
    record {
      full = (λ e. absurd (both_ways (is_entered result) (ap is_entered e) is), λ many. absurd (omega (arith, many, few)));
      unchanged = λ e. absurd (both_ways (is_entered result) e is);
      domain = same;
      due = λ _. due;
      entered = λ _. entered;
    }

-- a call for which an allocation fails
pub answers_memory : (old new : Administration) (seat : ℕ) (act : Act) (result : Result Receipt Refused) → result ≡ Err Memory →
    calls old.entries < most_calls → new ≡ old → Answers old new seat act result
answers_memory old new seat act result is few same =
    let not_entered : is_entered result ≡ false = ap is_entered is in
    record {
      full = (λ e. let other : ◌≡◌ {A = Result Receipt Refused} (Err Memory) (Err HistoryFull) = sym is ∙ e in absurd cc, λ many. absurd (omega (arith, many, few)));
      unchanged = λ _. same;
      domain = ap (λ (a : Administration). a.domain) same;
      due = λ e. absurd (both_ways (is_entered result) not_entered e);
      entered = λ e. absurd (both_ways (is_entered result) not_entered e);
    }

-- a refused withdrawal is entered
pub withdraw_entered : (effect : ℕ) (found : Option Row) (refused : Refused) → withdraw_reply effect found ≡ RefusedFor refused →
    is_entered (Err refused) ≡ true
withdraw_entered effect None refused e = let same : NotHeld ≡ refused = cc in subst (λ (r : Refused). is_entered (Err r) ≡ true) same refl
withdraw_entered effect (Some row) refused e = by_end row.withdrawn e
  where
    -- a refused withdrawal of a held stream is entered, regardless of whether the stream is withdrawn
    by_end : (end : Option Cycle) → withdraw_row effect row.no end ≡ RefusedFor refused → is_entered (Err refused) ≡ true
    by_end None f = absurd cc
    by_end (Some before) f = let same : AlreadyWithdrawn ≡ refused = cc in subst (λ (r : Refused). is_entered (Err r) ≡ true) same refl

-- a Seal continues with the next cycle
pub run_sealed : HistoryGoesOn → SealsAreCounted → SealLetsGo → (d : Domain) (entries : List Recorded) (rows : List Row) (next sealed seat : ℕ) →
    IsRunning d entries rows next sealed → sealed < 100000 →
    IsRunning d (with_entry entries seat Seals Sealed) (filter (λ (row : Row). is_held row (sealed + 1)) rows) next (sealed + 1)
run_sealed goes_on counted lets_go d entries rows next sealed seat r some =
    let count = counted entries seat Seals Sealed in
    let state = lets_go d entries rows next seat r.legal r.state in
    record {
      legal = goes_on d entries seat Seals r.legal (omega (arith, some, r.counted)) (omega (arith, r.legal.few_calls, r.counted));
      state = subst (λ (k : ℕ). IsState d (with_entry entries seat Seals Sealed) (filter (λ (row : Row). is_held row (k + 1)) rows) next) (sym r.counted) state;
      counted = omega (arith, count, r.counted);
      few = omega (arith, r.few, length-append entries (record { seat = seat; act = Seals; reply = Sealed } ∷ []));
    }
