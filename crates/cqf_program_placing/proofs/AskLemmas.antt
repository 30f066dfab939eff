-- What admission's answer says about a stream.
use Rattle.std.proofs.Common.{◌≡◌, ◌≢◌, ◌∙◌, ◌<◌, ℕ, Bool, true, false, Contains, List, Option, Some, None, Result, Ok, Err, length, map, nat_lt, ap, refl, subst, sym}
use Rattle.cqf_lists.specs.Lists.{or_else}
use Rattle.cqf_lists.proofs.Members.{contains_from_map, find_member}
use Rattle.cqf_model.proofs.Hops.{hops_inside}
use Rattle.cqf_model.specs.declared.history.Receipt.{Receipt}
use Rattle.cqf_model.specs.declared.history.Refused.{Refused}
use Rattle.cqf_model.specs.declared.history.Refused.TheVariants.{BadName, BadOctets, BadPace, UnknownNode, BrokenPath, LoopingPath, NotATree, TooManyHops, NameHeld, TooManyStreams}
use Rattle.cqf_model.specs.declared.history.Refused.TheVariants.{BudgetShort, NotHeld, AlreadyWithdrawn, HistoryFull, Memory}
use Rattle.cqf_model.specs.declared.history.Reply.TheVariants.{Accepted, Refused as RefusedFor}
use Rattle.cqf_model.specs.declared.topology.Hop.{Hop}
use Rattle.cqf_model.specs.declared.topology.Pace.{Pace}
use Rattle.cqf_model.specs.declared.topology.Row.{Row}
use Rattle.cqf_model.specs.Domain.{Domain}
use Rattle.cqf_units.specs.Timing.{cost_of}
use Rattle.cqf_model.specs.History.{Admits, Asked, admit_reply, held_in, left_on, next_number, pace_of, refusal_of, refused_at, refused_if, seals, short_link, tree_of}
use Rattle.cqf_laws_history.specs.StateLaws.{with_entry}
use Rattle.cqf_admission.specs.Admission.{Administration, Answers, is_entered}
use Rattle.cqf_program_plans.specs.Compile.Output.{with_asked}
use Rattle.cqf_program_placing.specs.Placing.{Placed, Unplaced, answered, fault_of_refusal}

-- what the answer to a request says about it
granted_so : (number effect : ℕ) (receipt : Receipt) (refusal : Option Refused) → Accepted receipt ≡ admit_reply number effect refusal → refusal ≡ None
granted_so number effect receipt None h = refl
granted_so number effect receipt (Some refused) h = absurd cc

refused_so : (number effect : ℕ) (refused : Refused) (refusal : Option Refused) → RefusedFor refused ≡ admit_reply number effect refusal →
    refusal ≡ Some refused
refused_so number effect refused None h = absurd cc
refused_so number effect refused (Some other) h = cc

-- a refusal is entered, unless the history is full or memory lacks
pub refusal_entered : (refused : Refused) → refused ≢ HistoryFull → refused ≢ Memory → is_entered (Err refused) ≡ true
refusal_entered BadName full memory = refl
refusal_entered BadOctets full memory = refl
refusal_entered BadPace full memory = refl
refusal_entered (UnknownNode index) full memory = refl
refusal_entered (BrokenPath index) full memory = refl
refusal_entered (LoopingPath index) full memory = refl
refusal_entered (NotATree branch) full memory = refl
refusal_entered TooManyHops full memory = refl
refusal_entered NameHeld full memory = refl
refusal_entered TooManyStreams full memory = refl
refusal_entered (BudgetShort link left) full memory = refl
refusal_entered NotHeld full memory = refl
refusal_entered AlreadyWithdrawn full memory = refl
refusal_entered HistoryFull full memory = absurd (full refl)
refusal_entered Memory full memory = absurd (memory refl)

-- what is entered is the request with the answer that is due
module _ (old new : Administration) (asked : Asked) (d : Domain) (of : old.domain ≡ d) where
  -- the refusal that is due, if one is
  abbrev refusal : Option Refused
  refusal = refusal_of d (held_in d old.entries (seals old.entries)) asked

  entered_so : (result : Result Receipt Refused) → Answers old new 0 (Admits asked) result → is_entered result ≡ true → new.entries ≡ with_asked d old.entries asked
  entered_so result answers is =
      subst (λ (x : Domain). new.entries ≡ with_asked x old.entries asked) of
      (answers.entered is ∙ ap (λ reply. with_entry old.entries 0 (Admits asked) reply) (answers.due is))

  -- if the request is granted, none is due
  pub granted_answer : (receipt : Receipt) → Answers old new 0 (Admits asked) (Ok receipt) →
      (Placed asked ≡ answered d asked refusal) × (new.entries ≡ with_asked d old.entries asked)
  granted_answer receipt answers =
      let due : refusal_of old.domain (held_in old.domain old.entries (seals old.entries)) asked ≡ None =
      granted_so (next_number old.domain old.entries) (seals old.entries) receipt _ (answers.due refl) in
      let none : refusal ≡ None = subst (λ (x : Domain). refusal_of x (held_in x old.entries (seals old.entries)) asked ≡ None) of due in
      (ap (answered d asked) (sym none), entered_so (Ok receipt) answers refl)

  -- if it is refused, this one is due
  pub refused_due : (refused : Refused) → Answers old new 0 (Admits asked) (Err refused) → is_entered (Err refused) ≡ true → refusal ≡ Some refused
  refused_due refused answers is =
      let due : refusal_of old.domain (held_in old.domain old.entries (seals old.entries)) asked ≡ Some refused =
      refused_so (next_number old.domain old.entries) (seals old.entries) refused _ (answers.due is) in
      subst (λ (x : Domain). refusal_of x (held_in x old.entries (seals old.entries)) asked ≡ Some refused) of due

  pub refused_answer : (refused : Refused) → Answers old new 0 (Admits asked) (Err refused) → is_entered (Err refused) ≡ true →
      (Unplaced (fault_of_refusal d refused) ≡ answered d asked refusal) × (new.entries ≡ with_asked d old.entries asked)
  refused_answer refused answers is =
      (ap (answered d asked) (sym (refused_due refused answers is)), entered_so (Err refused) answers is)

-- if the answer is for lack of room, no earlier refusal of another kind was due
skip_if : (l left : ℕ) (b : Bool) (refused : Refused) (later : Option Refused) → refused ≢ BudgetShort l left →
    or_else (refused_if b refused) later ≡ Some (BudgetShort l left) → later ≡ Some (BudgetShort l left)
skip_if l left true refused later other e = absurd (other cc)
skip_if l left false refused later other e = e

skip_at : (l left : ℕ) (refused : ℕ → Refused) (o : Option ℕ) (later : Option Refused) → ((k : ℕ) → refused k ≢ BudgetShort l left) →
    or_else (refused_at refused o) later ≡ Some (BudgetShort l left) → later ≡ Some (BudgetShort l left)
skip_at l left refused None later other e = e
skip_at l left refused (Some k) later other e = absurd (other k cc)

-- it names the first link that lacks room
short_at : (d : Domain) (rows : List Row) (tree : List Hop) (pace : Pace) (l left : ℕ) (o : Option ℕ) →
    refused_at (λ k. BudgetShort k (left_on d rows tree pace k)) o ≡ Some (BudgetShort l left) → o ≡ Some l
short_at d rows tree pace l left None e = absurd cc
short_at d rows tree pace l left (Some k) e = cc

-- that link is one of the domain
pub short_is_there : (d : Domain) (rows : List Row) (asked : Asked) (l left : ℕ) → refusal_of d rows asked ≡ Some (BudgetShort l left) → l < length d.links
short_is_there d rows asked l left e =
    let tree : List Hop = tree_of d asked.paths in
    let a = skip_if l left _ BadName _ (λ h. cc) e in
    let b = skip_if l left _ BadOctets _ (λ h. cc) a in
    let c = skip_if l left _ BadPace _ (λ h. cc) b in
    let f = skip_at l left (λ index. UnknownNode index) _ _ (λ k h. cc) c in
    let g = skip_at l left (λ index. BrokenPath index) _ _ (λ k h. cc) f in
    let i = skip_at l left (λ index. LoopingPath index) _ _ (λ k h. cc) g in
    let j = skip_at l left (λ branch. NotATree branch) _ _ (λ k h. cc) i in
    let o = skip_if l left _ TooManyHops _ (λ h. cc) j in
    let k = skip_if l left _ NameHeld _ (λ h. cc) o in
    let m = skip_if l left _ TooManyStreams _ (λ h. cc) k in
    let pace : Pace = pace_of asked in
    let short : short_link d rows (cost_of d.overhead asked.octets) pace tree ≡ Some l = short_at d rows tree pace l left _ m in
    let member : Contains (map (λ (hop : Hop). hop.link) tree) l =
    (find_member (λ x. nat_lt (left_on d rows tree pace x) (cost_of d.overhead asked.octets)) _ l short).0 in
    let (hop, among, same) = contains_from_map (λ (hop : Hop). hop.link) tree l member in
    let inside : hop.link < length d.links =
    subst (λ (x : Hop). x.link < length d.links) among.2 (hops_inside d asked.paths among.0 hop among.1) in
    subst (λ (x : ℕ). x < length d.links) same inside
