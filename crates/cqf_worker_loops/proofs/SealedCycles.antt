-- Cycles that a conductor closes, one after the other.
use Rattle.std.proofs.Common.{ℕ, ◌≡◌, ◌<◌, ◌≤◌, ◌+◌, ◌-◌, ◌⊎◌, ◌∷◌, ◌++◌, [], Bool, false, List, Some, length, get_or}
use Rattle.std.proofs.Common.{map, refl, sym, ap, subst, ◌∙◌, append_assoc, append-nil, arith, inl, inr}
use Rattle.std.specs.Prelude.{All, true, drop, replicate, slice_get, take}
use Rattle.std.proofs.lemmas.List.{length-append, length-map, map-append, replicate-append-replicate}
use Rattle.std.proofs.lemmas.Bool.{false≢true}
use Rattle.std.proofs.lemmas.Option.{same_Some}
use Rattle.cqf_lists.proofs.Indices.{slice_get_after}
use Rattle.cqf_model.specs.History.{Act, Recorded, Seals}
use Rattle.cqf_model.specs.Calls.{acts_of}
use Rattle.cqf_admission.specs.declared.entries.SealFault.{SealFault}
use Rattle.cqf_admission.specs.declared.entries.SealFault.TheVariants as seal
use Rattle.cqf_admission.specs.Tables.{CycleTable}
use Rattle.cqf_desk.specs.Desk.{Sitting, with_seal}
use Rattle.cqf_worker_loops.specs.declared.carried.Carried.{Carried}
use Rattle.cqf_worker_loops.specs.declared.carried.Carried.TheVariants.{Item, Stop}
use Rattle.cqf_worker_loops.specs.declared.sealing.SealingFault.{SealingFault}
use Rattle.cqf_worker_loops.specs.declared.sealing.SealingFault.TheVariants.{CyclesSpent, Lost, Memory}
use Rattle.cqf_worker_loops.specs.declared.sealing.Unsealed.{Unsealed}
use Rattle.cqf_worker_loops.specs.Handing.{ClosesSome, GivesSome, GivesTables, HasBrokenOff, HasClosed, HasSealed}
use Rattle.cqf_worker_loops.specs.Handing.{LacksOne, SealsBlock, SealsMany, SealsOne, SealsSome, TableEnd}
use Rattle.cqf_worker_loops.specs.Handing.{fault_of_seal, pipes_of}
use Rattle.cqf_worker_loops.specs.Stops.{AreItemsThenStop}
use Rattle.cqf_worker_loops.proofs.Each.{written_back}
use Rattle.cqf_worker_loops.proofs.Stopping.{HasItems, items_or_none, items_then_stop}
use Rattle.cqf_worker_loops.specs.PipeRule.{most_items}

-- the effect of a Seal on a seat
pub seals_as : (old new : Sitting) (table : CycleTable) → new ≡ with_seal old table → SealsOne old new table
seals_as old new table is = record {
  number = ap (λ (s : Sitting). s.number) is;
  acts = ap (λ (s : Sitting). acts_of s.calls) is ∙ map-append (λ (e : Recorded). e.act) old.calls _;
  tables = ap (λ (s : Sitting). s.tables) is;
}

-- the newest table is the one that the Seal closed
pub seals_one : (old new : Sitting) (table last copy : CycleTable) → new ≡ with_seal old table → Some last ≡ slice_get new.tables (length new.tables - 1) →
    copy ≡ last → SealsOne old new copy
seals_one old new table last copy is newest copied =
    let tables : new.tables ≡ old.tables ++ table ∷ [] = ap (λ (s : Sitting). s.tables) is in
    let index : length new.tables - 1 ≡ length old.tables = omega (arith, ap length tables, length-append old.tables (table ∷ [])) in
    let there : slice_get new.tables (length new.tables - 1) ≡ Some table =
    ap (λ (ts : List CycleTable). slice_get ts (length new.tables - 1)) tables ∙ slice_get_after old.tables table [] (length new.tables - 1) index in
    let same : copy ≡ table = copied ∙ same_Some last table (newest ∙ there) in
    subst (SealsOne old new) (sym same) (seals_as old new table is)

-- at first no cycle is closed; then one more after the others
pub seals_nothing : (seat : Sitting) (tables : List CycleTable) → tables ≡ [] → SealsMany 0 seat seat tables
seals_nothing seat tables none = record {
  number = refl;
  acts = sym (append-nil (acts_of seat.calls));
  many = ap length none;
  following = sym (append-nil seat.tables) ∙ ap (λ (ts : List CycleTable). seat.tables ++ ts) (sym none);
}

-- one more Seal, with its table
pub seals_more : (count : ℕ) (old now new : Sitting) (tables : List CycleTable) (table : CycleTable) → SealsMany count old now tables →
    SealsOne now new table → SealsMany (count + 1) old new (tables ++ table ∷ [])
seals_more count old now new tables table many one = record {
  number = one.number ∙ many.number;
  acts = one.acts ∙ ap (λ (acts : List Act). acts ++ Seals ∷ []) many.acts ∙ append_assoc (acts_of old.calls) (replicate count Seals) (Seals ∷ [])
      ∙ ap (λ (acts : List Act). acts_of old.calls ++ acts) (replicate-append-replicate count 1 Seals);
  many = length-append tables (table ∷ []) ∙ ap (λ (n : ℕ). n + 1) many.many;
  following = one.tables ∙ ap (λ (ts : List CycleTable). ts ++ table ∷ []) many.following ∙ append_assoc old.tables tables (table ∷ []);
}

-- some cycles are closed, and then more
seals_on : (count more : ℕ) (old now new : Sitting) (tables others : List CycleTable) → SealsMany count old now tables → SealsMany more now new others →
    SealsMany (count + more) old new (tables ++ others)
seals_on count more old now new tables others one other = record {
  number = other.number ∙ one.number;
  acts = other.acts ∙ ap (λ (acts : List Act). acts ++ replicate more Seals) one.acts
      ∙ append_assoc (acts_of old.calls) (replicate count Seals) (replicate more Seals)
      ∙ ap (λ (acts : List Act). acts_of old.calls ++ acts) (replicate-append-replicate count more Seals);
  many = omega (arith, length-append tables others, one.many, other.many);
  following = other.following ∙ ap (λ (ts : List CycleTable). ts ++ others) one.following ∙ append_assoc old.tables tables others;
}

-- one cycle alone is closed
seals_first : (old new : Sitting) (table : CycleTable) → SealsOne old new table → SealsMany 1 old new (table ∷ [])
seals_first old new table one = record { number = one.number; acts = one.acts; many = refl; following = one.tables }

-- one cycle is closed, and then the others
pub seals_after : (count : ℕ) (old now new : Sitting) (table : CycleTable) (tables : List CycleTable) → 0 < count → SealsOne old now table →
    SealsMany (count - 1) now new tables → SealsMany count old new (table ∷ tables)
seals_after count old now new table tables some one many =
    let all : 1 + (count - 1) ≡ count = omega (arith, some) in
    subst (λ (n : ℕ). SealsMany n old new (table ∷ tables)) all (seals_on 1 (count - 1) old now new (table ∷ []) tables (seals_first old now table one) many)

-- an allocation failure is none of the other faults
not_spent : Memory ≡ CyclesSpent → ⊥
not_spent is = absurd cc

not_lost : Memory ≡ Lost → ⊥
not_lost is = absurd cc

-- the reason of a refused Seal is never that a worker ended
pub seal_not_lost : (refused : SealFault) → fault_of_seal refused ≡ Lost → ⊥
seal_not_lost seal.CyclesSpent is = absurd cc
seal_not_lost seal.Memory is = absurd cc

-- the first Seal is refused
pub some_none : (old new : Sitting) (refused : SealFault) (fault : SealingFault) → new ≡ old → fault ≡ fault_of_seal refused → SealsSome 1 old new fault
some_none old new refused fault same is = record {
  closed = 0;
  tables = [];
  sealed = subst (λ (s : Sitting). SealsMany 0 old s []) (sym same) (seals_nothing old [] refl);
  upto = omega arith;
  spent = λ spent. omega arith;
  not_lost = λ lost. seal_not_lost refused (sym is ∙ lost);
}

-- some cycles are closed, and then an allocation fails
pub some_many : (count closed : ℕ) (old new : Sitting) (tables : List CycleTable) → SealsMany closed old new tables → closed ≤ count →
    SealsSome count old new Memory
some_many count closed old new tables sealed upto = record {
  closed = closed;
  tables = tables;
  sealed = sealed;
  upto = upto;
  spent = λ is. absurd (not_spent is);
  not_lost = not_lost;
}

-- one is closed, and its table can't be copied
pub some_one : (old new : Sitting) (table : CycleTable) → new ≡ with_seal old table → SealsSome 1 old new Memory
some_one old new table is = some_many 1 1 old new (table ∷ []) (seals_first old new table (seals_as old new table is)) (omega arith)

-- some cycles are closed, and then some of the others
pub some_on : (count more all : ℕ) (old now new : Sitting) (tables : List CycleTable) (fault : SealingFault) → SealsMany count old now tables →
    SealsSome more now new fault → count + more ≤ all → SealsSome all old new fault
some_on count more all old now new tables fault many some few = record {
  closed = count + some.closed;
  tables = tables ++ some.tables;
  sealed = seals_on count some.closed old now new tables some.tables many some.sealed;
  upto = omega (arith, some.upto, few);
  spent = λ is. omega (arith, some.spent is, few);
  not_lost = some.not_lost;
}

-- the first one isn't closed
pub some_first : (count : ℕ) (old new : Sitting) (fault : SealingFault) → SealsSome 1 old new fault → 0 < count → SealsSome count old new fault
some_first count old new fault some few =
    some_on 0 1 count old old new [] fault (seals_nothing old [] refl) some (omega (arith, few))

-- or only some of the later ones are
pub some_after : (count : ℕ) (old now new : Sitting) (table : CycleTable) (fault : SealingFault) → SealsOne old now table →
    SealsSome (count - 1) now new fault → 0 < count → SealsSome count old new fault
some_after count old now new table fault one some few =
    some_on 1 (count - 1) count old now new (table ∷ []) fault (seals_first old now table one) some (omega (arith, few))

-- the cycles so far are closed, and if all workers were there, each has their tables
pub record IsSealing (seat : Sitting) (ends : List TableEnd) (count : ℕ) (now : Sitting) (after : List TableEnd) (all : Bool) : Type 0 where
  pub number : now.number ≡ seat.number
  pub acts : acts_of now.calls ≡ replicate count Seals
  pub many : length now.tables ≡ count
  pub pipes : pipes_of after ≡ pipes_of ends
  pub put : (index : ℕ) (d : TableEnd) → index < length after → HasItems (get_or after index d) × (length (get_or after index d).items ≤ count)
  pub given : all ≡ true → (index : ℕ) (d : TableEnd) → index < length after → (get_or after index d).items ≡ map Item now.tables
  pub lacks : all ≡ false → LacksOne after count

-- none at first
pub seals_none : (seat : Sitting) (ends : List TableEnd) → seat.calls ≡ [] → seat.tables ≡ [] → All (λ (e : TableEnd). e.items ≡ []) ends →
    IsSealing seat ends 0 seat ends true
seals_none seat ends no_calls no_tables nothing = record {
  number = refl;
  acts = ap acts_of no_calls;
  many = ap length no_tables;
  pipes = refl;
  put = λ index d inside. (([], nothing index d inside), omega (arith, ap length (nothing index d inside)));
  given = λ all index d inside. nothing index d inside ∙ sym (ap (map Item) no_tables);
  lacks = λ is. absurd (false≢true (sym is));
}

-- ends of the same pipes are of the same number
as_many : (before after : List TableEnd) → pipes_of after ≡ pipes_of before → length after ≡ length before
as_many before after pipes =
    sym (length-map after (λ (e : TableEnd). e.pipe)) ∙ ap length pipes ∙ length-map before (λ (e : TableEnd). e.pipe)

-- tables were put for some workers, or none
more_put : (more : ℕ) (after later : List TableEnd) → GivesTables more after later → (index : ℕ) (d : TableEnd) → index < length after →
    HasItems (get_or after index d) → HasItems (get_or later index d) × (length (get_or later index d).items ≤ length (get_or after index d).items + more)
more_put more after later gives index d below was =
    elim gives [
      | inl same ↦
          let is : get_or later index d ≡ get_or after index d = ap (λ (es : List TableEnd). get_or es index d) same in
          (subst HasItems (sym is) was, omega (arith, ap (λ (e : TableEnd). length e.items) is))
      | inr some ↦
          let then = items_or_none (get_or after index d) (get_or later index d) some.0 was (some.2 index d below) in
          (then.0, omega (arith, then.1, some.1))
    ]

-- and so after the cycles before
table_put : (seat : Sitting) (ends : List TableEnd) (count more : ℕ) (now : Sitting) (after later : List TableEnd) (all : Bool) →
    IsSealing seat ends count now after all → pipes_of later ≡ pipes_of after → GivesTables more after later → (index : ℕ) (d : TableEnd) →
    index < length later →
    HasItems (get_or later index d) × (length (get_or later index d).items ≤ count + more)
table_put seat ends count more now after later all s pipes gives index d inside =
    let below : index < length after = omega (arith, inside, as_many after later pipes) in
    let was = s.put index d below in
    let then = more_put more after later gives index d below was.0 in
    (then.0, omega (arith, then.1, was.1))

-- if an end lacked a table, or lacks one now, it lacks one after count more cycles
lacks_next : (seat : Sitting) (ends : List TableEnd) (count more : ℕ) (now next : Sitting) (after later : List TableEnd) (all given have : Bool) →
    IsSealing seat ends count now after all → pipes_of later ≡ pipes_of after → GivesTables more after later → SealsBlock more now next after later given →
    0 < more → (have ≡ false → (all ≡ false) ⊎ (given ≡ false)) → have ≡ false → LacksOne later (count + more)
lacks_next seat ends count more now next after later all given have s pipes gives block some lack is =
    let same : length later ≡ length after = as_many after later pipes in
    elim (lack is) [
      | inl was ↦
          let l = s.lacks was in (
            l.0,
            omega (arith, l.1, same),
            λ d. omega (arith, l.2 d, (more_put more after later gives l.0 d l.1 (s.put l.0 d l.1).0).1),
          )
      | inr missed ↦
          let m = block.missed missed in (
            m.0,
            omega (arith, m.1, same),
            λ d. omega (arith, ap (λ (e : TableEnd). length e.items) (m.2 d), (s.put m.0 d m.1).1, some),
          )
    ]

-- so there is room for a Stop
pub stop_room : (seat : Sitting) (ends : List TableEnd) (count more : ℕ) (now : Sitting) (after later : List TableEnd) (all : Bool) →
    IsSealing seat ends count now after all → pipes_of later ≡ pipes_of after → GivesTables more after later → count + more ≤ 100000 →
    All (λ (e : TableEnd). length e.items < most_items) later
stop_room seat ends count more now after later all s pipes gives few index d inside =
    omega (arith, (table_put seat ends count more now after later all s pipes gives index d inside).1, few)

-- and tables were put, and then at most one Stop
then_stopped : (seat : Sitting) (ends : List TableEnd) (count more : ℕ) (now : Sitting) (after later last : List TableEnd) (all : Bool) →
    IsSealing seat ends count now after all → pipes_of later ≡ pipes_of after → GivesTables more after later → pipes_of last ≡ pipes_of later →
    GivesSome (Stop ∷ []) later last → All (λ (e : TableEnd). AreItemsThenStop e.items) last
then_stopped seat ends count more now after later last all s pipes gives same stopped index d inside =
    let below : index < length later = omega (arith, inside, as_many later last same) in
    items_then_stop (get_or later index d) (get_or last index d) (table_put seat ends count more now after later all s pipes gives index d below).0
    (stopped index d below)

-- the same of ends that are written back
pub reported_stop : (seat : Sitting) (ends : List TableEnd) (count more : ℕ) (now : Sitting) (after first later before last : List TableEnd) (n : ℕ) (all : Bool) →
    IsSealing seat ends count now after all → n ≡ length after → first ≡ after → pipes_of later ≡ pipes_of first → GivesTables more first later →
    before ≡ take n (later ++ drop (length later) after) → pipes_of last ≡ pipes_of before → GivesSome (Stop ∷ []) before last →
    All (λ (e : TableEnd). AreItemsThenStop e.items) (take n (last ++ drop (length last) (take n (later ++ drop (length later) after))))
reported_stop seat ends count more now after first later before last n all s many is pipes gives was same stopped =
    let pipes_then : pipes_of later ≡ pipes_of after = pipes ∙ ap pipes_of is in
    let back : take n (later ++ drop (length later) after) ≡ later = written_back later after n (as_many after later pipes_then) many in
    let reported : before ≡ later = was ∙ back in
    let pipes_last : pipes_of last ≡ pipes_of later = same ∙ ap pipes_of reported in
    let back_again : take n (last ++ drop (length last) (take n (later ++ drop (length later) after))) ≡ last =
    ap (λ (old : List TableEnd). take n (last ++ drop (length last) old)) back
    ∙ written_back last later n (as_many later last pipes_last) (many ∙ sym (as_many after later pipes_then)) in
    subst (All (λ (e : TableEnd). AreItemsThenStop e.items)) (sym back_again)
    (then_stopped seat ends count more now after later last all s pipes_then (subst (λ (old : List TableEnd). GivesTables more old later) is gives) pipes_last
    (subst (λ (old : List TableEnd). GivesSome (Stop ∷ []) old last) reported stopped))

-- if all cycles are closed, none is left
pub none_stopped : (seat : Sitting) (ends : List TableEnd) (count : ℕ) (now : Sitting) (after : List TableEnd) (all : Bool) →
    IsSealing seat ends count now after all → All (λ (e : TableEnd). AreItemsThenStop e.items) after
none_stopped seat ends count now after all s index d inside =
    let items : HasItems (get_or after index d) = (s.put index d inside).0 in
    (items.0, inl items.1)

-- whether all have their tables, by whether they had the earlier ones and were given these
pub record HaveThen (all given have : Bool) : Type 0 where
  pub had : have ≡ true → (all ≡ true) × (given ≡ true)
  pub lack : have ≡ false → (all ≡ false) ⊎ (given ≡ false)

-- then count more cycles
pub seals_next : (seat : Sitting) (ends : List TableEnd) (count more : ℕ) (now next : Sitting) (after later : List TableEnd) (all given have : Bool) →
    IsSealing seat ends count now after all → pipes_of later ≡ pipes_of after → GivesTables more after later → SealsBlock more now next after later given →
    0 < more → HaveThen all given have → IsSealing seat ends (count + more) next later have
seals_next seat ends count more now next after later all given have s pipes gives block some then =
    let same : length later ≡ length after = as_many after later pipes in
    let sealed = block.sealed in
    record {
      number = sealed.number ∙ s.number;
      acts = sealed.acts ∙ ap (λ (acts : List Act). acts ++ replicate more Seals) s.acts ∙ replicate-append-replicate count more Seals;
      many = ap length sealed.following ∙ length-append now.tables block.tables ∙ omega (arith, s.many, sealed.many);
      pipes = pipes ∙ s.pipes;
      put = table_put seat ends count more now after later all s pipes gives;
      given = λ is index d inside.
          block.given (then.had is).1 index d (omega (arith, inside, same))
          ∙ ap (λ (xs : List (Carried CycleTable)). xs ++ map Item block.tables) (s.given (then.had is).0 index d (omega (arith, inside, same)))
          ∙ sym (ap (map Item) sealed.following ∙ map-append Item now.tables block.tables);
      lacks = lacks_next seat ends count more now next after later all given have s pipes gives block some then.lack;
    }

-- the same of ends that are written back
pub seals_back : (seat : Sitting) (ends : List TableEnd) (count more : ℕ) (now next : Sitting) (after first later : List TableEnd) (n : ℕ)
    (all given have : Bool) → IsSealing seat ends count now after all → n ≡ length after → first ≡ after → pipes_of later ≡ pipes_of first →
    GivesTables more first later → SealsBlock more now next first later given → 0 < more → HaveThen all given have →
    IsSealing seat ends (count + more) next (take n (later ++ drop (length later) after)) have
seals_back seat ends count more now next after first later n all given have s many is pipes gives block some then =
    let pipes_then : pipes_of later ≡ pipes_of after = pipes ∙ ap pipes_of is in
    let back : take n (later ++ drop (length later) after) ≡ later = written_back later after n (as_many after later pipes_then) many in
    subst (λ (new : List TableEnd). IsSealing seat ends (count + more) next new have) (sym back)
    (seals_next seat ends count more now next after later all given have s pipes_then
    (subst (λ (old : List TableEnd). GivesTables more old later) is gives) (subst (λ (old : List TableEnd). SealsBlock more now next old later given) is block)
    some then)

-- each end has room for what is still to be put
pub seals_room : (seat : Sitting) (ends : List TableEnd) (count more : ℕ) (now : Sitting) (after : List TableEnd) (all : Bool) →
    IsSealing seat ends count now after all → count + more ≤ 100000 → All (λ (e : TableEnd). length e.items + more < most_items) after
seals_room seat ends count more now after all s few index d inside = omega (arith, (s.put index d inside).1, few)

-- at the end all cycles are closed
pub seals_all : (seat : Sitting) (ends : List TableEnd) (cycles : ℕ) (now : Sitting) (after : List TableEnd) (all : Bool) →
    IsSealing seat ends cycles now after all → all ≡ true → HasSealed cycles seat now ends after
seals_all seat ends cycles now after all s is = record { number = s.number; acts = s.acts; many = s.many; pipes = s.pipes; given = s.given is }

-- whether or not all have the tables
pub seals_closed : (seat : Sitting) (ends : List TableEnd) (cycles : ℕ) (now : Sitting) (after : List TableEnd) (all : Bool) →
    IsSealing seat ends cycles now after all → HasClosed cycles seat now
seals_closed seat ends cycles now after all s = record { number = s.number; acts = s.acts; many = s.many }

-- the cycles before are closed, and some of the next ones
pub closes_some : (seat : Sitting) (ends : List TableEnd) (count more cycles : ℕ) (now next : Sitting) (after : List TableEnd) (all : Bool)
    (fault : SealingFault) →
    IsSealing seat ends count now after all → SealsSome more now next fault → count + more ≤ cycles → ClosesSome cycles seat next fault
closes_some seat ends count more cycles now next after all fault s some few =
    let sealed = some.sealed in
    record {
      count = count + some.closed;
      closed = record {
        number = sealed.number ∙ s.number;
        acts = sealed.acts ∙ ap (λ (acts : List Act). acts ++ replicate some.closed Seals) s.acts ∙ replicate-append-replicate count some.closed Seals;
        many = ap length sealed.following ∙ length-append now.tables some.tables ∙ omega (arith, s.many, sealed.many);
      };
      upto = omega (arith, some.upto, few);
      spent = λ is. omega (arith, some.spent is, few);
      not_lost = some.not_lost;
    }

-- a conductor that gives up with a fault other than a lost worker
pub broken_off : (cycles : ℕ) (seat : Sitting) (before : List TableEnd) (left : Unsealed) → ClosesSome cycles seat left.conductor.seat left.fault →
    pipes_of left.conductor.tables.items ≡ pipes_of before → All (λ (end : TableEnd). AreItemsThenStop end.items) left.conductor.tables.items →
    HasBrokenOff cycles seat before left
broken_off cycles seat before left some pipes put = record {
  count = some.count;
  closed = some.closed;
  upto = some.upto;
  spent = some.spent;
  lost = λ is. absurd (some.not_lost is);
  pipes = pipes;
  put = put;
}

-- and one whose worker had ended
pub broken_by_worker : (cycles : ℕ) (seat : Sitting) (before : List TableEnd) (left : Unsealed) → left.fault ≡ Lost →
    HasClosed cycles seat left.conductor.seat → LacksOne left.conductor.tables.items cycles → pipes_of left.conductor.tables.items ≡ pipes_of before →
    All (λ (end : TableEnd). AreItemsThenStop end.items) left.conductor.tables.items → HasBrokenOff cycles seat before left
broken_by_worker cycles seat before left is closed lacks pipes put = record {
  count = cycles;
  closed = closed;
  upto = omega arith;
  spent = λ spent. absurd (lost_not_spent left.fault is spent);
  lost = λ lost. (refl, lacks);
  pipes = pipes;
  put = put;
}
  where
    -- there is only one fault
    lost_not_spent : (fault : SealingFault) → fault ≡ Lost → fault ≡ CyclesSpent → ⊥
    lost_not_spent fault lost spent = absurd cc

-- when none is left, all cycles are closed
pub none_left : (cycles left : ℕ) → left ≡ 0 → cycles - left ≡ cycles
none_left cycles left none = omega (arith, none)
