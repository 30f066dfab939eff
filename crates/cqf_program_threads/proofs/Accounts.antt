-- The account of a scenario that was opened.
use Rattle.std.proofs.Common.{◌≡◌, ◌≢◌, ◌⊎◌, ◌∙◌, ℕ, List, [], arith, ap, codes, inl, inr, map, subst, subst₂, sym, refl}
use Rattle.std.specs.Global.{Global}
use Rattle.std.specs.declared.vec.Vec.{Vec}
use Rattle.std.proofs.lemmas.Simd.{map-map}
use Rattle.cqf_model.specs.declared.limits.Limits.{Limits}
use Rattle.cqf_model.specs.declared.frames.Background.{Background}
use Rattle.cqf_model.specs.declared.frames.Offer.{Offer}
use Rattle.cqf_model.specs.Domain.{Domain, IsAccepted}
use Rattle.cqf_model.specs.Headline.{IsAccountOf}
use Rattle.cqf_model.specs.History.{Act, Recorded}
use Rattle.cqf_admission.specs.declared.entries.Command.{Command}
use Rattle.cqf_laws_account.specs.Traced.{TracesGive, TracesGiveTheBook}
use Rattle.cqf_trace.specs.Traces.{MayBeReported, reported_from}
use Rattle.cqf_program_runs.specs.Run.Output.{run_text}
use Rattle.cqf_program_scenario.specs.Opening.{IsOpenedInput, opening_history}
use Rattle.cqf_program_scenario.specs.Parted.{acts_of_each}
use Rattle.cqf_program_scenario.specs.Parting.{AreCommandsAfter}
use Rattle.cqf_program_scenario.specs.Scenario.{scenario_input}
use Rattle.cqf_program_scenario.specs.declared.opening.Opened.{Opened}
use Rattle.cqf_output.specs.Stops.{EndsWith, IsRefused, fault_line}
use Rattle.cqf_output.specs.declared.stops.Stop.{Stop}
use Rattle.cqf_program_threads.specs.ThreadsOutput.{EndsThreads, IsAccountOfInput, IsFaultOfInput, IsThreadsOutput}
use Rattle.cqf_worker.specs.Account.{IsTracedAccount, all_asked, entries_of}
use Rattle.cqf_worker.specs.Failing.{IsConductFault}
use Rattle.cqf_worker_loops.specs.Commands.{acts_asked}
use Rattle.cqf_worker.specs.Faults.{conduct_fault_text}
use Rattle.cqf_worker.specs.declared.account.TracedAccount.{TracedAccount}
use Rattle.cqf_worker.specs.declared.faults.ConductFault.{ConductFault}
use Rattle.cqf_worker.specs.declared.faults.ConductFault.TheVariants.{Memory, DeskDisagrees, ChannelLost, Spawn}

-- each administrator's commands, from their vectors
abbrev pub commands_in : List (Vec Command Global) → List (List Command)
commands_in lists = map (λ (commands : Vec Command Global). commands.items) lists

-- their calls are those of the vectors
asked_of : (lists : List (Vec Command Global)) → acts_of_each lists ≡ all_asked (commands_in lists)
asked_of lists = sym (map-map acts_asked (λ (commands : Vec Command Global). commands.items) lists)

-- an account by traces of what was opened of an input is one of the input's scenario
pub IsAccountOfInput-opened : (limits : Limits) (cycles : ℕ) (input : List ℕ) (made : Opened) (account : TracedAccount) (offers : List Offer) (frames : List Background)
    → IsOpenedInput limits cycles input made → offers ≡ made.offers.items → frames ≡ made.background.items
    → IsTracedAccount made.domain made.admission.entries offers frames cycles (commands_in made.commands.items) account
    → IsAccountOfInput limits cycles input made.domain account
IsAccountOfInput-opened limits cycles input made account offers frames opened same_offers same_frames is =
    let s = opened.scenario in
    let o = opened.opened in
    let admins = commands_in made.commands.items in
    let of_opening : IsTracedAccount made.domain (opening_history s) offers frames cycles admins account =
    subst (λ (entries : List Recorded). IsTracedAccount made.domain entries offers frames cycles admins account) o.entries is in
    record {
      scenario = s;
      holds = opened.holds;
      domain = o.domain;
      commands = admins;
      asked = subst (λ (lists : List (List Act)). AreCommandsAfter s.calls s.sealer lists) (asked_of made.commands.items) o.commands;
      is_account = subst₂ (λ (offers : List Offer) (frames : List Background). IsTracedAccount made.domain (opening_history s) offers frames
          cycles admins account)
          (same_offers ∙ o.offers) (same_frames ∙ o.background) of_opening;
    }

-- a possible fault of a run of what was opened of an input is one of the input's scenario
pub IsFaultOfInput-opened : (limits : Limits) (cycles : ℕ) (input : List ℕ) (made : Opened) (fault : ConductFault) (d : Domain) (entries : List Recorded)
    (offers : List Offer) (frames : List Background) → IsOpenedInput limits cycles input made → d ≡ made.domain → entries ≡ made.admission.entries
    → offers ≡ made.offers.items → frames ≡ made.background.items
    → IsConductFault d entries offers frames cycles (commands_in made.commands.items) fault → IsFaultOfInput limits cycles input fault
IsFaultOfInput-opened limits cycles input made fault d entries offers frames opened same_domain same_entries same_offers same_frames may =
    let s = opened.scenario in
    let o = opened.opened in
    let admins = commands_in made.commands.items in
    let of_offers : IsConductFault d entries s.offers s.background cycles admins fault =
    subst₂ (λ (offers : List Offer) (frames : List Background). IsConductFault d entries offers frames cycles admins fault)
    (same_offers ∙ o.offers) (same_frames ∙ o.background) may in
    record {
      scenario = s;
      holds = opened.holds;
      of_scenario = record {
        commands = admins;
        asked = subst (λ (lists : List (List Act)). AreCommandsAfter s.calls s.sealer lists) (asked_of made.commands.items) o.commands;
        may = subst₂ (λ (e : Domain) (entries : List Recorded). IsConductFault e entries s.offers s.background cycles admins fault)
            (same_domain ∙ o.domain) (same_entries ∙ o.entries) of_offers;
      };
    }

-- the traces of such an account yield its book
module _ (limits : Limits) (cycles : ℕ) (input : List ℕ) (d : Domain) (account : TracedAccount)
    (of : IsAccountOfInput limits cycles input d account) (law : TracesGiveTheBook) (accepted : IsAccepted d) where
  reports : TracesGive d cycles account.traces of.is_account.book
  reports = law d cycles account.traces of.is_account.book accepted of.is_account.some of.is_account.its_traces

  -- without any sorting
  pub may_be_written : MayBeReported d account.traces
  may_be_written = reports.may

  -- the text of its history and of the book of its traces is the output
  pub IsThreadsOutput-written : (text : List ℕ) → text ≡ run_text d (entries_of account.history) (reported_from d cycles account.traces) →
      IsThreadsOutput limits cycles input text
  IsThreadsOutput-written text written =
      let s = of.scenario in
      let entries = entries_of account.history in
      let book = of.is_account.book in
      let same : IsAccountOf s.domain (opening_history s) s.offers s.background cycles (all_asked of.commands) entries book =
      subst (λ (e : Domain). IsAccountOf e (opening_history s) s.offers s.background cycles (all_asked of.commands) entries book) of.domain
      of.is_account.run.is in
      record {
        scenario = s;
        holds = of.holds;
        entries = entries;
        book = book;
        of_scenario = record { commands = of.commands; asked = of.asked; is_account = same };
        written = written ∙ ap (run_text d entries) (sym reports.reported) ∙ ap (λ (e : Domain). run_text e entries book) of.domain;
      }

-- an input that is refused ends it
pub EndsThreads-refused : (limits : Limits) (cycles : ℕ) (input : List ℕ) (stop : Stop) → IsRefused (scenario_input limits cycles input) stop → EndsThreads limits cycles input stop
EndsThreads-refused limits cycles input stop h = record {
  statuses = elim h.statuses [ inl one ↦ inl one | inr three ↦ inr (inl three) ];
  refused = h.line;
  fault = λ four. absurd (elim h.statuses [ inl one ↦ omega arith | inr three ↦ omega arith ]);
  memory = h.memory;
}

-- lack of memory ends it
pub EndsThreads-memory : (limits : Limits) (cycles : ℕ) (input : List ℕ) (stop : Stop) → stop.status ≡ 3 → stop.text.items ≡ [] → EndsThreads limits cycles input stop
EndsThreads-memory limits cycles input stop three none = record {
  statuses = inr (inl three);
  refused = λ one. absurd (omega arith);
  fault = λ four. absurd (omega arith);
  memory = λ _. none;
}

-- a fault of a run of the input's scenario ends it, if it isn't for lack of memory
EndsThreads-fault : (limits : Limits) (cycles : ℕ) (input : List ℕ) (fault : ConductFault) (stop : Stop) → IsFaultOfInput limits cycles input fault → fault ≢ Memory
    → EndsWith 4 (fault_line (codes "run") (conduct_fault_text fault)) stop → EndsThreads limits cycles input stop
EndsThreads-fault limits cycles input fault stop may other e = record {
  statuses = elim e.statuses [ inl four ↦ inr (inr four) | inr three ↦ inr (inl three) ];
  refused = λ one. absurd (elim e.statuses [ inl four ↦ omega arith | inr three ↦ omega arith ]);
  fault = λ four. record {
    scenario = may.scenario;
    holds = may.holds;
    fault = fault;
    of_scenario = may.of_scenario;
    other = other;
    reports = e.line_is four;
  };
  memory = e.memory;
}

-- a fault is for lack of memory, or another one
memory_or_not : (fault : ConductFault) → (fault ≡ Memory) ⊎ (fault ≢ Memory)
memory_or_not Memory = inl refl
memory_or_not DeskDisagrees = inr (λ e. (cc))
memory_or_not ChannelLost = inr (λ e. (cc))
memory_or_not Spawn = inr (λ e. (cc))

-- it ends with any fault
pub EndsThreads-stopped : (limits : Limits) (cycles : ℕ) (input : List ℕ) (fault : ConductFault) (stop : Stop) → IsFaultOfInput limits cycles input fault
    → (fault ≢ Memory → EndsWith 4 (fault_line (codes "run") (conduct_fault_text fault)) stop) → (fault ≡ Memory → EndsWith 3 [] stop)
    → EndsThreads limits cycles input stop
EndsThreads-stopped limits cycles input fault stop may reported memory = elim (memory_or_not fault) [
  | inl is ↦
      let e = memory is in
      let three : stop.status ≡ 3 = elim e.statuses [ inl three ↦ three | inr three ↦ three ] in
      EndsThreads-memory limits cycles input stop three (e.memory three)
  | inr other ↦ EndsThreads-fault limits cycles input fault stop may other (reported other)
]
