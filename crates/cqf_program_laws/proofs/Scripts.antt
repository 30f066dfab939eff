-- A script's calls request streams of its requests alone, and so do its histories.
use Rattle.std.proofs.Common.{◌≡◌, ◌∙◌, ◌+◌, ◌-◌, ◌<◌, ◌∷◌, [], ℕ, Bool, true, false, List, Option, Some, None, Result, Ok, Err, inl, inr}
use Rattle.std.proofs.Common.{arith, ap, sym, subst, refl, map, Contains, take}
use Rattle.std.specs.Prelude.{codes, if◌then◌else◌, option_and_then, filter, nat_le, ok_or, option_map}
use Rattle.std.specs.List.{position_or_len}
use Rattle.std.proofs.lemmas.List.{get_or-replicate, length-replicate, take-append-drop}
use Rattle.std.proofs.lemmas.List.Elements.{Contains-append_right}
use Rattle.std.proofs.lemmas.Option.{get_or_from_slice_get, same_Some, slice_get_within}
use Rattle.cqf_lists.specs.Lists.{or_else}
use Rattle.cqf_lists.specs.Results.{and_then}
use Rattle.cqf_lists.proofs.Members.{contains_cases, contains_from_filter, contains_from_map, contains_from_take, contains_none, find_member}
use Rattle.cqf_topology.specs.Fields.{and_first}
use Rattle.cqf_model.specs.declared.limits.Limits.{Limits}
use Rattle.cqf_model.specs.declared.frames.Background.{Background}
use Rattle.cqf_model.specs.declared.frames.Offer.{Offer}
use Rattle.cqf_model.specs.Domain.{Domain, is_text}
use Rattle.cqf_model.specs.History.{Act, Admits, Asked, Seals, Withdraws, seals}
use Rattle.cqf_model.specs.Limits.{most_calls}
use Rattle.cqf_text.specs.Lines.{lines_of}
use Rattle.cqf_text.specs.Parts.{parts_of}
use Rattle.cqf_topology.specs.PlannedText.{PlannedText}
use Rattle.cqf_topology.specs.PacedText.{PacedText, paced_of_text}
use Rattle.cqf_network.specs.NetworkDomain.{NetworkDomain}
use Rattle.cqf_admission.specs.Asking.{asked_by}
use Rattle.cqf_admission.specs.declared.faults.ScriptFault.{ScriptFault}
use Rattle.cqf_admission.specs.declared.faults.ScriptFault.TheVariants.{BadLine, UnknownStream, TooMany}
use Rattle.cqf_admission.specs.Lines.{Written, is_seal_line, order_after, order_of_line, seat_of_digit, word_after}
use Rattle.cqf_admission.specs.Script.{Called, act_for, administrators, call_of_line, call_of_order, call_of_seal}
use Rattle.cqf_admission.specs.Script.{called_after, calls_from, request_named, script_of, sealed_after}
use Rattle.cqf_laws_timing.proofs.Listed.{none_admits_only}
use Rattle.cqf_laws_timing.specs.Asking.{AsksOnly, CallsAdmitOnly, SeatsAdmitOnly}
use Rattle.cqf_output.specs.Stops.{or_line}
use Rattle.cqf_program_scenario.specs.Calls.{called_for, seals_by, with_calls}
use Rattle.cqf_program_scenario.specs.Lines.{script_line, streams_line}
use Rattle.cqf_program_scenario.specs.Networks.{domain_of, domain_of_part, network_of_part}
use Rattle.cqf_program_scenario.specs.Parting.{calls_from_seal, closes, commands_by, is_command_of, opening_calls}
use Rattle.cqf_program_scenario.specs.Parts.{RunTexts, run_parts}
use Rattle.cqf_program_scenario.specs.Scenario.{Scenario, calls_in, frames_of_part, scenario_after}
use Rattle.cqf_program_plans.specs.Latency.Input.{asked_in}
use Rattle.cqf_program_plans.proofs.CompileLemmas.{same_ok}
use Rattle.cqf_program_runs.specs.Deliveries.PlannedScenario.{planned_of_part, planned_scenario, planned_scenario_of}
use Rattle.cqf_program_laws.specs.ScriptLaws.{AccountsAdmitOnly, AskOnly, HistoriesAdmitOnly, PlannedScenariosAskOnly, ScenariosAskOnly, ScriptsAskOnly}

-- ---- steps of reading

-- what a step gave, if another step followed
pub stepped : {A B E : Type 0} (first : Result A E) (next : A → Result B E) (found : B) → and_then first next ≡ Ok found →
    (x : A) × (first ≡ Ok x) × (next x ≡ Ok found)
stepped (Err e) next found h = absurd (cc)
stepped (Ok x) next found h = (x, refl, h)

-- what a step and the rest gave
pub parted : {A E : Type 0} (first : Result A E) (rest : Result (List A) E) (found : List A) → and_first first rest ≡ Ok found →
    (x : A) × (xs : List A) × (first ≡ Ok x) × (rest ≡ Ok xs) × (found ≡ x ∷ xs)
parted (Err e) rest found h = absurd (cc)
parted (Ok x) (Err e) found h = absurd (cc)
parted (Ok x) (Ok xs) found h = (x, xs, refl, refl, cc)

-- what is found is what was there
pub there : {A E : Type 0} (found : Option A) (fault : E) (x : A) → ok_or found fault ≡ Ok x → found ≡ Some x
there None fault x h = absurd (cc)
there (Some y) fault x h = cc

-- a test that fails lets the rest through
unless : {A : Type 0} (test : Bool) (fault : ScriptFault) (x found : A) → (if test then Err fault else Ok x) ≡ Ok found → found ≡ x
unless true fault x found h = absurd (cc)
unless false fault x found h = cc

-- a value with a line for its fault is the value
pub lined : {A E : Type 0} (line : E → List ℕ) (found : Result A E) (x : A) → or_line line found ≡ Ok x → found ≡ Ok x
lined line (Err e) x h = absurd (cc)
lined line (Ok y) x h = cc

-- ---- a script's calls

-- a Seal requests nothing, and a withdrawal doesn't
seal_asks : (streams : List Asked) → AsksOnly streams Seals
seal_asks streams asked admits = absurd (cc)

withdrawal_asks : (streams : List Asked) (name : List ℕ) → AsksOnly streams (Withdraws name)
withdrawal_asks streams name asked admits = absurd (cc)

admission_asks : (streams : List Asked) (one : Asked) → Contains streams one → AsksOnly streams (Admits one)
admission_asks streams one c asked admits =
    let is : one ≡ asked = cc in
    subst (λ (a : Asked). Contains streams a) is c

-- the request of a name is one of the requests
named_asks : (requests : List Asked) (name : List ℕ) (act : Act) (found : Option Asked) → request_named requests name ≡ found →
    option_map (λ (asked : Asked). Admits asked) found ≡ Some act → AsksOnly requests act
named_asks requests name act None e h = absurd (cc)
named_asks requests name act (Some one) e h =
    let is : Admits one ≡ act = cc in
    subst (AsksOnly requests) is
    (admission_asks requests one (find_member (λ (asked : Asked). is_text asked.name name) requests one e).0)

-- a withdrawal of a name
withdrawn_asks : (requests : List Asked) (name : List ℕ) (act : Act) → ◌≡◌ {A = Option Act} (Some (Withdraws name)) (Some act) → AsksOnly requests act
withdrawn_asks requests name act h = subst (AsksOnly requests) (same_Some (Withdraws name) act h) (withdrawal_asks requests name)

-- an order that is found requests at most one of the requests
abbrev AsksAtMost : List Asked → Option Written → Type 0
AsksAtMost requests found =
    (order : Written) → found ≡ Some order → (act : Act) → act_for requests order.wish order.name ≡ Some act → AsksOnly requests act

either_asks : (requests : List Asked) (a b : Option Written) → AsksAtMost requests a → AsksAtMost requests b → AsksAtMost requests (or_else a b)
either_asks requests None b first second = second
either_asks requests (Some order) b first second = first

word_asks : (requests : List Asked) (make : List ℕ → Written) (found : Option (List ℕ)) →
    ((word : List ℕ) (act : Act) → act_for requests (make word).wish (make word).name ≡ Some act → AsksOnly requests act) →
    AsksAtMost requests (option_map make found)
word_asks requests make None each order e act h = absurd (cc)
word_asks requests make (Some word) each order e act h =
    each word act (ap (λ (o : Written). act_for requests o.wish o.name) (same_Some (make word) order e) ∙ h)

seat_asks : (requests : List Asked) (rest : List ℕ) (seat : Option ℕ) → AsksAtMost requests (option_and_then (order_after rest) seat)
seat_asks requests rest None = λ order e act h. absurd (cc)
seat_asks requests rest (Some seat) =
    either_asks requests _ _
    (word_asks requests _ (word_after (codes " admit ") rest) (λ word act h. named_asks requests word act (request_named requests word) refl h))
    (word_asks requests _ (word_after (codes " withdraw ") rest) (λ word act h. withdrawn_asks requests word act h))

line_orders : (requests : List Asked) (line : List ℕ) → AsksAtMost requests (order_of_line line)
line_orders requests [] = λ order e act h. absurd (cc)
line_orders requests (digit ∷ rest) = seat_asks requests rest (seat_of_digit digit)

-- an order of a line
order_asks : (requests : List Asked) (number called : ℕ) (line : List ℕ) (order : Written) (call : Called) → order_of_line line ≡ Some order →
    call_of_order requests number called order ≡ Ok call → AsksOnly requests call.1
order_asks requests number called line order call written h =
    let t = stepped {B = Called} (ok_or (act_for requests order.wish order.name) (UnknownStream number))
    (λ (act : Act). if nat_le most_calls called then Err (TooMany number) else Ok (order.seat, act)) call h in
    let act = there (act_for requests order.wish order.name) (UnknownStream number) t.0 t.1 in
    let is = unless {A = Called} (nat_le most_calls called) (TooMany number) (order.seat, t.0) call t.2 in
    subst (λ (z : Called). AsksOnly requests z.1) (sym is) (line_orders requests line order written t.0 act)

-- a line
line_asks : (requests : List Asked) (seat cycles number sealed called : ℕ) (line : List ℕ) (call : Called) → (b : Bool) →
    (if b then call_of_seal seat cycles number sealed
    else and_then (ok_or (order_of_line line) (BadLine number)) (call_of_order requests number called)) ≡ Ok call → AsksOnly requests call.1
line_asks requests seat cycles number sealed called line call true h =
    let is = unless {A = Called} (nat_le cycles sealed) (TooMany number) (seat, Seals) call h in
    subst (λ (z : Called). AsksOnly requests z.1) (sym is) (seal_asks requests)
line_asks requests seat cycles number sealed called line call false h =
    let t = stepped (ok_or (order_of_line line) (BadLine number)) (call_of_order requests number called) call h in
    order_asks requests number called line t.0 call (there (order_of_line line) (BadLine number) t.0 t.1) t.2

-- some lines
lines_ask : (requests : List Asked) (seat cycles number sealed called : ℕ) (lines : List (List ℕ)) (calls : List Called) →
    calls_from requests seat cycles number sealed called lines ≡ Ok calls → AskOnly requests calls
lines_ask requests seat cycles number sealed called [] calls h call c =
    let none : calls ≡ [] = sym (same_ok {A = List Called} [] calls h) in
    absurd (contains_none call (subst (λ (xs : List Called). Contains xs call) none c))
lines_ask requests seat cycles number sealed called (line ∷ lines) calls h call c =
    let first = call_of_line requests seat cycles number sealed called line in
    let rest = calls_from requests seat cycles (number + 1) (sealed_after sealed line) (called_after called line) lines in
    let p = parted first rest calls h in
    elim (contains_cases p.0 p.1 call (subst (λ (xs : List Called). Contains xs call) p.4 c)) [
      | inl e ↦ subst (λ (z : Called). AsksOnly requests z.1) e
          (line_asks requests seat cycles number sealed called line p.0 (is_seal_line line) p.2)
      | inr later ↦
          lines_ask requests seat cycles (number + 1) (sealed_after sealed line) (called_after called line) lines p.1 p.3 call later
    ]

pub scripts_ask_only : ScriptsAskOnly
scripts_ask_only requests cycles text calls h =
    lines_ask requests (administrators (lines_of text)) cycles 1 0 0 (lines_of text) calls h

-- ---- a scenario's calls

-- the scenario of a domain, its calls and its frames; and of the frames that are read after these
abbrev made_of : RunTexts → Domain → List Called → List Offer × List Background → Scenario
made_of texts d calls frames = record {
  domain = d;
  calls = calls;
  sealer = administrators (lines_of texts.script);
  offers = frames.0;
  background = frames.1;
}

abbrev made_by : RunTexts → Domain → List Called → Result Scenario (List ℕ)
made_by texts d calls = and_then (frames_of_part d texts) (λ (frames : List Offer × List Background). Ok (made_of texts d calls frames))

-- it has these calls
made_calls : (texts : RunTexts) (d : Domain) (calls : List Called) (s : Scenario) → made_by texts d calls ≡ Ok s → calls ≡ s.calls
made_calls texts d calls s h =
    let c = stepped {B = Scenario} (frames_of_part d texts) (λ (frames : List Offer × List Background). Ok (made_of texts d calls frames)) s h in
    ap (λ (z : Scenario). z.calls) (same_ok (made_of texts d calls c.0) s c.2)

pub scenarios_ask_only : ScenariosAskOnly
scenarios_ask_only limits cycles texts s requests h streams =
    let a = stepped {B = Scenario} (domain_of_part limits texts.domain) (λ (d : Domain). and_then (calls_in cycles texts) (made_by texts d)) s h in
    let b = stepped {B = Scenario} (calls_in cycles texts) (made_by texts a.0) s a.2 in
    let e = stepped {B = List Called} (or_line streams_line (paced_of_text texts.streams)) (λ (found : List PacedText).
    or_line script_line (script_of (map asked_by found) cycles texts.script)) b.0 b.1 in
    let read : e.0 ≡ requests = same_ok e.0 requests (sym (lined streams_line (paced_of_text texts.streams) e.0 e.1) ∙ streams) in
    let calls = lined script_line (script_of (map asked_by e.0) cycles texts.script) b.0 e.2 in
    subst (λ (xs : List Called). AskOnly (map asked_by requests) xs) (made_calls texts a.0 b.0 s b.2)
    (subst (λ (found : List PacedText). AskOnly (map asked_by found) b.0) read (scripts_ask_only (map asked_by e.0) cycles texts.script b.0 calls))

-- the calls of a scenario after its domain and its streams
after_ask : (cycles : ℕ) (d : Domain) (streams : List Asked) (texts : RunTexts) (s : Scenario) → scenario_after cycles d streams texts ≡ Ok s →
    AskOnly streams s.calls
after_ask cycles d streams texts s h =
    let b = stepped {B = Scenario} (or_line script_line (script_of streams cycles texts.script)) (made_by texts d) s h in
    subst (λ (xs : List Called). AskOnly streams xs) (made_calls texts d b.0 s b.2)
    (scripts_ask_only streams cycles texts.script b.0 (lined script_line (script_of streams cycles texts.script) b.0 b.1))

-- what is read of an input with its deadlines
abbrev pub Read : Type 0
Read = Scenario × List PlannedText

abbrev pub with_scenario : List PlannedText → Scenario → Result Read (List ℕ)
with_scenario found scenario = Ok (scenario, found)

abbrev pub with_streams : ℕ → RunTexts → Domain → List PlannedText → Result Read (List ℕ)
with_streams cycles texts d found = and_then (scenario_after cycles d (asked_in found) texts) (with_scenario found)

abbrev pub with_network : ℕ → RunTexts → NetworkDomain → Result Read (List ℕ)
with_network cycles texts network = and_then (planned_of_part network texts.streams) (with_streams cycles texts (domain_of network))

-- what is read of its parts
pub record IsReadOf (limits : Limits) (cycles : ℕ) (texts : RunTexts) (read : Read) : Type 0 where
  pub network : NetworkDomain
  pub is_network : network_of_part limits texts.domain ≡ Ok network
  pub streams : planned_of_part network texts.streams ≡ Ok read.1
  pub scenario : scenario_after cycles (domain_of network) (asked_in read.1) texts ≡ Ok read.0

pub read_of_parts : (limits : Limits) (cycles : ℕ) (texts : RunTexts) (read : Read) → planned_scenario_of limits cycles texts ≡ Ok read →
    IsReadOf limits cycles texts read
read_of_parts limits cycles texts read h =
    let a = stepped {B = Read} (network_of_part limits texts.domain) (with_network cycles texts) read h in
    let b = stepped {B = Read} (planned_of_part a.0 texts.streams) (with_streams cycles texts (domain_of a.0)) read a.2 in
    let c = stepped {B = Read} (scenario_after cycles (domain_of a.0) (asked_in b.0) texts) (with_scenario b.0) read b.2 in
    let made : Read = (c.0, b.0) in
    subst (IsReadOf limits cycles texts) (same_ok made read c.2) (record { network = a.0; is_network = a.1; streams = b.1; scenario = c.1 })

planned_ask : (limits : Limits) (cycles : ℕ) (input : List ℕ) (read : Read) → planned_scenario limits cycles input ≡ Ok read → AskOnly (asked_in read.1) read.0.calls
planned_ask limits cycles input read h =
    let t = stepped {B = Read} (run_parts (parts_of input)) (planned_scenario_of limits cycles) read h in
    let of = read_of_parts limits cycles t.0 read t.2 in
    after_ask cycles (domain_of of.network) (asked_in read.1) t.0 read.0 of.scenario

pub planned_scenarios_ask_only : PlannedScenariosAskOnly
planned_scenarios_ask_only limits cycles input s streams h = planned_ask limits cycles input (s, streams) h

-- ---- histories

-- Seals after them request nothing
seals_ask : (streams : List Asked) (seat number : ℕ) → AskOnly streams (seals_by seat number)
seals_ask streams seat number call c =
    let inside : c.0 < number = omega (arith, c.1, length-replicate {A = Called} number (seat, Seals)) in
    let seal : Called = (seat, Seals) in
    let is : seal ≡ call = sym (get_or-replicate {A = Called} number c.0 seal call inside) ∙ c.2 in
    subst (λ (z : Called). AsksOnly streams z.1) is (seal_asks streams)

pub histories_admit_only : CallsAdmitOnly → HistoriesAdmitOnly
histories_admit_only calls cycles s streams asks =
    calls s.domain streams (called_for s) (seals_by s.sealer (cycles - seals (called_for s)))
    (calls s.domain streams [] s.calls (none_admits_only streams) asks)
    (seals_ask streams s.sealer (cycles - seals (called_for s)))

-- the calls of an administrator after the first Seal
commands_ask : (streams : List Asked) (found : List Called) (admin : ℕ) (act : Act) → AskOnly streams found →
    Contains (commands_by (calls_from_seal found) admin) act → AsksOnly streams act
commands_ask streams found admin act asks c =
    let m = contains_from_map (λ (call : Called). call.1) (filter (is_command_of admin) (calls_from_seal found)) act c in
    let f = contains_from_filter (is_command_of admin) (calls_from_seal found) m.0 m.1 in
    let n = position_or_len closes found in
    let whole : Contains found m.0 =
    subst (λ (xs : List Called). Contains xs m.0) (take-append-drop n found) (Contains-append_right (take n found) (calls_from_seal found) m.0 f.0) in
    subst (AsksOnly streams) m.2 (asks m.0 whole)

pub accounts_admit_only : CallsAdmitOnly → SeatsAdmitOnly → AccountsAdmitOnly
accounts_admit_only calls seats cycles s streams asked entries asks commands of =
    seats s.domain streams (with_calls s.domain [] (opening_calls s.calls)) entries asked cycles of
    (calls s.domain streams [] (opening_calls s.calls) (none_admits_only streams)
    (λ call c. asks call (contains_from_take s.calls (position_or_len closes s.calls) call c)))
    (λ admin acts act is c.
    let inside : admin < s.sealer = omega (arith, slice_get_within asked admin acts is, commands.one_each) in
    let same : acts ≡ commands_by (calls_from_seal s.calls) admin =
    sym (get_or_from_slice_get asked admin acts [] is) ∙ commands.each admin [] inside in
    commands_ask streams s.calls admin act asks (subst (λ (xs : List Act). Contains xs act) same c))
