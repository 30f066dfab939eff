-- What a script admits is listed, so each row that covers an offer is that of a listed stream.
use Rattle.std.proofs.Common.{◌≡◌, ◌∙◌, ℕ, Bool, true, List, Some, None, Option, Result, Ok, ap, filter, length, refl, subst, sym, take}
use Rattle.std.specs.Prelude.{◌&&◌, is_none, nat_le, not}
use Rattle.std.proofs.lemmas.Bool.{le-leb, le-ltb}
use Rattle.cqf_lists.specs.Lists.{or_else}
use Rattle.cqf_lists.specs.Results.{and_then}
use Rattle.cqf_lists.proofs.Members.{contains_filter, index_of_member}
use Rattle.cqf_units.specs.Name.{is_name}
use Rattle.cqf_model.specs.declared.frames.Background.{Background}
use Rattle.cqf_model.specs.declared.frames.Offer.{Offer}
use Rattle.cqf_model.specs.declared.history.Receipt.{Receipt}
use Rattle.cqf_model.specs.declared.history.Refused.{Refused}
use Rattle.cqf_model.specs.declared.history.Refused.TheVariants.{BadName, BadOctets, BadPace, UnknownNode, BrokenPath, LoopingPath, NotATree, TooManyHops}
use Rattle.cqf_model.specs.declared.history.Reply.TheVariants.{Accepted}
use Rattle.cqf_model.specs.declared.limits.Limits.{Limits}
use Rattle.cqf_model.specs.declared.topology.Row.{Row}
use Rattle.cqf_model.specs.Domain.{Domain}
use Rattle.cqf_model.specs.History.{Asked, IsLegalHistory, Recorded, admit_reply, held_in, next_number, refusal_of, refused_at, refused_if, reply_to, seals, tree_of}
use Rattle.cqf_model.specs.Limits.{hops_within, most_reserved}
use Rattle.cqf_laws_history.proofs.Granted.{granted}
use Rattle.cqf_laws_timing.specs.Streams.{AdmitsOnly}
use Rattle.cqf_text.specs.Lines.{lines_of}
use Rattle.cqf_text.specs.Parts.{parts_of}
use Rattle.cqf_admission.specs.Script.{Called, administrators, script_of}
use Rattle.cqf_output.specs.Stops.{or_line}
use Rattle.cqf_program_scenario.specs.Lines.{script_line}
use Rattle.cqf_program_scenario.specs.Networks.{domain_of}
use Rattle.cqf_program_scenario.specs.Parts.{RunTexts, run_parts}
use Rattle.cqf_program_scenario.specs.Scenario.{Scenario, frames_of_part, scenario_after}
use Rattle.cqf_program_plans.specs.Latency.Input.{asked_in}
use Rattle.cqf_program_plans.proofs.CompileLemmas.{same_ok}
use Rattle.cqf_program_runs.specs.Deliveries.PlannedScenario.{planned_scenario, planned_scenario_of}
use Rattle.cqf_program_laws.specs.ScriptLaws.{AskOnly, ScriptsAskOnly}
use Rattle.cqf_program_laws.proofs.Scripts.{Read, lined, read_of_parts, stepped}
use Rattle.cqf_program_summary.specs.Summary.Written.{is_good, written_streams}
use Rattle.cqf_program_laws.proofs.Firsts.{firsts, script_first, written_has}

-- the calls of a scenario that was read are those of its script
abbrev made_of : RunTexts → Domain → List Called → List Offer × List Background → Scenario
made_of texts d calls frames = record {
  domain = d;
  calls = calls;
  sealer = administrators (lines_of texts.script);
  offers = frames.0;
  background = frames.1;
}

abbrev made_by : RunTexts → Domain → List Called → Result Scenario (List ℕ)
made_by texts d calls = and_then (frames_of_part d texts) (λ (frames : List Offer × List Background). Ok (made_of texts d calls frames))

made_calls : (texts : RunTexts) (d : Domain) (calls : List Called) (s : Scenario) → made_by texts d calls ≡ Ok s → calls ≡ s.calls
made_calls texts d calls s h =
    let c = stepped {B = Scenario} (frames_of_part d texts) (λ (frames : List Offer × List Background). Ok (made_of texts d calls frames)) s h in
    ap (λ (z : Scenario). z.calls) (same_ok (made_of texts d calls c.0) s c.2)

module _ (asks : ScriptsAskOnly) where
  after_ask : (cycles : ℕ) (d : Domain) (streams : List Asked) (texts : RunTexts) (s : Scenario) → scenario_after cycles d streams texts ≡ Ok s →
      AskOnly (firsts streams) s.calls
  after_ask cycles d streams texts s h =
      let b = stepped {B = Scenario} (or_line script_line (script_of streams cycles texts.script)) (made_by texts d) s h in
      subst (λ (xs : List Called). AskOnly (firsts streams) xs) (made_calls texts d b.0 s b.2)
      (asks (firsts streams) cycles texts.script b.0
      (sym (script_first streams cycles texts.script) ∙ lined script_line (script_of streams cycles texts.script) b.0 b.1))

  pub asks_firsts : (limits : Limits) (cycles : ℕ) (input : List ℕ) (read : Read) → planned_scenario limits cycles input ≡ Ok read →
      AskOnly (firsts (asked_in read.1)) read.0.calls
  asks_firsts limits cycles input read h =
      let t = stepped {B = Read} (run_parts (parts_of input)) (planned_scenario_of limits cycles) read h in
      let of = read_of_parts limits cycles t.0 read t.2 in
      after_ask cycles (domain_of of.network) (asked_in read.1) t.0 read.0 of.scenario

-- a stream that isn't refused is good, and named by a name
refused_none : (number effect : ℕ) (refused : Option Refused) (receipt : Receipt) → admit_reply number effect refused ≡ Accepted receipt → refused ≡ None
refused_none number effect None receipt e = refl
refused_none number effect (Some refused) receipt e = absurd cc

both_none : (a b : Option Refused) → a ≡ None → b ≡ None → or_else a b ≡ None
both_none a b first second = ap (λ (o : Option Refused). or_else o b) first ∙ second

good_granted : (d : Domain) (rows : List Row) (asked : Asked) → refusal_of d rows asked ≡ None → (is_name asked.name ≡ true) × (is_good d asked ≡ true)
good_granted d rows asked none =
    let g = granted d rows asked none in
    let in_range : (nat_le 64 asked.octets && nat_le asked.octets most_reserved) ≡ true =
    λ i. le-leb 64 asked.octets g.least_octets i && le-leb asked.octets most_reserved g.most_octets i in
    let name = ap {B = Option Refused} (λ (b : Bool). refused_if (not b) BadName) g.named in
    let octets = ap {B = Option Refused} (λ (b : Bool). refused_if (not b) BadOctets) in_range in
    let pace = ap {B = Option Refused} (λ (b : Bool). refused_if (not b) BadPace) g.pace in
    let unknown = ap (refused_at (λ index. UnknownNode index)) g.known in
    let broken = ap (refused_at (λ index. BrokenPath index)) g.whole in
    let looping = ap (refused_at (λ index. LoopingPath index)) g.simple in
    let stray = ap (refused_at (λ branch. NotATree branch)) g.together in
    let hops = ap {B = Option Refused} (λ (b : Bool). refused_if b TooManyHops)
    (le-ltb (hops_within d.limits) (length (tree_of d asked.paths)) g.few_hops) in (
      g.named,
      ap {B = Bool} (λ (o : Option Refused). is_none o)
          (both_none _ _ name (both_none _ _ octets (both_none _ _ pace (both_none _ _ unknown
          (both_none _ _ broken (both_none _ _ looping (both_none _ _ stray hops))))))),
    )

-- so if a legal history admits only the first streams of their names, it admits only the good listed ones
pub admits_good : (d : Domain) (entries : List Recorded) (requests : List Asked) → IsLegalHistory d entries → AdmitsOnly (firsts requests) entries →
    AdmitsOnly (filter (is_good d) (written_streams requests)) entries
admits_good d entries requests legal only e asked receipt among admits accepted =
    let index = index_of_member entries e among in
    let reply = legal.replies index.0 e index.1 in
    let before = take index.0 entries in
    let none : refusal_of d (held_in d before (seals before)) asked ≡ None =
    refused_none (next_number d before) (seals before) (refusal_of d (held_in d before (seals before)) asked) receipt
    (sym (reply ∙ ap (reply_to d before) admits) ∙ accepted) in
    let good = good_granted d (held_in d before (seals before)) asked none in
    contains_filter (is_good d) (written_streams requests) asked
    (written_has requests asked (only e asked receipt among admits accepted) good.0) good.1
