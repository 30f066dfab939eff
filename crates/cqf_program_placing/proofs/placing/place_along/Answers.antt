use Rattle.std.proofs.Common.{◌≡◌, ◌∙◌, ◌<◌, All, List, Option, length, refl, string_bytes, subst, sym}
use Rattle.arrayvec.specs.ArrayVec.{ArrayVec}
use Rattle.cqf_admission.specs.Asking.{asked_with}
use Rattle.cqf_model.specs.declared.topology.Hop.{Hop}
use Rattle.cqf_model.specs.Domain.{Domain}
use Rattle.cqf_model.specs.Table.{links_in}
use Rattle.cqf_model.proofs.Hops.{hops_inside}
use Rattle.cqf_units.specs.Timing.{cost_of}
use Rattle.cqf_admission.specs.Branches.{branches_of}
use Rattle.cqf_model.specs.History.{Asked, IsLegalHistory, held_in, seals}
use Rattle.cqf_program_placing.specs.Known.{AreKnown, MakeTree, TakesNothingOff}
use Rattle.cqf_program_placing.proofs.Known.{all_filled, asked_takes_off, known_alike, links_of}
use Rattle.cqf_program_placing.specs.Placing.{outcome_value}
use Rattle.cqf_program_placing.specs.ActiveCycles.{IsPhaseAlong, every_in}
use Rattle.cqf_program_placing.proofs.IndexLemmas.{asked_so}
use Rattle.cqf_program_placing.proofs.placing.place_along.Goals as goal
use Rattle.cqf_program_placing.proofs.placing.place_along.Goals.{in-Some, in-None}

pub returns-clause-placed : goal.returns-clause-placed
returns-clause-placed c =
    let d = c.args.domain.now in
    let entries = c.args.admission.now.entries in
    let route = c.args.route in
    let paths = branches_of route.branched.paths.items in
    let become = outcome_value c.in_ok-outcome.outcome in
    let each : c.from.result ≡ every_in route.active_cycles = c.from.ensures ∙ c.every.ensures in
    let chosen : IsPhaseAlong d (held_in d entries (seals entries)) (cost_of d.overhead c.args.octets) paths route.active_cycles c.from-2.result =
    subst (IsPhaseAlong d (held_in d entries (seals entries)) (cost_of d.overhead c.args.octets) paths route.active_cycles) (sym c.from-2.ensures) c.requires.good.phase in
    asked_so d entries c.args.name.now c.args.octets c.from.result c.from-2.result (cost_of d.overhead c.args.octets) route.active_cycles (string_bytes c.in_ok-name.name) paths become
    c.ask.new.admission.entries each refl chosen (c.in_ok-name.ensures.ok ∙ c.as_str.ensures.value) c.in_ok-outcome.ensures.answered
    c.in_ok-outcome.ensures.entered

pub renew-requires-clause-inside : goal.renew-requires-clause-inside
renew-requires-clause-inside c =
    let d = c.args.domain.now in
    let paths = branches_of c.args.route.branched.paths.items in
    let made = subst (MakeTree d paths) c.in-Some.is c.requires.good.branched in
    subst (λ (hops : List Hop). All (λ (hop : Hop). hop.link < length d.links) hops) (sym (c.as_slice.ensures.value ∙ made.1)) (hops_inside d paths)

pub renew-requires-clause-filled : goal.renew-requires-clause-filled
renew-requires-clause-filled c =
    let d = c.args.domain.now in
    let entries = c.args.admission.now.entries in
    all_filled d (held_in d entries (seals entries)) c.args.rooms.now c.requires.known

-- what links have left with it is known again
pub returns-clause-known : goal.returns-clause-known
returns-clause-known c =
    let d = c.args.domain.now in
    let entries = c.args.admission.now.entries in
    let after = c.ask.new.admission.entries in
    let rows = held_in d entries (seals entries) in
    let now = held_in d after (seals after) in
    let branched = c.args.route.branched in
    let asked : Asked = asked_with (string_bytes c.in_ok-name.name) c.args.octets c.from.result c.from-2.result (branches_of branched.paths.items) in
    let legal : IsLegalHistory d entries = subst (λ (x : Domain). IsLegalHistory x entries) c.requires.domain c.know.ensures.legal in
    let off = asked_takes_off d entries after asked branched.tree c.state_follows_history.ensures.granted
    c.state_follows_history.ensures.refused legal c.requires.good.branched c.in_ok-outcome.ensures.entered in
    elim c.match-branched.branch [
      | in-Some w ↦
          let there = subst (λ (t : Option (ArrayVec Hop)). TakesNothingOff rows now (links_of t)) w.in-Some.is off in
          subst (AreKnown d now) (sym w.rooms-is)
          (w.renew.ensures rows c.requires.known (subst (λ (hops : List Hop). TakesNothingOff rows now (links_in hops)) (sym w.as_slice.ensures.value) there))
      | in-None w ↦
          let there = subst (λ (t : Option (ArrayVec Hop)). TakesNothingOff rows now (links_of t)) w.in-None.is off in
          subst (AreKnown d now) (sym w.rooms-is) (known_alike d rows now c.args.rooms.now c.requires.known there)
    ]
