-- What is accepted may be run.
use Rattle.std.proofs.Common.{◌≡◌, ◌≤◌, [], ℕ, List, Option, Some, None, Ok, arith, length, map, subst}
use Rattle.std.proofs.Math.Nat.{min-le_right}
use Rattle.std.proofs.lemmas.List.Elements.{All-nil}
use Rattle.cqf_lists.specs.Results.{and_then}
use Rattle.cqf_model.specs.declared.limits.Limits.{Limits}
use Rattle.cqf_model.specs.declared.frames.Background.{Background}
use Rattle.cqf_model.specs.declared.frames.Offer.{Offer}
use Rattle.cqf_model.specs.Domain.{Domain}
use Rattle.cqf_model.specs.Limits.{most_offers, rows_within}
use Rattle.cqf_model.specs.Run.{AreBackground, AreOffers, IsBackground}
use Rattle.cqf_laws_coverage.specs.Judged.{StandInOrder}
use Rattle.cqf_text.specs.Lines.{lines_of}
use Rattle.cqf_text.specs.Parts.{parts_of}
use Rattle.cqf_topology.specs.PacedText.{PacedText, paced_of_text}
use Rattle.cqf_admission.specs.Asking.{asked_by}
use Rattle.cqf_admission.specs.Script.{Called, administrators, script_of}
use Rattle.cqf_report.specs.BackgroundFrames.{background_frames_of}
use Rattle.cqf_report.specs.Offers.{offer_header, offer_instant, offer_of, offers_of}
use Rattle.cqf_report.specs.Records.{records_of}
use Rattle.cqf_report.specs.Table.{in_four}
use Rattle.cqf_report.proofs.BackgroundLemmas.{frames-few, frames-good}
use Rattle.cqf_report.proofs.OfferLemmas.{offers-few, offers-good}
use Rattle.cqf_report.proofs.ReadTables.{rows_under-in_order}
use Rattle.cqf_output.specs.Stops.{or_line}
use Rattle.cqf_program_scenario.specs.Calls.{HasRoom}
use Rattle.cqf_program_scenario.specs.Lines.{background_line, offers_line, script_line, streams_line}
use Rattle.cqf_program_scenario.specs.Networks.{domain_of_part}
use Rattle.cqf_program_scenario.specs.Parts.{RunTexts, run_parts}
use Rattle.cqf_program_scenario.specs.Scenario.{Scenario, background_of_part, calls_in, frames_of_part, scenario_of}
use Rattle.cqf_program_plans.proofs.CompileLemmas.{same_ok}
use Rattle.cqf_program_laws.specs.ReaderLaws.{IsRunnable, ScenariosMayBeRun}
use Rattle.cqf_program_laws.proofs.FewCalls.{calls_have_room}
use Rattle.cqf_program_laws.proofs.ReadNetworks.{domain_is_read}
use Rattle.cqf_program_laws.proofs.Scripts.{lined, stepped}

-- ---- the frames

-- frames that may be given to a run of a domain: they are few, and offers are in order
record AreFrames (d : Domain) (offers : List Offer) (background : List Background) : Type 0 where
  offered : AreOffers d offers
  beside : AreBackground d background
  few_offers : length offers ≤ most_offers
  few_background : length background ≤ most_offers
  in_order : StandInOrder offers

-- background frames, if there is a part with them
background_read : (d : Domain) (part : Option (List ℕ)) (background : List Background) → background_of_part d part ≡ Ok background →
    AreBackground d background × (length background ≤ most_offers)
background_read d None background h =
    let none : [] ≡ background = same_ok [] background h in
    subst (λ (bs : List Background). AreBackground d bs × (length bs ≤ most_offers)) none (All-nil (IsBackground d), omega arith)
background_read d (Some text) background h =
    let read = lined background_line (background_frames_of d text) background h in (
      frames-good d text background read,
      omega (arith, frames-few d text background read, min-le_right d.limits.rows most_offers),
    )

offers_in_order : (d : Domain) (text : List ℕ) (offers : List Offer) → offers_of d text ≡ Ok offers → StandInOrder offers
offers_in_order d text offers h = rows_under-in_order (rows_within d.limits) offer_header (in_four (offer_of d)) offer_instant (records_of text) offers h

abbrev Frames : Type 0
Frames = List Offer × List Background

frames_read : (d : Domain) (texts : RunTexts) (frames : Frames) → frames_of_part d texts ≡ Ok frames → AreFrames d frames.0 frames.1
frames_read d texts frames h =
    let a = stepped {B = Frames} (or_line offers_line (offers_of d texts.offers))
    (λ (offers : List Offer). and_then (background_of_part d texts.background) (λ (background : List Background). Ok (offers, background))) frames h in
    let b = stepped {B = Frames} (background_of_part d texts.background) (λ (background : List Background). Ok (a.0, background)) frames a.2 in
    let read = lined offers_line (offers_of d texts.offers) a.0 a.1 in
    let beside = background_read d texts.background b.0 b.1 in
    let made : Frames = (a.0, b.0) in
    subst (λ (f : Frames). AreFrames d f.0 f.1) (same_ok made frames b.2) (record {
      offered = offers-good d texts.offers a.0 read;
      beside = beside.0;
      few_offers = omega (arith, offers-few d texts.offers a.0 read, min-le_right d.limits.rows most_offers);
      few_background = beside.1;
      in_order = offers_in_order d texts.offers a.0 read;
    })

-- ---- the scenario

abbrev made_of : RunTexts → Domain → List Called → Frames → Scenario
made_of texts d calls frames = record {
  domain = d;
  calls = calls;
  sealer = administrators (lines_of texts.script);
  offers = frames.0;
  background = frames.1;
}

-- the calls of a script have room
calls_read : (cycles : ℕ) (texts : RunTexts) (calls : List Called) → calls_in cycles texts ≡ Ok calls → HasRoom cycles [] calls
calls_read cycles texts calls h =
    let a = stepped {B = List Called} (or_line streams_line (paced_of_text texts.streams)) (λ (found : List PacedText).
    or_line script_line (script_of (map asked_by found) cycles texts.script)) calls h in
    calls_have_room (map asked_by a.0) cycles texts.script calls (lined script_line (script_of (map asked_by a.0) cycles texts.script) calls a.2)

-- what was read of each part
pub record IsMadeOf (limits : Limits) (cycles : ℕ) (texts : RunTexts) (s : Scenario) : Type 0 where
  pub domain : domain_of_part limits texts.domain ≡ Ok s.domain
  pub calls : calls_in cycles texts ≡ Ok s.calls
  pub frames : frames_of_part s.domain texts ≡ Ok (s.offers, s.background)

pub parts_of_scenario : (limits : Limits) (cycles : ℕ) (texts : RunTexts) (s : Scenario) → scenario_of limits cycles texts ≡ Ok s →
    IsMadeOf limits cycles texts s
parts_of_scenario limits cycles texts s h =
    let a = stepped {B = Scenario} (domain_of_part limits texts.domain) (λ (d : Domain). and_then (calls_in cycles texts)
    (λ (calls : List Called). and_then (frames_of_part d texts) (λ (frames : Frames). Ok (made_of texts d calls frames)))) s h in
    let b = stepped {B = Scenario} (calls_in cycles texts)
    (λ (calls : List Called). and_then (frames_of_part a.0 texts) (λ (frames : Frames). Ok (made_of texts a.0 calls frames))) s a.2 in
    let c = stepped {B = Scenario} (frames_of_part a.0 texts) (λ (frames : Frames). Ok (made_of texts a.0 b.0 frames)) s b.2 in
    subst (IsMadeOf limits cycles texts) (same_ok (made_of texts a.0 b.0 c.0) s c.2) (record {
      domain = a.1;
      calls = b.1;
      frames = c.1;
    })

-- so it may be run
made_runs : (limits : Limits) (cycles : ℕ) (texts : RunTexts) (s : Scenario) → scenario_of limits cycles texts ≡ Ok s → IsRunnable limits cycles s
made_runs limits cycles texts s h =
    let made = parts_of_scenario limits cycles texts s h in
    let domain = domain_is_read limits texts.domain s.domain made.domain in
    let frames = frames_read s.domain texts (s.offers, s.background) made.frames in
    record {
      domain = domain.0;
      limits_are = domain.1;
      may = record {
        room = calls_read cycles texts s.calls made.calls;
        offers = frames.offered;
        background = frames.beside;
        few_offers = frames.few_offers;
        few_background = frames.few_background;
        in_order = frames.in_order;
      };
    }

pub scenarios_may_be_run : ScenariosMayBeRun
scenarios_may_be_run limits cycles input s h =
    let t = stepped {B = Scenario} (run_parts (parts_of input)) (scenario_of limits cycles) s h in
    made_runs limits cycles t.0 s t.2
