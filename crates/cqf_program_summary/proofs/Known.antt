-- What was read is the input's scenario, which has the requested stream and frame.
use Rattle.std.proofs.Common.{◌≡◌, ◌∙◌, ◌++◌, ◌∷◌, [], ℕ, Bool, false, List, Option, None, Some, Result, Ok, Err, ap, arith, codes, if◌then◌else◌, map, refl, subst, sym}
use Rattle.std.specs.List.{list_any}
use Rattle.std.specs.Prelude.{IfErr, IsErrAnd}
use Rattle.cqf_lists.specs.Lists.{or_else}
use Rattle.cqf_lists.specs.Results.{and_then, refuse}
use Rattle.cqf_units.specs.Name.{is_name}
use Rattle.cqf_model.specs.declared.limits.Limits.{Limits}
use Rattle.cqf_model.specs.Domain.{Domain}
use Rattle.cqf_model.specs.History.{Asked}
use Rattle.cqf_topology.specs.declared.paced.PacedRequest.{PacedRequest}
use Rattle.cqf_topology.specs.PacedText.{PacedText, paced_of_text, paced_text}
use Rattle.cqf_admission.specs.Asking.{asked_by, asked_paced}
use Rattle.cqf_output.specs.declared.stops.Stop.{Stop}
use Rattle.cqf_output.specs.Stops.{IsRefused, fault_line, or_line}
use Rattle.cqf_program_scenario.specs.Lines.{streams_line}
use Rattle.cqf_program_scenario.specs.Networks.{domain_of_part}
use Rattle.cqf_program_scenario.specs.Parts.{RunTexts}
use Rattle.cqf_program_scenario.specs.Scenario.{Scenario, scenario_after}
use Rattle.cqf_program_scenario.proofs.AskedTexts.{asked_texts}
use Rattle.cqf_program_summary.specs.Hops.Known.{paced_scenario, paced_scenario_of, unknown_stream_line, wanted_of_scenario, wanted_refusal, wanted_scenario}
use Rattle.cqf_program_summary.specs.Hops.Legs.{Wanted}
use Rattle.cqf_program_summary.specs.Hops.Reading.{EndsWithThat}

-- whether one of the images passes
pub any_map : {X Y : Type 0} (p : Y → Bool) (f : X → Y) (xs : List X) → list_any p (map f xs) ≡ list_any (λ (x : X). p (f x)) xs
any_map p f [] = refl
any_map p f (x ∷ xs) = grind (arith, any_map p f xs)

-- a word that doesn't have the form of a name isn't shown
pub hidden : (name : List ℕ) → is_name name ≡ false → fault_line (codes "hops") (codes "UnknownStream") ≡ unknown_stream_line name
hidden name is = ap (λ (b : Bool). fault_line (codes "hops") (codes "UnknownStream" ++ (if b then codes " " ++ name else []))) (sym is)

-- a fault that is handed on
pub passed-on : {V F : Type 0} (result : Result V F) (fault : F) (P : F → Type 0) → IsErrAnd result (λ e. e ≡ fault) → P fault → IfErr result P
passed-on (Ok v) fault P passed h = absurd passed
passed-on (Err e) fault P passed h = subst P (sym passed) h

module _ (limits : Limits) (cycles : ℕ) (texts : RunTexts) (d : Domain) (requests : List PacedRequest)
    (domain : domain_of_part limits texts.domain ≡ Ok d) (read : paced_of_text texts.streams ≡ Ok (map paced_text requests)) where
  abbrev with_scenario : List Asked → Scenario → Result (Scenario × List Asked) (List ℕ)
  with_scenario streams scenario = Ok (scenario, streams)

  -- what follows the domain and the streams decides
  paced_is : paced_scenario_of limits cycles texts
      ≡ and_then (scenario_after cycles d (map asked_paced requests) texts) (with_scenario (map asked_paced requests))
  paced_is =
      let with_asked : Domain → List Asked → Result (Scenario × List Asked) (List ℕ) =
      λ d streams. and_then (scenario_after cycles d streams texts) (with_scenario streams) in
      let with_streams : Domain → List PacedText → Result (Scenario × List Asked) (List ℕ) = λ d found. with_asked d (map asked_by found) in
      ap (λ found. and_then found (λ d. and_then (or_line streams_line (paced_of_text texts.streams)) (with_streams d))) domain
      ∙ ap (λ found. and_then (or_line streams_line found) (with_streams d)) read
      ∙ ap (with_asked d) (asked_texts requests)

  -- if that is read, all is
  pub paced-Ok : (same : List PacedRequest) (s : Scenario) → same ≡ requests → scenario_after cycles d (map asked_paced requests) texts ≡ Ok s →
      paced_scenario_of limits cycles texts ≡ Ok (s, map asked_paced same)
  paced-Ok same s are is =
      paced_is ∙ ap (λ found. and_then found (with_scenario (map asked_paced requests))) is
      ∙ ap {B = Result (Scenario × List Asked) (List ℕ)} (λ (rs : List PacedRequest). Ok (s, map asked_paced rs)) (sym are)

  -- and if that is refused, all is
  pub paced-refused : (stop : Stop) → IsRefused (scenario_after cycles d (map asked_paced requests) texts) stop →
      IsRefused (paced_scenario_of limits cycles texts) stop
  paced-refused stop refused = record {
    statuses = refused.statuses;
    line = λ one. paced_is ∙ ap (λ found. and_then found (with_scenario (map asked_paced requests))) (refused.line one);
    memory = refused.memory;
  }

-- what is requested decides
module _ (limits : Limits) (cycles : ℕ) (wanted : Wanted) (input : List ℕ) where
  wanted_is : (s : Scenario) (streams : List Asked) (refusal : Option (List ℕ)) → paced_scenario limits cycles input ≡ Ok (s, streams) →
      wanted_refusal streams s.offers wanted ≡ refusal → wanted_scenario limits cycles wanted input ≡ refuse refusal (λ line. line) (Ok s)
  wanted_is s streams refusal read is =
      ap (λ found. and_then found (wanted_of_scenario wanted)) read
      ∙ ap {B = Result Scenario (List ℕ)} (λ (o : Option (List ℕ)). refuse o (λ line. line) (Ok s)) is

  pub wanted-Ok : (s : Scenario) (streams : List Asked) → paced_scenario limits cycles input ≡ Ok (s, streams) →
      wanted_refusal streams s.offers wanted ≡ None → wanted_scenario limits cycles wanted input ≡ Ok s
  wanted-Ok s streams read is = wanted_is s streams None read is

  pub wanted-stops : (s : Scenario) (streams : List Asked) (stop : Stop) → paced_scenario limits cycles input ≡ Ok (s, streams) →
      EndsWithThat (wanted_refusal streams s.offers wanted) stop → IsRefused (wanted_scenario limits cycles wanted input) stop
  wanted-stops s streams stop read that = record {
    statuses = that.ends.statuses;
    line = λ one. wanted_is s streams (Some that.line) read that.is ∙ ap {B = Result Scenario (List ℕ)} Err (sym (that.ends.line_is one));
    memory = that.ends.memory;
  }

  pub wanted-refused : (stop : Stop) → IsRefused (paced_scenario limits cycles input) stop → IsRefused (wanted_scenario limits cycles wanted input) stop
  wanted-refused stop refused = record {
    statuses = refused.statuses;
    line = λ one. ap (λ found. and_then found (wanted_of_scenario wanted)) (refused.line one);
    memory = refused.memory;
  }

-- a stream that doesn't exist comes first
pub stream_first : (streams frames : Option (List ℕ)) (stop : Stop) → EndsWithThat streams stop → EndsWithThat (or_else streams frames) stop
stream_first streams frames stop that =
    record { line = that.line; is = ap (λ (o : Option (List ℕ)). or_else o frames) that.is; ends = that.ends }

pub frame_then : (streams frames : Option (List ℕ)) → streams ≡ None → or_else streams frames ≡ frames
frame_then streams frames is = ap (λ (o : Option (List ℕ)). or_else o frames) is
