-- Arrivals in order of instant, at a port that hasn't run, and what it starts.
use Rattle.std.proofs.Common.{◌≡◌, ◌<◌, ◌≤◌, ℕ, List, [], ◌++◌, map}
use Rattle.std.proofs.Common.{inl, inr, subst, sym, ◌∙◌, arith, ap, slice_index_or}
use Rattle.std.proofs.lemmas.Bool.{cases_lt}
use Rattle.std.proofs.lemmas.List.Elements.{Contains-get_or}
use Rattle.cqf_model.specs.declared.ports.Arrival.{Arrival}
use Rattle.cqf_model.specs.Port.{PortRules, Transmission, AreLegal, no_arrival}
use Rattle.cqf_port.proofs.Kept.{starts_inside}
use Rattle.cqf_port.specs.PortState.{PortState, AreOnly, AreTaken, IsPort, RunsUpTo, start_of}
use Rattle.cqf_report.specs.Arrivals.{AreArrivals}
use Rattle.cqf_report.specs.Starts.{text_of_starts}
use Rattle.cqf_program_scenario.specs.PortLines.{AreExpressible}
use Rattle.cqf_units.specs.Timing.{ticks_of_octet}
use Rattle.cqf_units.specs.declared.timing.Rate.{Rate}
use Rattle.cqf_program_plans.specs.Port.Output.{AreOfferable, IsStartsText}

-- arrivals that are read can be offered
pub AreOfferable-read : (arrivals : List Arrival) → AreArrivals arrivals → AreOfferable arrivals
AreOfferable-read arrivals are = record {
  classes = λ k d inside. omega (arith, (are.each k d inside).class);
  early = λ k d inside. omega (arith, (are.each k d inside).early);
  in_order = are.in_order;
}

-- arrivals that can be offered are those that a port takes
pub AreTaken-offerable : (arrivals : List Arrival) → AreOfferable arrivals → AreTaken arrivals
AreTaken-offerable arrivals are = record {
  classes = λ index inside. are.classes index no_arrival inside;
  early = λ index inside. are.early index no_arrival inside;
  by_class = λ index later before inside same. are.in_order index later no_arrival before inside;
}

-- what a port has started can be written
pub AreExpressible-started : (p : PortState) → IsPort p → AreExpressible p.arrivals p.starts
AreExpressible-started p facts = record {
  inside = starts_inside p.rules p.arrivals p.reached p.starts facts.legal;
  early = λ k d inside.
      let x : Transmission = slice_index_or p.starts k d in
      omega (arith, facts.early, facts.legal.before_end x.0 x.1 (Contains-get_or p.starts k d inside));
}

-- a port that hadn't run, after it has run to an instant
state_at : (rules : PortRules) (arrivals : List Arrival) (until : ℕ) (before after : PortState) →
    before ≡ record { rules = rules; reached = 0; arrivals = arrivals; starts = [] } →
    (before.reached < until → RunsUpTo until before after) → (until ≤ before.reached → after ≡ before) →
    after ≡ record { rules = rules; reached = until; arrivals = arrivals; starts = after.starts }
state_at rules arrivals until before after fresh ran past =
    let state : PortState → ℕ → List Transmission → PortState = λ p reached starts.
    record { rules = p.rules; reached = reached; arrivals = p.arrivals; starts = starts } in
    let unrun : PortState = record { rules = rules; reached = 0; arrivals = arrivals; starts = [] } in
    elim (cases_lt before.reached until) [
      | inl l ↦
          let w = ran l in
          w.value ∙ ap (λ (p : PortState). state p until (before.starts ++ w.made)) fresh
          ∙ ap (state unrun until) (sym (ap (λ (p : PortState). p.starts) w.value))
      | inr g ↦
          let kept = past (omega (arith, g)) in
          let at_end : 0 ≡ until = omega (arith, ap (λ (p : PortState). p.reached) fresh, g) in
          kept ∙ fresh ∙ ap (λ (n : ℕ). state unrun n []) at_end
          ∙ ap (state unrun until) (sym (ap (λ (p : PortState). p.starts) (kept ∙ fresh)))
    ]

-- the text of what such a port has started is that of the only legal starts
pub IsStartsText-run : (rules : PortRules) (arrivals : List Arrival) (until : ℕ) (rate : Rate) (before after : PortState) →
    before ≡ record { rules = rules; reached = 0; arrivals = arrivals; starts = [] } →
    (before.reached < until → RunsUpTo until before after) → (until ≤ before.reached → after ≡ before) → IsPort after → AreOnly after →
    IsStartsText rules arrivals until rate (text_of_starts (ticks_of_octet rate) (map (start_of after.arrivals) after.starts))
IsStartsText-run rules arrivals until rate before after fresh ran past facts only =
    let state = state_at rules arrivals until before after fresh ran past in
    record {
      starts = after.starts;
      legal = subst (λ (p : PortState). AreLegal p.rules p.arrivals p.reached p.starts) state facts.legal;
      only = subst AreOnly state only;
      written = ap (λ (p : PortState). text_of_starts (ticks_of_octet rate) (map (start_of p.arrivals) p.starts)) state;
    }
