use Rattle.std.proofs.Common.{List, ◌<◌, refl, subst}
use Rattle.cqf_model.specs.declared.ports.Arrival.{Arrival}
use Rattle.cqf_model.specs.Port.{AreLegal}
use Rattle.cqf_port.specs.PortState.{PortState, AreOnly, RunsUpTo, rules_of}
use Rattle.cqf_port.proofs.Kept.{only_legal, runs_up_to}
use Rattle.cqf_port.proofs.port.Port.run_to.Goals as goal

-- what was added are its starts
pub returns-clause-ok : goal.returns-clause-ok
returns-clause-ok c =
    let before : PortState = record {
      rules = rules_of c.self.inside.schedule c.self.inside.rate;
      reached = c.self.inside.reached.0;
      arrivals = c.self.inside.arrivals.items;
      starts = c.self.inside.starts.items;
    } in
    let after : PortState = record {
      rules = rules_of c.self.inside.schedule c.self.inside.rate;
      reached = c.args.until.0;
      arrivals =
          c.self.inside.arrivals.items;
      starts = c.run_or_stay.new.starts.items;
    } in
    subst (λ (p : PortState). p.reached < c.args.until.0 → RunsUpTo c.args.until.0 p after) c.self.view_is
    (λ later. runs_up_to before c.args.until.0 c.run_or_stay.new.starts.items c.in_ok-progress.ensures.more)

-- nothing has changed, and what was legal is all that is
pub returns-then-le-clause-only : goal.returns-then-le-clause-only
returns-then-le-clause-only c = subst AreOnly c.self.view_is
    (only_legal (rules_of c.self.inside.schedule c.self.inside.rate) c.self.inside.arrivals.items c.self.inside.reached.0
    c.self.inside.starts.items _ c.legal_starts_are_unique.ensures c.self.invariant.abreast.legal refl)

-- here too
pub returns-in_err-progress-clause-only : goal.returns-in_err-progress-clause-only
returns-in_err-progress-clause-only c =
    only_legal (rules_of c.self.inside.schedule c.self.inside.rate) c.self.inside.arrivals.items c.self.inside.reached.0
    c.self.inside.starts.items c.run_or_stay.new.starts.items c.legal_starts_are_unique.ensures c.self.invariant.abreast.legal
    c.in_err-progress.ensures.err

-- what was made is all that is legal
pub returns-clause-only : goal.returns-clause-only
returns-clause-only c = only_legal (rules_of c.self.inside.schedule c.self.inside.rate) c.self.inside.arrivals.items c.args.until.0
    c.run_or_stay.new.starts.items c.run_or_stay.new.starts.items c.legal_starts_are_unique.ensures
    (subst (λ (xs : List Arrival). AreLegal (rules_of c.self.inside.schedule c.self.inside.rate) xs c.args.until.0 c.run_or_stay.new.starts.items)
    c.as_slice.ensures.value c.in_ok-progress.ensures.ok.legal) refl
