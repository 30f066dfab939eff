use Rattle.std.proofs.Common.{rules, List, ◌≡◌, ◌<◌, length, refl, sym, ◌∙◌, subst}
use Rattle.cqf_model.specs.declared.ports.Arrival.{Arrival}
use Rattle.cqf_model.specs.Port.{AreLegal}
use Rattle.cqf_port.specs.PortState.{PortState, Advances, AreOnly, rules_of}
use Rattle.cqf_port.proofs.Kept.{handed_inside, advances_as, only_legal, cut_back}
use Rattle.cqf_port.proofs.port.Port.advance.Goals as goal

-- each start is of an arrival that was taken
pub hand_on-requires : goal.hand_on-requires
hand_on-requires c = handed_inside (rules_of c.self.inside.schedule c.self.inside.rate) c.as_slice.result.now c.as_slice-3.result.now
    c.args.until.0 c.run_or_stay.new.starts.items c.as_slice-2.result.now c.len-kept.result
    c.in_ok-progress.ensures.ok.legal (c.as_slice.ensures.value ∙ sym c.as_slice-3.ensures.value) c.as_slice-2.ensures.value

-- what was added was handed on
pub returns-clause-ok : goal.returns-clause-ok
returns-clause-ok c =
    let before : PortState = record {
      rules = rules_of c.self.inside.schedule c.self.inside.rate;
      reached = c.self.inside.reached.0;
      arrivals = c.self.inside.arrivals.items;
      starts = c.self.inside.starts.items;
    } in
    let after : PortState = record {
      rules = rules_of c.self.inside.schedule c.self.inside.rate;
      reached = c.args.until.0;
      arrivals =
          c.self.inside.arrivals.items;
      starts = c.run_or_stay.new.starts.items;
    } in
    let at_end : c.len-kept.result ≡ length c.self.inside.starts.items = search rules in
    subst (λ (p : PortState). p.reached < c.args.until.0 → Advances p after c.args.until.0 c.args.given.now.items c.hand_on.new.given.items) c.self.view_is
    (λ later. advances_as before c.args.until.0 c.len-kept.result c.run_or_stay.new.starts.items c.as_slice-2.result.now c.as_slice-3.result.now
    c.args.given.now.items c.hand_on.new.given.items
    c.in_ok-progress.ensures.more at_end c.as_slice-2.ensures.value c.as_slice-3.ensures.value c.in_default.ensures.ok)

-- nothing has changed, and what was legal is all that is
pub returns-then-le-clause-only : goal.returns-then-le-clause-only
returns-then-le-clause-only c = subst AreOnly c.self.view_is
    (only_legal (rules_of c.self.inside.schedule c.self.inside.rate) c.self.inside.arrivals.items c.self.inside.reached.0
    c.self.inside.starts.items _ c.legal_starts_are_unique.ensures c.self.invariant.abreast.legal refl)

-- here too
pub returns-in_err-progress-clause-only : goal.returns-in_err-progress-clause-only
returns-in_err-progress-clause-only c =
    only_legal (rules_of c.self.inside.schedule c.self.inside.rate) c.self.inside.arrivals.items c.self.inside.reached.0
    c.self.inside.starts.items c.run_or_stay.new.starts.items c.legal_starts_are_unique.ensures c.self.invariant.abreast.legal
    c.in_err-progress.ensures.err

-- what was added is cut off again
pub returns-in-Err-clause-only : goal.returns-in-Err-clause-only
returns-in-Err-clause-only c =
    let at_end : c.len-kept.result ≡ length c.self.inside.starts.items = search rules in
    only_legal (rules_of c.self.inside.schedule c.self.inside.rate) c.self.inside.arrivals.items c.self.inside.reached.0
    c.self.inside.starts.items c.truncate.new.self.items c.legal_starts_are_unique.ensures c.self.invariant.abreast.legal
    (cut_back c.self.inside.starts.items c.run_or_stay.new.starts.items c.truncate.new.self.items c.len-kept.result c.self.inside.reached.0
    c.in_ok-progress.ensures.more at_end c.truncate.ensures.items)

-- what was made is all that is legal
pub returns-clause-only : goal.returns-clause-only
returns-clause-only c = only_legal (rules_of c.self.inside.schedule c.self.inside.rate) c.self.inside.arrivals.items c.args.until.0
    c.run_or_stay.new.starts.items c.run_or_stay.new.starts.items c.legal_starts_are_unique.ensures
    (subst (λ (xs : List Arrival). AreLegal (rules_of c.self.inside.schedule c.self.inside.rate) xs c.args.until.0 c.run_or_stay.new.starts.items)
    c.as_slice.ensures.value c.in_ok-progress.ensures.ok.legal) refl
