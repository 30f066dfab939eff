use Rattle.std.proofs.Common.{rules, ℕ, ◌≡◌, ◌≤◌, ◌++◌, [], ◌∷◌, length, get_or, set, subst, sym}
use Rattle.cqf_port.specs.PortState.{IsOutOfOrder, PortState, WasOpen, rules_of}
use Rattle.cqf_port.specs.Progress.{IsKept}
use Rattle.cqf_port.proofs.Kept.{kept_offer_as, kept_port, newest_before}
use Rattle.cqf_port.proofs.port.Port.take.Goals as goal

-- the arrival is neither late nor out of order
kept_now : (c : goal.After-self-2-1) → IsKept (rules_of c.self.inside.schedule c.self.inside.rate) c.push.new.self.items c.self.inside.reached.0
    c.self.inside.starts.items c.after_arrival-self-inside.result (set c.self.inside.newest c.from-class.result c.args.arrival.at)
kept_now c =
    let appended : c.push.new.self.items ≡ c.self.inside.arrivals.items ++ c.args.arrival ∷ [] = search rules in
    let not_late : ¬ WasOpen c.self.inside.schedule c.args.arrival.class c.args.arrival.at.0 c.self.inside.reached.0 = search rules in
    let in_order : (get_or c.self.inside.newest c.from-class.result (record { 0 = 0 })).0 ≤ c.args.arrival.at.0 =
    subst (λ (n : ℕ). (get_or c.self.inside.newest n (record { 0 = 0 })).0 ≤ c.args.arrival.at.0) (sym c.from-class.ensures)
    (newest_before (record {
      rules = rules_of c.self.inside.schedule c.self.inside.rate;
      reached = c.self.inside.reached.0;
      arrivals =
          c.self.inside.arrivals.items;
      starts = c.self.inside.starts.items;
    })
    c.self.inside.newest c.args.arrival c.self.invariant.by_class c.requires.gate
    (subst (λ (p : PortState). ¬ IsOutOfOrder p c.args.arrival) (sym c.self.view_is) c.requires.in_order)) in
    let at_end : c.len-index.result ≡ length c.self.inside.arrivals.items = search rules in
    kept_offer_as (rules_of c.self.inside.schedule c.self.inside.rate) c.self.inside.arrivals.items c.push.new.self.items c.self.inside.reached.0
    c.self.inside.starts.items c.self.inside.progress c.after_arrival-self-inside.result c.self.inside.newest c.args.arrival
    c.len-index.result c.from-class.result
    c.self.invariant c.requires.gate c.requires.early not_late appended at_end c.from-class.ensures in_order c.after_arrival-self-inside.ensures

-- the fields keep what they must
pub invariant_of-self-2 : goal.invariant_of-self-2
invariant_of-self-2 c = kept_now c

-- so the value does
pub returns-clause-facts : goal.returns-clause-facts
returns-clause-facts c = kept_port (rules_of c.self.inside.schedule c.self.inside.rate) c.push.new.self.items c.self.inside.reached.0
    c.self.inside.starts.items c.after_arrival-self-inside.result (set c.self.inside.newest c.from-class.result c.args.arrival.at) (kept_now c)
