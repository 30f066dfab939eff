use Rattle.std.proofs.Common.{ℕ, [], List}
use Rattle.cqf_lists.proofs.ByNumber.{list_more, no_lists}
use Rattle.cqf_model.specs.declared.ports.Arrival.{Arrival}
use Rattle.cqf_instants_run.proofs.feeding.no_arrivals.Goals as goal

-- no link is given anything
abbrev none : ℕ → List Arrival
none link = []

-- at first there is no list
pub loop-link-init : goal.loop-link-init
loop-link-init c = no_lists none c.in_ok-lists.lists.items c.in_ok-lists.ensures.items

-- and then one more
pub loop-link-preserved : goal.loop-link-preserved
loop-link-preserved c =
    list_more none c.loop-link._link c.loop-link.lists.items c.push.new.self.items c.new.result c.loop-link.invariant c.new.ensures.items
    c.in_ok-push.ensures.items
