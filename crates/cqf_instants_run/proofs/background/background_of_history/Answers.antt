use Rattle.std.proofs.Common.{◌≡◌, ◌∙◌, ◌*◌, List, ap, arith, length, rules, subst, sym}
use Rattle.std.proofs.lemmas.List.Sorted.{IsNonDecreasingBy-from_sort_by_key, answers_always}
use Rattle.std.specs.Global.{Global}
use Rattle.std.specs.declared.vec.Vec.{Vec}
use Rattle.std.proofs.lemmas.List.{length-map}
use Rattle.cqf_model.specs.declared.frames.Backed.{Backed}
use Rattle.cqf_model.specs.declared.ports.Arrival.{Arrival}
use Rattle.cqf_lists.specs.ByNumber.{lists_of}
use Rattle.cqf_instants_run.specs.Feeding.{AreFed}
use Rattle.cqf_instants_run.specs.Frames.{by_instant}
use Rattle.cqf_instants_run.proofs.Takings.{all_taken, frames_on_links}
use Rattle.cqf_instants_run.proofs.Whole.{AreOfRun, background_is, cycle_in, on_links, some_run}
use Rattle.cqf_instants_run.proofs.background.background_of_history.Goals as goal

-- each background frame is on a link of the domain
pub feed_links-requires-clause-frames : goal.feed_links-requires-clause-frames
feed_links-requires-clause-frames c =
    frames_on_links c.args.domain.now c.args.background.now (c.from.result * c.cycle_time-cycle_time.result.0) c.links-links.result
    c.as_slice.result.now c.requires.background
    (c.as_slice.ensures.value ∙ c.in_ok-frames.ensures) c.links-links.ensures

-- and so is each start
pub feed_links-requires-clause-starts : goal.feed_links-requires-clause-starts
feed_links-requires-clause-starts c =
    on_links c.args.domain.now c.args.cycles c.links-links.result c.args.starts.now c.cycle_time-cycle_time.ensures.accepted
    (some_run c.tables_are_orderly.ensures.orderly c.legal_network_exists.ensures c.args.domain.now c.args.cycles c.args.starts.now
    c.cycle_time-cycle_time.ensures.accepted c.requires.starts) c.links-links.ensures

-- a port may take what it is given
pub report_links-requires-clause-taken : goal.report_links-requires-clause-taken
report_links-requires-clause-taken c =
    let d = c.args.domain.now in
    let r : AreOfRun d c.args.cycles c.args.starts.now = some_run c.tables_are_orderly.ensures.orderly c.legal_network_exists.ensures d c.args.cycles
    c.args.starts.now c.cycle_time-cycle_time.ensures.accepted c.requires.starts in
    let by : c.in_ok-frames.frames.items ≡ by_instant c.args.background.now (c.args.cycles * d.cycle_time) =
    c.in_ok-frames.ensures ∙ ap (by_instant c.args.background.now)
    ((λ i. c.from.ensures i * c.cycle_time-cycle_time.ensures.value i)) in
    λ l inside. all_taken d c.args.cycles r.carried c.args.starts.now c.args.background.now c.in_ok-frames.frames.items (lists_of c.in_ok-lists.lists.items)
    c.cycle_time-cycle_time.ensures.accepted (omega (arith, c.ranges.cycles.fits)) r.in_turn r.are c.requires.background by
    (subst (λ (xs : List Backed). AreFed xs c.args.starts.now (length d.links) (lists_of c.in_ok-lists.lists.items)) c.as_slice.ensures.value
    (subst (λ k. AreFed c.as_slice.result.now c.args.starts.now k (lists_of c.in_ok-lists.lists.items)) c.links-links.ensures c.in_ok-lists.ensures))
    l (omega (arith, inside, length-map c.in_ok-lists.lists.items (λ (v : Vec Arrival Global). v.items)))

-- sorted by cycle they are the background starts of each history with these starts
pub returns : goal.returns
returns c =
    background_is c.gate_gives_class.ensures c.port_starts_the_background.ensures c.args.domain.now c.args.cycles _ c.links-links.result c.args.starts.now
    c.args.background.now c.as_slice.result.now (lists_of c.in_ok-lists.lists.items) c.in_ok-backed.backed.items c.sort_by_key.new.self.items
    (λ i. c.from.ensures i * c.cycle_time-cycle_time.ensures.value i) c.links-links.ensures (c.as_slice.ensures.value ∙ c.in_ok-frames.ensures)
    c.in_ok-lists.ensures (length c.in_ok-lists.lists.items) (sym (length-map c.in_ok-lists.lists.items (λ (v : Vec Arrival Global). v.items)))
    c.in_ok-backed.ensures (record {
      moved = c.sort_by_key.ensures.permutation;
      ascends = IsNonDecreasingBy-from_sort_by_key cycle_in _ c.in_ok-sort_by_key.ensures.sorted (λ a r q k. search rules);
      stable = c.sort_by_key.ensures.stable cycle_in (answers_always _ _ _ (λ f a r q k. search rules));
    })
