-- What arrived at a bridge in a cycle, in order, is what the network brings there.
use Rattle.std.proofs.Common.{◌≡◌, ℕ, ◌+◌, ◌*◌, ◌≤◌, ◌<◌, ◌++◌, ◌==◌, List, [], sym, refl, ap, ◌∙◌, arith, subst}
use Rattle.std.proofs.Common.{length, map, Contains, Option, eqb-true, mul-le-mul_right}
use Rattle.std.proofs.lemmas.List.Folds.{flat_map-map}
use Rattle.cqf_lists.proofs.Members.{contains_from_filter, contains_from_map}
use Rattle.cqf_lists.proofs.Numbers.{kept_number, made_of_kept}
use Rattle.cqf_units.proofs.Cycles.{cycle_upto}
use Rattle.cqf_model.specs.declared.frames.Offered.{Offered}
use Rattle.cqf_model.specs.declared.frames.Sent.{Sent}
use Rattle.cqf_model.specs.declared.topology.Row.{Row}
use Rattle.cqf_model.specs.Book.{batch}
use Rattle.cqf_model.specs.Domain.{Domain, cycle_of, enters}
use Rattle.cqf_model.specs.Network.{Network}
use Rattle.cqf_model.specs.Run.{Run}
use Rattle.cqf_model.specs.Table.{table_of}
use Rattle.cqf_model.specs.Policing.{Carried, Policed, Received, offer_received, police_all, sent_received}
use Rattle.cqf_model.proofs.InCycle.{received_in_when}
use Rattle.cqf_laws_cycle.specs.BridgeCycle.{BatchIsWholeInItsCycle, CycleBringsItsBatches, policed_of, received_in}
use Rattle.cqf_laws_cycle.specs.Gathered.{FramesAreTakenInOrder, IsInOrderOf, gathered_in, offered_for}
use Rattle.cqf_bridge.specs.Batch.{LinkBatch}
use Rattle.cqf_agenda.specs.Links.{links_into}
use Rattle.cqf_bridge.specs.Taking.{CanGather, gathered_by}
use Rattle.cqf_agenda.specs.Agenda.{offers_listed_at}
use Rattle.cqf_bridge.specs.Follows.{batch_of, batches_into}
use Rattle.cqf_bridge.specs.Verdicts.{EachCycleIsAnew}
use Rattle.cqf_plain.specs.declared.driven.RunBridge.{RunBridge}
use Rattle.cqf_plain.specs.Driven.{HasCome, IsCycleOf}
use Rattle.cqf_plain.specs.Losing.{IsLossFound}

module _ (run : Run) (net : Network) (cycle bridge : ℕ) (s : RunBridge) (of : IsCycleOf run net cycle) (come : HasCome run net cycle bridge s) where
  -- what a link sends in the cycle
  abbrev sent_in : Carried
  sent_in m = batch run.domain net.carried m cycle

  -- a batch that arrived may be gathered
  gathers : cycle < 100000 → (b : LinkBatch) → Contains (batches_into run.domain net.carried bridge cycle) b → CanGather run.domain b
  gathers early b h =
      let d = run.domain in
      let f = contains_from_map (batch_of d net.carried cycle) (links_into d bridge) b h in
      subst (CanGather d) f.2 (record {
        inside = (kept_number (λ l. enters d l bridge) (length d.links) f.0 f.1).0;
        early = λ sent held.
            let in_cycle : cycle_of d sent.start.0 ≡ cycle =
            eqb-true (cycle_of d sent.start.0) cycle (contains_from_filter (λ (x : Sent). cycle_of d x.start.0 == cycle) (net.carried f.0) sent held).1 in
            let upto = cycle_upto d.cycle_time sent.start.0 (omega (arith, of.compiled.accepted.cycle_least)) in
            let same = ap (λ (c : ℕ). c * d.cycle_time) in_cycle in
            let most : (cycle + 1) * d.cycle_time ≤ 100000 * 10000000 =
            product (cycle + 1) d.cycle_time (omega (arith, early)) of.compiled.accepted.cycle_most in
            omega (arith, upto, same, most);
      })
    where
      -- a bounded product
      product : (n t : ℕ) → n ≤ 100000 → t ≤ 10000000 → n * t ≤ 100000 * 10000000
      product n t few short = omega (arith, mul-le-mul_right t few, mul-le-mul_right 100000 short)

  pub may_gather : cycle < 100000 → (d : Domain) (batches : List LinkBatch) → d ≡ s.bridge.domain → batches ≡ s.inbox.items →
      (b : LinkBatch) → Contains batches b → CanGather d b
  may_gather early d batches same are b h =
      subst (λ (e : Domain). CanGather e b) (sym (same ∙ come.domain))
      (gathers early b (subst (λ (bs : List LinkBatch). Contains bs b) (are ∙ come.came_are) h))

  module _ (brings : CycleBringsItsBatches) (whole : BatchIsWholeInItsCycle) (in_order : FramesAreTakenInOrder) (d : Domain) (batches : List LinkBatch)
      (offers : List Offered) (same : d ≡ s.bridge.domain) (are : batches ≡ s.inbox.items) (offered : offers ≡ offers_listed_at s.agenda cycle)
      (frames : List Received)
      (order : IsInOrderOf (λ (x : Received). x.at) (gathered_by d batches offers) frames) where
    abbrev domain_is : d ≡ run.domain
    domain_is = same ∙ come.domain

    -- gathered batch by batch, the frames are those of the links
    by_links : gathered_by run.domain (batches_into run.domain net.carried bridge cycle) (offered_for run.domain run.offers bridge cycle)
        ≡ gathered_in run sent_in bridge cycle
    by_links =
        let e = run.domain in
        ap (λ (xs : List Received). xs ++ map offer_received (offered_for e run.offers bridge cycle))
        (flat_map-map (λ (b : LinkBatch). map (sent_received e b.link) b.frames) (batch_of e net.carried cycle) (links_into e bridge)
        ∙ made_of_kept (λ m. enters e m bridge) (λ m. map (sent_received e m) (sent_in m)) (length e.links))

    -- so in order they are what arrives at the bridge
    received_so : frames ≡ received_in run net.carried bridge cycle
    received_so =
        in_order run sent_in bridge cycle frames (omega (arith, of.compiled.accepted.cycle_least))
        (λ m sent ends held. whole run (length run.tables) cycle m net sent of.compiled held)
        (subst (λ (xs : List Received). IsInOrderOf (λ (x : Received). x.at) xs frames)
        ((λ i. gathered_by (domain_is i) ((are ∙ come.came_are) i) ((offered ∙ come.agenda.offers_are cycle) i)) ∙ by_links) order)
        ∙ brings run (length run.tables) cycle bridge net sent_in of.compiled (λ m ends. refl)

    -- each arrives in the cycle
    pub in_cycle : (x : Received) → Contains frames x → cycle_of d x.at ≡ cycle
    in_cycle x held =
        ap (λ (e : Domain). cycle_of e x.at) domain_is
        ∙ received_in_when run net.carried bridge cycle x (subst (λ (xs : List Received). Contains xs x) received_so held)

    -- and the verdicts on them are those of the run
    pub found_so : EachCycleIsAnew → (number : ℕ) → number ≡ s.bridge.number → (rows : List Row) → table_of run.tables cycle ≡ rows → (found : Option ℕ) →
        ((tables : List (List Row)) → table_of tables cycle ≡ rows → IsLossFound (police_all d tables number [] frames) found) →
        IsLossFound (policed_of run net.carried bridge cycle) found
    found_so anew number is_number rows table found holds =
        subst (λ (ps : List Policed). IsLossFound ps found)
        ((λ i. police_all (domain_is i) run.tables ((is_number ∙ come.number) i) [] (received_so i))
        ∙ anew run net.carried bridge cycle (omega (arith, of.compiled.accepted.cycle_least)))
        (holds run.tables table)
