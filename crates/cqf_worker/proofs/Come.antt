-- From what each worker has done, by its own pipes, to what has arrived at all bridges, and what their links have sent.
use Rattle.std.proofs.Common.{ℕ, ◌≡◌, ◌<◌, ◌≤◌, ◌∷◌, [], List, AllPairs, Contains, filter, length, map, sym, ap, ◌∙◌, arith, inl, inr, subst}
use Rattle.std.proofs.Common.{eq-eqb, eqb-true, refl}
use Rattle.std.specs.Prelude.{◌==◌, Option, Some, false, slice_get, slice_index_or, true}
use Rattle.std.specs.List.{AllZip, flat_map}
use Rattle.std.specs.Option.{option_map_or}
use Rattle.std.proofs.lemmas.Bool.{false≢true}
use Rattle.std.proofs.lemmas.List.{length-map}
use Rattle.std.proofs.lemmas.List.Kept.{AllPairs-filter}
use Rattle.std.proofs.lemmas.List.Elements.{length_all_zip}
use Rattle.std.proofs.lemmas.Option.{get_or_from_slice_get, slice_get_cases, slice_get_within}
use Rattle.cqf_lists.specs.Lists.{each_below}
use Rattle.cqf_lists.proofs.EachBelow.{get_or-singles, length-singles, map_below}
use Rattle.cqf_lists.proofs.Members.{contains_at, contains_from_filter, contains_from_map, contains_map, index_of_member}
use Rattle.cqf_lists.proofs.Numbers.{kept_number, numbers_ascend}
use Rattle.cqf_model.specs.declared.frames.Background.{Background}
use Rattle.cqf_model.specs.declared.frames.Sent.{Sent}
use Rattle.cqf_model.specs.declared.topology.Link.{Link}
use Rattle.cqf_model.specs.declared.topology.Node.{Node}
use Rattle.cqf_model.specs.declared.topology.Node.TheVariants.{Bridge, Station}
use Rattle.cqf_model.specs.declared.topology.Row.{Row}
use Rattle.cqf_model.specs.Domain.{Domain, IsAccepted, IsNode, bridge_of, enters, leaves, node_is}
use Rattle.cqf_model.specs.History.{Recorded, table_at, tables_of}
use Rattle.cqf_model.specs.HistoryBook.{run_of_history}
use Rattle.cqf_model.specs.Run.{Run}
use Rattle.cqf_admission.specs.Tables.{CycleTable}
use Rattle.cqf_trace.specs.Traces.{mark_of_sent, starts_at}
use Rattle.cqf_agenda.specs.Agenda.{offers_listed_at}
use Rattle.cqf_laws_cycle.specs.Gathered.{offered_for}
use Rattle.cqf_agenda.proofs.LinkNumbers.{link_listed, links_ascend}
use Rattle.cqf_laws_account.specs.Sealing.{cycle_tables}
use Rattle.cqf_trace.proofs.Leaving.{leaves_one}
use Rattle.cqf_relay.specs.declared.moving.Segment.{Segment}
use Rattle.cqf_relay.specs.Segments.{AreNextSegments, Sendings, all_frames, batch_at, came_in, end_of_segments}
use Rattle.cqf_relay.specs.Logs.{is_in}
use Rattle.cqf_agenda.specs.Links.{links_from, links_into}
use Rattle.cqf_relay.specs.Standing.{Come, HasGoneOnBy, MayBeTables, is_onward, offers_in}
use Rattle.cqf_laws_relay.specs.Following.{HasCome, HaveGone}
use Rattle.cqf_worker_loops.specs.declared.carried.Carried.TheVariants.{Item}
use Rattle.cqf_worker_loops.specs.declared.worker.Worker.{Worker}
use Rattle.cqf_worker_loops.specs.Handing.{TableEnd}
use Rattle.cqf_worker_loops.specs.Workers.{HasGoneThrough, HasPut, HasSentAll, MayHaveComeTo, Offering, SegmentPort, Works}
use Rattle.cqf_worker_loops.specs.Workers.{come_to, items_in, link_of, links_onward, rows_in, segments_at, segments_in}
use Rattle.cqf_worker.specs.Wires.{AreFedByWires, AreGiven, AreWorkersOf, IsBeginning, IsFed, pipe_of_tables, tables_pipe}
use Rattle.cqf_worker.proofs.Apart.{chosen, element_at, kept_ins, kept_outs, kept_part}
use Rattle.cqf_worker.proofs.Segments.{begins_whole, ends_within, has_all_frames, items_all, items_begin, next_begin, next_by_links, of_member, segments_there}
use Rattle.cqf_worker.proofs.Lacking.{ends_there, link_there}

-- the rows of a history's tables
rows_of_tables : (d : Domain) (entries : List Recorded) (cycles : ℕ) → map rows_in (cycle_tables d entries cycles) ≡ tables_of d entries cycles
rows_of_tables d entries cycles = map_below rows_in (λ cycle. record { cycle = cycle; rows = table_at d entries cycle } ∷ []) cycles

-- their number is the number of cycles
pub tables_count : (d : Domain) (entries : List Recorded) (cycles : ℕ) → length (tables_of d entries cycles) ≡ cycles
tables_count d entries cycles = length-singles (table_at d entries) cycles

-- a bridge at which a link ends is one of the domain
node_inside : (d : Domain) (n : Node) (b : ℕ) → node_is n b ≡ true → IsNode d n → b < length d.bridges
node_inside d (Bridge c) b is inside = subst (λ (k : ℕ). k < length d.bridges) (eqb-true c b is) inside
node_inside d (Station s) b is inside = absurd (false≢true is)

enters_bridge : (d : Domain) (l b : ℕ) → IsAccepted d → enters d l b ≡ true → b < length d.bridges
enters_bridge d l b accepted here =
    let link = link_there d l b here in
    node_inside d link.0.to b (ends_there d l link.0 link.1 b here) (accepted.links_good l link.0 link.1).to_node

-- and so is a bridge that a link leaves
leaves_bridge : (d : Domain) (l : ℕ) → IsAccepted d → l < length d.links → (bridge_of d l < length d.bridges) × (leaves d l (bridge_of d l) ≡ true)
leaves_bridge d l accepted inside =
    let link = element_at d.links l inside in
    let from : bridge_of d l ≡ link.0.from = ap (λ (o : Option Link). option_map_or (λ (k : Link). k.from) o 0) link.1 in (
      subst (λ (b : ℕ). b < length d.bridges) (sym from) (accepted.links_good l link.0 link.1).from_bridge,
      ap (λ (o : Option Link). option_map_or (λ (k : Link). k.from == bridge_of d l) o false) link.1 ∙ eq-eqb link.0.from (bridge_of d l) (sym from),
    )

-- the links that leave a bridge and end in another one ascend
onward_ascend : (d : Domain) (bridge : ℕ) → AllPairs (λ (a b : ℕ). a < b) (links_onward d bridge)
onward_ascend d bridge =
    AllPairs-filter (λ (a b : ℕ). a < b) (is_onward d) (links_from d bridge) (numbers_ascend (λ k. leaves d k bridge) (length d.links))

-- what has arrived if there is no worker
abbrev come_elsewhere : Offering → List (List Row) → ℕ → Come
come_elsewhere t tables bridge = record {
  tables = tables;
  offers = each_below (λ cycle. offered_for t.domain t.offers bridge cycle ∷ []) (length tables);
  upto = λ m. 0;
  brought = λ m. [];
}

-- what has arrived at each bridge
abbrev pub come_of : Offering → List (List Row) → List Worker → ℕ → Come
come_of t tables dones bridge = option_map_or come_to (slice_get dones bridge) (come_elsewhere t tables bridge)

pub come_is : (t : Offering) (tables : List (List Row)) (dones : List Worker) (bridge : ℕ) (done : Worker) → slice_get dones bridge ≡ Some done →
    come_of t tables dones bridge ≡ come_to done
come_is t tables dones bridge done there = ap (λ (o : Option Worker). option_map_or come_to o (come_elsewhere t tables bridge)) there

-- what each link that leaves a worker's bridge has sent
pub record HasSentBy (t : Offering) (number cycles : ℕ) (done : Worker) (sends : Sendings) : Type 0 where
  pub gone : (l : ℕ) → leaves t.domain l number ≡ true → HasGoneOnBy t.domain number (come_to done) l (sends l)
  pub all : (l : ℕ) → leaves t.domain l number ≡ true → length (sends l) ≡ cycles
  pub put : (l cycle : ℕ) → leaves t.domain l number ≡ true → is_onward t.domain l ≡ true →
      filter (is_in cycle) (all_frames (segments_at done.outs.items l)) ≡ map (came_in t.domain l cycle) (batch_at (sends l) cycle)
  pub starts : (l : ℕ) → leaves t.domain l number ≡ true →
      starts_at done.bridge_trace.traces.items l ≡ map mark_of_sent (flat_map (λ (batch : List Sent). batch) (sends l))

-- workers of all bridges of this traffic that are done, with their pipes closed, and the ends at which tables were put for each worker:
-- those of the first cycles of a history
pub record HaveRun (t : Offering) (entries : List Recorded) (cycles : ℕ) (workers dones : List Worker) (ends : List TableEnd) : Type 0 where
  pub accepted : IsAccepted t.domain
  pub may_come : MayBeTables t.domain (tables_of t.domain entries cycles)
  pub of_bridges : AreWorkersOf t workers
  pub many : length workers ≡ length t.domain.bridges
  pub worked : AllZip (Works cycles) workers dones
  pub fed : AreFedByWires dones
  pub pipes : map pipe_of_tables ends ≡ map tables_pipe dones
  pub given : AreGiven ends dones
  pub put : (index : ℕ) (d : TableEnd) → index < length ends → (slice_index_or ends index d).items ≡ map Item (cycle_tables t.domain entries cycles)

-- a port at which a worker takes, and what was put for it
pub record IsPutFor (cycles : ℕ) (dones : List Worker) (p : SegmentPort) : Type 0 where
  pub fed : IsFed dones p
  pub beginning : IsBeginning (segments_in p) (segments_in fed.out)
  pub put : HasPut cycles fed.out

module _ (t : Offering) (entries : List Recorded) (cycles : ℕ) (workers dones : List Worker) (ends : List TableEnd)
    (run : HaveRun t entries cycles workers dones ends) where
  -- as many workers are done as there are bridges
  pub as_many : length dones ≡ length t.domain.bridges
  as_many = sym (length_all_zip (Works cycles) workers dones run.worked) ∙ run.many

  -- and tables were put at as many ends
  as_many_ends : length ends ≡ length t.domain.bridges
  as_many_ends = sym (length-map ends pipe_of_tables) ∙ ap length run.pipes ∙ length-map dones tables_pipe ∙ as_many

  module _ (index : ℕ) (done : Worker) (there : slice_get dones index ≡ Some done) where
    -- the worker at an index did its bridge's part
    pub gone_at : HasGoneThrough t index cycles done
    gone_at = kept_part t cycles workers dones run.of_bridges run.worked index done there

    -- it takes at ports of the links that end in its bridge
    ins_links : map link_of done.ins.items ≡ links_into t.domain index
    ins_links = kept_ins t cycles workers dones run.of_bridges run.worked index done there

    -- and puts at ports of those that leave it and end in another bridge
    outs_links : map link_of done.outs.items ≡ links_onward t.domain index
    outs_links = kept_outs t cycles workers dones run.of_bridges run.worked index done there

    -- these ports ascend
    ins_ascend : AllPairs (λ (a b : ℕ). a < b) (map link_of done.ins.items)
    ins_ascend = subst (AllPairs (λ (a b : ℕ). a < b)) (sym ins_links) (links_ascend t.domain index)

    outs_ascend : AllPairs (λ (a b : ℕ). a < b) (map link_of done.outs.items)
    outs_ascend = subst (AllPairs (λ (a b : ℕ). a < b)) (sym outs_links) (onward_ascend t.domain index)

    -- the link of a port at which it puts leaves its bridge, and ends in another bridge
    leaves_it : (out : SegmentPort) → Contains done.outs.items out → (leaves t.domain out.link index ≡ true) × (is_onward t.domain out.link ≡ true)
    leaves_it out held =
        let among : Contains (links_onward t.domain index) out.link =
        subst (λ (ls : List ℕ). Contains ls out.link) outs_links (contains_map link_of done.outs.items out held) in
        let kept = contains_from_filter (is_onward t.domain) (links_from t.domain index) out.link among in
        ((kept_number (λ l. leaves t.domain l index) (length t.domain.links) out.link kept.0).1, kept.1)

    -- and each link that ends in its bridge has a port at which it takes
    port_of : (m : ℕ) → enters t.domain m index ≡ true → (p : SegmentPort) × Contains done.ins.items p × (p.link ≡ m)
    port_of m here =
        contains_from_map link_of done.ins.items m
        (subst (λ (ls : List ℕ). Contains ls m) (sym ins_links) (link_listed t.domain index m here))

    -- the tables that it took are all those put for it
    taken_all : items_in done.tables.items ≡ cycle_tables t.domain entries cycles
    taken_all =
        let below : index < length ends = omega (arith, slice_get_within dones index done there, as_many, as_many_ends) in
        let tables = cycle_tables t.domain entries cycles in
        let put = element_at ends index below in
        let rest = items_begin done.tables.items put.0.items (run.given index put.0 done put.1 there) in
        let carried : put.0.items ≡ map Item tables =
        ap (λ (e : TableEnd). e.items) (sym (get_or_from_slice_get ends index put.0 put.0 put.1)) ∙ run.put index put.0 below in
        let count : length tables ≡ cycles =
        length-singles (λ cycle. (let table : CycleTable = record { cycle = cycle; rows = table_at t.domain entries cycle } in table)) cycles in
        begins_whole tables (items_in done.tables.items) rest.0 (sym (ap items_in carried ∙ items_all tables) ∙ rest.1) (gone_at.had_tables ∙ sym count)

    -- so the tables that arrived are the history's
    pub tables_are : (come_to done).tables ≡ tables_of t.domain entries cycles
    tables_are = ap (map rows_in) taken_all ∙ rows_of_tables t.domain entries cycles

    -- and the offers of each cycle are those of the run
    pub offers_are : (cycle : ℕ) → cycle < cycles → offers_in (come_to done) cycle ≡ offered_for t.domain t.offers index cycle
    offers_are cycle within =
        get_or-singles (offers_listed_at done.agenda) (length (items_in done.tables.items)) cycle [] (omega (arith, within, gone_at.had_tables))
        ∙ gone_at.is_agenda cycle

  -- what was put for a port at which a worker takes
  put_for : (index : ℕ) (done : Worker) (p : SegmentPort) → slice_get dones index ≡ Some done → Contains done.ins.items p → IsPutFor cycles dones p
  put_for index done p there held =
      let fed = run.fed done p (contains_at dones index done there) held in
      let source = index_of_member dones fed.from fed.of_workers in
      record {
        fed = fed;
        beginning = items_begin p.pipe.items fed.out.pipe.items fed.beginning;
        put = of_member (HasPut cycles) fed.from.outs.items fed.out (gone_at source.0 fed.from source.1).outs fed.at_worker;
      }

  -- so what arrived at a worker may arrive
  may_have_come : (index : ℕ) (done : Worker) → slice_get dones index ≡ Some done → MayHaveComeTo t done
  may_have_come index done there = record {
    segments = next_by_links done.ins.items (λ p held. (let put = put_for index done p there held in
        next_begin 0 (segments_in p) put.beginning.0 (subst (AreNextSegments 0) put.beginning.1 put.put.next)));
    tables = subst (MayBeTables t.domain) (sym (tables_are index done there)) run.may_come;
  }

  -- and its links have sent everything
  pub sent_all : (index : ℕ) (done : Worker) → slice_get dones index ≡ Some done → HasSentAll t index cycles done
  sent_all index done there = (gone_at index done there).sent (may_have_come index done there)

  -- as one function of the bridges
  pub sent_so : (own : ℕ → Sendings) × ((index : ℕ) (done : Worker) → slice_get dones index ≡ Some done → HasSentBy t index cycles done (own index))
  sent_so = chosen {X = Worker} {Y = Sendings} (λ l. []) dones (λ index done sends. HasSentBy t index cycles done sends)
      (λ index done there. (let all = sent_all index done there in
      (all.sends, record { gone = all.gone; all = all.all; put = all.put; starts = all.starts })))

  abbrev pub own_sends : ℕ → Sendings
  own_sends = sent_so.0

  pub sent_by : (index : ℕ) (done : Worker) → slice_get dones index ≡ Some done → HasSentBy t index cycles done (own_sends index)
  sent_by = sent_so.1

  -- what each link has sent
  abbrev pub all_sends : Sendings
  all_sends l = own_sends (bridge_of t.domain l) l

  -- and what has arrived at each bridge
  abbrev pub all_come : ℕ → Come
  all_come = come_of t (tables_of t.domain entries cycles) dones

  module _ (index : ℕ) (done : Worker) (there : slice_get dones index ≡ Some done) (m : ℕ) (here : enters t.domain m index ≡ true) where
    port : (p : SegmentPort) × Contains done.ins.items p × (p.link ≡ m)
    port = port_of index done there m here

    put : IsPutFor cycles dones port.0
    put = put_for index done port.0 there port.1

    -- it arrived up to the last cycle
    far : cycles ≤ end_of_segments 0 (segments_in port.0)
    far = of_member (λ (p : SegmentPort). cycles ≤ end_of_segments 0 (segments_in p)) done.ins.items port.0 (sent_all index done there).came port.1

    segments_here : segments_at done.ins.items m ≡ segments_in port.0
    segments_here =
        ap (segments_at done.ins.items) (sym port.2) ∙ segments_there done.ins.items port.0 (ins_ascend index done there) port.1

    -- and no further
    upto_so : end_of_segments 0 (segments_at done.ins.items m) ≡ cycles
    upto_so =
        let near : end_of_segments 0 (segments_in port.0) ≤ cycles =
        ends_within cycles (segments_in port.0) (segments_in put.fed.out) put.beginning put.put.next put.put.ends in
        let same : end_of_segments 0 (segments_in port.0) ≡ cycles = omega (arith, far, near) in
        ap (end_of_segments 0) segments_here ∙ same

    -- the worker that put it
    source : (k : ℕ) × (slice_get dones k ≡ Some put.fed.from)
    source = index_of_member dones put.fed.from put.fed.of_workers

    same_link : put.fed.out.link ≡ m
    same_link = put.fed.same_link ∙ port.2

    leaves_source : (leaves t.domain m source.0 ≡ true) × (is_onward t.domain m ≡ true)
    leaves_source =
        subst (λ (l : ℕ). (leaves t.domain l source.0 ≡ true) × (is_onward t.domain l ≡ true)) same_link
        (leaves_it source.0 put.fed.from source.1 put.fed.out put.fed.at_worker)

    segments_put : segments_at put.fed.from.outs.items m ≡ segments_in put.fed.out
    segments_put =
        ap (segments_at put.fed.from.outs.items) (sym same_link)
        ∙ segments_there put.fed.from.outs.items put.fed.out (outs_ascend source.0 put.fed.from source.1) put.fed.at_worker

    -- what the link brought is what it sent
    brought_so : (cycle : ℕ) → filter (is_in cycle) (all_frames (segments_at done.ins.items m)) ≡ map (came_in t.domain m cycle) (batch_at (all_sends m) cycle)
    brought_so cycle =
        ap (λ (segments : List Segment). filter (is_in cycle) (all_frames segments)) segments_here
        ∙ ap (filter (is_in cycle))
        (has_all_frames cycles (segments_in port.0) (segments_in put.fed.out) put.beginning put.put.next put.put.ends far)
        ∙ ap (λ (segments : List Segment). filter (is_in cycle) (all_frames segments)) (sym segments_put)
        ∙ (sent_by source.0 put.fed.from source.1).put m cycle leaves_source.0 leaves_source.1
        ∙ ap (λ (b : ℕ). map (came_in t.domain m cycle) (batch_at (own_sends b m) cycle)) (sym (leaves_one t.domain m source.0 leaves_source.0))

  module _ (background : List Background) where
    -- the run of the history's first cycles
    abbrev pub its_run : Run
    its_run = run_of_history t.domain entries t.offers background cycles

    abbrev count : length its_run.tables ≡ cycles
    count = tables_count t.domain entries cycles

    -- everything has arrived at a worker's bridge
    come_there : (index : ℕ) (done : Worker) → slice_get dones index ≡ Some done → HasCome its_run all_sends index (come_to done)
    come_there index done there = record {
      tables = tables_are index done there;
      offers = λ cycle within. offers_are index done there cycle (omega (arith, within, count));
      upto = λ m here. upto_so index done there m here ∙ sym count;
      brought = λ m cycle here. brought_so index done there m here cycle;
    }

    -- and a number that is none of the bridges has no links
    come_nowhere : (index : ℕ) → length dones ≤ index → HasCome its_run all_sends index (come_elsewhere t its_run.tables index)
    come_nowhere index following =
        let none : (m : ℕ) → enters t.domain m index ≡ true → ⊥ =
        λ m here. (omega (arith, following, as_many, enters_bridge t.domain m index run.accepted here)) in
        record {
          tables = refl;
          offers = λ cycle within. get_or-singles (offered_for t.domain t.offers index) (length its_run.tables) cycle [] within;
          upto = λ m here. absurd (none m here);
          brought = λ m cycle here. absurd (none m here);
        }

    has_come : (bridge : ℕ) → HasCome its_run all_sends bridge (all_come bridge)
    has_come bridge = elim (slice_get_cases dones bridge).1 [
      | inl w ↦
          subst (HasCome its_run all_sends bridge) (sym (come_is t its_run.tables dones bridge w.0 w.2)) (come_there bridge w.0 w.2)
      | inr past ↦
          subst (HasCome its_run all_sends bridge)
          (sym (ap (λ (o : Option Worker). option_map_or come_to o (come_elsewhere t its_run.tables bridge)) past.1)) (come_nowhere bridge past.0)
    ]

    -- the worker of the bridge that a link leaves
    worker_of : (l : ℕ) → l < length t.domain.links → (done : Worker) × (slice_get dones (bridge_of t.domain l) ≡ Some done)
    worker_of l inside = element_at dones (bridge_of t.domain l) (omega (arith, as_many, (leaves_bridge t.domain l run.accepted inside).0))

    -- so each link has gone on through all cycles
    pub have_gone : HaveGone its_run all_sends all_come
    have_gone = record {
      has_come = has_come;
      gone = λ l inside.
          (let w = worker_of l inside in
          subst (λ (come : Come). HasGoneOnBy t.domain (bridge_of t.domain l) come l (all_sends l))
          (sym (come_is t its_run.tables dones (bridge_of t.domain l) w.0 w.1))
          ((sent_by (bridge_of t.domain l) w.0 w.1).gone l (leaves_bridge t.domain l run.accepted inside).1));
      all = λ l inside.
          (let w = worker_of l inside in
          (sent_by (bridge_of t.domain l) w.0 w.1).all l (leaves_bridge t.domain l run.accepted inside).1 ∙ sym count);
    }
