-- How deep a plan's table nests, and that it has no dates.
use Rattle.std.proofs.Common.{◌≡◌, ◌≤◌, ◌==◌, ◌&&◌, ℕ, pos, List, [], ◌∷◌, Bool, true, false, cond, Option, Some, None, map, refl, arith}
use Rattle.toml.specs.Data.{Data, Members, array, integer, string, table, no_members}
use Rattle.toml.specs.Data.{depth, items_depth, members_depth, has_valid_dates, items_have_valid_dates, members_have_valid_dates}
use Rattle.toml.specs.View.{items_of}
use Rattle.cqf_model.specs.declared.topology.Node.TheVariants.{Bridge}
use Rattle.cqf_model.specs.Domain.{Domain}
use Rattle.cqf_topology.specs.declared.keys.Key.{Key}
use Rattle.cqf_topology.specs.declared.keys.Key.TheVariants.{Deadline, Every, Phase, Sync}
use Rattle.cqf_topology.specs.NodeNames.{name_of_node}
use Rattle.cqf_topology.specs.PacedText.{PacedText}
use Rattle.cqf_traffic.specs.declared.keys.TrafficKey.TheVariants.{Size}
use Rattle.cqf_traffic.specs.TrafficText.{TrafficText}
use Rattle.cqf_traffic.specs.FlowsText.{FlowText}
use Rattle.cqf_network_text.specs.DomainMembers.{delays_data, link_members, links_data, megabits_of, members_counting, members_of_link, overhead_written, some_then, sync_written, texts_data}
use Rattle.cqf_network_text.specs.StreamMembers.{branches_then, every_written, members_by, phase_written, stream_members, streams_data, traffic_then}
use Rattle.cqf_network_text.specs.Plans.{plan_members}

-- if no item nests deeper than n, nor do the items together
each_shallow : {X : Type 0} (f : X → Data) (n : ℕ) → ((x : X) → depth (f x) ≤ n) → (xs : List X) → items_depth (items_of (map f xs)) ≤ n
each_shallow f n each [] = omega arith
each_shallow f n each (x ∷ xs) =
    let here : depth (f x) ≤ n = each x in
    let rest : items_depth (items_of (map f xs)) ≤ n = each_shallow f n each xs in
    omega arith

texts_shallow : (texts : List (List ℕ)) → depth (texts_data texts) ≤ 1
texts_shallow texts = let inside : items_depth (items_of (map string texts)) ≤ 0 = each_shallow string 0 (λ text. omega arith) texts in omega arith

branches_shallow : (paths : List (List (List ℕ))) (more : Members) → members_depth more ≤ 2 → members_depth (branches_then paths more) ≤ 2
branches_shallow [] more shallow = omega arith
branches_shallow (path ∷ []) more shallow = let inside : depth (texts_data path) ≤ 1 = texts_shallow path in omega arith
branches_shallow (path ∷ other ∷ paths) more shallow =
    let inside : items_depth (items_of (map texts_data (path ∷ other ∷ paths))) ≤ 1 = each_shallow texts_data 1 texts_shallow (path ∷ other ∷ paths) in
    omega arith

some_shallow : (key : Key) (number : Option ℕ) (more : Members) → members_depth more ≤ 2 → members_depth (some_then key number more) ≤ 2
some_shallow key None more shallow = shallow
some_shallow key (Some n) more shallow = omega arith

-- the end of a stream's table: its branches, and what follows them
end_shallow : (request : PacedText) (more : Members) → members_depth more ≤ 2 →
    members_depth (branches_then request.paths (some_then Phase (phase_written request) more)) ≤ 2
end_shallow request more shallow = branches_shallow request.paths _ (some_shallow Phase (phase_written request) more shallow)

stream_shallow : (request : PacedText) (deadline : Option ℕ) (traffic : Option TrafficText) → members_depth (members_by request deadline traffic) ≤ 2
stream_shallow request deadline None =
    let inside : members_depth (branches_then request.paths (some_then Phase (phase_written request) no_members)) ≤ 2 =
    end_shallow request no_members (omega arith) in
    some_shallow Deadline deadline _ (some_shallow Every (every_written request) _ (omega arith))
stream_shallow request deadline (Some t) =
    let inside : members_depth (branches_then request.paths (some_then Phase (phase_written request) (traffic_then Size t no_members))) ≤ 2 =
    end_shallow request (traffic_then Size t no_members) (omega arith) in
    some_shallow Deadline deadline _ (some_shallow Every (every_written request) _ (omega arith))

-- a link's delays, and its table
delays_shallow : (same : Bool) (least most : ℕ) →
    depth (cond same (integer (pos most)) (array (items_of (integer (pos least) ∷ integer (pos most) ∷ [])))) ≤ 1
delays_shallow true least most = omega arith
delays_shallow false least most = omega arith

link_shallow : (from to : List ℕ) (delays : Data) (rate : ℕ) (guard : Option ℕ) → depth delays ≤ 1 → members_depth (members_of_link from to delays rate guard) ≤ 1
link_shallow from to delays rate None shallow = omega arith
link_shallow from to delays rate (Some n) shallow = omega arith

-- a plan's table nests no deeper than the reader allows
pub plan_shallow : (d : Domain) (flows : List FlowText) → members_depth (plan_members d flows) ≤ 80
plan_shallow d flows =
    let bridges : depth (texts_data d.bridges) ≤ 1 = texts_shallow d.bridges in
    let stations : depth (texts_data d.stations) ≤ 1 = texts_shallow d.stations in
    let links : items_depth (items_of (map (λ link. table (link_members d link)) d.links)) ≤ 2 =
    each_shallow (λ link. table (link_members d link)) 2
    (λ link.
    let inside : members_depth (link_members d link) ≤ 1 =
    link_shallow (name_of_node d (Bridge link.from)) (name_of_node d link.to) (delays_data link.least link.delay) (megabits_of link.rate) link.guard
    (delays_shallow (link.least == link.delay) link.least link.delay) in omega arith) d.links in
    let streams : items_depth (items_of (map (λ flow. table (stream_members flow)) flows)) ≤ 3 =
    each_shallow (λ flow. table (stream_members flow)) 3
    (λ flow.
    let inside : members_depth (stream_members flow) ≤ 2 =
    stream_shallow flow.0.0 flow.0.1 flow.1 in omega arith) flows in
    let sync : members_depth (some_then Sync (sync_written d.sync) no_members) ≤ 2 = some_shallow Sync (sync_written d.sync) no_members (omega arith) in
    by bridges stations links streams sync (overhead_written d.overhead)
  where
    by : depth (texts_data d.bridges) ≤ 1 → depth (texts_data d.stations) ≤ 1 →
        items_depth (items_of (map (λ link. table (link_members d link)) d.links)) ≤ 2 →
        items_depth (items_of (map (λ flow. table (stream_members flow)) flows)) ≤ 3 →
        members_depth (some_then Sync (sync_written d.sync) no_members) ≤ 2 →
        (reported : Option ℕ) → members_depth (members_counting reported d (streams_data flows)) ≤ 80
    by bridges stations links streams sync None = omega arith
    by bridges stations links streams sync (Some n) = omega arith

-- items without dates
each_dateless : {X : Type 0} (f : X → Data) → ((x : X) → has_valid_dates (f x) ≡ true) → (xs : List X) → items_have_valid_dates (items_of (map f xs)) ≡ true
each_dateless f each [] = refl
each_dateless f each (x ∷ xs) = (λ i. each x i && each_dateless f each xs i)

texts_dateless : (texts : List (List ℕ)) → has_valid_dates (texts_data texts) ≡ true
texts_dateless texts = each_dateless string (λ text. refl) texts

branches_dateless : (paths : List (List (List ℕ))) (more : Members) → members_have_valid_dates more ≡ true →
    members_have_valid_dates (branches_then paths more) ≡ true
branches_dateless [] more none = none
branches_dateless (path ∷ []) more none = (λ i. texts_dateless path i && none i)
branches_dateless (path ∷ other ∷ paths) more none = (λ i. each_dateless texts_data texts_dateless (path ∷ other ∷ paths) i && none i)

some_dateless : (key : Key) (number : Option ℕ) (more : Members) → members_have_valid_dates more ≡ true →
    members_have_valid_dates (some_then key number more) ≡ true
some_dateless key None more none = none
some_dateless key (Some n) more none = none

stream_dateless : (request : PacedText) (deadline : Option ℕ) (traffic : Option TrafficText) →
    members_have_valid_dates (members_by request deadline traffic) ≡ true
stream_dateless request deadline None =
    some_dateless Deadline deadline _ (some_dateless Every (every_written request) _ (
    branches_dateless request.paths _ (some_dateless Phase (phase_written request) no_members refl)))
stream_dateless request deadline (Some t) =
    some_dateless Deadline deadline _ (some_dateless Every (every_written request) _ (
    branches_dateless request.paths _ (some_dateless Phase (phase_written request) (traffic_then Size t no_members) refl)))

-- a link's delays, and its table
delays_dateless : (same : Bool) (least most : ℕ) →
    has_valid_dates (cond same (integer (pos most)) (array (items_of (integer (pos least) ∷ integer (pos most) ∷ [])))) ≡ true
delays_dateless true least most = refl
delays_dateless false least most = refl

link_dateless : (from to : List ℕ) (delays : Data) (rate : ℕ) (guard : Option ℕ) → has_valid_dates delays ≡ true →
    members_have_valid_dates (members_of_link from to delays rate guard) ≡ true
link_dateless from to delays rate None none = (λ i. none i && true)
link_dateless from to delays rate (Some n) none = (λ i. none i && true)

-- a plan's table has no dates
pub plan_dateless : (d : Domain) (flows : List FlowText) → members_have_valid_dates (plan_members d flows) ≡ true
plan_dateless d flows =
    let links : has_valid_dates (links_data d) ≡ true = each_dateless (λ link. table (link_members d link))
    (λ link. link_dateless (name_of_node d (Bridge link.from)) (name_of_node d link.to) (delays_data link.least link.delay) (megabits_of link.rate) link.guard
    (delays_dateless (link.least == link.delay) link.least link.delay)) d.links in
    let streams : has_valid_dates (streams_data flows) ≡ true =
    each_dateless (λ flow. table (stream_members flow)) (λ flow. stream_dateless flow.0.0 flow.0.1 flow.1) flows in
    let sync = some_dateless Sync (sync_written d.sync) no_members refl in
    by (λ i. texts_dateless d.bridges i && (links i && (texts_dateless d.stations i && (streams i && sync i)))) (overhead_written d.overhead)
  where
    by : members_have_valid_dates (members_counting None d (streams_data flows)) ≡ true → (reported : Option ℕ) →
        members_have_valid_dates (members_counting reported d (streams_data flows)) ≡ true
    by without None = without
    by without (Some n) = without
