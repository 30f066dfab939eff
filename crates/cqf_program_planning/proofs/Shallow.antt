-- The table of a plan's text isn't nested deeper than those of its file.
use Rattle.std.proofs.Common.{◌≡◌, ◌≤◌, ℕ, zero, suc, pos, Bool, true, false, List, [], ◌∷◌, Option, Some, None, Ordering, Less, Equal, Greater, arith, map, nat_cmp, refl, subst}
use Rattle.std.specs.Ordering.{match_ordering}
use Rattle.std.specs.Cmp.Lexicographic.{slice_cmp}
use Rattle.std.specs.Option.{option_and_then}
use Rattle.std.specs.Prelude.{if◌then◌else◌}
use Rattle.toml.specs.Data.{Data, Items, no_items, item, Members, no_members, member, array, as_array, boolean, datetime, depth, float, get_member, integer}
use Rattle.toml.specs.Data.{items_depth, members_depth, string, table}
use Rattle.toml.specs.View.{items_of}
use Rattle.cqf_topology.specs.declared.keys.Key.TheVariants.{Cycle, Every, Octets, Path, Paths, Phase, Streams}
use Rattle.cqf_topology.specs.Fields.{key_text}
use Rattle.cqf_topology.specs.PacedText.{paced_text}
use Rattle.cqf_topology.specs.declared.paced.PacedRequest.{PacedRequest}
use Rattle.cqf_traffic.specs.declared.keys.TrafficKey.TheVariants.{Offset}
use Rattle.cqf_traffic.specs.Keys.{key_text as traffic_key_text}
use Rattle.cqf_network_text.specs.declared.filling.FilledStream.{FilledStream}
use Rattle.cqf_network_text.specs.DomainMembers.{put, texts_data}
use Rattle.cqf_network_text.specs.Networks.{array_at, array_or_none, filled_item, filled_network, filled_stream, filled_streams, has_branches, streams_of}
use Rattle.cqf_network_text.specs.Networks.{active_cycles_by, with_octets, with_path}
use Rattle.cqf_network_text.specs.StreamMembers.{branches_data, put_branches}

-- a value that is put into a table
put_shallow : (key : List ℕ) (d : Data) (members : Members) (n : ℕ) → depth d ≤ n → members_depth members ≤ n → members_depth (put key d members) ≤ n
put_shallow key d no_members n own all = omega arith
put_shallow key d (member other that more) n own all =
    let here : depth that ≤ n = omega arith in
    let following : members_depth more ≤ n = omega arith in
    by (slice_cmp nat_cmp key other) here following (put_shallow key d more n own following)
  where
    by : (o : Ordering) → depth that ≤ n → members_depth more ≤ n → members_depth (put key d more) ≤ n →
        members_depth (match_ordering o (member key d (member other that more)) (member other d more) (member other that (put key d more))) ≤ n
    by Less here following rest = omega arith
    by Equal here following rest = omega arith
    by Greater here following rest = omega arith

-- names, and paths of them
names_shallow : (names : List (List ℕ)) → items_depth (items_of (map string names)) ≤ 0
names_shallow [] = omega arith
names_shallow (name ∷ names) = let rest : items_depth (items_of (map string names)) ≤ 0 = names_shallow names in omega arith

paths_shallow : (paths : List (List (List ℕ))) → items_depth (items_of (map texts_data paths)) ≤ 1
paths_shallow [] = omega arith
paths_shallow (path ∷ paths) =
    let first : items_depth (items_of (map string path)) ≤ 0 = names_shallow path in
    let rest : items_depth (items_of (map texts_data paths)) ≤ 1 = paths_shallow paths in
    omega arith

branches_put : (paths : List (List (List ℕ))) (members : Members) (n : ℕ) → 2 ≤ n → members_depth members ≤ n → members_depth (put_branches paths members) ≤ n
branches_put [] members n some all = put_shallow (key_text Paths) (branches_data []) members n (omega arith) all
branches_put (path ∷ []) members n some all =
    let inside : items_depth (items_of (map string path)) ≤ 0 = names_shallow path in
    put_shallow (key_text Path) (texts_data path) members n (omega arith) all
branches_put (path ∷ other ∷ paths) members n some all =
    let inside : items_depth (items_of (map texts_data (path ∷ other ∷ paths))) ≤ 1 = paths_shallow (path ∷ other ∷ paths) in
    put_shallow (key_text Paths) (branches_data (path ∷ other ∷ paths)) members n (omega arith) all

number_put : (key : List ℕ) (number : ℕ) (members : Members) (n : ℕ) → members_depth members ≤ n → members_depth (put key (integer (pos number)) members) ≤ n
number_put key number members n all = put_shallow key (integer (pos number)) members n (omega arith) all

-- a stream's table
path_shallow : (filled : FilledStream) (members : Members) (n : ℕ) → 2 ≤ n → members_depth members ≤ n → members_depth (with_path filled members) ≤ n
path_shallow filled members n some all = by (has_branches members)
  where
    by : (b : Bool) → members_depth (if b then members else put_branches (paced_text filled.request).paths members) ≤ n
    by true = all
    by false = branches_put (paced_text filled.request).paths members n some all

active_cycles_shallow : (request : PacedRequest) (offset : Option ℕ) (members : Members) (n : ℕ) → members_depth members ≤ n → members_depth (active_cycles_by request offset members) ≤ n
active_cycles_shallow request None _ n all = all
active_cycles_shallow request (Some offset) members n all =
    let first = number_put (key_text Every) request.every members n all in
    let second = number_put (key_text Phase) request.phase (put (key_text Every) (integer (pos request.every)) members) n first in
    number_put (traffic_key_text Offset) offset
    (put (key_text Phase) (integer (pos request.phase)) (put (key_text Every) (integer (pos request.every)) members)) n second

stream_shallow : (filled : FilledStream) (members : Members) (n : ℕ) → 2 ≤ n → members_depth members ≤ n → members_depth (filled_stream filled members) ≤ n
stream_shallow filled members n some all =
    let octets = number_put (key_text Octets) filled.request.octets members n all in
    active_cycles_shallow filled.request filled.offset (with_path filled (with_octets filled members)) n (path_shallow filled (with_octets filled members) n some octets)

item_shallow : (filled : FilledStream) (d : Data) (n : ℕ) → 3 ≤ n → depth d ≤ n → depth (filled_item filled d) ≤ n
item_shallow filled (string s) n some all = all
item_shallow filled (integer z) n some all = all
item_shallow filled (float x) n some all = all
item_shallow filled (boolean b) n some all = all
item_shallow filled (datetime dt) n some all = all
item_shallow filled (array ds) n some all = all
item_shallow filled (table ms) zero some all = absurd (omega arith)
item_shallow filled (table ms) (suc n) some all =
    let own : members_depth ms ≤ n = omega arith in
    let there : members_depth (filled_stream filled ms) ≤ n = stream_shallow filled ms n (omega arith) own in
    omega arith

streams_shallow : (filled : List FilledStream) (items : Items) (n : ℕ) → 3 ≤ n → items_depth items ≤ n → items_depth (filled_streams filled items) ≤ n
streams_shallow [] items n some all = all
streams_shallow (one ∷ rest) no_items n some all = omega arith
streams_shallow (one ∷ rest) (item d ds) n some all =
    let own : depth d ≤ n = omega arith in
    let others : items_depth ds ≤ n = omega arith in
    let here : depth (filled_item one d) ≤ n = item_shallow one d n some own in
    let following : items_depth (filled_streams rest ds) ≤ n = streams_shallow rest ds n some others in
    omega arith

-- a value of a table
member_shallow : (key : List ℕ) (members : Members) (d : Data) (n : ℕ) → members_depth members ≤ n → get_member key members ≡ Some d → depth d ≤ n
member_shallow key no_members d n all is = absurd cc
member_shallow key (member other that more) d n all is =
    let here : depth that ≤ n = omega arith in
    let following : members_depth more ≤ n = omega arith in
    by (slice_cmp nat_cmp key other) here (λ later. member_shallow key more d n following later) is
  where
    by : (o : Ordering) → depth that ≤ n → (get_member key more ≡ Some d → depth d ≤ n) →
        match_ordering o (get_member key more) (Some that) (get_member key more) ≡ Some d → depth d ≤ n
    by Less here rest is = rest is
    by Equal here rest is = let same : that ≡ d = cc in subst (λ (x : Data). depth x ≤ n) same here
    by Greater here rest is = rest is

-- the elements of an array
elements_shallow : (key : List ℕ) (members : Members) (n : ℕ) → members_depth members ≤ suc n → items_depth (array_at key members) ≤ n
elements_shallow key members n all = by (get_member key members) refl
  where
    by_data : (d : Data) → depth d ≤ suc n → items_depth (array_or_none (as_array d)) ≤ n
    by_data (string s) own = omega arith
    by_data (integer z) own = omega arith
    by_data (float x) own = omega arith
    by_data (boolean b) own = omega arith
    by_data (datetime dt) own = omega arith
    by_data (table ms) own = omega arith
    by_data (array ds) own = omega arith

    by : (o : Option Data) → get_member key members ≡ o → items_depth (array_or_none (option_and_then as_array o)) ≤ n
    by None is = omega arith
    by (Some d) is = by_data d (member_shallow key members d (suc n) all is)

-- the table of a network
pub network_shallow : (cycle_time : ℕ) (filled : List FilledStream) (domain streams : Members) → members_depth domain ≤ 80 → members_depth streams ≤ 80 →
    members_depth (filled_network cycle_time filled domain streams) ≤ 80
network_shallow cycle_time filled domain streams top all =
    let items : items_depth (streams_of streams) ≤ 79 = elements_shallow (key_text Streams) streams 79 all in
    let each : items_depth (filled_streams filled (streams_of streams)) ≤ 79 = streams_shallow filled (streams_of streams) 79 (omega arith) items in
    let whole : depth (array (filled_streams filled (streams_of streams))) ≤ 80 = omega arith in
    put_shallow (key_text Streams) (array (filled_streams filled (streams_of streams))) (put (key_text Cycle) (integer (pos cycle_time)) domain) 80 whole
    (number_put (key_text Cycle) cycle_time domain 80 top)
