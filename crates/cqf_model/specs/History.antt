-- The history of admission control: calls with their answers, the streams that were accepted, and the table of each cycle. All definitions
-- are of the whole list of entries, without a running state.
use Rattle.std.specs.Prelude.{ℕ, ◌≡◌, ◌+◌, ◌-◌, ◌≤◌, List, [], ◌∷◌, Bool, true, false, not, ◌==◌, ◌&&◌, ◌||◌, ◌%◌, if◌then◌else◌, fold, max, nat_le, nat_lt, filter, find}
use Rattle.std.specs.Prelude.{length, take, Option, Some, None, is_none, option_map, slice_get, slice_index_or, count_by, position, suc, zero}
use Rattle.std.specs.Option.{option_map_or}
use Rattle.std.specs.List.{flat_map, list_any}
use Rattle.cqf_lists.specs.Lists.{each_below, each_once, least, or_else}
use Rattle.cqf_units.specs.Name.{is_name}
use Rattle.cqf_units.specs.Timing.{cost_of}
use Rattle.cqf_units.specs.declared.reservations.Cycle.{Cycle}
use Rattle.cqf_model.specs.declared.history.Refused.{Refused}
use Rattle.cqf_model.specs.declared.history.Refused.TheVariants.{BadName, BadOctets, BadPace, UnknownNode, BrokenPath, LoopingPath, NotATree, NameHeld, TooManyStreams}
use Rattle.cqf_model.specs.declared.history.Refused.TheVariants.{TooManyHops, BudgetShort, NotHeld, AlreadyWithdrawn}
use Rattle.cqf_model.specs.declared.history.Reply.{Reply}
use Rattle.cqf_model.specs.declared.history.Reply.TheVariants.{Accepted, Sealed, Refused as RefusedFor}
use Rattle.cqf_model.specs.declared.topology.Hop.{Hop}
use Rattle.cqf_model.specs.declared.topology.Node.{Node}
use Rattle.cqf_model.specs.declared.topology.Node.TheVariants.{Bridge, Station}
use Rattle.cqf_model.specs.declared.topology.Pace.{Pace}
use Rattle.cqf_model.specs.declared.topology.Row.{Row}
use Rattle.cqf_model.specs.Domain.{Domain, budget, is_text, node_named, link_between, same_node}
use Rattle.cqf_model.specs.Table.{is_held, link_cost, links_in, row_named, uses}
use Rattle.cqf_model.specs.Limits.{least_reserved, most_calls, most_cycles, most_every, most_reserved}
use Rattle.cqf_model.specs.Limits.{hops_within, nodes_within, streams_within}

-- a branch of a stream's tree, by names: its bridges in order, and then the listener's station
abbrev pub Branch : Type 0
Branch = List (List ℕ)

-- a requested stream: its name; its octets in each of its own cycles; its period `every`: its frames are offered in one cycle of
-- `every`, the first of them being `phase`; and the branches of its tree
pub record Asked : Type 0 where
  pub name : List ℕ
  pub octets : ℕ
  pub every : ℕ
  pub phase : ℕ
  pub paths : List Branch

-- what a call is for: to admit a stream, to withdraw the stream with a name, or to close the next cycle to changes
pub data Act : Type 0 where
  Admits : Asked → Act
  Withdraws : List ℕ → Act
  Seals : Act

-- an entry: the seat that called, what the call was for, and the answer
pub record Recorded : Type 0 where
  pub seat : ℕ
  pub act : Act
  pub reply : Reply

-- whether a call closes a cycle to changes
abbrev pub is_seal : Act → Bool
is_seal (Admits asked) = false
is_seal (Withdraws name) = false
is_seal Seals = true

-- the number of Seals among the entries: the effect cycle of a call after them
abbrev pub seals : List Recorded → ℕ
seals entries = count_by (λ (e : Recorded). is_seal e.act) entries

-- the node at an index of a branch
abbrev pub node_at : Domain → Branch → ℕ → Option Node
node_at d branch index = option_map_or (λ name. node_named d name) (slice_get branch index) None

-- the link between two nodes, if both exist and the first is a bridge
abbrev pub link_from : Domain → Option Node → Option Node → Option ℕ
link_from d None to = None
link_from d (Some from) None = None
link_from d (Some (Station s)) (Some to) = None
link_from d (Some (Bridge b)) (Some to) = link_between d b to

-- the link from the node at an index to the next one
abbrev pub link_at : Domain → Branch → ℕ → Option ℕ
link_at d branch index = link_from d (node_at d branch index) (node_at d branch (index + 1))

-- the link to the node at an index
abbrev pub link_before : Domain → Branch → ℕ → Option ℕ
link_before d branch zero = None
link_before d branch (suc index) = link_at d branch index

-- the hop by a link, if there is one
abbrev pub hop_to : ℕ → Option ℕ → Option ℕ → List Hop
hop_to hop_number from None = []
hop_to hop_number from (Some l) = record { link = l; hop_number = hop_number; from = from } ∷ []

-- the hops of a branch: its k-th link has hop number k
abbrev pub hops_along : Domain → Branch → List Hop
hops_along d branch =
    each_below (λ index. hop_to (index + 1) (link_before d branch index) (link_at d branch index)) (length branch - 1)

-- the tree of the branches: their hops in order, each link once, at its first occurrence
abbrev pub tree_of : Domain → List Branch → List Hop
tree_of d paths = each_once (λ (a b : Hop). a.link == b.link) (flat_map (hops_along d) paths)

-- what each entry gives, from its index and itself, in order
abbrev pub each_entry : {X : Type 0} → (ℕ → Recorded → List X) → List Recorded → List X
each_entry gives entries = each_below (λ index. option_map_or (λ (e : Recorded). gives index e) (slice_get entries index) []) (length entries)

-- the effect of an entry that withdraws the stream with this number; `effect` is the number of Seals before the entry
abbrev pub withdrawal_by : ℕ → ℕ → Act → Reply → List Cycle
withdrawal_by effect number (Admits asked) reply = []
withdrawal_by effect number Seals reply = []
withdrawal_by effect number (Withdraws name) (Accepted receipt) = if receipt.no == number then record { 0 = effect } ∷ [] else []
withdrawal_by effect number (Withdraws name) (RefusedFor refused) = []
withdrawal_by effect number (Withdraws name) Sealed = []

-- the effects of the accepted withdrawals of a stream's number, in order
abbrev pub withdrawals : List Recorded → ℕ → List Cycle
withdrawals entries number = each_entry (λ index e. withdrawal_by (seals (take index entries)) number e.act e.reply) entries

-- the pace of a requested stream
abbrev pub pace_of : Asked → Pace
pace_of asked = record { pause = asked.every - 1; phase = asked.phase }

-- the stream of an entry that admits one; `effect` is the number of Seals before the entry. It is withdrawn from the effect of the first
-- accepted withdrawal of its number on
abbrev pub stream_by : Domain → List Recorded → ℕ → Act → Reply → List Row
stream_by d entries effect (Withdraws name) reply = []
stream_by d entries effect Seals reply = []
stream_by d entries effect (Admits asked) (RefusedFor refused) = []
stream_by d entries effect (Admits asked) Sealed = []
stream_by d entries effect (Admits asked) (Accepted receipt) = record {
  no = receipt.no;
  name = asked.name;
  octets = asked.octets;
  overhead = d.overhead;
  pace = pace_of asked;
  tree = record { items = tree_of d asked.paths };
  admitted = record { 0 = effect };
  withdrawn = slice_get (withdrawals entries receipt.no) 0;
} ∷ []

-- the accepted streams, by number
abbrev pub streams_of : Domain → List Recorded → List Row
streams_of d entries = each_entry (λ index e. stream_by d entries (seals (take index entries)) e.act e.reply) entries

-- the streams that are held in a cycle
abbrev pub held_in : Domain → List Recorded → ℕ → List Row
held_in d entries cycle = filter (λ (row : Row). is_held row cycle) (streams_of d entries)

-- whether there is a node and it is a bridge
abbrev pub is_bridge : Option Node → Bool
is_bridge None = false
is_bridge (Some (Bridge b)) = true
is_bridge (Some (Station s)) = false

-- whether a branch doesn't begin at a bridge (tested at index 0)
abbrev pub begins_elsewhere : Domain → Branch → ℕ → Bool
begins_elsewhere d branch index = (index == 0) && not (is_bridge (node_at d branch 0))

-- whether no link leads to the node at an index from the one before
abbrev pub lacks_link : Domain → Branch → ℕ → Bool
lacks_link d branch index = nat_le 1 index && nat_lt index (length branch) && is_none (link_at d branch (index - 1))

-- whether the index is that of the branch's last node, and this node is a bridge
abbrev pub ends_at_bridge : Domain → Branch → ℕ → Bool
ends_at_bridge d branch index = (index + 1 == length branch) && is_bridge (node_at d branch index)

-- whether the index is that of the first node beyond the largest number of nodes of a branch
abbrev pub is_beyond_most : Domain → Branch → ℕ → Bool
is_beyond_most d branch index = (index == nodes_within d.limits) && nat_lt index (length branch)

-- whether a branch is broken at an index: it is empty or doesn't begin at a bridge; or no link goes from the node before to this one; or
-- its last node is a bridge; or as many nodes precede the index as a branch may have
abbrev pub is_broken_at : Domain → Branch → ℕ → Bool
is_broken_at d branch index =
    begins_elsewhere d branch index || lacks_link d branch index || ends_at_bridge d branch index || is_beyond_most d branch index

-- whether both nodes exist and are the same
abbrev pub is_same : Option Node → Option Node → Bool
is_same None b = false
is_same (Some a) None = false
is_same (Some a) (Some b) = same_node a b

-- whether the node at an index occurred earlier in the branch
abbrev pub is_loop_at : Domain → Branch → ℕ → Bool
is_loop_at d branch index = list_any (λ name. is_same (node_named d name) (node_at d branch index)) (take index branch)

-- the first position at which a branch fails a test; positions count through the branches as one list. Each branch is tested up to
-- the index after its last node, so an empty branch is tested at index 0
abbrev pub first_index : (Branch → ℕ → Bool) → List Branch → Option ℕ
first_index fails [] = None
first_index fails (branch ∷ paths) =
    or_else (least (fails branch) (length branch + 1)) (option_map (λ index. length branch + index) (first_index fails paths))

-- the first position at which a branch is broken; 0 if there is no branch
abbrev pub broken_index : Domain → List Branch → Option ℕ
broken_index d [] = Some 0
broken_index d (branch ∷ paths) = first_index (is_broken_at d) (branch ∷ paths)

-- whether two parts of branches have no node in common
abbrev pub are_apart : Branch → Branch → Bool
are_apart xs ys = not (list_any (λ x. list_any (λ y. is_text x y) ys) xs)

-- whether two branches part for good: both continue after the beginning that they have in common, and the two remainders have no node in
-- common
abbrev pub part : Branch → Branch → Bool
part [] ys = false
part (x ∷ xs) [] = false
part (x ∷ xs) (y ∷ ys) = if is_text x y then part xs ys else are_apart (x ∷ xs) (y ∷ ys)

-- whether two branches form one tree: they begin at the same bridge and part for good. For branches that are paths without loops and end in
-- stations this means that the two differ, and that each node in both has the same nodes before it in both
abbrev pub make_a_tree : Branch → Branch → Bool
make_a_tree [] ys = false
make_a_tree (x ∷ xs) [] = false
make_a_tree (x ∷ xs) (y ∷ ys) = is_text x y && part xs ys

-- whether a branch doesn't form a tree with one before it
abbrev pub is_stray : List Branch → ℕ → Bool
is_stray paths index =
    option_map_or (λ branch. list_any (λ before. not (make_a_tree before branch)) (take index paths)) (slice_get paths index) false

-- whether a stream may be offered in one of every `every` cycles: `every` divides 80, and the phase is less than `every`
abbrev pub is_pace : ℕ → ℕ → Bool
is_pace every phase = (most_every % every == 0) && nat_lt phase every

-- the most that these streams cost on link `l` in any one cycle in which another stream, with this tree and pace, uses the link
abbrev pub most_beside : List Row → List Hop → Pace → ℕ → ℕ
most_beside rows tree pace l =
    fold max 0 (each_below (λ cycle. if uses tree pace l cycle then link_cost rows l cycle ∷ [] else []) most_every)

-- what a link has left of its budget for that other stream, in octets, beside these streams: the least over the cycles in which it uses the link
abbrev pub left_on : Domain → List Row → List Hop → Pace → ℕ → ℕ
left_on d rows tree pace l = budget d l - most_beside rows tree pace l

-- the first link of a tree, in its order, that has less left than the stream costs
abbrev pub short_link : Domain → List Row → ℕ → Pace → List Hop → Option ℕ
short_link d rows cost pace tree = find (λ l. nat_lt (left_on d rows tree pace l) cost) (links_in tree)

-- the refusal, if its cause holds
abbrev pub refused_if : Bool → Refused → Option Refused
refused_if true refused = Some refused
refused_if false refused = None

-- the refusal for a number, if there is one
abbrev pub refused_at : (ℕ → Refused) → Option ℕ → Option Refused
refused_at refused None = None
refused_at refused (Some index) = Some (refused index)

-- why a request is refused, beside the streams that are held in its effect cycle: the first reason in this order
abbrev pub refusal_of : Domain → List Row → Asked → Option Refused
refusal_of d rows asked =
    or_else (refused_if (not (is_name asked.name)) BadName)
    (or_else (refused_if (not (nat_le least_reserved asked.octets && nat_le asked.octets most_reserved)) BadOctets)
    (or_else (refused_if (not (is_pace asked.every asked.phase)) BadPace)
    (or_else (refused_at (λ index. UnknownNode index)
    (position (λ name. is_none (node_named d name)) (flat_map (λ branch. branch) asked.paths)))
    (or_else (refused_at (λ index. BrokenPath index) (broken_index d asked.paths))
    (or_else (refused_at (λ index. LoopingPath index) (first_index (is_loop_at d) asked.paths))
    (or_else (refused_at (λ branch. NotATree branch) (least (is_stray asked.paths) (length asked.paths)))
    (or_else (refused_if (nat_lt (hops_within d.limits) (length (tree_of d asked.paths))) TooManyHops)
    (or_else (refused_if (list_any (λ (row : Row). is_text row.name asked.name) rows) NameHeld)
    (or_else (refused_if (nat_le (streams_within d.limits) (length rows)) TooManyStreams)
    (refused_at (λ l. BudgetShort l (left_on d rows (tree_of d asked.paths) (pace_of asked) l))
    (short_link d rows (cost_of d.overhead asked.octets) (pace_of asked) (tree_of d asked.paths))))))))))))

-- the number of the next stream
abbrev pub next_number : Domain → List Recorded → ℕ
next_number d entries = length (streams_of d entries)

-- the answer to a request: its stream's number and effect cycle, or why it is refused
abbrev pub admit_reply : ℕ → ℕ → Option Refused → Reply
admit_reply number effect None = Accepted (record { no = number; effect = record { 0 = effect } })
admit_reply number effect (Some refused) = RefusedFor refused

-- the answer to a withdrawal of a held stream: it is refused if the stream has been withdrawn before
abbrev pub withdraw_row : ℕ → ℕ → Option Cycle → Reply
withdraw_row effect number None = Accepted (record { no = number; effect = record { 0 = effect } })
withdraw_row effect number (Some before) = RefusedFor AlreadyWithdrawn

-- the answer to a withdrawal, by the held stream with the name
abbrev pub withdraw_reply : ℕ → Option Row → Reply
withdraw_reply effect None = RefusedFor NotHeld
withdraw_reply effect (Some row) = withdraw_row effect row.no row.withdrawn

-- the answer that is due to a call after these entries
abbrev pub reply_to : Domain → List Recorded → Act → Reply
reply_to d entries (Admits asked) = admit_reply (next_number d entries) (seals entries) (refusal_of d (held_in d entries (seals entries)) asked)
reply_to d entries (Withdraws name) = withdraw_reply (seals entries) (row_named (held_in d entries (seals entries)) name)
reply_to d entries Seals = Sealed

-- a legal history: each answer is the one that is due after the entries before it, and there are not too many entries
pub record IsLegalHistory (d : Domain) (entries : List Recorded) : Type 0 where
  pub replies : (index : ℕ) (e : Recorded) → slice_get entries index ≡ Some e → e.reply ≡ reply_to d (take index entries) e.act
  pub few_seals : seals entries ≤ most_cycles
  pub few_calls : length entries - seals entries ≤ most_calls

-- the indices of the Seals
abbrev pub seal_indices : List Recorded → List ℕ
seal_indices entries = each_entry (λ index e. if is_seal e.act then index ∷ [] else []) entries

-- the table of a cycle: the streams that are held in it according to the entries before the Seal that closes it, by number. For the cycle
-- that the next Seal would close, all entries count; for later cycles the value has no meaning
abbrev pub table_at : Domain → List Recorded → ℕ → List Row
table_at d entries cycle = held_in d (take (slice_index_or (seal_indices entries) cycle (length entries)) entries) cycle

-- the tables of the first cycles
abbrev pub tables_of : Domain → List Recorded → ℕ → List (List Row)
tables_of d entries cycles = each_below (λ cycle. table_at d entries cycle ∷ []) cycles
