-- What a plan's text has is unchanged if the same is chosen again.
use Rattle.std.proofs.Common.{◌≡◌, ◌∙◌, ℕ, suc, pos, Bool, true, false, List, [], ◌∷◌, Option, Some, None, Ordering, Less, Equal, Greater, ap, arith, is_eq, nat_cmp, refl, sym}
use Rattle.std.specs.Prelude.{◌||◌, if◌then◌else◌, is_some, option_and_then}
use Rattle.std.specs.Ordering.{match_ordering, ordering_reverse}
use Rattle.std.specs.Cmp.Lexicographic.{slice_cmp}
use Rattle.std.proofs.lemmas.Cmp.{alike_right, nat_list_cmp_total, tied_itself}
use Rattle.toml.specs.Data.{Data, Items, no_items, item, Members, no_members, member, array, as_array, boolean, datetime, float, get_member, integer, string, table}
use Rattle.cqf_topology.specs.declared.keys.Key.{Key}
use Rattle.cqf_topology.specs.declared.keys.Key.TheVariants.{Cycle, Every, Octets, Path, Paths, Phase, Streams}
use Rattle.cqf_topology.specs.Fields.{key_text}
use Rattle.cqf_topology.specs.PacedText.{paced_text}
use Rattle.cqf_topology.specs.declared.paced.PacedRequest.{PacedRequest}
use Rattle.cqf_traffic.specs.declared.keys.TrafficKey.TheVariants.{Offset}
use Rattle.cqf_traffic.specs.Keys.{key_text as traffic_key_text}
use Rattle.cqf_network_text.specs.declared.filling.FilledStream.{FilledStream}
use Rattle.cqf_network_text.specs.DomainMembers.{put, texts_data}
use Rattle.cqf_network_text.specs.Networks.{active_cycles_by, array_or_none, filled_item, filled_network, filled_stream, filled_streams, has_branches, streams_of, with_active_cycles, with_octets, with_path}
use Rattle.cqf_network_text.specs.StreamMembers.{branches_data, put_branches}
use Rattle.cqf_network_text.proofs.Puts.{put_apart, put_here}

-- how many members a table has
abbrev size : Members → ℕ
size no_members = 0
size (member key d more) = suc (size more)

never_longer : (key : List ℕ) (d : Data) (members : Members) → member key d members ≡ members → ⊥
never_longer key d _ h = let longer = ap size h in omega (arith, longer)

-- a value that is put where it is changes nothing
abbrev pub IsThere : List ℕ → Data → Members → Type 0
IsThere key d members = put key d members ≡ members

pub put_twice : (key : List ℕ) (d : Data) (members : Members) → IsThere key d (put key d members)
put_twice key d no_members =
    ap (λ o. match_ordering o (member key d (member key d no_members)) (member key d no_members) (member key d (put key d no_members)))
    (tied_itself nat_list_cmp_total key)
put_twice key d (member other that more) = by (slice_cmp nat_cmp key other) refl (put_twice key d more)
  where
    by : (o : Ordering) → slice_cmp nat_cmp key other ≡ o → put key d (put key d more) ≡ put key d more →
        put key d (match_ordering o (member key d (member other that more)) (member other d more) (member other that (put key d more)))
        ≡ match_ordering o (member key d (member other that more)) (member other d more) (member other that (put key d more))
    by Less is rest =
        ap (λ o. match_ordering o (member key d (member key d (member other that more))) (member key d (member other that more))
        (member key d (put key d (member other that more)))) (tied_itself nat_list_cmp_total key)
    by Equal is rest = ap (λ o. match_ordering o (member key d (member other d more)) (member other d more) (member other d (put key d more))) is
    by Greater is rest =
        ap (λ o. match_ordering o (member key d (member other that (put key d more))) (member other d (put key d more)) (member other that (put key d (put key d more)))) is
        ∙ ap (λ ms. member other that ms) rest

-- nor does it after another key has its value
pub there_apart : (key other : List ℕ) (d v : Data) (members : Members) → is_eq (slice_cmp nat_cmp key other) ≡ false → IsThere key d members →
    IsThere key d (put other v members)
there_apart key other d v no_members apart h = absurd (never_longer key d no_members h)
there_apart key other d v (member third that more) apart h =
    by (slice_cmp nat_cmp key third) refl (slice_cmp nat_cmp other third) refl h (λ rest. there_apart key other d v more apart rest)
  where
    -- a key that comes later
    later : slice_cmp nat_cmp key other ≡ Greater → put key d (member other v (member third that more)) ≡ member other v (member third that more)
    later is =
        ap (λ o. match_ordering o (member key d (member other v (member third that more))) (member other d (member third that more))
        (member other v (put key d (member third that more)))) is
        ∙ ap (λ ms. member other v ms) h

    by : (o : Ordering) → slice_cmp nat_cmp key third ≡ o → (p : Ordering) → slice_cmp nat_cmp other third ≡ p →
        match_ordering o (member key d (member third that more)) (member third d more) (member third that (put key d more)) ≡ member third that more →
        (IsThere key d more → IsThere key d (put other v more)) →
        put key d (match_ordering p (member other v (member third that more)) (member third v more) (member third that (put other v more)))
        ≡ match_ordering p (member other v (member third that more)) (member third v more) (member third that (put other v more))
    by Less is p from h next = absurd (never_longer key d (member third that more) h)
    by Equal is Less from h next =
        later (nat_list_cmp_total.congr key third other is ∙ nat_list_cmp_total.antisymm third other ∙ ap ordering_reverse from)
    by Equal is Equal from h next =
        let alike : slice_cmp nat_cmp key other ≡ Equal = alike_right nat_list_cmp_total other third key from ∙ is in
        let both = sym (ap is_eq alike) ∙ apart in
        absurd cc
    by Equal is Greater from h next =
        let same : d ≡ that = cc in
        ap (λ o. match_ordering o (member key d (member third that (put other v more))) (member third d (put other v more))
        (member third that (put key d (put other v more)))) is
        ∙ ap (λ x. member third x (put other v more)) same
    by Greater is Less from h next =
        let below : slice_cmp nat_cmp third key ≡ Less = nat_list_cmp_total.antisymm third key ∙ ap ordering_reverse is in
        later (nat_list_cmp_total.antisymm key other ∙ ap ordering_reverse (nat_list_cmp_total.trans other third key from below))
    by Greater is Equal from h next =
        let rest : put key d more ≡ more = cc in
        ap (λ o. match_ordering o (member key d (member third v more)) (member third d more) (member third v (put key d more))) is
        ∙ ap (λ ms. member third v ms) rest
    by Greater is Greater from h next =
        let rest : put key d more ≡ more = cc in
        ap (λ o. match_ordering o (member key d (member third that (put other v more))) (member third d (put other v more))
        (member third that (put key d (put other v more)))) is
        ∙ ap (λ ms. member third that ms) (next rest)

-- ---- a stream's table

abbrev pub number : ℕ → Data
number n = integer (pos n)

branches_there : (key : Key) (d : Data) (paths : List (List (List ℕ))) (members : Members) → is_eq (slice_cmp nat_cmp (key_text key) (key_text Path)) ≡ false →
    is_eq (slice_cmp nat_cmp (key_text key) (key_text Paths)) ≡ false → IsThere (key_text key) d members → IsThere (key_text key) d (put_branches paths members)
branches_there key d [] members path many h = there_apart (key_text key) (key_text Paths) d (branches_data []) members many h
branches_there key d (one ∷ []) members path many h = there_apart (key_text key) (key_text Path) d (texts_data one) members path h
branches_there key d (one ∷ two ∷ paths) members path many h = there_apart (key_text key) (key_text Paths) d (branches_data (one ∷ two ∷ paths)) members many h

path_there : (one : FilledStream) (d : Data) (members : Members) → IsThere (key_text Octets) d members → IsThere (key_text Octets) d (with_path one members)
path_there one d members h = by (has_branches members)
  where
    by : (b : Bool) → IsThere (key_text Octets) d (if b then members else put_branches (paced_text one.request).paths members)
    by true = h
    by false = branches_there Octets d (paced_text one.request).paths members refl refl h

active_cycles_there : (r : PacedRequest) (offset : Option ℕ) (d : Data) (members : Members) → IsThere (key_text Octets) d members →
    IsThere (key_text Octets) d (active_cycles_by r offset members)
active_cycles_there r None d _ h = h
active_cycles_there r (Some offset) d members h =
    let first = there_apart (key_text Octets) (key_text Every) d (number r.every) members refl h in
    let second = there_apart (key_text Octets) (key_text Phase) d (number r.phase) (put (key_text Every) (number r.every) members) refl first in
    there_apart (key_text Octets) (traffic_key_text Offset) d (number offset) (put (key_text Phase) (number r.phase) (put (key_text Every) (number r.every) members))
    refl second

octets_there : (one : FilledStream) (members : Members) → IsThere (key_text Octets) (number one.request.octets) (filled_stream one members)
octets_there one members =
    active_cycles_there one.request one.offset (number one.request.octets) (with_path one (with_octets one members))
    (path_there one (number one.request.octets) (with_octets one members) (put_twice (key_text Octets) (number one.request.octets) members))

-- it has its paths
or_true : (b : Bool) → (b || true) ≡ true
or_true true = refl
or_true false = refl

put_has_branches : (paths : List (List (List ℕ))) (members : Members) → has_branches (put_branches paths members) ≡ true
put_has_branches [] members =
    ap (λ o. is_some (get_member (key_text Path) (put_branches [] members)) || is_some o) (put_here (key_text Paths) (branches_data []) members)
    ∙ or_true (is_some (get_member (key_text Path) (put_branches [] members)))
put_has_branches (one ∷ []) members =
    ap (λ o. is_some o || is_some (get_member (key_text Paths) (put_branches (one ∷ []) members))) (put_here (key_text Path) (texts_data one) members)
put_has_branches (one ∷ two ∷ paths) members =
    ap (λ o. is_some (get_member (key_text Path) (put_branches (one ∷ two ∷ paths) members)) || is_some o) (put_here (key_text Paths) (branches_data (one ∷ two ∷ paths)) members)
    ∙ or_true (is_some (get_member (key_text Path) (put_branches (one ∷ two ∷ paths) members)))

path_has_branches : (one : FilledStream) (members : Members) → has_branches (with_path one members) ≡ true
path_has_branches one members = by (has_branches members) refl
  where
    by : (b : Bool) → has_branches members ≡ b → has_branches (if b then members else put_branches (paced_text one.request).paths members) ≡ true
    by true is = is
    by false is = put_has_branches (paced_text one.request).paths members

active_cycles_keep : (key : Key) (r : PacedRequest) (offset : Option ℕ) (members : Members) → is_eq (slice_cmp nat_cmp (key_text key) (key_text Every)) ≡ false →
    is_eq (slice_cmp nat_cmp (key_text key) (key_text Phase)) ≡ false → is_eq (slice_cmp nat_cmp (key_text key) (traffic_key_text Offset)) ≡ false →
    get_member (key_text key) (active_cycles_by r offset members) ≡ get_member (key_text key) members
active_cycles_keep key r None _ every phase begins = refl
active_cycles_keep key r (Some offset) members every phase begins =
    put_apart (key_text key) (traffic_key_text Offset) (number offset)
    (put (key_text Phase) (number r.phase) (put (key_text Every) (number r.every) members)) begins
    ∙ put_apart (key_text key) (key_text Phase) (number r.phase) (put (key_text Every) (number r.every) members) phase
    ∙ put_apart (key_text key) (key_text Every) (number r.every) members every

stream_has_branches : (one : FilledStream) (members : Members) → has_branches (filled_stream one members) ≡ true
stream_has_branches one members =
    let there = with_path one (with_octets one members) in
    let path = active_cycles_keep Path one.request one.offset there refl refl refl in
    let many = active_cycles_keep Paths one.request one.offset there refl refl refl in
    (λ i. is_some (path i) || is_some (many i)) ∙ path_has_branches one (with_octets one members)

-- so the same octets, and no cycles, change nothing
pub record IsAgain (again one : FilledStream) : Type 0 where
  pub octets : again.request.octets ≡ one.request.octets
  pub offset : again.offset ≡ None

stream_again : (again one : FilledStream) (members : Members) → IsAgain again one → filled_stream again (filled_stream one members) ≡ filled_stream one members
stream_again again one members is =
    let there = filled_stream one members in
    let octets : with_octets again there ≡ there =
    ap (λ (n : ℕ). put (key_text Octets) (number n) there) is.octets ∙ octets_there one members in
    let path : with_path again there ≡ there =
    ap (λ (b : Bool). if b then there else put_branches (paced_text again.request).paths there) (stream_has_branches one members) in
    ap (λ ms. with_active_cycles again (with_path again ms)) octets ∙ ap (with_active_cycles again) path ∙ ap (λ (o : Option ℕ). active_cycles_by again.request o there) is.offset

item_again : (again one : FilledStream) (d : Data) → IsAgain again one → filled_item again (filled_item one d) ≡ filled_item one d
item_again again one (string s) is = refl
item_again again one (integer z) is = refl
item_again again one (float x) is = refl
item_again again one (boolean b) is = refl
item_again again one (datetime dt) is = refl
item_again again one (array ds) is = refl
item_again again one (table ms) is = ap table (stream_again again one ms is)

abbrev pub AreAgain : List FilledStream → List FilledStream → Type 0
AreAgain [] [] = Unit {0}
AreAgain [] (one ∷ ones) = ⊥
AreAgain (again ∷ more) [] = ⊥
AreAgain (again ∷ more) (one ∷ ones) = IsAgain again one × AreAgain more ones

items_again : (again ones : List FilledStream) (items : Items) → AreAgain again ones → filled_streams again (filled_streams ones items) ≡ filled_streams ones items
items_again [] [] items are = refl
items_again [] (one ∷ ones) items are = absurd are
items_again (first ∷ more) [] items are = absurd are
items_again (first ∷ more) (one ∷ ones) no_items are = refl
items_again (first ∷ more) (one ∷ ones) (item d ds) are =
    let here = item_again first one d are.0 in
    let rest = items_again more ones ds are.1 in
    (λ i. item (here i) (rest i))

pub network_unchanged : (cycle_time : ℕ) (again ones : List FilledStream) (domain streams : Members) → AreAgain again ones →
    filled_network cycle_time again (filled_network cycle_time ones domain streams) (filled_network cycle_time ones domain streams)
    ≡ filled_network cycle_time ones domain streams
network_unchanged cycle_time again ones domain streams are =
    let all : Data = array (filled_streams ones (streams_of streams)) in
    let timed : Members = put (key_text Cycle) (number cycle_time) domain in
    let whole : Members = put (key_text Streams) all timed in
    let there : streams_of whole ≡ filled_streams ones (streams_of streams) =
    ap (λ o. array_or_none (option_and_then as_array o)) (put_here (key_text Streams) all timed) in
    let cycle : put (key_text Cycle) (number cycle_time) whole ≡ whole =
    there_apart (key_text Cycle) (key_text Streams) (number cycle_time) all timed refl (put_twice (key_text Cycle) (number cycle_time) domain) in
    let items : filled_streams again (streams_of whole) ≡ filled_streams ones (streams_of streams) =
    ap (filled_streams again) there ∙ items_again again ones (streams_of streams) are in
    (λ i. put (key_text Streams) (array (items i)) (cycle i)) ∙ put_twice (key_text Streams) all timed
