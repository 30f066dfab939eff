-- Pipes are laid between workers, link by link.
use Rattle.std.proofs.Common.{ℕ, suc, ◌≡◌, ◌≢◌, ◌<◌, ◌++◌, ◌∷◌, [], List, Contains, Some, None, length}
use Rattle.std.proofs.Common.{length-append, map, get_or, set, filter, sym, ap, subst, ◌∙◌, arith, refl, inl, inr}
use Rattle.std.proofs.Common.{append-nil, add-one, eq-eqb, ne_eqb}
use Rattle.std.specs.Prelude.{Bool, ◌==◌, All, Option, false, if◌then◌else◌, slice_get, true}
use Rattle.std.specs.Option.{option_map_or}
use Rattle.std.proofs.lemmas.Bool.{cases_eq, cases_lt, cond-false, cond-true}
use Rattle.std.proofs.lemmas.List.{get_or-set_other, get_or-set_same, get_or_append_left, length-map, length-set, map-append}
use Rattle.std.proofs.lemmas.List.Elements.{All-push, Contains-push_cases, filter-append}
use Rattle.std.proofs.Math.ListN.{get_or-map}
use Rattle.std.proofs.Math.Seq.{map-set_same}
use Rattle.std.proofs.lemmas.Option.{get_or_from_slice_get, slice_get-get_or, slice_get_within}
use Rattle.cqf_lists.specs.Lists.{each_below}
use Rattle.cqf_lists.proofs.EachBelow.{contains_from_below}
use Rattle.cqf_lists.proofs.Made.{contains_if_there}
use Rattle.cqf_lists.proofs.Members.{all_from_members, contains_from_filter, contains_map, contains_one}
use Rattle.cqf_admission.specs.Tables.{CycleTable}
use Rattle.cqf_relay.specs.declared.moving.Segment.{Segment}
use Rattle.cqf_relay.specs.Standing.{is_bridge, is_onward}
use Rattle.cqf_model.specs.declared.topology.Link.{Link}
use Rattle.cqf_model.specs.declared.topology.Node.TheVariants.{Bridge, Station}
use Rattle.cqf_model.specs.Domain.{Domain, enters, leaves, node_is}
use Rattle.cqf_model.specs.Run.{AreOffers}
use Rattle.cqf_worker_loops.specs.declared.carried.Carried.{Carried}
use Rattle.cqf_worker_loops.specs.declared.worker.Worker.{Worker}
use Rattle.cqf_worker.specs.Laying.{AreBare, AreLaidWires, ArePorts, HasCycles, HasIn, HasOut, IsBare, IsLaid, LaysFirst}
use Rattle.cqf_worker.specs.Laying.{LaysLink, LaysPipe, cycles_at, first_into, first_onward}
use Rattle.cqf_worker_loops.specs.PipeEnds.{End, PipeId}
use Rattle.cqf_worker.specs.Wires.{AreOn, AreWired, AreWorkersOf, IsOn, Wiring, pipe_of_tables, tables_pipe}
use Rattle.cqf_worker_loops.specs.Workers.{IsUnused, IsWorkerOf, MayWork, Offering, SegmentPort, link_of}

-- a fact about each element and its index
abbrev pub EachAt : {X : Type 0} → (ℕ → X → Type 0) → List X → Type 0
EachAt {X} P xs = (n : ℕ) (d : X) → n < length xs → P n (get_or xs n d)

-- it holds with one element more
pub each_push : {X : Type 0} (P : ℕ → X → Type 0) (xs : List X) (y : X) (index : ℕ) → length xs ≡ index → EachAt P xs → P index y → EachAt P (xs ++ y ∷ [])
each_push P xs y index at so mine n d below = elim (cases_lt n (length xs)) [
  | inl h ↦ subst (P n) (sym (get_or_append_left xs (y ∷ []) d n h)) (so n d h)
  | inr h ↦
      let last : n ≡ length xs = omega (arith, below, h, length-append xs (y ∷ [])) in
      subst (P n) (sym (ap (λ k. get_or (xs ++ y ∷ []) k d) last ∙ get_or_after xs y d)) (subst (λ k. P k y) (sym (last ∙ at)) mine)
]
  where
    -- the last element
    get_or_after : {X : Type 0} (xs : List X) (y d : X) → get_or (xs ++ y ∷ []) (length xs) d ≡ y
    get_or_after [] y d = refl
    get_or_after (x ∷ xs) y d = get_or_after xs y d

-- it becomes another fact once one element is changed
pub each_set : {X : Type 0} (P Q : ℕ → X → Type 0) (xs : List X) (index : ℕ) (y : X) → ((n : ℕ) (x : X) → n ≢ index → P n x → Q n x) → Q index y →
    EachAt P xs → EachAt Q (set xs index y)
each_set {X} P Q xs index y others mine so n d below =
    let inside : n < length xs = omega (arith, below, length-set xs index y) in
    elim (cases_eq n index) [
      | inl e ↦
          subst (λ k. Q k (get_or (set xs index y) k d)) (sym e)
          (subst (Q index) (sym (get_or-set_same xs index y d (subst (λ k. k < length xs) e inside))) mine)
      | inr differ ↦ subst (Q n) (sym (get_or-set_other xs index n y d differ)) (others n (get_or xs n d) differ (so n d inside))
    ]

-- the listed links are below the bound
into_below : (d : Domain) (bridge count l : ℕ) → Contains (first_into d bridge count) l → l < count
into_below d bridge count l c =
    let w = contains_from_below (λ k. if enters d k bridge then k ∷ [] else []) count l c in
    subst (λ k. k < count) (contains_one w.0 l (contains_if_there (enters d w.0 bridge) (w.0 ∷ []) l w.2).1) w.1

-- the links onward to a bridge are below the count
onward_below : (d : Domain) (bridge count l : ℕ) → Contains (first_onward d bridge count) l → l < count
onward_below d bridge count l c =
    let below = contains_from_filter (is_onward d) (each_below (λ k. if leaves d k bridge then k ∷ [] else []) count) l c in
    let w = contains_from_below (λ k. if leaves d k bridge then k ∷ [] else []) count l below.0 in
    subst (λ k. k < count) (contains_one w.0 l (contains_if_there (leaves d w.0 bridge) (w.0 ∷ []) l w.2).1) w.1

-- one more link is listed, or isn't
into_more : (d : Domain) (bridge link : ℕ) → enters d link bridge ≡ true → first_into d bridge (suc link) ≡ first_into d bridge link ++ link ∷ []
into_more d bridge link ends = ap (λ ls. first_into d bridge link ++ ls) (cond-true (enters d link bridge) (link ∷ []) [] ends)

-- a link that ends elsewhere adds none to those into a bridge
into_same : (d : Domain) (bridge link : ℕ) → enters d link bridge ≡ false → first_into d bridge (suc link) ≡ first_into d bridge link
into_same d bridge link none =
    ap (λ ls. first_into d bridge link ++ ls) (cond-false (enters d link bridge) (link ∷ []) [] none) ∙ append-nil (first_into d bridge link)

-- a link from this bridge to another is one more onward
onward_more : (d : Domain) (bridge link : ℕ) → leaves d link bridge ≡ true → is_onward d link ≡ true →
    first_onward d bridge (suc link) ≡ first_onward d bridge link ++ link ∷ []
onward_more d bridge link begins ends =
    let p = is_onward d in
    let xs = each_below (λ l. if leaves d l bridge then l ∷ [] else []) link in
    ap (λ ls. filter p (xs ++ ls)) (cond-true (leaves d link bridge) (link ∷ []) [] begins)
    ∙ filter-append p xs (link ∷ [])
    ∙ ap (λ ls. filter p xs ++ ls) (cond-true (p link) (link ∷ []) [] ends)

-- a link of another bridge adds none
onward_same : (d : Domain) (bridge link : ℕ) → leaves d link bridge ≡ false → first_onward d bridge (suc link) ≡ first_onward d bridge link
onward_same d bridge link none =
    let p = is_onward d in
    let xs = each_below (λ l. if leaves d l bridge then l ∷ [] else []) link in
    ap (λ ls. filter p (xs ++ ls)) (cond-false (leaves d link bridge) (link ∷ []) [] none) ∙ ap (filter p) (append-nil xs)

-- a link to a station adds none
onward_ended : (d : Domain) (bridge link : ℕ) → is_onward d link ≡ false → first_onward d bridge (suc link) ≡ first_onward d bridge link
onward_ended d bridge link none =
    let p = is_onward d in
    let xs = each_below (λ l. if leaves d l bridge then l ∷ [] else []) link in
    filter-append p xs (if leaves d link bridge then link ∷ [] else [])
    ∙ ap (λ ls. filter p xs ++ ls) (dropped (leaves d link bridge))
    ∙ append-nil (filter p xs)
  where
    -- it is filtered out if it is listed
    dropped : (b : Bool) → filter (is_onward d) (if b then link ∷ [] else []) ≡ []
    dropped true = cond-false (is_onward d link) (link ∷ []) [] none
    dropped false = refl

-- one more pipe is on a link
abbrev pub with_pipe : Wiring → ℕ → PipeId (Carried Segment) → Wiring
with_pipe wiring link id l = if l == link then Some id else wiring l

-- no port
no_ports : (wiring : Wiring) (ports : List SegmentPort) → ports ≡ [] → ArePorts wiring [] ports
no_ports wiring ports none = record {
  of_links = ap (map link_of) none;
  unused = λ p c. absurd (omega (arith, (subst (λ (ps : List SegmentPort). Contains ps p) none c).1));
  wired = λ p c. absurd (omega (arith, (subst (λ (ps : List SegmentPort). Contains ps p) none c).1));
}

-- ports of other links are unchanged
ports_rewired : (wiring more : Wiring) (links : List ℕ) (ports : List SegmentPort) → ((l : ℕ) → Contains links l → more l ≡ wiring l) →
    ArePorts wiring links ports → ArePorts more links ports
ports_rewired wiring more links ports same so = record {
  of_links = so.of_links;
  unused = so.unused;
  wired = λ p c. same p.link (subst (λ ls. Contains ls p.link) so.of_links (contains_map link_of ports p c)) ∙ so.wired p c;
}

-- one port more
ports_more : (wiring : Wiring) (links : List ℕ) (ports after : List SegmentPort) (p : SegmentPort) → ArePorts wiring links ports → after ≡ ports ++ p ∷ [] →
    IsUnused p → IsOn wiring p → ArePorts wiring (links ++ p.link ∷ []) after
ports_more wiring links ports after p so more mine on = record {
  of_links = ap (map link_of) more ∙ map-append link_of ports (p ∷ []) ∙ ap (λ ls. ls ++ p.link ∷ []) so.of_links;
  unused = λ q c. elim (Contains-push_cases ports p q (subst (λ (ps : List SegmentPort). Contains ps q) more c)) [
    | inl h ↦ so.unused q h
    | inr e ↦ subst IsUnused e mine
  ];
  wired = λ q c. elim (Contains-push_cases ports p q (subst (λ (ps : List SegmentPort). Contains ps q) more c)) [
    | inl h ↦ so.wired q h
    | inr e ↦ subst (IsOn wiring) e on
  ];
}

-- workers are unchanged, for any pipe on the next link
rewired : (t : Offering) (wiring : Wiring) (id : PipeId (Carried Segment)) (link number : ℕ) (w : Worker) → IsLaid t wiring link link number w →
    IsLaid t (with_pipe wiring link id) link link number w
rewired t wiring id link number w so = record {
  ready = so.ready;
  ins = ports_rewired wiring (with_pipe wiring link id) (first_into t.domain number link) w.ins.items
      (λ l c. other l (into_below t.domain number link l c)) so.ins;
  outs = ports_rewired wiring (with_pipe wiring link id) (first_onward t.domain number link) w.outs.items
      (λ l c. other l (onward_below t.domain number link l c)) so.outs;
}
  where
    -- another link keeps its pipe
    other : (l : ℕ) → l < link → with_pipe wiring link id l ≡ wiring l
    other l below = cond-false (l == link) (Some id) (wiring l) (ne_eqb l link (λ e. omega (arith, e, below)))

-- a worker whose bridge the link doesn't leave; and the worker whose bridge it leaves, once it has the port
out_other : (t : Offering) (wiring : Wiring) (link number : ℕ) (w : Worker) → leaves t.domain link number ≡ false → IsLaid t wiring link link number w →
    IsLaid t wiring link (suc link) number w
out_other t wiring link number w none so = record {
  ready = so.ready;
  ins = so.ins;
  outs = subst (λ ls. ArePorts wiring ls w.outs.items) (sym (onward_same t.domain number link none)) so.outs;
}

-- a link whose putting end the worker got
out_own : (t : Offering) (wiring : Wiring) (link number : ℕ) (before after : Worker) (p : SegmentPort) → HasOut before after p → p.link ≡ link → IsUnused p →
    IsOn wiring p → leaves t.domain link number ≡ true → is_onward t.domain link ≡ true → IsLaid t wiring link link number before →
    IsLaid t wiring link (suc link) number after
out_own t wiring link number before after p has of_link mine on begins ends so =
    let more : ArePorts wiring (first_onward t.domain number (suc link)) after.outs.items =
    subst (λ ls. ArePorts wiring ls after.outs.items)
    (ap (λ l. first_onward t.domain number link ++ l ∷ []) of_link ∙ sym (onward_more t.domain number link begins ends))
    (ports_more wiring (first_onward t.domain number link) before.outs.items after.outs.items p so.outs has.more mine on) in
    subst (λ (w : Worker). IsLaid t wiring link (suc link) number w) (sym has.same)
    (record {
      ready = record {
        stands = so.ready.stands;
        tidy = so.ready.tidy;
        number_is = so.ready.number_is;
        no_drops = so.ready.no_drops;
        is_agenda = so.ready.is_agenda;
        no_tables = so.ready.no_tables;
      };
      ins = so.ins;
      outs = more;
    })

-- a worker in whose bridge the link doesn't end; and the worker in whose bridge it ends, once it has the port
in_other : (t : Offering) (wiring : Wiring) (link number : ℕ) (w : Worker) → enters t.domain link number ≡ false → IsLaid t wiring link (suc link) number w →
    IsLaid t wiring (suc link) (suc link) number w
in_other t wiring link number w none so = record {
  ready = so.ready;
  ins = subst (λ ls. ArePorts wiring ls w.ins.items) (sym (into_same t.domain number link none)) so.ins;
  outs = so.outs;
}

-- a link whose taking end the worker got
in_own : (t : Offering) (wiring : Wiring) (link number : ℕ) (before after : Worker) (p : SegmentPort) → HasIn before after p → p.link ≡ link → IsUnused p →
    IsOn wiring p → enters t.domain link number ≡ true → IsLaid t wiring link (suc link) number before → IsLaid t wiring (suc link) (suc link) number after
in_own t wiring link number before after p has of_link mine on ends so =
    let more : ArePorts wiring (first_into t.domain number (suc link)) after.ins.items =
    subst (λ ls. ArePorts wiring ls after.ins.items)
    (ap (λ l. first_into t.domain number link ++ l ∷ []) of_link ∙ sym (into_more t.domain number link ends))
    (ports_more wiring (first_into t.domain number link) before.ins.items after.ins.items p so.ins has.more mine on) in
    subst (λ (w : Worker). IsLaid t wiring (suc link) (suc link) number w) (sym has.same)
    (record {
      ready = record {
        stands = so.ready.stands;
        tidy = so.ready.tidy;
        number_is = so.ready.number_is;
        no_drops = so.ready.no_drops;
        is_agenda = so.ready.is_agenda;
        no_tables = so.ready.no_tables;
      };
      ins = more;
      outs = so.outs;
    })

-- a link that ends in no bridge needs no port
none_wanted : (t : Offering) (wiring : Wiring) (link number : ℕ) (w : Worker) → enters t.domain link number ≡ false →
    is_onward t.domain link ≡ false → IsLaid t wiring link link number w → IsLaid t wiring (suc link) (suc link) number w
none_wanted t wiring link number w none ended so = record {
  ready = so.ready;
  ins = subst (λ ls. ArePorts wiring ls w.ins.items) (sym (into_same t.domain number link none)) so.ins;
  outs = subst (λ ls. ArePorts wiring ls w.outs.items) (sym (onward_ended t.domain number link ended)) so.outs;
}

-- a pipe is laid: one worker has the putting end, the other one the taking end
pub pipe_laid : (workers : List Worker) (link from to : ℕ) (x y v w : Worker) (out into : SegmentPort) → from < length workers → to < length workers →
    x ≡ get_or workers from x → HasOut x y out → v ≡ get_or (set workers from y) to v → HasIn v w into → out.link ≡ link → into.link ≡ link →
    IsUnused out → IsUnused into → out.pipe.pipe ≡ into.pipe.pipe → LaysPipe link from to workers (set (set workers from y) to w)
pipe_laid workers link from to x y v w out into from_inside to_inside x_is has_out v_is has_in out_link into_link out_unused into_unused
    one_pipe t wiring so begins ends in_bridge =
    let id = out.pipe.pipe in
    let more = with_pipe wiring link id in
    let on_out : IsOn more out = cond-true (out.link == link) (Some id) (wiring out.link) (eq-eqb out.link link out_link) in
    let on_into : IsOn more into = cond-true (into.link == link) (Some id) (wiring into.link) (eq-eqb into.link link into_link) ∙ ap Some one_pipe in
    let first : AreLaidWires t more link link workers = λ n d below. rewired t wiring id link n (get_or workers n d) (so n d below) in
    let second : AreLaidWires t more link (suc link) (set workers from y) =
    each_set (λ n u. IsLaid t more link link n u) (λ n u. IsLaid t more link (suc link) n u) workers from y
    (λ n u differ s. out_other t more link n u (begins n ∙ ne_eqb from n (λ e. differ (sym e))) s)
    (out_own t more link from x y out has_out out_link out_unused on_out (begins from ∙ eq-eqb from from refl) in_bridge
    (subst (λ (u : Worker). IsLaid t more link link from u) (sym x_is) (first from x from_inside)))
    first in
    let third : AreLaidWires t more (suc link) (suc link) (set (set workers from y) to w) =
    each_set (λ n u. IsLaid t more link (suc link) n u) (λ n u. IsLaid t more (suc link) (suc link) n u) (set workers from y) to w
    (λ n u differ s. in_other t more link n u (ends n ∙ ne_eqb to n (λ e. differ (sym e))) s)
    (in_own t more link to v w into has_in into_link into_unused on_into (ends to ∙ eq-eqb to to refl)
    (subst (λ (u : Worker). IsLaid t more link (suc link) to u) (sym v_is) (second to v (omega (arith, to_inside, length-set workers from y)))))
    second in
    (more, subst (λ k. AreLaidWires t more k k (set (set workers from y) to w)) (sym (add-one link)) third)

-- the same, if the indices are given as other numbers
pub pipe_laid_at : (workers : List Worker) (link from to a b : ℕ) (x y v w : Worker) (out into : SegmentPort) → a ≡ from → b ≡ to → from < length workers →
    to < length workers → x ≡ get_or workers a x → HasOut x y out → v ≡ get_or (set workers a y) b v → HasIn v w into → out.link ≡ link →
    into.link ≡ link → IsUnused out → IsUnused into → out.pipe.pipe ≡ into.pipe.pipe → LaysPipe link from to workers (set (set workers a y) b w)
pipe_laid_at workers link from to a b x y v w out into is_from is_to from_inside to_inside x_is has_out v_is has_in out_link into_link
    out_unused into_unused one_pipe =
    let at : LaysPipe link a b workers (set (set workers a y) b w) =
    pipe_laid workers link a b x y v w out into (omega (arith, is_from, from_inside)) (omega (arith, is_to, to_inside)) x_is has_out v_is
    has_in out_link into_link
    out_unused into_unused one_pipe in
    subst (λ k. LaysPipe link from k workers (set (set workers a y) b w)) is_to (subst (λ k. LaysPipe link k b workers (set (set workers a y) b w)) is_from at)

-- all workers keep what neither end of a pipe changes
pub pipe_keeps : {Y : Type 0} (f : Worker → Y) (workers : List Worker) (from to : ℕ) (x y v w : Worker) → x ≡ get_or workers from x → f y ≡ f x →
    v ≡ get_or (set workers from y) to v → f w ≡ f v → map f (set (set workers from y) to w) ≡ map f workers
pipe_keeps f workers from to x y v w x_is kept_out v_is kept_in =
    map-set_same f (set workers from y) to w v (kept_in ∙ ap f v_is) ∙ map-set_same f workers from y x (kept_out ∙ ap f x_is)

-- a link between two bridges
pub bridge_laid : (d : Domain) (link : ℕ) (between : Link) (to : ℕ) (before after : List Worker) → slice_get d.links link ≡ Some between →
    between.to ≡ Bridge to → LaysPipe link between.from to before after → LaysLink d link before after
bridge_laid d link between to before after there ends lays t wiring is so =
    lays t wiring so
    (λ n. ap (λ (e : Domain). leaves e link n) is ∙ ap (λ (o : Option Link). option_map_or (λ (l : Link). l.from == n) o false) there)
    (λ n. ap (λ (e : Domain). enters e link n) is ∙ ap (λ (o : Option Link). option_map_or (λ (l : Link). node_is l.to n) o false) there
    ∙ ap (λ e. node_is e n) ends)
    (ap (λ (e : Domain). is_onward e link) is ∙ ap (λ (o : Option Link). option_map_or (λ (l : Link). is_bridge l.to) o false) there
    ∙ ap is_bridge ends)

-- a link that ends in a station
pub station_laid : (d : Domain) (link : ℕ) (between : Link) (station : ℕ) (workers : List Worker) → slice_get d.links link ≡ Some between →
    between.to ≡ Station station → LaysLink d link workers workers
station_laid d link between station workers there ends t wiring is so =
    let none : (n : ℕ) → enters t.domain link n ≡ false =
    λ n. ap (λ (e : Domain). enters e link n) is ∙ ap (λ (o : Option Link). option_map_or (λ (l : Link). node_is l.to n) o false) there
    ∙ ap (λ e. node_is e n) ends in
    let ended : is_onward t.domain link ≡ false =
    ap (λ (e : Domain). is_onward e link) is ∙ ap (λ (o : Option Link). option_map_or (λ (l : Link). is_bridge l.to) o false) there
    ∙ ap is_bridge ends in
    let all : AreLaidWires t wiring (suc link) (suc link) workers =
    λ n x below. none_wanted t wiring link n (get_or workers n x) (none n) ended (so n x below) in
    (wiring, subst (λ k. AreLaidWires t wiring k k workers) (sym (add-one link)) all)

-- the pipe for tables of one more worker
pub pipes_more : (ends more_ends : List (End (Carried CycleTable))) (workers more_workers : List Worker) (end : End (Carried CycleTable)) (w : Worker) →
    more_ends ≡ ends ++ end ∷ [] → more_workers ≡ workers ++ w ∷ [] → end.pipe ≡ tables_pipe w → map pipe_of_tables ends ≡ map tables_pipe workers →
    map pipe_of_tables more_ends ≡ map tables_pipe more_workers
pipes_more ends more_ends workers more_workers end w is_ends is_workers one_pipe so =
    ap (map pipe_of_tables) is_ends
    ∙ map-append pipe_of_tables ends (end ∷ [])
    ∙ (λ i. so i ++ one_pipe i ∷ [])
    ∙ sym (ap (map tables_pipe) is_workers ∙ map-append tables_pipe workers (w ∷ []))

-- one more end at which nothing was put
pub nothing_more : (ends more : List (End (Carried CycleTable))) (end : End (Carried CycleTable)) → more ≡ ends ++ end ∷ [] → end.items ≡ [] →
    All (λ (e : End (Carried CycleTable)). e.items ≡ []) ends → All (λ (e : End (Carried CycleTable)). e.items ≡ []) more
nothing_more ends more end is none so =
    subst (All (λ (e : End (Carried CycleTable)). e.items ≡ [])) (sym is) (All-push (λ (e : End (Carried CycleTable)). e.items ≡ []) ends end so none)

-- one more worker without ports
pub bare_more : (t : Offering) (workers : List Worker) (w : Worker) (bridge : ℕ) → bridge ≡ length workers → AreBare t workers → IsBare t bridge w →
    AreBare t (workers ++ w ∷ [])
bare_more t workers w bridge at so mine = each_push (λ n u. IsBare t n u) workers w bridge (sym at) so mine

-- workers without ports have pipes laid on no link
pub bare_laid : (t : Offering) (wiring : Wiring) (workers : List Worker) → AreBare t workers → AreLaidWires t wiring 0 0 workers
bare_laid t wiring workers so n x below = record {
  ready = (so n x below).ready;
  ins = no_ports wiring (get_or workers n x).ins.items (so n x below).no_ins;
  outs = no_ports wiring (get_or workers n x).outs.items (so n x below).no_outs;
}

-- workers with pipes laid on all links are those of the traffic
pub workers_laid : (t : Offering) (wiring : Wiring) (workers : List Worker) → AreOffers t.domain t.offers →
    AreLaidWires t wiring (length t.domain.links) (length t.domain.links) workers → AreWorkersOf t workers
workers_laid t wiring workers offers so number w there =
    subst (IsWorkerOf t number) (get_or_from_slice_get workers number w w there)
    (worker_laid (get_or workers number w) (so number w (slice_get_within workers number w there)))
  where
    -- one of them
    worker_laid : (u : Worker) → IsLaid t wiring (length t.domain.links) (length t.domain.links) number u → IsWorkerOf t number u
    worker_laid u laid = record {
      good_offers = offers;
      stands = laid.ready.stands;
      tidy = laid.ready.tidy;
      number_is = laid.ready.number_is;
      no_drops = laid.ready.no_drops;
      is_agenda = laid.ready.is_agenda;
      no_tables = laid.ready.no_tables;
      links_in = laid.ins.of_links;
      none_taken = all_from_members IsUnused u.ins.items laid.ins.unused;
      links_out = laid.outs.of_links;
      none_put = all_from_members IsUnused u.outs.items laid.outs.unused;
    }

-- workers without ports, after pipes are laid on all links
pub all_laid : (t : Offering) (before after : List Worker) → AreBare t before → LaysFirst t.domain (length t.domain.links) before after →
    (wiring : Wiring) × AreLaidWires t wiring (length t.domain.links) (length t.domain.links) after
all_laid t before after bare first = let wiring : Wiring = λ l. None in first t wiring refl (bare_laid t wiring before bare)

-- and each of their ports is of the pipe on its link
pub wired_laid : (t : Offering) (wiring : Wiring) (into onward : ℕ) (workers : List Worker) → AreLaidWires t wiring into onward workers →
    AreWired wiring workers
wired_laid t wiring into onward workers so = record {
  at_ins = λ w there. subst (λ (u : Worker). AreOn wiring u.ins.items) there.2 (so there.0 w there.1).ins.wired;
  at_outs = λ w there. subst (λ (u : Worker). AreOn wiring u.outs.items) there.2 (so there.0 w there.1).outs.wired;
}

-- workers that keep their numbers of cycles have the same as before
pub cycles_kept : (cycles : ℕ) (before after : List Worker) → map cycles_at after ≡ map cycles_at before → All (HasCycles cycles) before →
    All (HasCycles cycles) after
cycles_kept cycles before after same so index w below =
    let as_many : length after ≡ length before = sym (length-map after cycles_at) ∙ ap length same ∙ length-map before cycles_at in
    sym (get_or-map cycles_at after index w)
    ∙ ap (λ (ns : List ℕ). get_or ns index (cycles_at w)) same
    ∙ get_or-map cycles_at before index w
    ∙ so index w (omega (arith, below, as_many))

-- each worker of this traffic's bridges may work
pub workers_may : (t : Offering) (cycles : ℕ) (workers : List Worker) → AreWorkersOf t workers → All (HasCycles cycles) workers →
    All (MayWork cycles) workers
workers_may t cycles workers are so index w below = record {
  traffic = t;
  number = index;
  is = are index (get_or workers index w) (slice_get-get_or workers index w below);
  has_cycles = so index w below;
}
