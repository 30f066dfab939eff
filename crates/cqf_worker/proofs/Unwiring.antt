-- Workers taken apart, and their pipes closed.
use Rattle.std.proofs.Common.{ℕ, zero, suc, ◌≡◌, ◌+◌, ◌≤◌, ◌==◌, ◌++◌, ◌∷◌, [], Bool, cond, not, nat_lt, List, Contains, Some, None, length}
use Rattle.std.proofs.Common.{map, get_or, sym, ap, subst, ◌∙◌, arith, refl, inl, inr, eqb-true, eq-eqb}
use Rattle.std.specs.Prelude.{count_by, if◌then◌else◌, option_map, slice_get}
use Rattle.std.specs.List.{flat_map, position, position_or_len, remove}
use Rattle.std.proofs.lemmas.Bool.{cases_Bool, cases_lt, cond-false, cond-true, lt-ltb}
use Rattle.std.proofs.lemmas.List.Sums.{sum_by-append, sum_by-cons, sum_by-remove}
use Rattle.std.proofs.lemmas.Option.{same_Some, slice_get-map, slice_get_within}
use Rattle.std.proofs.lemmas.List.Elements.{Contains-append_right, Contains-get_or, Contains-push_cases}
use Rattle.std.proofs.lemmas.List.Quantifiers.{position-Some}
use Rattle.std.proofs.lemmas.Simd.{map-map}
use Rattle.cqf_admission.specs.Tables.{CycleTable}
use Rattle.cqf_relay.specs.declared.moving.Segment.{Segment}
use Rattle.cqf_lists.proofs.Members.{contains_flat, contains_from_flat, contains_here}
use Rattle.cqf_lists.proofs.Indices.{slice_get_after, slice_get_front, slice_get_parts}
use Rattle.cqf_worker_loops.specs.declared.carried.Carried.{Carried}
use Rattle.cqf_worker.specs.declared.closing.Parts.{Parts}
use Rattle.cqf_worker_loops.specs.declared.worker.Worker.{Worker}
use Rattle.cqf_worker.specs.Closing.{AreFedBy, AreGivenBy, ArePartsOf, HasLostOne, IsFedBy, IsPartner, tables_at}
use Rattle.cqf_worker_loops.specs.PipeEnds.{AreLeft, End, PipeId}
use Rattle.cqf_worker.specs.Wires.{AreFedByWires, AreGiven, AreOn, IsOn, LackEnds, Wiring, count_on}
use Rattle.cqf_worker_loops.specs.Workers.{SegmentPort}
use Rattle.cqf_worker.specs.Wires.{ins_at, outs_at, pipe_of_tables, tables_pipe}

-- the ends at all workers are of the pipes on their links
pub on_links : (wiring : Wiring) (workers : List Worker) (ports : List SegmentPort) (at : Worker → List SegmentPort) → ports ≡ flat_map at workers →
    ((w : Worker) → Contains workers w → AreOn wiring (at w)) → AreOn wiring ports
on_links wiring workers ports at is each p there =
    let w = contains_from_flat at workers p (subst (λ (ps : List SegmentPort). Contains ps p) is there) in each w.0 w.1 p w.2

-- ends of one link are of one pipe
pub of_one_pipe : (wiring : Wiring) (a b : SegmentPort) → IsOn wiring a → IsOn wiring b → a.link ≡ b.link → a.pipe.pipe ≡ b.pipe.pipe
of_one_pipe wiring a b on_a on_b same = same_Some a.pipe.pipe b.pipe.pipe (sym on_a ∙ ap wiring same ∙ on_b)

-- so a port and its partner are of one pipe
pub partners_pipe : (wiring : Wiring) (ins outs left before rest : List SegmentPort) (p : SegmentPort) (end : End (Carried Segment)) →
    before ++ p ∷ rest ≡ ins → AreOn wiring ins → AreOn wiring outs → ((out : SegmentPort) → Contains left out → Contains outs out) →
    IsPartner left p.link end → end.pipe ≡ p.pipe.pipe
partners_pipe wiring ins outs left before rest p end is on_ins on_outs were partner =
    let there : Contains ins p = subst (λ (ps : List SegmentPort). Contains ps p) is (Contains-append_right before (p ∷ rest) p (contains_here p rest)) in
    ap (λ (e : End (Carried Segment)). e.pipe) (sym partner.is_end)
    ∙ of_one_pipe wiring partner.out p (on_outs partner.out (were partner.out partner.there)) (on_ins p there) partner.of_link

-- the first end of a link is one of the ends given
pub partner_found : (outs : List SegmentPort) (link index : ℕ) (found : SegmentPort) → position (λ (out : SegmentPort). out.link == link) outs ≡ Some index →
    found ≡ get_or outs index found → IsPartner outs link found.pipe
partner_found outs link index found at is =
    let here = position-Some (λ (out : SegmentPort). out.link == link) outs index found at in
    record {
      out = found;
      there = subst (λ (x : SegmentPort). Contains outs x) (sym is) (Contains-get_or outs index found here.0);
      of_link = eqb-true found.link link (ap (λ (x : SegmentPort). x.link == link) is ∙ here.1);
      is_end = refl;
    }

-- one more port is fed, by an end among the others
pub fed_more : (outs left ins : List SegmentPort) (p : SegmentPort) (end : End (Carried Segment)) (count : ℕ) →
    ((out : SegmentPort) → Contains left out → Contains outs out) → IsPartner left p.link end → AreLeft end.items p.pipe.items count →
    AreFedBy outs ins → AreFedBy outs (ins ++ p ∷ [])
fed_more outs left ins p end count were partner closed so q there = elim (Contains-push_cases ins p q there) [
  | inl h ↦ so q h
  | inr e ↦ subst (IsFedBy outs) e (record {
    out = partner.out;
    there = were partner.out partner.there;
    of_link = partner.of_link;
    beginning = (closed.0, ap (λ (x : End (Carried Segment)). x.items) partner.is_end ∙ closed.1);
  })
]

-- the ports of all workers are fed
pub all_fed : (workers : List Worker) (parts : Parts) → ArePartsOf workers parts → AreFedBy parts.outs.items parts.ins.items → AreFedByWires workers
all_fed workers parts so fed w p of_workers there =
    let f = fed p (subst (λ (ps : List SegmentPort). Contains ps p) (sym so.all_ins) (contains_flat ins_at workers w p of_workers there)) in
    let from = contains_from_flat outs_at workers f.out (subst (λ (ps : List SegmentPort). Contains ps f.out) so.all_outs f.there) in
    record { from = from.0; out = f.out; of_workers = from.1; at_worker = from.2; same_link = f.of_link; beginning = f.beginning }

-- the tables that all workers took are those put for them
pub all_given : (tables : List (End (Carried CycleTable))) (workers : List Worker) (parts : Parts) → ArePartsOf workers parts →
    AreGivenBy tables parts.tables.items → AreGiven tables workers
all_given tables workers parts so given index end w put here =
    given index end w.tables put
    (ap (λ (xs : List (End (Carried CycleTable))). slice_get xs index) so.all_tables ∙ slice_get-map tables_at workers index ∙ ap (option_map tables_at) here)

-- index by index the ends for tables are of one pipe
pub same_pipes : (tables : List (End (Carried CycleTable))) (workers : List Worker) (parts : Parts) → ArePartsOf workers parts →
    map pipe_of_tables tables ≡ map tables_pipe workers → map pipe_of_tables tables ≡ map pipe_of_tables parts.tables.items
same_pipes tables workers parts so same = same ∙ sym (ap (map pipe_of_tables) so.all_tables ∙ map-map pipe_of_tables tables_at workers)

-- the only element of a list of one
one_at : {X : Type 0} (x a : X) (k : ℕ) → slice_get (x ∷ []) k ≡ Some a → (k ≡ 0) × (x ≡ a)
one_at x a zero e = (refl, same_Some x a e)
one_at x a (suc k) e = absurd cc

-- the tables of one more worker
pub given_more : (puts takes : List (End (Carried CycleTable))) (putting taking : End (Carried CycleTable)) (count : ℕ) → length takes ≡ length puts →
    AreGivenBy puts takes → AreLeft putting.items taking.items count → AreGivenBy (puts ++ putting ∷ []) (takes ++ taking ∷ [])
given_more puts takes putting taking count as_many so closed index a b at_a at_b =
    elim (slice_get_parts puts (putting ∷ []) index a at_a) [
      | inl x ↦ so index a b x (sym (slice_get_front takes (taking ∷ []) index (omega (arith, as_many, slice_get_within puts index a x))) ∙ at_b)
      | inr y ↦
          let one = one_at putting a y.0 y.2 in
          let taken : taking ≡ b =
          same_Some taking b (sym (slice_get_after takes taking [] index (omega (arith, y.1, one.0, as_many))) ∙ at_b) in
          (closed.0, ap (λ (e : End (Carried CycleTable)). e.items) (sym one.1) ∙ closed.1 ∙ ap (λ (e : End (Carried CycleTable)). e.items ++ closed.0) taken)
    ]

-- the ends at the next index are of one pipe
pub next_pair : (ins outs puts takes rest others : List (End (Carried CycleTable))) (putting taking : End (Carried CycleTable)) →
    puts ++ putting ∷ rest ≡ ins → outs ≡ takes ++ taking ∷ others → length takes ≡ length puts →
    map pipe_of_tables ins ≡ map pipe_of_tables outs → putting.pipe ≡ taking.pipe
next_pair ins outs puts takes rest others putting taking is_ins is_outs as_many same =
    let k = length puts in
    let left : slice_get ins k ≡ Some putting =
    ap (λ (xs : List (End (Carried CycleTable))). slice_get xs k) (sym is_ins) ∙ slice_get_after puts putting rest k refl in
    let right : slice_get outs k ≡ Some taking =
    ap (λ (xs : List (End (Carried CycleTable))). slice_get xs k) is_outs ∙ slice_get_after takes taking others k (sym as_many) in
    same_Some putting.pipe taking.pipe
    (sym (slice_get-map pipe_of_tables ins k ∙ ap (option_map pipe_of_tables) left)
    ∙ ap (λ (xs : List (PipeId (Carried CycleTable))). slice_get xs k) same
    ∙ slice_get-map pipe_of_tables outs k
    ∙ ap (option_map pipe_of_tables) right)

-- if no element passes a test, the count is 0
none_counted : {X : Type 0} (p : X → Bool) (xs : List X) → length xs ≤ position_or_len p xs → count_by p xs ≡ 0
none_counted {X} p [] far = refl
none_counted {X} p (x ∷ xs) far = elim (cases_Bool (p x)) [
  | inl t ↦
      let here : position_or_len p (x ∷ xs) ≡ 0 = cond-false (not (p x)) (1 + position_or_len p xs) 0 (ap not t) in
      absurd (omega (arith, far, here))
  | inr f ↦
      let later : position_or_len p (x ∷ xs) ≡ 1 + position_or_len p xs = cond-true (not (p x)) (1 + position_or_len p xs) 0 (ap not f) in
      let one : X → ℕ = λ y. cond (p y) 1 0 in
      let first : one x ≡ 0 = cond-false (p x) 1 0 f in
      let both : count_by p (x ∷ xs) ≡ one x + count_by p xs = sum_by-cons one x xs in
      let rest : count_by p xs ≡ 0 = none_counted p xs (omega (arith, far, later)) in
      omega (arith, both, first, rest)
]

-- so it is if no index is found
pub no_index : {X : Type 0} (p : X → Bool) (xs : List X) → position p xs ≡ None → count_by p xs ≡ 0
no_index p xs none = elim (cases_lt (position_or_len p xs) (length xs)) [
  | inl less ↦
      let k = position_or_len p xs in
      absurd (never k (sym (cond-true (nat_lt k (length xs)) (Some k) None (lt-ltb k (length xs) less)) ∙ none))
  | inr far ↦ none_counted p xs (omega (arith, far))
]
  where
    -- a place is there
    never : (k : ℕ) → Some k ≡ None → ⊥
    never k e = absurd cc

-- one end of its link fewer
pub one_lost : (outs after : List SegmentPort) (link index : ℕ) (d : SegmentPort) → position (λ (out : SegmentPort). out.link == link) outs ≡ Some index →
    after ≡ remove outs index → HasLostOne link outs after
one_lost outs after link index d at is other =
    let here = position-Some (λ (out : SegmentPort). out.link == link) outs index d at in
    let gone : (if (get_or outs index d).link == other then 1 else 0) ≡ (if link == other then 1 else 0) =
    ap (λ k. if k == other then 1 else 0) (eqb-true (get_or outs index d).link link here.1) in
    sym (sum_by-remove (λ (p : SegmentPort). if p.link == other then 1 else 0) outs index d here.0)
    ∙ ap (λ n. count_on other (remove outs index) + n) gone
    ∙ ap (λ (ps : List SegmentPort). count_on other ps + (if link == other then 1 else 0)) (sym is)

-- for each link, the ends that are left and the ports that are fed are as many as the ends given
pub counted_more : (outs left after ins : List SegmentPort) (p : SegmentPort) → ((link : ℕ) → count_on link outs ≡ count_on link left + count_on link ins) →
    HasLostOne p.link left after → (link : ℕ) → count_on link outs ≡ count_on link after + count_on link (ins ++ p ∷ [])
counted_more outs left after ins p so lost link =
    let f : SegmentPort → ℕ = λ q. if q.link == link then 1 else 0 in
    let one : count_on link (p ∷ []) ≡ f p + 0 = sum_by-cons f p [] in
    let more : count_on link (ins ++ p ∷ []) ≡ count_on link ins + count_on link (p ∷ []) = sum_by-append f ins (p ∷ []) in
    omega (arith, so link, lost link, one, more)

-- if none is left for a port, its link lacks an end
pub end_lacks : (outs left ins before rest : List SegmentPort) (p : SegmentPort) → before ++ p ∷ rest ≡ ins →
    ((link : ℕ) → count_on link outs ≡ count_on link left + count_on link before) → count_on p.link left ≡ 0 → LackEnds ins outs
end_lacks outs left ins before rest p is so none =
    let f : SegmentPort → ℕ = λ q. if q.link == p.link then 1 else 0 in
    let own : f p ≡ 1 = cond-true (p.link == p.link) 1 0 (eq-eqb p.link p.link refl) in
    let all : count_on p.link ins ≡ count_on p.link before + (1 + count_on p.link rest) =
    ap (count_on p.link) (sym is)
    ∙ sum_by-append f before (p ∷ rest)
    ∙ ap (λ n. count_on p.link before + n) (sum_by-cons f p rest ∙ ap (λ n. n + count_on p.link rest) own) in
    (p.link, omega (arith, so p.link, none, all))
