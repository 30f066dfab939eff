-- What the bridges have sent goes into the book, and along the links.
use Rattle.std.proofs.Common.{◌≡◌, ℕ, zero, suc, ◌+◌, ◌<◌, ◌≤◌, ◌++◌, Bool, true, false, List, [], ◌∷◌, filter, get_or}
use Rattle.std.proofs.Common.{length, map, set, take, sym, ap, refl, ◌∙◌, inl, inr, arith, subst, flat_map, append-nil}
use Rattle.std.proofs.Common.{append_assoc}
use Rattle.std.specs.Prelude.{if◌then◌else◌}
use Rattle.std.proofs.lemmas.Bool.{cases_Bool, cases_eq, cond-false, cond-true}
use Rattle.std.proofs.lemmas.List.{get_or-set_other, get_or-set_same, get_or_default, length-set, take_all, take_more}
use Rattle.std.proofs.lemmas.List.Concat.{flat_map-append}
use Rattle.std.proofs.lemmas.List.Elements.{filter-append}
use Rattle.std.proofs.lemmas.Option.{slice_get_cases}
use Rattle.cqf_lists.specs.Lists.{each_below}
use Rattle.cqf_lists.proofs.EachBelow.{filter_below, map_below, same_below}
use Rattle.cqf_lists.proofs.Members.{contains_from_map, contains_one}
use Rattle.cqf_model.specs.declared.frames.Started.{Started}
use Rattle.cqf_model.specs.Book.{Contents, background_in, starts_in}
use Rattle.cqf_model.specs.Domain.{Domain, IsAccepted, enters, leaves}
use Rattle.cqf_model.specs.Network.{Network}
use Rattle.cqf_model.specs.Run.{Run}
use Rattle.cqf_model.specs.Policing.{Carried}
use Rattle.cqf_laws_cycle.specs.Gathered.{IsInOrderOf}
use Rattle.cqf_bridge.specs.Batch.{LinkBatch}
use Rattle.cqf_bridge.specs.BridgeState.{BridgeState}
use Rattle.cqf_agenda.specs.Agenda.{AgendaOf, IsAgendaOf}
use Rattle.cqf_bridge.specs.Cycles.{starts_of_batch}
use Rattle.cqf_bridge.specs.Follows.{HasSentOfTheNetwork, batch_of, batches_from, batches_into}
use Rattle.cqf_plain.specs.declared.driven.RunBridge.{RunBridge}
use Rattle.cqf_plain.specs.SoFar.{ListsCycle}
use Rattle.cqf_plain.specs.Driven.{AllStandHalfway, AreHandedOut, HaveAllSentCycle, IsCycleOf, ListsBackground, all_of}
use Rattle.cqf_plain.proofs.ByLink.{flat_below, in_order_by_link}

-- lists end to end, each given by its index
flat_first : {X Y : Type 0} (f : X → List Y) (g : ℕ → List Y) (xs : List X) (n : ℕ) → n ≤ length xs → ((k : ℕ) (e : X) → k < n → f (get_or xs k e) ≡ g k) →
    flat_map f (take n xs) ≡ each_below g n
flat_first f g xs zero le each = refl
flat_first {X} {Y} f g xs (suc n) le each = elim (slice_get_cases xs n).1 [
  | inl w ↦
      let next : n + 1 ≡ suc n = omega arith in
      ap (λ (k : ℕ). flat_map f (take k xs)) (sym next)
      ∙ ap (flat_map f) (take_more xs n w.0 (omega (arith, le)))
      ∙ flat_map-append f (take n xs) (get_or xs n w.0 ∷ [])
      ∙ ap (λ (ys : List Y). ys ++ (f (get_or xs n w.0) ++ [])) (flat_first f g xs n (omega (arith, le)) (λ k e less. each k e (omega (arith, less))))
      ∙ ap (λ (ys : List Y). each_below g n ++ ys) (append-nil (f (get_or xs n w.0)) ∙ each n w.0 (omega arith))
  | inr w ↦ absurd (omega (arith, w.0, le))
]

flat_each : {X Y : Type 0} (f : X → List Y) (g : ℕ → List Y) (xs : List X) (n : ℕ) → length xs ≡ n → ((k : ℕ) (e : X) → k < n → f (get_or xs k e) ≡ g k) →
    flat_map f xs ≡ each_below g n
flat_each f g xs n many each = ap (flat_map f) (sym (take_all n xs (omega (arith, many)))) ∙ flat_first f g xs n (omega (arith, many)) each

module _ (d : Domain) (accepted : IsAccepted d) (carried : Carried) (cycle : ℕ) where
  -- a link's batch, alone
  abbrev alone : ℕ → List LinkBatch
  alone l = batch_of d carried cycle l ∷ []

  -- what a bridge sends is what its links send
  from_links : (bridge : ℕ) → batches_from d carried bridge cycle ≡ each_below (λ l. if leaves d l bridge then alone l else []) (length d.links)
  from_links bridge =
      map_below (batch_of d carried cycle) (λ l. if leaves d l bridge then l ∷ [] else []) (length d.links)
      ∙ same_below (λ l. map (batch_of d carried cycle) (if leaves d l bridge then l ∷ [] else [])) (λ l. if leaves d l bridge then alone l else [])
      (length d.links)
      (λ l inside. one (leaves d l bridge) l)
    where
      one : (b : Bool) (l : ℕ) → map (batch_of d carried cycle) (if b then l ∷ [] else []) ≡ (if b then alone l else [])
      one true l = refl
      one false l = refl

  -- what is handed to a bridge is what the links into it send
  pub into_links : (bridge : ℕ) → filter (λ (x : LinkBatch). enters d x.link bridge) (each_below alone (length d.links)) ≡ batches_into d carried bridge cycle
  into_links bridge =
      filter_below (λ (x : LinkBatch). enters d x.link bridge) alone (length d.links)
      ∙ same_below (λ l. filter (λ (x : LinkBatch). enters d x.link bridge) (alone l))
      (λ l. map (batch_of d carried cycle) (if enters d l bridge then l ∷ [] else []))
      (length d.links) (λ l inside. one (enters d l bridge) l)
      ∙ sym (map_below (batch_of d carried cycle) (λ l. if enters d l bridge then l ∷ [] else []) (length d.links))
    where
      one : (b : Bool) (l : ℕ) → (if b then alone l else []) ≡ map (batch_of d carried cycle) (if b then l ∷ [] else [])
      one true l = refl
      one false l = refl

  -- in order, what all bridges send is the batches of the links, one after the other
  pub sorted_batches : (sent sorted : List LinkBatch) → sent ≡ each_below (λ bridge. batches_from d carried bridge cycle) (length d.bridges) →
      IsInOrderOf (λ (x : LinkBatch). x.link) sent sorted → sorted ≡ each_below alone (length d.links)
  sorted_batches sent sorted is order =
      in_order_by_link (λ (x : LinkBatch). x.link) d accepted alone
      (λ l x h. sym (ap (λ (y : LinkBatch). y.link) (contains_one (batch_of d carried cycle l) x h))) sent sorted
      (is ∙ same_below (λ bridge. batches_from d carried bridge cycle) (λ bridge. each_below (λ l. if leaves d l bridge then alone l else []) (length d.links))
      (length d.bridges)
      (λ bridge inside. from_links bridge))
      order

  -- and has what the links start
  pub starts_are : flat_map starts_of_batch (each_below alone (length d.links)) ≡ each_below (starts_in d carried cycle) (length d.links)
  starts_are =
      flat_below starts_of_batch alone (length d.links)
      ∙ same_below (λ l. flat_map starts_of_batch (alone l)) (starts_in d carried cycle) (length d.links)
      (λ l inside. append-nil (starts_in d carried cycle l))

module _ (run : Run) (net : Network) (cycle : ℕ) (of : IsCycleOf run net cycle) (before : List RunBridge) (sent : List LinkBatch)
    (all_sent : HaveAllSentCycle run net cycle before sent) where
  abbrev accepted : IsAccepted run.domain
  accepted = of.compiled.accepted

  -- in order, the background frames of all bridges are those of the links, one after the other
  sorted_background : (sorted : List Started) →
      IsInOrderOf (λ (x : Started). x.link) (flat_map (λ (s : RunBridge). s.bridge.background) before) sorted →
      sorted ≡ each_below (background_in run.domain net.backed cycle) (length run.domain.links)
  sorted_background sorted order =
      let d = run.domain in
      let f = background_in d net.backed cycle in
      let on = λ (bridge : ℕ). each_below (λ l. if leaves d l bridge then f l else []) (length d.links) in
      in_order_by_link (λ (x : Started). x.link) d accepted f
      (λ l x h. sym (ap (λ (y : Started). y.link) (contains_from_map _ _ x h).2)) (flat_map (λ (s : RunBridge). s.bridge.background) before) sorted
      (flat_each (λ (s : RunBridge). s.bridge.background) on before (length d.bridges) all_sent.halfway.one_each
      (λ k e inside. (let st = all_sent.halfway.each k e inside in
      st.has_sent.background ∙ (λ i. each_below (λ l. if leaves d l (st.own.number i) then background_in d net.backed (st.own.received i) l else [])
      (length d.links)))))
      order

  -- so the book has what the network sends in the cycle
  pub cycle_listed : (sorted : List LinkBatch) (old new : Contents) → IsInOrderOf (λ (x : LinkBatch). x.link) sent sorted →
      new.starts ≡ old.starts ++ flat_map starts_of_batch sorted → ListsBackground before old.background new.background → new.drops ≡ old.drops →
      ListsCycle run net cycle old new
  cycle_listed sorted old new order starts background drops =
      let d = run.domain in record {
        starts = starts ∙ ap (λ (xs : List Started). old.starts ++ xs)
            (ap (flat_map starts_of_batch) (sorted_batches d accepted net.carried cycle sent sorted all_sent.batches_are order)
            ∙ starts_are d accepted net.carried cycle);
        background = background.listed ∙ ap (λ (xs : List Started). old.background ++ xs) (sorted_background background.sorted background.by_link);
        drops = drops;
      }

  -- and each bridge gets what the links into it send
  pub all_handed : (sorted : List LinkBatch) (after : List RunBridge) → IsInOrderOf (λ (x : LinkBatch). x.link) sent sorted →
      AreHandedOut run.domain sorted before after → AllStandHalfway run net cycle (all_of run net cycle) after
  all_handed sorted after order handed =
      let d = run.domain in
      record {
        one_each = handed.as_many ∙ all_sent.halfway.one_each;
        each = λ k e inside.
            let within : k < length before = omega (arith, inside, all_sent.halfway.one_each) in
            let st = all_sent.halfway.each k e inside in
            let same = handed.same_bridge k e within in
            record {
              own = record {
                domain = ap (λ (b : BridgeState). b.domain) same ∙ st.own.domain;
                number = ap (λ (b : BridgeState). b.number) same ∙ st.own.number;
                received = ap (λ (b : BridgeState). b.received) same ∙ st.own.received;
                agenda = subst (λ (a : AgendaOf). IsAgendaOf run.domain run.offers run.background k a) (sym (handed.same_agenda k e within)) st.own.agenda;
              };
              has_sent = subst (λ (b : BridgeState). HasSentOfTheNetwork run net b) (sym same) st.has_sent;
              came_are = handed.following k e within
                  ∙ ap (λ (xs : List LinkBatch). xs ++ filter (λ (x : LinkBatch). enters d x.link k) sorted) st.came_are
                  ∙ ap (filter (λ (x : LinkBatch). enters d x.link k)) (sorted_batches d accepted net.carried cycle sent sorted all_sent.batches_are order)
                  ∙ into_links d accepted net.carried cycle k;
            };
      }

-- before the first batch is handed out
pub none_handed : (d : Domain) (bridges : List RunBridge) → AreHandedOut d [] bridges bridges
none_handed d bridges = record {
  as_many = refl;
  same_bridge = λ k e inside. refl;
  same_agenda = λ k e inside. refl;
  following = λ k e inside. sym (append-nil (get_or bridges k e).inbox.items);
}

-- one more batch among those of links into a bridge, or of others
one_filtered : (p : LinkBatch → Bool) (xs : List LinkBatch) (x : LinkBatch) (b : Bool) → p x ≡ b →
    filter p (xs ++ x ∷ []) ≡ filter p xs ++ (if b then x ∷ [] else [])
one_filtered p xs x true is = filter-append p xs (x ∷ []) ∙ ap (λ (ys : List LinkBatch). filter p xs ++ ys) (cond-true (p x) (x ∷ []) [] is)
one_filtered p xs x false is = filter-append p xs (x ∷ []) ∙ ap (λ (ys : List LinkBatch). filter p xs ++ ys) (cond-false (p x) (x ∷ []) [] is)

-- a batch of a link that ends in no bridge
pub passed_by : (d : Domain) (batches : List LinkBatch) (before after : List RunBridge) (batch : LinkBatch) → ((bridge : ℕ) → enters d batch.link bridge ≡ false) →
    AreHandedOut d batches before after → AreHandedOut d (batches ++ batch ∷ []) before after
passed_by d batches before after batch none so = record {
  as_many = so.as_many;
  same_bridge = so.same_bridge;
  same_agenda = so.same_agenda;
  following = λ k e inside.
      so.following k e inside
      ∙ ap (λ (ys : List LinkBatch). (get_or before k e).inbox.items ++ ys)
      (sym (one_filtered (λ (x : LinkBatch). enters d x.link k) batches batch false (none k)
      ∙ append-nil (filter (λ (x : LinkBatch). enters d x.link k) batches)));
}

-- a batch of a link that ends in one
pub one_handed : (d : Domain) (batches : List LinkBatch) (before after : List RunBridge) (batch : LinkBatch) (x y : RunBridge) (bridge index : ℕ) →
    enters d batch.link bridge ≡ true → ((other : ℕ) → enters d batch.link other ≡ true → other ≡ bridge) → index ≡ bridge → index < length after →
    x ≡ get_or after index x → y.bridge ≡ x.bridge → y.agenda ≡ x.agenda → y.inbox.items ≡ x.inbox.items ++ batch ∷ [] →
    AreHandedOut d batches before after → AreHandedOut d (batches ++ batch ∷ []) before (set after index y)
one_handed d batches before after batch x y bridge index ends only at inside there same_bridge same_agenda pushed so = record {
  as_many = length-set after index y ∙ so.as_many;
  same_bridge = λ k e within. elim (cases_eq k index) [
    | inl same ↦ ap (λ (s : RunBridge). s.bridge) (here k e same) ∙ same_bridge ∙ ap (λ (s : RunBridge). s.bridge) (was k e same) ∙ so.same_bridge k e within
    | inr differ ↦ ap (λ (s : RunBridge). s.bridge) (get_or-set_other after index k y e differ) ∙ so.same_bridge k e within
  ];
  same_agenda = λ k e within. elim (cases_eq k index) [
    | inl same ↦ ap (λ (s : RunBridge). s.agenda) (here k e same) ∙ same_agenda ∙ ap (λ (s : RunBridge). s.agenda) (was k e same) ∙ so.same_agenda k e within
    | inr differ ↦ ap (λ (s : RunBridge). s.agenda) (get_or-set_other after index k y e differ) ∙ so.same_agenda k e within
  ];
  following = λ k e within. elim (cases_eq k index) [
    | inl same ↦
        let own : enters d batch.link k ≡ true = ap (enters d batch.link) (same ∙ at) ∙ ends in
        ap (λ (s : RunBridge). s.inbox.items) (here k e same) ∙ pushed
        ∙ ap (λ (s : RunBridge). s.inbox.items ++ batch ∷ []) (was k e same)
        ∙ ap (λ (ys : List LinkBatch). ys ++ batch ∷ []) (so.following k e within)
        ∙ append_assoc (get_or before k e).inbox.items (filter (into k) batches) (batch ∷ [])
        ∙ ap (λ (ys : List LinkBatch). (get_or before k e).inbox.items ++ ys) (sym (one_filtered (into k) batches batch true own))
    | inr differ ↦
        ap (λ (s : RunBridge). s.inbox.items) (get_or-set_other after index k y e differ)
        ∙ so.following k e within
        ∙ ap (λ (ys : List LinkBatch). (get_or before k e).inbox.items ++ ys)
        (sym (one_filtered (into k) batches batch false (other k differ) ∙ append-nil (filter (into k) batches)))
  ];
}
  where
    -- the batches of links into a bridge
    into : ℕ → LinkBatch → Bool
    into k z = enters d z.link k

    -- what is there afterwards
    here : (k : ℕ) (e : RunBridge) → k ≡ index → get_or (set after index y) k e ≡ y
    here k e same = ap (λ (j : ℕ). get_or (set after index y) j e) same ∙ get_or-set_same after index y e inside

    -- and what was there before
    was : (k : ℕ) (e : RunBridge) → k ≡ index → x ≡ get_or after k e
    was k e same = there ∙ get_or_default after index x e inside ∙ ap (λ (j : ℕ). get_or after j e) (sym same)

    -- another bridge isn't the link's end
    other : (k : ℕ) → (k ≡ index → ⊥) → enters d batch.link k ≡ false
    other k differ = elim (cases_Bool (enters d batch.link k)) [
      | inl it ↦ absurd (differ (only k it ∙ sym at))
      | inr not ↦ not
    ]
