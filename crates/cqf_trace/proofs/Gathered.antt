-- The traces of all links, taken from those of the bridges, the greatest link first.
use Rattle.std.proofs.Common.{◌≡◌, ◌≢◌, ◌⊎◌, ℕ, suc, ◌<◌, ◌≤◌, ◌+◌, ◌∷◌, ◌++◌, [], Contains, List, length, sym, ap, ◌∙◌, arith, inl, inr, subst, append_assoc}
use Rattle.std.proofs.Common.{◌-◌, append-nil, drop, reverse, take}
use Rattle.std.specs.Prelude.{Option, Some, false, true, ◌==◌, slice_get}
use Rattle.std.specs.Global.{Global}
use Rattle.std.specs.Option.{option_map_or}
use Rattle.std.specs.declared.vec.Vec.{Vec}
use Rattle.std.proofs.lemmas.Bool.{cases_eq, cond-false, cond-true, ne_eqb}
use Rattle.std.proofs.lemmas.List.{drop_all, length-append, map_push, reverse-append, same_from_push, take_all}
use Rattle.std.proofs.lemmas.Option.{slice_get_cases}
use Rattle.cqf_lists.specs.Lists.{each_below}
use Rattle.cqf_lists.proofs.Numbers.{kept_number}
use Rattle.cqf_model.specs.declared.frames.Dropped.{Dropped}
use Rattle.cqf_model.specs.declared.topology.Link.{Link}
use Rattle.cqf_model.specs.Domain.{Domain, IsAccepted, bridge_of, leaves}
use Rattle.cqf_model.proofs.Links.{leaves_its_bridge}
use Rattle.cqf_trace.specs.declared.bridge_trace.BridgeTrace.{BridgeTrace}
use Rattle.cqf_trace.specs.declared.trace.Mark.{Mark}
use Rattle.cqf_trace.specs.declared.trace.Trace.{Trace}
use Rattle.cqf_trace.specs.declared.traces.Traces.{Traces}
use Rattle.cqf_trace.specs.BridgeTraces.{AreGatheredFrom, AreBridgeTracesOf, TakesLast, dropped_by, links_leaving, row_at, traces_of, with_link}
use Rattle.cqf_trace.specs.Traces.{first_links, link_of_trace, links_of}
use Rattle.cqf_trace.proofs.Held.{background_held, background_of, held_at, held_front, held_here, held_last, held_later, starts_held, starts_of}
use Rattle.cqf_trace.proofs.Rows.{made_at}

-- the traces of the links from a number on are taken, by link number, and the bridges keep those of the links below it
pub record IsGathering (d : Domain) (bridge_traces : List BridgeTrace) (left : List (Vec Trace Global)) (number : ℕ) (taken : List Trace) : Type 0 where
  pub many : length left ≡ length d.bridges
  pub rows : (bridge : ℕ) → bridge < length d.bridges → links_of (row_at left bridge) ≡ each_below (with_link d bridge) number
  pub stay : (held : Trace → List Mark) (bridge link : ℕ) → link < number →
      held_at held (row_at left bridge) link ≡ held_at held (traces_of bridge_traces bridge) link
  pub links : first_links number ++ links_of taken ≡ first_links (length d.links)
  pub moved : (held : Trace → List Mark) (link : ℕ) → number ≤ link → link < length d.links →
      held_at held taken link ≡ held_at held (traces_of bridge_traces (bridge_of d link)) link

-- at first the bridges have all traces
pub none_gathered : (d : Domain) (bridge_traces : List BridgeTrace) (left : List (Vec Trace Global)) (number : ℕ) (taken : List Trace) → AreBridgeTracesOf d bridge_traces →
    number ≡ length d.links → taken ≡ [] → length left ≡ length bridge_traces → ((bridge : ℕ) → row_at left bridge ≡ traces_of bridge_traces bridge) →
    IsGathering d bridge_traces left number taken
none_gathered d bridge_traces left number taken are is none many rows = record {
  many = many ∙ are.many;
  rows = λ bridge inside. ap links_of (rows bridge) ∙ own bridge inside ∙ ap (each_below (with_link d bridge)) (sym is);
  stay = λ held bridge link below. ap (λ (traces : List Trace). held_at held traces link) (rows bridge);
  links = ap (λ (traces : List Trace). first_links number ++ links_of traces) none ∙ append-nil (first_links number) ∙ ap first_links is;
  moved = λ held link from inside. absurd (omega (arith, is, from, inside));
}
  where
    -- the traces of a bridge trace are those of the links that leave its bridge
    own : (bridge : ℕ) → bridge < length d.bridges → links_of (traces_of bridge_traces bridge) ≡ links_leaving d bridge
    own bridge inside = elim (slice_get_cases bridge_traces bridge).1 [
      | inl w ↦
          ap (λ (o : Option BridgeTrace). links_of (option_map_or (λ (bridge_trace : BridgeTrace). bridge_trace.traces.items) o [])) w.2
          ∙ are.links bridge w.0 w.2
      | inr w ↦ absurd (omega (arith, w.0, inside, are.many))
    ]

-- a link leaves no bridge but its own
other_bridge : (d : Domain) (link bridge : ℕ) → bridge ≢ bridge_of d link → leaves d link bridge ≡ false
other_bridge d link bridge apart = elim (slice_get_cases d.links link).1 [
  | inl w ↦
      let own : bridge_of d link ≡ w.0.from = ap (λ (o : Option Link). option_map_or (λ (l : Link). l.from) o 0) w.2 in
      ap (λ (o : Option Link). option_map_or (λ (l : Link). l.from == bridge) o false) w.2
      ∙ ne_eqb w.0.from bridge (λ same. apart (sym same ∙ sym own))
  | inr w ↦ ap (λ (o : Option Link). option_map_or (λ (l : Link). l.from == bridge) o false) w.1
]

-- the links of the bridge of the greatest link left are those of smaller numbers and this link; another bridge's don't contain it
own_row : (d : Domain) (bridge link : ℕ) → bridge ≡ bridge_of d link → link < length d.links →
    each_below (with_link d bridge) (suc link) ≡ each_below (with_link d bridge) link ++ link ∷ []
own_row d bridge link is inside =
    let leaving : leaves d link bridge ≡ true = ap (leaves d link) is ∙ leaves_its_bridge d link inside in
    ap (λ (links : List ℕ). each_below (with_link d bridge) link ++ links) (cond-true (leaves d link bridge) (link ∷ []) [] leaving)

other_row : (d : Domain) (bridge link : ℕ) → bridge ≢ bridge_of d link → each_below (with_link d bridge) (suc link) ≡ each_below (with_link d bridge) link
other_row d bridge link apart =
    ap (λ (links : List ℕ). each_below (with_link d bridge) link ++ links)
    (cond-false (leaves d link bridge) (link ∷ []) [] (other_bridge d link bridge apart))
    ∙ append-nil (each_below (with_link d bridge) link)

-- the bridge of the greatest link left has a trace
pub some_left : (d : Domain) (bridge_traces : List BridgeTrace) (left : List (Vec Trace Global)) (number link bridge : ℕ) (taken : List Trace) →
    IsGathering d bridge_traces left number taken → number ≡ suc link → bridge ≡ bridge_of d link → bridge < length d.bridges → link < length d.links →
    row_at left bridge ≡ [] → ⊥
some_left d bridge_traces left number link bridge taken h is its there inside none =
    let links : [] ≡ each_below (with_link d bridge) link ++ link ∷ [] =
    sym (ap links_of none) ∙ h.rows bridge there ∙ ap (each_below (with_link d bridge)) is ∙ own_row d bridge link its inside in
    let as_many : 0 ≡ length (each_below (with_link d bridge) link ++ link ∷ []) = ap length links in
    omega (arith, as_many, length-append (each_below (with_link d bridge) link) (link ∷ []))

module _ (d : Domain) (bridge_traces : List BridgeTrace) (left after : List (Vec Trace Global)) (link bridge : ℕ) (trace : Trace) (taken : List Trace)
    (h : IsGathering d bridge_traces left (suc link) taken) (its : bridge ≡ bridge_of d link) (there : bridge < length d.bridges) (inside : link < length d.links)
    (takes : TakesLast bridge left after trace) where
  -- the last trace of the bridge is that of the link, and the traces before it are those of smaller links
  parted : (links_of (row_at after bridge) ≡ each_below (with_link d bridge) link) × (trace.link ≡ link)
  parted =
      same_from_push (links_of (row_at after bridge)) (each_below (with_link d bridge) link) trace.link link
      (sym (map_push link_of_trace (row_at after bridge) trace) ∙ sym (ap links_of takes.last) ∙ h.rows bridge there ∙ own_row d bridge link its inside)

  -- so no other has its link
  apart_before : (x : ℕ) → Contains (links_of (row_at after bridge)) x → x ≢ link
  apart_before x held same =
      let kept = kept_number (λ (l : ℕ). leaves d l bridge) link x (subst (λ (links : List ℕ). Contains links x) parted.0 held) in
      omega (arith, kept.0, same)

  rows_after : (other : ℕ) → other < length d.bridges → (other ≡ bridge) ⊎ (other ≢ bridge) →
      links_of (row_at after other) ≡ each_below (with_link d other) link
  rows_after other within (inl same) =
      subst (λ (b : ℕ). links_of (row_at after b) ≡ each_below (with_link d b) link) (sym same) parted.0
  rows_after other within (inr apart) =
      ap links_of (takes.others other apart) ∙ h.rows other within ∙ other_row d other link (λ same. apart (same ∙ sym its))

  stay_after : (held : Trace → List Mark) (other l : ℕ) → l < link → (other ≡ bridge) ⊎ (other ≢ bridge) →
      held_at held (row_at after other) l ≡ held_at held (traces_of bridge_traces other) l
  stay_after held other l below (inl same) =
      subst (λ (b : ℕ). held_at held (row_at after b) l ≡ held_at held (traces_of bridge_traces b) l) (sym same)
      (sym (held_front held (row_at after bridge) trace l (λ e. omega (arith, e, parted.1, below)))
      ∙ ap (λ (traces : List Trace). held_at held traces l) (sym takes.last)
      ∙ h.stay held bridge l (omega (arith, below)))
  stay_after held other l below (inr apart) =
      ap (λ (traces : List Trace). held_at held traces l) (takes.others other apart) ∙ h.stay held other l (omega (arith, below))

  -- the link's trace has the same marks as before
  own_trace : (held : Trace → List Mark) → held_at held (trace ∷ taken) link ≡ held_at held (traces_of bridge_traces (bridge_of d link)) link
  own_trace held =
      held_here held trace taken link parted.1
      ∙ sym (held_last held (row_at after bridge) trace link parted.1 apart_before)
      ∙ ap (λ (traces : List Trace). held_at held traces link) (sym takes.last)
      ∙ h.stay held bridge link (omega arith)
      ∙ ap (λ (b : ℕ). held_at held (traces_of bridge_traces b) link) its

  moved_after : (held : Trace → List Mark) (l : ℕ) → link ≤ l → l < length d.links → (l ≡ link) ⊎ (l ≢ link) →
      held_at held (trace ∷ taken) l ≡ held_at held (traces_of bridge_traces (bridge_of d l)) l
  moved_after held l from within (inl same) =
      subst (λ (n : ℕ). held_at held (trace ∷ taken) n ≡ held_at held (traces_of bridge_traces (bridge_of d n)) n) (sym same) (own_trace held)
  moved_after held l from within (inr apart) =
      let next : suc link ≤ l = omega (arith, from, apart) in
      held_later held trace taken l (λ e. omega (arith, e, parted.1, next)) ∙ h.moved held l next within

  -- with the last trace of that bridge the next trace is taken
  pub one_gathered : IsGathering d bridge_traces after link (trace ∷ taken)
  one_gathered = record {
    many = takes.many ∙ h.many;
    rows = λ other within. rows_after other within (cases_eq other bridge);
    stay = λ held other l below. stay_after held other l below (cases_eq other bridge);
    links =
        ap (λ (l : ℕ). first_links link ++ (l ∷ links_of taken)) parted.1
        ∙ sym (append_assoc (first_links link) (link ∷ []) (links_of taken))
        ∙ h.links;
    moved = λ held l from within. moved_after held l from within (cases_eq l link);
  }

-- ---- as in the code: links are counted from the greatest down, and traces are in the order in which they were taken

-- the bridge that is found is the link's
its_bridge : (d : Domain) (link : ℕ) (found : Link) → slice_get d.links link ≡ Some found → found.from ≡ bridge_of d link
its_bridge d link found at = sym (ap (λ (o : Option Link). option_map_or (λ (l : Link). l.from) o 0) at)

pub none_missing : (d : Domain) (bridge_traces : List BridgeTrace) (left seen : List (Vec Trace Global)) (count following : ℕ) (found : Link) (taken : List Trace) →
    IsAccepted d → count ≡ length d.links → following < count → slice_get d.links (count - 1 - following) ≡ Some found → seen ≡ left →
    row_at seen found.from ≡ [] → IsGathering d bridge_traces left (length d.links - following) taken → ⊥
none_missing d bridge_traces left seen count following found taken accepted all less at same none h =
    some_left d bridge_traces left (length d.links - following) (count - 1 - following) found.from taken h (omega (arith, all, less)) (its_bridge d (count - 1 - following) found at)
    (accepted.links_good (count - 1 - following) found at).from_bridge (omega (arith, all, less))
    (ap (λ (rows : List (Vec Trace Global)). row_at rows found.from) (sym same) ∙ none)

-- rows that are written back have their new values
written_back : (left after : List (Vec Trace Global)) (len : ℕ) → length after ≡ length left → len ≡ length left →
    take len (after ++ drop (length after) left) ≡ after
written_back left after len many is =
    let rest : drop (length after) left ≡ [] = drop_all (length after) left (omega (arith, many)) in
    ap (λ (rows : List (Vec Trace Global)). take len (after ++ rows)) rest
    ∙ ap (take len) (append-nil after)
    ∙ take_all len after (omega (arith, many, is))

pub next_gathered : (d : Domain) (bridge_traces : List BridgeTrace) (left seen after : List (Vec Trace Global)) (count following len : ℕ) (found : Link) (trace : Trace)
    (links more : List Trace) → IsAccepted d → count ≡ length d.links → following < count → slice_get d.links (count - 1 - following) ≡ Some found →
    seen ≡ left → len ≡ length left → TakesLast found.from seen after trace → more ≡ links ++ trace ∷ [] →
    IsGathering d bridge_traces left (length d.links - following) (reverse links) →
    IsGathering d bridge_traces (take len (after ++ drop (length after) left)) (length d.links - (following + 1)) (reverse more)
next_gathered d bridge_traces left seen after count following len found trace links more accepted all less at same is taking pushed h =
    subst (λ (rows : List (Vec Trace Global)). IsGathering d bridge_traces rows (length d.links - (following + 1)) (reverse more))
    (sym (written_back left after len takes.many is))
    (subst (λ (n : ℕ). IsGathering d bridge_traces after n (reverse more)) link_left
    (subst (λ (traces : List Trace). IsGathering d bridge_traces after (count - 1 - following) traces) (sym turned)
    (one_gathered d bridge_traces left after (count - 1 - following) found.from trace (reverse links) before (its_bridge d (count - 1 - following) found at)
    (accepted.links_good (count - 1 - following) found at).from_bridge (omega (arith, all, less)) takes)))
  where
    one_more : length d.links - following ≡ suc (count - 1 - following)
    one_more = omega (arith, all, less)

    link_left : count - 1 - following ≡ length d.links - (following + 1)
    link_left = omega (arith, all, less)

    before : IsGathering d bridge_traces left (suc (count - 1 - following)) (reverse links)
    before = subst (λ (n : ℕ). IsGathering d bridge_traces left n (reverse links)) one_more h

    takes : TakesLast found.from left after trace
    takes = subst (λ (rows : List (Vec Trace Global)). TakesLast found.from rows after trace) same taking

    turned : reverse more ≡ trace ∷ reverse links
    turned = ap reverse pushed ∙ reverse-append links (trace ∷ [])

-- in the end all traces are taken
pub all_gathered : (d : Domain) (bridge_traces : List BridgeTrace) (left : List (Vec Trace Global)) (number : ℕ) (taken : List Trace) (traces : Traces) →
    IsGathering d bridge_traces left number taken → number ≡ 0 → traces.links.items ≡ taken → length traces.drops.items ≡ length d.bridges →
    ((bridge : ℕ) → row_at traces.drops.items bridge ≡ dropped_by bridge_traces bridge) → AreGatheredFrom d bridge_traces traces
all_gathered d bridge_traces left number taken traces h none are many drops = record {
  each_link = ap links_of are ∙ ap (λ (n : ℕ). first_links n ++ links_of taken) (sym none) ∙ h.links;
  starts = λ link inside.
      starts_held traces.links.items link
      ∙ ap (λ (ts : List Trace). held_at starts_of ts link) are
      ∙ h.moved starts_of link (omega (arith, none)) inside
      ∙ sym (starts_held (traces_of bridge_traces (bridge_of d link)) link);
  background = λ link inside.
      background_held traces.links.items link
      ∙ ap (λ (ts : List Trace). held_at background_of ts link) are
      ∙ h.moved background_of link (omega (arith, none)) inside
      ∙ sym (background_held (traces_of bridge_traces (bridge_of d link)) link);
  each_bridge = many;
  drops = λ bridge inside. sym (made_at (λ (row : Vec Dropped Global). row.items) traces.drops.items bridge []) ∙ drops bridge;
}
