-- What links have left stays known while streams are placed: only what a stream's own links have left is recomputed.
use Rattle.std.proofs.Common.{◌≡◌, ◌≢◌, ◌∙◌, ◌+◌, ◌-◌, ◌<◌, ◌≤◌, ◌⊎◌, ◌++◌, ◌==◌, ◌&&◌, ℕ, All, Bool, true, false, List, [], ◌∷◌, Option, Some, None, Contains, length, fold, get_or, map, max, set, take, ap, arith, inl, inr, refl, subst, subst₂, sym}
use Rattle.std.specs.Prelude.{IsSome, if◌then◌else◌, is_none, nat_le, nat_lt, not, position, sum_by}
use Rattle.std.specs.List.{flat_map, list_any}
use Rattle.std.proofs.lemmas.Bool.{and_left, cases_eq, cond-false, ne_eqb}
use Rattle.std.proofs.lemmas.List.{ext_get_or, get_or-set_other, get_or-set_same, get_or_default, length-set, map_more}
use Rattle.std.proofs.lemmas.List.Elements.{Contains-append_cases, Contains-append_left, Contains-append_right, Contains-get_or}
use Rattle.std.proofs.lemmas.List.Folds.{list_any_none}
use Rattle.std.proofs.lemmas.List.Sums.{sum_by_push}
use Rattle.arrayvec.specs.ArrayVec.{ArrayVec}
use Rattle.cqf_lists.specs.Lists.{each_below, least, or_else}
use Rattle.cqf_lists.proofs.EachBelow.{same_below}
use Rattle.cqf_lists.proofs.Members.{contains_here, contains_map, contains_none, contains_one}
use Rattle.cqf_laws_history.specs.StateLaws.{GrantedIsHeld, RefusedChangesNothing, granted_row}
use Rattle.cqf_model.specs.declared.history.Refused.{Refused}
use Rattle.cqf_model.specs.declared.history.Refused.TheVariants.{BadName, BadOctets, BadPace, UnknownNode, BrokenPath, LoopingPath, NotATree, TooManyHops, NameHeld, TooManyStreams, BudgetShort}
use Rattle.cqf_model.specs.declared.topology.Hop.{Hop}
use Rattle.cqf_model.specs.declared.topology.Row.{Row}
use Rattle.cqf_model.specs.Domain.{Domain, budget, is_text, node_named}
use Rattle.cqf_units.specs.Name.{is_name}
use Rattle.cqf_units.specs.Timing.{cost_of}
use Rattle.cqf_model.specs.History.{Admits, Asked, Branch, IsLegalHistory, Recorded, admit_reply, broken_index, first_index, held_in, is_loop_at, is_pace, is_stray, left_on, next_number, pace_of, refusal_of}
use Rattle.cqf_model.specs.History.{refused_at, refused_if, seals, short_link, tree_of}
use Rattle.cqf_model.specs.Limits.{hops_within, least_reserved, most_every, most_reserved, streams_within}
use Rattle.cqf_model.specs.Paces.{is_active}
use Rattle.cqf_model.specs.Table.{cost_on, link_cost, links_in, uses}
use Rattle.cqf_admission.specs.Branches.{tree_refusal}
use Rattle.cqf_program_plans.specs.Compile.Output.{with_asked}
use Rattle.cqf_program_placing.specs.declared.rooms.Emptiest.{Emptiest}
use Rattle.cqf_program_placing.specs.declared.rooms.Rooms.{Rooms}
use Rattle.cqf_program_placing.specs.Known.{AreKnown, AreRenewed, IsFilled, IsKnown, MakeTree, TakesNothingOff}
use Rattle.cqf_program_placing.specs.ActiveCycles.{IsChosenBy, IsGoodEvery, hop_at, left_emptiest, lefts_on, pace_by}
use Rattle.cqf_program_placing.proofs.RouteLemmas.{left_there, lefts_many}

-- ---- recomputed

-- for no link so far
pub none_renewed : (now : ℕ → ℕ) (before : List ℕ) → AreRenewed now [] before before
none_renewed now before = record { as_many = refl; each = λ l inside. inr (refl, λ c. contains_none l c) }

-- for one link more
pub renewed_more : (now : ℕ → ℕ) (tree : List Hop) (i link left : ℕ) (before so_far : List ℕ) → i < length tree → link ≡ (get_or tree i (hop_at 0)).link →
    AreRenewed now (links_in (take i tree)) before so_far → link < length before → left ≡ now link →
    AreRenewed now (links_in (take (i + 1) tree)) before (set so_far link left)
renewed_more now tree i link left before so_far inside at are there is = record {
  as_many = length-set so_far link left ∙ are.as_many;
  each = λ l within. elim (cases_eq l link) [
    | inl same ↦
        let room : link < length so_far = omega (arith, there, are.as_many) in
        inl (ap (λ k. get_or (set so_far link left) k 0) same ∙ get_or-set_same so_far link left 0 room ∙ is ∙ ap now (sym same))
    | inr other ↦
        let kept : get_or (set so_far link left) l 0 ≡ get_or so_far l 0 = get_or-set_other so_far link l left 0 other in
        elim (are.each l within) [
          | inl done ↦ inl (kept ∙ done)
          | inr rest ↦ inr (
            kept ∙ rest.0,
            λ c.
                elim (Contains-append_cases (links_in (take i tree)) (link ∷ []) l (subst (λ (xs : List ℕ). Contains xs l) links c)) [
                  | inl among ↦ rest.1 among
                  | inr last ↦ other (sym (contains_one link l last))
                ],
          )
        ]
  ];
} where
  links : links_in (take (i + 1) tree) ≡ links_in (take i tree) ++ link ∷ []
  links = map_more (λ (h : Hop). h.link) tree i (hop_at 0) inside ∙ ap (λ (n : ℕ). links_in (take i tree) ++ n ∷ []) (sym at)

-- what is known is filled
pub known_is_filled : (d : Domain) (rows : List Row) (emptiest : Emptiest) → IsKnown d rows emptiest → IsFilled d emptiest
known_is_filled d rows emptiest known =
    record { good = known.good; each = ap length known.left ∙ lefts_many d rows emptiest.every }

-- links that cost alike have alike left
left_alike : (d : Domain) (before after : List Row) (every l : ℕ) → ((cycle : ℕ) → link_cost after l cycle ≡ link_cost before l cycle) →
    left_emptiest d after every l ≡ left_emptiest d before every l
left_alike d before after every l alike =
    let costs : (λ (cycle : ℕ). link_cost after l cycle) ≡ (λ (cycle : ℕ). link_cost before l cycle) = λ i. λ cycle. alike cycle i in
    ap (λ (f : ℕ → ℕ). fold max 0 (each_below (λ phase. (budget d l
    - fold max 0 (each_below (λ cycle. if is_active (pace_by every phase) 0 cycle then f cycle ∷ [] else []) most_every)) ∷ []) every)) costs

-- after it is recomputed it is known again
pub known_again : (d : Domain) (before after : List Row) (links : List ℕ) (old new : Emptiest) → new.every ≡ old.every →
    AreRenewed (left_emptiest d after old.every) links old.left.items new.left.items → IsKnown d before old → TakesNothingOff before after links →
    IsKnown d after new
known_again d before after links old new every are known off = record {
  good = subst IsGoodEvery (sym every) known.good;
  left = ext_get_or 0 new.left.items (lefts_on d after new.every) (are.as_many ∙ long ∙ sym (lefts_many d after new.every)) at;
} where
  long : length old.left.items ≡ length d.links
  long = ap length known.left ∙ lefts_many d before old.every

  now : (l : ℕ) → l < length d.links → left_emptiest d after old.every l ≡ get_or (lefts_on d after new.every) l 0
  now l inside = ap (λ (e : ℕ). left_emptiest d after e l) (sym every) ∙ sym (left_there d after new.every l inside)

  at : (l : ℕ) → l < length new.left.items → get_or new.left.items l 0 ≡ get_or (lefts_on d after new.every) l 0
  at l within =
      let among : l < length old.left.items = omega (arith, within, are.as_many) in
      let inside : l < length d.links = omega (arith, among, long) in
      elim (are.each l among) [
        | inl done ↦ done ∙ now l inside
        | inr kept ↦
            kept.0 ∙ ap (λ xs. get_or xs l 0) known.left ∙ left_there d before old.every l inside
            ∙ sym (left_alike d before after old.every l (off l kept.1)) ∙ now l inside
      ]

-- all that is known is filled
pub all_filled : (d : Domain) (rows : List Row) (rooms : Rooms) → AreKnown d rows rooms → All (IsFilled d) rooms.known.items
all_filled d rows rooms known = λ k e within. known_is_filled d rows (get_or rooms.known.items k e) (known k e within)

-- if the costs of no link change, all stays known
pub known_alike : (d : Domain) (before after : List Row) (rooms : Rooms) → AreKnown d before rooms → TakesNothingOff before after [] → AreKnown d after rooms
known_alike d before after rooms known off = λ k e within.
    let one = known k e within in
    let every : ℕ = (get_or rooms.known.items k e).every in
    record {
      good = one.good;
      left = one.left ∙ same_below (λ l. left_emptiest d before every l ∷ []) (λ l. left_emptiest d after every l ∷ []) (length d.links)
          (λ l below. ap (λ (n : ℕ). n ∷ []) (sym (left_alike d before after every l (off l (λ c. contains_none l c)))));
    }

-- one is recomputed
pub record IsRenewed (d : Domain) (rows : List Row) (links : List ℕ) (old new : Emptiest) : Type 0 where
  pub every : new.every ≡ old.every
  pub left : AreRenewed (left_emptiest d rows old.every) links old.left.items new.left.items

-- those before an index are recomputed, and the others are as before
pub record AreSoFar (d : Domain) (rows : List Row) (links : List ℕ) (k : ℕ) (old now : List Emptiest) : Type 0 where
  pub as_many : length now ≡ length old
  pub done : (i : ℕ) (none : Emptiest) → i < k → i < length old → IsRenewed d rows links (get_or old i none) (get_or now i none)
  pub rest : (i : ℕ) (none : Emptiest) → k ≤ i → get_or now i none ≡ get_or old i none

module _ (d : Domain) (rows : List Row) (links : List ℕ) where
  pub none_so_far : (old : List Emptiest) → AreSoFar d rows links 0 old old
  none_so_far old = record { as_many = refl; done = λ i none low. absurd (omega (arith, low)); rest = λ i none more. refl }

  -- one more
  pub one_so_far : (k : ℕ) (old now after : List Emptiest) (new default : Emptiest) → k < length old → AreSoFar d rows links k old now →
      after ≡ set now k new → IsRenewed d rows links (get_or now k default) new → AreSoFar d rows links (k + 1) old after
  one_so_far k old now after new default inside so_far is renewed = record {
    as_many = ap length is ∙ length-set now k new ∙ so_far.as_many;
    done = λ i none low within. elim (cases_eq i k) [
      | inl same ↦ subst (λ (j : ℕ). IsRenewed d rows links (get_or old j none) (get_or after j none)) (sym same) (here none)
      | inr other ↦
          let below : i < k = omega (arith, low, other) in
          subst (λ (e : Emptiest). IsRenewed d rows links (get_or old i none) e) (sym (elsewhere i none other)) (so_far.done i none below within)
    ];
    rest = λ i none more.
        let off : i ≢ k = omega (arith, more) in
        elsewhere i none off ∙ so_far.rest i none (omega (arith, more));
  } where
    elsewhere : (i : ℕ) (none : Emptiest) → i ≢ k → get_or after i none ≡ get_or now i none
    elsewhere i none other = ap (λ (es : List Emptiest). get_or es i none) is ∙ get_or-set_other now k i new none other

    room : k < length now
    room = omega (arith, inside, so_far.as_many)

    here : (none : Emptiest) → IsRenewed d rows links (get_or old k none) (get_or after k none)
    here none =
        let was : get_or now k default ≡ get_or old k none = get_or_default now k default none room ∙ so_far.rest k none (omega arith) in
        let now_is : get_or after k none ≡ new = ap (λ (es : List Emptiest). get_or es k none) is ∙ get_or-set_same now k new none room in
        subst₂ (λ (x y : Emptiest). IsRenewed d rows links x y) was (sym now_is) renewed

  -- all of them
  pub all_so_far : (k : ℕ) (old now : List Emptiest) (before : List Row) → length old ≤ k → AreSoFar d rows links k old now →
      All (IsKnown d before) old → TakesNothingOff before rows links → All (IsKnown d rows) now
  all_so_far k old now before all so_far known off = λ i e within.
      let among : i < length old = omega (arith, within, so_far.as_many) in
      let renewed = so_far.done i e (omega (arith, among, all)) among in
      known_again d before rows links (get_or old i e) (get_or now i e) renewed.every renewed.left (known i e among) off

-- ---- a stream is requested

-- a stream costs nothing on links that aren't its own
costs_none_off : (one : Row) (l cycle : ℕ) → (Contains (links_in one.tree.items) l → ⊥) → cost_on one l cycle ≡ 0
costs_none_off one l cycle off =
    cond-false (uses one.tree.items one.pace l cycle) (cost_of one.overhead one.octets) 0
    (list_any_none (λ (hop : Hop). (hop.link == l) && is_active one.pace hop.hop_number cycle) one.tree.items (λ k d within.
    let hop : Hop = get_or one.tree.items k d in
    and_left (hop.link == l) (is_active one.pace hop.hop_number cycle) (ne_eqb hop.link l (λ same.
    off (subst (λ (n : ℕ). Contains (links_in one.tree.items) n) same (contains_map (λ (h : Hop). h.link) one.tree.items hop (Contains-get_or one.tree.items k d within)))))))

row_takes_off : (rows : List Row) (one : Row) → TakesNothingOff rows (rows ++ one ∷ []) (links_in one.tree.items)
row_takes_off rows one l off cycle =
    sum_by_push (λ (row : Row). cost_on row l cycle) rows one ∙ ap (λ n. link_cost rows l cycle + n) (costs_none_off one l cycle off) ∙ plain
  where
    plain : link_cost rows l cycle + 0 ≡ link_cost rows l cycle
    plain = omega arith

-- the links of a tree, if there is one
abbrev pub links_of : Option (ArrayVec Hop) → List ℕ
links_of None = []
links_of (Some tree) = links_in tree.items

-- if none of several refusals in a row is due, no later one is
after_if : (b : Bool) (refused : Refused) (later : Option Refused) → or_else (refused_if b refused) later ≡ None → later ≡ None
after_if true refused later e = absurd cc
after_if false refused later e = e

first_five : (a b c f g rest : Option Refused) → or_else a (or_else b (or_else c (or_else f (or_else g rest)))) ≡ None →
    or_else a (or_else b (or_else c (or_else f g))) ≡ None
first_five None None None None None rest e = refl
first_five None None None None (Some r) rest e = absurd cc
first_five None None None (Some r) g rest e = absurd cc
first_five None None (Some r) f g rest e = absurd cc
first_five None (Some r) c f g rest e = absurd cc
first_five (Some r) b c f g rest e = absurd cc

-- branches that make no tree are refused
tree_by_granted : (d : Domain) (rows : List Row) (asked : Asked) → refusal_of d rows asked ≡ None → tree_refusal d asked.paths ≡ None
tree_by_granted d rows asked e =
    first_five (refused_at (λ index. UnknownNode index) (position (λ name. is_none (node_named d name)) (flat_map (λ branch. branch) asked.paths)))
    (refused_at (λ index. BrokenPath index) (broken_index d asked.paths))
    (refused_at (λ index. LoopingPath index) (first_index (is_loop_at d) asked.paths))
    (refused_at (λ branch. NotATree branch) (least (is_stray asked.paths) (length asked.paths)))
    (refused_if (nat_lt (hops_within d.limits) (length (tree_of d asked.paths))) TooManyHops)
    (or_else (refused_if (list_any (λ (row : Row). is_text row.name asked.name) rows) NameHeld)
    (or_else (refused_if (nat_le (streams_within d.limits) (length rows)) TooManyStreams)
    (refused_at (λ l. BudgetShort l (left_on d rows (tree_of d asked.paths) (pace_of asked) l))
    (short_link d rows (cost_of d.overhead asked.octets) (pace_of asked) (tree_of d asked.paths)))))
    (after_if (not (is_pace asked.every asked.phase)) BadPace _
    (after_if (not (nat_le least_reserved asked.octets && nat_le asked.octets most_reserved)) BadOctets _
    (after_if (not (is_name asked.name)) BadName _ e)))

is_some_none : (o : Option Refused) → o ≡ None → IsSome o → ⊥
is_some_none None e given = absurd cc
is_some_none (Some refused) e given = absurd cc

-- and for branches that make no tree no phase is chosen
pub none_chosen : (d : Domain) (rows : List Row) (cost : ℕ) (paths : List Branch) (every : ℕ) (refusal : Option Refused) → IsSome refusal →
    IsChosenBy d rows cost paths every refusal 0
none_chosen d rows cost paths every None given = absurd cc
none_chosen d rows cost paths every (Some refused) given = refl

-- so a stream whose branches make no tree isn't held, and any other stream takes nothing from other links
pub asked_takes_off : (d : Domain) (entries after : List Recorded) (asked : Asked) (tree : Option (ArrayVec Hop)) → GrantedIsHeld → RefusedChangesNothing →
    IsLegalHistory d entries → MakeTree d asked.paths tree → after ≡ with_asked d entries asked →
    TakesNothingOff (held_in d entries (seals entries)) (held_in d after (seals after)) (links_of tree)
asked_takes_off d entries after asked tree grants refused legal made is =
    subst (λ (xs : List Recorded). TakesNothingOff rows (held_in d xs (seals xs)) (links_of tree)) (sym is) (by (refusal_of d rows asked) refl)
  where
    rows : List Row
    rows = held_in d entries (seals entries)

    following : List Recorded
    following = with_asked d entries asked

    along : (t : Option (ArrayVec Hop)) → MakeTree d asked.paths t → refusal_of d rows asked ≡ None →
        held_in d following (seals following) ≡ rows ++ granted_row d (next_number d entries) (seals entries) asked ∷ [] →
        TakesNothingOff rows (held_in d following (seals following)) (links_of t)
    along None fails e held = absurd (is_some_none (tree_refusal d asked.paths) (tree_by_granted d rows asked e) fails)
    along (Some hops) makes e held =
        let one : Row = granted_row d (next_number d entries) (seals entries) asked in
        subst (λ (rs : List Row). TakesNothingOff rows rs (links_in hops.items)) (sym held)
        (subst (λ (t : List Hop). TakesNothingOff rows (rows ++ one ∷ []) (links_in t)) (sym makes.1) (row_takes_off rows one))

    by : (refusal : Option Refused) → refusal_of d rows asked ≡ refusal → TakesNothingOff rows (held_in d following (seals following)) (links_of tree)
    by None e =
        let state = grants d entries rows (next_number d entries) 0 asked legal (record { held = refl; number = refl }) e in
        along tree made e state.held
    by (Some why) e =
        let state = refused d entries rows (next_number d entries) 0 (Admits asked) why (record { held = refl; number = refl })
        (ap (admit_reply (next_number d entries) (seals entries)) e) in
        subst (λ (rs : List Row). TakesNothingOff rows rs (links_of tree)) (sym state.held) (λ l off cycle. refl)
