-- The reasons against a request, one after the other.
use Rattle.std.proofs.Common.{◌≡◌, ℕ, ◌+◌, ◌<◌, ◌≤◌, Bool, true, false, cond, List, Option, Some, None, [], ◌∷◌, ◌&&◌, not, length, position, refl, ap, ◌∙◌}
use Rattle.std.proofs.Common.{subst, sym, arith, inl, inr, nat_lt, get_or, add-one}
use Rattle.std.specs.Prelude.{Contains, is_none, is_some, nat_le}
use Rattle.std.specs.List.{flat_map, list_any}
use Rattle.std.proofs.lemmas.Bool.{and_from, and_parts, both_ways, cases_Bool, le-leb, leb-true, lt-leb, not-false}
use Rattle.cqf_units.specs.Name.{is_name}
use Rattle.cqf_units.specs.Timing.{cost_of}
use Rattle.cqf_units.specs.declared.reservations.Cycle.{Cycle}
use Rattle.cqf_model.specs.declared.history.Refused.{Refused}
use Rattle.cqf_model.specs.declared.history.Refused.TheVariants.{BadName, BadOctets, BadPace, UnknownNode, BrokenPath, LoopingPath, NotATree, TooManyHops, NameHeld, TooManyStreams}
use Rattle.cqf_model.specs.declared.history.Refused.TheVariants.{AlreadyWithdrawn}
use Rattle.cqf_model.specs.declared.history.Reply.TheVariants.{Refused as RefusedFor}
use Rattle.cqf_model.specs.declared.topology.Hop.{Hop}
use Rattle.cqf_model.specs.declared.topology.Pace.{Pace}
use Rattle.cqf_model.specs.declared.topology.Row.{Row}
use Rattle.cqf_model.specs.Domain.{Domain, is_text, node_named}
use Rattle.cqf_lists.specs.Lists.{least, or_else}
use Rattle.cqf_model.specs.History.{Asked, broken_index, first_index, is_loop_at, is_pace, is_stray, pace_of, refusal_of, refused_at, refused_if}
use Rattle.cqf_model.specs.History.{tree_of, withdraw_row}
use Rattle.cqf_model.proofs.Texts.{is_text_same}
use Rattle.cqf_model.specs.Limits.{hops_within, most_reserved, streams_within}
use Rattle.cqf_model.proofs.Hops.{hops_apart, hops_inside}
use Rattle.cqf_model.specs.Table.{row_named}
use Rattle.cqf_laws_history.specs.StateLaws.{granted_row}
use Rattle.cqf_laws_history.proofs.Granted.{refused_if_none}
use Rattle.cqf_admission.specs.Grants.{HaveNames}
use Rattle.cqf_admission.specs.Judging.{form_refusal, short_refusal}
use Rattle.cqf_admission.specs.Rows.{IsCountable}
use Rattle.cqf_lists.proofs.Least.{or_else_none}
use Rattle.std.proofs.lemmas.List.Elements.{All-map}
use Rattle.cqf_admission.specs.Branches.{tree_refusal}

-- why a request of good form is refused: because of what is held
abbrev pub state_refusal : Domain → List Row → Asked → Option Refused
state_refusal d rows asked =
    or_else (refused_if (list_any (λ (row : Row). is_text row.name asked.name) rows) NameHeld)
    (or_else (refused_if (nat_le (streams_within d.limits) (length rows)) TooManyStreams)
    (short_refusal d rows (cost_of d.overhead asked.octets) (pace_of asked) (tree_of d asked.paths)))

-- the first of several refusals, in two groups: one refusal, or one more in the first group
or_else_two : (a b rest : Option Refused) → or_else a (or_else b rest) ≡ or_else (or_else a b) rest
or_else_two (Some x) b rest = refl
or_else_two None b rest = refl

or_else_more : (a b rest following : Option Refused) → following ≡ or_else b rest → or_else a following ≡ or_else (or_else a b) rest
or_else_more a b rest following same = ap (or_else a) same ∙ or_else_two a b rest

-- a request is refused for its form, or else because of what is held
pub refusal_in_two : (d : Domain) (rows : List Row) (asked : Asked) → refusal_of d rows asked ≡ or_else (form_refusal d asked) (state_refusal d rows asked)
refusal_in_two d rows asked =
    let name = refused_if (not (is_name asked.name)) BadName in
    let octets = refused_if (not (nat_le 64 asked.octets && nat_le asked.octets most_reserved)) BadOctets in
    let pace = refused_if (not (is_pace asked.every asked.phase)) BadPace in
    let unknown = refused_at (λ index. UnknownNode index) (position (λ n. is_none (node_named d n)) (flat_map (λ branch. branch) asked.paths)) in
    let broken = refused_at (λ index. BrokenPath index) (broken_index d asked.paths) in
    let looping = refused_at (λ index. LoopingPath index) (first_index (is_loop_at d) asked.paths) in
    let stray = refused_at (λ branch. NotATree branch) (least (is_stray asked.paths) (length asked.paths)) in
    let hops = refused_if (nat_lt (hops_within d.limits) (length (tree_of d asked.paths))) TooManyHops in
    let rest = state_refusal d rows asked in
    let s = or_else_two stray hops rest in
    let l = or_else_more looping (or_else stray hops) rest (or_else stray (or_else hops rest)) s in
    let b = or_else_more broken (or_else looping (or_else stray hops)) rest (or_else looping (or_else stray (or_else hops rest))) l in
    let u = or_else_more unknown (or_else broken (or_else looping (or_else stray hops))) rest
    (or_else broken (or_else looping (or_else stray (or_else hops rest)))) b in
    let p = or_else_more pace (tree_refusal d asked.paths) rest (or_else unknown (or_else broken (or_else looping (or_else stray (or_else hops rest))))) u in
    let o = or_else_more octets (or_else pace (tree_refusal d asked.paths)) rest
    (or_else pace (or_else unknown (or_else broken (or_else looping (or_else stray (or_else hops rest)))))) p in
    or_else_more name (or_else octets (or_else pace (tree_refusal d asked.paths))) rest
    (or_else octets (or_else pace (or_else unknown (or_else broken (or_else looping (or_else stray (or_else hops rest))))))) o

-- a request of good form has a good pace
pub form_paced : (d : Domain) (asked : Asked) → form_refusal d asked ≡ None → is_pace asked.every asked.phase ≡ true
form_paced d asked none =
    let in_range = nat_le 64 asked.octets && nat_le asked.octets most_reserved in
    let paced = is_pace asked.every asked.phase in
    let following = or_else_none (refused_if (not (is_name asked.name)) BadName)
    (or_else (refused_if (not in_range) BadOctets) (or_else (refused_if (not paced) BadPace) (tree_refusal d asked.paths))) none in
    let later = or_else_none (refused_if (not in_range) BadOctets) (or_else (refused_if (not paced) BadPace) (tree_refusal d asked.paths)) following.1 in
    not-false paced (refused_if_none (not paced) BadPace (or_else_none (refused_if (not paced) BadPace) (tree_refusal d asked.paths) later.1).0)

-- and its octets are within the limits
pub form_octets : (d : Domain) (asked : Asked) → form_refusal d asked ≡ None → asked.octets ≤ most_reserved
form_octets d asked none =
    let in_range = nat_le 64 asked.octets && nat_le asked.octets most_reserved in
    let paced = is_pace asked.every asked.phase in
    let following = or_else_none (refused_if (not (is_name asked.name)) BadName)
    (or_else (refused_if (not in_range) BadOctets) (or_else (refused_if (not paced) BadPace) (tree_refusal d asked.paths))) none in
    let octets = or_else_none (refused_if (not in_range) BadOctets) (or_else (refused_if (not paced) BadPace) (tree_refusal d asked.paths)) following.1 in
    let range = and_parts (nat_le 64 asked.octets) (nat_le asked.octets most_reserved) (not-false in_range (refused_if_none (not in_range) BadOctets octets.0)) in
    leb-true asked.octets most_reserved range.1

-- with a good name, a good pace, and octets within the limits, the branches decide on the form
pub form_by_tree : (d : Domain) (asked : Asked) → is_name asked.name ≡ true → is_pace asked.every asked.phase ≡ true → 64 ≤ asked.octets → asked.octets ≤ most_reserved →
    form_refusal d asked ≡ tree_refusal d asked.paths
form_by_tree d asked name paced least_octets most_octets =
    let in_range : (nat_le 64 asked.octets && nat_le asked.octets most_reserved) ≡ true =
    and_from (nat_le 64 asked.octets) (nat_le asked.octets most_reserved) (le-leb 64 asked.octets least_octets) (le-leb asked.octets most_reserved most_octets) in
    ap (λ (b : Bool). or_else (refused_if (not b) BadName)
    (or_else (refused_if (not (nat_le 64 asked.octets && nat_le asked.octets most_reserved)) BadOctets)
    (or_else (refused_if (not (is_pace asked.every asked.phase)) BadPace) (tree_refusal d asked.paths)))) name
    ∙ ap (λ (b : Bool). or_else (refused_if (not b) BadOctets)
    (or_else (refused_if (not (is_pace asked.every asked.phase)) BadPace) (tree_refusal d asked.paths))) in_range
    ∙ ap (λ (b : Bool). or_else (refused_if (not b) BadPace) (tree_refusal d asked.paths)) paced

-- if the form is bad, its refusal decides
pub refusal_form : (d : Domain) (rows : List Row) (asked : Asked) (refused : Refused) → form_refusal d asked ≡ Some refused →
    refusal_of d rows asked ≡ Some refused
refusal_form d rows asked refused form = refusal_in_two d rows asked ∙ ap (λ (o : Option Refused). or_else o (state_refusal d rows asked)) form

-- if the form is good, the later refusals decide
pub refusal_later : (d : Domain) (rows : List Row) (asked : Asked) → form_refusal d asked ≡ None → refusal_of d rows asked ≡ state_refusal d rows asked
refusal_later d rows asked form = refusal_in_two d rows asked ∙ ap (λ (o : Option Refused). or_else o (state_refusal d rows asked)) form

-- the last reason, if the name is free and there are not too many streams
pub refusal_last : (d : Domain) (rows : List Row) (asked : Asked) → list_any (λ (row : Row). is_text row.name asked.name) rows ≡ false →
    length rows < streams_within d.limits → state_refusal d rows asked ≡ short_refusal d rows (cost_of d.overhead asked.octets) (pace_of asked) (tree_of d asked.paths)
refusal_last d rows asked free few =
    let last = short_refusal d rows (cost_of d.overhead asked.octets) (pace_of asked) (tree_of d asked.paths) in
    ap (λ (b : Bool). or_else (refused_if b NameHeld) (or_else (refused_if (nat_le (streams_within d.limits) (length rows)) TooManyStreams) last)) free
    ∙ ap (λ (b : Bool). or_else (refused_if b TooManyStreams) last) (lt-leb (streams_within d.limits) (length rows) few)

-- a row, given its name, its overhead, its pace and its tree
pub row_granted : (d : Domain) (number : ℕ) (effect : Cycle) (asked : Asked) (name : List ℕ) (overhead : ℕ) (pace : Pace) (tree : List Hop) →
    name ≡ asked.name → overhead ≡ d.overhead → pace ≡ pace_of asked → tree ≡ tree_of d asked.paths →
    (let row : Row = record {
      no = number;
      name = name;
      octets = asked.octets;
      overhead = overhead;
      pace = pace;
      tree = record { items = tree };
      admitted = effect;
      withdrawn = None;
    } in
    row) ≡ granted_row d number effect.0 asked
row_granted d number effect asked name overhead pace tree named counted paced linked =
    λ i. record {
      no = number;
      name = named i;
      octets = asked.octets;
      overhead = counted i;
      pace = paced i;
      tree = record { items = linked i };
      admitted = effect;
      withdrawn = None;
    }

-- its links are the domain's, each once, so its cost can be added to sums by link
pub granted_countable : (d : Domain) (row : Row) (asked : Asked) (number effect : ℕ) → d.overhead ≤ 22 → row ≡ granted_row d number effect asked →
    asked.octets ≤ most_reserved → IsCountable (length d.links) row
granted_countable d row asked number effect short is few = subst (IsCountable (length d.links)) (sym is) (record {
  octets = few;
  overhead = short;
  inside = All-map (λ (l : ℕ). l < length d.links) (λ (hop : Hop). hop.link) (tree_of d asked.paths) (hops_inside d asked.paths);
  apart = hops_apart d asked.paths;
})

-- ---- the stream with a name

-- a text that is no name is the name of no row, as rows have names
pub not_a_name : (rows : List Row) (text : List ℕ) → HaveNames rows → is_name text ≡ false → row_named rows text ≡ None
not_a_name [] text names h = refl
not_a_name (x ∷ rows) text names h =
    let rest = not_a_name rows text (λ row k. names row (k.0 + 1, omega (arith, k.1), there x rows row k)) h in
    elim (cases_Bool (is_text x.name text)) [
      | inl t ↦ absurd (both_ways (is_name text) h (ap is_name (sym (is_text_same x.name text t)) ∙ names x (0, omega arith, refl)))
      | inr f ↦ ap (λ (b : Bool). cond b (Some x) (row_named rows text)) f ∙ rest
    ]
  where
    -- with one more row before, a row's index is one higher
    there : (x : Row) (rows : List Row) (row : Row) (k : Contains rows row) → get_or (x ∷ rows) (k.0 + 1) row ≡ row
    there x rows row k = ap (λ (n : ℕ). get_or (x ∷ rows) n row) (add-one k.0) ∙ k.2

-- a withdrawn stream isn't withdrawn again
pub ended_reply : (effect number : ℕ) (end : Option Cycle) → is_some end ≡ true → withdraw_row effect number end ≡ RefusedFor AlreadyWithdrawn
ended_reply effect number None e = absurd cc
ended_reply effect number (Some before) e = refl

-- an option that isn't `Some` is `None`
pub none_from : (end : Option Cycle) → is_some end ≡ false → end ≡ None
none_from None e = refl
none_from (Some x) e = absurd cc
