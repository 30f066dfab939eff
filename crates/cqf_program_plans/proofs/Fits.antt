-- What fits is what is accepted.
use Rattle.std.proofs.Common.{ℕ, ◌≡◌, ◌≤◌, ◌<◌, ◌+◌, ◌++◌, ◌-◌, ◌*◌, ◌==◌, ◌/◌, ◌%◌, ◌∙◌, Bool, true, false, not, ◌&&◌, cond, nat_lt, Option}
use Rattle.std.proofs.Common.{Some, None, List, [], ◌∷◌, append-nil, length, get_or, fold, max, min, mul-le-mul_right, ap, arith, subst, sym, refl, inl, inr}
use Rattle.std.proofs.Math.Nat.{add-mul, lt-div-mul-add, mul-div-le, mul_comm}
use Rattle.std.specs.Prelude.{All, find, if◌then◌else◌, nat_le, suc, zero}
use Rattle.std.specs.List.{list_any}
use Rattle.std.proofs.lemmas.Bool.{and_from, cases_Bool, cases_lt, cond-false, cond-true, leb-true, leb-false, ltb-false, le-ltb, lt-ltb, eq-eqb}
use Rattle.std.proofs.lemmas.List.{get_or-map, length-map}
use Rattle.std.proofs.lemmas.List.Folds.{list_any_at}
use Rattle.std.proofs.lemmas.List.Sums.{fold_push}
use Rattle.std.proofs.lemmas.List.Elements.{All-cons, All-head, All-nil, All-tail}
use Rattle.cqf_lists.specs.Lists.{each_below, or_else}
use Rattle.cqf_units.specs.Name.{is_name}
use Rattle.cqf_units.specs.Timing.{cost_of}
use Rattle.cqf_model.specs.declared.history.Refused.{Refused}
use Rattle.cqf_model.specs.declared.history.Refused.TheVariants.{BadName, BadOctets, BadPace, NameHeld, TooManyStreams, BudgetShort}
use Rattle.cqf_model.specs.declared.topology.Row.{Row}
use Rattle.cqf_model.specs.Domain.{Domain, budget, is_text}
use Rattle.cqf_model.specs.History.{Asked, is_pace, left_on, most_beside, pace_of, refusal_of, refused_at, refused_if, tree_of}
use Rattle.cqf_model.specs.declared.topology.Hop.{Hop}
use Rattle.cqf_model.specs.declared.topology.Pace.{Pace}
use Rattle.cqf_model.specs.Limits.{most_overhead, most_reserved, streams_within}
use Rattle.cqf_model.specs.Paces.{each_cycle, is_active}
use Rattle.cqf_model.specs.Table.{cost_on, link_cost, links_in, uses}
use Rattle.cqf_model.proofs.Hops.{hops_inside}
use Rattle.cqf_admission.specs.Branches.{tree_refusal}
use Rattle.cqf_admission.specs.Costs.{left_beside}
use Rattle.cqf_admission.specs.Judging.{form_refusal, short_refusal}
use Rattle.cqf_admission.proofs.CostLemmas.{beside_is_most}
use Rattle.cqf_admission.proofs.GrantLemmas.{refusal_in_two, refusal_last, refusal_later}
use Rattle.cqf_program_plans.specs.Load.Fitting.{fits_by, fits_on, if_allowed}
use Rattle.cqf_program_plans.specs.Load.Laws.{FitsIsGreatest, OneMoreFits}
use Rattle.cqf_program_plans.specs.Load.Listing.{listed_row, listing_refusal}

-- ---- frames of 64 octets that fit in what is left: gates count `counted` octets of each, and it costs `more` octets in addition to them

module _ (counted more : ℕ) (whole : counted + more ≡ 84) (some : 0 < counted) where
  together : (frames : ℕ) → counted * frames + more * frames ≡ 84 * frames
  together frames = sym (add-mul counted more frames) ∙ ap (λ n. n * frames) whole

  forth : (frames left reserved : ℕ) → frames ≡ left / 84 → reserved + more * (reserved / counted) ≤ left →
      (reserved ≤ left - more * frames) × (reserved < counted * frames + counted)
  forth frames left reserved is costs =
      let own : ℕ = reserved / counted in
      let passed : counted * own ≤ reserved = mul-div-le reserved counted in
      let below : reserved < own * counted + counted = lt-div-mul-add some in
      let few : own ≤ frames = omega (arith, passed, together own, costs, is) in
      elim (cases_lt own frames) [
        | inl less ↦
            let later : (own + 1) * counted ≤ frames * counted = mul-le-mul_right counted (omega (arith, less)) in
            let spread : (own + 1) * counted ≡ own * counted + counted = omega arith in
            (omega (arith, below, later, spread, together frames, is), omega (arith, below, later, spread))
        | inr no_less ↦
            let same : own ≡ frames = omega (arith, few, no_less) in
            let beside : more * own ≡ more * frames = ap (λ n. more * n) same in
            let within : own * counted ≡ counted * frames = mul_comm own counted ∙ ap (λ n. counted * n) same in
            (omega (arith, beside, costs), omega (arith, below, within))
      ]

  back : (frames left reserved : ℕ) → frames ≡ left / 84 → reserved ≤ left - more * frames → reserved < counted * frames + counted →
      reserved + more * (reserved / counted) ≤ left
  back frames left reserved is fits below =
      let own : ℕ = reserved / counted in
      let passed : counted * own ≤ reserved = mul-div-le reserved counted in
      let few : own ≤ frames = elim (cases_lt frames own) [
        | inl less ↦
            let later : (frames + 1) * counted ≤ own * counted = mul-le-mul_right counted (omega (arith, less)) in
            let spread : (frames + 1) * counted ≡ counted * frames + counted = omega arith in
            absurd (omega (arith, passed, below, later, spread, mul_comm own counted))
        | inr no_more ↦ no_more
      ] in
      let beside : own * more ≤ frames * more = mul-le-mul_right more few in
      omega (arith, fits, beside, mul_comm own more, mul_comm frames more, together frames, is)

-- the frames that fit cost no more than what is left
pub frames_within : (overhead left : ℕ) → overhead ≤ most_overhead → (overhead + 20) * (left / 84) + (64 - overhead) * (left / 84) ≤ left
frames_within overhead left short = omega (arith, together (64 - overhead) (overhead + 20) (omega (arith, short)) (omega (arith, short)) (left / 84))

-- a reservation of at least 64 octets is allowed, and none is allowed that is greater than it was
allowed : (n : ℕ) → 64 ≤ n → if_allowed n ≡ n
allowed n least = cond-false (nat_lt n 64) 0 n (le-ltb n 64 least)

allowed_most : (n : ℕ) → if_allowed n ≤ n
allowed_most n = elim (cases_lt n 64) [
  | inl less ↦ omega (arith, cond-true (nat_lt n 64) 0 n (lt-ltb n 64 less))
  | inr no_less ↦ omega (arith, allowed n no_less)
]

no_more_than : (by_octets by_frames reserved : ℕ) → 64 ≤ reserved → reserved ≤ most_reserved → reserved ≤ by_octets → reserved ≤ by_frames →
    reserved ≤ if_allowed (min (min by_octets by_frames) most_reserved)
no_more_than by_octets by_frames reserved least most first second =
    let fits : reserved ≤ min (min by_octets by_frames) most_reserved = omega (arith, most, first, second) in
    omega (arith, fits, allowed (min (min by_octets by_frames) most_reserved) (omega (arith, least, fits)))

both_within : (by_octets by_frames reserved : ℕ) → 64 ≤ reserved → reserved ≤ if_allowed (min (min by_octets by_frames) most_reserved) →
    (reserved ≤ by_octets) × (reserved ≤ by_frames)
both_within by_octets by_frames reserved least fits =
    let within : reserved ≤ min (min by_octets by_frames) most_reserved =
    omega (arith, fits, allowed_most (min (min by_octets by_frames) most_reserved)) in
    (omega (arith, within), omega (arith, within))

-- what is below a number is at most the number before it, and the other way round
one_less : (octets counted before reserved : ℕ) → counted ≡ before + 1 → (reserved < octets + counted → reserved ≤ octets + before)
    × (reserved ≤ octets + before → reserved < octets + counted)
one_less octets counted before reserved is = (λ less. omega (arith, is, less), λ no_more. omega (arith, is, no_more))

module _ (overhead left reserved : ℕ) (short : overhead ≤ most_overhead) (least : 64 ≤ reserved) where
  whole : 64 - overhead + (overhead + 20) ≡ 84
  whole = omega (arith, short)

  some : 0 < 64 - overhead
  some = omega (arith, short)

  before : 64 - overhead ≡ 63 - overhead + 1
  before = omega (arith, short)

  fits_forth : (frames : ℕ) → frames ≡ left / 84 → reserved ≤ most_reserved → cost_of overhead reserved ≤ left → reserved ≤ fits_by overhead frames left
  fits_forth zero is most costs =
      let none : (64 - overhead) * 0 ≡ 0 = omega arith in
      absurd (omega (arith, short, least, none, (forth (64 - overhead) (overhead + 20) whole some 0 left reserved is costs).1))
  fits_forth (suc frames) is most costs =
      let fit = forth (64 - overhead) (overhead + 20) whole some (suc frames) left reserved is costs in
      no_more_than (left - (overhead + 20) * suc frames) ((64 - overhead) * suc frames + (63 - overhead)) reserved least most fit.0
      ((one_less ((64 - overhead) * suc frames) (64 - overhead) (63 - overhead) reserved before).0 fit.1)

  fits_back : (frames : ℕ) → frames ≡ left / 84 → reserved ≤ fits_by overhead frames left → cost_of overhead reserved ≤ left
  fits_back zero is fits = absurd (omega (arith, least, fits))
  fits_back (suc frames) is fits =
      let fit = both_within (left - (overhead + 20) * suc frames) ((64 - overhead) * suc frames + (63 - overhead)) reserved least fits in
      back (64 - overhead) (overhead + 20) whole some (suc frames) left reserved is fit.0
      ((one_less ((64 - overhead) * suc frames) (64 - overhead) (63 - overhead) reserved before).1 fit.1)

pub fits_greatest : FitsIsGreatest
fits_greatest overhead left reserved short least most = (
  λ costs. fits_forth overhead left reserved short least (left / 84) refl most costs,
  λ fits. fits_back overhead left reserved short least (left / 84) refl fits,
)

-- if neither of two refusals is due
pub first_none : (a b : Option Refused) → or_else a b ≡ None → a ≡ None
first_none None b h = refl
first_none (Some x) b h = cc

pub second_none : (a b : Option Refused) → or_else a b ≡ None → b ≡ None
second_none None b h = h
second_none (Some x) b h = cc

pub not_due : (due : Bool) (refused : Refused) → refused_if due refused ≡ None → due ≡ false
not_due false refused h = refl
not_due true refused h = cc

both : (a b : Bool) → not (a && b) ≡ false → (a ≡ true) × (b ≡ true)
both true true h = (refl, refl)
both true false h = cc
both false b h = cc

not_at : (found : Option ℕ) (refused : ℕ → Refused) → refused_at refused found ≡ None → found ≡ None
not_at None refused h = refl
not_at (Some l) refused h = cc

some_is_none : {A : Type 0} (x : A) → Some x ≡ None → ⊥
some_is_none x h = cc

-- if no link lacks room, each link has as much left as a stream costs
none_short : (test : ℕ → Bool) (links : List ℕ) → find test links ≡ None → All (λ l. test l ≡ false) links
none_short test [] h = All-nil (λ l. test l ≡ false)
none_short test (l ∷ links) h = elim (cases_Bool (test l)) [
  | inl short ↦ absurd (some_is_none l (sym (ap (λ (b : Bool). cond b (Some l) (find test links)) short) ∙ h))
  | inr room ↦ All-cons (λ k. test k ≡ false) l links room
      (none_short test links (sym (ap (λ (b : Bool). cond b (Some l) (find test links)) room) ∙ h))
]

none_found : (test : ℕ → Bool) (links : List ℕ) → All (λ l. test l ≡ false) links → find test links ≡ None
none_found test [] h = refl
none_found test (l ∷ links) h =
    ap (λ (b : Bool). cond b (Some l) (find test links)) (All-head (λ k. test k ≡ false) l links h)
    ∙ none_found test links (All-tail (λ k. test k ≡ false) l links h)

-- a stream to which only a budget can object
module _ (d : Domain) (rows : List Row) (asked : Asked) (h : listing_refusal d rows asked ≡ None) where
  abbrev held : Option Refused
  held = refused_if (list_any (λ (row : Row). is_text row.name asked.name) rows) NameHeld

  abbrev many : Option Refused
  many = refused_if (nat_le (streams_within d.limits) (length rows)) TooManyStreams

  form : form_refusal d asked ≡ None
  form = first_none (form_refusal d asked) (or_else held many) h

  following : or_else held many ≡ None
  following = second_none (form_refusal d asked) (or_else held many) h

  free : list_any (λ (row : Row). is_text row.name asked.name) rows ≡ false
  free = not_due _ NameHeld (first_none held many following)

  few : length rows < streams_within d.limits
  few = leb-false (streams_within d.limits) (length rows)
      (not_due (nat_le (streams_within d.limits) (length rows)) TooManyStreams (second_none held many following))

  in_range : (nat_le 64 asked.octets ≡ true) × (nat_le asked.octets most_reserved ≡ true)
  in_range = both (nat_le 64 asked.octets) (nat_le asked.octets most_reserved)
      (not_due _ BadOctets (first_none (refused_if (not (nat_le 64 asked.octets && nat_le asked.octets most_reserved)) BadOctets)
      (or_else (refused_if (not (is_pace asked.every asked.phase)) BadPace) (tree_refusal d asked.paths))
      (second_none (refused_if (not (is_name asked.name)) BadName) _ form)))

  least : 64 ≤ asked.octets
  least = leb-true 64 asked.octets in_range.0

  most : asked.octets ≤ most_reserved
  most = leb-true asked.octets most_reserved in_range.1

  abbrev is_short : ℕ → Bool
  is_short l = nat_lt (left_on d rows (tree_of d asked.paths) (pace_of asked) l) (cost_of d.overhead asked.octets)

  by_budget : refusal_of d rows asked ≡ short_refusal d rows (cost_of d.overhead asked.octets) (pace_of asked) (tree_of d asked.paths)
  by_budget = refusal_later d rows asked form ∙ refusal_last d rows asked free few

  abbrev refused_short : ℕ → Refused
  refused_short l = BudgetShort l (left_on d rows (tree_of d asked.paths) (pace_of asked) l)

  -- what its links have left for it; for a stream of each cycle, what they have left in each cycle
  left_there : pace_of asked ≡ each_cycle → (k other : ℕ) → k < length (links_in (tree_of d asked.paths)) →
      left_on d rows (tree_of d asked.paths) (pace_of asked) (get_or (links_in (tree_of d asked.paths)) k other)
      ≡ left_beside d rows (get_or (links_in (tree_of d asked.paths)) k other)
  left_there paced k other low =
      let tree = tree_of d asked.paths in
      let l = get_or (links_in tree) k other in
      let crossed : list_any (λ n. n == l) (links_in tree) ≡ true = list_any_at (λ n. n == l) (links_in tree) k other low (eq-eqb l l refl) in
      ap (λ (most : ℕ). budget d l - most) (ap (λ (p : Pace). most_beside rows tree p l) paced ∙ beside_is_most rows tree l crossed)

  accepted_fits : d.overhead ≤ most_overhead → pace_of asked ≡ each_cycle → refusal_of d rows asked ≡ None → All (λ l. asked.octets ≤ fits_on d rows l) (links_in (tree_of d asked.paths))
  accepted_fits short paced none k other low =
      let tree = tree_of d asked.paths in
      let room = none_short is_short (links_in tree) (not_at _ refused_short (sym by_budget ∙ none)) in
      let l = get_or (links_in tree) k other in
      let enough = ltb-false (left_on d rows tree (pace_of asked) l) (cost_of d.overhead asked.octets) (room k other low) in
      (fits_greatest d.overhead (left_beside d rows l) asked.octets short least most).0 (subst (λ left. cost_of d.overhead asked.octets ≤ left) (left_there paced k other low) enough)

  fits_accepted : d.overhead ≤ most_overhead → pace_of asked ≡ each_cycle → All (λ l. asked.octets ≤ fits_on d rows l) (links_in (tree_of d asked.paths)) → refusal_of d rows asked ≡ None
  fits_accepted short paced fits =
      let tree = tree_of d asked.paths in
      let room : All (λ l. is_short l ≡ false) (links_in tree) =
      λ k other low. (let l = get_or (links_in tree) k other in
      let enough = (fits_greatest d.overhead (left_beside d rows l) asked.octets short least most).1 (fits k other low) in
      le-ltb (left_on d rows tree (pace_of asked) l) (cost_of d.overhead asked.octets)
      (subst (λ left. cost_of d.overhead asked.octets ≤ left) (sym (left_there paced k other low)) enough)) in
      by_budget ∙ ap (refused_at refused_short) (none_found is_short (links_in tree) room)

-- a stream that is accepted is listed
pub accepted_listed : (d : Domain) (rows : List Row) (asked : Asked) → refusal_of d rows asked ≡ None → listing_refusal d rows asked ≡ None
accepted_listed d rows asked none =
    let form = form_refusal d asked in
    let held = refused_if (list_any (λ (row : Row). is_text row.name asked.name) rows) NameHeld in
    let many = refused_if (nat_le (streams_within d.limits) (length rows)) TooManyStreams in
    let short = short_refusal d rows (cost_of d.overhead asked.octets) (pace_of asked) (tree_of d asked.paths) in
    let parted : or_else form (or_else held (or_else many short)) ≡ None = sym (refusal_in_two d rows asked) ∙ none in
    let following = second_none form (or_else held (or_else many short)) parted in
    ap (λ o. or_else o (or_else held many)) (first_none form (or_else held (or_else many short)) parted)
    ∙ ap (λ o. or_else o many) (first_none held (or_else many short) following)
    ∙ first_none many short (second_none held (or_else many short) following)

-- the greater of two numbers within a bound is within the bound
within_both : (a b most : ℕ) → a ≤ most → b ≤ most → max a b ≤ most
within_both a b most first second = omega arith

-- the greatest of the costs in some active cycles is within a bound if each of them is
pub most_taken : (test : ℕ → Bool) (costs : ℕ → ℕ) (most : ℕ) → ((active_cycle : ℕ) → test active_cycle ≡ true → costs active_cycle ≤ most) → (n : ℕ) →
    fold max 0 (each_below (λ active_cycle. if test active_cycle then costs active_cycle ∷ [] else []) n) ≤ most
most_taken test costs most each zero = omega arith
most_taken test costs most each (suc n) =
    let before : List ℕ = each_below (λ active_cycle. if test active_cycle then costs active_cycle ∷ [] else []) n in
    let so_far : fold max 0 before ≤ most = most_taken test costs most each n in
    elim (cases_Bool (test n)) [
      | inl on ↦
          subst (λ (b : Bool). fold max 0 (before ++ (if b then costs n ∷ [] else [])) ≤ most) (sym on)
          (subst (λ (x : ℕ). x ≤ most) (sym (fold_push max 0 before (costs n))) (within_both (fold max 0 before) (costs n) most so_far (each n on)))
      | inr off ↦
          subst (λ (b : Bool). fold max 0 (before ++ (if b then costs n ∷ [] else [])) ≤ most) (sym off)
          (subst (λ (xs : List ℕ). fold max 0 xs ≤ most) (sym (append-nil before)) so_far)
    ]

-- the most that streams cost of a link in the active cycles of another stream is within a bound if their cost in each of these cycles is
pub most_within : (rows : List Row) (tree : List Hop) (pace : Pace) (l most : ℕ) → ((active_cycle : ℕ) → uses tree pace l active_cycle ≡ true → link_cost rows l active_cycle ≤ most) →
    most_beside rows tree pace l ≤ most
most_within rows tree pace l most each = most_taken (uses tree pace l) (link_cost rows l) most each 80

-- if a cost and what is held are together within a budget, the rest of the budget has room for each
beside_cost : (held mine cost most : ℕ) → held + mine ≤ most → mine ≡ cost → held ≤ most - cost
beside_cost held mine cost most room is = omega arith

room_beside : (held mine cost beside most : ℕ) → held + mine ≤ most → mine ≡ cost → beside ≤ most - cost → cost ≤ most - beside
room_beside held mine cost beside most room is low = omega arith

-- a stream uses each link of its tree in some cycle
in_an_active_cycle : (tree : List Hop) (pace : Pace) (k : ℕ) (none : Hop) → k < length tree → (active_cycle : ℕ) × (uses tree pace (get_or tree k none).link active_cycle ≡ true)
in_an_active_cycle tree pace k none inside =
    let hop : Hop = get_or tree k none in
    let active_cycle : ℕ = pace.phase + hop.hop_number in
    let test : Hop → Bool = λ h. (h.link == hop.link) && is_active pace h.hop_number active_cycle in
    let here : test hop ≡ true =
    and_from (hop.link == hop.link) (is_active pace hop.hop_number active_cycle) (eq-eqb hop.link hop.link refl)
    (eq-eqb (active_cycle % (pace.pause + 1)) (active_cycle % (pace.pause + 1)) refl) in
    (active_cycle, list_any_at test tree k none inside here)

-- and a stream that is listed is accepted if each link has room for it
pub accepted_where_room : (d : Domain) (rows : List Row) (asked : Asked) → listing_refusal d rows asked ≡ None →
    ((l active_cycle : ℕ) → l < length d.links → link_cost rows l active_cycle + cost_on (listed_row d rows asked) l active_cycle ≤ budget d l) → refusal_of d rows asked ≡ None
accepted_where_room d rows asked h room =
    let tree = tree_of d asked.paths in
    let links = links_in tree in
    let first : Hop = record { link = 0; hop_number = 0; from = None } in
    let inside : (k other : ℕ) → k < length links → get_or links k other < length d.links =
    λ k other low. (let below : k < length tree = omega (arith, low, length-map tree (λ (hop : Hop). hop.link)) in
    omega (arith, hops_inside d asked.paths k first below, get_or-map (λ (hop : Hop). hop.link) tree k first other below)) in
    let enough : All (λ l. is_short d rows asked h l ≡ false) links =
    λ k other low. (let l = get_or links k other in
    let pace = pace_of asked in
    let cost : (active_cycle : ℕ) → uses tree pace l active_cycle ≡ true → cost_on (listed_row d rows asked) l active_cycle ≡ cost_of d.overhead asked.octets =
    λ active_cycle on. ap {B = ℕ} (λ (b : Bool). if b then cost_of d.overhead asked.octets else 0) on in
    let new = listed_row d rows asked in
    let most = most_within rows tree pace l (budget d l - cost_of d.overhead asked.octets)
    (λ active_cycle on. beside_cost (link_cost rows l active_cycle) (cost_on new l active_cycle) (cost_of d.overhead asked.octets) (budget d l) (room l active_cycle (inside k other low)) (cost active_cycle on)) in
    let below : k < length tree = omega (arith, low, length-map tree (λ (hop : Hop). hop.link)) in
    let on : (active_cycle : ℕ) × (uses tree pace l active_cycle ≡ true) =
    subst (λ n. (active_cycle : ℕ) × (uses tree pace n active_cycle ≡ true)) (sym (get_or-map (λ (hop : Hop). hop.link) tree k first other below))
    (in_an_active_cycle tree pace k first below) in
    le-ltb (left_on d rows tree pace l) (cost_of d.overhead asked.octets)
    (room_beside (link_cost rows l on.0) (cost_on new l on.0) (cost_of d.overhead asked.octets) (most_beside rows tree pace l) (budget d l)
    (room l on.0 (inside k other low)) (cost on.0 on.1) most)) in
    by_budget d rows asked h ∙ ap (refused_at (refused_short d rows asked h)) (none_found (is_short d rows asked h) links enough)

pub one_more : OneMoreFits
one_more d rows asked short paced h = (accepted_fits d rows asked h short paced, fits_accepted d rows asked h short paced)
