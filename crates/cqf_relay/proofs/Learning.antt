-- What a link knows of rows after it has learned the new ones of a table.
use Rattle.std.proofs.Common.{ℕ, ◌≡◌, ◌≢◌, ◌∙◌, ◌+◌, ◌-◌, ◌<◌, ◌≤◌, ◌==◌, ◌&&◌, ◌||◌, Bool, true, false, cond, List, [], ◌∷◌, ◌++◌, length, length-append}
use Rattle.std.proofs.Common.{refl, sym, ap, subst, inl, inr, arith, Option, Some, None, get_or, replicate}
use Rattle.std.specs.Prelude.{AllPairs, Contains, filter, slice_get}
use Rattle.std.specs.List.{list_any}
use Rattle.std.proofs.lemmas.Bool.{and_right, both_ways, cases_eq, cases_lt, eq-eqb, eqb-true, ne_eqb, or_parts}
use Rattle.std.proofs.lemmas.List.{get_or-append_right, get_or-replicate, get_or_append_left, get_or_at, get_or_past, length-replicate, length_push}
use Rattle.std.proofs.lemmas.List.Folds.{list_any_none}
use Rattle.std.proofs.lemmas.Option.{slice_get-get_or, slice_get_within}
use Rattle.cqf_lists.proofs.Any.{list_any-filter, list_any-map}
use Rattle.cqf_lists.proofs.Members.{all_from_members, contains_here, find_member}
use Rattle.cqf_lists.proofs.Pairs.{pairs_head, pairs_tail, pairs_weaker}
use Rattle.cqf_model.specs.declared.topology.Hop.{Hop}
use Rattle.cqf_model.specs.declared.topology.Row.{Row}
use Rattle.cqf_model.specs.Domain.{Domain, end_of}
use Rattle.cqf_model.specs.Table.{IsTree, goes_to, row_of, same_ingress}
use Rattle.cqf_relay.specs.declared.leads.By.{By}
use Rattle.cqf_relay.specs.declared.leads.By.TheVariants.{Nothing, Edge, Link}
use Rattle.cqf_relay.specs.declared.leads.Leads.{Leads}
use Rattle.cqf_relay.specs.declared.outlet.Outlet.{Outlet}
use Rattle.cqf_relay.specs.Leading.{LearnsRow, by_at, by_hops, by_ingress, is_link, is_some}
use Rattle.cqf_relay.specs.Queues.{AreLeads}
use Rattle.cqf_relay.specs.Standing.{LearnEach, LearnOnEach, known_after}

-- whether a hop is of a link and follows another
abbrev is_after : ℕ → ℕ → Hop → Bool
is_after l m hop = same_ingress hop.from (Some m) && (hop.link == l)

-- how frames arrive at a link by a first hop of it, or by later ones
by_first : (l m : ℕ) (from : Option ℕ) (b rest : Bool) (by : By) → (b ≡ true → rest ≡ false) → (b ≡ false → rest ≡ is_link by m) →
    ((same_ingress from (Some m) && b) || rest) ≡ is_link (cond b (by_ingress from) by) m
by_first l m None true rest by first later = first refl
by_first l m (Some k) true rest by first later = ap (λ (x : Bool). ((k == m) && true) || x) (first refl) ∙ alone (k == m)
  where
    -- a test alone
    alone : (x : Bool) → ((x && true) || false) ≡ x
    alone true = refl
    alone false = refl
by_first l m from false rest by first later = ap (λ (x : Bool). x || rest) (and_right (same_ingress from (Some m)) false refl) ∙ later refl

-- if each link occurs once, the first hop of a link says after which other link it comes
by_hops_of : (l m : ℕ) (hops : List Hop) → AllPairs (λ (a b : Hop). a.link ≢ b.link) hops → list_any (is_after l m) hops ≡ is_link (by_hops l hops) m
by_hops_of l m [] apart = refl
by_hops_of l m (hop ∷ hops) apart =
    by_first l m hop.from (hop.link == l) (list_any (is_after l m) hops) (by_hops l hops)
    (λ is. list_any_none (is_after l m) hops (all_from_members (λ (other : Hop). is_after l m other ≡ false) hops (λ other there.
    and_right (same_ingress other.from (Some m)) (other.link == l)
    (ne_eqb other.link l (λ e. pairs_head (λ (a b : Hop). a.link ≢ b.link) hop hops other apart there (eqb-true hop.link l is ∙ sym e))))))
    (λ other. by_hops_of l m hops (pairs_tail (λ (a b : Hop). a.link ≢ b.link) hop hops apart))

-- whether a row leads from a link to another, by its tree
abbrev pub leads_row : ℕ → ℕ → Row → Bool
leads_row m l row = list_any (λ (next : ℕ). next == l) (goes_to row (Some m))

-- it does if and only if frames arrive at the other by the first
pub leads_by_hops : (d : Domain) (l m : ℕ) (row : Row) → IsTree d row.tree.items → leads_row m l row ≡ is_link (by_hops l row.tree.items) m
leads_by_hops d l m row tree =
    let hops = row.tree.items in
    list_any-map (λ (next : ℕ). next == l) (λ (hop : Hop). hop.link) (filter (λ (hop : Hop). same_ingress hop.from (Some m)) hops)
    ∙ list_any-filter (λ (hop : Hop). hop.link == l) (λ (hop : Hop). same_ingress hop.from (Some m)) hops
    ∙ by_hops_of l m hops (pairs_weaker (λ (a b : Hop). end_of d a.link ≢ end_of d b.link) (λ (a b : Hop). a.link ≢ b.link) hops
    (λ a b _ _ apart same. apart (ap (end_of d) same)) tree.reached_once)

-- rows that say nothing don't matter after others
padded : (rows : List By) (n k : ℕ) → by_at (rows ++ replicate n Nothing) k ≡ by_at rows k
padded rows n k = elim (cases_lt k (length rows)) [
  | inl early ↦ get_or_append_left rows (replicate n Nothing) Nothing k early
  | inr late ↦
      get_or-append_right rows (replicate n Nothing) (length rows) k Nothing refl late ∙ nothing (k - length rows)
      ∙ sym (get_or_past rows k Nothing late)
]
  where
    -- each says nothing
    nothing : (j : ℕ) → get_or (replicate n Nothing) j Nothing ≡ Nothing
    nothing j = elim (cases_lt j n) [
      | inl within ↦ get_or-replicate n j Nothing Nothing within
      | inr past ↦ get_or_past (replicate n Nothing) j Nothing (omega (arith, length-replicate n Nothing, past))
    ]

-- how many rows are known if one is learned after the others
pub length_learned : (rows : List By) (number : ℕ) (by : By) → length rows ≤ number →
    length (rows ++ replicate (number - length rows) Nothing ++ by ∷ []) ≡ number + 1
length_learned rows number by room =
    let pad = replicate (number - length rows) Nothing in
    let all : length (rows ++ pad ++ by ∷ []) ≡ length (rows ++ pad) + 1 = length_push (rows ++ pad) by in
    let both : length (rows ++ pad) ≡ length rows + length pad = length-append rows pad in
    let more : length pad ≡ number - length rows = length-replicate (number - length rows) Nothing in
    omega (arith, all, both, more, room)

-- and what is known of each
pub at_learned : (rows : List By) (number : ℕ) (by : By) (k : ℕ) → length rows ≤ number →
    by_at (rows ++ replicate (number - length rows) Nothing ++ by ∷ []) k ≡ cond (number == k) by (by_at rows k)
at_learned rows number by k room =
    let pad = replicate (number - length rows) Nothing in
    let both : length (rows ++ pad) ≡ length rows + length pad = length-append rows pad in
    let more : length pad ≡ number - length rows = length-replicate (number - length rows) Nothing in
    let long : length (rows ++ pad) ≡ number = omega (arith, both, more, room) in
    elim (cases_eq number k) [
      | inl same ↦ get_or_at (rows ++ pad) by [] Nothing k (long ∙ same) ∙ sym (ap (λ (b : Bool). cond b by (by_at rows k)) (eq-eqb number k same))
      | inr other ↦ elim (cases_lt k number) [
        | inl early ↦
            get_or_append_left (rows ++ pad) (by ∷ []) Nothing k (omega (arith, long, early)) ∙ padded rows (number - length rows) k
            ∙ sym (ap (λ (b : Bool). cond b by (by_at rows k)) (ne_eqb number k other))
        | inr late ↦
            let following : length (rows ++ pad ++ by ∷ []) ≤ k = omega (arith, length_push (rows ++ pad) by, long, late, other) in
            get_or_past (rows ++ pad ++ by ∷ []) k Nothing following ∙ sym (get_or_past rows k Nothing (omega (arith, room, late)))
            ∙ sym (ap (λ (b : Bool). cond b by (by_at rows k)) (ne_eqb number k other))
      ]
    ]

-- a link learns rows, one after the other
abbrev pub LearnsAll : ℕ → List Row → Leads → Leads → Type 0
LearnsAll l [] before after = after ≡ before
LearnsAll l (row ∷ rows) before after =
    (between : Leads) × LearnsRow row.no (by_hops l row.tree.items) before between × LearnsAll l rows between after

-- rows in order of number, after the first `known` numbers
pub record ComeAfter (known : ℕ) (rows : List Row) : Type 0 where
  pub by_number : AllPairs (λ (row other : Row). row.no < other.no) rows
  pub following : (row : Row) → Contains rows row → known ≤ row.no

-- the others follow the first of them
pub later_after : (known : ℕ) (row : Row) (rows : List Row) → ComeAfter known (row ∷ rows) → ComeAfter (row.no + 1) rows
later_after known row rows come = record {
  by_number = pairs_tail (λ (one other : Row). one.no < other.no) row rows come.by_number;
  following = λ other there. let after : row.no < other.no = pairs_head (λ (one other : Row). one.no < other.no) row rows other come.by_number there in
      omega (arith, after);
}

-- no row with a lower number is found
none_below : (known number : ℕ) (rows : List Row) → ComeAfter known rows → number < known → row_of rows number ≡ None
none_below known number rows come low = by (row_of rows number) refl
  where
    -- by what is found
    by : (found : Option Row) → row_of rows number ≡ found → found ≡ None
    by None is = refl
    by (Some row) is =
        let there = find_member (λ (it : Row). it.no == number) rows row is in
        let same : row.no ≡ number = eqb-true row.no number there.1 in
        let high : known ≤ row.no = come.following row there.0 in
        absurd (omega (arith, same, high, low))

-- what a row says of a link, if one is found, and else what was known
abbrev pub found_or : ℕ → Option Row → By → By
found_or l None by = by
found_or l (Some row) by = by_hops l row.tree.items

-- the first row of a number is the one that is learned, or one of the later ones
first_or_later : (l : ℕ) (row : Row) (b : Bool) (later : Option Row) (by : By) → (b ≡ true → later ≡ None) →
    found_or l later (cond b (by_hops l row.tree.items) by) ≡ found_or l (cond b (Some row) later) by
first_or_later l row true later by alone = ap (λ (found : Option Row). found_or l found (by_hops l row.tree.items)) (alone refl)
first_or_later l row false later by alone = refl

-- what is known of a number after rows are learned, in order, after the known ones
pub rows_learned : (l known : ℕ) (rows : List Row) (before after : Leads) → LearnsAll l rows before after → ComeAfter known rows →
    length before.rows.items ≤ known → (number : ℕ) →
    by_at after.rows.items number ≡ found_or l (row_of rows number) (by_at before.rows.items number)
rows_learned l known [] before after learn come room number = ap (λ (leads : Leads). by_at leads.rows.items number) learn
rows_learned l known (row ∷ rows) before after learn come room number =
    let by = by_hops l row.tree.items in
    let between = learn.0 in
    let least : known ≤ row.no = come.following row (contains_here row rows) in
    let fits : length before.rows.items ≤ row.no = omega (arith, least, room) in
    let long : length between.rows.items ≡ row.no + 1 = ap length learn.1.rows ∙ length_learned before.rows.items row.no by fits in
    let rest = later_after known row rows come in
    let at : by_at between.rows.items number ≡ cond (row.no == number) by (by_at before.rows.items number) =
    ap (λ (all : List By). by_at all number) learn.1.rows ∙ at_learned before.rows.items row.no by number fits in
    rows_learned l (row.no + 1) rows between after learn.2 rest (omega (arith, long)) number
    ∙ ap (found_or l (row_of rows number)) at
    ∙ first_or_later l row (row.no == number) (row_of rows number) (by_at before.rows.items number)
    (λ is. none_below (row.no + 1) number rows rest (omega (arith, eqb-true row.no number is)))

-- there are no more of them than numbers
pub room_learned : (l known : ℕ) (rows : List Row) (before after : Leads) → LearnsAll l rows before after → ComeAfter known rows →
    length before.rows.items ≤ known → length after.rows.items ≤ known_after known rows
room_learned l known [] before after learn come room = subst (λ (leads : Leads). length leads.rows.items ≤ known) (sym learn) room
room_learned l known (row ∷ rows) before after learn come room =
    let by = by_hops l row.tree.items in
    let between = learn.0 in
    let least : known ≤ row.no = come.following row (contains_here row rows) in
    let fits : length before.rows.items ≤ row.no = omega (arith, least, room) in
    let long : length between.rows.items ≡ row.no + 1 = ap length learn.1.rows ∙ length_learned before.rows.items row.no by fits in
    room_learned l (row.no + 1) rows between after learn.2 (later_after known row rows come) (omega (arith, long))

-- three tests, one of them passes
either_of_three : (a b c : Bool) → ((a || b) || c) ≡ (a || (b || c))
either_of_three true b c = refl
either_of_three false b c = refl

-- a link is needed if it was needed, or if one of the rows leads from it
pub needs_learned : (l m : ℕ) (rows : List Row) (before after : Leads) → LearnsAll l rows before after →
    list_any (λ it. it == m) after.needs.items
    ≡ (list_any (λ it. it == m) before.needs.items || list_any (λ (row : Row). is_link (by_hops l row.tree.items) m) rows)
needs_learned l m [] before after learn = ap (λ (leads : Leads). list_any (λ it. it == m) leads.needs.items) learn ∙ alone _
  where
    -- a test alone
    alone : (x : Bool) → x ≡ (x || false)
    alone true = refl
    alone false = refl
needs_learned l m (row ∷ rows) before after learn =
    let later = list_any (λ (other : Row). is_link (by_hops l other.tree.items) m) rows in
    needs_learned l m rows learn.0 after learn.2
    ∙ ap (λ (b : Bool). b || later) (learn.1.needs m)
    ∙ either_of_three (list_any (λ it. it == m) before.needs.items) (is_link (by_hops l row.tree.items) m) later

-- an ingress that isn't one is none
none_is_nothing : (by : By) → is_some by ≡ false → by ≡ Nothing
none_is_nothing Nothing is = refl
none_is_nothing Edge is = absurd (both_ways true is refl)
none_is_nothing (Link m) is = absurd (both_ways true is refl)

-- a list in which nothing is found is empty
nothing_there : (xs : List ℕ) → ((m : ℕ) → list_any (λ it. it == m) xs ≡ false) → xs ≡ []
nothing_there [] none = refl
nothing_there (x ∷ xs) none = absurd (both_ways (x == x) ((or_parts (x == x) (list_any (λ it. it == x) xs) (none x)).0) (eq-eqb x x refl))

-- leads stay consistent with one more row
fits_with : (number : ℕ) (by : By) (before after : Leads) → LearnsRow number by before after → length before.rows.items ≤ number →
    AreLeads before → AreLeads after
fits_with number by before after learn room fits = record {
  unused = λ is k.
      let none = or_parts before.used (is_some by) (sym learn.used ∙ is) in
      let nothing = none_is_nothing by none.1 in
      ap (λ (all : List By). by_at all k) learn.rows ∙ at_learned before.rows.items number by k room
      ∙ (λ i. cond (number == k) (nothing i) (fits.unused none.0 k i)) ∙ same_twice (number == k);
  unneeded = λ is.
      let none = or_parts before.used (is_some by) (sym learn.used ∙ is) in
      let nothing = none_is_nothing by none.1 in
      nothing_there after.needs.items (λ m. learn.needs m ∙ (λ i. list_any (λ it. it == m) (fits.unneeded none.0 i) || is_link (nothing i) m));
}
  where
    -- in both cases it is nothing
    same_twice : (b : Bool) → cond b Nothing Nothing ≡ Nothing
    same_twice true = refl
    same_twice false = refl

-- and with more rows
pub fits_learned : (l known : ℕ) (rows : List Row) (before after : Leads) → LearnsAll l rows before after → ComeAfter known rows →
    length before.rows.items ≤ known → AreLeads before → AreLeads after
fits_learned l known [] before after learn come room fits = subst AreLeads (sym learn) fits
fits_learned l known (row ∷ rows) before after learn come room fits =
    let by = by_hops l row.tree.items in
    let between = learn.0 in
    let least : known ≤ row.no = come.following row (contains_here row rows) in
    let small : length before.rows.items ≤ row.no = omega (arith, least, room) in
    let long : length between.rows.items ≡ row.no + 1 = ap length learn.1.rows ∙ length_learned before.rows.items row.no by small in
    fits_learned l (row.no + 1) rows between after learn.2 (later_after known row rows come) (omega (arith, long))
    (fits_with row.no by before between learn.1 small fits)

-- what stays of a link when it learns rows
pub record HasLearned (rows : List Row) (before after : Outlet) : Type 0 where
  pub leads : LearnsAll before.trace.link rows before.leads after.leads
  pub wire : after.wire ≡ before.wire
  pub sent : after.sent ≡ before.sent
  pub reported : after.reported ≡ before.reported
  pub pending : after.pending ≡ before.pending
  pub trace : after.trace ≡ before.trace

-- there are as many links as before
pub count_learned : (rows : List Row) (before after : List Outlet) → LearnEach rows before after → length after ≡ length before
count_learned [] before after learn = ap length learn
count_learned (row ∷ rows) before after learn = count_learned rows learn.0 after learn.2 ∙ learn.1.count

-- the link at an index before
pub record WasAt (rows : List Row) (before : List Outlet) (index : ℕ) (learned : Outlet) : Type 0 where
  pub outlet : Outlet
  pub was : slice_get before index ≡ Some outlet
  pub has : HasLearned rows outlet learned

-- each has learned the rows
pub each_learned : (rows : List Row) (before after : List Outlet) → LearnEach rows before after → (index : ℕ) (learned : Outlet) →
    slice_get after index ≡ Some learned → WasAt rows before index learned
each_learned [] before after learn index learned is = record {
  outlet = learned;
  was = ap (λ (all : List Outlet). slice_get all index) (sym learn) ∙ is;
  has = record { leads = refl; wire = refl; sent = refl; reported = refl; pending = refl; trace = refl };
}
each_learned (row ∷ rows) before after learn index learned is =
    let mid = each_learned rows learn.0 after learn.2 index learned is in
    let within : index < length learn.0 = slice_get_within learn.0 index mid.outlet mid.was in
    let outlet = get_or before index mid.outlet in
    let was = slice_get-get_or before index mid.outlet (omega (arith, within, learn.1.count)) in
    let one = learn.1.each index outlet mid.outlet was mid.was in
    record {
      outlet = outlet;
      was = was;
      has = record {
        leads = (
          mid.outlet.leads,
          one.leads,
          subst (λ (l : ℕ). LearnsAll l rows mid.outlet.leads learned.leads) (ap (λ trace. trace.link) one.trace) mid.has.leads,
        );
        wire = mid.has.wire ∙ one.wire;
        sent = mid.has.sent ∙ one.sent;
        reported = mid.has.reported ∙ one.reported;
        pending = mid.has.pending ∙ one.pending;
        trace = mid.has.trace ∙ one.trace;
      };
    }

-- one more row is learned by each
pub learn_push : (rows : List Row) (row : Row) (before between after : List Outlet) → LearnEach rows before between → LearnOnEach row between after →
    LearnEach (rows ++ row ∷ []) before after
learn_push [] row before between after learn one = (after, subst (λ (outlets : List Outlet). LearnOnEach row outlets after) learn one, refl)
learn_push (first ∷ rows) row before between after learn one =
    (learn.0, learn.1, learn_push rows row learn.0 between after learn.2 one)

-- and the last one's number says how many are known
pub known_push : (known : ℕ) (rows : List Row) (row : Row) → known_after known (rows ++ row ∷ []) ≡ row.no + 1
known_push known [] row = refl
known_push known (first ∷ rows) row = known_push (first.no + 1) rows row
