-- The starts of a book are the hops of the covered offers.
use Rattle.std.proofs.Common.{◌≡◌, ℕ, ◌+◌, ◌<◌, ◌≤◌, List, Bool, true, false, inl, inr, sym, ap, ◌∙◌, subst, arith, refl, AllPairs, Contains, filter}
use Rattle.std.proofs.Common.{flat_map, map, sum_by, length, eq-eqb, eqb-true, ◌==◌, ◌&&◌, nat_lt, if◌then◌else◌, le_of_eq}
use Rattle.std.proofs.lemmas.Bool.{cases_Bool, cases_lt, and_from, and_parts, cond-true, cond-false, lt-ltb, ltb-true, ltb-false}
use Rattle.std.proofs.lemmas.List.Kept.{AllPairs-filter}
use Rattle.cqf_lists.proofs.Members.{contains_filter, contains_flat, contains_from_filter, contains_from_flat, contains_from_map, contains_map, contains_none}
use Rattle.cqf_lists.proofs.Pairs.{pairs_map, pairs_none, pairs_weaker}
use Rattle.cqf_lists.proofs.Sums.{sum_filter, sum_flat, sum_map, sum_none}
use Rattle.cqf_model.specs.declared.frames.Offered.{Offered}
use Rattle.cqf_model.specs.declared.frames.Started.{Started}
use Rattle.cqf_model.specs.declared.topology.Hop.{Hop}
use Rattle.cqf_model.specs.declared.topology.Row.{Row}
use Rattle.cqf_model.specs.Book.{starts_of}
use Rattle.cqf_model.specs.Domain.{Domain, end_of}
use Rattle.cqf_model.specs.Run.{Run}
use Rattle.cqf_model.specs.Shift.{InShift, IsCovered, offer_cycle}
use Rattle.cqf_model.specs.Table.{IsTree}
use Rattle.cqf_model.specs.Policing.{Carried, Verdict, Queued, DroppedFor, LacksRow, ExceedsGate, numbered}
use Rattle.cqf_model.specs.Promise.{IsDecided}
use Rattle.cqf_laws_shift.specs.Alone.{IsRunAlone}
use Rattle.cqf_laws_shift.specs.Books.{BookSaysTheShift}
use Rattle.cqf_laws_shift.specs.Run.{RunBesideIsRunAlone}
use Rattle.cqf_laws_shift.proofs.Came.{numbers_ascend}
use Rattle.cqf_laws_shift.proofs.CycleLaws.{CycleLaws}
use Rattle.cqf_laws_shift.proofs.Decided.{covered_judged, judged, uncovered_judged}
use Rattle.cqf_laws_shift.proofs.Paths.{covered_tree}
use Rattle.cqf_laws_coverage.specs.Counted.{AreDecided, StartsAreHops, hops_of, sum_of_hops}
use Rattle.cqf_laws_shift.proofs.Apart.{AreApart, starts_apart}
use Rattle.cqf_laws_coverage.proofs.Matched.{pairs_flat, sum_le_own}
use Rattle.cqf_laws_shift.proofs.Octets.{start_octets}

-- a verdict in accordance with the definitions is the one that they give
pub decided_is : (run : Run) (x : Offered) (v : Verdict) → IsDecided run x v → judged run x ≡ v
decided_is run x (Queued row) is = covered_judged run x row is
decided_is run x (DroppedFor reason) is = uncovered_judged run x reason is
decided_is run x LacksRow is = absurd is
decided_is run x ExceedsGate is = absurd is

-- what leaves by a hop is covered by the row of the hop's tree
record IsOfRow (run : Run) (x : Offered) (hop : Hop) : Type 0 where
  row : Row
  covered : IsCovered run x row
  of_tree : Contains row.tree.items hop

hop_of_row : (run : Run) (x : Offered) (v : Verdict) (hop : Hop) → IsDecided run x v → Contains (hops_of v) hop → IsOfRow run x hop
hop_of_row run x (Queued row) hop is c = record { row = row; covered = is; of_tree = c }
hop_of_row run x (DroppedFor reason) hop is c = absurd (contains_none hop c)
hop_of_row run x LacksRow hop is c = absurd is
hop_of_row run x ExceedsGate hop is c = absurd is

-- two pairs of an offer and a hop aren't of the same frame on the same link
abbrev HopsApart : (a b : Offered × Hop) → Type 0
HopsApart a b = a.0.frame ≡ b.0.frame → a.1.link ≡ b.1.link → ⊥

-- the links of a verdict's hops differ
links_differ : (d : Domain) (row : Row) → IsTree d row.tree.items → AllPairs (λ (a b : Hop). a.link ≡ b.link → ⊥) row.tree.items
links_differ d row tree =
    pairs_weaker (λ (a b : Hop). end_of d a.link ≡ end_of d b.link → ⊥) (λ (a b : Hop). a.link ≡ b.link → ⊥) row.tree.items
    (λ a b ca cb apart same. apart (ap (end_of d) same)) tree.reached_once

verdict_links : (run : Run) (x : Offered) (v : Verdict) → ((row : Row) → IsCovered run x row → IsTree run.domain row.tree.items) → IsDecided run x v →
    AllPairs (λ (a b : Hop). a.link ≡ b.link → ⊥) (hops_of v)
verdict_links run x (Queued row) trees is = links_differ run.domain row (trees row is)
verdict_links run x (DroppedFor reason) trees is = pairs_none (λ (a b : Hop). a.link ≡ b.link → ⊥)
verdict_links run x LacksRow trees is = absurd is
verdict_links run x ExceedsGate trees is = absurd is

module _ (laws : CycleLaws) (run : Run) (carried : Carried) (alone : IsRunAlone run carried) (starts : List Started) (verdict : Offered → Verdict)
    (are_starts : starts ≡ starts_of run.domain (length run.tables) carried)
    (only : (s : Started) → Contains starts s → InShift run (length run.tables) s.frame s.link s.cycle.0)
    (each : (frame link cycle : ℕ) → InShift run (length run.tables) frame link cycle → (s : Started) × Contains starts s × (s.frame ≡ frame)
    × (s.link ≡ link) × (s.cycle.0 ≡ cycle))
    (decided : AreDecided run verdict) (counts : ℕ → ℕ → ℕ → ℕ)
    (none_later : (link cycle octets : ℕ) → length run.tables ≤ cycle → counts link cycle octets ≡ 0) where
  -- the offers of the run's cycles
  abbrev early : Offered → Bool
  early x = nat_lt (offer_cycle run.domain x) (length run.tables)

  abbrev offers : List Offered
  offers = filter early (numbered run.offers)

  -- an offer with each of its hops
  abbrev with_hops : Offered → List (Offered × Hop)
  with_hops x = map (λ (hop : Hop). (x, hop)) (hops_of (verdict x))

  abbrev pairs : List (Offered × Hop)
  pairs = flat_map with_hops offers

  -- what a start counts, and what a hop
  abbrev of_start : Started → ℕ
  of_start s = counts s.link s.cycle.0 s.octets

  abbrev of_hop : Offered × Hop → ℕ
  of_hop y = counts y.1.link (offer_cycle run.domain y.0 + y.1.hop_number) y.0.offer.octets

  -- what all hops of an offer count
  abbrev of_offer : Offered → ℕ
  of_offer x = sum_by (λ (hop : Hop). of_hop (x, hop)) (hops_of (verdict x))

  -- whether a start and a hop are of the same frame on the same link
  abbrev match : Started → Offered × Hop → Bool
  match s y = (s.frame == y.0.frame) && (s.link == y.1.link)

  -- an offer of the run is decided
  is_early : (x : Offered) → Contains offers x → Contains (numbered run.offers) x × (offer_cycle run.domain x < length run.tables)
  is_early x c =
      let kept = contains_from_filter early (numbered run.offers) x c in
      (kept.0, ltb-true (offer_cycle run.domain x) (length run.tables) kept.1)

  -- a start has its offer's octets
  octets : (s : Started) → Contains starts s → (x : Offered) → Contains (numbered run.offers) x → s.frame ≡ x.frame → s.octets ≡ x.offer.octets
  octets s c x inside frames =
      start_octets laws run carried alone (length run.tables) s (subst (λ (xs : List Started). Contains xs s) are_starts c) x inside frames

  -- three equal arguments count the same
  same_counts : (l m c e o p : ℕ) → l ≡ m → c ≡ e → o ≡ p → counts l c o ≡ counts m e p
  same_counts l m c e o p links cycles octets = λ i. counts (links i) (cycles i) (octets i)

  -- each start has its hop
  start_has : (s : Started) → Contains starts s → 0 < of_start s → (y : Offered × Hop) × Contains pairs y × (match s y ≡ true) × (of_start s ≤ of_hop y)
  start_has s c some =
      let shift = only s c in
      let x = shift.x in
      let hop = shift.is_hop.hop in
      let in_run : offer_cycle run.domain x < length run.tables = omega (arith, shift.is_cycle, shift.within_run) in
      let is : verdict x ≡ Queued shift.row = sym (decided_is run x (verdict x) (decided x shift.covered.offered in_run))
      ∙ covered_judged run x shift.row shift.covered in
      let among : Contains (hops_of (verdict x)) hop = subst (λ (v : Verdict). Contains (hops_of v) hop) (sym is) shift.is_hop.of_tree in
      let kept = contains_filter early (numbered run.offers) x shift.covered.offered (lt-ltb (offer_cycle run.domain x) (length run.tables) in_run) in
      let member = contains_flat with_hops offers x (x, hop) kept (contains_map (λ (hop : Hop). (x, hop)) (hops_of (verdict x)) hop among) in
      let matched = and_from (s.frame == x.frame) (s.link == hop.link) (eq-eqb s.frame x.frame shift.is_frame)
      (eq-eqb s.link hop.link (sym shift.is_hop.is_link)) in
      let cycle : s.cycle.0 ≡ offer_cycle run.domain x + hop.hop_number = omega (arith, shift.is_cycle, shift.is_hop.is_hop_number) in
      let value = same_counts s.link hop.link s.cycle.0 (offer_cycle run.domain x + hop.hop_number) s.octets x.offer.octets (sym shift.is_hop.is_link) cycle
      (octets s c x shift.covered.offered shift.is_frame) in
      ((x, hop), member, matched, le_of_eq value)

  -- and each hop its start
  hop_has : (y : Offered × Hop) → Contains pairs y → 0 < of_hop y → (s : Started) × Contains starts s × (match s y ≡ true) × (of_hop y ≤ of_start s)
  hop_has y c some =
      let from = contains_from_flat with_hops offers y c in
      let made = contains_from_map (λ (hop : Hop). (from.0, hop)) (hops_of (verdict from.0)) y from.2 in
      subst (λ (z : Offered × Hop). (s : Started) × Contains starts s × (match s z ≡ true) × (of_hop z ≤ of_start s)) made.2
      (of_pair from.0 made.0 from.1 made.1 (subst (λ (z : Offered × Hop). 0 < of_hop z) (sym made.2) some))
    where
      -- a hop of an offer has its start
      of_pair : (x : Offered) (hop : Hop) → Contains offers x → Contains (hops_of (verdict x)) hop → 0 < of_hop (x, hop) →
          (s : Started) × Contains starts s × (match s (x, hop) ≡ true) × (of_hop (x, hop) ≤ of_start s)
      of_pair x hop kept among some =
          let index = is_early x kept in
          let row = hop_of_row run x (verdict x) hop (decided x index.0 index.1) among in
          let cycle = offer_cycle run.domain x + hop.hop_number in
          elim (cases_lt cycle (length run.tables)) [
            | inl within ↦
                let shift : InShift run (length run.tables) x.frame hop.link cycle = record {
                  x = x;
                  row = row.row;
                  hop_number = hop.hop_number;
                  covered = row.covered;
                  is_frame = refl;
                  is_hop = record { hop = hop; of_tree = row.of_tree; is_hop_number = refl; is_link = refl };
                  is_cycle = refl;
                  within_run = within;
                } in
                let s = each x.frame hop.link cycle shift in
                let matched = and_from (s.0.frame == x.frame) (s.0.link == hop.link) (eq-eqb s.0.frame x.frame s.2) (eq-eqb s.0.link hop.link s.3) in
                let value = same_counts hop.link s.0.link cycle s.0.cycle.0 x.offer.octets s.0.octets (sym s.3) (sym s.4)
                (sym (octets s.0 s.1 x index.0 s.2)) in
                (s.0, s.1, matched, le_of_eq value)
            | inr past ↦ absurd (omega (arith, some, none_later hop.link cycle x.offer.octets past))
          ]

  -- no two starts have the same hop
  no_two_starts : (y : Offered × Hop) → AllPairs (λ (a b : Started). match a y ≡ true → match b y ≡ true → ⊥) starts
  no_two_starts y =
      pairs_weaker AreApart (λ (a b : Started). match a y ≡ true → match b y ≡ true → ⊥) starts
      (λ a b ca cb apart ma mb.
      let p = and_parts (a.frame == y.0.frame) (a.link == y.1.link) ma in
      let q = and_parts (b.frame == y.0.frame) (b.link == y.1.link) mb in
      apart (eqb-true a.frame y.0.frame p.0 ∙ sym (eqb-true b.frame y.0.frame q.0)) (eqb-true a.link y.1.link p.1 ∙ sym (eqb-true b.link y.1.link q.1)))
      (subst (AllPairs AreApart) (sym are_starts) (starts_apart laws run carried alone (length run.tables)))

  -- no two hops are of the same frame on the same link
  hops_apart : AllPairs HopsApart pairs
  hops_apart =
      pairs_flat HopsApart with_hops offers
      (λ x c. let index = is_early x c in
      pairs_map HopsApart (λ (hop : Hop). (x, hop)) (hops_of (verdict x))
      (pairs_weaker (λ (a b : Hop). a.link ≡ b.link → ⊥) (λ (a b : Hop). HopsApart (x, a) (x, b)) (hops_of (verdict x))
      (λ a b ca cb apart frames links. apart links)
      (verdict_links run x (verdict x) (λ row covered. covered_tree laws run carried alone x row covered) (decided x index.0 index.1))))
      (pairs_weaker (λ (a b : Offered). a.frame < b.frame)
      (λ (x z : Offered). (a b : Offered × Hop) → Contains (with_hops x) a → Contains (with_hops z) b → HopsApart a b) offers
      (λ x z cx cz less a b ca cb frames links.
      let p = contains_from_map (λ (hop : Hop). (x, hop)) (hops_of (verdict x)) a ca in
      let q = contains_from_map (λ (hop : Hop). (z, hop)) (hops_of (verdict z)) b cb in
      omega (arith, less, frames, ap (λ (w : Offered × Hop). w.0.frame) p.2, ap (λ (w : Offered × Hop). w.0.frame) q.2))
      (AllPairs-filter (λ (a b : Offered). a.frame < b.frame) early (numbered run.offers) (numbers_ascend run.offers)))

  -- so no two have the same start
  no_two_hops : (s : Started) → AllPairs (λ (a b : Offered × Hop). match s a ≡ true → match s b ≡ true → ⊥) pairs
  no_two_hops s =
      pairs_weaker HopsApart (λ (a b : Offered × Hop). match s a ≡ true → match s b ≡ true → ⊥) pairs
      (λ a b ca cb apart ma mb.
      let p = and_parts (s.frame == a.0.frame) (s.link == a.1.link) ma in
      let q = and_parts (s.frame == b.0.frame) (s.link == b.1.link) mb in
      apart (sym (eqb-true s.frame a.0.frame p.0) ∙ eqb-true s.frame b.0.frame q.0) (sym (eqb-true s.link a.1.link p.1) ∙ eqb-true s.link b.1.link q.1))
      hops_apart

  -- what the starts count is what the hops of the run's offers count
  starts_count : sum_by of_start starts ≡ sum_by of_hop pairs
  starts_count =
      omega (
        arith,
        sum_le_own of_start of_hop match starts pairs start_has no_two_starts,
        sum_le_own of_hop of_start (λ y s. match s y) pairs starts hop_has no_two_hops,
      )

  -- and later offers count nothing
  later_none : (x : Offered) → early x ≡ false → of_offer x ≡ 0
  later_none x past =
      let from = ltb-false (offer_cycle run.domain x) (length run.tables) past in
      sum_none (λ (hop : Hop). of_hop (x, hop)) (hops_of (verdict x))
      (λ hop c. none_later hop.link (offer_cycle run.domain x + hop.hop_number) x.offer.octets (omega (arith, from)))

  pairs_count : sum_by of_hop pairs ≡ sum_of_hops run.domain verdict counts (numbered run.offers)
  pairs_count =
      sum_flat of_hop with_hops offers
      ∙ ap (λ (h : Offered → ℕ). sum_by h offers) (λ i. λ x. sum_map of_hop (λ (hop : Hop). (x, hop)) (hops_of (verdict x)) i)
      ∙ sum_filter of_offer early (numbered run.offers)
      ∙ ap (λ (h : Offered → ℕ). sum_by h (numbered run.offers)) (λ i. λ x. whole x i)
    where
      -- whether it is early or not, an offer counts this
      whole : (x : Offered) → (if early x then of_offer x else 0) ≡ of_offer x
      whole x = elim (cases_Bool (early x)) [
        | inl t ↦ cond-true (early x) (of_offer x) 0 t
        | inr f ↦ cond-false (early x) (of_offer x) 0 f ∙ sym (later_none x f)
      ]

  pub counted : sum_by of_start starts ≡ sum_of_hops run.domain verdict counts (numbered run.offers)
  counted = starts_count ∙ pairs_count

-- the law
pub starts_are_hops : CycleLaws → RunBesideIsRunAlone → BookSaysTheShift → StartsAreHops
starts_are_hops laws beside says run book verdict accepted orderly offered background is_book decided counts none_later =
    let alone = beside run is_book.net (record { accepted = accepted; orderly = orderly; offered = offered; background = background; legal = is_book.legal }) in
    let shift = (says run book accepted orderly offered background is_book).says in
    counted laws run is_book.net.carried alone book.starts verdict is_book.are_starts shift.only shift.each decided counts none_later
