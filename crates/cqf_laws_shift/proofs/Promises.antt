-- The book of a legal run keeps what is promised: its starts are the shift, and its drops are what isn't covered.
use Rattle.std.proofs.Common.{◌≡◌, ℕ, ◌+◌, ◌<◌, [], List, sym, ap, ◌∙◌, subst, arith, refl, AllPairs, Contains, filter, length}
use Rattle.std.proofs.Common.{eq-eqb, eqb-true, ◌==◌}
use Rattle.std.proofs.lemmas.Bool.{and_from, and_parts}
use Rattle.cqf_lists.specs.Lists.{each_below}
use Rattle.cqf_lists.proofs.EachBelow.{contains_below, contains_from_below}
use Rattle.cqf_lists.proofs.Members.{contains_map, contains_from_map, contains_filter, contains_from_filter, contains_flat, contains_here}
use Rattle.cqf_model.proofs.Drops.{drop_for, dropped_at, drops_at}
use Rattle.cqf_model.specs.declared.frames.Dropped.{Dropped}
use Rattle.cqf_model.specs.declared.frames.Offered.{Offered}
use Rattle.cqf_model.specs.declared.frames.Sent.{Sent}
use Rattle.cqf_model.specs.declared.frames.Started.{Started}
use Rattle.cqf_model.specs.Book.{starts_in, started, batch, drops_of, drops_in, drop_by, is_of_index}
use Rattle.cqf_model.specs.Domain.{Domain, cycle_of}
use Rattle.cqf_model.specs.Network.{Network}
use Rattle.cqf_model.specs.Promise.{IsOfUncovered, MeansTheShift, SaysTheShift}
use Rattle.cqf_model.specs.Run.{end_of_run}
use Rattle.cqf_model.specs.Shift.{InShift, offer_cycle}
use Rattle.cqf_model.specs.Policing.{Carried, DroppedFor, Policed, Received, numbered, offer_received}
use Rattle.cqf_laws_shift.specs.Alone.{IsRunAlone}
use Rattle.cqf_laws_shift.specs.Books.{BookSaysTheShift}
use Rattle.cqf_laws_shift.specs.Run.{RunBesideIsRunAlone}
use Rattle.cqf_laws_shift.proofs.Apart.{AreApart, starts_apart}
use Rattle.cqf_laws_shift.proofs.Came.{policed}
use Rattle.cqf_laws_shift.proofs.CycleLaws.{CycleLaws}
use Rattle.cqf_laws_shift.proofs.DropsApart.{DropsApart, drops_apart}
use Rattle.cqf_laws_shift.proofs.MainLaws.{alone_means_the_shift}
use Rattle.cqf_laws_shift.proofs.Octets.{start_octets}
use Rattle.cqf_laws_shift.proofs.Shifts.{dropped_uncovered, sent_in_shift, shift_is_sent, uncovered_dropped}

-- the book of the run
pub book_says_the_shift : CycleLaws → RunBesideIsRunAlone → BookSaysTheShift
book_says_the_shift laws beside run book accepted orderly offered background is_book =
    record { is_book = is_book; loses_nothing = means.none_lost; means = means; says = says }
  where
    -- the book's network
    net : Network
    net = is_book.net

    -- what its links carry
    carried : Carried
    carried = net.carried

    -- beside background frames the run is one of its streams alone
    alone : IsRunAlone run carried
    alone = beside run net (record { accepted = accepted; orderly = orderly; offered = offered; background = background; legal = is_book.legal })

    -- the run's domain
    d : Domain
    d = run.domain

    -- the starts of a cycle
    in_cycle : ℕ → List Started
    in_cycle cycle = each_below (starts_in d carried cycle) (length d.links)

    -- the verdicts on the frames that arrive at a bridge
    given : ℕ → List Policed
    given bridge = policed run carried (end_of_run run) bridge

    -- each start in the book is in the shift
    only : (s : Started) → Contains book.starts s → InShift run (length run.tables) s.frame s.link s.cycle.0
    only s c =
        let by_cycle = contains_from_below in_cycle (length run.tables) s (subst (λ z. Contains z s) is_book.are_starts c) in
        let by_link = contains_from_below (starts_in d carried by_cycle.0) (length d.links) s by_cycle.2 in
        let sent = contains_from_map (started by_cycle.0 by_link.0) (batch d carried by_link.0 by_cycle.0) s by_link.2 in
        let kept = contains_from_filter (λ (z : Sent). cycle_of d z.start.0 == by_cycle.0) (carried by_link.0) sent.0 sent.1 in
        let shift = sent_in_shift laws run carried alone by_link.0 by_link.1 sent.0 kept.0 in
        subst (λ (z : Started). InShift run (length run.tables) z.frame z.link z.cycle.0) sent.2
        (subst (λ z. InShift run (length run.tables) sent.0.frame by_link.0 z) (eqb-true (cycle_of d sent.0.start.0) by_cycle.0 kept.1) shift)

    -- each frame, link and cycle of the shift is a start in the book
    each : (frame link cycle : ℕ) → InShift run (length run.tables) frame link cycle → (s : Started) × Contains book.starts s × (s.frame ≡ frame) ×
        (s.link ≡ link) × (s.cycle.0 ≡ cycle)
    each frame link cycle shift =
        let r = shift_is_sent laws run carried alone frame link cycle shift in
        let kept = contains_filter (λ (z : Sent). cycle_of d z.start.0 == cycle) (carried link) r.sent r.inside
        (eq-eqb (cycle_of d r.sent.start.0) cycle r.is_cycle) in
        let mapped = contains_map (started cycle link) (batch d carried link cycle) r.sent kept in
        let s = started cycle link r.sent in
        let here = contains_below in_cycle (length run.tables) cycle s shift.within_run
        (contains_below (starts_in d carried cycle) (length d.links) link s r.is_link mapped) in
        (s, subst (λ z. Contains z s) (sym is_book.are_starts) here, r.is_frame, refl, refl)

    -- each drop in the book is of an offer that isn't covered
    only_drops : (x : Dropped) → Contains book.drops x → IsOfUncovered run x
    only_drops x c =
        let by_cycle = contains_from_below (λ cycle. each_below (drops_in d (length run.offers) given cycle) (length d.bridges)) (length run.tables) x
        (subst (λ z. Contains z x) is_book.are_drops c) in
        let by_bridge = contains_from_below (drops_in d (length run.offers) given by_cycle.0) (length d.bridges) x by_cycle.2 in
        let from = dropped_at d (length run.offers) given by_cycle.0 by_bridge.0 x by_bridge.2 in
        let parts = and_parts (cycle_of d from.p.received.at == by_cycle.0) (from.p.received.frame == from.index + 1) from.of_index in
        let u = dropped_uncovered laws run carried alone.planned by_bridge.0 from.p from.reason from.inside from.verdict in
        subst (IsOfUncovered run) from.is (record {
          x = u.0.offered;
          uncovered = u.1;
          within_run = by_cycle.1;
          cycle = sym (eqb-true (cycle_of d from.p.received.at) by_cycle.0 parts.0) ∙ ap (λ (z : Received). cycle_of d z.at) (sym u.0.is);
          bridge = sym u.0.here;
          frame = ap (λ (z : Received). z.frame) (sym u.0.is);
          octets = ap (λ (z : Received). z.octets) (sym u.0.is);
        })

    -- each drop of an offer that isn't covered is in the book
    each_drop : (x : Dropped) → IsOfUncovered run x → Contains book.drops x
    each_drop x u =
        let cycle = offer_cycle d u.x in
        let bridge = u.x.offer.bridge in
        let in_run : cycle < length run.tables = omega (arith, u.cycle, u.within_run) in
        let r = uncovered_dropped laws run carried alone.planned u.x x.reason u.uncovered in_run in
        let p : Policed = record { received = offer_received u.x; verdict = DroppedFor x.reason } in
        let passes = and_from (cycle_of d p.received.at == cycle) (p.received.frame == r.index + 1) (eq-eqb cycle cycle refl)
        (eq-eqb p.received.frame (r.index + 1) r.frame) in
        let kept = contains_filter (is_of_index d cycle r.index) (given bridge) p r.inside passes in
        let it = drop_for cycle bridge p.received x.reason in
        let same : it ≡ x = λ i. record {
          cycle = record { 0 = sym u.cycle i };
          bridge = sym u.bridge i;
          frame = sym u.frame i;
          octets = sym u.octets i;
          reason = x.reason;
        } in
        let here = contains_flat (λ (q : Policed). drop_by cycle bridge q.received q.verdict) (filter (is_of_index d cycle r.index) (given bridge)) p it kept
        (contains_here it []) in
        let placed = contains_below (drops_at d given cycle bridge) (length run.offers) r.index it r.is_index here in
        let bridged = contains_below (drops_in d (length run.offers) given cycle) (length d.bridges) bridge it r.is_bridge placed in
        let whole = contains_below (λ c. each_below (drops_in d (length run.offers) given c) (length d.bridges)) (length run.tables) cycle it in_run bridged in
        subst (λ z. Contains z x) (sym is_book.are_drops) (subst (λ z. Contains (drops_of d (length run.tables) (length run.offers) given) z) same whole)

    -- no two starts are of the same frame on the same link
    once_each : AllPairs AreApart book.starts
    once_each = subst (AllPairs AreApart) (sym is_book.are_starts) (starts_apart laws run carried alone (length run.tables))

    -- each has its offer's octets
    octets : (s : Started) (x : Offered) → Contains book.starts s → Contains (numbered run.offers) x → s.frame ≡ x.frame → s.octets ≡ x.offer.octets
    octets s x c inside frames =
        start_octets laws run carried alone (length run.tables) s (subst (λ (xs : List Started). Contains xs s) is_book.are_starts c) x inside frames

    -- and no two drops are of the same frame
    once_dropped : AllPairs DropsApart book.drops
    once_dropped = subst (AllPairs DropsApart) (sym is_book.are_drops) (drops_apart laws run carried alone.planned)

    -- the network means the shift
    means : MeansTheShift run carried
    means = alone_means_the_shift laws run carried alone

    -- and the book says it
    says : SaysTheShift run book
    says = record {
      only = only;
      each = each;
      only_drops = only_drops;
      each_drop = each_drop;
      once_each = once_each;
      octets = octets;
      once_dropped = once_dropped;
    }
