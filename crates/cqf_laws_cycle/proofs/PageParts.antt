-- The pages of a book, and the book of its pages.
use Rattle.std.proofs.Common.{◌≡◌, ℕ, ◌*◌, ◌<◌, List, length, sym, refl, ap, ◌∙◌, inl, inr, subst}
use Rattle.std.specs.Prelude.{[], ◌&&◌, ◌==◌, filter, map, Contains, if◌then◌else◌}
use Rattle.std.proofs.lemmas.Bool.{and_from, and_left, and_right, cases_Bool, cond-false, cond-true, eq-eqb, ne_eqb}
use Rattle.cqf_lists.specs.Lists.{each_below}
use Rattle.cqf_lists.proofs.EachBelow.{contains_from_below, filter_below, filter_each, filter_none, same_below}
use Rattle.cqf_lists.proofs.Made.{contains_if}
use Rattle.cqf_lists.proofs.Members.{contains_from_map}
use Rattle.cqf_lists.proofs.Picked.{filter_one}
use Rattle.cqf_model.specs.declared.frames.Dropped.{Dropped}
use Rattle.cqf_model.specs.declared.frames.Started.{Started}
use Rattle.cqf_model.specs.declared.ports.Start.{Start}
use Rattle.cqf_model.specs.Book.{Contents, backed_batch, background_in, background_of, batch, drops_in, drops_of, page_drops, page_of}
use Rattle.cqf_model.specs.Book.{page_starts, started, started_backed, starts_in, starts_of}
use Rattle.cqf_model.specs.Domain.{Domain, IsAccepted, bridge_of, leaves}
use Rattle.cqf_model.specs.Policing.{Carried, Policed, policed_before}
use Rattle.cqf_model.proofs.Drops.{dropped_at}
use Rattle.cqf_model.proofs.Links.{bridge_within, leaves_its_bridge}
use Rattle.cqf_laws_cycle.specs.PageLaws.{HaveTheSamePages, IsSomeBook, book_of_pages, drops_of_pages, is_on_link, on_links_of, starts_of_pages}

-- each drop of a bridge in a cycle has this bridge and this cycle
drop_of : (d : Domain) (indices : ℕ) (policed : ℕ → List Policed) (cycle bridge : ℕ) (x : Dropped) → Contains (drops_in d indices policed cycle bridge) x →
    (x.cycle.0 ≡ cycle) × (x.bridge ≡ bridge)
drop_of d indices policed cycle bridge x h =
    let from = dropped_at d indices policed cycle bridge x h in
    (sym (ap (λ (y : Dropped). y.cycle.0) from.is), sym (ap (λ (y : Dropped). y.bridge) from.is))

-- the page's drops are those at the bridge in the cycle
pub drops_on_page : (d : Domain) (cycles indices : ℕ) (policed : ℕ → List Policed) (bridge cycle : ℕ) → bridge < length d.bridges → cycle < cycles →
    page_drops bridge cycle (drops_of d cycles indices policed) ≡ drops_in d indices policed cycle bridge
drops_on_page d cycles indices policed bridge cycle in_bridges in_cycles =
    let test = λ (x : Dropped). (x.bridge == bridge) && (x.cycle.0 == cycle) in
    let each = λ (c : ℕ). each_below (drops_in d indices policed c) (length d.bridges) in
    let own = λ (x : Dropped) (h : Contains (drops_in d indices policed cycle bridge) x). drop_of d indices policed cycle bridge x h in
    filter_one test each cycles cycle in_cycles (λ c x differ h.
    let w = contains_from_below (drops_in d indices policed c) (length d.bridges) x h in
    and_right (x.bridge == bridge) (x.cycle.0 == cycle) (ne_eqb x.cycle.0 cycle (λ same. differ (sym (drop_of d indices policed c w.0 x w.2).0 ∙ same))))
    ∙ filter_one test (drops_in d indices policed cycle) (length d.bridges) bridge in_bridges (λ b x differ h.
    and_left (x.bridge == bridge) (x.cycle.0 == cycle) (ne_eqb x.bridge bridge (λ same. differ (sym (drop_of d indices policed cycle b x h).1 ∙ same))))
    ∙ filter_each test (drops_in d indices policed cycle bridge) (λ x h.
    and_from (x.bridge == bridge) (x.cycle.0 == cycle) (eq-eqb x.bridge bridge (own x h).1) (eq-eqb x.cycle.0 cycle (own x h).0))

-- what is sent of one kind in each cycle on each link, and the book's record of it, which has its cycle and its link
module _ {A : Type 0} (by : ℕ → ℕ → A → Started) (bears_cycle : (cycle link : ℕ) (x : A) → (by cycle link x).cycle.0 ≡ cycle)
    (bears_link : (cycle link : ℕ) (x : A) → (by cycle link x).link ≡ link) (d : Domain) (sends : ℕ → ℕ → List A) where
  -- the starts on a link in a cycle
  abbrev on_link : ℕ → ℕ → List Started
  on_link cycle link = map (by cycle link) (sends cycle link)

  -- all starts of the first cycles
  abbrev all_starts : ℕ → List Started
  all_starts cycles = each_below (λ cycle. each_below (on_link cycle) (length d.links)) cycles

  -- a start is of the cycle and the link of its list
  start_of : (cycle link : ℕ) (x : Started) → Contains (on_link cycle link) x → (x.cycle.0 ≡ cycle) × (x.link ≡ link)
  start_of cycle link x h =
      let s = contains_from_map (by cycle link) (sends cycle link) x h in
      (sym (ap (λ (y : Started). y.cycle.0) s.2) ∙ bears_cycle cycle link s.0, sym (ap (λ (y : Started). y.link) s.2) ∙ bears_link cycle link s.0)

  -- the starts on a link in a cycle, if the link leaves the bridge
  abbrev from_bridge : ℕ → ℕ → ℕ → List Started
  from_bridge bridge cycle link = if leaves d link bridge then on_link cycle link else []

  -- the page has all or nothing of what a link sends in a cycle
  link_on_page : (bridge cycle link : ℕ) →
      filter (λ (s : Started). leaves d s.link bridge && (s.cycle.0 == cycle)) (on_link cycle link) ≡ from_bridge bridge cycle link
  link_on_page bridge cycle link =
      let test = λ (s : Started). leaves d s.link bridge && (s.cycle.0 == cycle) in
      let sent = on_link cycle link in
      elim (cases_Bool (leaves d link bridge)) [
        | inl here ↦ filter_each test sent (λ x h.
            let w = start_of cycle link x h in
            and_from (leaves d x.link bridge) (x.cycle.0 == cycle) (ap (λ (l : ℕ). leaves d l bridge) w.1 ∙ here) (eq-eqb x.cycle.0 cycle w.0))
            ∙ sym (cond-true (leaves d link bridge) sent [] here)
        | inr elsewhere ↦ filter_none test sent (λ x h.
            let w = start_of cycle link x h in
            and_left (leaves d x.link bridge) (x.cycle.0 == cycle) (ap (λ (l : ℕ). leaves d l bridge) w.1 ∙ elsewhere))
            ∙ sym (cond-false (leaves d link bridge) sent [] elsewhere)
      ]

  -- the page's starts are those of the bridge's links in the cycle
  starts_on_page : (cycles bridge cycle : ℕ) → cycle < cycles → page_starts d bridge cycle (all_starts cycles) ≡ on_links_of d bridge (on_link cycle)
  starts_on_page cycles bridge cycle in_cycles =
      let test = λ (s : Started). leaves d s.link bridge && (s.cycle.0 == cycle) in
      let links = length d.links in
      let each = λ (c : ℕ). each_below (on_link c) links in
      filter_one test each cycles cycle in_cycles (λ c x differ h.
      let w = contains_from_below (on_link c) links x h in
      and_right (leaves d x.link bridge) (x.cycle.0 == cycle) (ne_eqb x.cycle.0 cycle (λ same. differ (sym (start_of c w.0 x w.2).0 ∙ same))))
      ∙ filter_below test (on_link cycle) links
      ∙ same_below (λ l. filter test (on_link cycle l)) (from_bridge bridge cycle) links (λ l h. link_on_page bridge cycle l)

  -- what a link sends in a cycle is on the page of its bridge
  link_of_page : (cycles cycle link : ℕ) → cycle < cycles → link < length d.links →
      on_link cycle link ≡ filter (is_on_link link) (page_starts d (bridge_of d link) cycle (all_starts cycles))
  link_of_page cycles cycle link in_cycles in_links =
      let bridge = bridge_of d link in
      let sent = on_link cycle link in
      let page = ap (filter (is_on_link link)) (starts_on_page cycles bridge cycle in_cycles) in
      let one = filter_one (is_on_link link) (from_bridge bridge cycle) (length d.links) link in_links (λ l x differ h.
      ne_eqb x.link link (λ same. differ (sym (start_of cycle l x (contains_if (leaves d l bridge) (on_link cycle l) x h)).1 ∙ same))) in
      let all = filter_each (is_on_link link) sent (λ x h. eq-eqb x.link link (start_of cycle link x h).1) in
      let whole = ap (filter (is_on_link link)) (cond-true (leaves d link bridge) sent [] (leaves_its_bridge d link in_links)) in
      sym (page ∙ one ∙ whole ∙ all)

  -- so the starts are those of all pages
  starts_are_pages : (cycles : ℕ) → all_starts cycles ≡ starts_of_pages d cycles (λ bridge cycle. page_starts d bridge cycle (all_starts cycles))
  starts_are_pages cycles =
      let starts = all_starts cycles in
      let links = length d.links in
      let of_page = λ (cycle l : ℕ). filter (is_on_link l) (page_starts d (bridge_of d l) cycle starts) in
      same_below (λ cycle. each_below (on_link cycle) links) (λ cycle. each_below (of_page cycle) links) cycles (λ cycle in_cycles.
      same_below (on_link cycle) (of_page cycle) links (λ l in_links. link_of_page cycles cycle l in_cycles in_links))

-- the streams' frames of a page
pub sent_on_page : (d : Domain) (cycles : ℕ) (carried : Carried) (bridge cycle : ℕ) → cycle < cycles →
    page_starts d bridge cycle (starts_of d cycles carried) ≡ on_links_of d bridge (starts_in d carried cycle)
sent_on_page d cycles carried =
    starts_on_page started (λ cycle link x. refl) (λ cycle link x. refl) d (λ cycle link. batch d carried link cycle) cycles

-- and its background frames
pub background_on_page : (d : Domain) (cycles : ℕ) (backed : ℕ → List Start) (bridge cycle : ℕ) → cycle < cycles →
    page_starts d bridge cycle (background_of d cycles backed) ≡ on_links_of d bridge (background_in d backed cycle)
background_on_page d cycles backed =
    starts_on_page started_backed (λ cycle link x. refl) (λ cycle link x. refl) d (λ cycle link. backed_batch d backed link cycle) cycles

-- the drops are those of all pages
drops_are_pages : (d : Domain) (cycles indices : ℕ) (policed : ℕ → List Policed) →
    drops_of d cycles indices policed ≡ drops_of_pages d cycles (λ bridge cycle. page_drops bridge cycle (drops_of d cycles indices policed))
drops_are_pages d cycles indices policed =
    let drops = drops_of d cycles indices policed in
    let bridges = length d.bridges in
    same_below (λ cycle. each_below (drops_in d indices policed cycle) bridges) (λ cycle. each_below (λ bridge. page_drops bridge cycle drops) bridges) cycles
    (λ cycle in_cycles.
    same_below (drops_in d indices policed cycle) (λ bridge. page_drops bridge cycle drops) bridges
    (λ bridge in_bridges. sym (drops_on_page d cycles indices policed bridge cycle in_bridges in_cycles)))

-- a book is its pages
pub book_is_pages : (d : Domain) (cycles : ℕ) (book : Contents) → IsSomeBook d cycles book →
    book ≡ book_of_pages d cycles (λ bridge cycle. page_of d bridge cycle book)
book_is_pages d cycles book some i =
    let is = some.is_book in
    let sent : book.starts ≡ starts_of_pages d cycles (λ bridge cycle. page_starts d bridge cycle book.starts) =
    subst (λ (xs : List Started). xs ≡ starts_of_pages d cycles (λ bridge cycle. page_starts d bridge cycle xs)) (sym is.are_starts)
    (starts_are_pages started (λ cycle link x. refl) (λ cycle link x. refl) d (λ cycle link. batch d is.net.carried link cycle) cycles) in
    let backed : book.background ≡ starts_of_pages d cycles (λ bridge cycle. page_starts d bridge cycle book.background) =
    subst (λ (xs : List Started). xs ≡ starts_of_pages d cycles (λ bridge cycle. page_starts d bridge cycle xs)) (sym is.are_background)
    (starts_are_pages started_backed (λ cycle link x. refl) (λ cycle link x. refl) d (λ cycle link. backed_batch d is.net.backed link cycle) cycles) in
    let dropped : book.drops ≡ drops_of_pages d cycles (λ bridge cycle. page_drops bridge cycle book.drops) =
    subst (λ (xs : List Dropped). xs ≡ drops_of_pages d cycles (λ bridge cycle. page_drops bridge cycle xs)) (sym is.are_drops)
    (drops_are_pages d cycles (length some.offers)
    (λ bridge. policed_before (record { domain = d; tables = some.tables; offers = some.offers; background = some.background }) is.net.carried bridge
    (cycles * d.cycle_time))) in
    record { starts = sent i; background = backed i; drops = dropped i }

-- the same starts on each page give the same starts
same_page_starts : (d : Domain) (cycles : ℕ) (page other : ℕ → ℕ → List Started) → IsAccepted d →
    ((bridge cycle : ℕ) → bridge < length d.bridges → cycle < cycles → page bridge cycle ≡ other bridge cycle) →
    starts_of_pages d cycles page ≡ starts_of_pages d cycles other
same_page_starts d cycles page other accepted same =
    let links = length d.links in
    let of = λ (p : ℕ → ℕ → List Started) (cycle l : ℕ). filter (is_on_link l) (p (bridge_of d l) cycle) in
    same_below (λ cycle. each_below (of page cycle) links) (λ cycle. each_below (of other cycle) links) cycles (λ cycle in_cycles.
    same_below (of page cycle) (of other cycle) links (λ l in_links.
    ap (filter (is_on_link l)) (same (bridge_of d l) cycle (bridge_within d l accepted in_links) in_cycles)))

-- and so for drops
same_page_drops : (d : Domain) (cycles : ℕ) (page other : ℕ → ℕ → List Dropped) →
    ((bridge cycle : ℕ) → bridge < length d.bridges → cycle < cycles → page bridge cycle ≡ other bridge cycle) →
    drops_of_pages d cycles page ≡ drops_of_pages d cycles other
same_page_drops d cycles page other same =
    let bridges = length d.bridges in
    same_below (λ cycle. each_below (λ bridge. page bridge cycle) bridges) (λ cycle. each_below (λ bridge. other bridge cycle) bridges) cycles
    (λ cycle in_cycles.
    same_below (λ bridge. page bridge cycle) (λ bridge. other bridge cycle) bridges (λ bridge in_bridges. same bridge cycle in_bridges in_cycles))

-- so the same pages make one book
pub same_pages : (d : Domain) (cycles : ℕ) (page other : ℕ → ℕ → Contents) → IsAccepted d →
    ((bridge cycle : ℕ) → bridge < length d.bridges → cycle < cycles → page bridge cycle ≡ other bridge cycle) →
    book_of_pages d cycles page ≡ book_of_pages d cycles other
same_pages d cycles page other accepted same i = record {
  starts = same_page_starts d cycles (λ bridge cycle. (page bridge cycle).starts) (λ bridge cycle. (other bridge cycle).starts) accepted
      (λ b c h k. ap (λ (x : Contents). x.starts) (same b c h k)) i;
  background = same_page_starts d cycles (λ bridge cycle. (page bridge cycle).background) (λ bridge cycle. (other bridge cycle).background) accepted
      (λ b c h k. ap (λ (x : Contents). x.background) (same b c h k)) i;
  drops = same_page_drops d cycles (λ bridge cycle. (page bridge cycle).drops) (λ bridge cycle. (other bridge cycle).drops)
      (λ b c h k. ap (λ (x : Contents). x.drops) (same b c h k)) i;
}

-- and two books with the same pages are equal
pub one_book : (d : Domain) (cycles : ℕ) (book other : Contents) → IsAccepted d → IsSomeBook d cycles book → IsSomeBook d cycles other →
    HaveTheSamePages d cycles book other → book ≡ other
one_book d cycles book other accepted is also same =
    book_is_pages d cycles book is
    ∙ same_pages d cycles (λ bridge cycle. page_of d bridge cycle book) (λ bridge cycle. page_of d bridge cycle other) accepted same
    ∙ sym (book_is_pages d cycles other also)
