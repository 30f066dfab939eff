-- The starts of a run on a link are what the link carries, in order.
use Rattle.std.proofs.Common.{◌≡◌, ℕ, ◌<◌, ◌==◌, sym, ap, ◌∙◌, arith, Contains, filter, map, length, eq-eqb}
use Rattle.std.proofs.Common.{eqb-true, ne_eqb}
use Rattle.std.proofs.lemmas.Simd.{map-map}
use Rattle.cqf_lists.specs.Lists.{each_below}
use Rattle.cqf_lists.proofs.EachBelow.{contains_from_below, filter_below, filter_each, map_below, same_below}
use Rattle.cqf_lists.proofs.Made.{map_same}
use Rattle.cqf_lists.proofs.Members.{contains_from_filter, contains_from_map}
use Rattle.cqf_lists.proofs.Picked.{filter_one}
use Rattle.cqf_model.specs.declared.frames.Sent.{Sent}
use Rattle.cqf_model.specs.declared.frames.Started.{Started}
use Rattle.cqf_model.specs.Book.{batch, started, starts_in, starts_of}
use Rattle.cqf_model.specs.Domain.{Domain, cycle_of}
use Rattle.cqf_model.specs.Policing.{Carried}
use Rattle.cqf_laws_coverage.proofs.InTurn.{IsInTurn, batches}
use Rattle.cqf_instants_run.specs.Feeding.{arrival_of_sent, arrival_of_start, is_start_on, streams_fed_on}

module _ (d : Domain) (cycles : ℕ) (carried : Carried) (some : 0 < d.cycle_time) (in_turn : IsInTurn d cycles carried) where
  -- a start of a batch is on its link, in its cycle
  of_batch : (cycle l : ℕ) (x : Started) → Contains (starts_in d carried cycle l) x → x.link ≡ l
  of_batch cycle l x c = ap (λ (s : Started). s.link) (sym (contains_from_map (started cycle l) (batch d carried l cycle) x c).2)

  -- the starts of a cycle on a link
  on_link_in : (l cycle : ℕ) → l < length d.links → filter (is_start_on l) (each_below (starts_in d carried cycle) (length d.links))
      ≡ starts_in d carried cycle l
  on_link_in l cycle is_link =
      filter_one (is_start_on l) (starts_in d carried cycle) (length d.links) l is_link
      (λ j x other c. ne_eqb x.link l (λ e. other (sym (of_batch cycle j x c) ∙ e)))
      ∙ filter_each (is_start_on l) (starts_in d carried cycle l) (λ x c. eq-eqb x.link l (of_batch cycle l x c))

  -- as its port is given them
  given_in : (l cycle : ℕ) → map arrival_of_start (starts_in d carried cycle l) ≡ map (arrival_of_sent d) (batch d carried l cycle)
  given_in l cycle =
      map-map arrival_of_start (started cycle l) (batch d carried l cycle)
      ∙ map_same (λ x. arrival_of_start (started cycle l x)) (arrival_of_sent d) (batch d carried l cycle) (λ x c.
      let of_cycle = contains_from_filter (λ (y : Sent). cycle_of d y.start.0 == cycle) (carried l) x c in
      ap (λ k. arrival_of_start (started k l x)) (sym (eqb-true (cycle_of d x.start.0) cycle of_cycle.1)))

  -- so the starts on a link, as its port is given them, are what it carries
  pub streams_are : (l : ℕ) → l < length d.links → streams_fed_on l (starts_of d cycles carried) ≡ map (arrival_of_sent d) (carried l)
  streams_are l is_link =
      ap (map arrival_of_start) (filter_below (is_start_on l) (λ cycle. each_below (starts_in d carried cycle) (length d.links)) cycles
      ∙ same_below (λ cycle. filter (is_start_on l) (each_below (starts_in d carried cycle) (length d.links))) (λ cycle. starts_in d carried cycle l) cycles
      (λ cycle less. on_link_in l cycle is_link))
      ∙ map_below arrival_of_start (λ cycle. starts_in d carried cycle l) cycles
      ∙ same_below (λ cycle. map arrival_of_start (starts_in d carried cycle l)) (λ cycle. map (arrival_of_sent d) (batch d carried l cycle)) cycles
      (λ cycle less. given_in l cycle)
      ∙ sym (map_below (arrival_of_sent d) (batch d carried l) cycles)
      ∙ ap (map (arrival_of_sent d)) (sym (batches d cycles carried some in_turn l is_link))

  -- each start is on a link of the domain
  pub starts_on_links : (x : Started) → Contains (starts_of d cycles carried) x → x.link < length d.links
  starts_on_links x c =
      let cycle = contains_from_below (λ cycle. each_below (starts_in d carried cycle) (length d.links)) cycles x c in
      let l = contains_from_below (starts_in d carried cycle.0) (length d.links) x cycle.2 in
      omega (arith, l.1, of_batch cycle.0 l.0 x l.2)
