-- Each start of a book is that of a frame that a link sends, so it has its offer's octets.
use Rattle.std.proofs.Common.{◌≡◌, ℕ, ◌<◌, sym, ap, ◌∙◌, Contains, length, eqb-true, ◌==◌}
use Rattle.cqf_lists.specs.Lists.{each_below}
use Rattle.cqf_lists.proofs.Members.{contains_from_filter, contains_from_map}
use Rattle.cqf_lists.proofs.EachBelow.{contains_from_below}
use Rattle.cqf_model.specs.declared.frames.Offered.{Offered}
use Rattle.cqf_model.specs.declared.frames.Sent.{Sent}
use Rattle.cqf_model.specs.declared.frames.Started.{Started}
use Rattle.cqf_model.specs.Book.{batch, started, starts_in, starts_of}
use Rattle.cqf_model.specs.Domain.{bridge_of, cycle_of}
use Rattle.cqf_model.specs.Run.{Run}
use Rattle.cqf_model.specs.Policing.{Carried, numbered}
use Rattle.cqf_laws_shift.specs.Alone.{IsRunAs}
use Rattle.cqf_laws_shift.proofs.Came.{one_number}
use Rattle.cqf_laws_shift.proofs.CycleLaws.{CycleLaws}
use Rattle.cqf_laws_shift.proofs.Runs.{sent_timed}
use Rattle.cqf_laws_shift.proofs.Paths.{on_path}

module _ (run : Run) (carried : Carried) where
  -- a start is that of a frame that its link sends in its cycle
  pub record IsOfSent (cycle link : ℕ) (s : Started) : Type 0 where
    pub sent : Sent
    pub inside : Contains (carried link) sent
    pub is : started cycle link sent ≡ s
    pub in_cycle : cycle_of run.domain sent.start.0 ≡ cycle

  -- this holds for each start of a batch
  pub of_sent : (cycle link : ℕ) (s : Started) → Contains (starts_in run.domain carried cycle link) s → IsOfSent cycle link s
  of_sent cycle link s c =
      let made = contains_from_map (started cycle link) (batch run.domain carried link cycle) s c in
      let kept = contains_from_filter (λ (z : Sent). cycle_of run.domain z.start.0 == cycle) (carried link) made.0 made.1 in
      record { sent = made.0; inside = kept.0; is = made.2; in_cycle = eqb-true (cycle_of run.domain made.0.start.0) cycle kept.1 }

  -- a start of a book is such, in a cycle of the run and on a link of the domain
  pub record IsOfBatch (cycles : ℕ) (s : Started) : Type 0 where
    pub cycle : ℕ
    pub link : ℕ
    pub in_run : cycle < cycles
    pub is_link : link < length run.domain.links
    pub of : IsOfSent cycle link s

  pub of_batch : (cycles : ℕ) (s : Started) → Contains (starts_of run.domain cycles carried) s → IsOfBatch cycles s
  of_batch cycles s c =
      let by_cycle = contains_from_below (λ (cycle : ℕ). each_below (starts_in run.domain carried cycle) (length run.domain.links)) cycles s c in
      let by_link = contains_from_below (starts_in run.domain carried by_cycle.0) (length run.domain.links) s by_cycle.2 in
      record { cycle = by_cycle.0; link = by_link.0; in_run = by_cycle.1; is_link = by_link.1; of = of_sent by_cycle.0 by_link.0 s by_link.2 }

module _ (laws : CycleLaws) (run : Run) (carried : Carried) {heard : Carried} (alone : IsRunAs run carried heard) where
  -- what a link sends has the octets of the offer of its number
  pub sent_octets : (link : ℕ) → link < length run.domain.links → (sent : Sent) → Contains (carried link) sent → (x : Offered) →
      Contains (numbered run.offers) x → sent.frame ≡ x.frame → sent.octets ≡ x.offer.octets
  sent_octets link is_link sent c x inside frames =
      let s = sent_timed laws run carried alone link is_link sent c in
      let ingress = on_path laws run carried alone (bridge_of run.domain link) s.0.p s.0.row link s.0.inside s.0.verdict s.0.goes in
      let same : ingress.x ≡ x = one_number run.offers ingress.x x ingress.covered.offered inside (sym ingress.frame ∙ sym s.0.frame ∙ frames) in
      s.0.octets ∙ ingress.octets ∙ ap (λ (z : Offered). z.offer.octets) same

  -- so does each start
  pub start_octets : (cycles : ℕ) (s : Started) → Contains (starts_of run.domain cycles carried) s → (x : Offered) → Contains (numbered run.offers) x →
      s.frame ≡ x.frame → s.octets ≡ x.offer.octets
  start_octets cycles s c x inside frames =
      let b = of_batch run carried cycles s c in
      ap (λ (z : Started). z.octets) (sym b.of.is)
      ∙ sent_octets b.link b.is_link b.of.sent b.of.inside x inside (ap (λ (z : Started). z.frame) b.of.is ∙ frames)
