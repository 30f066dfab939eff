-- No two starts of a book are of the same frame on the same link.
use Rattle.std.proofs.Common.{◌≡◌, ℕ, ◌<◌, List, sym, ap, ◌∙◌, subst, arith, AllPairs, length, ◌==◌}
use Rattle.std.proofs.lemmas.List.Kept.{AllPairs-filter}
use Rattle.cqf_lists.specs.Lists.{each_below}
use Rattle.cqf_lists.proofs.EachBelow.{contains_from_below}
use Rattle.cqf_lists.proofs.Pairs.{pairs_below, pairs_map, pairs_weaker}
use Rattle.cqf_model.specs.declared.frames.Sent.{Sent}
use Rattle.cqf_model.specs.declared.frames.Started.{Started}
use Rattle.cqf_model.specs.Book.{batch, started, starts_in, starts_of}
use Rattle.cqf_model.specs.Domain.{cycle_of}
use Rattle.cqf_model.specs.Run.{Run, end_of_run}
use Rattle.cqf_model.specs.Policing.{Carried}
use Rattle.cqf_laws_shift.specs.Alone.{IsRunAs}
use Rattle.cqf_laws_shift.proofs.Came.{queued}
use Rattle.cqf_laws_shift.proofs.CycleLaws.{CycleLaws}
use Rattle.cqf_laws_shift.proofs.Runs.{sends, sent_at, sents_are}
use Rattle.cqf_laws_shift.proofs.Singles.{sent_once}
use Rattle.cqf_laws_shift.proofs.Octets.{IsOfSent, of_sent}

-- two starts aren't of the same frame on the same link
abbrev pub AreApart : Started → Started → Type 0
AreApart a b = a.frame ≡ b.frame → a.link ≡ b.link → ⊥

module _ (laws : CycleLaws) (run : Run) (carried : Carried) {heard : Carried} (alone : IsRunAs run carried heard) where
  -- a link sends one frame after the other
  sents_ascend : (link : ℕ) → link < length run.domain.links → AllPairs (λ (a b : Sent). a.start.0 < b.start.0) (carried link)
  sents_ascend link is_link =
      let s = sends laws run carried alone link is_link in
      subst (AllPairs (λ (a b : Sent). a.start.0 < b.start.0)) (sym (sents_are laws run carried alone link is_link))
      (pairs_map (λ (a b : Sent). a.start.0 < b.start.0) (sent_at (queued run heard (end_of_run run) link)) s.starts s.legal.in_order)

  -- and no two of the same frame
  pub sents_apart : (link : ℕ) → link < length run.domain.links → AllPairs (λ (a b : Sent). a.frame ≡ b.frame → ⊥) (carried link)
  sents_apart link is_link =
      pairs_weaker (λ (a b : Sent). a.start.0 < b.start.0) (λ (a b : Sent). a.frame ≡ b.frame → ⊥) (carried link)
      (λ a b ca cb less frames.
      let one = sent_once laws run carried alone link is_link a b ca cb frames in
      omega (arith, less, ap (λ (z : Sent). z.start.0) one))
      (sents_ascend link is_link)

  -- nor in one batch
  batch_apart : (cycle link : ℕ) → link < length run.domain.links → AllPairs AreApart (starts_in run.domain carried cycle link)
  batch_apart cycle link is_link =
      let in_cycle = λ (z : Sent). cycle_of run.domain z.start.0 == cycle in
      let apart = λ (a b : Sent). a.frame ≡ b.frame → ⊥ in
      pairs_map AreApart (started cycle link) (batch run.domain carried link cycle)
      (pairs_weaker apart (λ (a b : Sent). AreApart (started cycle link a) (started cycle link b)) (batch run.domain carried link cycle)
      (λ a b ca cb differ frames links. differ frames)
      (AllPairs-filter apart in_cycle (carried link) (sents_apart link is_link)))

  -- for one frame on one link there is one cycle
  one_cycle : (link j k : ℕ) (a b : Started) → link < length run.domain.links → IsOfSent run carried j link a → IsOfSent run carried k link b →
      a.frame ≡ b.frame → j ≡ k
  one_cycle link j k a b is_link x y frames =
      let one = sent_once laws run carried alone link is_link x.sent y.sent x.inside y.inside
      (ap (λ (z : Started). z.frame) x.is ∙ frames ∙ ap (λ (z : Started). z.frame) (sym y.is)) in
      sym x.in_cycle ∙ ap (λ (z : Sent). cycle_of run.domain z.start.0) one ∙ y.in_cycle

  -- nor in all batches
  pub starts_apart : (cycles : ℕ) → AllPairs AreApart (starts_of run.domain cycles carried)
  starts_apart cycles =
      let links = length run.domain.links in
      let in_cycle : ℕ → List Started = λ (cycle : ℕ). each_below (starts_in run.domain carried cycle) links in
      pairs_below AreApart in_cycle cycles
      (λ cycle l. pairs_below AreApart (starts_in run.domain carried cycle) links (λ link is_link. batch_apart cycle link is_link)
      (λ j k a b less m ca cb frames same.
      let x = of_sent run carried cycle j a ca in
      let y = of_sent run carried cycle k b cb in
      omega (arith, less, same, ap (λ (z : Started). z.link) x.is, ap (λ (z : Started). z.link) y.is)))
      (λ j k a b less m ca cb frames same.
      let u = contains_from_below (starts_in run.domain carried j) links a ca in
      let v = contains_from_below (starts_in run.domain carried k) links b cb in
      let x = of_sent run carried j u.0 a u.2 in
      let y = of_sent run carried k v.0 b v.2 in
      let link : v.0 ≡ u.0 = ap (λ (z : Started). z.link) y.is ∙ sym same ∙ ap (λ (z : Started). z.link) (sym x.is) in
      omega (arith, less, one_cycle u.0 j k a b u.1 x (subst (λ (z : ℕ). IsOfSent run carried k z b) link y) frames))
