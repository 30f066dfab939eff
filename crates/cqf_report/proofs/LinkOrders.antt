-- The order of the starts of a book.
use Rattle.std.proofs.Common.{◌≡◌, ℕ, List, length, inl, inr, Contains, sym, ap, ◌∙◌, subst, arith}
use Rattle.cqf_lists.specs.Lists.{each_below}
use Rattle.cqf_lists.proofs.EachBelow.{contains_from_below}
use Rattle.cqf_lists.proofs.Members.{contains_from_map}
use Rattle.cqf_lists.proofs.Pairs.{pairs_below, pairs_members}
use Rattle.cqf_model.specs.declared.frames.Started.{Started}
use Rattle.cqf_model.specs.Book.{Contents, IsBook, batch, started, starts_in, starts_of}
use Rattle.cqf_model.specs.Domain.{Domain}
use Rattle.cqf_model.specs.GateList.{Entry}
use Rattle.cqf_model.specs.Run.{Run}
use Rattle.cqf_model.specs.Policing.{Carried}
use Rattle.cqf_report.specs.LinkSums.{AreSumsInOrder, IsBefore}

module _ (d : Domain) (carried : Carried) where
  -- a start of a batch is on its link in its cycle
  of_batch : (cycle link : ℕ) (x : Started) → Contains (starts_in d carried cycle link) x → (x.cycle.0 ≡ cycle) × (x.link ≡ link)
  of_batch cycle link x among =
      let from = contains_from_map (started cycle link) (batch d carried link cycle) x among in
      (ap (λ (s : Started). s.cycle.0) (sym from.2), ap (λ (s : Started). s.link) (sym from.2))

  -- the starts of a cycle are in order of link
  cycle_in_order : (cycle : ℕ) → AreSumsInOrder (each_below (starts_in d carried cycle) (length d.links))
  cycle_in_order cycle =
      pairs_below IsBefore (starts_in d carried cycle) (length d.links)
      (λ link below. pairs_members IsBefore (starts_in d carried cycle link) (λ x y in_x in_y.
      let one = of_batch cycle link x in_x in
      let two = of_batch cycle link y in_y in
      inr (one.0 ∙ sym two.0, omega (arith, one.1, two.1))))
      (λ j k x y less below in_x in_y.
      let one = of_batch cycle j x in_x in
      let two = of_batch cycle k y in_y in
      inr (one.0 ∙ sym two.0, omega (arith, one.1, two.1, less)))

  -- all starts are in order of cycle
  pub starts_in_order : (cycles : ℕ) → AreSumsInOrder (starts_of d cycles carried)
  starts_in_order cycles =
      pairs_below IsBefore (λ cycle. each_below (starts_in d carried cycle) (length d.links)) cycles
      (λ cycle below. cycle_in_order cycle)
      (λ j k x y less below in_x in_y.
      let one = contains_from_below (starts_in d carried j) (length d.links) x in_x in
      let two = contains_from_below (starts_in d carried k) (length d.links) y in_y in
      inl (omega (arith, (of_batch j one.0 x one.2).0, (of_batch k two.0 y two.2).0, less)))

-- so are those of every book
pub book_in_order : (run : Run) (lists : ℕ → List Entry) (cycles : ℕ) (book : Contents) → IsBook run lists cycles book → AreSumsInOrder book.starts
book_in_order run lists cycles book is =
    subst (λ (xs : List Started). AreSumsInOrder xs) (sym is.are_starts) (starts_in_order run.domain is.net.carried cycles)
