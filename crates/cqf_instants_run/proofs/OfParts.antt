-- The starts, background frames and drops of a history are its book.
use Rattle.std.proofs.Common.{◌≡◌, ℕ, ◌<◌, [], List, true, Option, Some, None, inl, inr, sym, ap, ◌∙◌, subst, arith, refl, is_some}
use Rattle.std.proofs.Common.{Contains, get_or, length, map}
use Rattle.std.specs.Prelude.{◌==◌, filter}
use Rattle.std.proofs.lemmas.Bool.{false≢true}
use Rattle.std.proofs.lemmas.List.{length-map}
use Rattle.std.proofs.lemmas.List.Elements.{Contains-get_or}
use Rattle.cqf_lists.specs.Lists.{each_below}
use Rattle.cqf_lists.proofs.EachBelow.{none_below}
use Rattle.cqf_lists.proofs.Kept.{flat_none}
use Rattle.cqf_lists.proofs.Members.{all_from_members, contains_none}
use Rattle.cqf_model.specs.declared.frames.Background.{Background}
use Rattle.cqf_model.specs.declared.frames.Dropped.{Dropped}
use Rattle.cqf_model.specs.declared.frames.Started.{Started}
use Rattle.cqf_model.specs.declared.ports.Arrival.{Arrival}
use Rattle.cqf_model.specs.declared.ports.Start.{Start}
use Rattle.cqf_model.specs.Book.{Contents, background_in, background_of, started_backed, starts_of}
use Rattle.cqf_model.specs.Domain.{cycle_of}
use Rattle.cqf_model.specs.History.{table_at, tables_of}
use Rattle.cqf_model.specs.HistoryBook.{run_of_history}
use Rattle.cqf_model.specs.Network.{Network, QueuedFrame, backed_by, backed_of, comes_before, no_frame}
use Rattle.cqf_model.specs.Run.{IsBackground, Run}
use Rattle.cqf_laws_cycle.specs.Beside.{is_of_stream}
use Rattle.cqf_laws_history.specs.HistoryLaws.{TablesAreOrderly}
use Rattle.cqf_laws_shift.specs.Run.{IsLegalRun}
use Rattle.cqf_laws_shift.proofs.QueuesByCycles.{comes_of}
use Rattle.cqf_lists.proofs.EachBelow.{length-singles}
use Rattle.cqf_laws_coverage.specs.Reported.{BookOfHistoryIsThere, IsThere}
use Rattle.cqf_instants_run.specs.Parts.{AreBookOfHistory, AreQuietBookOfHistory}

-- a stream's frame starts no background frame
streams_start_none : (t : ℕ) (x : Arrival) (stream : Option ℕ) → is_some stream ≡ true → backed_by t x stream ≡ []
streams_start_none t x None e = absurd (false≢true e)
streams_start_none t x (Some number) e = refl

-- if no background frame arrives, none starts
module _ (run : Run) (quiet : run.background ≡ []) (net : Network) (legal : IsLegalRun run net) where
  -- what arrives at a port
  abbrev comes : ℕ → List QueuedFrame
  comes l = comes_before run net.carried l (length run.tables)

  -- is of streams
  of_streams : (l : ℕ) (q : QueuedFrame) → Contains (comes l) q → is_of_stream q ≡ true
  of_streams l q c = elim (comes_of run net.carried l (length run.tables) q c) [
    | inl back ↦ absurd (contains_none back.0 (subst (λ (xs : List Background). Contains xs back.0) quiet back.1))
    | inr of_stream ↦ of_stream
  ]

  -- so no link has one
  no_backed : (l : ℕ) → l < length run.domain.links → net.backed l ≡ []
  no_backed l is_link =
      let s = legal.legal.sends l is_link in
      s.are_backed ∙ flat_none (backed_of (comes l)) s.starts (λ start c.
      let inside : start.0 < length (comes l) =
      omega (arith, (s.legal.first start.0 start.1 c).waits.inside, length-map (comes l) (λ (q : QueuedFrame). q.arrival)) in
      let q = get_or (comes l) start.0 no_frame in
      streams_start_none start.1 q.arrival q.stream (of_streams l q (Contains-get_or (comes l) start.0 no_frame inside)))

  -- and the run has none
  pub no_background : (cycles : ℕ) → background_of run.domain cycles net.backed ≡ []
  no_background cycles =
      none_below (λ cycle. each_below (background_in run.domain net.backed cycle) (length run.domain.links)) cycles (λ cycle in_run.
      none_below (background_in run.domain net.backed cycle) (length run.domain.links) (λ l is_link.
      ap (λ (starts : List Start). map (started_backed cycle l) (filter (λ (start : Start). cycle_of run.domain start.start.0 == cycle) starts))
      (no_backed l is_link)))

-- the parts are the book
pub parts_are_book : TablesAreOrderly → BookOfHistoryIsThere → (starts backed : List Started) (drops : List Dropped) →
    AreBookOfHistory starts backed drops (record { starts = starts; background = backed; drops = drops })
parts_are_book are_orderly is_there starts backed drops d entries offers background cycles accepted legal offered following sealed are_starts
    are_backed are_drops =
    let found = is_there d entries offers background cycles accepted legal offered following sealed in
    let book : Contents = found.0 in
    let there : IsThere d entries offers background cycles book = found.1 in
    let one = there.is_book.is_book in
    let is_legal : IsLegalRun (run_of_history d entries offers background cycles) one.net =
    record { accepted = accepted; orderly = are_orderly d entries cycles legal sealed; offered = offered; background = following; legal = one.legal } in
    let many : cycles ≡ length (tables_of d entries cycles) = sym (length-singles (table_at d entries) cycles) in
    let first : starts ≡ book.starts =
    are_starts one.net is_legal ∙ ap (λ n. starts_of d n one.net.carried) many ∙ sym one.are_starts in
    let second : backed ≡ book.background =
    are_backed one.net is_legal ∙ ap (λ n. background_of d n one.net.backed) many ∙ sym one.are_background in
    let third : drops ≡ book.drops = are_drops background book following there.is_book in
    let parts : Contents = record { starts = starts; background = backed; drops = drops } in
    let same : book ≡ parts =
    λ i. record { starts = sym first i; background = sym second i; drops = sym third i } in
    subst (IsThere d entries offers background cycles) same there

-- if there are no background frames, starts and drops are the book
pub quiet_parts_are_book : (starts : List Started) (drops : List Dropped) (book : Contents) → AreBookOfHistory starts [] drops book →
    AreQuietBookOfHistory starts drops book
quiet_parts_are_book starts drops book is d entries offers cycles accepted legal offered sealed are_starts are_drops =
    is d entries offers [] cycles accepted legal offered (all_from_members (IsBackground d) [] (λ x c. absurd (contains_none x c))) sealed are_starts
    (λ net run_legal. sym (no_background (run_of_history d entries offers [] cycles) refl net run_legal cycles)) are_drops
