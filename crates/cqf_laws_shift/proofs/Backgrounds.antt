-- Background frames change no start of a stream's frame.
use Rattle.std.proofs.Common.{◌≡◌, ℕ, ◌+◌, ◌*◌, ◌<◌, [], ◌++◌, sym, ap, ◌∙◌, subst, arith, refl, length, get_or}
use Rattle.std.proofs.lemmas.List.{length-map}
use Rattle.std.proofs.lemmas.List.Elements.{Contains-get_or}
use Rattle.cqf_model.specs.Domain.{Domain, bridge_of}
use Rattle.cqf_model.specs.Run.{Run, end_of_run}
use Rattle.cqf_model.specs.Policing.{Carried, policed_before}
use Rattle.cqf_model.specs.Network.{IsLegalNetwork, Network, QueuedFrame, Sends, backed_at, backed_by, backed_of, comes_before, comes_in, compiled_lists}
use Rattle.cqf_model.specs.Network.{no_frame, queued_before, queued_in}
use Rattle.cqf_model.specs.Book.{drops_of, starts_of}
use Rattle.cqf_laws_network.specs.NetworkLaws.{LegalNetworkIsUnique}
use Rattle.cqf_laws_shift.specs.Alone.{IsLegalAlone, SendsAlone}
use Rattle.cqf_laws_shift.specs.Books.{BackgroundChangesOneList}
use Rattle.cqf_laws_shift.specs.Run.{BackgroundChangesNoStart, IsLegalRun, RunBesideIsRunAlone, with_background}
use Rattle.cqf_lists.proofs.EachBelow.{none_below, same_below}
use Rattle.cqf_lists.proofs.Kept.{flat_none}
use Rattle.cqf_laws_shift.proofs.Queues.{queued_from}
use Rattle.cqf_laws_shift.proofs.QueuesByCycles.{queue_by_cycles}

-- the run without background frames
abbrev quiet : Run → Run
quiet run = with_background run []

-- the network whose links carry these streams' frames and no background frames
abbrev sends_no_background : Carried → Network
sends_no_background carried = record { carried = carried; backed = λ l. [] }

module _ (run : Run) (carried : Carried) (some : 0 < run.domain.cycle_time) where
  -- the run's domain
  abbrev d : Domain
  d = run.domain

  -- if there are no background frames, what arrives at a port is what is queued to it
  comes_queued : (l cycles : ℕ) → comes_before (quiet run) carried l cycles ≡ queued_before run carried l (cycles * d.cycle_time)
  comes_queued l cycles =
      same_below (comes_in (quiet run) carried l) (queued_in run carried l) cycles (λ c less.
      ap (λ z. z ++ queued_in run carried l c) (none_below (λ offset. backed_at [] l (c * d.cycle_time + offset)) d.cycle_time (λ k less. refl)))
      ∙ queue_by_cycles run carried l cycles some

  -- no transmission of a queued frame is a background frame's
  no_background : (l : ℕ) (end index t : ℕ) → index < length (queued_before run carried l end) → backed_of (queued_before run carried l end) (index, t) ≡ []
  no_background l end index t inside =
      let queue = queued_before run carried l end in
      let from = queued_from d l (policed_before run carried (bridge_of d l) end) (get_or queue index no_frame) (Contains-get_or queue index no_frame inside) in
      subst (λ (z : QueuedFrame). backed_by t z.arrival z.stream ≡ []) from.is refl

  -- so a legal run of streams' frames alone is a legal network of the run without background frames
  alone_is_quiet : IsLegalAlone run carried → IsLegalNetwork (quiet run) (compiled_lists d) (length run.tables) (sends_no_background carried)
  alone_is_quiet alone = record {
    sends = λ l is_link. subst (λ z. Sends d (compiled_lists d l) (length run.tables * d.cycle_time) l z (carried l) [])
        (sym (comes_queued l (length run.tables))) (sends l (alone.sends l is_link));
    no_others = λ l past. (alone.no_others l past, refl);
  }
    where
      sends : (l : ℕ) → SendsAlone d (end_of_run run) l (queued_before run carried l (end_of_run run)) (carried l) →
          Sends d (compiled_lists d l) (end_of_run run) l (queued_before run carried l (end_of_run run)) (carried l) []
      sends l s = record {
        starts = s.starts;
        legal = s.legal;
        are_sent = s.are_sent;
        are_backed = sym (flat_none (backed_of (queued_before run carried l (end_of_run run))) s.starts (λ start c.
            no_background l (end_of_run run) start.0 start.1
            (omega (
              arith,
              (s.legal.first start.0 start.1 c).waits.inside,
              length-map (queued_before run carried l (end_of_run run))
                  (λ (q : QueuedFrame). q.arrival),
            ))));
      }

-- so in two runs that differ only in background frames, the links carry the same
pub background_changes_no_start : LegalNetworkIsUnique → RunBesideIsRunAlone → BackgroundChangesNoStart
background_changes_no_start unique beside run background net other one two =
    let some : 0 < run.domain.cycle_time = omega (arith, one.accepted.cycle_least) in
    let first = (beside run net one).legal in
    let second = (beside (with_background run background) other two).legal in
    let same : IsLegalAlone run other.carried = record { sends = λ l is_link. second.sends l is_link; no_others = λ l past. second.no_others l past } in
    ap (λ (z : Network). z.carried)
    (unique (quiet run) (compiled_lists run.domain) (length run.tables) (sends_no_background net.carried) (sends_no_background other.carried)
    (alone_is_quiet run net.carried some first) (alone_is_quiet run other.carried some same))

-- and their books have the same starts and drops
pub background_changes_one_list : BackgroundChangesNoStart → BackgroundChangesOneList
background_changes_one_list no_start run background book other accepted orderly offered backed others one two =
    let first : IsLegalRun run one.net = record { accepted = accepted; orderly = orderly; offered = offered; background = backed; legal = one.legal } in
    let second : IsLegalRun (with_background run background) two.net =
    record { accepted = accepted; orderly = orderly; offered = offered; background = others; legal = two.legal } in
    let same = no_start run background one.net two.net first second in (
      one.are_starts ∙ ap (starts_of run.domain (length run.tables)) same ∙ sym two.are_starts,
      one.are_drops ∙ ap (λ (carried : Carried). drops_of run.domain (length run.tables) (length run.offers)
          (λ bridge. policed_before run carried bridge (length run.tables * run.domain.cycle_time))) same ∙ sym two.are_drops,
    )
