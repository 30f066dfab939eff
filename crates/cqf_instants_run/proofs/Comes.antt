-- What arrives at a port in a run is recognised by its class, and its background part is the link's background frames by instant.
use Rattle.std.proofs.Common.{◌≡◌, ℕ, zero, suc, ◌+◌, ◌*◌, ◌/◌, ◌<◌, ◌≤◌, ◌==◌, ◌++◌, All, true, false, List, inl, inr, sym, ap, ap₂, ◌∙◌, subst, arith}
use Rattle.std.proofs.Common.{Contains, filter, is_some, map, length, append-nil}
use Rattle.std.proofs.lemmas.Bool.{false≢true}
use Rattle.std.proofs.lemmas.List.Elements.{All-contains, filter-append}
use Rattle.std.proofs.lemmas.Simd.{map-map}
use Rattle.cqf_lists.specs.Lists.{each_below}
use Rattle.cqf_lists.proofs.EachBelow.{below_plus, contains_from_below, filter_below, filter_each, filter_none, filter_twice, map_below, same_below}
use Rattle.cqf_lists.proofs.Members.{all_from_members, contains_filter, contains_from_filter, contains_from_map}
use Rattle.cqf_model.specs.declared.frames.Backed.{Backed}
use Rattle.cqf_model.specs.Domain.{Domain, bridge_of, cycle_of}
use Rattle.cqf_model.specs.Network.{Network, QueuedFrame, arrivals_of, backed_at, backed_frame, backed_in, comes_before}
use Rattle.cqf_model.specs.Network.{comes_in, is_backed_at, numbered_background}
use Rattle.cqf_model.specs.Network.{queued_before, queued_in}
use Rattle.cqf_model.specs.Run.{IsBackground, Run}
use Rattle.cqf_model.specs.Table.{hop_number_after}
use Rattle.cqf_model.specs.Policing.{came_by, policed_before}
use Rattle.cqf_laws_cycle.specs.Beside.{IsReportedByClass, is_of_stream}
use Rattle.cqf_laws_cycle.specs.Compiled.{GateGivesClass}
use Rattle.cqf_laws_shift.specs.Run.{IsLegalRun}
use Rattle.cqf_laws_shift.proofs.Queues.{gives_streams, queued_from}
use Rattle.cqf_laws_shift.proofs.QueuesByCycles.{comes_of, streams_that_come}
use Rattle.cqf_instants_run.specs.Frames.{by_instant, is_at}
use Rattle.cqf_instants_run.specs.Feeding.{arrival_of_frame, backs_among, frames_fed_on, is_background, is_frame_on}

-- lists of sections of one length, end to end
segments : {X : Type 0} (f : ℕ → List X) (n cycles : ℕ) → each_below (λ c. each_below (λ k. f (c * n + k)) n) cycles ≡ each_below f (cycles * n)
segments f n zero = ap (each_below f) (nothing n)
  where
    -- no section has no length
    nothing : (n : ℕ) → 0 ≡ 0 * n
    nothing n = omega arith
segments f n (suc c) =
    ap (λ xs. xs ++ each_below (λ k. f (c * n + k)) n) (segments f n c) ∙ sym (below_plus f (c * n) n) ∙ ap (each_below f) (one_more c n)
  where
    -- one more section
    one_more : (c n : ℕ) → c * n + n ≡ suc c * n
    one_more c n = omega arith

module _ (gives : GateGivesClass) (run : Run) (net : Network) (legal : IsLegalRun run net) (l : ℕ) where
  -- the run's domain
  abbrev d : Domain
  d = run.domain

  -- a cycle takes time
  some : 0 < run.domain.cycle_time
  some = omega (arith, legal.accepted.cycle_least)

  -- what arrives at the port
  abbrev comes : List QueuedFrame
  comes = comes_before run net.carried l (length run.tables)

  -- a queued frame has a class of streams
  queued_high : (end : ℕ) (q : QueuedFrame) → Contains (queued_before run net.carried l end) q → 6 ≤ q.arrival.class
  queued_high end q c =
      let from = queued_from d l (policed_before run net.carried (bridge_of d l) end) q c in
      let given = gives d.cycle_time from.row.octets from.row.pace (hop_number_after from.row (came_by from.p.received.ingress)) from.p.received.at some in
      omega (arith, ap (λ (z : QueuedFrame). z.arrival.class) from.is, given, gives_streams (from.p.received.at / d.cycle_time))

  -- so what arrives is recognised by its class
  pub reported : All IsReportedByClass comes
  reported = all_from_members IsReportedByClass comes (λ q c. elim (comes_of run net.carried l (length run.tables) q c) [
    | inl back ↦
        let low = (All-contains (IsBackground d) run.background back.0 legal.background back.1).class_most in
        (λ e. omega (arith, low, back.3), λ e. back.2)
    | inr of_stream ↦
        let waits = subst (λ z. Contains z q) (streams_that_come run net.carried l (length run.tables) some) (contains_filter is_of_stream comes q c of_stream)
        in
        let high = queued_high (length run.tables * d.cycle_time) q waits in
        (λ e. absurd (false≢true (ap is_some (sym e) ∙ of_stream)), λ e. absurd (omega (arith, high, e)))
  ])

  -- a background frame is of no stream
  backed_none : (c : ℕ) (q : QueuedFrame) → Contains (backed_in d run.background l c) q → is_background q ≡ true
  backed_none c q m =
      let k = contains_from_below (λ offset. backed_at run.background l (c * d.cycle_time + offset)) d.cycle_time q m in
      let x = contains_from_map backed_frame (filter (is_backed_at l (c * d.cycle_time + k.0)) (numbered_background run.background)) q k.2 in
      ap is_background (sym x.2)

  -- and a queued one is of a stream
  queued_some : (c : ℕ) (q : QueuedFrame) → Contains (queued_in run net.carried l c) q → is_background q ≡ false
  queued_some c q m =
      let end = (c + 1) * d.cycle_time in
      let kept = contains_from_filter (λ (x : QueuedFrame). cycle_of d x.arrival.at.0 == c) (queued_before run net.carried l end) q m in
      ap is_background (sym (queued_from d l (policed_before run net.carried (bridge_of d l) end) q kept.0).is)

  -- so the background frames that arrive are the link's of each cycle
  backs_by_cycle : filter is_background comes ≡ each_below (backed_in d run.background l) (length run.tables)
  backs_by_cycle =
      filter_below is_background (comes_in run net.carried l) (length run.tables)
      ∙ same_below (λ c. filter is_background (comes_in run net.carried l c)) (backed_in d run.background l) (length run.tables) (λ c less.
      filter-append is_background (backed_in d run.background l c) (queued_in run net.carried l c)
      ∙ ap₂ (λ x y. x ++ y) (filter_each is_background (backed_in d run.background l c) (backed_none c))
      (filter_none is_background (queued_in run net.carried l c) (queued_some c))
      ∙ append-nil (backed_in d run.background l c))

  -- by instant they are those of the run on the link
  pub backs_are : (frames : List Backed) → frames ≡ by_instant run.background (length run.tables * run.domain.cycle_time) → backs_among comes
      ≡ frames_fed_on l frames
  backs_are frames is =
      ap arrivals_of (backs_by_cycle ∙ segments (backed_at run.background l) d.cycle_time (length run.tables))
      ∙ map_below (λ (x : QueuedFrame). x.arrival) (backed_at run.background l) end
      ∙ same_below (λ t. arrivals_of (backed_at run.background l t)) (λ t. map arrival_of_frame (filter (is_frame_on l) (at t))) end (λ t less.
      map-map (λ (x : QueuedFrame). x.arrival) backed_frame (filter (is_backed_at l t) (numbered_background run.background))
      ∙ ap (map arrival_of_frame) (sym (filter_twice (is_frame_on l) (is_at t) (numbered_background run.background))))
      ∙ sym (map_below arrival_of_frame (λ t. filter (is_frame_on l) (at t)) end)
      ∙ ap (map arrival_of_frame) (sym (filter_below (is_frame_on l) at end))
      ∙ ap (frames_fed_on l) (sym is)
    where
      -- the end of the run
      end : ℕ
      end = length run.tables * run.domain.cycle_time

      -- the background frames of an instant
      at : ℕ → List Backed
      at t = filter (is_at t) (numbered_background run.background)
