-- What a port and a book say of background frames.
use Rattle.std.proofs.Common.{◌≡◌, ℕ, ◌+◌, ◌<◌, List, Option, Some, None, length, refl, sym, ap, ◌∙◌, subst, arith}
use Rattle.std.specs.Prelude.{[], ◌==◌, ◌∷◌, map, option_map, suc, zero, slice_get, slice_index_or, Contains}
use Rattle.std.specs.List.{enumerate_from, flat_map}
use Rattle.std.proofs.lemmas.Bool.{eq-eqb, eqb-true}
use Rattle.cqf_lists.specs.Lists.{each_below}
use Rattle.cqf_units.specs.declared.timing.Nanos.{Nanos}
use Rattle.cqf_lists.proofs.EachBelow.{contains_below, contains_from_below}
use Rattle.cqf_lists.proofs.Members.{contains_filter, contains_flat, contains_from_filter, contains_from_flat}
use Rattle.cqf_lists.proofs.Members.{contains_from_map, contains_here, contains_map, contains_none, contains_one}
use Rattle.cqf_model.specs.declared.frames.Backed.{Backed}
use Rattle.cqf_model.specs.declared.frames.Background.{Background}
use Rattle.cqf_model.specs.declared.frames.Started.{Started}
use Rattle.cqf_model.specs.declared.ports.Arrival.{Arrival}
use Rattle.cqf_model.specs.declared.ports.Start.{Start}
use Rattle.cqf_model.specs.Book.{background_in, background_of, backed_batch, started_backed}
use Rattle.cqf_model.specs.Domain.{Domain, cycle_of}
use Rattle.cqf_model.specs.Network.{QueuedFrame, backed_by, backed_of, no_frame}
use Rattle.cqf_model.specs.Port.{Transmission}
use Rattle.cqf_laws_history.specs.BackgroundLaws.{BackgroundIsNumberedByIndex, BooksSayTheBackground, IsBackgroundOfRun}
use Rattle.cqf_laws_history.specs.BackgroundLaws.{IsBackgroundStart, PortsSayTheirBackground, start_of_arrival}

-- a background frame with its number
abbrev as_backed : ℕ × Background → Backed
as_backed x = record { frame = x.0; background = x.1 }

-- the frame at a position, if the numbers start at n
numbered_from : (n : ℕ) (background : List Background) (index : ℕ) (frame : Background) → slice_get background index ≡ Some frame →
    slice_get (map as_backed (enumerate_from n background)) index ≡ Some (as_backed (n + index, frame))
numbered_from n [] index frame e = absurd cc
numbered_from n (x ∷ xs) zero frame e = ap (option_map (λ (b : Background). as_backed (n, b))) e ∙ ap (λ (k : ℕ). Some (as_backed (k, frame))) (omega arith)
numbered_from n (x ∷ xs) (suc index) frame e =
    let same : n + 1 + index ≡ n + suc index = omega arith in
    numbered_from (n + 1) xs index frame e ∙ ap (λ (k : ℕ). Some (as_backed (k, frame))) same

-- a background frame's number is its position in its list, from 1
pub numbered_by_index : BackgroundIsNumberedByIndex
numbered_by_index background index frame e =
    let same : 1 + index ≡ index + 1 = omega arith in
    numbered_from 1 background index frame e ∙ ap (λ (k : ℕ). Some (as_backed (k, frame))) same

-- if a transmission gives a background start, its frame is of no stream
backed_from : (t : ℕ) (a : Arrival) (stream : Option ℕ) (start : Start) → Contains (backed_by t a stream) start → (stream ≡ None)
    × (start ≡ start_of_arrival t a)
backed_from t a None start c = (refl, sym (contains_one (start_of_arrival t a) start c))
backed_from t a (Some number) start c = absurd (contains_none start c)

-- and a frame of no stream gives such a start
backed_there : (t : ℕ) (a : Arrival) (stream : Option ℕ) → stream ≡ None → Contains (backed_by t a stream) (start_of_arrival t a)
backed_there t a None e = contains_here (start_of_arrival t a) []
backed_there t a (Some number) e = absurd cc

-- what a port's transmissions send as background frames
started_background : (queued : List QueuedFrame) (starts : List Transmission) (start : Start) → Contains (flat_map (backed_of queued) starts) start
    → IsBackgroundStart queued starts start
started_background queued starts start c =
    let w = contains_from_flat (backed_of queued) starts start c in
    let q = slice_index_or queued w.0.0 no_frame in
    let k = backed_from w.0.1 q.arrival q.stream start w.2 in
    let when : start.start.0 ≡ w.0.1 = ap (λ (s : Start). s.start.0) k.1 in
    record {
      index = w.0.0;
      is_started = subst (λ (t : ℕ). Contains starts (w.0.0, t)) (sym when) w.1;
      of_no_stream = k.0;
      as_it_came = k.1 ∙ ap (λ (t : ℕ). start_of_arrival t q.arrival) (sym when);
    }

-- and each background start is among what they send
background_started : (queued : List QueuedFrame) (starts : List Transmission) (start : Start) → IsBackgroundStart queued starts start →
    Contains (flat_map (backed_of queued) starts) start
background_started queued starts start is =
    let q = slice_index_or queued is.index no_frame in
    let there = contains_flat (backed_of queued) starts (is.index, start.start.0) (start_of_arrival start.start.0 q.arrival) is.is_started
    (backed_there start.start.0 q.arrival q.stream is.of_no_stream) in
    subst (λ (s : Start). Contains (flat_map (backed_of queued) starts) s) (sym is.as_it_came) there

-- among the frames that a port starts, exactly the frames of no stream are its background frames
pub ports_say : PortsSayTheirBackground
ports_say d entries end l queued sents backed sends start = (
  λ c. started_background queued sends.starts start (subst (λ (xs : List Start). Contains xs start) sends.are_backed c),
  λ is. subst (λ (xs : List Start). Contains xs start) (sym sends.are_backed) (background_started queued sends.starts start is),
)

-- a start in a cycle of the run, on a link, as the book records it
reported : (d : Domain) (cycles cycle link : ℕ) (backed : ℕ → List Start) (start : Start) (s : Started) → cycle < cycles → link < length d.links
    → Contains (backed link) start → cycle_of d start.start.0 ≡ cycle → started_backed cycle link start ≡ s → IsBackgroundOfRun d cycles backed s
reported d cycles cycle link backed start s within on there same is = subst (λ (y : Started). IsBackgroundOfRun d cycles backed y) is
    (record { start = start; on_link = on; is_backed = there; cycle = sym same; within_run = within; frame = refl; octets = refl; instant = refl })

-- the book's record has the number, octets and instant of the start
as_reported : (s : Started) (start : Start) → s.frame ≡ start.frame → s.octets ≡ start.octets → s.start ≡ start.start → started_backed s.cycle.0 s.link start ≡ s
as_reported s start frame octets instant =
    let made : ℕ → ℕ → Nanos → Started = λ f o t. record { cycle = s.cycle; link = s.link; frame = f; octets = o; start = t } in
    ap (λ (f : ℕ). made f start.octets start.start) (sym frame) ∙ ap (λ (o : ℕ). made s.frame o start.start) (sym octets)
    ∙ ap (λ (t : Nanos). made s.frame s.octets t) (sym instant)

-- what the background list of a run contains
from_run : (d : Domain) (cycles : ℕ) (backed : ℕ → List Start) (s : Started) → Contains (background_of d cycles backed) s → IsBackgroundOfRun d cycles backed s
from_run d cycles backed s c =
    let a = contains_from_below (λ cycle. each_below (background_in d backed cycle) (length d.links)) cycles s c in
    let b = contains_from_below (background_in d backed a.0) (length d.links) s a.2 in
    let m = contains_from_map (started_backed a.0 b.0) (backed_batch d backed b.0 a.0) s b.2 in
    let f = contains_from_filter (λ (start : Start). cycle_of d start.start.0 == a.0) (backed b.0) m.0 m.1 in
    reported d cycles a.0 b.0 backed m.0 s a.1 b.1 f.0 (eqb-true (cycle_of d m.0.start.0) a.0 f.1) m.2

-- and each background start of the run is in it
of_run : (d : Domain) (cycles : ℕ) (backed : ℕ → List Start) (s : Started) → IsBackgroundOfRun d cycles backed s → Contains (background_of d cycles backed) s
of_run d cycles backed s is =
    let kept = contains_filter (λ (start : Start). cycle_of d start.start.0 == s.cycle.0) (backed s.link) is.start is.is_backed
    (eq-eqb (cycle_of d is.start.start.0) s.cycle.0 (sym is.cycle)) in
    let made = contains_map (started_backed s.cycle.0 s.link) (backed_batch d backed s.link s.cycle.0) is.start kept in
    let there = subst (λ (y : Started). Contains (background_in d backed s.cycle.0 s.link) y) (as_reported s is.start is.frame is.octets is.instant) made in
    contains_below (λ cycle. each_below (background_in d backed cycle) (length d.links)) cycles s.cycle.0 s is.within_run
    (contains_below (background_in d backed s.cycle.0) (length d.links) s.link s is.on_link there)

-- a book has each start of a background frame that the network sends in the run, and no other
pub books_say : BooksSayTheBackground
books_say run lists cycles book is s = (
  λ c. from_run run.domain cycles is.net.backed s (subst (λ (xs : List Started). Contains xs s) is.are_background c),
  λ w. subst (λ (xs : List Started). Contains xs s) (sym is.are_background) (of_run run.domain cycles is.net.backed s w),
)
