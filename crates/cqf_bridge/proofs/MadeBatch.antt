-- A port's transmissions as a batch.
use Rattle.std.proofs.Common.{◌≡◌, ◌+◌, ◌≤◌, ◌<◌, ℕ, List, [], ◌∷◌, ◌++◌, ◌∙◌, sym, ap, arith, length, map}
use Rattle.std.proofs.Common.{flat_map, Option, None, AllPairs, Contains}
use Rattle.std.specs.Prelude.{slice_index_or}
use Rattle.std.specs.List.{zip}
use Rattle.std.proofs.lemmas.List.{get_or-map, get_or_default}
use Rattle.std.proofs.lemmas.Slice.Zip.{get_or-zip, length-zip}
use Rattle.std.proofs.Common.{◌-◌, take, drop, get_or, length-append, subst}
use Rattle.std.proofs.Math.Seq.{drop-append_seam}
use Rattle.std.proofs.lemmas.List.{take_all}
use Rattle.std.proofs.lemmas.List.Elements.{Contains-append_right}
use Rattle.cqf_lists.proofs.Members.{contains_here, contains_later}
use Rattle.cqf_lists.proofs.Pairs.{pairs_head, pairs_second, pairs_tail}
use Rattle.cqf_model.specs.declared.ports.Arrival.{Arrival}
use Rattle.cqf_model.specs.Network.{QueuedFrame, backed_by, backed_of, no_frame, sent_by, sent_of}
use Rattle.cqf_model.specs.declared.frames.Started.{Started}
use Rattle.cqf_model.specs.Book.{started_backed}
use Rattle.cqf_model.specs.Port.{AreLegal, Transmission, no_arrival}
use Rattle.cqf_port.specs.PortState.{IsPort, PortState, RunsUpTo}
use Rattle.cqf_bridge.specs.Batch.{LinkBatch}
use Rattle.cqf_bridge.specs.PortRecord.{AreDemanded, PortRecord, RunsTo, frame_with, frames_of, recorded, with_starts}

module _ (arrivals : List Arrival) (streams : List (Option ℕ)) (even : length streams ≡ length arrivals) where
  -- the frame at an index has the arrival and the stream there
  pub frame_at : (index : ℕ) → index < length arrivals →
      slice_index_or (map frame_with (zip arrivals streams)) index no_frame
      ≡ frame_with (slice_index_or arrivals index no_arrival, slice_index_or streams index None)
  frame_at index inside =
      get_or-map frame_with (zip arrivals streams) index (no_arrival, None) no_frame (omega (arith, inside, even, length-zip arrivals streams))
      ∙ ap frame_with (get_or-zip arrivals streams index (no_arrival, None) inside (omega (arith, inside, even)))

  -- so what a transmission sends is determined by its arrival and stream
  pub sent_at : (x : Transmission) (d : Arrival) (e : Option ℕ) → x.0 < length arrivals →
      sent_of (frames_of arrivals streams) x ≡ sent_by x.1 (get_or arrivals x.0 d) (get_or streams x.0 e)
  sent_at x d e inside =
      ap (λ (f : QueuedFrame). sent_by x.1 f.arrival f.stream) (frame_at x.0 inside)
      ∙ (λ i. sent_by x.1 (get_or_default arrivals x.0 no_arrival d inside i) (get_or_default streams x.0 None e (omega (arith, inside, even)) i))

  pub backed_at : (x : Transmission) (d : Arrival) (e : Option ℕ) → x.0 < length arrivals →
      backed_of (frames_of arrivals streams) x ≡ backed_by x.1 (get_or arrivals x.0 d) (get_or streams x.0 e)
  backed_at x d e inside =
      ap (λ (f : QueuedFrame). backed_by x.1 f.arrival f.stream) (frame_at x.0 inside)
      ∙ (λ i. backed_by x.1 (get_or_default arrivals x.0 no_arrival d inside i) (get_or_default streams x.0 None e (omega (arith, inside, even)) i))

-- ascending instants within an interval are at most as many as the interval has
pub few_between : (first end : ℕ) (made : List Transmission) → first ≤ end → AllPairs (λ (a b : Transmission). a.1 < b.1) made →
    ((x : Transmission) → Contains made x → first ≤ x.1) → ((x : Transmission) → Contains made x → x.1 < end) → length made + first ≤ end
few_between first end [] within ascend from upto = omega (arith, within)
few_between first end (x ∷ made) within ascend from upto =
    let here = contains_here x made in
    let rest : length made + (x.1 + 1) ≤ end =
    few_between (x.1 + 1) end made (omega (arith, upto x here)) (pairs_tail (λ (a b : Transmission). a.1 < b.1) x made ascend)
    (λ y h. omega (arith, pairs_head (λ (a b : Transmission). a.1 < b.1) x made y ascend h)) (λ y h. upto y (contains_later x made y h)) in
    omega (arith, rest, from x here)

-- a port has run to an instant, and made these starts
pub record HasRunTo (r : PortRecord) (after : PortState) (until : ℕ) (made : List Transmission) : Type 0 where
  pub demanded : AreDemanded r until made
  pub value : after ≡ (with_starts r until made).port
  pub inside : (x : Transmission) → Contains made x → x.0 < length r.port.arrivals
  pub few : length made + r.port.reached ≤ until

-- this is so if it ran up to the instant, with the starts after those that it had
pub has_run_to : (r : PortRecord) (after : PortState) (until : ℕ) (starts kept following : List Transmission) →
    r.port.reached < until → RunsUpTo until r.port after → IsPort after →
    starts ≡ after.starts → kept ≡ r.port.starts → following ≡ take (length starts - length kept) (drop (length kept) starts) →
    HasRunTo r after until following
has_run_to r after until starts kept following forward a port all had is =
    let made = a.made in
    let whole : starts ≡ r.port.starts ++ made = all ∙ ap (λ (p : PortState). p.starts) a.value in
    let rest : drop (length kept) starts ≡ made =
    (λ i. drop (length (had i)) (whole i)) ∙ drop-append_seam r.port.starts made in
    let same : following ≡ made =
    is ∙ ap (take (length starts - length kept)) rest
    ∙ take_all (length starts - length kept) made
    (omega (arith, ap (λ (xs : List Transmission). length xs) whole, length-append r.port.starts made, ap (λ (xs : List Transmission). length xs) had)) in
    let legal : AreLegal r.port.rules r.port.arrivals until (r.port.starts ++ made) =
    subst (λ (p : PortState). AreLegal p.rules p.arrivals p.reached p.starts) a.value port.legal in
    subst (λ (xs : List Transmission). HasRunTo r after until xs) (sym same)
    (record {
      demanded = record { legal = legal; later = a.from_reached };
      value = a.value;
      inside = λ x h. (legal.first x.0 x.1 (Contains-append_right r.port.starts made x h)).waits.inside;
      few = few_between r.port.reached until made (omega (arith, forward)) (pairs_second (λ (x y : Transmission). x.1 < y.1) r.port.starts made legal.in_order)
          (λ x h. a.from_reached x.0 x.1 h) (λ x h. legal.before_end x.0 x.1 (Contains-append_right r.port.starts made x h));
    })

-- so it returns the batch and the background frames
pub runs_to : (r seen : PortRecord) (after : PortState) (until cycle : ℕ) (made : List Transmission)
    (arrivals : List Arrival) (streams : List (Option ℕ)) (fresh batch : LinkBatch) (background background_after : List Started) →
    r ≡ seen → HasRunTo r after until made → arrivals ≡ after.arrivals → streams ≡ r.streams →
    fresh ≡ record { link = r.link; cycle = cycle; frames = [] } →
    batch ≡ record fresh { frames = fresh.frames ++ flat_map (sent_of (frames_of arrivals streams)) made } →
    background_after ≡ background ++ map (started_backed fresh.cycle fresh.link) (flat_map (backed_of (frames_of arrivals streams)) made) →
    RunsTo seen (record { link = r.link; port = after; streams = r.streams }) cycle until batch background background_after
runs_to r seen after until cycle made arrivals streams fresh batch background background_after is_seen h same_arrivals same_streams is_fresh
    is_batch is_background =
    let moved : PortRecord = record { link = r.link; port = after; streams = r.streams } in
    let frames : frames_of arrivals streams ≡ recorded r =
    (λ i. frames_of ((same_arrivals ∙ ap (λ (p : PortState). p.arrivals) h.value) i) (same_streams i)) in
    subst (λ (x : PortRecord). RunsTo x moved cycle until batch background background_after) is_seen
    (record {
      made = made;
      demanded = h.demanded;
      port = ap (λ (p : PortState). record { link = r.link; port = p; streams = r.streams }) h.value;
      batch_made =
          is_batch ∙ (λ i. record (is_fresh i) { frames = (is_fresh i).frames ++ flat_map (sent_of (frames i)) made });
      background_made =
          is_background ∙ (λ i. background ++ map (started_backed (is_fresh i).cycle (is_fresh i).link) (flat_map (backed_of (frames i)) made));
    })
