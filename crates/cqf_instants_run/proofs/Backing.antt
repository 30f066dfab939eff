-- When a run has ended, its links' ports may take what their traces give, and then start the background frames that the network starts.
use Rattle.std.proofs.Common.{◌≡◌, ℕ, ◌*◌, ◌^◌, ◌<◌, [], All, List, arith, sym, ap, ap₂, ◌∙◌, subst, length, get_or, map}
use Rattle.std.proofs.lemmas.Simd.{map-map}
use Rattle.cqf_model.specs.declared.frames.Backed.{Backed}
use Rattle.cqf_model.specs.declared.frames.Background.{Background}
use Rattle.cqf_model.specs.declared.ports.Arrival.{Arrival}
use Rattle.cqf_model.specs.Domain.{Domain, IsAccepted}
use Rattle.cqf_model.specs.Network.{Network, comes_before}
use Rattle.cqf_model.specs.Run.{AreBackground, Run}
use Rattle.cqf_laws_cycle.specs.Compiled.{GateGivesClass}
use Rattle.cqf_laws_shift.specs.Run.{IsLegalRun}
use Rattle.cqf_port.specs.PortState.{AreTaken}
use Rattle.cqf_trace.specs.declared.trace.Trace.{Trace}
use Rattle.cqf_trace.specs.Traces.{mark_of_sent, starts_at}
use Rattle.cqf_instants_run.specs.Feeding.{AreFed, arrival_of_sent, fed, frames_fed_on}
use Rattle.cqf_instants_run.specs.Frames.{by_instant}
use Rattle.cqf_instants_run.specs.Sending.{Backs, PortStartsTheBackground}
use Rattle.cqf_instants_run.specs.Taping.{BacksTheTraces, IsTracedRun, SomeTracedRun, TakeBackground, arrival_of_mark}
use Rattle.cqf_laws_coverage.proofs.InTurn.{IsInTurn, run_in_turn}
use Rattle.cqf_instants_run.proofs.Comes.{backs_are, reported}
use Rattle.cqf_instants_run.proofs.Feeds.{fed-nil}
use Rattle.cqf_instants_run.proofs.Takings.{frames_on_links, may_take}
use Rattle.cqf_instants_run.proofs.Traces.{background_more, links_stay, starts_stay}

-- a link's port starts what the network starts, given the background frames by instant and what the link carries
backs_there : GateGivesClass → PortStartsTheBackground → (run : Run) (net : Network) → IsLegalRun run net → (frames : List Backed) →
    frames ≡ by_instant run.background (length run.tables * run.domain.cycle_time) → (l : ℕ) → l < length run.domain.links →
    Backs run.domain (length run.tables * run.domain.cycle_time) l
    (fed (frames_fed_on l frames) (map (arrival_of_sent run.domain) (net.carried l))) (net.backed l)
backs_there gives law run net legal frames by l is_link =
    let end = length run.tables * run.domain.cycle_time in
    subst (λ (z : List Arrival). Backs run.domain end l (fed z (map (arrival_of_sent run.domain) (net.carried l))) (net.backed l))
    (backs_are gives run net legal l frames by)
    (law run.domain end l (comes_before run net.carried l (length run.tables)) (net.carried l) (net.backed l) legal.accepted is_link
    (reported gives run net legal l) (legal.legal.sends l is_link))

module _ (d : Domain) (end : ℕ) (background : List Background) (traces : List Trace) (run : Run) (net : Network)
    (t : IsTracedRun d end background traces run net) where
  -- the domain is accepted
  accepted : IsAccepted d
  accepted = subst IsAccepted t.of_domain t.legal.accepted

  -- the background frames are allowed
  following : AreBackground d background
  following =
      subst (λ (xs : List Background). AreBackground d xs) t.backed
      (subst (λ (e : Domain). AreBackground e run.background) t.of_domain t.legal.background)

  -- what the links carry is in order
  in_turn : IsInTurn d (length run.tables) net.carried
  in_turn = subst (λ (e : Domain). IsInTurn e (length run.tables) net.carried) t.of_domain (run_in_turn run net t.legal)

  -- a trace's streams' frames arrive as what its link carries
  marks_are : (l : ℕ) → l < length d.links → map (arrival_of_mark d) (starts_at traces l) ≡ map (arrival_of_sent d) (net.carried l)
  marks_are l is_link = ap (map (arrival_of_mark d)) (t.starts l is_link) ∙ map-map (arrival_of_mark d) mark_of_sent (net.carried l)

  module _ (frames : List Backed) (by : frames ≡ by_instant background end) where
    -- each background frame is on a link
    on_each_link : (links : ℕ) → links ≡ length d.links → All (λ (x : Backed). x.background.link < links) frames
    on_each_link links same = frames_on_links d background end links frames following by same

    -- by instant they are those of the run
    by_run : frames ≡ by_instant run.background (length run.tables * run.domain.cycle_time)
    by_run =
        by ∙ ap (λ (xs : List Background). by_instant xs end) (sym t.backed)
        ∙ ap (by_instant run.background) (t.ends ∙ ap (λ (e : Domain). length run.tables * e.cycle_time) (sym t.of_domain))

    -- so a link's port starts what the network starts
    backs_here : GateGivesClass → PortStartsTheBackground → (l : ℕ) → l < length d.links →
        Backs d end l (fed (frames_fed_on l frames) (map (arrival_of_mark d) (starts_at traces l))) (net.backed l)
    backs_here gives law l is_link =
        subst (λ (z : List Arrival). Backs d end l (fed (frames_fed_on l frames) z) (net.backed l)) (sym (marks_are l is_link))
        (subst At t.of_domain (λ e is inside.
        subst (λ (n : ℕ). Backs run.domain n l (fed (frames_fed_on l frames) (map (arrival_of_sent run.domain) (net.carried l))) (net.backed l)) (sym is)
        (backs_there gives law run net t.legal frames by_run l inside)) end t.ends is_link)
      where
        -- the same for a domain
        At : Domain → Type 0
        At x = (e : ℕ) → e ≡ length run.tables * x.cycle_time → l < length x.links →
            Backs x e l (fed (frames_fed_on l frames) (map (arrival_of_sent x) (net.carried l))) (net.backed l)

    module _ (lists : List (List Arrival)) (given : AreFed frames [] (length d.links) lists) where
      -- the list of a link has its background frames
      list_is : (l : ℕ) → l < length d.links → get_or lists l [] ≡ frames_fed_on l frames
      list_is l is_link = given.each l [] is_link ∙ fed-nil (frames_fed_on l frames)

      -- followed by its trace's streams' frames, the port may take it
      trace_taken : (l : ℕ) → l < length lists → AreTaken (fed (get_or lists l []) (map (arrival_of_mark d) (starts_at traces l)))
      trace_taken l inside =
          let is_link : l < length d.links = omega (arith, inside, given.one_each) in
          let soon : length run.tables * d.cycle_time < 2 ^ 62 = omega (arith, t.ends, t.early) in
          subst AreTaken (ap₂ fed (sym (list_is l is_link)) (sym (marks_are l is_link)))
          (may_take d (length run.tables) net.carried background frames accepted soon in_turn following (by ∙ ap (by_instant background) t.ends) l is_link)

      -- and the trace gets what the network starts
      trace_backed : GateGivesClass → PortStartsTheBackground → (l : ℕ) → l < length d.links →
          Backs d end l (fed (get_or lists l []) (map (arrival_of_mark d) (starts_at traces l))) (net.backed l)
      trace_backed gives law l is_link =
          subst (λ (z : List Arrival). Backs d end l (fed z (map (arrival_of_mark d) (starts_at traces l))) (net.backed l)) (sym (list_is l is_link))
          (backs_here gives law l is_link)

module _ (d : Domain) (end : ℕ) (background : List Background) (traces : List Trace) (some : SomeTracedRun d end background traces) (frames : List Backed)
    (by : frames ≡ by_instant background end) where
  -- each background frame is on a link of the domain
  pub on_some_link : (links : ℕ) → links ≡ length d.links → All (λ (x : Backed). x.background.link < links) frames
  on_some_link = on_each_link d end background traces some.run some.net some.is frames by

  -- each link's port may take what it is given
  pub traces_taken : (lists : List (List Arrival)) → AreFed frames [] (length d.links) lists → (l : ℕ) → l < length lists →
      AreTaken (fed (get_or lists l []) (map (arrival_of_mark d) (starts_at traces l)))
  traces_taken = trace_taken d end background traces some.run some.net some.is frames by

-- in the end the traces have what the network of each such run starts
pub backs_the_traces : GateGivesClass → PortStartsTheBackground → (d : Domain) (end : ℕ) (background : List Background) (before after : List Trace)
    (frames : List Backed) (lists : List (List Arrival)) → frames ≡ by_instant background end → AreFed frames [] (length d.links) lists →
    TakeBackground d end (λ l. get_or lists l []) before after → BacksTheTraces d end background before after
backs_the_traces gives law d end background before after frames lists by given take = record {
  links = links_stay d end (λ l. get_or lists l []) before after take;
  starts = starts_stay d end (λ l. get_or lists l []) before after take;
  background = λ run net t l is_link. background_more d end (λ k. get_or lists k []) before after take t.links l is_link (net.backed l)
      (trace_backed d end background before run net t frames by lists given gives law l is_link);
}
