-- Indexes in a list of traces, one for each, that advance cycle by cycle.
use Rattle.std.proofs.Common.{◌≡◌, ℕ, ◌+◌, ◌<◌, ◌≤◌, ◌∙◌, List, length, replicate, set, ap, arith, inl, inr, subst, sym}
use Rattle.std.specs.Prelude.{slice_index}
use Rattle.std.proofs.lemmas.Bool.{cases_eq}
use Rattle.std.proofs.lemmas.List.{get_or-replicate, get_or-set_other, get_or-set_same, length-map, length-replicate, length-set}
use Rattle.cqf_lists.proofs.EachBelow.{length-singles}
use Rattle.cqf_model.specs.Domain.{Domain, IsAccepted}
use Rattle.cqf_model.proofs.Represented.{few_bridges, few_links}
use Rattle.cqf_trace.specs.declared.traces.TransmissionKind.{TransmissionKind}
use Rattle.cqf_trace.specs.declared.traces.Traces.{Traces}
use Rattle.cqf_trace.specs.Traces.{IsDropsEndBefore, IsEndBefore, MayBeReported, StandByNumber, drops_at, first_links, link_of_trace, marks_at}
use Rattle.cqf_trace.specs.Reporting.{AreDropIndices, AreIndices}

-- of `count` indexes, those before one have advanced, and the others haven't
pub record HaveGoneOn (before after : ℕ → ℕ → Type 0) (count at : ℕ) (indices : List ℕ) : Type 0 where
  pub many : count ≤ length indices
  pub gone : (k : ℕ) → k < at → after k (slice_index indices k)
  pub rest : (k : ℕ) → at ≤ k → k < count → before k (slice_index indices k)

module _ (before after : ℕ → ℕ → Type 0) (count : ℕ) (indices : List ℕ) where
  -- at first none has advanced
  pub none_gone : count ≤ length indices → ((k : ℕ) → k < count → before k (slice_index indices k)) → HaveGoneOn before after count 0 indices
  none_gone many are = record {
    many = many;
    gone = λ k below. absurd (omega (arith, below));
    rest = λ k _ below. are k below;
  }

  -- one more advances
  pub one_gone : (at end : ℕ) → at < count → HaveGoneOn before after count at indices → after at end →
      HaveGoneOn before after count (at + 1) (set indices at end)
  one_gone at end inside so_far is = record {
    many = omega (arith, so_far.many, length-set indices at end);
    gone = λ k below. elim (cases_eq k at) [
      | inl here ↦
          subst (λ (n : ℕ). after n (slice_index (set indices at end) n)) (sym here)
          (subst (after at) (sym (get_or-set_same indices at end 0 (omega (arith, inside, so_far.many)))) is)
      | inr other ↦
          subst (after k) (sym (get_or-set_other indices at k end 0 other)) (so_far.gone k (omega (arith, below, other)))
    ];
    rest = λ k following below.
        subst (before k) (sym (get_or-set_other indices at k end 0 (λ e. absurd (omega (arith, following, e))))) (so_far.rest k (omega (arith, following)) below);
  }

-- the indexes at which a cycle's marks end, by link, and its drops, by bridge
abbrev pub ends_by_link : Domain → TransmissionKind → Traces → ℕ → ℕ → ℕ → Type 0
ends_by_link d kind traces cycle link index = IsEndBefore d cycle (marks_at kind traces link) index

abbrev pub ends_by_bridge : Traces → ℕ → ℕ → ℕ → Type 0
ends_by_bridge traces cycle bridge index = IsDropsEndBefore cycle (drops_at traces bridge) index

-- the indexes of the first links, or bridges, are after the cycle, and those of the others before it
abbrev pub AreAfterLinks : Domain → TransmissionKind → Traces → ℕ → ℕ → List ℕ → Type 0
AreAfterLinks d kind traces cycle link indices =
    HaveGoneOn (ends_by_link d kind traces cycle) (ends_by_link d kind traces (cycle + 1)) (length d.links) link indices

abbrev pub AreAfterBridges : Domain → Traces → ℕ → ℕ → List ℕ → Type 0
AreAfterBridges d traces cycle bridge indices =
    HaveGoneOn (ends_by_bridge traces cycle) (ends_by_bridge traces (cycle + 1)) (length d.bridges) bridge indices

module _ (d : Domain) (kind : TransmissionKind) (traces : Traces) (indices : List ℕ) where
  -- before the first cycle nothing is written
  pub first_indices : IsAccepted d → indices ≡ replicate 4096 0 → AreIndices d kind traces 0 indices
  first_indices accepted are = record {
    many = omega (arith, few_links d accepted, ap length are, length-replicate {A = ℕ} 4096 0);
    ends = λ link inside.
        subst (IsEndBefore d 0 (marks_at kind traces link))
        (sym (ap (λ (xs : List ℕ). slice_index xs link) are ∙ get_or-replicate {A = ℕ} 4096 link 0 0 (omega (arith, inside, few_links d accepted))))
        (record { within = omega arith; before = λ k m _ below. absurd (omega (arith, below)); following = λ k m _ _. omega arith });
  }

  -- before a cycle no index has advanced
  pub links_begin : (cycle : ℕ) → AreIndices d kind traces cycle indices → AreAfterLinks d kind traces cycle 0 indices
  links_begin cycle are = none_gone (ends_by_link d kind traces cycle) (ends_by_link d kind traces (cycle + 1)) (length d.links) indices are.many are.ends

module _ (d : Domain) (traces : Traces) (indices : List ℕ) where
  -- and the same for drops
  pub first_drop_indices : IsAccepted d → indices ≡ replicate 1024 0 → AreDropIndices d traces 0 indices
  first_drop_indices accepted are = record {
    many = omega (arith, few_bridges d accepted, ap length are, length-replicate {A = ℕ} 1024 0);
    ends = λ bridge inside.
        subst (IsDropsEndBefore 0 (drops_at traces bridge))
        (sym (ap (λ (xs : List ℕ). slice_index xs bridge) are ∙ get_or-replicate {A = ℕ} 1024 bridge 0 0 (omega (arith, inside, few_bridges d accepted))))
        (record { within = omega arith; before = λ k x _ below. absurd (omega (arith, below)); following = λ k x _ _. omega arith });
  }

  pub bridges_begin : (cycle : ℕ) → AreDropIndices d traces cycle indices → AreAfterBridges d traces cycle 0 indices
  bridges_begin cycle are = none_gone (ends_by_bridge traces cycle) (ends_by_bridge traces (cycle + 1)) (length d.bridges) indices are.many are.ends

module _ (d : Domain) (traces : Traces) (may : MayBeReported d traces) where
  -- there is a trace for each link
  pub as_many_traces : length traces.links.items ≡ length d.links
  as_many_traces =
      sym (length-map traces.links.items link_of_trace) ∙ ap length may.each_link ∙ length-singles (λ (link : ℕ). link) (length d.links)

  -- by number
  pub by_number : StandByNumber traces
  by_number = may.each_link ∙ ap first_links (sym as_many_traces)
