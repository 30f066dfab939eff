-- The book of traces, cycle by cycle, link by link.
use Rattle.std.proofs.Common.{◌≡◌, ◌⊎◌, ℕ, suc, ◌<◌, ◌≤◌, ◌+◌, ◌++◌, List, length, get_or, set, replicate, map, filter, sym, ap, ◌∙◌, arith, inl, inr, subst}
use Rattle.std.proofs.Common.{append_assoc, eqb-true}
use Rattle.std.proofs.lemmas.Bool.{cases_lt}
use Rattle.std.proofs.lemmas.List.{get_or-replicate, get_or-set_other, get_or-set_same, length-map, length-replicate, length-set}
use Rattle.cqf_lists.specs.Lists.{each_below}
use Rattle.cqf_lists.proofs.EachBelow.{length-singles}
use Rattle.cqf_lists.proofs.Made.{map_same}
use Rattle.cqf_lists.proofs.Members.{contains_from_filter}
use Rattle.cqf_model.specs.declared.frames.Dropped.{Dropped}
use Rattle.cqf_model.specs.Domain.{Domain, cycle_of}
use Rattle.cqf_trace.specs.declared.trace.Mark.{Mark}
use Rattle.cqf_trace.specs.declared.traces.TransmissionKind.{TransmissionKind}
use Rattle.cqf_trace.specs.declared.traces.Traces.{Traces}
use Rattle.cqf_trace.specs.Traces.{IsDropsEndBefore, IsEndBefore, MayBeReported, StandByNumber, drops_at, first_links, is_in, link_of_trace, marks_at}
use Rattle.cqf_trace.specs.Traces.{reported_on, started_by, started_in}
use Rattle.cqf_trace.specs.Reporting.{AreDropIndices, AreIndices}

-- there are as many traces as links, by number
pub many_traces : (d : Domain) (traces : Traces) → MayBeReported d traces → length traces.links.items ≡ length d.links
many_traces d traces may =
    sym (length-map traces.links.items link_of_trace) ∙ ap length may.each_link ∙ length-singles (λ (link : ℕ). link) (length d.links)

pub stand_by_number : (d : Domain) (traces : Traces) → MayBeReported d traces → StandByNumber traces
stand_by_number d traces may = may.each_link ∙ ap first_links (sym (many_traces d traces may))

-- lists end to end, and the next one after them
pub each_more : {X : Type 0} (f : ℕ → List X) (n : ℕ) → each_below f n ++ f n ≡ each_below f (n + 1)
each_more f n = let next : suc n ≡ n + 1 = omega arith in ap (each_below f) next

pub reported_further : {X : Type 0} (f : ℕ → List X) (n : ℕ) (before reported after : List X) → reported ≡ before ++ each_below f n → after ≡ reported ++ f n →
    after ≡ before ++ each_below f (n + 1)
reported_further {X} f n before reported after so_far more =
    more ∙ ap (λ (xs : List X). xs ++ f n) so_far ∙ append_assoc before (each_below f n) (f n) ∙ ap (λ (xs : List X). before ++ xs) (each_more f n)

pub all_reported_further : {X : Type 0} (f : ℕ → List X) (n : ℕ) (reported after : List X) → reported ≡ each_below f n → after ≡ reported ++ f n → after ≡ each_below f (n + 1)
all_reported_further {X} f n reported after so_far more = more ∙ ap (λ (xs : List X). xs ++ f n) so_far ∙ each_more f n

-- the entries of one cycle's marks, one by one, are those of the cycle on the trace
pub reported_segment : (d : Domain) (cycle link : ℕ) (marks own : List Mark) → filter (is_in d cycle) marks ≡ own →
    map (started_in cycle link) own ≡ reported_on d cycle link marks
reported_segment d cycle link marks own is =
    ap (map (started_in cycle link)) (sym is)
    ∙ map_same (started_in cycle link) (started_by d link) (filter (is_in d cycle) marks)
    (λ m kept. ap (λ (n : ℕ). started_in n link m) (sym (eqb-true (cycle_of d m.start.0) cycle (contains_from_filter (is_in d cycle) marks m kept).1)))

-- ---- indices: first those after a cycle, then those before it

pub record ArePlacedTo (Before After : ℕ → ℕ → Type 0) (many next : ℕ) (indices : List ℕ) : Type 0 where
  pub enough : many ≤ length indices
  pub done : (k : ℕ) → k < next → k < many → After k (get_or indices k 0)
  pub left : (k : ℕ) → next ≤ k → k < many → Before k (get_or indices k 0)

module _ (Before After : ℕ → ℕ → Type 0) (many : ℕ) where
  pub none_placed : (indices : List ℕ) → many ≤ length indices → ((k : ℕ) → k < many → Before k (get_or indices k 0)) → ArePlacedTo Before After many 0 indices
  none_placed indices enough all = record { enough = enough; done = λ k below inside. absurd (omega (arith, below)); left = λ k from inside. all k inside }

  pub one_placed : (next index : ℕ) (indices : List ℕ) (end : ℕ) → ArePlacedTo Before After many next indices → index ≡ next → next < many → After next end →
      ArePlacedTo Before After many (next + 1) (set indices index end)
  one_placed next index indices end h is inside here = record {
    enough = omega (arith, h.enough, length-set indices index end);
    done = λ k below within. by k within (omega (arith, below)) (cases_lt k next);
    left = λ k from within. subst (λ (n : ℕ). Before k n) (sym (get_or-set_other indices index k end 0 (λ same. omega (arith, same, is, from))))
        (h.left k (omega (arith, from)) within);
  }
    where
      -- those done before, and this one
      by : (k : ℕ) → k < many → k ≤ next → (k < next) ⊎ (next ≤ k) → After k (get_or (set indices index end) k 0)
      by k within most (inl less) =
          subst (λ (n : ℕ). After k n) (sym (get_or-set_other indices index k end 0 (λ same. omega (arith, same, is, less)))) (h.done k less within)
      by k within most (inr least) =
          let own : index ≡ k = omega (arith, is, most, least) in
          let number : next ≡ k = omega (arith, most, least) in
          subst (λ (n : ℕ). After k n) (sym (ap (λ (j : ℕ). get_or (set indices j end) k 0) own ∙ get_or-set_same indices k end 0 (omega (arith, within, h.enough))))
          (subst (λ (n : ℕ). After n end) number here)

-- indices by link: the first are those after a cycle, and the others those before it
abbrev pub AreLinksPlacedTo : Domain → TransmissionKind → Traces → ℕ → ℕ → List ℕ → Type 0
AreLinksPlacedTo d kind traces cycle next indices =
    ArePlacedTo (λ link index. IsEndBefore d cycle (marks_at kind traces link) index) (λ link index. IsEndBefore d (cycle + 1) (marks_at kind traces link) index)
    (length d.links) next indices

pub no_link_placed : (d : Domain) (kind : TransmissionKind) (traces : Traces) (cycle : ℕ) (indices : List ℕ) → AreIndices d kind traces cycle indices →
    AreLinksPlacedTo d kind traces cycle 0 indices
no_link_placed d kind traces cycle indices h =
    none_placed (λ link index. IsEndBefore d cycle (marks_at kind traces link) index) (λ link index. IsEndBefore d (cycle + 1) (marks_at kind traces link) index)
    (length d.links) indices h.many h.ends

pub link_placed : (d : Domain) (kind : TransmissionKind) (traces : Traces) (cycle next index : ℕ) (indices : List ℕ) (end : ℕ) (marks : List Mark) →
    AreLinksPlacedTo d kind traces cycle next indices → index ≡ next → next < length d.links → marks ≡ marks_at kind traces next →
    IsEndBefore d (cycle + 1) marks end → AreLinksPlacedTo d kind traces cycle (next + 1) (set indices index end)
link_placed d kind traces cycle next index indices end marks h is inside are here =
    one_placed (λ link index. IsEndBefore d cycle (marks_at kind traces link) index) (λ link index. IsEndBefore d (cycle + 1) (marks_at kind traces link) index)
    (length d.links) next index indices end h is inside (subst (λ (ms : List Mark). IsEndBefore d (cycle + 1) ms end) are here)

pub links_placed : (d : Domain) (kind : TransmissionKind) (traces : Traces) (cycle next : ℕ) (indices : List ℕ) →
    AreLinksPlacedTo d kind traces cycle next indices →
    length d.links ≤ next → AreIndices d kind traces (cycle + 1) indices
links_placed d kind traces cycle next indices h all =
    record { many = h.enough; ends = λ link inside. h.done link (omega (arith, inside, all)) inside }

-- the same by bridge
abbrev pub AreBridgesPlacedTo : Domain → Traces → ℕ → ℕ → List ℕ → Type 0
AreBridgesPlacedTo d traces cycle next indices =
    ArePlacedTo (λ bridge index. IsDropsEndBefore cycle (drops_at traces bridge) index) (λ bridge index. IsDropsEndBefore (cycle + 1) (drops_at traces bridge) index)
    (length d.bridges) next indices

pub no_bridge_placed : (d : Domain) (traces : Traces) (cycle : ℕ) (indices : List ℕ) → AreDropIndices d traces cycle indices →
    AreBridgesPlacedTo d traces cycle 0 indices
no_bridge_placed d traces cycle indices h =
    none_placed (λ bridge index. IsDropsEndBefore cycle (drops_at traces bridge) index)
    (λ bridge index. IsDropsEndBefore (cycle + 1) (drops_at traces bridge) index) (length d.bridges) indices h.many h.ends

pub bridge_placed : (d : Domain) (traces : Traces) (cycle next index : ℕ) (indices : List ℕ) (end : ℕ) → AreBridgesPlacedTo d traces cycle next indices →
    index ≡ next → next < length d.bridges → IsDropsEndBefore (cycle + 1) (drops_at traces next) end →
    AreBridgesPlacedTo d traces cycle (next + 1) (set indices index end)
bridge_placed d traces cycle next index indices end h is inside here =
    one_placed (λ bridge index. IsDropsEndBefore cycle (drops_at traces bridge) index)
    (λ bridge index. IsDropsEndBefore (cycle + 1) (drops_at traces bridge) index) (length d.bridges) next index indices end h is inside here

pub bridges_placed : (d : Domain) (traces : Traces) (cycle next : ℕ) (indices : List ℕ) → AreBridgesPlacedTo d traces cycle next indices →
    length d.bridges ≤ next → AreDropIndices d traces (cycle + 1) indices
bridges_placed d traces cycle next indices h all =
    record { many = h.enough; ends = λ bridge inside. h.done bridge (omega (arith, inside, all)) inside }

-- ---- before the first cycle all indices are 0

front_of_marks : (d : Domain) (marks : List Mark) (index : ℕ) → index ≡ 0 → IsEndBefore d 0 marks index
front_of_marks d marks index is = record {
  within = omega (arith, is);
  before = λ k m at less. absurd (omega (arith, less, is));
  following = λ k m at from. omega arith;
}

front_of_drops : (drops : List Dropped) (index : ℕ) → index ≡ 0 → IsDropsEndBefore 0 drops index
front_of_drops drops index is = record {
  within = omega (arith, is);
  before = λ k x at less. absurd (omega (arith, less, is));
  following = λ k x at from. omega arith;
}

-- each of the first indices is 0
zero_there : (indices : List ℕ) (count k : ℕ) → indices ≡ replicate {A = ℕ} count 0 → k < count → get_or indices k 0 ≡ 0
zero_there indices count k are inside = ap (λ (ps : List ℕ). get_or ps k 0) are ∙ get_or-replicate count k 0 0 inside

enough_there : (indices : List ℕ) (count many : ℕ) → indices ≡ replicate {A = ℕ} count 0 → count ≡ many → many ≤ length indices
enough_there indices count many are is = let long : length indices ≡ count = ap length are ∙ length-replicate count 0 in omega (arith, long, is)

pub first_indices : (d : Domain) (kind : TransmissionKind) (traces : Traces) (indices : List ℕ) (count : ℕ) → indices ≡ replicate {A = ℕ} count 0 → count ≡ length d.links →
    AreIndices d kind traces 0 indices
first_indices d kind traces indices count are is = record {
  many = enough_there indices count (length d.links) are is;
  ends = λ link inside. front_of_marks d (marks_at kind traces link) (get_or indices link 0) (zero_there indices count link are (omega (arith, inside, is)));
}

pub first_drop_indices : (d : Domain) (traces : Traces) (indices : List ℕ) (count : ℕ) → indices ≡ replicate {A = ℕ} count 0 → count ≡ length d.bridges →
    AreDropIndices d traces 0 indices
first_drop_indices d traces indices count are is = record {
  many = enough_there indices count (length d.bridges) are is;
  ends = λ bridge inside. front_of_drops (drops_at traces bridge) (get_or indices bridge 0) (zero_there indices count bridge are (omega (arith, inside, is)));
}
