-- The marks that a list of traces has for a link.
use Rattle.std.proofs.Common.{◌≡◌, ◌≢◌, ℕ, zero, suc, ◌<◌, ◌+◌, ◌∷◌, ◌++◌, [], Contains, List, length, get_or, sym, ap, ◌∙◌, arith, refl, eq-eqb, ne_eqb}
use Rattle.std.specs.Prelude.{◌==◌, if◌then◌else◌}
use Rattle.std.proofs.lemmas.Bool.{cond-false, cond-true}
use Rattle.std.proofs.lemmas.List.{get_or-map}
use Rattle.cqf_lists.proofs.EachBelow.{get_or-singles}
use Rattle.cqf_lists.proofs.Members.{contains_here, contains_later}
use Rattle.cqf_trace.specs.declared.trace.Mark.{Mark}
use Rattle.cqf_trace.specs.declared.trace.Trace.{Trace}
use Rattle.cqf_trace.specs.Traces.{background_at, first_links, link_of_trace, links_of, starts_at}

-- the value of the first trace of a link; empty if there is no such trace
abbrev pub held_at : (Trace → List Mark) → List Trace → ℕ → List Mark
held_at held [] link = []
held_at held (trace ∷ traces) link = if trace.link == link then held trace else held_at held traces link

-- streams' frames, and background frames
abbrev pub starts_of : Trace → List Mark
starts_of trace = trace.starts.items

abbrev pub background_of : Trace → List Mark
background_of trace = trace.background.items

pub starts_held : (traces : List Trace) (link : ℕ) → starts_at traces link ≡ held_at starts_of traces link
starts_held [] link = refl
starts_held (trace ∷ traces) link = ap (λ (rest : List Mark). if trace.link == link then trace.starts.items else rest) (starts_held traces link)

pub background_held : (traces : List Trace) (link : ℕ) → background_at traces link ≡ held_at background_of traces link
background_held [] link = refl
background_held (trace ∷ traces) link = ap (λ (rest : List Mark). if trace.link == link then trace.background.items else rest) (background_held traces link)

module _ (held : Trace → List Mark) where
  -- for the first trace's link it is the value of that trace, and for another link the value among the other traces
  pub held_here : (trace : Trace) (traces : List Trace) (link : ℕ) → trace.link ≡ link → held_at held (trace ∷ traces) link ≡ held trace
  held_here trace traces link is = cond-true (trace.link == link) (held trace) (held_at held traces link) (eq-eqb trace.link link is)

  pub held_later : (trace : Trace) (traces : List Trace) (link : ℕ) → trace.link ≢ link → held_at held (trace ∷ traces) link ≡ held_at held traces link
  held_later trace traces link other = cond-false (trace.link == link) (held trace) (held_at held traces link) (ne_eqb trace.link link other)

  -- appending a trace changes nothing for another link
  pub held_front : (front : List Trace) (last : Trace) (link : ℕ) → last.link ≢ link → held_at held (front ++ last ∷ []) link ≡ held_at held front link
  held_front [] last link other = held_later last [] link other
  held_front (trace ∷ front) last link other =
      ap (λ (rest : List Mark). if trace.link == link then held trace else rest) (held_front front last link other)

  -- an appended trace gives its own value if no earlier trace is of its link
  pub held_last : (front : List Trace) (last : Trace) (link : ℕ) → last.link ≡ link → ((x : ℕ) → Contains (links_of front) x → x ≢ link) →
      held_at held (front ++ last ∷ []) link ≡ held last
  held_last [] last link is apart = held_here last [] link is
  held_last (trace ∷ front) last link is apart =
      held_later trace (front ++ last ∷ []) link (apart trace.link (contains_here trace.link (links_of front)))
      ∙ held_last front last link is (λ x there. apart x (contains_later trace.link (links_of front) x there))

  -- if the traces are numbered consecutively from some number on, each gives its own value
  pub held_from : (traces : List Trace) (first index : ℕ) (d : Trace) → ((k : ℕ) → k < length traces → (get_or traces k d).link ≡ first + k) →
      index < length traces → held_at held traces (first + index) ≡ held (get_or traces index d)
  held_from [] first index d by inside = absurd (omega (arith, inside))
  held_from (trace ∷ traces) first zero d by inside = held_here trace traces (first + 0) (by zero (omega arith))
  held_from (trace ∷ traces) first (suc index) d by inside =
      let mine : trace.link ≡ first + 0 = by zero (omega arith) in
      let same : first + suc index ≡ suc first + index = omega arith in
      held_later trace traces (first + suc index) (λ e. omega (arith, e, mine))
      ∙ ap (held_at held traces) same
      ∙ held_from traces (suc first) index d (λ k below. by (suc k) (omega (arith, below)) ∙ further k) (omega (arith, inside))
    where
      -- one index further
      further : (k : ℕ) → first + suc k ≡ suc first + k
      further k = omega arith

  pub held_by_number : (traces : List Trace) (link : ℕ) (d : Trace) → links_of traces ≡ first_links (length traces) → link < length traces →
      held_at held traces link ≡ held (get_or traces link d)
  held_by_number traces link d by inside =
      let start : link ≡ 0 + link = omega arith in
      ap (held_at held traces) start ∙ held_from traces 0 link d (λ k below. own k below ∙ count k) inside
    where
      -- the link of a trace is the trace's index
      own : (k : ℕ) → k < length traces → (get_or traces k d).link ≡ k
      own k below =
          sym (get_or-map link_of_trace traces k d 0 below) ∙ ap (λ (links : List ℕ). get_or links k 0) by
          ∙ get_or-singles (λ (link : ℕ). link) (length traces) k 0 below

      count : (k : ℕ) → k ≡ 0 + k
      count k = omega arith

-- so the trace at index `link` is the trace of that link
pub starts_there : (traces : List Trace) (link : ℕ) (trace : Trace) → links_of traces ≡ first_links (length traces) → link < length traces →
    trace ≡ get_or traces link trace → trace.starts.items ≡ starts_at traces link
starts_there traces link trace by inside is =
    ap starts_of is ∙ sym (held_by_number starts_of traces link trace by inside) ∙ sym (starts_held traces link)

pub background_there : (traces : List Trace) (link : ℕ) (trace : Trace) → links_of traces ≡ first_links (length traces) → link < length traces →
    trace ≡ get_or traces link trace → trace.background.items ≡ background_at traces link
background_there traces link trace by inside is =
    ap background_of is ∙ sym (held_by_number background_of traces link trace by inside) ∙ sym (background_held traces link)
