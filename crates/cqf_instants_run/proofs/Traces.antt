-- The traces after their links' ports have started background frames.
use Rattle.std.proofs.Common.{◌≡◌, ◌⊎◌, ℕ, zero, suc, ◌+◌, ◌<◌, ◌≤◌, ◌++◌, ◌∷◌, [], true, false, List, arith, sym, ap, ap₂, ◌∙◌, refl, subst, length, get_or}
use Rattle.std.proofs.Common.{append-nil, filter, inl, inr, map, set, take}
use Rattle.std.specs.Prelude.{◌==◌, if◌then◌else◌}
use Rattle.std.proofs.lemmas.Bool.{cases_lt}
use Rattle.std.proofs.lemmas.List.{get_or-map, get_or-set_other, get_or-set_same, get_or_default, length-map, length-set}
use Rattle.cqf_lists.proofs.EachBelow.{get_or-singles, length-singles}
use Rattle.cqf_lists.proofs.Members.{contains_here}
use Rattle.cqf_model.specs.declared.ports.Arrival.{Arrival}
use Rattle.cqf_model.specs.declared.ports.Start.{Start}
use Rattle.cqf_model.specs.Domain.{Domain, octet_time_of}
use Rattle.cqf_model.specs.Network.{compiled_lists}
use Rattle.cqf_model.specs.Port.{AreLegal, Transmission}
use Rattle.cqf_port.specs.PortState.{start_of}
use Rattle.cqf_trace.specs.declared.trace.Mark.{Mark}
use Rattle.cqf_trace.specs.declared.trace.Trace.{Trace}
use Rattle.cqf_trace.specs.Traces.{background_at, first_links, link_of_trace, links_of, mark_of_start, starts_at}
use Rattle.cqf_trace.proofs.Held.{background_there, starts_there}
use Rattle.cqf_instants_run.specs.Feeding.{fed}
use Rattle.cqf_instants_run.specs.Sending.{Backs, Hands, is_low}
use Rattle.cqf_instants_run.specs.Taping.{TakeBackground, TakesBackground, arrival_of_mark}
use Rattle.cqf_instants_run.proofs.Starting.{given_none, given_whole}
use Rattle.cqf_instants_run.proofs.Tellings.{one_passed, one_reported}

-- a trace has in addition the background frames among some starts
pub record HasBesides (made : List Start) (before after : Trace) : Type 0 where
  pub link : after.link ≡ before.link
  pub starts : after.starts ≡ before.starts
  pub background : after.background.items ≡ before.background.items ++ map mark_of_start (filter is_low made)

-- at first it has none in addition
pub none_besides : (trace : Trace) → HasBesides [] trace trace
none_besides trace = record { link = refl; starts = refl; background = sym (append-nil trace.background.items) }

module _ (made : List Start) (k : ℕ) (x e : Start) (inside : k < length made) (there : x ≡ get_or made k e) (before trace : Trace)
    (so_far : HasBesides (take k made) before trace) where
  -- one more is appended
  pub one_besides : (after : Trace) → is_low x ≡ true → after.link ≡ trace.link → after.starts ≡ trace.starts →
      after.background.items ≡ trace.background.items ++ mark_of_start x ∷ [] → HasBesides (take (k + 1) made) before after
  one_besides after low link starts more = record {
    link = link ∙ so_far.link;
    starts = starts ∙ so_far.starts;
    background = one_reported mark_of_start is_low made k x e inside there before.background.items trace.background.items so_far.background
        after.background.items low more;
  }

  -- or it is skipped
  pub none_more : is_low x ≡ false → HasBesides (take (k + 1) made) before trace
  none_more high = record {
    link = so_far.link;
    starts = so_far.starts;
    background = one_passed mark_of_start is_low made k x e inside there before.background.items trace.background.items so_far.background high;
  }

-- if a port is given background frames, the streams' frames of a trace follow them
pub given_after : (d : Domain) (frames arrivals : List Arrival) (items marks : List Mark) → 0 < length frames →
    arrivals ≡ frames ++ map (arrival_of_mark d) items → items ≡ marks → arrivals ≡ fed frames (map (arrival_of_mark d) marks)
given_after d frames arrivals items marks some more same =
    more ∙ ap (λ (xs : List Mark). frames ++ map (arrival_of_mark d) xs) same ∙ sym (given_whole frames (map (arrival_of_mark d) marks) some)

-- if it is given nothing, none starts
pub nothing_taken : (d : Domain) (end : ℕ) (frames : List Arrival) (trace : Trace) → length frames ≡ 0 → TakesBackground d end frames trace trace
nothing_taken d end frames trace none = record {
  link = refl;
  starts = refl;
  background = λ backed b. sym (append-nil trace.background.items) ∙ ap (λ z. trace.background.items ++ map mark_of_start z) (sym (no_backs backed b));
}
  where
    -- an empty list is given
    given_nil : fed frames (map (arrival_of_mark d) trace.starts.items) ≡ []
    given_nil = given_none frames (map (arrival_of_mark d) trace.starts.items) none

    -- if nothing arrives, no start is legal
    no_starts : (starts : List Transmission) →
        AreLegal (record { entries = compiled_lists d trace.link; octet_time = octet_time_of d trace.link }) [] end starts → starts ≡ []
    no_starts [] legal = refl
    no_starts (x ∷ starts) legal = absurd (omega (arith, (legal.first x.0 x.1 (contains_here x starts)).waits.inside))

    -- so none is of a background frame
    no_backs : (backed : List Start) → Backs d end trace.link (fed frames (map (arrival_of_mark d) trace.starts.items)) backed → backed ≡ []
    no_backs backed b =
        let h = subst (λ (z : List Arrival). Backs d end trace.link z backed) given_nil b in
        h.are_backed ∙ ap (λ (z : List Transmission). filter is_low (map (start_of []) z)) (no_starts h.starts h.legal)

-- else the trace has what the port starts
pub all_taken : (d : Domain) (end : ℕ) (frames : List Arrival) (before after : Trace) (arrivals : List Arrival) (made : List Start) →
    arrivals ≡ fed frames (map (arrival_of_mark d) before.starts.items) → Hands d end before.link arrivals made → HasBesides made before after →
    TakesBackground d end frames before after
all_taken d end frames before after arrivals made is h has = record {
  link = has.link;
  starts = has.starts;
  background = λ backed b. has.background ∙ ap (λ z. before.background.items ++ map mark_of_start z) (same backed b);
}
  where
    -- no other starts are legal
    same : (backed : List Start) → Backs d end before.link (fed frames (map (arrival_of_mark d) before.starts.items)) backed → filter is_low made ≡ backed
    same backed b =
        let own = subst (λ (z : List Arrival). Backs d end before.link z backed) (sym is) b in
        ap (filter is_low) (h.are ∙ ap (map (start_of arrivals)) (sym (h.only own.starts own.legal))) ∙ sym own.are_backed

-- the first traces of a list have what their links' ports start, and the others are unchanged
pub record FirstTake (d : Domain) (end : ℕ) (feeds : ℕ → List Arrival) (before after : List Trace) (index : ℕ) : Type 0 where
  pub many : length after ≡ length before
  pub done : (k : ℕ) (none : Trace) → k < index → k < length before → TakesBackground d end (feeds k) (get_or before k none) (get_or after k none)
  pub left : (k : ℕ) (none : Trace) → index ≤ k → get_or after k none ≡ get_or before k none

module _ (d : Domain) (end : ℕ) (feeds : ℕ → List Arrival) (before : List Trace) where
  -- at first no trace has it
  pub none_take : FirstTake d end feeds before before 0
  none_take = record { many = refl; done = λ k none below inside. absurd (omega (arith, below)); left = λ k none at. refl }

  module _ (after : List Trace) (index : ℕ) (h : FirstTake d end feeds before after index) where
    -- the next one has it too
    pub next_takes : (none new : Trace) → index < length before → TakesBackground d end (feeds index) (get_or after index none) new →
        FirstTake d end feeds before (set after index new) (index + 1)
    next_takes none new inside more = record {
      many = length-set after index new ∙ h.many;
      done = λ k e below within. done k e within (cases_lt k index) (omega (arith, below));
      left = λ k e at. get_or-set_other after index k new e (λ same. omega (arith, same, at)) ∙ h.left k e (omega (arith, at));
    }
      where
        -- there is such an index
        here : index < length after
        here = omega (arith, inside, h.many)

        -- what was there
        was : (e : Trace) → get_or after index none ≡ get_or before index e
        was e = h.left index none (omega arith) ∙ get_or_default before index none e inside

        -- the trace there has it, and so do those before it
        done : (k : ℕ) (e : Trace) → k < length before → (k < index) ⊎ (index ≤ k) → k ≤ index →
            TakesBackground d end (feeds k) (get_or before k e) (get_or (set after index new) k e)
        done k e within (inl less) most =
            subst (λ (t : Trace). TakesBackground d end (feeds k) (get_or before k e) t)
            (sym (get_or-set_other after index k new e (λ same. omega (arith, same, less)))) (h.done k e less within)
        done k e within (inr least) most =
            let same : index ≡ k = omega (arith, least, most) in
            subst (λ (i : ℕ). TakesBackground d end (feeds i) (get_or before i e) (get_or (set after index new) i e)) same
            (subst (λ (t : Trace). TakesBackground d end (feeds index) (get_or before index e) t) (sym (get_or-set_same after index new e here))
            (subst (λ (t : Trace). TakesBackground d end (feeds index) t new) (was e) more))

    -- in the end all have it
    pub all_take : length before ≤ index → TakeBackground d end feeds before after
    all_take all = record { many = h.many; each = λ k none inside. h.done k none (omega (arith, inside, all)) inside }

-- traces in order of link number, one for each of the first links
module _ (count : ℕ) (traces : List Trace) (by : links_of traces ≡ first_links count) where
  -- there are as many
  pub as_many_traces : length traces ≡ count
  as_many_traces = sym (length-map traces link_of_trace) ∙ ap length by ∙ length-singles (λ (l : ℕ). l) count

  -- and each is at the index of its link
  own_number : links_of traces ≡ first_links (length traces)
  own_number = by ∙ ap first_links (sym as_many_traces)

  -- the link of each is its index
  pub link_of_index : (k : ℕ) (none : Trace) → k < length traces → (get_or traces k none).link ≡ k
  link_of_index k none inside =
      sym (get_or-map link_of_trace traces k none 0 inside) ∙ ap (λ (links : List ℕ). get_or links k 0) own_number
      ∙ get_or-singles (λ (l : ℕ). l) (length traces) k 0 inside

  -- so it has the link's streams' frames
  pub starts_of_index : (k : ℕ) (none : Trace) → k < length traces → (get_or traces k none).starts.items ≡ starts_at traces k
  starts_of_index k none inside =
      starts_there traces k (get_or traces k none) own_number inside (get_or_default traces k none (get_or traces k none) inside)

  -- and its background frames
  pub background_of_index : (k : ℕ) (none : Trace) → k < length traces → (get_or traces k none).background.items ≡ background_at traces k
  background_of_index k none inside =
      background_there traces k (get_or traces k none) own_number inside (get_or_default traces k none (get_or traces k none) inside)

-- the trace after the first ones that have what their ports start
module _ (d : Domain) (end : ℕ) (feeds : ℕ → List Arrival) (before after : List Trace) (index : ℕ) (h : FirstTake d end feeds before after index)
    (by : links_of before ≡ first_links (length d.links)) (is_link : index < length d.links) where
  -- there was one
  inside : index < length before
  inside = omega (arith, is_link, as_many_traces (length d.links) before by)

  -- is there
  pub next_there : index < length after
  next_there = omega (arith, inside, h.many)

  -- as it was
  as_before : (none : Trace) → get_or after index none ≡ get_or before index none
  as_before none = h.left index none (omega arith)

  -- its link is the domain's
  pub next_link : (none : Trace) → (get_or after index none).link < length d.links
  next_link none =
      omega (arith, is_link, ap (λ (trace : Trace). trace.link) (as_before none), link_of_index (length d.links) before by index none inside)

  -- it has its link's streams' frames
  pub next_marks : (none : Trace) → (get_or after index none).starts.items ≡ starts_at before index
  next_marks none = ap (λ (trace : Trace). trace.starts.items) (as_before none) ∙ starts_of_index (length d.links) before by index none inside

  -- and once it has what its port starts, one more trace has
  pub next_has : (list : List Arrival) (none new : Trace) → feeds index ≡ list → TakesBackground d end list (get_or after index none) new →
      FirstTake d end feeds before (set after index new) (index + 1)
  next_has list none new is more =
      next_takes d end feeds before after index h none new inside
      (subst (λ (xs : List Arrival). TakesBackground d end xs (get_or after index none) new) (sym is) more)

-- a trace keeps its link and its streams' frames
record KeepsStarts (before after : Trace) : Type 0 where
  link : after.link ≡ before.link
  starts : after.starts.items ≡ before.starts.items

-- and so does each of a list
record KeepStarts (before after : List Trace) : Type 0 where
  many : length after ≡ length before
  each : (k : ℕ) (none : Trace) → k < length before → KeepsStarts (get_or before k none) (get_or after k none)

-- then so do the others
others_keep : (b a : Trace) (before after : List Trace) → KeepStarts (b ∷ before) (a ∷ after) → KeepStarts before after
others_keep b a before after h =
    record { many = omega (arith, h.many); each = λ k none inside. h.each (suc k) none (omega (arith, inside)) }

-- the links are the same
same_links : (before after : List Trace) → KeepStarts before after → links_of after ≡ links_of before
same_links [] [] h = refl
same_links [] (a ∷ after) h = absurd (omega (arith, h.many))
same_links (b ∷ before) [] h = absurd (omega (arith, h.many))
same_links (b ∷ before) (a ∷ after) h =
    ap₂ (λ (link : ℕ) (links : List ℕ). link ∷ links) (h.each zero b (omega arith)).link (same_links before after (others_keep b a before after h))

-- and on each trace the streams' frames are the same
same_starts : (before after : List Trace) (l : ℕ) → KeepStarts before after → starts_at after l ≡ starts_at before l
same_starts [] [] l h = refl
same_starts [] (a ∷ after) l h = absurd (omega (arith, h.many))
same_starts (b ∷ before) [] l h = absurd (omega (arith, h.many))
same_starts (b ∷ before) (a ∷ after) l h =
    let one = h.each zero b (omega arith) in
    ap (λ (n : ℕ). if n == l then a.starts.items else starts_at after l) one.link
    ∙ ap (λ (marks : List Mark). if b.link == l then marks else starts_at after l) one.starts
    ∙ ap (λ (rest : List Mark). if b.link == l then b.starts.items else rest) (same_starts before after l (others_keep b a before after h))

-- one of some traces
one_of : (traces : List Trace) → 0 < length traces → Trace
one_of [] some = absurd (omega (arith, some))
one_of (trace ∷ traces) some = trace

-- each trace has what its link's port starts
module _ (d : Domain) (end : ℕ) (feeds : ℕ → List Arrival) (before after : List Trace) (t : TakeBackground d end feeds before after) where
  -- streams' frames stay
  keep_starts : KeepStarts before after
  keep_starts = record {
    many = t.many;
    each = λ k none inside. let one = t.each k none inside in record { link = one.link; starts = ap (λ v. v.items) one.starts };
  }

  -- and so do links
  pub links_stay : links_of after ≡ links_of before
  links_stay = same_links before after keep_starts

  -- on each trace
  pub starts_stay : (l : ℕ) → starts_at after l ≡ starts_at before l
  starts_stay l = same_starts before after l keep_starts

  -- and the background frames that the port of a link starts follow those that were there
  pub background_more : links_of before ≡ first_links (length d.links) → (l : ℕ) → l < length d.links → (backed : List Start) →
      Backs d end l (fed (feeds l) (map (arrival_of_mark d) (starts_at before l))) backed →
      background_at after l ≡ background_at before l ++ map mark_of_start backed
  background_more by l is_link backed b =
      let inside : l < length before = omega (arith, is_link, as_many_traces (length d.links) before by) in
      let within : l < length after = omega (arith, inside, t.many) in
      let none : Trace = one_of before (omega (arith, inside)) in
      let one = t.each l none inside in
      let own : Backs d end (get_or before l none).link (fed (feeds l) (map (arrival_of_mark d) (get_or before l none).starts.items)) backed =
      subst (λ (k : ℕ). Backs d end k (fed (feeds l) (map (arrival_of_mark d) (get_or before l none).starts.items)) backed)
      (sym (link_of_index (length d.links) before by l none inside))
      (subst (λ (marks : List Mark). Backs d end l (fed (feeds l) (map (arrival_of_mark d) marks)) backed)
      (sym (starts_of_index (length d.links) before by l none inside)) b) in
      sym (background_of_index (length d.links) after (links_stay ∙ by) l none within) ∙ one.background backed own
      ∙ ap (λ (marks : List Mark). marks ++ map mark_of_start backed) (background_of_index (length d.links) before by l none inside)
