-- What ports are given, one frame after the other.
use Rattle.std.proofs.Common.{◌≡◌, ◌∙◌, ◌++◌, ◌∷◌, [], ◌<◌, ◌+◌, ℕ, zero, suc, All, Bool, true, false, List, take, ap, sym, length, refl, arith, get_or}
use Rattle.std.proofs.Common.{append_assoc, append-nil, subst}
use Rattle.std.specs.Prelude.{◌==◌}
use Rattle.std.specs.Global.{Global}
use Rattle.std.specs.declared.vec.Vec.{Vec}
use Rattle.std.proofs.lemmas.Bool.{true≢false}
use Rattle.std.proofs.lemmas.Bool.Decides.{nat_tests}
use Rattle.std.proofs.lemmas.List.{get_or-map, length-map, nil_from_length, take_more}
use Rattle.cqf_lists.specs.ByNumber.{AddsTo, AreListsBy, lists_of}
use Rattle.cqf_lists.proofs.ByNumber.{apart_from_key, listed_by_key, made-append, made_by_key, made_elsewhere, made_here}
use Rattle.cqf_model.specs.declared.frames.Backed.{Backed}
use Rattle.cqf_model.specs.declared.frames.Started.{Started}
use Rattle.cqf_model.specs.declared.ports.Arrival.{Arrival}
use Rattle.cqf_instants_run.specs.Feeding.{AddsStart, AreFed, arrival_of_frame, arrival_of_start, fed, frames_fed_on, streams_fed_on}
use Rattle.cqf_instants_run.proofs.Starting.{given_whole}

-- without streams' frames a port is given its background frames
pub fed-nil : (frames : List Arrival) → fed frames [] ≡ frames
fed-nil [] = refl
fed-nil (x ∷ frames) = ap (λ z. x ∷ z) (append-nil frames)

-- more streams' frames are appended
fed-more : (frames streams more : List Arrival) → fed (fed frames streams) more ≡ fed frames (streams ++ more)
fed-more [] streams more = refl
fed-more (x ∷ frames) streams more = ap (λ z. x ∷ z) (append_assoc frames streams more)

-- a number that isn't 0 is positive
pub some_in : (n : ℕ) → (n == 0) ≡ false → 0 < n
some_in zero e = absurd (true≢false e)
some_in (suc n) e = omega arith

-- the key of a background frame
abbrev link_of : Backed → ℕ
link_of x = x.background.link

-- one more background frame is appended to its link's list
pub AreFed-frame : (links : ℕ) (frames more : List Backed) (x : Backed) (before after : List (List Arrival)) → more ≡ frames ++ x ∷ [] →
    AddsTo before after x.background.link (arrival_of_frame x) → AreFed frames [] links before → AreFed more [] links after
AreFed-frame links frames more x before after is adds h = record {
  one_each = grown.one_each;
  each = λ link none below. grown.each link none below ∙ sym (fed-nil (frames_fed_on link more));
}
  where
    -- without streams' frames, the lists are those of the background frames
    grown : AreListsBy (made_by_key link_of arrival_of_frame more) links after
    grown = listed_by_key link_of arrival_of_frame frames more x links before after is adds (record {
      one_each = h.one_each;
      each = λ link none below. h.each link none below ∙ fed-nil (frames_fed_on link frames);
    })

-- what a start adds on its link
start_here : (s : Started) (link : ℕ) → (s.link == link) ≡ true → streams_fed_on link (s ∷ []) ≡ arrival_of_start s ∷ []
start_here = made_here (λ (s : Started). s.link) arrival_of_start

-- and elsewhere
start_elsewhere : (s : Started) (link : ℕ) → (s.link == link) ≡ false → streams_fed_on link (s ∷ []) ≡ []
start_elsewhere = made_elsewhere (λ (s : Started). s.link) arrival_of_start

-- if a link's port is given nothing, a start is skipped
pub AddsStart-none : (lists : List (Vec Arrival Global)) (index : ℕ) (list d : Vec Arrival Global) (s : Started) → index ≡ s.link → index < length lists →
    list ≡ get_or lists index d → length list.items ≡ 0 → AddsStart (lists_of lists) (lists_of lists) s
AddsStart-none lists index list d s is below at empty = record { as_many = refl; each = λ link none inside. by link none (s.link == link) refl }
  where
    -- its link has nothing, and the others are the same
    by : (link : ℕ) (none : List Arrival) → (b : Bool) → (s.link == link) ≡ b → get_or (lists_of lists) link none
        ≡ fed (get_or (lists_of lists) link none) (streams_fed_on link (s ∷ []))
    by link none true e =
        let same : link ≡ s.link = grind (arith, nat_tests) in
        let nothing : get_or (lists_of lists) link none ≡ [] =
        ap (λ k. get_or (lists_of lists) k none) (same ∙ sym is) ∙ get_or-map (λ (l : Vec Arrival Global). l.items) lists index d none below
        ∙ ap (λ (l : Vec Arrival Global). l.items) (sym at) ∙ nil_from_length list.items empty in
        nothing ∙ ap (λ z. fed z (streams_fed_on link (s ∷ []))) (sym nothing)
    by link none false e = sym (fed-nil (get_or (lists_of lists) link none)) ∙ ap (fed (get_or (lists_of lists) link none)) (sym (start_elsewhere s link e))

-- if it is given something, the start is appended
pub AddsStart-some : (lists : List (Vec Arrival Global)) (after : List (List Arrival)) (index : ℕ) (list d : Vec Arrival Global) (s : Started)
    → index ≡ s.link → index < length lists →
    list ≡ get_or lists index d → 0 < length list.items → AddsTo (lists_of lists) after s.link (arrival_of_start s) → AddsStart (lists_of lists) after s
AddsStart-some lists after index list d s is below at some adds =
    record { as_many = adds.as_many; each = λ link none inside. by link none (s.link == link) refl }
  where
    -- its link's list has it, and the others are the same
    by : (link : ℕ) (none : List Arrival) → (b : Bool) → (s.link == link) ≡ b → get_or after link none
        ≡ fed (get_or (lists_of lists) link none) (streams_fed_on link (s ∷ []))
    by link none true e =
        let same : link ≡ s.link = grind (arith, nat_tests) in
        let own : get_or (lists_of lists) link none ≡ list.items =
        ap (λ k. get_or (lists_of lists) k none) (same ∙ sym is) ∙ get_or-map (λ (l : Vec Arrival Global). l.items) lists index d none below
        ∙ ap (λ (l : Vec Arrival Global). l.items) (sym at) in
        ap (λ (k : ℕ). get_or after k none) same ∙ adds.own none ∙ ap (λ (k : ℕ). get_or (lists_of lists) k none ++ arrival_of_start s ∷ []) (sym same)
        ∙ ap (λ z. z ++ arrival_of_start s ∷ []) own ∙ sym (given_whole list.items (arrival_of_start s ∷ []) some)
        ∙ ap (λ z. fed z (arrival_of_start s ∷ [])) (sym own) ∙ ap (fed (get_or (lists_of lists) link none)) (sym (start_here s link e))
    by link none false e =
        adds.others link none (apart_from_key (λ (x : Started). x.link) arrival_of_start s link e) ∙ sym (fed-nil (get_or (lists_of lists) link none))
        ∙ ap (fed (get_or (lists_of lists) link none)) (sym (start_elsewhere s link e))

-- with one more start each link's port is given what it adds
pub AreFed-start : (links : ℕ) (frames : List Backed) (starts more : List Started) (s : Started) (before after : List (List Arrival)) → more
    ≡ starts ++ s ∷ [] →
    AddsStart before after s → AreFed frames starts links before → AreFed frames more links after
AreFed-start links frames starts more s before after is adds h = record {
  one_each = adds.as_many ∙ h.one_each;
  each = λ link none below. adds.each link none (omega (arith, below, h.one_each)) ∙ ap (λ z. fed z (streams_fed_on link (s ∷ []))) (h.each link none below)
      ∙ fed-more (frames_fed_on link frames) (streams_fed_on link starts) (streams_fed_on link (s ∷ []))
      ∙ ap (fed (frames_fed_on link frames)) (sym (made-append (λ (x : Started). x.link) arrival_of_start starts (s ∷ []) link)
      ∙ ap (streams_fed_on link) (sym is));
}

module _ (links : ℕ) (frames : List Backed) (k : ℕ) (d : Backed) (inside : k < length frames) where
  -- the next background frame's link has a list
  pub frame_there : (lists : List (Vec Arrival Global)) → All (λ (x : Backed). x.background.link < links) frames →
      AreFed (take k frames) [] links (lists_of lists) →
      (get_or frames k d).background.link < length lists
  frame_there lists on h = omega (arith, on k d inside, h.one_each, length-map lists (λ (v : Vec Arrival Global). v.items))

  -- it is put there
  pub frame_put : (a : Arrival) (before after : List (List Arrival)) → a ≡ arrival_of_frame (get_or frames k d) →
      AddsTo before after (get_or frames k d).background.link a → AreFed (take k frames) [] links before → AreFed (take (k + 1) frames) [] links after
  frame_put a before after is adds h = AreFed-frame links (take k frames) (take (k + 1) frames) (get_or frames k d) before after (take_more frames k d inside)
      (subst (λ z. AddsTo before after (get_or frames k d).background.link z) is adds) h

-- the next start's link has a list
pub start_there : (links : ℕ) (frames : List Backed) (starts : List Started) (k : ℕ) (d : Started) (lists : List (Vec Arrival Global)) → k < length starts →
    All (λ (s : Started). s.link < links) starts → AreFed frames (take k starts) links (lists_of lists) → (get_or starts k d).link < length lists
start_there links frames starts k d lists inside on h = omega (arith, on k d inside, h.one_each, length-map lists (λ (v : Vec Arrival Global). v.items))
