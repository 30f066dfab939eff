-- What was chosen for streams that are placed, one after the other.
use Rattle.std.proofs.Common.{◌≡◌, ◌∙◌, ℕ, zero, suc, ◌+◌, ◌<◌, ◌++◌, ◌∷◌, [], All, List, Option, Some, ap, arith, drop, get_or, inl, inr, length, map, subst, sym}
use Rattle.std.specs.Prelude.{option_map, slice_get}
use Rattle.std.proofs.lemmas.List.Elements.{All-contains}
use Rattle.std.proofs.lemmas.Option.{same_Some, slice_get-get_or, slice_get-map}
use Rattle.cqf_lists.proofs.Members.{contains_at, contains_none}
use Rattle.cqf_lists.proofs.Indices.{slice_get_parts}
use Rattle.cqf_topology.specs.PacedText.{paced_text}
use Rattle.cqf_traffic.specs.declared.flows.Flow.{Flow}
use Rattle.cqf_traffic.specs.FlowsText.{FlowText, flow_text}
use Rattle.cqf_edge.specs.declared.edge.AccessTimes.{AccessTimes}
use Rattle.cqf_network_text.specs.declared.filling.FilledStream.{FilledStream}
use Rattle.cqf_program_placing.specs.declared.settled.Settled.{Settled}
use Rattle.cqf_program_placing.specs.Settled.{SettledStream, settled_value}
use Rattle.cqf_program_planning.specs.PlanOutput.{AreChoicesOf, IsChoiceOf, offset_written}
use Rattle.cqf_program_planning.specs.Steps.{IsTurned}

-- each choice so far is that for the stream at its index
abbrev pub AreChosen : ℕ → List SettledStream → List FlowText → List (Option AccessTimes) → List FilledStream → Type 0
AreChosen cycle_time streams flows times filled =
    (index : ℕ) (stream : SettledStream) (flow : FlowText) (taken : Option AccessTimes) (one : FilledStream) → slice_get streams index ≡ Some stream →
    slice_get flows index ≡ Some flow → slice_get times index ≡ Some taken → slice_get filled index ≡ Some one → IsChoiceOf cycle_time stream flow taken one

-- and the other flows are still to come
pub record IsChosenSoFar (cycle_time : ℕ) (streams : List SettledStream) (flows : List FlowText) (times : List (Option AccessTimes)) (filled : List FilledStream)
    (rest : List FlowText) : Type 0 where
  pub so_far : AreChosen cycle_time streams flows times filled
  pub rest_is : rest ≡ drop (length filled) flows

pub none_chosen : (cycle_time : ℕ) (streams : List SettledStream) (flows rest : List FlowText) (times : List (Option AccessTimes)) (filled : List FilledStream) →
    filled ≡ [] → rest ≡ flows → IsChosenSoFar cycle_time streams flows times filled rest
none_chosen cycle_time streams flows rest times filled none all = record {
  so_far = λ index stream flow taken one a b c d.
      absurd (contains_none one (contains_at [] index one (sym (ap (λ (xs : List FilledStream). slice_get xs index) none) ∙ d)));
  rest_is = all ∙ ap (λ (xs : List FilledStream). drop (length xs) flows) (sym none);
}

-- the first of those to come
front_at : {X : Type 0} (xs : List X) (n : ℕ) (x : X) (rest : List X) → drop n xs ≡ x ∷ rest → (slice_get xs n ≡ Some x) × (drop (suc n) xs ≡ rest)
front_at [] zero x rest e = absurd cc
front_at (y ∷ ys) zero x rest e = let first : y ≡ x = cc in let others : ys ≡ rest = cc in (ap Some first, others)
front_at [] (suc n) x rest e = absurd cc
front_at (y ∷ ys) (suc n) x rest e = front_at ys n x rest e

-- the element at an index, as it is seen
seen_at : {X Y : Type 0} (view : X → Y) (xs : List X) (k : ℕ) (x d : X) → k < length xs → x ≡ get_or xs k d → slice_get (map view xs) k ≡ Some (view x)
seen_at view xs k x d inside is =
    slice_get-map view xs k ∙ ap (option_map view) (slice_get-get_or xs k d inside) ∙ ap (λ z. Some (view z)) (sym is)

module _ (cycle_time : ℕ) (streams : List SettledStream) (flows : List FlowText) (times : List (Option AccessTimes)) (done : List FilledStream)
    (flow : FlowText) (before rest : List FlowText) (front : before ≡ flow ∷ rest) (before_is : IsChosenSoFar cycle_time streams flows times done before) where
  next_front : (slice_get flows (length done) ≡ Some flow) × (drop (suc (length done)) flows ≡ rest)
  next_front = front_at flows (length done) flow rest (sym before_is.rest_is ∙ front)

  -- the next flow is one of them
  pub turned_there : All IsTurned flows → IsTurned flow
  turned_there all = All-contains IsTurned flows flow all (contains_at flows (length done) flow next_front.0)

  module _ (stream : SettledStream) (taken : Option AccessTimes) (one : FilledStream) (stream_at : slice_get streams (length done) ≡ Some stream)
      (taken_at : slice_get times (length done) ≡ Some taken) (is : IsChoiceOf cycle_time stream flow taken one) where
    -- one more, at its index
    at_last : (k index : ℕ) (s : SettledStream) (f : FlowText) (t : Option AccessTimes) (x : FilledStream) → index ≡ length done + k →
        slice_get (one ∷ []) k ≡ Some x → slice_get streams index ≡ Some s → slice_get flows index ≡ Some f → slice_get times index ≡ Some t →
        IsChoiceOf cycle_time s f t x
    at_last zero index s f t x at there a b c =
        let here : index ≡ length done = omega (arith, at) in
        let is_stream : stream ≡ s = same_Some stream s (sym stream_at ∙ ap (slice_get streams) (sym here) ∙ a) in
        let is_flow : flow ≡ f = same_Some flow f (sym next_front.0 ∙ ap (slice_get flows) (sym here) ∙ b) in
        let is_taken : taken ≡ t = same_Some taken t (sym taken_at ∙ ap (slice_get times) (sym here) ∙ c) in
        let is_one : one ≡ x = same_Some one x there in
        subst (λ (v : SettledStream). IsChoiceOf cycle_time v f t x) is_stream
        (subst (λ (v : FlowText). IsChoiceOf cycle_time stream v t x) is_flow
        (subst (λ (v : Option AccessTimes). IsChoiceOf cycle_time stream flow v x) is_taken
        (subst (λ (v : FilledStream). IsChoiceOf cycle_time stream flow taken v) is_one is)))
    at_last (suc k) index s f t x at there a b c = absurd (contains_none x (contains_at [] k x there))

    one_more : (after : List FilledStream) → after ≡ done ++ one ∷ [] → length after ≡ suc (length done) →
        IsChosenSoFar cycle_time streams flows times after rest
    one_more after more longer = record {
      so_far = λ index s f t x a b c d.
          elim (slice_get_parts done (one ∷ []) index x (sym (ap (λ (xs : List FilledStream). slice_get xs index) more) ∙ d)) [
            | inl e ↦ before_is.so_far index s f t x a b c e
            | inr e ↦ at_last e.0 index s f t x e.1 e.2 a b c
          ];
      rest_is = sym next_front.1 ∙ ap (λ (n : ℕ). drop n flows) (sym longer);
    }

-- one more, by what a program has of it
pub one_chosen : (cycle_time : ℕ) (streams : List Settled) (flows : List FlowText) (times : List (Option AccessTimes)) (done after : List FilledStream)
    (one : FilledStream) (index : ℕ) (stream sd : Settled) (flow : Flow) (taken td : Option AccessTimes) (before rest : List Flow) →
    IsChosenSoFar cycle_time (map settled_value streams) flows times done (map flow_text before) → index ≡ length done → index < length streams →
    index < length times → stream ≡ get_or streams index sd → taken ≡ get_or times index td → before ≡ flow ∷ rest → after ≡ done ++ one ∷ [] →
    length after ≡ suc (length done) → paced_text one.request ≡ (flow_text flow).0.0 →
    one.offset ≡ offset_written cycle_time (settled_value stream) (flow_text flow) taken →
    IsChosenSoFar cycle_time (map settled_value streams) flows times after (map flow_text rest)
one_chosen cycle_time streams flows times done after one index stream sd flow taken td before rest so_far at inside within stream_is taken_is front more longer
    request offset =
    one_more cycle_time (map settled_value streams) flows times done (flow_text flow) (map flow_text before) (map flow_text rest) (ap (map flow_text) front) so_far
    (settled_value stream) taken one
    (ap (slice_get (map settled_value streams)) (sym at) ∙ seen_at settled_value streams index stream sd inside stream_is)
    (ap (slice_get times) (sym at) ∙ slice_get-get_or times index td within ∙ ap (λ (t : Option AccessTimes). Some t) (sym taken_is))
    (record { request = request; offset = offset }) after more longer

-- and all of them
pub all_chosen : (cycle_time : ℕ) (streams : List SettledStream) (flows rest : List FlowText) (times : List (Option AccessTimes)) (filled : List FilledStream) →
    length filled ≡ length flows → IsChosenSoFar cycle_time streams flows times filled rest → AreChoicesOf cycle_time streams flows times filled
all_chosen cycle_time streams flows rest times filled many so_far = record { one_each = many; each = so_far.so_far }
