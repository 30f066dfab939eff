-- One more of what is listed below a bound.
use Rattle.std.proofs.Common.{◌≡◌, ◌∙◌, ◌+◌, ◌<◌, ◌++◌, ◌∷◌, [], ℕ, List, None, Option, Some, add-one, ap, get_or, length, map, option_map, sym}
use Rattle.std.proofs.lemmas.Option.{slice_get-get_or, slice_get-map}
use Rattle.std.specs.Prelude.{slice_get, slice_index_or}
use Rattle.std.specs.Option.{option_map_or}
use Rattle.cqf_edge.specs.EdgeFlows.{EdgeFlowsText}
use Rattle.cqf_lists.specs.Lists.{each_below}
use Rattle.cqf_model.specs.Domain.{Domain}
use Rattle.cqf_network.specs.declared.domain.TalkerLink.{TalkerLink}
use Rattle.cqf_traffic.specs.FlowsText.{FlowText}
use Rattle.cqf_program_diff.specs.Element.{ElementText}
use Rattle.cqf_program_diff.specs.Streams.{element_at, stream_element}

-- what is listed with one more
pub each_more : {A : Type 0} (f : ℕ → List A) (n : ℕ) → each_below f (n + 1) ≡ each_below f n ++ f n
each_more f n = ap (each_below f) (add-one n)

pub more_below : {A : Type 0} (f : ℕ → List A) (n : ℕ) (before after new : List A) → before ≡ each_below f n → after ≡ before ++ new → new ≡ f n
    → after ≡ each_below f (n + 1)
more_below f n before after new so_far is one = is ∙ (λ i. so_far i ++ one i) ∙ sym (ap (each_below f) (add-one n))

-- one more stream
pub more_streams : (d : Domain) (talkers : List TalkerLink) (edge : EdgeFlowsText) (index : ℕ) (flow : FlowText) (before after : List ElementText) →
    before ≡ each_below (element_at d talkers edge) index → slice_get edge.flows index ≡ Some flow →
    after ≡ before ++ stream_element d talkers (slice_index_or edge.deadlines index None) (slice_index_or edge.handed index None) flow ∷ []
    → after ≡ each_below (element_at d talkers edge) (index + 1)
more_streams d talkers edge index flow before after so_far there is =
    let element : FlowText → List ElementText = λ one. stream_element d talkers (slice_index_or edge.deadlines index None) (slice_index_or edge.handed index None) one ∷ [] in
    more_below (element_at d talkers edge) index before after (element flow) so_far is (sym (ap (λ (found : Option FlowText). option_map_or element found []) there))

-- the element at an index of a list, as it is seen
pub seen_at : {X Y : Type 0} (view : X → Y) (xs : List X) (k : ℕ) (x d : X) → k < length xs → x ≡ get_or xs k d → slice_get (map view xs) k ≡ Some (view x)
seen_at {X} {Y} view xs k x d below is = slice_get-map view xs k ∙ ap (option_map view) (slice_get-get_or xs k d below) ∙ ap (λ (y : X). Some (view y)) (sym is)
