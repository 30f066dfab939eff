-- How long frames wait for one another on access links doesn't depend on when their talkers' offers begin.
use Rattle.std.proofs.Common.{◌≡◌, ◌∙◌, ◌+◌, ◌++◌, ◌==◌, ℕ, Bool, true, false, List, [], ◌∷◌, Option, Some, None, ap, if◌then◌else◌, is_none, map, refl, sym}
use Rattle.std.specs.Prelude.{option_map}
use Rattle.std.specs.Option.{option_map_or}
use Rattle.cqf_traffic.specs.TrafficText.{TrafficText, promise_of}
use Rattle.cqf_network.specs.declared.domain.TalkerLink.{TalkerLink}
use Rattle.cqf_network.specs.NetworkDomain.{NetworkDomain}
use Rattle.cqf_edge.specs.declared.uses.Handed.{Handed}
use Rattle.cqf_edge.specs.Uses.{bound_for, bound_of, bounds_from, bounds_of, handed_to, larger, other_beside, promises_in, unpromised}
use Rattle.cqf_network_text.specs.NetworkLaws.{beginning_at}

-- what is handed over, apart from when it begins
abbrev pub erased : Handed → Handed
erased h = record { index = h.index; octets = h.octets; shortest = h.shortest; traffic = option_map (beginning_at 0) h.traffic }

abbrev pub all_erased : List (Option Handed) → List (Option Handed)
all_erased all = map (option_map erased) all

handed_to_erased : (index : ℕ) (all : List (Option Handed)) → handed_to index (all_erased all) ≡ map erased (handed_to index all)
handed_to_erased index [] = refl
handed_to_erased index (None ∷ all) = handed_to_erased index all
handed_to_erased index (Some h ∷ all) = by (h.index == index) (handed_to_erased index all)
  where
    by : (b : Bool) → handed_to index (all_erased all) ≡ map erased (handed_to index all) →
        (if b then erased h ∷ [] else []) ++ handed_to index (all_erased all) ≡ map erased ((if b then h ∷ [] else []) ++ handed_to index all)
    by true rest = ap (λ (hs : List Handed). erased h ∷ hs) rest
    by false rest = rest

promise_erased : (traffic : Option TrafficText) →
    option_map_or (λ (t : TrafficText). promise_of t ∷ []) (option_map (beginning_at 0) traffic) [] ≡ option_map_or (λ (t : TrafficText). promise_of t ∷ []) traffic []
promise_erased None = refl
promise_erased (Some t) = refl

promises_erased : (all : List Handed) → promises_in (map erased all) ≡ promises_in all
promises_erased [] = refl
promises_erased (h ∷ all) = (λ i. promise_erased h.traffic i ++ promises_erased all i)

none_erased : (traffic : Option TrafficText) → is_none (option_map (beginning_at 0) traffic) ≡ is_none traffic
none_erased None = refl
none_erased (Some t) = refl

other_erased : (other : Option ℕ) (all : List Handed) → other_beside other (map erased all) ≡ other_beside other all
other_erased other [] = refl
other_erased other (h ∷ all) =
    ap (λ (b : Bool). other_beside (larger other (if b then Some h.octets else None)) (map erased all)) (none_erased h.traffic)
    ∙ other_erased (larger other (unpromised h)) all

bound_erased : (all : List (Option Handed)) (index : ℕ) (link : TalkerLink) → bound_for (all_erased all) index link ≡ bound_for all index link
bound_erased all index link =
    let there = handed_to_erased index all in
    let others = ap (other_beside link.other) there ∙ other_erased link.other (handed_to index all) in
    let promises = ap promises_in there ∙ promises_erased (handed_to index all) in
    (λ i. bound_of link (others i) (promises i))

bounds_erased : (all : List (Option Handed)) (index : ℕ) (links : List TalkerLink) → bounds_from (all_erased all) index links ≡ bounds_from all index links
bounds_erased all index [] = refl
bounds_erased all index (link ∷ links) = (λ i. bound_erased all index link i ∷ bounds_erased all (index + 1) links i)

-- so links on which the same is handed over, apart from when it begins, have the same bounds
pub bounds_alike : (network : NetworkDomain) (all others : List (Option Handed)) → all_erased all ≡ all_erased others → bounds_of network all ≡ bounds_of network others
bounds_alike network all others same =
    sym (bounds_erased all 0 network.talkers) ∙ ap (λ (hs : List (Option Handed)). bounds_from hs 0 network.talkers) same
    ∙ bounds_erased others 0 network.talkers
