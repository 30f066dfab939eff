-- A stream whose frames are handed to an access link, as it is read in the text of a plan: it arrives at its edge bridge as it was placed.
use Rattle.std.proofs.Common.{◌≡◌, ◌+◌, ◌*◌, ◌<◌, ◌≤◌, ℕ, List, Option, Some, None, ap, arith, refl, sym}
use Rattle.std.specs.Prelude.{min, option_map, slice_get}
use Rattle.std.specs.Option.{option_and_then}
use Rattle.cqf_traffic.specs.TrafficText.{TrafficText}
use Rattle.cqf_network.specs.declared.domain.TalkerLink.{TalkerLink}
use Rattle.cqf_network.specs.NetworkDomain.{NetworkDomain}
use Rattle.cqf_edge.specs.declared.edge.Passage.{Passage}
use Rattle.cqf_edge.specs.declared.uses.AccessBound.{AccessBound}
use Rattle.cqf_edge.specs.declared.uses.Handed.{Handed}
use Rattle.cqf_edge.specs.Edge.{closer_word, grid_word, shortest_travel, times_by, times_on, word_from, word_on}
use Rattle.cqf_edge.specs.EdgeFlows.{passage_of}
use Rattle.cqf_edge.specs.Entrances.{link_at}
use Rattle.cqf_edge.specs.Uses.{handed_over, longest_frame, shortest_frame}
use Rattle.cqf_network_text.specs.NetworkLaws.{beginning_at, chosen_traffic}
use Rattle.cqf_program_planning.specs.PlanOutput.{offset_before, taken_by}
use Rattle.cqf_program_planning.specs.ReadPlans.{ComesInRound}
use Rattle.cqf_program_planning.proofs.Erased.{erased}
use Rattle.cqf_program_planning.proofs.Rounds.{comes_round}

-- what is handed over, where offers begin at a chosen instant
abbrev pub with_offset : Handed → Option ℕ → Handed
with_offset h offset = record { index = h.index; octets = h.octets; shortest = h.shortest; traffic = chosen_traffic offset h.traffic }

-- it is the same, apart from when it begins
erased_by : (offset : Option ℕ) (traffic : Option TrafficText) → option_map (beginning_at 0) (chosen_traffic offset traffic) ≡ option_map (beginning_at 0) traffic
erased_by None traffic = refl
erased_by (Some o) None = refl
erased_by (Some o) (Some t) = refl

pub erased_with_offset : (h : Handed) (offset : Option ℕ) → erased (with_offset h offset) ≡ erased h
erased_with_offset h offset = (λ i. record { index = h.index; octets = h.octets; shortest = h.shortest; traffic = erased_by offset h.traffic i })

-- frames are as large as they were
frame_same : (overhead octets others : ℕ) (offset : Option ℕ) (traffic : Option TrafficText) → (traffic ≡ None → octets ≡ others) →
    longest_frame overhead others (chosen_traffic offset traffic) ≡ longest_frame overhead octets traffic
frame_same overhead octets others None None same = ap (λ n. min (n + overhead) 1522) (sym (same refl))
frame_same overhead octets others None (Some t) same = refl
frame_same overhead octets others (Some o) None same = ap (λ n. min (n + overhead) 1522) (sym (same refl))
frame_same overhead octets others (Some o) (Some t) same = refl

short_same : (shortest : Option ℕ) (offset : Option ℕ) (traffic : Option TrafficText) →
    shortest_frame shortest (chosen_traffic offset traffic) ≡ shortest_frame shortest traffic
short_same (Some n) offset traffic = refl
short_same None None traffic = refl
short_same None (Some o) None = refl
short_same None (Some o) (Some t) = refl

pub handed_with_offset : (overhead index octets others : ℕ) (shortest : Option ℕ) (offset : Option ℕ) (traffic : Option TrafficText) → (traffic ≡ None → octets ≡ others) →
    handed_over overhead index others shortest (chosen_traffic offset traffic) ≡ with_offset (handed_over overhead index octets shortest traffic) offset
handed_with_offset overhead index octets others shortest offset traffic same =
    let long = frame_same overhead octets others offset traffic same in
    let short = short_same shortest offset traffic in
    (λ i. record { index = index; octets = long i; shortest = min (short i) (long i); traffic = chosen_traffic offset traffic })

-- ---- how it goes by the link

abbrev pub Found : Type 0
Found = Option (TalkerLink × AccessBound)

abbrev pub found_at : NetworkDomain → List AccessBound → ℕ → Found
found_at network bounds index = option_and_then (λ (link : TalkerLink). option_map (λ (b : AccessBound). (link, b)) (slice_get bounds index)) (link_at network index)

abbrev pub made : TalkerLink → Handed → AccessBound → Passage
made link h b = record { link = link; handed = h; bound = b }

abbrev pub passage_with : Found → Handed → Option Passage
passage_with found h = option_map (λ (both : TalkerLink × AccessBound). made both.0 h both.1) found

pub passage_found : (network : NetworkDomain) (bounds : List AccessBound) (h : Handed) → passage_of network bounds (Some h) ≡ passage_with (found_at network bounds h.index) h
passage_found network bounds h = by (link_at network h.index) (slice_get bounds h.index)
  where
    by : (l : Option TalkerLink) (b : Option AccessBound) →
        option_and_then (λ (link : TalkerLink). option_map (λ (found : AccessBound). made link h found) b) l
        ≡ passage_with (option_and_then (λ (link : TalkerLink). option_map (λ (found : AccessBound). (link, found)) b) l) h
    by None b = refl
    by (Some l) None = refl
    by (Some l) (Some b) = refl

module _ (link : TalkerLink) (b : AccessBound) (h : Handed) where
  -- as long as it did
  times_same : (offset : Option ℕ) (traffic : Option TrafficText) →
      option_map (times_on (made link h b)) (chosen_traffic offset traffic) ≡ option_map (times_on (made link h b)) traffic
  times_same None traffic = refl
  times_same (Some o) None = refl
  times_same (Some o) (Some t) = refl

  pub times_with_offset : (offset : Option ℕ) → times_by (made link (with_offset h offset) b) ≡ times_by (made link h b)
  times_with_offset offset = times_same offset h.traffic

  -- with the same word, if its beginning wasn't chosen
  pub word_given : word_on (made link (with_offset h None) b) ≡ word_on (made link h b)
  word_given = refl

  -- else with one that fits the grid on which it was placed
  abbrev pub there : ℕ → TrafficText → TrafficText
  there offset t = word_from (made link (with_offset h (Some offset)) b) (beginning_at offset t) (closer_word (made link h b) t).jitter

  abbrev pub placed : ℕ → TrafficText → TrafficText
  placed at t = record (word_from (made link h b) t (grid_word (made link h b) t).jitter) { offset = at }

  pub round_kept : (at cycle_time every : ℕ) (t : TrafficText) → 0 < every * cycle_time →
      ComesInRound (every * cycle_time) (placed at t) (there (offset_before at (taken_by (Some (times_on (made link h b) t))) cycle_time every) t)
  round_kept at cycle_time every t some =
      let p = made link h b in
      let less : (closer_word p t).jitter ≤ (grid_word p t).jitter = omega arith in
      record {
        interval = refl;
        frames = refl;
        size = refl;
        jitter = less;
        offset = comes_round at (shortest_travel p) (every * cycle_time) some;
      }
