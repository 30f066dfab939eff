-- Paths are appended to others.
use Rattle.std.proofs.Common.{◌≡◌, ◌∙◌, ◌+◌, ◌++◌, ◌<◌, [], ℕ, Bool, true, false, List, Some, None, Option, ap, filter, get_or, if◌then◌else◌, length, map, refl, sym, take}
use Rattle.std.specs.Prelude.{option_map}
use Rattle.std.proofs.lemmas.Simd.{map-map}
use Rattle.cqf_compile.proofs.Bridges.{no_hop}
use Rattle.cqf_model.specs.declared.topology.Hop.{Hop}
use Rattle.cqf_model.specs.Domain.{Domain, end_of}
use Rattle.cqf_program_plans.specs.Latency.Text.{is_station}
use Rattle.cqf_program_plans.proofs.Found.{items_of, listed_more}
use Rattle.cqf_program_summary.specs.declared.summary.fares.Listener.{Listener}
use Rattle.cqf_program_summary.specs.declared.summary.fares.ListenerPath.{ListenerPath}
use Rattle.cqf_program_summary.specs.Summary.{listener_to, path_to}

-- the path to a listener that is found; no frame has taken it
abbrev pub first_path : Listener → ListenerPath
first_path listener = path_to [] (Some listener)

path_if : (b : Bool) (listener : Listener) → option_map first_path (if b then Some listener else None) ≡ (if b then Some (first_path listener) else None)
path_if true listener = refl
path_if false listener = refl

module _ (d : Domain) (cost : ℕ → ℕ) where
  abbrev pub paths_among : List Hop → List ListenerPath
  paths_among hops = map (path_to []) (map (λ (hop : Hop). Some (listener_to d cost hop)) (filter (λ (hop : Hop). is_station (end_of d hop.link)) hops))

  -- one hop more
  pub paths_more : (hops : List Hop) (k : ℕ) (found : Option Listener) (before done : List ListenerPath) → k < length hops →
      found ≡ (if is_station (end_of d (get_or hops k no_hop).link) then Some (listener_to d cost (get_or hops k no_hop)) else None) →
      done ≡ before ++ paths_among (take k hops) → done ++ items_of (option_map first_path found) ≡ before ++ paths_among (take (k + 1) hops)
  paths_more hops k found before done below is so_far =
      let p : Hop → Bool = λ hop. is_station (end_of d hop.link) in
      let f : Hop → ListenerPath = λ hop. first_path (listener_to d cost hop) in
      listed_more p f hops k no_hop (option_map first_path found) before done below
      (ap (option_map first_path) is ∙ path_if (p (get_or hops k no_hop)) (listener_to d cost (get_or hops k no_hop)))
      (so_far ∙ ap (λ (ws : List ListenerPath). before ++ ws) (map-map (path_to []) (λ (hop : Hop). Some (listener_to d cost hop)) (filter p (take k hops))))
      ∙ ap (λ (ws : List ListenerPath). before ++ ws) (sym (map-map (path_to []) (λ (hop : Hop). Some (listener_to d cost hop)) (filter p (take (k + 1) hops))))
