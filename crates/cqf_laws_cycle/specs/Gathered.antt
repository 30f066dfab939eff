-- How a bridge and its ports bring the frames of a cycle into the order in which they take them.
use Rattle.std.specs.Prelude.{ℕ, ◌≡◌, ◌+◌, ◌*◌, ◌<◌, ◌++◌, ◌==◌, ◌&&◌, List, [], Bool, true, if◌then◌else◌, map, filter, length, Contains}
use Rattle.std.specs.List.{flat_map}
use Rattle.std.specs.List.Sorted.{IsNonDecreasingBy}
use Rattle.cqf_lists.specs.Lists.{each_below}
use Rattle.cqf_model.specs.declared.frames.Backed.{Backed}
use Rattle.cqf_model.specs.declared.frames.Background.{Background}
use Rattle.cqf_model.specs.declared.frames.Dropped.{Dropped}
use Rattle.cqf_model.specs.declared.frames.Offer.{Offer}
use Rattle.cqf_model.specs.declared.frames.Offered.{Offered}
use Rattle.cqf_model.specs.declared.frames.Sent.{Sent}
use Rattle.cqf_model.specs.Book.{drop_by, drops_in}
use Rattle.cqf_model.specs.Domain.{Domain, bridge_of, cycle_of, enters, leaves}
use Rattle.cqf_model.specs.Network.{backed_frame, backed_in, numbered_background}
use Rattle.cqf_model.specs.Run.{Run}
use Rattle.cqf_model.specs.Policing.{Carried, Policed, Received, is_offered_at, numbered, offer_received, sent_received, whole_at}
use Rattle.cqf_laws_cycle.specs.BridgeCycle.{policed_in, received_in}

-- `sorted` is `gathered` in order of a key, by a stable sort
pub record IsInOrderOf {A : Type 0} (key : A → ℕ) (gathered sorted : List A) : Type 0 where
  pub in_order : IsNonDecreasingBy key sorted
  pub stable : (k : ℕ) → filter (λ x. key x == k) sorted ≡ filter (λ x. key x == k) gathered

-- the offers at a bridge in a cycle, by instant, then by index
abbrev pub offered_for : Domain → List Offer → ℕ → ℕ → List Offered
offered_for d offers bridge cycle =
    each_below (λ offset. filter (is_offered_at bridge (cycle * d.cycle_time + offset)) (numbered offers)) d.cycle_time

-- whether an offer is one of them
abbrev pub is_offered_in : Domain → ℕ → ℕ → Offered → Bool
is_offered_in d bridge cycle x = (x.offer.bridge == bridge) && (cycle_of d x.offer.at.0 == cycle)

-- a stable sort by instant of the offers at a bridge in a cycle gives this list
abbrev pub OffersStandInOrder : Type 0
OffersStandInOrder = (d : Domain) (offers : List Offer) (bridge cycle : ℕ) (sorted : List Offered) → 0 < d.cycle_time →
    IsInOrderOf (λ (x : Offered). x.offer.at.0) (filter (is_offered_in d bridge cycle) (numbered offers)) sorted →
    sorted ≡ offered_for d offers bridge cycle

-- whether a background frame arrives at a bridge at an instant: its link leaves the bridge
abbrev pub is_backed_for : Domain → ℕ → ℕ → Backed → Bool
is_backed_for d bridge t x = leaves d x.background.link bridge && (x.background.at.0 == t)

-- the background frames of a bridge in a cycle, by instant, then by index
abbrev pub backed_for : Domain → List Background → ℕ → ℕ → List Backed
backed_for d background bridge cycle =
    each_below (λ offset. filter (is_backed_for d bridge (cycle * d.cycle_time + offset)) (numbered_background background)) d.cycle_time

-- whether a background frame is one of them
abbrev pub is_backed_in : Domain → ℕ → ℕ → Backed → Bool
is_backed_in d bridge cycle x = leaves d x.background.link bridge && (cycle_of d x.background.at.0 == cycle)

-- a stable sort by instant of the background frames of a bridge in a cycle gives this list
abbrev pub BackgroundStandsInOrder : Type 0
BackgroundStandsInOrder = (d : Domain) (background : List Background) (bridge cycle : ℕ) (sorted : List Backed) → 0 < d.cycle_time →
    IsInOrderOf (λ (x : Backed). x.background.at.0) (filter (is_backed_in d bridge cycle) (numbered_background background)) sorted →
    sorted ≡ backed_for d background bridge cycle

-- whether a background frame is of this link
abbrev pub is_for_link : ℕ → Backed → Bool
is_for_link l x = x.background.link == l

-- from the list of a bridge's background frames of a cycle, each port gets its own background frames of the cycle
abbrev pub PortsGetTheirBackground : Type 0
PortsGetTheirBackground = (d : Domain) (background : List Background) (l cycle : ℕ) → l < length d.links →
    map backed_frame (filter (is_for_link l) (backed_for d background (bridge_of d l) cycle)) ≡ backed_in d background l cycle

-- the frames of the incoming links by link number, each link's in the order in which it sent them, then the offers
abbrev pub gathered_in : Run → Carried → ℕ → ℕ → List Received
gathered_in run batches bridge cycle = let d = run.domain in
    each_below (λ m. if enters d m bridge then map (sent_received d m) (batches m) else []) (length d.links)
    ++ map offer_received (offered_for d run.offers bridge cycle)

-- the frames that the incoming links of a bridge send arrive there fully in the cycle
abbrev pub AreWholeIn : Domain → Carried → ℕ → ℕ → Type 0
AreWholeIn d batches bridge cycle =
    (m : ℕ) (sent : Sent) → enters d m bridge ≡ true → Contains (batches m) sent → cycle_of d (whole_at d m sent) ≡ cycle

-- a stable sort by instant of the gathered frames of a cycle gives the order in which they are taken
abbrev pub FramesAreTakenInOrder : Type 0
FramesAreTakenInOrder = (run : Run) (batches : Carried) (bridge cycle : ℕ) (sorted : List Received) → 0 < run.domain.cycle_time →
    AreWholeIn run.domain batches bridge cycle →
    IsInOrderOf (λ (x : Received). x.at) (gathered_in run batches bridge cycle) sorted →
    sorted ≡ received_in run batches bridge cycle

-- the drops among verdicts, in their order
abbrev pub dropped_of : ℕ → ℕ → List Policed → List Dropped
dropped_of cycle bridge policed = flat_map (λ (p : Policed). drop_by cycle bridge p.received p.verdict) policed

-- a stable sort by frame of the drops of a cycle gives the drops of the bridge's page
abbrev pub DropsAreByFrame : Type 0
DropsAreByFrame = (run : Run) (carried : Carried) (earlier : ℕ → List Policed) (bridge cycle : ℕ) (sorted : List Dropped) →
    IsInOrderOf (λ (x : Dropped). x.frame) (dropped_of cycle bridge (policed_in run carried bridge cycle (earlier bridge))) sorted →
    sorted ≡ drops_in run.domain (length run.offers) (λ b. policed_in run carried b cycle (earlier b)) cycle bridge
