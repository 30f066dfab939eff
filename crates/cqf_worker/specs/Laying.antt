-- Workers between which pipes are laid, link by link.
use Rattle.std.specs.Prelude.{ℕ, ◌≡◌, ◌+◌, ◌<◌, ◌==◌, ◌++◌, ◌∷◌, [], List, All, Contains, filter, if◌then◌else◌, length, map, slice_index_or, true}
use Rattle.cqf_lists.specs.Lists.{each_below}
use Rattle.cqf_model.specs.declared.frames.Offer.{Offer}
use Rattle.cqf_model.specs.Domain.{Domain, enters, leaves}
use Rattle.cqf_relay.specs.Sending.{IsTidy}
use Rattle.cqf_relay.specs.Standing.{StandsSo, is_onward, nothing_yet}
use Rattle.cqf_worker_loops.specs.declared.worker.Worker.{Worker}
use Rattle.cqf_worker.specs.Wires.{IsOn, Wiring}
use Rattle.cqf_worker_loops.specs.Workers.{HasItsOffers, IsUnused, Offering, SegmentPort, link_of}

-- a domain with the offers at its bridges
abbrev pub traffic_of : Domain → List Offer → Offering
traffic_of d offers = record { domain = d; offers = offers }

-- of the first count links, those that end in a bridge, and those that leave it and end in another bridge
abbrev pub first_into : Domain → ℕ → ℕ → List ℕ
first_into d bridge count = each_below (λ l. if enters d l bridge then l ∷ [] else []) count

abbrev pub first_onward : Domain → ℕ → ℕ → List ℕ
first_onward d bridge count = filter (is_onward d) (each_below (λ l. if leaves d l bridge then l ∷ [] else []) count)

-- ports of these links, in order, each of the pipe on its link, at which nothing was put or taken
pub record ArePorts (wiring : Wiring) (links : List ℕ) (ports : List SegmentPort) : Type 0 where
  pub of_links : map link_of ports ≡ links
  pub unused : (p : SegmentPort) → Contains ports p → IsUnused p
  pub wired : (p : SegmentPort) → Contains ports p → IsOn wiring p

-- how many cycles a worker has to go through
abbrev pub cycles_at : Worker → ℕ
cycles_at w = w.relay.cycles

abbrev pub HasCycles : ℕ → Worker → Type 0
HasCycles cycles w = w.relay.cycles ≡ cycles

-- a bridge's worker that has done nothing, with any ports
pub record IsReadyWiring (t : Offering) (number : ℕ) (w : Worker) : Type 0 where
  pub stands : StandsSo t.domain nothing_yet (λ l. []) w.relay
  pub tidy : All IsTidy w.relay.outlets.items
  pub number_is : w.relay.number ≡ number
  pub no_drops : w.relay.edge.drops.items ≡ []
  pub is_agenda : HasItsOffers t number w.agenda
  pub no_tables : w.tables.items ≡ []

-- such a worker that has no ports
pub record IsBare (t : Offering) (number : ℕ) (w : Worker) : Type 0 where
  pub ready : IsReadyWiring t number w
  pub no_ins : w.ins.items ≡ []
  pub no_outs : w.outs.items ≡ []

abbrev pub AreBare : Offering → List Worker → Type 0
AreBare t workers = (number : ℕ) (x : Worker) → number < length workers → IsBare t number (slice_index_or workers number x)

-- a worker with the ports of the first links: of the first into links those that end in its bridge, and of the first onward links those
-- that leave it and end in another bridge
pub record IsLaid (t : Offering) (wiring : Wiring) (into onward number : ℕ) (w : Worker) : Type 0 where
  pub ready : IsReadyWiring t number w
  pub ins : ArePorts wiring (first_into t.domain number into) w.ins.items
  pub outs : ArePorts wiring (first_onward t.domain number onward) w.outs.items

abbrev pub AreLaidWires : Offering → Wiring → ℕ → ℕ → List Worker → Type 0
AreLaidWires t wiring into onward workers =
    (number : ℕ) (x : Worker) → number < length workers → IsLaid t wiring into onward number (slice_index_or workers number x)

-- a worker got one more port at which it puts, or takes
pub record HasOut (before after : Worker) (port : SegmentPort) : Type 0 where
  pub same : after ≡ record before { outs = after.outs }
  pub more : after.outs.items ≡ before.outs.items ++ port ∷ []

pub record HasIn (before after : Worker) (port : SegmentPort) : Type 0 where
  pub same : after ≡ record before { ins = after.ins }
  pub more : after.ins.items ≡ before.ins.items ++ port ∷ []

-- a pipe is laid on a link from one bridge to another, for any pipes on the links before it
abbrev pub LaysPipe : ℕ → ℕ → ℕ → List Worker → List Worker → Type 0
LaysPipe link from to before after = (t : Offering) (wiring : Wiring) → AreLaidWires t wiring link link before →
    ((bridge : ℕ) → leaves t.domain link bridge ≡ (from == bridge)) → ((bridge : ℕ) → enters t.domain link bridge ≡ (to == bridge)) →
    is_onward t.domain link ≡ true → (more : Wiring) × AreLaidWires t more (link + 1) (link + 1) after

-- the pipe of one more link is laid, if that link ends in a bridge
abbrev pub LaysLink : Domain → ℕ → List Worker → List Worker → Type 0
LaysLink d link before after = (t : Offering) (wiring : Wiring) → t.domain ≡ d → AreLaidWires t wiring link link before →
    (more : Wiring) × AreLaidWires t more (link + 1) (link + 1) after

-- pipes are laid on the first count links
abbrev pub LaysFirst : Domain → ℕ → List Worker → List Worker → Type 0
LaysFirst d count before after = (t : Offering) (wiring : Wiring) → t.domain ≡ d → AreLaidWires t wiring 0 0 before →
    (more : Wiring) × AreLaidWires t more count count after
