-- Runs that contain a call.
use Rattle.std.proofs.Common.{◌≡◌, ◌+◌, ℕ, List, [], refl, sym}
use Rattle.std.specs.Prelude.{replicate}
use Rattle.cqf_model.specs.declared.frames.Offer.{Offer}
use Rattle.cqf_model.specs.declared.frames.Offered.{Offered}
use Rattle.cqf_model.specs.declared.topology.Row.{Row}
use Rattle.cqf_model.specs.Domain.{Domain}
use Rattle.cqf_model.specs.Run.{AreOffers, Run}
use Rattle.cqf_laws_cycle.specs.Gathered.{offered_for}
use Rattle.cqf_bridge.specs.Receiving.{IsRunOfBridge}
use Rattle.cqf_bridge.proofs.TakenCycle.{table_held}

-- there is such a run with all offers
pub run_of_offers : (d : Domain) (bridge cycle : ℕ) (rows : List Row) (offers : List Offer) (own : List Offered) → AreOffers d offers →
    own ≡ offered_for d offers bridge cycle → (run : Run) × IsRunOfBridge d bridge cycle rows own run
run_of_offers d bridge cycle rows offers own good is =
    let run : Run = record { domain = d; tables = replicate (cycle + 1) rows; offers = offers; background = [] } in
    (run, record { domain = refl; table = table_held cycle rows; good = good; here = sym is })
