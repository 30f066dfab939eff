-- A domain that passed the checks of its times and links.
use Rattle.std.proofs.Common.{◌≡◌, ◌<◌, ◌≤◌, ◌||◌, Bool, true, false, List, [], None, Ok, nat_le, nat_lt, length, arith, refl}
use Rattle.std.proofs.lemmas.Bool.{ltb-false}
use Rattle.std.proofs.lemmas.Bool.Decides.{nat_tests}
use Rattle.cqf_model.specs.declared.topology.Link.{Link}
use Rattle.cqf_topology.specs.declared.faults.DomainFault.TheVariants as fault
use Rattle.cqf_model.specs.Domain.{Domain}
use Rattle.cqf_model.specs.Limits.{bridges_within, links_within, stations_within}
use Rattle.cqf_topology.specs.DomainText.{DomainText, first_long_delay, first_long_gap, first_long_guard, first_long_sync, first_twice, if_so, is_too_many, with_links}
use Rattle.cqf_topology.proofs.Refusals.{refuse-Ok}

-- the facts that the checks give
pub record Passes (d : DomainText) (links : List Link) : Type 0 where
  pub no_twice : first_twice [] links ≡ None
  pub short : d.guard < d.cycle_time
  pub no_guard : first_long_guard d.cycle_time d.guard links ≡ None
  pub no_delay : first_long_delay d.sync d.guard links ≡ None
  pub no_gap : first_long_gap d.guard links ≡ None
  pub few_bridges : length d.bridges ≤ bridges_within d.limits
  pub few_stations : length d.stations ≤ stations_within d.limits
  pub few_links : length links ≤ links_within d.limits
  pub no_sync : first_long_sync d.sync links ≡ None

-- if a test gives no unit, it is false
pub not_so : (b : Bool) → if_so b ≡ None → b ≡ false
not_so true e = absurd (cc)
not_so false e = refl

-- if a disjunction of three tests is false, each of them is false
no_more : (a b c : Bool) → (a || b || c) ≡ false → (a ≡ false) × (b ≡ false) × (c ≡ false)
no_more false false false e = (refl, refl, refl)
no_more false false true e = absurd (cc)
no_more false true c e = absurd (cc)
no_more true b c e = absurd (cc)

-- if a domain is returned, it passed the checks
pub passes : (d : DomainText) (links : List Link) (found : Domain) → with_links d links ≡ Ok found → Passes d links
passes d links found h =
    let twice = refuse-Ok (first_twice [] links) fault.LinkTwice _ found h in
    let short = refuse-Ok (if_so (nat_le d.cycle_time d.guard)) (λ _. fault.GuardTooLong) _ found twice.1 in
    let own = refuse-Ok (first_long_guard d.cycle_time d.guard links) fault.LinkGuardTooLong _ found short.1 in
    let delay = refuse-Ok (first_long_delay d.sync d.guard links) fault.DelayTooLong _ found own.1 in
    let gap = refuse-Ok (first_long_gap d.guard links) fault.GapTooLong _ found delay.1 in
    let few = refuse-Ok (if_so (is_too_many d.limits d.bridges d.stations links)) (λ _. fault.TooMany) _ found gap.1 in
    let sync = refuse-Ok (first_long_sync d.sync links) fault.SyncTooLong _ found few.1 in
    let not_long : nat_le d.cycle_time d.guard ≡ false = not_so (nat_le d.cycle_time d.guard) short.0 in
    let none = no_more (nat_lt (bridges_within d.limits) (length d.bridges)) (nat_lt (stations_within d.limits) (length d.stations)) (nat_lt (links_within d.limits) (length links))
    (not_so (is_too_many d.limits d.bridges d.stations links) few.0) in
    let bridges : nat_lt (bridges_within d.limits) (length d.bridges) ≡ false = none.0 in
    let stations : nat_lt (stations_within d.limits) (length d.stations) ≡ false = none.1 in
    let all : nat_lt (links_within d.limits) (length links) ≡ false = none.2 in
    record {
      no_twice = twice.0;
      short = grind (arith, nat_tests);
      no_guard = own.0;
      no_delay = delay.0;
      no_gap = gap.0;
      few_bridges = ltb-false (bridges_within d.limits) (length d.bridges) bridges;
      few_stations = ltb-false (stations_within d.limits) (length d.stations) stations;
      few_links = ltb-false (links_within d.limits) (length links) all;
      no_sync = sync.0;
    }
