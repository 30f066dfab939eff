use Rattle.std.proofs.Common.{◌*◌}
use Rattle.cqf_laws_network.specs.NetworkLaws.{network_before, with_tables}
use Rattle.cqf_laws_network.proofs.Networks.{beginning, first_tables}
use Rattle.cqf_laws_network.proofs.legal_networks.shorter_run_is_the_beginning.Goals as goal

pub returns-clause-legal : goal.returns-clause-legal
returns-clause-legal c run others lists cycles longer net = beginning run lists cycles c.legal_part_is_legal.ensures.same_past others longer net

pub returns-clause-only : goal.returns-clause-only
returns-clause-only c run others lists cycles longer net shorter is legal short =
    c.legal_network_is_unique.ensures (with_tables run others) lists cycles shorter (network_before (cycles * run.domain.cycle_time) net) short
    (beginning run lists cycles c.legal_part_is_legal.ensures.same_past others longer net is legal)

pub returns-clause-tables : goal.returns-clause-tables
returns-clause-tables c = first_tables
