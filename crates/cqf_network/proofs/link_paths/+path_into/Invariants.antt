use Rattle.cqf_network.proofs.link_paths.+path_into.Given as goal

abbrev pub decreases-path_into : goal.decreases-path_into
decreases-path_into l = l.most
