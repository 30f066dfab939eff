use Rattle.cqf_instants.proofs.Steps.{first_under_way}
use Rattle.cqf_instants.proofs.standing.stand_at_first.Goals as goal

pub returns-clause-under_way : goal.returns-clause-under_way
returns-clause-under_way c =
    let links = c.as_slice-links.ensures.value in
    let offers = c.as_slice-entering.ensures.value in
    first_under_way c.the_laws.ensures c.args.basis.now c.requires c.in_ok-now.now c.in_ok-next.next c.in_ok-starts.starts c.frames_in_all-frames.result
    (rw (links, offers) at c.in_ok-now.ensures) (rw (links, offers) at c.in_ok-next.ensures) (rw (links, offers) at c.frames_in_all-frames.ensures)
    c.in_ok-starts.ensures.exact
