use Rattle.std.proofs.Common.{arith, ◌≤◌}
use Rattle.cqf_bridge.proofs.Courses.{all_receive, all_send}
use Rattle.cqf_bridge.proofs.driving.driven_bridges_want_memory_alone.Goals as goal

pub returns-clause-sends : goal.returns-clause-sends
returns-clause-sends c run cycles cycle bridge net course after fault compiled few are =
    all_send run cycles net course compiled c.sending_follows.ensures c.receiving_follows.ensures cycle few are c.new_bridge_follows.ensures.follows
    c.no_other_fault.ensures.sends bridge after fault

pub returns-clause-receives : goal.returns-clause-receives
returns-clause-receives c run cycles cycle bridge net course after fault compiled loses within have =
    let few : cycle ≤ cycles = omega (arith, within) in
    all_receive run cycles net course compiled c.sending_follows.ensures c.receiving_follows.ensures cycle few have.driven
    c.new_bridge_follows.ensures.follows c.no_other_fault.ensures.receives loses within have.sent_it bridge after fault
