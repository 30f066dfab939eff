use Rattle.std.proofs.Common.{arith}
use Rattle.cqf_laws_history.proofs.definitions.delay_counts.Goals as goal

pub returns-clause-over : goal.returns-clause-over
returns-clause-over c start octets octet_time = record { sent = omega arith; first = omega arith }

pub returns-clause-free : goal.returns-clause-free
returns-clause-free c start octets octet_time = record { sent = omega arith; first = omega arith }

pub returns-clause-exact : goal.returns-clause-exact
returns-clause-exact c octets nanos = omega arith
