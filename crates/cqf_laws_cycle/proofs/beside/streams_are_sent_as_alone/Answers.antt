use Rattle.cqf_laws_cycle.proofs.SentAlone.{streams_are_sent_as_alone}
use Rattle.cqf_laws_cycle.proofs.beside.streams_are_sent_as_alone.Goals as goal

pub returns : goal.returns
returns c = streams_are_sent_as_alone
