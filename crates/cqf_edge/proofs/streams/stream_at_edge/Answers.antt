use Rattle.cqf_edge.proofs.streams.stream_at_edge.Goals as goal

pub left_of-stream-requires : goal.left_of-stream-requires
left_of-stream-requires c = c.requires.passage c.in-Some-passage.passage c.in-Some-passage.is

pub word_at-stream-requires : goal.word_at-stream-requires
word_at-stream-requires c = c.requires.passage c.in-Some-passage.passage c.in-Some-passage.is
