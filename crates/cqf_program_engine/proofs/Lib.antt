mod EdgeLemmas
mod RunLemmas
mod WrittenLemmas
