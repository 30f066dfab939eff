-- Orders that refer to requests and to a script's text by index.
use Rattle.std.specs.Prelude.{ℕ, ◌+◌, ◌≤◌, ◌<◌, ⊤, List, [], drop, length, slice_index_or, take}
use Rattle.std.specs.Str.{IsUtf8}
use Rattle.cqf_model.specs.History.{Act, Admits, Asked, Seals, Withdraws}
use Rattle.cqf_admission.specs.declared.orders.Ordered.{Ordered}
use Rattle.cqf_admission.specs.declared.orders.What.{What}
use Rattle.cqf_admission.specs.declared.orders.What.TheVariants.{Admit, Seal, Withdraw}

-- the request at an index
abbrev pub request_at : List Asked → ℕ → Asked
request_at requests index = slice_index_or requests index (record { name = []; octets = 0; every = 1; phase = 0; paths = [] })

-- the word in a text, from an index on, with this number of octets
abbrev pub word_at : List ℕ → ℕ → ℕ → List ℕ
word_at text from octets = take octets (drop from text)

-- what an order calls for
abbrev pub act_in : List Asked → List ℕ → What → Act
act_in requests script (Admit index) = Admits (request_at requests index)
act_in requests script (Withdraw from octets) = Withdraws (word_at script from octets)
act_in requests script Seal = Seals

-- the order's reference is valid: the index is that of a request, or the word is within the script and is UTF-8
abbrev pub StandsIn : List Asked → List ℕ → What → Type 0
StandsIn requests script (Admit index) = index < length requests
StandsIn requests script (Withdraw from octets) = (from + octets ≤ length script) × IsUtf8 (word_at script from octets)
StandsIn requests script Seal = ⊤

-- the seat of an order, and what it calls for
abbrev pub ordered_in : List Asked → List ℕ → Ordered → ℕ × Act
ordered_in requests script order = (order.seat, act_in requests script order.what)
