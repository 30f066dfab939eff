-- The lists so far have no numbers.
use Rattle.std.proofs.Common.{ℕ, ◌≡◌, ◌<◌, [], length, get_or, map}
use Rattle.cqf_admission.proofs.slots.Slots.new.Given as goal

abbrev pub invariant-loop : goal.invariant-loop
invariant-loop l = (length l.lists.items ≡ l.counter) × ((slot : ℕ) → slot < l.counter → get_or (map (λ list. list.items) l.lists.items) slot [] ≡ [])
