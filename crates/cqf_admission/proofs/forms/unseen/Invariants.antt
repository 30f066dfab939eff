-- The forms so far are unseen.
use Rattle.std.proofs.Common.{ℕ, ◌≡◌, ◌<◌, length, get_or}
use Rattle.cqf_admission.specs.declared.forms.RequestForm.TheVariants.{Unseen}
use Rattle.cqf_admission.proofs.forms.unseen.Given as goal

abbrev pub invariant-loop : goal.invariant-loop
invariant-loop l = (length l.forms.items ≡ l.counter) × ((index : ℕ) → index < l.counter → get_or l.forms.items index Unseen ≡ Unseen)
