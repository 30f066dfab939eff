-- Seals that are entered in turn.
use Rattle.std.proofs.Common.{◌≡◌, ◌∙◌, ◌+◌, ◌-◌, suc, ◌<◌, ℕ, List, arith, ap, sym}
use Rattle.cqf_model.specs.Domain.{Domain}
use Rattle.cqf_model.specs.History.{Recorded, Seals, reply_to, seals}
use Rattle.cqf_laws_history.specs.StateLaws.{SealsAreCounted}
use Rattle.cqf_program_scenario.specs.Calls.{seals_by, with_call, with_calls}

-- the next of some Seals is entered
pub seals_next : (d e : Domain) (entries new : List Recorded) (seat cycles k : ℕ) → k < cycles → e ≡ d → new ≡ with_call e entries (seat, Seals) →
    with_calls d new (seals_by seat (cycles - (k + 1))) ≡ with_calls d entries (seals_by seat (cycles - k))
seals_next d e entries new seat cycles k below same is =
    let more : cycles - k ≡ suc (cycles - (k + 1)) = omega (arith, below) in
    ap (λ (es : List Recorded). with_calls d es (seals_by seat (cycles - (k + 1)))) (is ∙ ap (λ (x : Domain). with_call x entries (seat, Seals)) same)
    ∙ ap (λ (n : ℕ). with_calls d entries (seals_by seat n)) (sym more)

pub seals_counted : SealsAreCounted → (d : Domain) (entries new : List Recorded) (seat k : ℕ) → seals entries ≡ k → new ≡ with_call d entries (seat, Seals) →
    seals new ≡ k + 1
seals_counted counted d entries new seat k so_far is =
    ap seals is ∙ counted entries seat Seals (reply_to d entries Seals) ∙ ap (λ (n : ℕ). n + 1) so_far
