-- Each start of a book is early enough to be written.
use Rattle.std.proofs.Common.{◌≡◌, ◌∙◌, ℕ, ◌*◌, ◌/◌, ◌<◌, ◌≤◌, ◌^◌, List, All, Contains, ap, arith, length, mul-le-mul_right, refl, subst}
use Rattle.cqf_units.proofs.Cycles.{cycle_upto}
use Rattle.cqf_lists.proofs.Members.{all_from_members}
use Rattle.cqf_model.specs.declared.frames.Started.{Started}
use Rattle.cqf_model.specs.Book.{Contents}
use Rattle.cqf_model.specs.Headline.{KeepsThePromise}
use Rattle.cqf_model.specs.Domain.{IsAccepted}
use Rattle.cqf_model.specs.Run.{Run}
use Rattle.cqf_model.specs.Policing.{whole_at}
use Rattle.cqf_laws_shift.proofs.Octets.{of_batch}
use Rattle.cqf_laws_timing.specs.Latency.{whole_of}

-- an instant in one of the first 100,000 cycles is early
early : (n t c : ℕ) → 0 < n → n ≤ 10000000 → c < 100000 → t / n ≡ c → t < 1000000000000
early n t c some short in_run is =
    let upto = cycle_upto n t some in
    let same = ap (λ (k : ℕ). k * n) is in
    let most : c * n ≤ 99999 * n = mul-le-mul_right n (omega (arith, in_run)) in
    omega (arith, upto, same, most, short)

-- the bound of the instants that can be written
abbrev pub InTime : Run → Started → Type 0
InTime run s = whole_of run.domain s < 2 ^ 64

pub starts_in_time : (run : Run) (book : Contents) → KeepsThePromise run book → IsAccepted run.domain → length run.tables ≤ 100000 →
    All (InTime run) book.starts
starts_in_time run book promise accepted short = all_from_members (InTime run) book.starts (λ s c. one s c)
  where
    one : (s : Started) → Contains book.starts s → InTime run s
    one s c =
        let b = of_batch run promise.is_book.net.carried (length run.tables) s (subst (λ (xs : List Started). Contains xs s) promise.is_book.are_starts c) in
        let cycle = promise.means.whole b.link b.of.sent b.of.sent b.of.inside b.of.inside refl ∙ b.of.in_cycle in
        let first : whole_at run.domain b.link b.of.sent < 1000000000000 =
        early run.domain.cycle_time (whole_at run.domain b.link b.of.sent) b.cycle (omega (arith, accepted.cycle_least)) accepted.cycle_most
        (omega (arith, b.in_run, short)) cycle in
        let bound : whole_at run.domain b.link b.of.sent < 18446744073709551616 = omega (arith, first) in
        subst (λ (z : Started). InTime run z) b.of.is bound
