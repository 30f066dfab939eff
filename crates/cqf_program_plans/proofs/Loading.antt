-- Streams that are listed in turn, and the first that is refused.
use Rattle.std.proofs.Common.{ℕ, ◌≡◌, ◌≢◌, ◌+◌, ◌++◌, ◌∙◌, Option, Some, Result, Err, List, [], ◌∷◌, length, ap, sym, inl, inr}
use Rattle.cqf_lists.specs.Results.{refuse}
use Rattle.cqf_model.specs.declared.history.Refused.{Refused}
use Rattle.cqf_model.specs.declared.history.Refused.TheVariants.{Memory}
use Rattle.cqf_model.specs.declared.topology.Row.{Row}
use Rattle.cqf_model.specs.Domain.{Domain}
use Rattle.cqf_model.specs.History.{Asked}
use Rattle.cqf_output.specs.Stops.{EndsWith, IsRefused}
use Rattle.cqf_output.specs.declared.stops.Stop.{Stop}
use Rattle.cqf_program_plans.specs.Compile.Output.{stream_line}
use Rattle.cqf_program_plans.proofs.CompileLemmas.{IsRefused-line, IsRefused-memory, is_memory}
use Rattle.cqf_program_plans.specs.Load.Listing.{IsListed, listed_row, listing_refusal}
use Rattle.cqf_program_plans.specs.Load.Output.{listed_from}

-- a stream that isn't refused is appended to the others
pub listed_after : (d : Domain) (rows after : List Row) (asked : Asked) (row : Row) → IsListed d rows asked row → after ≡ rows ++ row ∷ [] →
    (more : List Asked) → listed_from d rows (asked ∷ more) ≡ listed_from d after more
listed_after d rows after asked row is grown more =
    ap (λ (r : Option Refused). refuse r (stream_line (length rows + 1)) (listed_from d (rows ++ listed_row d rows asked ∷ []) more)) is.none
    ∙ ap (λ (rs : List Row). listed_from d rs more) (ap (λ (r : Row). rows ++ r ∷ []) (sym is.is) ∙ sym grown)

-- the first stream that is refused ends the listing
pub refused_ends : (d : Domain) (rows : List Row) (asked : Asked) (refused : Refused) (index : ℕ) (stop : Stop) →
    listing_refusal d rows asked ≡ Some refused → index ≡ length rows + 1 → (refused ≢ Memory → EndsWith 1 (stream_line index refused) stop) →
    (refused ≡ Memory → EndsWith 3 [] stop) → (more : List Asked) → IsRefused (listed_from d rows (asked ∷ more)) stop
refused_ends d rows asked refused index stop due is line memory more =
    let found = listed_from d rows (asked ∷ more) in
    elim (is_memory refused) [
      | inl lacks ↦ IsRefused-memory found stop (memory lacks)
      | inr there ↦ IsRefused-line found (stream_line index refused) stop
          (ap (λ (r : Option Refused). refuse r (stream_line (length rows + 1)) (listed_from d (rows ++ listed_row d rows asked ∷ []) more)) due
          ∙ ap {B = Result (List Row) (List ℕ)} (λ (n : ℕ). Err (stream_line n refused)) (sym is)) (line there)
    ]
