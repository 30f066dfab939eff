-- The deliveries of an offer by what is kept of its frame.
use Rattle.std.proofs.Common.{◌≡◌, ◌∙◌, ◌==◌, ℕ, true, List, Option, Some, None, Contains, ap, arith, refl, sym}
use Rattle.std.specs.Option.{option_and_then}
use Rattle.std.proofs.lemmas.Bool.{false≢true}
use Rattle.std.proofs.lemmas.Bool.Decides.{nat_tests}
use Rattle.cqf_lists.proofs.Made.{map_same}
use Rattle.cqf_lists.proofs.Members.{member_any}
use Rattle.cqf_lists.proofs.Any.{position_any}
use Rattle.cqf_units.specs.declared.timing.Nanos.{Nanos}
use Rattle.cqf_model.specs.declared.frames.Offered.{Offered}
use Rattle.cqf_model.specs.declared.topology.Hop.{Hop}
use Rattle.cqf_model.specs.declared.topology.Row.{Row}
use Rattle.cqf_model.specs.Domain.{Domain}
use Rattle.std.specs.Prelude.{is_some, slice_index_or}
use Rattle.cqf_program_plans.specs.Latency.Text.{listeners_of}
use Rattle.cqf_program_runs.specs.Deliveries.{deliveries_to, delivery_to}
use Rattle.cqf_program_runs.specs.Deliveries.UnderWay.{WritesWhole, column_of, whole_in}

-- a listener of a row has a column
has_column : (d : Domain) (row : Row) (hop : Hop) → Contains (listeners_of d row) hop → (column : ℕ) × (column_of d row hop.link ≡ Some column)
has_column d row hop among = by (column_of d row hop.link) refl
  where
    itself : (hop.link == hop.link) ≡ true
    itself = grind (arith, nat_tests)

    known : is_some (column_of d row hop.link) ≡ true
    known = position_any (λ (h : Hop). h.link == hop.link) (listeners_of d row)
        ∙ member_any (λ (h : Hop). h.link == hop.link) (listeners_of d row) hop among itself

    by : (o : Option ℕ) → column_of d row hop.link ≡ o → (column : ℕ) × (column_of d row hop.link ≡ Some column)
    by None is = absurd (false≢true (sym (ap is_some is) ∙ known))
    by (Some column) is = (column, is)

-- so the deliveries to them are those by the instants at which the frame is whole
pub deliveries_kept : (d : Domain) (row : Row) (slot : List (Option Nanos)) (whole : ℕ → Option Nanos) (deadline : Option ℕ) (x : Offered) →
    WritesWhole d (Some row) slot whole → deliveries_to d (whole_in d row slot) deadline x row ≡ deliveries_to d whole deadline x row
deliveries_kept d row slot whole deadline x reports =
    map_same (delivery_to d (whole_in d row slot) deadline x) (delivery_to d whole deadline x) (listeners_of d row)
    (λ hop among.
    let at = has_column d row hop among in
    let is : whole_in d row slot hop.link ≡ whole hop.link =
    ap (option_and_then (λ (column : ℕ). slice_index_or slot column None)) at.1 ∙ reports row hop.link at.0 refl at.1 in
    ap (λ (w : Option Nanos). delivery_to d (λ _. w) deadline x hop) is)
