-- The deliveries of the offers so far, and of one more.
use Rattle.std.proofs.Common.{◌≡◌, ◌∙◌, ◌++◌, ◌<◌, ◌+◌, ◌-◌, ℕ, List, Some, length, take, get_or, ap}
use Rattle.std.proofs.Common.{sym, arith, option_map}
use Rattle.std.specs.Prelude.{slice_get}
use Rattle.std.proofs.lemmas.List.{get_or_default}
use Rattle.cqf_units.specs.Timing.{cycle_at}
use Rattle.cqf_compile.proofs.Pieces.{flat_map_found}
use Rattle.cqf_model.specs.declared.frames.Offer.{Offer}
use Rattle.cqf_model.specs.declared.frames.Offered.{Offered}
use Rattle.cqf_model.specs.declared.frames.Reason.TheVariants.{Unknown}
use Rattle.cqf_model.specs.declared.topology.Row.{Row}
use Rattle.cqf_model.specs.Domain.{Domain}
use Rattle.cqf_model.specs.Policing.{Verdict, numbered}
use Rattle.cqf_instants_run.specs.declared.judged.EdgeVerdict.{EdgeVerdict}
use Rattle.cqf_instants_run.specs.declared.judged.EdgeVerdict.TheVariants.{Dropped}
use Rattle.cqf_instants_run.specs.Coverage.{verdict_of}
use Rattle.cqf_instants_run.proofs.Covers.{numbered_at}
use Rattle.cqf_instants_run.specs.Columns.{verdict_at}
use Rattle.cqf_program_runs.specs.declared.deliveries.delivery.Delivery.{Delivery}
use Rattle.cqf_program_runs.specs.Deliveries.ByVerdict.{Known, deliveries_of_all, deliveries_within}

module _ (d : Domain) (cycles : ℕ) (known : Known) (verdict : Offered → Verdict) (offers : List Offer) (index : ℕ) (offer : Offer)
    (at : slice_get offers index ≡ Some offer) where
  -- the offer with its number
  abbrev x : Offered
  x = record { frame = index + 1; offer = offer }

  -- its deliveries follow those of the offers before it
  pub deliveries_more : (done : List Delivery) → done ≡ deliveries_of_all d cycles known verdict (take index (numbered offers)) →
      done ++ deliveries_within d cycles known verdict x ≡ deliveries_of_all d cycles known verdict (take (index + 1) (numbered offers))
  deliveries_more done so_far =
      ap (λ z. z ++ deliveries_within d cycles known verdict x) so_far
      ∙ sym (flat_map_found (deliveries_within d cycles known verdict) (numbered offers) index (deliveries_within d cycles known verdict x)
      (ap (option_map (deliveries_within d cycles known verdict)) (numbered_at offers index offer at)))

-- the verdict on it is that at its index
pub verdict_here : (d : Domain) (rows : List Row) (edge_verdicts : List EdgeVerdict) (index : ℕ) (offer : Offer) (other : EdgeVerdict) →
    index < length edge_verdicts →
    verdict_of rows (cycle_at d.cycle_time offer.at.0) (get_or edge_verdicts index other)
    ≡ verdict_at d rows edge_verdicts (record { frame = index + 1; offer = offer })
verdict_here d rows edge_verdicts index offer other inside =
    let back : index ≡ index + 1 - 1 = omega arith in
    ap (λ (j : EdgeVerdict). verdict_of rows (cycle_at d.cycle_time offer.at.0) j)
    (get_or_default edge_verdicts index other (Dropped Unknown) inside ∙ ap (λ (k : ℕ). get_or edge_verdicts k (Dropped Unknown)) back)
