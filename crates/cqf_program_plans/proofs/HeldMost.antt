-- Streams that are listed together cost what is written of them, and no history of these streams holds more.
use Rattle.std.proofs.Common.{ℕ, ◌≡◌, ◌+◌, ◌++◌, Ok, List, [], ◌∷◌, ap, arith, length}
use Rattle.std.proofs.lemmas.List.Sums.{sum_by-cons, sum_by_push}
use Rattle.cqf_model.specs.declared.topology.Row.{Row}
use Rattle.cqf_model.specs.Domain.{Domain}
use Rattle.cqf_model.specs.History.{Asked}
use Rattle.cqf_model.specs.Table.{cost_on, link_cost}
use Rattle.cqf_laws_history.specs.StateLaws.{granted_row}
use Rattle.cqf_laws_timing.specs.Streams.{TablesCostNoMore, cost_of_all}
use Rattle.cqf_program_plans.specs.Compile.Output.{stream_line}
use Rattle.cqf_program_plans.specs.Load.Laws.{NoneHoldsMore}
use Rattle.cqf_program_plans.specs.Load.Listing.{listed_row, listing_refusal}
use Rattle.cqf_program_plans.specs.Load.Output.{listed_from}
use Rattle.cqf_program_plans.proofs.CompileLemmas.{refuse_ok, same_ok}

-- the rows of streams listed after others add to the cost of those what the streams cost
listed_cost : (d : Domain) (streams : List Asked) (rows end : List Row) (link active_cycle : ℕ) → listed_from d rows streams ≡ Ok end →
    link_cost end link active_cycle ≡ link_cost rows link active_cycle + cost_of_all d streams link active_cycle
listed_cost d [] rows end link active_cycle h = omega (arith, ap (λ (rs : List Row). link_cost rs link active_cycle) (same_ok rows end h))
listed_cost d (asked ∷ more) rows end link active_cycle h =
    let new = listed_row d rows asked in
    let parts = refuse_ok (listing_refusal d rows asked) (stream_line (length rows + 1)) (listed_from d (rows ++ new ∷ []) more) end h in
    added (link_cost end link active_cycle) (link_cost (rows ++ new ∷ []) link active_cycle) (cost_of_all d more link active_cycle) (link_cost rows link active_cycle) (cost_on new link active_cycle)
    (cost_of_all d (asked ∷ more) link active_cycle) (listed_cost d more (rows ++ new ∷ []) end link active_cycle parts.1)
    (sum_by_push (λ (row : Row). cost_on row link active_cycle) rows new)
    (sum_by-cons (λ (a : Asked). cost_on (granted_row d 0 0 a) link active_cycle) asked more)
  where
    added : (whole grown rest before new all : ℕ) → whole ≡ grown + rest → grown ≡ before + new → all ≡ new + rest → whole ≡ before + all
    added whole grown rest before new all a b c = omega (arith, a, b, c)

pub none_holds_more : TablesCostNoMore → NoneHoldsMore
none_holds_more tables d streams rows entries cycles cycle link active_cycle listed legal sealed only =
    let none : link_cost [] link active_cycle ≡ 0 = omega arith in
    omega (arith, tables d entries streams cycles cycle link active_cycle legal sealed only, listed_cost d streams [] rows link active_cycle listed, none)
