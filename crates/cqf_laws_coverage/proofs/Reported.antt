-- What the hops of the covered offers count in a cycle fits into a cell, and grows with the offers.
use Rattle.std.proofs.Common.{◌≡◌, ℕ, ◌+◌, ◌<◌, ◌≤◌, ◌∷◌, ◌++◌, [], List, sym, subst, arith, length, sum_by, take, le_trans}
use Rattle.std.proofs.lemmas.List.Elements.{All-nil}
use Rattle.std.proofs.lemmas.List.Sums.{sum_by-take-le, sum_by_push}
use Rattle.cqf_lists.proofs.EachBelow.{length-singles}
use Rattle.cqf_model.specs.declared.frames.Offered.{Offered}
use Rattle.cqf_model.specs.declared.frames.Started.{Started}
use Rattle.cqf_model.specs.declared.topology.Hop.{Hop}
use Rattle.cqf_model.specs.Shift.{offer_cycle}
use Rattle.cqf_model.specs.Policing.{Verdict}
use Rattle.cqf_model.specs.Book.{Contents, IsOneThreadBook}
use Rattle.cqf_model.specs.Domain.{Domain, budget}
use Rattle.cqf_model.specs.History.{table_at}
use Rattle.cqf_model.specs.HistoryBook.{IsBookOfHistory, run_of_history}
use Rattle.cqf_model.specs.Network.{compiled_lists}
use Rattle.cqf_model.specs.Run.{IsBackground}
use Rattle.cqf_laws_history.specs.HistoryLaws.{TablesAreOrderly}
use Rattle.cqf_laws_network.specs.NetworkLaws.{BookExists}
use Rattle.cqf_laws_shift.specs.MainLaw.{GatesMeanTheShift}
use Rattle.cqf_laws_shift.specs.Run.{IsLegalRun, RunBesideIsRunAlone}
use Rattle.cqf_laws_shift.proofs.CycleLaws.{CycleLaws}
use Rattle.cqf_laws_coverage.specs.Counted.{hops_of, sum_of_hops}
use Rattle.cqf_laws_coverage.specs.InOneCycle.{octets_summed}
use Rattle.cqf_laws_coverage.specs.Judged.{ReportIsCounted}
use Rattle.cqf_laws_coverage.specs.Reported.{CellsFit}
use Rattle.cqf_laws_shift.proofs.Apart.{starts_apart}
use Rattle.cqf_laws_coverage.proofs.Cells.{within_wire}

-- each cell is large enough
pub cells_fit : CycleLaws → RunBesideIsRunAlone → GatesMeanTheShift → TablesAreOrderly → BookExists → ReportIsCounted → CellsFit
cells_fit laws beside means orderly exists counted d entries offers cycles link cycle accepted legal offered ordered sealed is_link in_run =
    let run = run_of_history d entries offers [] cycles in
    let found = exists run (compiled_lists d) (length run.tables) in
    let book : Contents = found.0 in
    let one : IsOneThreadBook run book = found.1 in
    let none = All-nil (IsBackground d) in
    let run_legal : IsLegalRun run one.net = record {
      accepted = accepted;
      orderly = orderly d entries cycles legal sealed;
      offered = offered;
      background = none;
      legal = one.legal;
    } in
    let shift = means run one.net run_legal in
    let alone = beside run one.net run_legal in
    let is : IsBookOfHistory d entries offers [] cycles book = record { sealed = sealed; is_book = one } in
    let column = (counted d entries offers [] cycles book link accepted legal offered none ordered is).column cycle in_run in
    let within : cycle < length run.tables = omega (arith, in_run, length-singles (table_at d entries) cycles) in
    let wire = within_wire run one.net.carried (starts_apart laws run one.net.carried alone (length run.tables)) link cycle in
    let octets : octets_summed link cycle book.starts ≤ budget d link =
    subst (λ (xs : List Started). octets_summed link cycle xs ≤ budget d link) (sym one.are_starts)
    (le_trans wire (le_trans (shift.loads link cycle is_link within) (shift.costs link cycle cycle is_link))) in
    subst (λ (n : ℕ). n ≤ budget d link) column octets

-- one more offer adds its hops
pub hops_more : (d : Domain) (verdict : Offered → Verdict) (counts : ℕ → ℕ → ℕ → ℕ) (xs : List Offered) (x : Offered) →
    sum_of_hops d verdict counts (xs ++ x ∷ []) ≡ sum_of_hops d verdict counts xs
    + sum_by (λ (hop : Hop). counts hop.link (offer_cycle d x + hop.hop_number) x.offer.octets) (hops_of (verdict x))
hops_more d verdict counts xs x =
    sum_by_push (λ (y : Offered). sum_by (λ (hop : Hop). counts hop.link (offer_cycle d y + hop.hop_number) y.offer.octets) (hops_of (verdict y))) xs x

-- and the first offers count at most as much as all
pub hops_front : (d : Domain) (verdict : Offered → Verdict) (counts : ℕ → ℕ → ℕ → ℕ) (xs : List Offered) (k : ℕ) →
    sum_of_hops d verdict counts (take k xs) ≤ sum_of_hops d verdict counts xs
hops_front d verdict counts xs k =
    sum_by-take-le (λ (y : Offered). sum_by (λ (hop : Hop). counts hop.link (offer_cycle d y + hop.hop_number) y.offer.octets) (hops_of (verdict y))) xs k
