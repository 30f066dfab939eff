use Rattle.std.proofs.Common.{◌≡◌, ◌≢◌, ◌∙◌, ℕ, List, AllPairs, length, subst, sym}
use Rattle.std.specs.List.Sorted.{IsPermutation}
use Rattle.cqf_instants_run.specs.Coverage.{AreJudged}
use Rattle.cqf_instants_run.specs.Drops.{AreDropsBy}
use Rattle.cqf_instants_run.specs.declared.judged.EdgeVerdict.{EdgeVerdict}
use Rattle.cqf_model.specs.declared.frames.Dropped.{Dropped}
use Rattle.cqf_model.specs.declared.frames.Offer.{Offer}
use Rattle.cqf_model.specs.Book.{Contents}
use Rattle.cqf_program_scenario.specs.Books.{IsBookOfScenario}
use Rattle.cqf_program_scenario.specs.Calls.{history_of}
use Rattle.cqf_program_scenario.specs.Closing.{scenario_given}
use Rattle.cqf_program_summary.proofs.OfDrops.{drops_are}
use Rattle.cqf_program_summary.proofs.hops.preparing.drops_by_frame.Goals as goal

pub sort_by_frame-requires : goal.sort_by_frame-requires
sort_by_frame-requires c =
    let by = drops_are c.args.cycles c.args.given.now c.args.outcome.now c.as_slice-offers.result.now c.as_slice-edge_verdicts.result.now
    c.in_ok-drops.drops.items c.requires.may c.requires.outcome c.as_slice-offers.ensures.value c.as_slice-edge_verdicts.ensures.value c.in_ok-drops.ensures in
    let book = c.requires.book in
    subst (λ (ds : List Dropped). AllPairs (λ (a b : Dropped). a.frame ≢ b.frame) ds) (sym (by book.0 book.1)) book.1.promise.says.once_dropped

pub returns : goal.returns
returns c = λ book is_book.
    let by = drops_are c.args.cycles c.args.given.now c.args.outcome.now c.as_slice-offers.result.now c.as_slice-edge_verdicts.result.now
    c.in_ok-drops.drops.items c.requires.may c.requires.outcome c.as_slice-offers.ensures.value c.as_slice-edge_verdicts.ensures.value c.in_ok-drops.ensures in
    record {
      same = subst (λ (ds : List Dropped). IsPermutation ds c.sort_by_frame.new.drops.items) (by book is_book) c.sort_by_frame.ensures.same;
      rise = c.sort_by_frame.ensures.rise;
    }
