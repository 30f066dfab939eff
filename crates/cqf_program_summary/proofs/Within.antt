-- No count exceeds its room.
use Rattle.std.proofs.Common.{◌≡◌, ◌+◌, [], ℕ, All, List, Some, None, Option, arith, map, set, subst, sym}
use Rattle.std.proofs.lemmas.List.Elements.{All-contains, All-set}
use Rattle.cqf_lists.proofs.Members.{all_from_members, contains_from_map}
use Rattle.cqf_model.specs.Domain.{Domain}
use Rattle.cqf_model.specs.History.{Asked}
use Rattle.cqf_program_runs.specs.declared.deliveries.delivery.Fate.{Fate}
use Rattle.cqf_program_runs.specs.declared.deliveries.delivery.Fate.TheVariants as fate
use Rattle.cqf_program_summary.specs.declared.summary.fares.Listener.{Listener}
use Rattle.cqf_program_summary.specs.declared.summary.fares.Others.{Others}
use Rattle.cqf_program_summary.specs.declared.summary.fares.ListenerPath.{ListenerPath}
use Rattle.cqf_program_summary.specs.declared.summary.tallies.LatencySummary.{LatencySummary}
use Rattle.cqf_program_summary.specs.declared.summary.tallies.Tally.{Tally}
use Rattle.cqf_program_summary.specs.Summary.Counting.{counted, FareWithin, OthersWithin, SummaryWithin, TakenWithin, TallyWithin, PathsWithin}
use Rattle.cqf_program_summary.specs.Summary.{Fare, Summary, fare_of, listeners_by, path_to, paths_of, summary_by}
use Rattle.cqf_program_summary.specs.Summary.Written.{row_of_stream, written_cost}

-- a bound may be raised
taken_later : (many more : ℕ) (t : Option LatencySummary) → TakenWithin many t → TakenWithin (many + more) t
taken_later many more None is = tt
taken_later many more (Some t) is = (omega (arith, is.0), omega (arith, is.1))

pub tally_later : (many more : ℕ) (t : Tally) → TallyWithin many t → TallyWithin (many + more) t
tally_later many more t is = record {
  delivered = omega (arith, is.delivered);
  late = omega (arith, is.late);
  under_way = omega (arith, is.under_way);
  taken = taken_later many more t.taken is.taken;
}

pub paths_later : (many more : ℕ) (paths : List ListenerPath) → PathsWithin many paths → PathsWithin (many + more) paths
paths_later many more paths are =
    all_from_members (λ (path : ListenerPath). TallyWithin (many + more) path.tally) paths
    (λ path c. tally_later many more path.tally (All-contains (λ (w : ListenerPath). TallyWithin many w.tally) paths path are c))

pub fare_later : (many more : ℕ) (fare : Fare) → FareWithin many fare → FareWithin (many + more) fare
fare_later many more fare is = record {
  offered = omega (arith, is.offered);
  dropped = omega (arith, is.dropped);
  paths = paths_later many more fare.paths is.paths;
}

pub fares_later : (many more : ℕ) (fares : List Fare) → All (FareWithin many) fares → All (FareWithin (many + more)) fares
fares_later many more fares are =
    all_from_members (FareWithin (many + more)) fares (λ fare c. fare_later many more fare (All-contains (FareWithin many) fares fare are c))

pub others_later : (many more : ℕ) (others : Others) → OthersWithin many others → OthersWithin (many + more) others
others_later many more others is = record { offered = omega (arith, is.offered); dropped = omega (arith, is.dropped) }

pub summary_later : (many more : ℕ) (summary : Summary) → SummaryWithin many summary → SummaryWithin (many + more) summary
summary_later many more summary is =
    record { fares = fares_later many more summary.fares is.fares; others = others_later many more summary.others is.others }

-- with one more end
counted_within : (many : ℕ) (ending : Fate) (t : Tally) → TallyWithin many t → TallyWithin (many + 1) (counted ending t)
counted_within many fate.Delivered t is = record {
  delivered = omega (arith, is.delivered);
  late = omega (arith, is.late);
  under_way = omega (arith, is.under_way);
  taken = taken_later many 1 t.taken is.taken;
}
counted_within many fate.Late t is = record {
  delivered = omega (arith, is.delivered);
  late = omega (arith, is.late);
  under_way = omega (arith, is.under_way);
  taken = taken_later many 1 t.taken is.taken;
}
counted_within many fate.UnderWay t is = record {
  delivered = omega (arith, is.delivered);
  late = omega (arith, is.late);
  under_way = omega (arith, is.under_way);
  taken = taken_later many 1 t.taken is.taken;
}
counted_within many (fate.Dropped reason) t is = tally_later many 1 t is

counted_taken : (many : ℕ) (ending : Fate) (t : Tally) → TakenWithin many t.taken → TakenWithin many (counted ending t).taken
counted_taken many fate.Delivered t is = is
counted_taken many fate.Late t is = is
counted_taken many fate.UnderWay t is = is
counted_taken many (fate.Dropped reason) t is = is

-- and with its latency
pub with_within : (many : ℕ) (ending : Fate) (before mid : Tally) (k : Option LatencySummary) → mid ≡ counted ending before →
    TallyWithin many before →
    ((m : ℕ) → TakenWithin m mid.taken → TakenWithin (m + 1) k) → TallyWithin (many + 1) (record mid { taken = k })
with_within many ending before mid k same is more =
    let counts : TallyWithin (many + 1) mid = subst (TallyWithin (many + 1)) (sym same) (counted_within many ending before is) in
    record {
      delivered = counts.delivered;
      late = counts.late;
      under_way = counts.under_way;
      taken = more many (subst (λ (t : Tally). TakenWithin many t.taken) (sym same) (counted_taken many ending before is.taken));
    }

-- with one path counted once more
pub path_within : (many : ℕ) (paths : List ListenerPath) (index : ℕ) (after : ListenerPath) → TallyWithin (many + 1) after.tally → PathsWithin many paths →
    PathsWithin (many + 1) (set paths index after)
path_within many paths index after more are = All-set (λ (path : ListenerPath). TallyWithin (many + 1) path.tally) paths index after more (paths_later many 1 paths are)

-- at first nothing is counted
pub none_within : (d : Domain) (reported : List Asked) (due : List ℕ → Option ℕ) → SummaryWithin 0 (summary_by d reported due [] [])
none_within d reported due = record {
  fares = all_from_members (FareWithin 0) (map (fare_of d (written_cost d reported) due [] []) reported)
      (λ y c. let found = contains_from_map (fare_of d (written_cost d reported) due [] []) reported y c in subst (FareWithin 0) found.2 (of_stream found.0));
  others = record { offered = omega arith; dropped = omega arith };
}
  where
    of_stream : (asked : Asked) → FareWithin 0 (fare_of d (written_cost d reported) due [] [] asked)
    of_stream asked = record {
      offered = omega arith;
      dropped = omega arith;
      paths = all_from_members (λ (path : ListenerPath). TallyWithin 0 path.tally) (paths_of d (written_cost d reported asked) [] (row_of_stream d asked))
          (λ path c.
          let found = contains_from_map (path_to []) (listeners_by d (written_cost d reported asked) (row_of_stream d asked)) path c in
          subst (λ (w : ListenerPath). TallyWithin 0 w.tally) found.2 (empty found.0));
    }
      where
        empty : (to : Option Listener) → TallyWithin 0 (path_to [] to).tally
        empty to = record { delivered = omega arith; late = omega arith; under_way = omega arith; taken = tt }
