-- A round is processed.
use Rattle.std.proofs.Common.{ℕ, ◌≡◌, ◌∙◌, ◌+◌, ◌-◌, ◌<◌, ◌≤◌, ◌⊎◌, ◌++◌, List, ap, arith, drop, get_or, inl, inr, length, subst, sym, take}
use Rattle.std.specs.Prelude.{min, vec_capacity}
use Rattle.std.specs.Global.{Global}
use Rattle.std.specs.declared.vec.Vec.{Vec}
use Rattle.std.proofs.lemmas.Bool.{cases_lt}
use Rattle.std.proofs.lemmas.List.{length-append}
use Rattle.cqf_instants.specs.Progress.{AreStartsOf, Progress}
use Rattle.cqf_instants.specs.declared.basis.Basis.{Basis}
use Rattle.cqf_model.specs.declared.frames.Dropped.{Dropped}
use Rattle.cqf_model.specs.declared.frames.Offer.{Offer}
use Rattle.cqf_model.specs.declared.frames.Started.{Started}
use Rattle.cqf_model.specs.Domain.{Domain}
use Rattle.cqf_program_summary.specs.declared.hops.legs.Leg.{Leg}
use Rattle.cqf_program_summary.specs.declared.hops.rounds.Round.{Round}
use Rattle.cqf_program_summary.specs.declared.hops.steps.LegsUnderWay.{LegsUnderWay}
use Rattle.cqf_program_summary.specs.Hops.Rounds.{AreRounds, HasGone, HasRoom, IsLater, KeepsRoom, Source, StandsAt, WritesKept}
use Rattle.cqf_program_summary.specs.Hops.Rounds.{dropped_legs, kept_in, legs_after, legs_up_to, no_round, round_before, starts_before, written_in}
use Rattle.cqf_program_summary.proofs.InRounds.{kept_next}

pub has_gone : (starts : List Started) (source : Source) (round : Round) (old mid new : LegsUnderWay) (here : List Leg) → StandsAt starts source old →
    WritesKept source round.cycles old mid → IsLater old.at round → new.pass ≡ mid.pass → new.at ≡ round → here ≡ legs_up_to round.frames mid.kept.items →
    new.here.items ≡ here ++ dropped_legs source (take (round.drops - old.at.drops) (drop old.at.drops source.drops)) →
    new.kept.items ≡ legs_after round.frames mid.kept.items → vec_capacity new.kept ≡ vec_capacity mid.kept → HasGone starts source round old new
has_gone starts source round old mid new here stands reports later pass at upto pushed kept room =
    let basis : new.pass.basis ≡ old.pass.basis = ap (λ (p : Progress). p.basis) pass ∙ reports.basis in
    let written_here : new.here.items ≡ written_in source old.at round (starts_before round.cycles starts) =
    pushed ∙ ap (λ (xs : List Leg). xs ++ dropped_legs source (take (round.drops - old.at.drops) (drop old.at.drops source.drops)))
    (upto ∙ ap (legs_up_to round.frames) (reports.kept starts stands)) in
    record {
      stands = record {
        is = subst (λ (b : Basis). AreStartsOf b starts) (sym basis) stands.is;
        reported = ap (λ (p : Progress). p.reported) pass ∙ reports.reported ∙ (λ i. min (sym at i).cycles (sym pass i).basis.cycles);
        kept = kept ∙ ap (legs_after round.frames) (reports.kept starts stands) ∙ kept_next source old.at round (starts_before round.cycles starts) later.frames
            ∙ ap (λ (r : Round). kept_in source r (starts_before r.cycles starts)) (sym at);
      };
      here = written_here;
      room = record {
        for_kept = omega (arith, ap (λ (xs : List Leg). length xs) (reports.kept starts stands), mid.kept.ok.0, mid.kept.ok.1, room);
        for_here = omega (arith, ap (λ (xs : List Leg). length xs) written_here, new.here.ok.0, new.here.ok.1);
      };
    }

-- room for a round more
pub rooms_more : (starts : List Started) (source : Source) (rounds : List Round) (index : ℕ) (old new : LegsUnderWay) →
    old.at ≡ round_before rounds index → KeepsRoom old new → HasGone starts source (get_or rounds index no_round) old new →
    ((k : ℕ) → k < index → HasRoom starts source (round_before rounds k) (get_or rounds k no_round) (vec_capacity old.kept) (vec_capacity old.here)) →
    (k : ℕ) → k < index + 1 → HasRoom starts source (round_before rounds k) (get_or rounds k no_round) (vec_capacity new.kept) (vec_capacity new.here)
rooms_more starts source rounds index old new at more gone before k below = by (cases_lt k index)
  where
    by : (k < index) ⊎ (index ≤ k) → HasRoom starts source (round_before rounds k) (get_or rounds k no_round) (vec_capacity new.kept) (vec_capacity new.here)
    by (inl less) = record { for_kept = omega (arith, (before k less).for_kept, more.kept); for_here = omega (arith, (before k less).for_here, more.here) }
    by (inr le) =
        let is : index ≡ k = omega (arith, le, below) in
        subst (λ (n : ℕ). HasRoom starts source (round_before rounds n) (get_or rounds n no_round) (vec_capacity new.kept) (vec_capacity new.here)) is
        (subst (λ (b : Round). HasRoom starts source b (get_or rounds index no_round) (vec_capacity new.kept) (vec_capacity new.here)) at gone.room)

-- the rounds' own facts
pub round_after : (d : Domain) (hop_number : ℕ) (offers : List Offer) (drops : List Dropped) (rounds : List Round) (index : ℕ) (at : Round) →
    AreRounds d hop_number offers drops rounds → index < length rounds → at ≡ round_before rounds index → IsLater at (get_or rounds index no_round)
round_after d hop_number offers drops rounds index at are inside is =
    let next = are.each index inside in
    subst (λ (b : Round). IsLater b (get_or rounds index no_round)) (sym is)
    (record { cycles = next.cycles_later; frames = next.frames_later; drops = next.drops_later })

-- with its legs in order it is as before
pub stands_sorted : (starts : List Started) (source : Source) (mid new : LegsUnderWay) → StandsAt starts source mid → new.pass ≡ mid.pass → new.at ≡ mid.at →
    new.kept ≡ mid.kept → StandsAt starts source new
stands_sorted starts source mid new stands pass at kept = record {
  is = subst (λ (p : Progress). AreStartsOf p.basis starts) (sym pass) stands.is;
  reported = ap (λ (p : Progress). p.reported) pass ∙ stands.reported ∙ (λ i. min (sym at i).cycles (sym pass i).basis.cycles);
  kept = ap (λ (v : Vec Leg Global). v.items) kept ∙ stands.kept ∙ ap (λ (r : Round). kept_in source r (starts_before r.cycles starts)) (sym at);
}

pub room_sorted : (old mid new : LegsUnderWay) → KeepsRoom old mid → new.kept ≡ mid.kept → vec_capacity new.here ≡ vec_capacity mid.here → KeepsRoom old new
room_sorted old mid new room kept here =
    record { kept = omega (arith, room.kept, ap (λ (v : Vec Leg Global). vec_capacity v) kept); here = omega (arith, room.here, here) }

-- there is room if the round has room
pub room_up_to : (starts : List Started) (source : Source) (round : Round) (old mid : LegsUnderWay) (kept : List Leg) (most : ℕ) → StandsAt starts source old →
    WritesKept source round.cycles old mid → HasRoom starts source old.at round most (vec_capacity old.here) → kept ≡ mid.kept.items →
    length (legs_up_to round.frames kept) ≤ vec_capacity mid.here
room_up_to starts source round old mid kept most stands reports room is =
    let own = take (round.drops - old.at.drops) (drop old.at.drops source.drops) in
    let all = kept_in source old.at (starts_before round.cycles starts) in
    omega (
      arith,
      ap (λ (xs : List Leg). length (legs_up_to round.frames xs)) (is ∙ reports.kept starts stands),
      length-append (legs_up_to round.frames all) (dropped_legs source own),
      room.for_here,
      ap (λ (v : Vec Leg Global). vec_capacity v) reports.here,
    )

pub room_of_drops : (starts : List Started) (source : Source) (round : Round) (old mid : LegsUnderWay) (kept here : List Leg) (most now : ℕ) →
    StandsAt starts source old → WritesKept source round.cycles old mid → HasRoom starts source old.at round most (vec_capacity old.here) →
    kept ≡ mid.kept.items → here ≡ legs_up_to round.frames kept → vec_capacity mid.here ≤ now →
    length here + length (dropped_legs source (take (round.drops - old.at.drops) (drop old.at.drops source.drops))) ≤ now
room_of_drops starts source round old mid kept here most now stands reports room is upto more =
    let own = take (round.drops - old.at.drops) (drop old.at.drops source.drops) in
    let all = kept_in source old.at (starts_before round.cycles starts) in
    omega (
      arith,
      ap (λ (xs : List Leg). length xs) (upto ∙ ap (legs_up_to round.frames) (is ∙ reports.kept starts stands)),
      length-append (legs_up_to round.frames all) (dropped_legs source own),
      room.for_here,
      ap (λ (v : Vec Leg Global). vec_capacity v) reports.here,
      more,
    )
