use Rattle.std.proofs.Common.{ℕ, ◌≡◌, ◌∙◌, ◌<◌, ◌≤◌, List, Contains, All, ap, arith, drop, length, refl, subst, sym, take}
use Rattle.std.proofs.lemmas.List.{drop_all, take_all}
use Rattle.cqf_lists.proofs.Members.{contains_at, contains_none}
use Rattle.std.proofs.lemmas.List.Elements.{All-contains}
use Rattle.cqf_model.specs.declared.frames.Dropped.{Dropped}
use Rattle.cqf_model.specs.Run.{IsOffer}
use Rattle.cqf_program_summary.specs.declared.hops.rounds.Round.{Round}
use Rattle.cqf_program_summary.specs.Hops.Rounds.{GoesOnFrom, no_round, round_before}
use Rattle.cqf_program_summary.proofs.Laid.{cycle_early, last_laid, nothing_written, one_more_laid}
use Rattle.cqf_program_summary.proofs.hops.rounds.lay_rounds.Goals as goal

pub loop-last-init : goal.loop-last-init
loop-last-init c =
    let d = c.args.domain.now in
    let hop_number = c.args.hop_number in
    let offers = c.args.offers.now in
    let drops = c.args.drops.now in
    let nothing : GoesOnFrom d hop_number offers drops no_round = nothing_written d hop_number offers drops c.requires.some in
    let none : length c.new-rounds.result.items ≡ 0 = ap (λ (xs : List Round). length xs) c.new-rounds.ensures.items in
    record {
      first = nothing;
      each = λ k below. absurd (omega (arith, below, none));
      last_is = c.no_round-last.ensures ∙ ap (λ (xs : List Round). round_before xs (length xs)) (sym c.new-rounds.ensures.items);
      goes_on = subst (λ (r : Round). GoesOnFrom d hop_number offers drops r) (sym c.no_round-last.ensures) nothing;
      soon = omega (arith, ap (λ (r : Round). r.cycles) c.no_round-last.ensures);
    }

pub loop-last-preserved : goal.loop-last-preserved
loop-last-preserved c =
    one_more_laid c.args.domain.now c.args.hop_number c.args.offers.now c.args.drops.now c.loop-last.rounds.items c.push.new.self.items c.loop-last.last
    c.next_round-last.result c.loop-last.invariant c.next_round-last.ensures.next c.next_round-last.ensures.soon c.in_ok-push.ensures.items

pub returns : goal.returns
returns c =
    let offers = c.args.offers.now in
    let drops = c.args.drops.now in
    let so_far = c.loop-last.invariant in
    let r : Round = record { cycles = 1099511627776; frames = length offers; drops = length drops } in
    last_laid c.args.domain.now c.args.hop_number offers drops c.loop-last.rounds.items c.push-2.new.self.items c.loop-last.last r so_far
    (record {
      cycles_later = omega (arith, so_far.soon);
      frames_later = so_far.goes_on.frames_within;
      drops_later = so_far.goes_on.drops_within;
      goes_on = record {
        frames_within = omega arith;
        drops_within = omega arith;
        whole = λ index offer below at. omega (
          arith,
          cycle_early c.args.domain.now.cycle_time offer.at.0 (omega (arith, c.know.ensures.accepted.cycle_least))
              (All-contains (IsOffer c.args.domain.now) offers offer c.requires.offers (contains_at offers index offer at)).early,
          c.ranges.hop_number.fits,
        );
        dropped = λ x among. c.requires.few x (subst (λ (xs : List Dropped). Contains xs x) (take_all (length drops) drops (omega arith)) among);
        not_yet = λ x among. absurd (contains_none x (subst (λ (xs : List Dropped). Contains xs x) (drop_all (length drops) drops (omega arith)) among));
      };
    })
    refl c.in_ok-push-2.ensures.items
