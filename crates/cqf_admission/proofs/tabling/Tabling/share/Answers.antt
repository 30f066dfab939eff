-- The list is of what is held.
use Rattle.std.proofs.Common.{◌≡◌, ◌∙◌, ◌≢◌, ℕ, List, ap, count_by, length, map, nat_lt, refl, subst, sym}
use Rattle.std.proofs.lemmas.List.{length-map}
use Rattle.std.specs.Arc.{arc_value}
use Rattle.std.specs.Prelude.{AllPairs}
use Rattle.cqf_model.specs.declared.topology.Row.{Row}
use Rattle.cqf_model.specs.Domain.{Domain}
use Rattle.cqf_model.specs.History.{Recorded, held_in, next_number, seals, streams_of}
use Rattle.cqf_laws_history.specs.StateLaws.{AreHeld, HeldAreSound}
use Rattle.cqf_admission.specs.Holdings.{Standing}
use Rattle.cqf_admission.specs.Numbers.{AreNumbered}
use Rattle.cqf_admission.specs.State.{Figures, IsStateOf}
use Rattle.cqf_admission.specs.Streams.{stand_of}
use Rattle.cqf_admission.specs.Tabling.{AreTablesOf}
use Rattle.cqf_admission.proofs.Tabled.{below_are_numbered}
use Rattle.cqf_admission.proofs.tabling.Tabling.share.Goals as goal

-- what is held in a state of a history
sound : HeldAreSound → (d : Domain) (entries : List Recorded) (figures : Figures) → IsStateOf d entries figures →
    AreHeld d (held_in d entries (seals entries)) (next_number d entries) (seals entries)
sound law d entries figures is =
    law d entries (held_in d entries (seals entries)) (next_number d entries) is.0.running.legal (record { held = refl; number = refl })

-- and how many streams were accepted
accepted_are : (d : Domain) (entries : List Recorded) (figures : Figures) → IsStateOf d entries figures → next_number d entries ≡ length figures.stands
accepted_are d entries figures is =
    sym (ap (λ (ss : List Standing). length ss) is.0.are_streams ∙ length-map (streams_of d entries) (stand_of (seals entries)))

pub renumber-requires : goal.renumber-requires
renumber-requires c =
    let r = c.requires in
    let rows = map (λ row. arc_value row) c.as_slice.result.now in
    let held : held_in r.domain r.entries (seals r.entries) ≡ rows =
    sym (ap (map (λ row. arc_value row)) c.as_slice.ensures.value ∙ c.in_ok-rows.ensures r.domain r.entries r.is) in
    record { names = subst (AllPairs (λ (a b : Row). a.name ≢ b.name)) held (sound c.state_follows_history.ensures.held r.domain r.entries c.args.state.now r.is).names }

pub new-listed-requires : goal.new-listed-requires
new-listed-requires c =
    let r = c.requires in
    let rows = map (λ row. arc_value row) c.in_ok-rows.rows.items in
    let i = c.self-2.inside in
    let held : held_in r.domain r.entries (seals r.entries) ≡ rows = sym (c.in_ok-rows.ensures r.domain r.entries r.is) in
    let renumbered : AreTablesOf r.domain r.entries c.renumber.new.self =
    c.in_ok-renumber.ensures.same r.domain r.entries (held ∙ sym (ap (map (λ row. arc_value row)) c.as_slice.ensures.value))
    (accepted_are r.domain r.entries c.args.state.now r.is ∙ sym c.accepted.ensures) (subst (AreTablesOf r.domain r.entries) refl r.are) in
    let are = subst (AreTablesOf r.domain r.entries) (sym c.self-2.view_is) renumbered in
    let numbered : AreNumbered (arc_value i.numbers) (count_by (λ (row : Row). nat_lt row.no i.below) rows) rows =
    subst (λ (rs : List Row). AreNumbered (arc_value i.numbers) (count_by (λ (row : Row). nat_lt row.no i.below) rs) rs) held
    (below_are_numbered (arc_value i.numbers) i.below (held_in r.domain r.entries (seals r.entries))
    (sound c.state_follows_history.ensures.held r.domain r.entries c.args.state.now r.is).numbers are.numbered) in
    subst (λ (numbers : List (List ℕ × ℕ)). AreNumbered numbers c.count_below-numbered.result rows) (sym c.in_ok-try_clone.ensures)
    (subst (λ (n : ℕ). AreNumbered (arc_value i.numbers) n rows)
    (sym (c.count_below-numbered.ensures
    ∙ ap (λ (rs : List Row). count_by (λ (row : Row). nat_lt row.no i.below) rs) (ap (map (λ row. arc_value row)) c.as_slice-2.ensures.value))) numbered)

pub returns-clause-same : goal.returns-clause-same
returns-clause-same c = λ d entries is are.
    let i = c.self-2.inside in
    let rows = map (λ row. arc_value row) c.in_ok-rows.rows.items in
    let held : held_in d entries (seals entries) ≡ rows = sym (c.in_ok-rows.ensures d entries is) in
    let renumbered : AreTablesOf d entries c.renumber.new.self =
    c.in_ok-renumber.ensures.same d entries (held ∙ sym (ap (map (λ row. arc_value row)) c.as_slice.ensures.value))
    (accepted_are d entries c.args.state.now is ∙ sym c.accepted.ensures) are in
    let kept = subst (AreTablesOf d entries) (sym c.self-2.view_is) renumbered in
    record {
      current = λ now. c.in_ok-self-inside.ensures ∙ c.in_ok-shared.ensures.ok ∙ c.new-listed.ensures ∙ sym held;
      numbered = kept.numbered;
      accepted = kept.accepted;
    }
