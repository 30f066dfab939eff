use Rattle.std.proofs.Common.{List, subst, sym}
use Rattle.cqf_admission.proofs.TableLemmas.{trees_go_along_links}
use Rattle.cqf_admission.specs.Tables.{AreAlongLinks}
use Rattle.cqf_admission.specs.ActiveCycles.{AreOfGoodPaces}
use Rattle.cqf_admission.proofs.Paced.{good_held}
use Rattle.cqf_laws_history.specs.StateLaws.{AreHeld}
use Rattle.cqf_model.specs.declared.topology.Row.{Row}
use Rattle.cqf_model.specs.History.{held_in, next_number}
use Rattle.cqf_program_plans.proofs.CompileLemmas.{AreAllHeld-sound}
use Rattle.cqf_program_plans.proofs.compile.command.rows_with.Goals as goal

-- the rows go along links of the domain, since they are sound
pub returns-clause-along : goal.returns-clause-along
returns-clause-along c =
    let d = c.args.domain.now in
    let planned = c.in_ok-admit_all.ensures.held in
    let entries = c.admit_all.new.ledger.administration.entries in
    let sound : AreHeld d (held_in d entries 0) (next_number d entries) 0 = AreAllHeld-sound d entries c.state_follows_history.ensures.held planned.all in
    subst (AreAlongLinks d) (sym planned.held) (trees_go_along_links d (held_in d entries 0) sound.trees)

pub returns-clause-sound : goal.returns-clause-sound
returns-clause-sound c =
    let d = c.args.domain.now in
    let planned = c.in_ok-admit_all.ensures.held in
    let entries = c.admit_all.new.ledger.administration.entries in
    let next = next_number d entries in
    let sound : AreHeld d (held_in d entries 0) next 0 = AreAllHeld-sound d entries c.state_follows_history.ensures.held planned.all in
    (next, subst (λ (held : List Row). AreHeld d held next 0) (sym planned.held) sound)

-- they are held by a legal history
pub returns-clause-good : goal.returns-clause-good
returns-clause-good c =
    let d = c.args.domain.now in
    let entries = c.admit_all.new.ledger.administration.entries in
    subst AreOfGoodPaces (sym c.in_ok-admit_all.ensures.held.held) (good_held d entries c.in_ok-admit_all.ensures.held.all.legal 0)
