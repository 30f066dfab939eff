use Rattle.std.proofs.Common.{◌∙◌, ◌+◌, ◌<◌, ◌%◌, ap, arith, mod-lt, refl, subst, sym}
use Rattle.cqf_model.specs.Limits.{most_cycles}
use Rattle.cqf_admission.specs.State.{ClosesNext, Figures, SomeDomain}
use Rattle.cqf_admission.proofs.Running.{sealed_leaves, slot_is_held}
use Rattle.cqf_admission.proofs.Streams.{none_let_go}
use Rattle.cqf_admission.proofs.state.State.seal.Goals as goal

pub empty-requires-clause-held : goal.empty-requires-clause-held
empty-requires-clause-held c =
    let i = c.self.inside in
    let h = (subst SomeDomain (sym c.self.view_is) c.requires.history).history in
    slot_is_held i.holdings.rows i.slots h.is.0.ring ((i.sealed + 1) % 128) (mod-lt (i.sealed + 1) (omega arith))

pub empty-requires-clause-once : goal.empty-requires-clause-once
empty-requires-clause-once c =
    let i = c.self.inside in
    let h = (subst SomeDomain (sym c.self.view_is) c.requires.history).history in
    h.is.0.ring.once ((i.sealed + 1) % 128) (mod-lt (i.sealed + 1) (omega arith))

pub returns-clause-closes : goal.returns-clause-closes
returns-clause-closes c =
    let i = c.self.inside in
    let before : Figures = record { stands = i.holdings.rows; room = i.holdings.room; links = i.holdings.links; slots = i.slots; sealed = i.sealed } in
    let less = c.empty.new.holdings in
    let after : Figures = record { stands = less.rows; room = less.room; links = less.links; slots = c.empty.new.self; sealed = i.sealed + 1 } in
    let laws = c.state_follows_history.ensures in
    let some : i.sealed < most_cycles = subst (λ (f : Figures). f.sealed < most_cycles) (sym c.self.view_is) c.requires.some in
    subst (λ (f : Figures). ClosesNext f after) c.self.view_is
    (λ d entries seat r. sealed_leaves d entries before r laws.goes_on laws.counted laws.lets_go seat after some c.empty.ensures.rows c.empty.ensures.links
    c.empty.ensures.slots refl)

pub returns-clause-stays : goal.returns-clause-stays
returns-clause-stays c none =
    none_let_go c.self.inside.holdings.rows c.empty.new.holdings.rows _ (c.has-ends.ensures none) c.empty.ensures.rows
    ∙ ap (λ (f : Figures). f.stands) c.self.view_is
