use Rattle.std.proofs.Common.{◌≡◌, ◌∙◌, ap, subst, subst₂, sym}
use Rattle.std.specs.Arc.{arc_value}
use Rattle.cqf_model.specs.Domain.{Domain}
use Rattle.cqf_relay.specs.Offering.{TakesOffers}
use Rattle.cqf_relay.specs.Standing.{AreOfCycle}
use Rattle.cqf_relay.proofs.TableTaken.{table_taken}
use Rattle.cqf_relay.proofs.relay.Relay.take_table.Goals as goal

-- the domain stays as it was, and so does the cycle
pub take-requires : goal.take-requires
take-requires c =
    let learn = c.in_ok-learn_rows.ensures in
    let same : arc_value c.args.self.now.domain ≡ c.deref.result.now = ap arc_value (sym learn.domain) ∙ sym c.deref.ensures in
    subst₂ (λ (d : Domain) cycle. AreOfCycle d cycle c.args.offers.now) same (sym learn.tables) c.requires.offers

pub returns : goal.returns
returns c =
    let learned = c.learn_rows.new.self in
    table_taken c.args.table.now.rows c.args.offers.now c.args.self.now learned c.take.new.self c.in_ok-learn_rows.ensures
    (subst (λ (d : Domain). TakesOffers d learned.tables c.args.table.now.rows c.args.offers.now learned.edge c.take.new.self) c.deref.ensures
    c.in_ok-take.ensures)
