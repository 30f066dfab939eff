use Rattle.std.proofs.Common.{length, subst, sym}
use Rattle.cqf_model.specs.Book.{Contents}
use Rattle.cqf_model.specs.Network.{compiled_lists}
use Rattle.cqf_plain.specs.Run.{IsBookOfRun, run_of}
use Rattle.cqf_plain.proofs.Ending.{begins_at, ends_at, over_so}
use Rattle.cqf_plain.proofs.running.run_numbered.Goals as goal

-- the run begins
pub go_all-requires-clause-part : goal.go_all-requires-clause-part
go_all-requires-clause-part c =
    let d = c.args.plan.now in
    let run = run_of d c.args.tables.now c.args.offers.now c.args.background.now in
    let net = c.legal_network_exists.ensures run (compiled_lists d) (length run.tables) in
    let over = over_so d c.args.tables.now c.args.offers.now c.args.background.now c.know.ensures.accepted c.requires.offers c.requires.background
    c.domain.result.now net.0 c.domain.ensures.value net.1 in
    let at = begins_at c.new_bridge_follows.ensures.follows d c.args.tables.now c.args.offers.now c.args.background.now net.0
    c.in_ok-so_far.so_far c.in_ok-so_far.ensures in
    (run, net.0, over, at)

-- it may not go on
pub returns-in-Err-clause-stops : goal.returns-in-Err-clause-stops
returns-in-Err-clause-stops c =
    let d = c.args.plan.now in
    let run = run_of d c.args.tables.now c.args.offers.now c.args.background.now in
    let net = c.legal_network_exists.ensures run (compiled_lists d) (length run.tables) in
    let over = over_so d c.args.tables.now c.args.offers.now c.args.background.now c.know.ensures.accepted c.requires.offers c.requires.background
    c.domain.result.now net.0 c.domain.ensures.value net.1 in
    let at = begins_at c.new_bridge_follows.ensures.follows d c.args.tables.now c.args.offers.now c.args.background.now net.0
    c.in_ok-so_far.so_far c.in_ok-so_far.ensures in
    c.in-Err.ensures.stops run net.0 over at

-- else it ends with its book
pub returns-in-Ok-clause-book : goal.returns-in-Ok-clause-book
returns-in-Ok-clause-book c =
    let d = c.args.plan.now in
    let run = run_of d c.args.tables.now c.args.offers.now c.args.background.now in
    let net = c.legal_network_exists.ensures run (compiled_lists d) (length run.tables) in
    let over = over_so d c.args.tables.now c.args.offers.now c.args.background.now c.know.ensures.accepted c.requires.offers c.requires.background
    c.domain.result.now net.0 c.domain.ensures.value net.1 in
    let at = begins_at c.new_bridge_follows.ensures.follows d c.args.tables.now c.args.offers.now c.args.background.now net.0
    c.in_ok-so_far.so_far c.in_ok-so_far.ensures in
    subst (λ (b : Contents). IsBookOfRun run b) (sym c.into_book.ensures)
    (ends_at c.domain.result.now c.args.tables.now run net.0 over c.book_is_unique.ensures c.legal_network_is_unique.ensures
    c.drops_are_of_the_cycle.ensures.among
    c.go_all.new.so_far (c.in-Ok.ensures.goes run net.0 over at))
