use Rattle.std.proofs.Common.{ℕ, arith, subst}
use Rattle.cqf_plain.specs.SoFar.{IsAt}
use Rattle.cqf_plain.proofs.Ending.{at_next, may_go_on, numbered_so}
use Rattle.cqf_plain.proofs.running.go_all.Goals as goal

pub go_on-requires-clause-early : goal.go_on-requires-clause-early
go_on-requires-clause-early c =
    omega (
      arith,
      numbered_so c.args.tables.now c.loop-index.index c.index-tables-index.result c.requires.numbered c.loop-index-test.true c.index-tables-index.is,
      c.loop-index-test.true,
      c.requires.short,
    )

-- it goes on by the next table
pub go_on-requires-clause-part : goal.go_on-requires-clause-part
go_on-requires-clause-part c =
    let p = c.requires.part in (
      p.0,
      p.1,
      may_go_on c.args.domain.now c.args.tables.now p.0 p.1 p.2 c.requires.numbered c.loop-index.index c.index-tables-index.result c.loop-index.so_far
          c.loop-index-test.true c.index-tables-index.is (c.loop-index.invariant p.0 p.1 p.2 p.3),
    )

-- and may stop there
pub returns-in-Err-clause-stops : goal.returns-in-Err-clause-stops
returns-in-Err-clause-stops c = λ run net over at.
    c.in-Err.ensures.stops run net
    (may_go_on c.args.domain.now c.args.tables.now run net over c.requires.numbered c.loop-index.index c.index-tables-index.result c.loop-index.so_far
    c.loop-index-test.true c.index-tables-index.is (c.loop-index.invariant run net over at))

-- or is at the next cycle
pub loop-index-preserved : goal.loop-index-preserved
loop-index-preserved c = λ run net over at.
    at_next c.args.domain.now c.args.tables.now run net over c.requires.numbered c.loop-index.index c.index-tables-index.result _
    c.loop-index-test.true c.index-tables-index.is
    (c.in-Ok.ensures.goes run net
    (may_go_on c.args.domain.now c.args.tables.now run net over c.requires.numbered c.loop-index.index c.index-tables-index.result c.loop-index.so_far
    c.loop-index-test.true c.index-tables-index.is (c.loop-index.invariant run net over at)))

-- in the end it is after its last table
pub returns-clause-goes : goal.returns-clause-goes
returns-clause-goes c = λ run net over at.
    subst (λ (n : ℕ). IsAt run net n c.loop-index.so_far) (omega (arith, c.loop-index-test.false, c.loop-index.auto.index-end))
    (c.loop-index.invariant run net over at)
