use Rattle.std.proofs.Common.{rules, ◌≡◌, ◌∙◌, ◌++◌, ◌∷◌, [], ap, append_assoc, sym}
use Rattle.std.specs.Vec.Iter.{into_iter_items}
use Rattle.cqf_worker.specs.Wires.{count_on}
use Rattle.cqf_worker.proofs.Unwiring.{counted_more, end_lacks, fed_more, partners_pipe}
use Rattle.cqf_worker.proofs.closing.close_links.Goals as goal

-- the end that was found is of the port's pipe
pub close-under_way-requires : goal.close-under_way-requires
close-under_way-requires c =
    let rest = into_iter_items c.next.new.self in
    let all : c.loop-taking.yielded ++ c.in-Some.taking ∷ rest ≡ c.args.ins.items =
    ap (λ xs. c.loop-taking.yielded ++ xs) (sym c.in-Some.ensures.steps.0) ∙ c.loop-taking.invariant.0 in
    record {
      pair = partners_pipe c.requires.0 c.args.ins.items c.args.outs.items c.loop-taking.left.items c.loop-taking.yielded rest c.in-Some.taking
          c.in-Some-take_partner.putting all c.requires.1 c.requires.2 c.loop-taking.invariant.1 c.in-Some-take_partner.ensures.some;
    }

-- one port more is fed
pub loop-taking-preserved : goal.loop-taking-preserved
loop-taking-preserved c =
    let rest = into_iter_items c.next.new.self in
    let all : c.loop-taking.yielded ++ c.in-Some.taking ∷ rest ≡ c.args.ins.items =
    ap (λ xs. c.loop-taking.yielded ++ xs) (sym c.in-Some.ensures.steps.0) ∙ c.loop-taking.invariant.0 in (
      append_assoc c.loop-taking.yielded (c.in-Some.taking ∷ []) rest ∙ all,
      (λ out there. c.loop-taking.invariant.1 out (c.in-Some-take_partner.ensures.rest out there)),
      fed_more c.args.outs.items c.loop-taking.left.items c.loop-taking.yielded c.in-Some.taking c.in-Some-take_partner.putting c.close-under_way.result
          c.loop-taking.invariant.1 c.in-Some-take_partner.ensures.some c.close-under_way.ensures c.loop-taking.invariant.2,
      counted_more c.args.outs.items c.loop-taking.left.items c.take_partner.new.outs.items c.loop-taking.yielded c.in-Some.taking c.loop-taking.invariant.3
          c.in-Some-take_partner.ensures.one,
    )

-- there is none left for a port
pub returns-in_default-clause-lost : goal.returns-in_default-clause-lost
returns-in_default-clause-lost c =
    let rest = into_iter_items c.next.new.self in
    let none : count_on c.in-Some.taking.link c.loop-taking.left.items ≡ 0 = search rules in
    end_lacks c.args.outs.items c.loop-taking.left.items c.args.ins.items c.loop-taking.yielded rest c.in-Some.taking
    (ap (λ xs. c.loop-taking.yielded ++ xs) (sym c.in-Some.ensures.steps.0) ∙ c.loop-taking.invariant.0) c.loop-taking.invariant.3 none
