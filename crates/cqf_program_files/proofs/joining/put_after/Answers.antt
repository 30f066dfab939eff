use Rattle.std.proofs.Common.{◌≡◌, ◌∷◌, ◌++◌, [], get_or, sym, arith}
use Rattle.std.proofs.lemmas.Grind.{common_steps}
use Rattle.toml.specs.View.{items_view}
use Rattle.cqf_program_files.proofs.Putting.{append_nothing, put_one}
use Rattle.cqf_program_files.proofs.joining.put_after.Goals as goal

pub loop-value-init : goal.loop-value-init
loop-value-init c = sym (append_nothing (items_view c.args.items.items))

pub loop-value-preserved : goal.loop-value-preserved
loop-value-preserved c =
    let more = c.args.more.now in
    let i = c.loop-value.value-index in
    let value = c.value-item.result in
    let copy = c.in_ok-copy.copy in
    let at : get_or more i value ≡ value = grind (arith, common_steps) in
    let pushed : c.push.new.self.items ≡ c.loop-value.items.items ++ copy ∷ [] = c.in_ok-push.ensures.items in
    rw pushed (put_one (items_view c.args.items.items) c.loop-value.items.items more copy value i c.loop-value-test.true at c.in_ok-copy.ensures.cases c.loop-value.invariant)
