use Rattle.std.proofs.Common.{◌++◌, ◌∙◌, List, ap, flat_map, refl, subst, sym}
use Rattle.cqf_model.specs.declared.frames.Started.{Started}
use Rattle.cqf_model.specs.Book.{contents_of}
use Rattle.cqf_model.specs.Domain.{Domain}
use Rattle.cqf_bridge.specs.Cycles.{starts_of_batch}
use Rattle.cqf_plain.specs.declared.driven.RunBridge.{RunBridge}
use Rattle.cqf_plain.specs.Driven.{AreHandedOut, ListsBackground}
use Rattle.cqf_plain.proofs.HandedOut.{all_handed, cycle_listed}
use Rattle.cqf_plain.proofs.handing.pass_on.Goals as goal

pub returns-clause-handed : goal.returns-clause-handed
returns-clause-handed c = λ run net cycle same of all.
    all_handed run net cycle of c.args.bridges.now.items c.args.sent.items all c.sort_batches.new.batches.items c.hand_out.new.bridges.items
    c.in_ok-sort_batches.ensures
    (subst (λ (d : Domain). AreHandedOut d c.sort_batches.new.batches.items c.args.bridges.now.items c.hand_out.new.bridges.items) (sym same)
    c.in_ok-hand_out.ensures)

pub returns-clause-listed : goal.returns-clause-listed
returns-clause-listed c = λ run net cycle same of all.
    cycle_listed run net cycle of c.args.bridges.now.items c.args.sent.items all c.sort_batches.new.batches.items (contents_of c.args.book.now)
    _ c.in_ok-sort_batches.ensures
    (c.in_ok-extend_from_slice.ensures.items
    ∙ ap (λ (xs : List Started). c.args.book.now.starts.items ++ xs)
    (c.as_slice-2.ensures.value ∙ c.in_ok-starts.ensures ∙ ap (flat_map starts_of_batch) c.as_slice.ensures.value))
    (subst (λ (bs : List RunBridge). ListsBackground bs c.args.book.now.background.items c.list_background.new.background.items) c.as_slice-3.ensures.value
    c.in_ok-list_background.ensures)
    refl
