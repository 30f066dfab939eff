use Rattle.std.proofs.Common.{decimal, [], ◌∷◌}
use Rattle.cqf_output.proofs.WriterLemmas.{Puts-as, Puts-nil, Puts-then}
use Rattle.cqf_report.proofs.LineLemmas.{Puts-field}
use Rattle.cqf_program_plans.specs.Load.Access.{name_of_access}
use Rattle.cqf_program_plans.specs.Load.Text.{used_text}
use Rattle.cqf_program_plans.proofs.load.streams.put_access_share.Goals as goal

pub returns : goal.returns
returns g c =
    let load = c.args.load.now in
    let share = c.args.share.now in
    let link = name_of_access load in
    let taken = decimal share.taken in
    let used = used_text load.budget share.taken in
    let put_stream = Puts-as c.as_bytes.result.now share.stream c.as_bytes.ensures.value c.put.ensures in
    Puts-field link share.stream ([] ∷ taken ∷ [] ∷ used ∷ []) c.put_access_name.ensures c.put_byte.ensures
    (Puts-field share.stream [] (taken ∷ [] ∷ used ∷ []) put_stream c.put_byte-2.ensures
    (Puts-field [] taken ([] ∷ used ∷ []) (Puts-nil _ _) c.put_byte-3.ensures
    (Puts-field taken [] (used ∷ []) c.put_number.ensures c.put_byte-4.ensures
    (Puts-field [] used [] (Puts-nil _ _) c.put_byte-5.ensures
    (Puts-then used (10 ∷ []) c.put_share.ensures c.put_byte-6.ensures)))))
