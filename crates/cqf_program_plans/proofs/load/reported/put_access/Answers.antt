use Rattle.std.proofs.Common.{decimal, [], ◌∷◌, ap}
use Rattle.cqf_output.proofs.WriterLemmas.{Puts-as, Puts-nil, Puts-then}
use Rattle.cqf_report.proofs.LineLemmas.{Puts-field}
use Rattle.cqf_program_plans.specs.Load.Access.{name_of_access}
use Rattle.cqf_program_plans.specs.Load.Fitting.{megabits_of}
use Rattle.cqf_program_plans.specs.Load.Text.{left_text, used_text}
use Rattle.cqf_program_plans.proofs.load.reported.put_access.Goals as goal

pub returns : goal.returns
returns g c =
    let l = c.args.load.now in
    let name = name_of_access l in
    let rate = decimal (megabits_of l.rate) in
    let budget = decimal l.budget in
    let held = decimal l.held in
    let left = left_text l.budget l.held in
    let streams = decimal l.streams in
    let used = used_text l.budget l.held in
    let put_rate = Puts-as _ rate (ap decimal c.megabits_of.ensures) c.put_number.ensures in
    Puts-field name rate (budget ∷ held ∷ left ∷ [] ∷ streams ∷ used ∷ []) c.put_access_name.ensures c.put_byte.ensures
    (Puts-field rate budget (held ∷ left ∷ [] ∷ streams ∷ used ∷ []) put_rate c.put_byte-2.ensures
    (Puts-field budget held (left ∷ [] ∷ streams ∷ used ∷ []) c.put_number-2.ensures c.put_byte-3.ensures
    (Puts-field held left ([] ∷ streams ∷ used ∷ []) c.put_number-3.ensures c.put_byte-4.ensures
    (Puts-field left [] (streams ∷ used ∷ []) c.put_left.ensures c.put_byte-5.ensures
    (Puts-field [] streams (used ∷ []) (Puts-nil _ _) c.put_byte-6.ensures
    (Puts-field streams used [] c.put_number-4.ensures c.put_byte-7.ensures
    (Puts-then used (10 ∷ []) c.put_used.ensures c.put_byte-8.ensures)))))))
