use Rattle.std.proofs.Common.{◌≡◌, ◌∙◌, ℕ, List, None, Option, Some, map, ap, position, sym}
use Rattle.cqf_admission.specs.declared.entries.Call.{Call}
use Rattle.cqf_admission.specs.Script.{called_of}
use Rattle.cqf_program_scenario.specs.Parting.{closes}
use Rattle.cqf_program_scenario.proofs.Commands.{following-cut, following-none, opening-all, opening-cut}
use Rattle.cqf_program_scenario.proofs.parting.cut_at_seal.Goals as goal

-- the index of the first Seal among the calls
abbrev seal_in : List (ℕ × Call) → Option ℕ
seal_in calls = position (λ (call : ℕ × Call). closes (called_of call)) calls

pub returns-in_ok-split_off-in-Some-clause-front : goal.returns-in_ok-split_off-in-Some-clause-front
returns-in_ok-split_off-in-Some-clause-front c =
    let found : seal_in c.args.calls.now.items ≡ Some c.in-Some.index = ap seal_in (sym c.as_slice.ensures.value) ∙ sym c.first_seal.ensures ∙ c.in-Some.is in
    ap (map called_of) c.in_ok-split_off-in-Some.ensures.items ∙ opening-cut c.args.calls.now.items c.in-Some.index found

pub returns-in_ok-split_off-in-Some-clause-following : goal.returns-in_ok-split_off-in-Some-clause-following
returns-in_ok-split_off-in-Some-clause-following c =
    let found : seal_in c.args.calls.now.items ≡ Some c.in-Some.index = ap seal_in (sym c.as_slice.ensures.value) ∙ sym c.first_seal.ensures ∙ c.in-Some.is in
    ap (map called_of) c.in_ok-split_off-in-Some.ensures.tail ∙ following-cut c.args.calls.now.items c.in-Some.index found

pub returns-in-None-clause-front : goal.returns-in-None-clause-front
returns-in-None-clause-front c =
    let none : seal_in c.args.calls.now.items ≡ None = ap seal_in (sym c.as_slice.ensures.value) ∙ sym c.first_seal.ensures ∙ c.in-None.is in
    opening-all c.args.calls.now.items none

pub returns-in-None-clause-following : goal.returns-in-None-clause-following
returns-in-None-clause-following c =
    let none : seal_in c.args.calls.now.items ≡ None = ap seal_in (sym c.as_slice.ensures.value) ∙ sym c.first_seal.ensures ∙ c.in-None.is in
    ap (map called_of) c.new.ensures.items ∙ following-none c.args.calls.now.items none
