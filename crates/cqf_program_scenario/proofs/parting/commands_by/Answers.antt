use Rattle.std.proofs.Common.{◌∙◌, ◌++◌, ◌∷◌, [], List, map, ap, sym, subst, append_assoc}
use Rattle.std.proofs.lemmas.List.{map-append}
use Rattle.cqf_model.specs.History.{Act, is_seal}
use Rattle.cqf_admission.specs.Admission.{act_of}
use Rattle.cqf_admission.specs.Script.{Called, called_of}
use Rattle.cqf_admission.specs.Commands.{act_of_command}
use Rattle.cqf_program_scenario.specs.Parted.{acts_of_each}
use Rattle.cqf_program_scenario.specs.Parting.{AddsCommand, AreCommandsBy}
use Rattle.cqf_program_scenario.proofs.Commands.{AreCommandsBy-call, AreCommandsBy-seal, command-of, seal-of}
use Rattle.cqf_program_scenario.proofs.parting.commands_by.Goals as goal

pub loop-call-preserved : goal.loop-call-preserved
loop-call-preserved c =
    let call = c.in-Some.call in
    let lists = acts_of_each c.loop-call.lists.items in
    let seal = seal-of (is_seal (act_of call.1)) (act_of call.1) c.in_default.ensures in (
      append_assoc c.loop-call.yielded (call ∷ []) _ ∙ ap (λ rest. c.loop-call.yielded ++ rest) (sym c.in-Some.ensures.steps.0) ∙ c.loop-call.invariant.0,
      subst (λ (found : List Called). AreCommandsBy found c.args.admins lists) (sym (map-append called_of c.loop-call.yielded (call ∷ [])))
          (AreCommandsBy-seal (map called_of c.loop-call.yielded) (called_of call) c.args.admins lists seal c.loop-call.invariant.1),
    )

pub loop-call-preserved-in-Continue-branch-2 : goal.loop-call-preserved-in-Continue-branch-2
loop-call-preserved-in-Continue-branch-2 c =
    let call = c.in-Some.call in
    let before = acts_of_each c.loop-call.lists.items in
    let after = acts_of_each c.add_command.new.lists.items in
    let command = command-of (is_seal (act_of call.1)) (act_of call.1) (act_of_command c.in-Some-command_of.command) c.in-Some-command_of.ensures in
    let adds = subst (λ (act : Act). AddsCommand before after call.0 act) command.1 c.in_ok-add_command.ensures in (
      append_assoc c.loop-call.yielded (call ∷ []) _ ∙ ap (λ rest. c.loop-call.yielded ++ rest) (sym c.in-Some.ensures.steps.0) ∙ c.loop-call.invariant.0,
      subst (λ (found : List Called). AreCommandsBy found c.args.admins after) (sym (map-append called_of c.loop-call.yielded (call ∷ [])))
          (AreCommandsBy-call (map called_of c.loop-call.yielded) (called_of call) c.args.admins before after command.0 adds c.loop-call.invariant.1),
    )
