use Rattle.std.proofs.Common.{◌∙◌, ◌<◌, [], Option, ap, arith, get_or, length, refl, sym}
use Rattle.std.specs.Prelude.{ℕ}
use Rattle.std.specs.Global.{Global}
use Rattle.std.specs.declared.vec.Vec.{Vec}
use Rattle.std.specs.Option.{option_map_or}
use Rattle.std.proofs.lemmas.List.{length-map}
use Rattle.std.proofs.lemmas.Option.{slice_get_past}
use Rattle.cqf_lists.proofs.ByNumber.{list_there}
use Rattle.cqf_model.specs.declared.topology.Link.{Link}
use Rattle.cqf_program_tc.specs.Variables.{is_link_taken, link_variable, numbered, word_of_link}
use Rattle.cqf_program_tc.proofs.plan.link_variable.Goals as goal

pub returns-then-link-links : goal.returns-then-link-links
returns-then-link-links c =
    let d = c.args.plan.domain.now in
    let links = c.args.plan.links.now in
    let some = c.index-plan-from.result in
    c.as_slice.ensures.value
    ∙ list_there (link_variable d) (length d.links) links c.args.link c.from.result (get_or links c.from.result some) some
    c.requires.of_links (omega (arith, c.if-link-links.true, c.links.ensures)) c.from.ensures refl

pub returns-else-link-links : goal.returns-else-link-links
returns-else-link-links c =
    let d = c.args.plan.domain.now in
    let past = slice_get_past d.links c.args.link (omega (arith, c.if-link-links.false, c.links.ensures)) in
    c.as_slice-else-link-links.ensures
    ∙ sym (ap (λ (found : Option Link). option_map_or (λ (l : Link). numbered (word_of_link d l) (is_link_taken d c.args.link l) c.args.link) found []) past)

pub bounds-plan-from : goal.bounds-plan-from
bounds-plan-from c =
    let links = c.args.plan.links.now in
    omega (arith, c.if-link-links.true, c.links.ensures, c.from.ensures, c.requires.of_links.one_each, length-map links (λ (l : Vec ℕ Global). l.items))
