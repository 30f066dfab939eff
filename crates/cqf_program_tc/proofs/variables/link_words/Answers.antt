use Rattle.std.proofs.Common.{◌∙◌, ◌≡◌, ◌<◌, ap, arith, get_or, length, map, refl, sym, take}
use Rattle.std.proofs.lemmas.List.{take_all}
use Rattle.cqf_model.specs.declared.topology.Link.{Link}
use Rattle.cqf_program_tc.proofs.Naming.{link_here, words_more}
use Rattle.cqf_program_tc.specs.Variables.{word_of_link}
use Rattle.cqf_program_tc.proofs.variables.link_words.Goals as goal

pub loop-link-preserved : goal.loop-link-preserved
loop-link-preserved c =
    let d = c.args.domain.now in
    let k = c.loop-link.link in
    let inside : k < length d.links = omega (arith, c.loop-link-test.true, c.links-link-end.ensures) in
    words_more (word_of_link d) d.links k c.link.result c.loop-link.words.items c.push.new.self.items c.in_ok-word.word
    inside c.loop-link.invariant c.in_ok-push.ensures.items (c.in_ok-word.ensures ∙ ap (word_of_link d) (link_here d k c.link.result c.link.ensures))

pub returns : goal.returns
returns c =
    let d = c.args.domain.now in
    c.loop-link.invariant ∙ ap (map (word_of_link d)) (take_all c.loop-link.link d.links (omega (arith, c.loop-link-test.false, c.links-link-end.ensures)))
