use Rattle.std.proofs.Common.{◌∙◌, ◌≡◌, ◌<◌, Bool, List, ℕ, ap, arith, false, get_or, length, map, refl, subst, sym}
use Rattle.std.specs.Global.{Global}
use Rattle.std.specs.declared.vec.Vec.{Vec}
use Rattle.cqf_program_tc.specs.Taken.{AreTaken}
use Rattle.cqf_lists.proofs.ByNumber.{list_more, no_lists}
use Rattle.cqf_lists.specs.ByNumber.{AreListsBy, lists_of}
use Rattle.cqf_program_tc.proofs.Apart.{found_link}
use Rattle.cqf_program_tc.proofs.Naming.{link_named_so, many_marks, many_words, word_there}
use Rattle.cqf_program_tc.specs.Variables.{link_variable, numbered, word_of_link}
use Rattle.cqf_program_tc.proofs.variables.link_variables.Goals as goal

pub loop-link-init : goal.loop-link-init
loop-link-init c = no_lists (link_variable c.args.domain.now) c.new-variables.result.items c.new-variables.ensures.items

-- there is a variable for each link
pub bounds-words-index : goal.bounds-words-index
bounds-words-index c =
    let d = c.args.domain.now in
    omega (
      arith,
      c.loop-link-test.true,
      c.links-link-end.ensures,
      c.from-index.ensures,
      many_words (word_of_link d) d.links c.in_ok-made.made.items c.in_ok-made.ensures,
      ap length c.as_slice-words.ensures.value,
    )

pub bounds-taken-index : goal.bounds-taken-index
bounds-taken-index c =
    let d = c.args.domain.now in
    omega (
      arith,
      c.loop-link-test.true,
      c.links-link-end.ensures,
      c.from-index.ensures,
      many_words (word_of_link d) d.links c.in_ok-made.made.items c.in_ok-made.ensures,
      ap length c.as_slice-words.ensures.value,
      many_marks c.as_slice-words.result.now c.in_ok-noted.noted.items c.in_ok-noted.ensures,
      ap length c.as_slice-taken.ensures.value,
    )

pub loop-link-preserved : goal.loop-link-preserved
loop-link-preserved c =
    let d = c.args.domain.now in
    let k = c.loop-link.link in
    let words = c.as_slice-words.result.now in
    let taken = c.as_slice-taken.result.now in
    let index = c.from-index.result in
    let low : k < length d.links = omega (arith, c.loop-link-test.true, c.links-link-end.ensures) in
    let are : lists_of words ≡ map (word_of_link d) d.links = ap lists_of c.as_slice-words.ensures.value ∙ c.in_ok-made.ensures in
    let marked = subst (λ (marks : List Bool). AreTaken (lists_of words) marks) (sym c.as_slice-taken.ensures.value) c.in_ok-noted.ensures in
    let many = many_words (word_of_link d) d.links words are in
    let marks = many_marks words taken marked in
    let one = found_link d k low in
    let in_words : index < length words = omega (arith, low, many, c.from-index.ensures) in
    let in_marks : index < length taken = omega (arith, in_words, marks) in
    list_more (link_variable d) k c.loop-link.variables.items c.push.new.self.items c.in_ok-variable.variable c.loop-link.invariant
    (link_named_so d words taken k index one.0 c.as_slice.result.now c.in_ok-variable.variable.items (get_or taken index false) are marked
    c.from-index.ensures one.1 low one.2 (word_there words index c.as_slice.result.now c.index-words-index.result in_words
    (c.as_slice.ensures.value ∙ ap (λ (w : Vec ℕ Global). w.items) c.index-words-index.is))
    refl
    (c.in_ok-variable.ensures ∙ ap (numbered c.as_slice.result.now (get_or taken index false)) c.from.ensures)) c.in_ok-push.ensures.items

pub returns : goal.returns
returns c =
    let d = c.args.domain.now in
    let all : c.loop-link.link ≡ length d.links = omega (arith, c.loop-link-test.false, c.loop-link.auto.link-end, c.links-link-end.ensures) in
    subst (λ (n : ℕ). AreListsBy (link_variable d) n (lists_of c.loop-link.variables.items)) all c.loop-link.invariant
