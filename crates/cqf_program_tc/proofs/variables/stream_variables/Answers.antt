use Rattle.std.proofs.Common.{◌∙◌, ◌≡◌, ◌<◌, Bool, List, ℕ, ap, arith, false, get_or, length, map, refl, subst, sym}
use Rattle.std.specs.Global.{Global}
use Rattle.std.specs.declared.vec.Vec.{Vec}
use Rattle.cqf_lists.proofs.ByNumber.{list_more, no_lists}
use Rattle.cqf_lists.specs.ByNumber.{AreListsBy, lists_of}
use Rattle.cqf_program_tc.proofs.Naming.{many_marks, many_words, stream_named_so, word_there}
use Rattle.cqf_model.specs.declared.topology.Row.{Row}
use Rattle.cqf_program_tc.specs.Taken.{AreTaken}
use Rattle.cqf_program_tc.specs.Variables.{numbered, variable_at, word_of_stream}
use Rattle.cqf_program_tc.proofs.variables.stream_variables.Goals as goal

pub loop-index-init : goal.loop-index-init
loop-index-init c = no_lists (variable_at c.args.rows.now) c.new-variables.result.items c.new-variables.ensures.items

-- there is a variable for each row
pub bounds-words-index : goal.bounds-words-index
bounds-words-index c =
    let rows = c.args.rows.now in
    omega (arith, many_words word_of_stream rows c.in_ok-made.made.items c.in_ok-made.ensures, ap length c.as_slice-words.ensures.value)

pub bounds-taken-index : goal.bounds-taken-index
bounds-taken-index c =
    let rows = c.args.rows.now in
    omega (
      arith,
      many_words word_of_stream rows c.in_ok-made.made.items c.in_ok-made.ensures,
      ap length c.as_slice-words.ensures.value,
      many_marks c.as_slice-words.result.now c.in_ok-noted.noted.items c.in_ok-noted.ensures,
      ap length c.as_slice-taken.ensures.value,
    )

pub loop-index-preserved : goal.loop-index-preserved
loop-index-preserved c =
    let rows = c.args.rows.now in
    let k = c.loop-index.index in
    let words = c.as_slice-words.result.now in
    let taken = c.as_slice-taken.result.now in
    let low : k < length rows = omega arith in
    let are : lists_of words ≡ map word_of_stream rows = ap lists_of c.as_slice-words.ensures.value ∙ c.in_ok-made.ensures in
    let marked = subst (λ (marks : List Bool). AreTaken (lists_of words) marks) (sym c.as_slice-taken.ensures.value) c.in_ok-noted.ensures in
    let many = many_words word_of_stream rows words are in
    let marks = many_marks words taken marked in
    let in_words : k < length words = omega (arith, low, many) in
    let in_marks : k < length taken = omega (arith, in_words, marks) in
    list_more (variable_at rows) k c.loop-index.variables.items c.push.new.self.items c.in_ok-variable.variable c.loop-index.invariant
    (stream_named_so rows words taken k c.index-rows-index.result c.as_slice.result.now c.in_ok-variable.variable.items (get_or taken k false)
    c.requires are marked low c.index-rows-index.is
    (word_there words k c.as_slice.result.now c.index-words-index.result in_words
    (c.as_slice.ensures.value ∙ ap (λ (w : Vec ℕ Global). w.items) c.index-words-index.is))
    refl (c.in_ok-variable.ensures ∙ ap (λ (r : Row). numbered c.as_slice.result.now (get_or taken k false) r.no) (sym c.index-rows-index.is))) c.in_ok-push.ensures.items

pub returns : goal.returns
returns c =
    let rows = c.args.rows.now in
    let all : c.loop-index.index ≡ length rows = omega arith in
    subst (λ (n : ℕ). AreListsBy (variable_at rows) n (lists_of c.loop-index.variables.items)) all c.loop-index.invariant
