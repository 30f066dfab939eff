use Rattle.std.proofs.Common.{◌∙◌, ◌≡◌, ◌<◌, ap, arith, get_or, length, map, sym, take}
use Rattle.std.proofs.lemmas.List.{take_all}
use Rattle.cqf_program_tc.proofs.Naming.{words_more}
use Rattle.cqf_program_tc.specs.Variables.{word_of_stream}
use Rattle.cqf_program_tc.proofs.variables.stream_words.Goals as goal

pub loop-index-preserved : goal.loop-index-preserved
loop-index-preserved c =
    let rows = c.args.rows.now in
    let k = c.loop-index.index in
    let row = c.index-rows-index.result in
    let inside : k < length rows = omega arith in
    words_more word_of_stream rows k row c.loop-index.words.items c.push.new.self.items c.in_ok-word.word
    inside c.loop-index.invariant c.in_ok-push.ensures.items (c.in_ok-word.ensures ∙ ap word_of_stream c.index-rows-index.is)

pub returns : goal.returns
returns c =
    let rows = c.args.rows.now in
    c.loop-index.invariant ∙ ap (map word_of_stream) (take_all c.loop-index.index rows (omega arith))
