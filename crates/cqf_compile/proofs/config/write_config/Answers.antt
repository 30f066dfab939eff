use Rattle.std.proofs.Common.{◌∙◌, List, ap, rules}
use Rattle.std.specs.List.{flat_map}
use Rattle.cqf_model.specs.declared.topology.Row.{Row}
use Rattle.cqf_compile.specs.ConfigText.{config_text, text_of_row, texts_of_links}
use Rattle.cqf_output.proofs.WriterLemmas.{Puts-as, Puts-then, text-written}
use Rattle.cqf_compile.proofs.config.write_config.Goals as goal

pub put_shared-requires-clause-along : goal.put_shared-requires-clause-along
put_shared-requires-clause-along c = rw c.rows.ensures.rows c.requires.along

pub put_shared-requires-clause-paced : goal.put_shared-requires-clause-paced
put_shared-requires-clause-paced c = rw c.rows.ensures.rows c.requires.paced

pub returns : goal.returns
returns c =
    let plan = c.args.plan.now in
    let links = Puts-as _ (texts_of_links plan) (ap texts_of_links c.domain.ensures.value) c.put_ports.ensures in
    let rows = Puts-as _ (flat_map (text_of_row plan) c.args.table.now.rows)
    (ap (λ (rows : List Row). flat_map (text_of_row plan) rows) c.rows.ensures.rows) c.put_shared.ensures in
    let puts = Puts-then (texts_of_links plan) (flat_map (text_of_row plan) c.args.table.now.rows) links rows in
    let names = c.close-written.ensures.same ∙ puts.same ∙ c.new-writer.ensures.same in
    text-written c.close-written.result.now (config_text plan c.args.table.now.rows) c.written_text.result
    (ap (λ list. list.items) c.new-reported.ensures.writer ∙ c.new.ensures.items)
    c.new-writer.ensures.opens puts c.close-written.ensures.closes c.written_text.ensures.ok (search rules) (search rules)
