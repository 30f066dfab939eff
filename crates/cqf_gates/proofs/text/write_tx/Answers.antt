-- One more entry is written.
use Rattle.std.proofs.Common.{◌≡◌, All, take, ◌<◌, ◌^◌, ap, ◌∙◌}
use Rattle.std.proofs.lemmas.List.Elements.{All-more}
use Rattle.cqf_model.specs.GateList.{Entry}
use Rattle.std.proofs.lemmas.List.{take_all}
use Rattle.cqf_gates.specs.GateListText.{text_of_entries}
use Rattle.cqf_gates.proofs.RoundTrip.{list_of_text-text}
use Rattle.cqf_gates.proofs.Written.{text_of_entries-more}
use Rattle.cqf_gates.proofs.text.write_tx.Goals as goal

pub loop-entry-preserved : goal.loop-entry-preserved
loop-entry-preserved c =
    let entries = c.entries-entry-items.result.now in
    let more = text_of_entries-more entries c.loop-entry.entry-index (0, 0) c.loop-entry-test.true in
    record {
      written = cc (more, c.in_ok-push_entry.ensures.line, c.loop-entry.invariant.written);
      ranges = All-more (λ (entry : Entry). (entry.0 < 256) × (entry.1 < 2 ^ 32)) entries c.loop-entry.entry-index (0, 0) c.loop-entry-test.true
          c.loop-entry.invariant.ranges c.push_entry.ensures.ranges;
    }

pub returns-clause-again : goal.returns-clause-again
returns-clause-again c =
    let entries = c.args.list.now in
    let same = c.entries-entry-items.ensures.value in
    let whole : take c.loop-entry.entry-index c.entries-entry-items.result.now ≡ entries =
    take_all c.loop-entry.entry-index c.entries-entry-items.result.now c.loop-entry-test.false ∙ same in
    let ranges : All (λ (entry : Entry). (entry.0 < 256) × (entry.1 < 2 ^ 32)) entries = rw (← whole) c.loop-entry.invariant.ranges in
    let written : c.loop-entry.text.items ≡ text_of_entries entries = c.loop-entry.invariant.written ∙ ap text_of_entries whole in
    rw written (list_of_text-text entries c.entries-entry-items.ensures.facts ranges)
