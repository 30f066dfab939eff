use Rattle.std.proofs.Common.{◌≡◌, ◌++◌, ◌≤◌, length, map, string_bytes, arith}
use Rattle.std.specs.List.{flat_map}
use Rattle.std.proofs.lemmas.Grind.{common_steps}
use Rattle.cqf_program_explanations.specs.Explanations.{reported_line}
use Rattle.cqf_program_explanations.proofs.ReportedLemmas.{one_more}
use Rattle.cqf_program_explanations.proofs.reported.ReportedLines.text.Goals as goal

pub returns : goal.returns
returns c =
    let start = c.args.start.now in
    let few : length (map string_bytes c.args.self.now.lines.items) ≤ 20 = grind (arith, common_steps) in
    let text : c.in_ok-text.text.items ≡ flat_map (reported_line start) (map string_bytes c.args.self.now.lines.items) = grind (arith, common_steps) in
    let more : c.put_line.new.text.items ≡ c.in_ok-text.text.items ++ reported_line start c.as_str.result.now = grind (arith, common_steps) in
    one_more start (map string_bytes c.args.self.now.lines.items) c.as_str.result.now c.put_line.new.text.items few (grind (arith, common_steps))
