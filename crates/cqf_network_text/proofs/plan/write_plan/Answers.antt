use Rattle.std.proofs.Common.{◌≡◌, ◌≤◌, ◌∙◌, Err, Some, false, ap, map, string_bytes, subst, sym}
use Rattle.std.proofs.lemmas.Bool.{true≢false}
use Rattle.std.proofs.lemmas.Str.{IsUtf8-string_bytes, is_utf8-from_IsUtf8}
use Rattle.toml.specs.Data.{members_depth, members_have_valid_dates}
use Rattle.toml.specs.Text.{IsDocumentText}
use Rattle.toml.specs.View.{table_view}
use Rattle.cqf_traffic.specs.FlowsText.{flow_text}
use Rattle.cqf_network_text.specs.Plans.{plan_members}
use Rattle.cqf_network_text.proofs.Shapes.{plan_dateless, plan_shallow}
use Rattle.cqf_network_text.proofs.plan.write_plan.Goals as goal

pub returns-in-Ok : goal.returns-in-Ok
returns-in-Ok c =
    let members = plan_members c.args.domain.now (map flow_text c.args.flows.now) in
    let same : table_view c.in_ok-table.table ≡ members = c.in_ok-table.ensures in
    let text = string_bytes c.in-Ok.text in
    let shallow : members_depth (table_view c.in_ok-table.table) ≤ 80 =
    subst (λ m. members_depth m ≤ 80) (sym same) (plan_shallow c.args.domain.now (map flow_text c.args.flows.now)) in
    record {
      encoded = is_utf8-from_IsUtf8 text (IsUtf8-string_bytes c.in-Ok.text);
      written = subst (λ m. IsDocumentText false m text) same c.in-Ok.ensures.text;
      document = c.in-Ok.ensures.reads_back shallow ∙ ap Some same;
    }

pub unreachable-requires : goal.unreachable-requires
unreachable-requires c =
    let same : table_view c.in_ok-table.table ≡ plan_members c.args.domain.now (map flow_text c.args.flows.now) = c.in_ok-table.ensures in
    let dated : members_have_valid_dates (table_view c.in_ok-table.table) ≡ false =
    c.table_to_string.ensures.dates.0 (c.in-Err-DateInvalid.is ∙ ap Err c.in-Err-DateInvalid.field-0-is) in
    true≢false (sym (plan_dateless c.args.domain.now (map flow_text c.args.flows.now)) ∙ ap members_have_valid_dates (sym same) ∙ dated)
