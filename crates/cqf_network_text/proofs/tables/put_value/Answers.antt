use Rattle.std.proofs.Common.{◌≡◌, ap, ◌∙◌, string_bytes}
use Rattle.toml.specs.View.{members_view, table_view, view}
use Rattle.cqf_network_text.specs.DomainMembers.{put}
use Rattle.cqf_network_text.proofs.Putting.{put_is_insert}
use Rattle.cqf_network_text.proofs.tables.put_value.Goals as goal

pub returns : goal.returns
returns c =
    let name = c.in_ok-name.name in
    let named : string_bytes name ≡ c.args.key.now = c.in_ok-name.ensures.ok in
    ap members_view c.in_ok-_before.ensures.entries ∙ put_is_insert c.args.table.now.entries name c.args.value
    ∙ ap (λ key. put key (view c.args.value) (table_view c.args.table.now)) named
