use Rattle.toml.specs.View.{items_view, table_view}
use Rattle.cqf_addressing.specs.Links.{back_too, there_from}
use Rattle.cqf_addressing.proofs.After.{first_read}
use Rattle.cqf_addressing.proofs.links.put_link.Goals as goal

pub returns : goal.returns
returns c =
    let stations = items_view c.args.stations.now in
    let table = table_view c.args.table.now in
    rw (first_read c.args.links.now.items c.put_there.new.links.items (there_from stations table) (back_too stations table) c.in_ok-put_there.ensures)
    c.put_back.ensures
