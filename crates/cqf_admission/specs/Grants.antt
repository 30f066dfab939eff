-- A property of the streams of a history.
use Rattle.std.specs.Prelude.{◌≡◌, true, Contains, List}
use Rattle.cqf_units.specs.Name.{is_name}
use Rattle.cqf_model.specs.declared.topology.Row.{Row}

-- each stream has a name of good form
abbrev pub HaveNames : List Row → Type 0
HaveNames rows = (row : Row) → Contains rows row → is_name row.name ≡ true
