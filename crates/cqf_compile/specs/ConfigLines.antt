-- The pieces of a configuration's text.
use Rattle.std.specs.Prelude.{ℕ, ◌++◌, List, codes, decimal}
use Rattle.cqf_admission.specs.Tables.{AreAlongLinks}
use Rattle.cqf_admission.specs.ActiveCycles.{AreOfGoodPaces}
use Rattle.cqf_model.specs.declared.topology.Row.{Row}
use Rattle.cqf_model.specs.Domain.{Domain}

-- the rows can be written: their trees have only links of the domain, and their paces are good
pub record IsReadyConfig (d : Domain) (rows : List Row) : Type 0 where
  pub along : AreAlongLinks d rows
  pub paced : AreOfGoodPaces rows

-- a stream's line up to the name of the bridge
abbrev pub row_front : Row → List ℕ
row_front row = codes "stream " ++ decimal row.no ++ codes " " ++ row.name ++ codes " bridge "
