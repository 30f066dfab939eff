-- When two networks are alike, element by element; and the law that exactly these differ nowhere.
use Rattle.std.specs.Prelude.{ℕ, ◌≡◌, ◌<◌, List, [], Bool, true, Contains, Option, Some, None, find, length}
use Rattle.std.specs.List.{list_any}
use Rattle.cqf_program_diff.specs.Changes.{is_named, value_of}
use Rattle.cqf_program_diff.specs.Description.{Description}
use Rattle.cqf_program_diff.specs.Element.{ElementText}
use Rattle.cqf_program_diff.specs.Kinds.{keys_of}
use Rattle.cqf_program_diff.specs.Output.{differences}
use Rattle.cqf_program_diff.specs.declared.kinds.Kind.TheVariants.{Network, Bridge, Station, Link, Stream}
use Rattle.cqf_program_diff.specs.declared.forms.Form.{Form}
use Rattle.cqf_program_diff.specs.declared.forms.Form.TheVariants.{Properties, Figures}

-- how many values count: one for each key; of a figure itself and what is left
abbrev pub count_of : Form → ℕ
count_of (Properties kind) = length (keys_of kind)
count_of Figures = 2

-- two elements have the same values
abbrev pub HaveSameValues : Form → ElementText → ElementText → Type 0
HaveSameValues form before after = (index : ℕ) → index < count_of form → value_of before index ≡ value_of after index

-- an element has the same values in the second network, in which this is the first with its name
abbrev pub IsKept : Form → ElementText → Option ElementText → Type 0
IsKept form before None = ⊥
IsKept form before (Some after) = HaveSameValues form before after

-- two lists are alike: each element of the first is in the second with the same values, and the second has no other names
pub record AreAlike (form : Form) (befores afters : List ElementText) : Type 0 where
  pub kept : (before : ElementText) → Contains befores before → IsKept form before (find (is_named before.name) afters)
  pub no_more : (after : ElementText) → Contains afters after → list_any (is_named after.name) befores ≡ true

-- two networks are alike
pub record AreAlikeNetworks (before after : Description) : Type 0 where
  pub network : AreAlike (Properties Network) before.network after.network
  pub bridges : AreAlike (Properties Bridge) before.bridges after.bridges
  pub stations : AreAlike (Properties Station) before.stations after.stations
  pub links : AreAlike (Properties Link) before.links after.links
  pub access : AreAlike (Properties Link) before.access after.access
  pub streams : AreAlike (Properties Stream) before.streams after.streams
  pub latencies : AreAlike Figures before.latencies after.latencies
  pub loads : AreAlike Figures before.loads after.loads
  pub access_loads : AreAlike Figures before.access_loads after.access_loads

-- nothing is written if and only if two networks are alike
abbrev pub AlikeDifferNowhere : Type 0
AlikeDifferNowhere = (before after : Description) → AreAlikeNetworks before after → differences before after ≡ []

abbrev pub SameIfNothingDiffers : Type 0
SameIfNothingDiffers = (before after : Description) → differences before after ≡ [] → AreAlikeNetworks before after
