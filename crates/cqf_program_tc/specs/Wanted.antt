-- The variables that the script's function of a bridge requires, and those that the bridge's file sets, read back from their lines.
use Rattle.std.specs.Prelude.{ℕ, ◌≡◌, ◌<◌, ◌++◌, ◌==◌, Bool, Contains, List, [], ◌∷◌, Some, codes, drop, if◌then◌else◌, length, true}
use Rattle.std.specs.List.{flat_map}
use Rattle.cqf_addressing.specs.Interface.{is_interface}
use Rattle.cqf_addressing.specs.declared.links.LinkInterfaces.{LinkInterfaces}
use Rattle.cqf_addressing.specs.declared.streams.StreamAddress.{StreamAddress}
use Rattle.cqf_text.specs.Lines.{lines_of}
use Rattle.cqf_model.specs.declared.topology.Row.{Row}
use Rattle.cqf_model.specs.Domain.{Domain}
use Rattle.cqf_topology.specs.DomainText.{IsDomain}
use Rattle.cqf_admission.specs.Grants.{HaveNames}
use Rattle.cqf_program_tc.specs.Calls.{begins_with, function_of_bridge, lines_of_function}
use Rattle.cqf_program_tc.specs.Env.{env_text}
use Rattle.cqf_program_tc.specs.Text.{tc_text}

-- a text up to the first occurrence of a byte
abbrev pub text_up_to : ℕ → List ℕ → List ℕ
text_up_to byte [] = []
text_up_to byte (first ∷ rest) = if first == byte then [] else first ∷ text_up_to byte rest

-- the variables that a line of the script requires: `port NAME ..` the one of this name, `frames NAME ..` the address and the VLAN
abbrev pub wanted_by : List ℕ → List (List ℕ)
wanted_by line =
    if begins_with (codes "    port ") line then text_up_to 32 (drop 9 line) ∷ []
    else (if begins_with (codes "    frames ") line
    then (codes "MAC_" ++ text_up_to 32 (drop 11 line)) ∷ (codes "VLAN_" ++ text_up_to 32 (drop 11 line)) ∷ []
    else [])

abbrev pub wanted_at : ℕ → List ℕ → List (List ℕ)
wanted_at bridge script = flat_map wanted_by (lines_of_function (function_of_bridge bridge) script)

-- the variable that a line of a file sets: the text before the first `=`, unless the line is a comment
abbrev pub set_by : List ℕ → List (List ℕ)
set_by line = if begins_with (codes "#") line then [] else text_up_to 61 line ∷ []

abbrev pub set_in : List ℕ → List (List ℕ)
set_in file = flat_map set_by (lines_of file)

-- interfaces have names of the form that a reader gives them
pub record HaveForm (interfaces : List LinkInterfaces) : Type 0 where
  pub near : (link : LinkInterfaces) (name : List ℕ) → Contains interfaces link → link.near ≡ Some name → is_interface name ≡ true
  pub far : (link : LinkInterfaces) (name : List ℕ) → Contains interfaces link → link.far ≡ Some name → is_interface name ≡ true

-- the file of a bridge sets exactly the variables that its function requires, in the order in which they are first required, after the two
-- of the script
abbrev pub EnvHasWhatTheScriptWants : Type 0
EnvHasWhatTheScriptWants =
    (d : Domain) (software : Bool) (gates : ℕ → ℕ) (interfaces : List LinkInterfaces) (addresses : List StreamAddress) (rows : List Row) (bridge : ℕ) →
    IsDomain d → HaveNames rows → HaveForm interfaces → bridge < length d.bridges →
    set_in (env_text d interfaces addresses rows bridge) ≡ codes "BASE" ∷ codes "CHAIN" ∷ wanted_at bridge (tc_text d software gates rows)
