-- The variables of the script, which are named after links and streams.
use Rattle.std.specs.Prelude.{ℕ, ◌≡◌, ◌≢◌, ◌<◌, ◌^◌, ◌++◌, ◌==◌, ◌&&◌, Bool, Contains, List, [], codes, decimal, if◌then◌else◌, length, map, nat_lt, slice_get, take}
use Rattle.std.specs.Global.{Global}
use Rattle.std.specs.List.{list_any}
use Rattle.std.specs.Option.{option_map_or}
use Rattle.std.specs.declared.vec.Vec.{Vec}
use Rattle.cqf_lists.specs.ByNumber.{AreListsBy, lists_of}
use Rattle.cqf_model.specs.declared.topology.Link.{Link}
use Rattle.cqf_model.specs.declared.topology.Row.{Row}
use Rattle.cqf_model.specs.Domain.{Domain, is_text}
use Rattle.cqf_topology.specs.DomainText.{IsDomain}
use Rattle.cqf_topology.specs.NodeNames.{name_of_bridge, name_of_node}
use Rattle.cqf_admission.specs.Grants.{HaveNames}

-- a name as it appears in a variable: with `_` for each `-`
abbrev pub word_byte : ℕ → ℕ
word_byte byte = if byte == 45 then 95 else byte

abbrev pub word_of : List ℕ → List ℕ
word_of name = map word_byte name

abbrev pub word_of_stream : Row → List ℕ
word_of_stream row = word_of row.name

-- the word of a link: the words of its ends
abbrev pub word_of_link : Domain → Link → List ℕ
word_of_link d link = word_of (name_of_bridge d link.from) ++ (codes "_" ++ word_of (name_of_node d link.to))

-- a word, followed by `_N` and a number if the word is taken. No name has a capital letter
abbrev pub numbered : List ℕ → Bool → ℕ → List ℕ
numbered word is_taken number = word ++ (if is_taken then codes "_N" ++ decimal number else [])

-- the variable of a link, after `OUT_` or `IN_`; its word is taken if a link with a lower number has it
abbrev pub is_link_taken : Domain → ℕ → Link → Bool
is_link_taken d number link = list_any (λ (other : Link). is_text (word_of_link d other) (word_of_link d link)) (take number d.links)

abbrev pub link_variable : Domain → ℕ → List ℕ
link_variable d number = option_map_or (λ (link : Link). numbered (word_of_link d link) (is_link_taken d number link) number) (slice_get d.links number) []

-- the variable of a stream, after `TALKER_`, `MAC_` or `VLAN_`; its word is taken if a stream with a lower number has it
abbrev pub has_word_before : Row → Row → Bool
has_word_before row other = nat_lt other.no row.no && is_text (word_of_stream other) (word_of_stream row)

abbrev pub is_stream_taken : List Row → Row → Bool
is_stream_taken rows row = list_any (has_word_before row) rows

abbrev pub stream_variable : List Row → Row → List ℕ
stream_variable rows row = numbered (word_of_stream row) (is_stream_taken rows row) row.no

-- the variables of a domain's links by number, and of the streams of rows by index
abbrev pub variable_at : List Row → ℕ → List ℕ
variable_at rows index = option_map_or (stream_variable rows) (slice_get rows index) []

pub record AreNamed (d : Domain) (rows : List Row) (links streams : List (Vec ℕ Global)) : Type 0 where
  pub of_links : AreListsBy (link_variable d) (length d.links) (lists_of links)
  pub of_streams : AreListsBy (variable_at rows) (length rows) (lists_of streams)

-- two links of a domain have different variables, and so have two streams of rows
pub record VariablesAreApart : Type 0 where
  pub links : (d : Domain) (a b : ℕ) → IsDomain d → a < length d.links → b < length d.links → a ≢ b → link_variable d a ≢ link_variable d b
  pub streams : (rows : List Row) (a b : Row) → HaveNames rows → Contains rows a → Contains rows b → a.no < 2 ^ 32 → b.no < 2 ^ 32 → a.no ≢ b.no →
      stream_variable rows a ≢ stream_variable rows b
