-- Links that take turns in any order: the link that has sent the fewest cycles waits for none.
use Rattle.std.specs.Prelude.{ℕ, ◌≡◌, ◌+◌, ◌<◌, List, true, length}
use Rattle.cqf_model.specs.declared.topology.Row.{Row}
use Rattle.cqf_model.specs.Domain.{Domain, bridge_of, enters}
use Rattle.cqf_model.specs.Table.{table_of}
use Rattle.cqf_relay.specs.Segments.{Sendings}
use Rattle.cqf_relay.specs.Leading.{leads}

-- a link that has sent cycle 0 waits for no other: the links from which a row leads to it have sent at least as many cycles
abbrev pub CanGoOn : Domain → List (List Row) → Sendings → ℕ → Type 0
CanGoOn d tables links l = (cycle m : ℕ) → length (links l) ≡ cycle + 1 → enters d m (bridge_of d l) ≡ true → leads (table_of tables cycle) m l ≡ true →
    cycle < length (links m)

-- if some link of a domain hasn't reached the end of a run, one of those can go on
pub record OneCanGoOn (d : Domain) (tables : List (List Row)) (links : Sendings) : Type 0 where
  pub link : ℕ
  pub inside : link < length d.links
  pub not_over : length (links link) < length tables
  pub can : CanGoOn d tables links link

abbrev pub SomeLinkCanGoOn : Type 0
SomeLinkCanGoOn = (d : Domain) (tables : List (List Row)) (links : Sendings) (l : ℕ) → l < length d.links → length (links l) < length tables →
    OneCanGoOn d tables links
