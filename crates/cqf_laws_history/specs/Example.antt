-- An example: one link on which a stream of every 16 cycles is held, and the replies to requests for a second stream, by its pace
-- and by the limits.
use Rattle.std.specs.Prelude.{ℕ, ◌≡◌, List, [], ◌∷◌, Option, Some, None, codes}
use Rattle.cqf_units.specs.declared.timing.Rate.TheVariants.{Mb1000}
use Rattle.cqf_model.specs.declared.history.Refused.{Refused}
use Rattle.cqf_model.specs.declared.history.Refused.TheVariants.{BadPace, BrokenPath, TooManyHops, TooManyStreams, BudgetShort}
use Rattle.cqf_model.specs.declared.limits.Limits.{Limits}
use Rattle.cqf_model.specs.declared.topology.Node.TheVariants.{Station}
use Rattle.cqf_model.specs.declared.topology.Row.{Row}
use Rattle.cqf_model.specs.Domain.{Domain}
use Rattle.cqf_model.specs.History.{Asked, refusal_of}
use Rattle.cqf_model.specs.Limits.{profile}
use Rattle.cqf_laws_history.specs.StateLaws.{granted_row}

-- a gigabit link from bridge a to station s, with some limits
abbrev pub one_link : Limits → Domain
one_link limits = record {
  limits = limits;
  cycle_time = 250000;
  guard = 5000;
  sync = 0;
  overhead = 0;
  bridges = codes "a" ∷ [];
  stations = codes "s" ∷ [];
  links = record { from = 0; to = Station 0; rate = Mb1000; delay = 500; least = 500; guard = None } ∷ [];
}

-- a request for a stream over this link. Its 20,000 octets cost 26,240 of the link's budget of 30,625 in the stream's own cycles
abbrev pub asked_as : List ℕ → ℕ → ℕ → Asked
asked_as name every phase = record { name = name; octets = 20000; every = every; phase = phase; paths = (codes "a" ∷ codes "s" ∷ []) ∷ [] }

-- x is held; the fourth of each 16 cycles is its own
abbrev pub held : List Row
held = granted_row (one_link profile) 0 0 (asked_as (codes "x") 16 3) ∷ []

-- why y is refused, if it is
abbrev pub said : Limits → ℕ → ℕ → Option Refused
said limits every phase = refusal_of (one_link limits) held (asked_as (codes "y") every phase)

-- y is granted if no cycle is a cycle of both x and y, and if the limits allow its nodes, its hops and its number of streams
pub record IsSaidOfTheSecond : Type 0 where
  pub other_phase : said profile 16 4 ≡ None
  pub other_half : said profile 2 0 ≡ None
  pub every_twenty : said profile 20 4 ≡ None
  pub every_five : said profile 5 0 ≡ Some (BudgetShort 0 4385)
  pub same_phase : said profile 16 3 ≡ Some (BudgetShort 0 4385)
  pub same_half : said profile 2 1 ≡ Some (BudgetShort 0 4385)
  pub each_cycle : said profile 1 0 ≡ Some (BudgetShort 0 4385)
  pub no_divisor : said profile 3 0 ≡ Some BadPace
  pub no_phase : said profile 20 20 ≡ Some BadPace
  pub never : said profile 0 0 ≡ Some BadPace
  pub one_node : said (record profile { nodes = 1 }) 16 4 ≡ Some (BrokenPath 1)
  pub no_hop : said (record profile { hops = 0 }) 16 4 ≡ Some TooManyHops
  pub one_stream : said (record profile { streams = 1 }) 16 4 ≡ Some TooManyStreams
  pub many_streams : said (record profile { streams = 1000000 }) 16 4 ≡ None
