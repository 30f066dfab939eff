-- The streams of a summary, and their costs.
use Rattle.std.specs.Prelude.{ℕ, Bool, List, Option, Some, None, filter, is_none, not}
use Rattle.std.specs.List.{list_any}
use Rattle.cqf_lists.specs.Lists.{each_once}
use Rattle.cqf_units.specs.Name.{is_name}
use Rattle.cqf_model.specs.declared.history.Refused.{Refused}
use Rattle.cqf_model.specs.declared.topology.Row.{Row}
use Rattle.cqf_model.specs.Domain.{Domain, is_text}
use Rattle.cqf_model.specs.History.{Asked}
use Rattle.cqf_laws_history.specs.StateLaws.{granted_row}
use Rattle.cqf_laws_timing.specs.Streams.{most_beside_all}
use Rattle.cqf_admission.specs.Judging.{form_refusal}

-- the streams whose name has the form of a name; of each name the first
abbrev pub written_streams : List Asked → List Asked
written_streams streams = each_once (λ (a b : Asked). is_text a.name b.name) (filter (λ (asked : Asked). is_name asked.name) streams)

-- whether none of them has a name
abbrev pub is_other : List Asked → List ℕ → Bool
is_other reported name = not (list_any (λ (asked : Asked). is_text asked.name name) reported)

-- whether a stream's octets, pace and path are good too
abbrev pub is_good : Domain → Asked → Bool
is_good d asked = is_none (form_refusal d asked)

-- the row of a stream for which they are good, as if it were the first of all and live from cycle 0 on
abbrev pub row_unless : Domain → Asked → Option Refused → Option Row
row_unless d asked None = Some (granted_row d 0 0 asked)
row_unless d asked (Some refused) = None

abbrev pub row_of_stream : Domain → Asked → Option Row
row_of_stream d asked = row_unless d asked (form_refusal d asked)

-- the greatest cost of a link, in octets, that all good streams have together in a cycle in which a stream's frames
-- pass it, whether or not they fit
abbrev pub written_cost : Domain → List Asked → Asked → ℕ → ℕ
written_cost d reported asked link = most_beside_all d (filter (is_good d) reported) asked link
