-- The frames of a cycle that wait for a link.
use Rattle.std.specs.Prelude.{ℕ, ◌≡◌, ◌+◌, ◌*◌, ◌++◌, ◌==◌, false, if◌then◌else◌, List, [], All, filter, map}
use Rattle.std.specs.List.{flat_map, list_any}
use Rattle.cqf_relay.specs.declared.inlet.Inlet.{Inlet}
use Rattle.cqf_relay.specs.declared.leads.By.{By}
use Rattle.cqf_relay.specs.declared.leads.By.TheVariants.{Nothing, Edge, Link}
use Rattle.cqf_relay.specs.declared.leads.Leads.{Leads}
use Rattle.cqf_relay.specs.declared.log.ArrivedFrame.{ArrivedFrame}
use Rattle.cqf_relay.specs.declared.log.SourceLog.{SourceLog}
use Rattle.cqf_relay.specs.declared.queue.Queued.{Queued}
use Rattle.cqf_relay.specs.Leading.{by_at, same_by}
use Rattle.cqf_relay.specs.Logs.{ByCycle, is_in}

-- a frame with its source
abbrev pub queued : ℕ → ArrivedFrame → Queued
queued source came = record { source = source; came = came }

-- instant, source and frame as one number
abbrev pub key_of_queued : Queued → ℕ
key_of_queued q = (q.came.at * 8192 + q.source) * 16777216 + q.came.frame

-- of the frames that one source brought, those that go on by a link
abbrev pub that_go : List By → By → ℕ → List ArrivedFrame → List Queued
that_go rows by source frames = map (queued source) (filter (λ (came : ArrivedFrame). same_by (by_at rows came.row) by) frames)

-- of the frames that one source brought, those of a cycle that go on by a link
abbrev pub goes_from : List By → By → ℕ → ℕ → List ArrivedFrame → List Queued
goes_from rows by source cycle frames = that_go rows by source (filter (is_in cycle) frames)

-- the frames of a cycle that go on by a link: of each link that is needed, then of the edge
abbrev pub queued_by : Leads → ℕ → Inlet → List Queued
queued_by leads cycle inlet =
    if list_any (λ it. it == inlet.link) leads.needs.items
    then goes_from leads.rows.items (Link inlet.link) inlet.link cycle inlet.log.frames.items
    else []

abbrev pub queue_of : Leads → List Inlet → SourceLog → ℕ → List Queued
queue_of leads inlets edge cycle =
    flat_map (queued_by leads cycle) inlets ++ goes_from leads.rows.items Edge 4096 cycle edge.frames.items

-- all frames are in order of cycle
pub record AreByCycle (inlets : List Inlet) (edge : SourceLog) : Type 0 where
  pub links : All (λ (inlet : Inlet). ByCycle inlet.log.frames.items) inlets
  pub offers : ByCycle edge.frames.items

-- if a link knows of no row that leads to it, no row does, and no link is needed
pub record AreLeads (leads : Leads) : Type 0 where
  pub unused : leads.used ≡ false → (number : ℕ) → by_at leads.rows.items number ≡ Nothing
  pub unneeded : leads.used ≡ false → leads.needs.items ≡ []
