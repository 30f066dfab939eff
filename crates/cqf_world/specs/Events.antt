-- The events of a world: when each is enabled, and what it does.
use Rattle.std.specs.Prelude.{ℕ, ◌≡◌, ◌+◌, ◌<◌, Result, Ok, Err, false, length, slice_set, true}
use Rattle.std.specs.declared.alloc.AllocError.{AllocError}
use Rattle.cqf_model.specs.declared.frames.Page.{Page}
use Rattle.cqf_model.specs.Domain.{bridge_of, enters}
use Rattle.cqf_model.specs.History.{Seals, reply_to, seals}
use Rattle.cqf_laws_history.specs.StateLaws.{with_entry}
use Rattle.cqf_admission.specs.Admission.{calls}
use Rattle.cqf_admission.specs.Commands.{act_of_command}
use Rattle.cqf_book.specs.Pages.{with_page}
use Rattle.cqf_world.specs.declared.events.Applied.{Applied}
use Rattle.cqf_world.specs.declared.events.Applied.TheVariants.{Done, NotEnabled}
use Rattle.cqf_world.specs.declared.events.Event.{Event}
use Rattle.cqf_world.specs.declared.events.Event.TheVariants.{Call, Seal, Give, Step, Take, Post}
use Rattle.cqf_world.specs.World.{WorldState, cycle_of_bridge, given_to, sent_by_driven, taken_from}
use Rattle.cqf_model.specs.Limits.{most_calls}

-- a bridge lacks the table of its cycle, and the cycle is one of the run's and is closed
pub record MayBeGiven (w : WorldState) (bridge : ℕ) : Type 0 where
  pub inside : bridge < length w.domain.bridges
  pub of_run : cycle_of_bridge w bridge < w.cycles
  pub lacks : given_to w bridge ≡ cycle_of_bridge w bridge
  pub sealed : cycle_of_bridge w bridge < seals w.entries

-- the bridge has the table of its cycle, and hasn't sent the cycle
pub record MayStep (w : WorldState) (bridge : ℕ) : Type 0 where
  pub inside : bridge < length w.domain.bridges
  pub has_table : given_to w bridge ≡ cycle_of_bridge w bridge + 1
  pub not_sent : sent_by_driven w bridge ≡ cycle_of_bridge w bridge

-- the link ends in a bridge that has sent its cycle and hasn't taken the link's batch of it, and a batch is under way: the bridge that the
-- link leaves has sent more cycles than batches were taken from the link
pub record MayTake (w : WorldState) (link : ℕ) : Type 0 where
  pub bridge : ℕ
  pub ends : enters w.domain link bridge ≡ true
  pub has_sent : sent_by_driven w bridge ≡ cycle_of_bridge w bridge + 1
  pub not_taken : taken_from w link ≡ cycle_of_bridge w bridge
  pub under_way : taken_from w link < sent_by_driven w (bridge_of w.domain link)

-- the bridge has sent its cycle, and taken the cycle's batch of each link that ends in it
pub record MayPost (w : WorldState) (bridge : ℕ) : Type 0 where
  pub inside : bridge < length w.domain.bridges
  pub has_sent : sent_by_driven w bridge ≡ cycle_of_bridge w bridge + 1
  pub has_taken : (link : ℕ) → enters w.domain link bridge ≡ true → taken_from w link ≡ cycle_of_bridge w bridge + 1

-- when an event can happen. None is enabled after an allocation failed, or if the domain lacks the bridge or the link
abbrev pub MayHappen : WorldState → Event → Type 0
MayHappen w (Call seat command) = calls w.entries < most_calls
MayHappen w (Seal seat) = seals w.entries < w.cycles
MayHappen w (Give bridge) = MayBeGiven w bridge
MayHappen w (Step bridge) = MayStep w bridge
MayHappen w (Take link) = MayTake w link
MayHappen w (Post bridge) = MayPost w bridge

pub record IsEnabled (w : WorldState) (event : Event) : Type 0 where
  pub goes_on : w.stopped ≡ false
  pub may : MayHappen w event

-- a bridge's next page is posted
pub record Posts (old new : WorldState) (bridge : ℕ) : Type 0 where
  pub page : Page
  pub of_bridge : page.bridge ≡ bridge
  pub of_cycle : page.cycle.0 ≡ cycle_of_bridge old bridge
  pub posted : new ≡ record old { pages = with_page old.pages page }

-- the effect of an event: a call or a Seal enters the history with its due answer; a bridge is given a table, sends its cycle, takes a
-- batch, or posts its next page. Nothing else changes
abbrev pub Happens : WorldState → WorldState → Event → Type 0
Happens old new (Call seat command) =
    new ≡ record old { entries = with_entry old.entries seat (act_of_command command) (reply_to old.domain old.entries (act_of_command command)) }
Happens old new (Seal seat) = new ≡ record old { entries = with_entry old.entries seat Seals (reply_to old.domain old.entries Seals) }
Happens old new (Give bridge) = new ≡ record old { given = slice_set old.given bridge (cycle_of_bridge old bridge + 1) }
Happens old new (Step bridge) = new ≡ record old { sent = slice_set old.sent bridge (cycle_of_bridge old bridge + 1) }
Happens old new (Take link) = new ≡ record old { taken = slice_set old.taken link (taken_from old link + 1) }
Happens old new (Post bridge) = Posts old new bridge

-- the answer to an event. If the event isn't enabled, nothing is changed. If it is enabled, it happens, or an allocation fails, after which
-- no event is enabled
abbrev pub AnswersEvent : WorldState → WorldState → Event → Result Applied AllocError → Type 0
AnswersEvent old new event (Ok NotEnabled) = (¬ IsEnabled old event) × (new ≡ old)
AnswersEvent old new event (Ok Done) = IsEnabled old event × Happens old new event
AnswersEvent old new event (Err refused) = IsEnabled old event × (new ≡ record old { stopped = true })
