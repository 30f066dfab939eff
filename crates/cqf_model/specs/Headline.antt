-- The headline: what is promised of a run's history and book, given what was requested of those who called. To check it, a reader needs
-- this crate and, below it, only the definitions about lists, names and the time of octets on the wire (`cqf_lists/specs/Lists.antt`,
-- `cqf_units/specs/Name.antt` and `Timing.antt`).
--
-- `conduct` of `cqf_worker` promises it for each run that meets that function's requirements: an accepted domain (`IsAccepted`), a legal
-- opening part without a Seal, offers and background frames of that domain (`AreOffers`, `AreBackground`), and at most `most_offers` of each
-- and `most_cycles` cycles. An administrator requests only streams and withdrawals. Laws of `cqf_laws_network` say that a run has only one
-- network and one book, and that the book of a longer run begins with that of a shorter one (`legal_network_is_unique`, `book_is_unique`,
-- `shorter_book_is_the_beginning`). The definitions, in the order in which to read them:
-- - `Limits`: how many there may be of each thing
-- - `Domain`: bridges, stations and links, and which domains are accepted (`IsAccepted`)
-- - `Run`: the input of a run: tables, offers and background frames (`Run`, `IsOffer`, `IsBackground`)
-- - `Table`: a stream's row with its tree, whose hop numbers frames follow, and what the stream costs on a link (`is_live`, `is_held`,
--   `link_cost`)
-- - `Paces`: the cycles in which a stream's frames are at a hop number (`is_active`)
-- - `History`: calls, the answer that is due to each, and the table of each cycle (`reply_to`, `IsLegalHistory`, `tables_of`); the row of a
--   stream, whose tree has each branch's k-th link at hop number k (`stream_by`, `tree_of`, and `NotATree`, which refuses other requests)
-- - `Calls`: the history of what was requested at each seat (`acts_of`, `calls_by`, `IsHistoryOf`)
-- - `GateList`, `Port`: the starts that a port's gates demand (`port_list`, `AreLegal`)
-- - `StreamGate`, `Policing`: what arrives at a bridge, and what becomes of it there (`gate_passes`, `verdict_by`, `policed_before`)
-- - `Network`: all ports at once (`IsLegalNetwork`, `compiled_lists`), and what is lost inside (`LosesNothing`)
-- - `Book`, `HistoryBook`: the contents of a network's book (`IsBook`, `IsOneThreadBook`), and the run of a history (`run_of_history`)
-- - `Shift`: which offers are covered, and which frame leaves on which link in which cycle (`IsCovered`, `InShift`)
-- - `Due`: when a frame is due at a port (`due`)
-- - `Promise`: what a network and a book say about the shift (`MeansTheShift`, `SaysTheShift`)
-- In addition, `Loose` defines networks whose clocks differ and whose delays vary (`IsLooseNetwork`), the subject of `cqf_laws_loose`.
use Rattle.std.specs.Prelude.{ℕ, ◌≤◌, List, length}
use Rattle.cqf_model.specs.declared.frames.Background.{Background}
use Rattle.cqf_model.specs.declared.frames.Offer.{Offer}
use Rattle.cqf_model.specs.Book.{Contents, IsOneThreadBook}
use Rattle.cqf_model.specs.Calls.{IsHistoryOf}
use Rattle.cqf_model.specs.Domain.{Domain}
use Rattle.cqf_model.specs.History.{Act, Recorded, seals}
use Rattle.cqf_model.specs.HistoryBook.{run_of_history}
use Rattle.cqf_model.specs.Network.{LosesNothing}
use Rattle.cqf_model.specs.Promise.{MeansTheShift, SaysTheShift}
use Rattle.cqf_model.specs.Run.{Run}

-- the book of a run keeps the promise. It is the book of one network, `is_book.net`, that sends exactly what the compiled gate lists
-- demand: the book's starts, background frames and drops are that network's. That network loses nothing inside, and it carries what the
-- shift says: the frames on each link in each cycle are within what the streams held in it cost, each frame starts at its exact instant, is
-- whole in the next node within its cycle, and meets its latency bounds. The book says what the shift says
pub record KeepsThePromise (run : Run) (book : Contents) : Type 0 where
  pub is_book : IsOneThreadBook run book
  pub loses_nothing : LosesNothing run (length run.tables) is_book.net
  pub means : MeansTheShift run is_book.net.carried
  pub says : SaysTheShift run book

-- what is promised of a run of `cycles` cycles, of its entries and its book, regardless of what was requested of each administrator while
-- the bridges ran, of what was offered, and of how the bridges took turns:
-- - The history is legal. It begins with the opening part; after that, each administrator's entries are what was requested of it, all of it
--   and in order, the next seat's entries are one Seal for each cycle, and there are no others.
-- - All of the run's cycles are sealed, and the book is the one-thread book of that history: it has exactly the transmissions that the
--   compiled gate lists demand.
-- - On each branch of its stream's tree, each frame that its reservation covers leaves the k-th bridge k cycles after its own cycle, once,
--   if that is within the run. Every other frame offered in the run is dropped at its edge, once, with its reason. None is dropped inside.
pub record IsAccountOf (d : Domain) (opening : List Recorded) (offers : List Offer) (background : List Background) (cycles : ℕ)
    (asked : List (List Act)) (entries : List Recorded) (book : Contents) : Type 0 where
  pub history : IsHistoryOf d opening asked cycles entries
  pub sealed : cycles ≤ seals entries
  pub keeps : KeepsThePromise (run_of_history d entries offers background cycles) book
