-- What a world keeps of its inputs, and what holds for every answer.
use Rattle.std.proofs.Common.{◌≡◌, ℕ, Bool, Err, List, Ok, OnErr, Result, ◌∙◌, refl}
use Rattle.cqf_model.specs.History.{IsLegalHistory, Recorded}
use Rattle.cqf_book.specs.Pages.{ArePosted, Posted}
use Rattle.cqf_world.specs.Parts.{IsGivenWorld}
use Rattle.cqf_world.specs.World.{WorldState}

-- a world's inputs, with another legal history and other pages of its bridges; they don't depend on the counts
pub given_as : (w : WorldState) (entries : List Recorded) (pages : Posted) (given sent taken : List ℕ) (stopped : Bool) → IsGivenWorld w →
    IsLegalHistory w.domain entries → pages.bridges ≡ w.pages.bridges → pages.cycles ≡ w.pages.cycles → ArePosted pages →
    IsGivenWorld (record w { entries = entries; pages = pages; given = given; sent = sent; taken = taken; stopped = stopped })
given_as w entries pages given sent taken stopped is legal bridges cycles in_order = record {
  accepted = is.accepted;
  legal = legal;
  offers = is.offers;
  background = is.background;
  few_cycles = is.few_cycles;
  of_bridges = bridges ∙ is.of_bridges;
  of_cycles = cycles ∙ is.of_cycles;
  in_order = in_order;
}

-- with only other counts
pub given_counts : (w : WorldState) (given sent taken : List ℕ) (stopped : Bool) → IsGivenWorld w →
    IsGivenWorld (record w { given = given; sent = sent; taken = taken; stopped = stopped })
given_counts w given sent taken stopped is = given_as w w.entries w.pages given sent taken stopped is is.legal refl refl is.in_order

-- with only another history
pub given_entries : (w : WorldState) (entries : List Recorded) → IsGivenWorld w → IsLegalHistory w.domain entries →
    IsGivenWorld (record w { entries = entries })
given_entries w entries is legal = given_as w entries w.pages w.given w.sent w.taken w.stopped is legal refl refl is.in_order

-- what holds in any case holds if an allocation failed
pub on_err : {T E P : Type 0} (r : Result T E) → P → OnErr r P
on_err (Ok x) p = tt
on_err (Err e) p = p
