-- A book's starts and drops are early enough to be written.
use Rattle.std.proofs.Common.{◌<◌, ◌^◌, List, All, map}
use Rattle.std.specs.List.Sorted.{IsPermutation}
use Rattle.std.proofs.lemmas.List.Elements.{All-append, All-filter, All-map}
use Rattle.std.proofs.lemmas.List.Sorted.{All-permutation}
use Rattle.cqf_lists.proofs.Members.{all_from_members}
use Rattle.cqf_model.specs.declared.frames.Dropped.{Dropped}
use Rattle.cqf_model.specs.declared.frames.Offer.{Offer}
use Rattle.cqf_model.specs.declared.frames.Started.{Started}
use Rattle.cqf_model.specs.Book.{Contents}
use Rattle.cqf_model.specs.Domain.{Domain}
use Rattle.cqf_laws_timing.specs.Latency.{whole_of}
use Rattle.cqf_program_summary.specs.declared.hops.legs.Leg.{Leg}
use Rattle.cqf_program_summary.specs.declared.hops.legs.Leg.TheVariants as leg
use Rattle.cqf_program_summary.specs.Hops.Gathered.{IsLegInTime}
use Rattle.cqf_program_summary.specs.Hops.Legs.{Wanted, frame_of, is_wanted, legs_of_book, wanted_legs}

-- so are all of them if the starts are
pub legs_in_time : (d : Domain) (offers : List Offer) (wanted : Wanted) (book : Contents) (legs : List Leg) → All (λ (s : Started). whole_of d s < 2 ^ 64) book.starts →
    IsPermutation (wanted_legs offers wanted book) legs → All (IsLegInTime d) legs
legs_in_time d offers wanted book legs early same =
    let InTime = IsLegInTime d in
    let all : All InTime (legs_of_book book) =
    All-append InTime (map leg.Started book.starts) (map leg.Dropped book.drops)
    (All-map InTime leg.Started book.starts early)
    (All-map InTime leg.Dropped book.drops (all_from_members (λ (x : Dropped). InTime (leg.Dropped x)) book.drops (λ x c. tt))) in
    All-permutation InTime (wanted_legs offers wanted book) legs same
    (All-filter (λ (x : Leg). is_wanted offers wanted (frame_of x)) InTime (legs_of_book book) all)
