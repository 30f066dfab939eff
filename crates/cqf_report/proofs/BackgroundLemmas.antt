-- Properties of every background frame that is read.
use Rattle.std.proofs.Common.{◌≡◌, ◌≤◌, ◌<◌, ℕ, List, [], ◌∷◌, Option, Some, None, Ok, length, refl, subst, arith}
use Rattle.cqf_model.proofs.Links.{link_inside}
use Rattle.cqf_model.specs.declared.frames.Background.{Background}
use Rattle.cqf_model.specs.Domain.{Domain}
use Rattle.cqf_model.specs.Run.{AreBackground, IsBackground}
use Rattle.cqf_model.specs.Limits.{rows_within}
use Rattle.cqf_report.specs.Records.{Fields, records_of}
use Rattle.cqf_report.specs.Table.{in_five}
use Rattle.cqf_report.specs.BackgroundFrames.{background_header, background_instant, background_of_table}
use Rattle.cqf_report.specs.BackgroundFrames.{background_with, background_frames_of, link_named, node_in}
use Rattle.cqf_report.proofs.ReadTables.{decimal_in-range, rows_under-few, table-each}
use Rattle.cqf_text.specs.Decimal.{decimal_in}

-- a frame that five fields write may be given to a run
frame-with : (d : Domain) (at link class octets : Option ℕ) (frame : Background)
    → ((n : ℕ) → at ≡ Some n → n ≤ 999999999999) → ((n : ℕ) → link ≡ Some n → n < length d.links) → ((n : ℕ) → class ≡ Some n → n ≤ 5)
    → ((n : ℕ) → octets ≡ Some n → (64 ≤ n) × (n ≤ 1522)) → background_with at link class octets ≡ Some frame → IsBackground d frame
frame-with d None link class octets frame early inside classed sized e = cc
frame-with d (Some at) None class octets frame early inside classed sized e = cc
frame-with d (Some at) (Some link) None octets frame early inside classed sized e = cc
frame-with d (Some at) (Some link) (Some class) None frame early inside classed sized e = cc
frame-with d (Some at) (Some link) (Some class) (Some octets) frame early inside classed sized e =
    let made : Background = record { at = record { 0 = at }; link = link; class = class; octets = octets } in
    let same : made ≡ frame = cc in
    subst (IsBackground d) same (record {
      on_link = inside link refl;
      class_most = classed class refl;
      least = (sized octets refl).0;
      most = (sized octets refl).1;
      early = omega (arith, early at refl);
    })

-- so may a frame that is read from texts
frame-five : (d : Domain) (at from to class octets : List ℕ) (frame : Background) → background_of_table d at from to class octets ≡ Some frame
    → IsBackground d frame
frame-five d at from to class octets frame e =
    frame-with d (decimal_in 0 999999999999 at) (link_named d from to) (decimal_in 0 5 class) (decimal_in 64 1522 octets) frame
    (λ n is. (decimal_in-range 0 999999999999 at n is).1) (λ n is. link_inside d (node_in d from) (node_in d to) n is)
    (λ n is. (decimal_in-range 0 5 class n is).1) (λ n is. decimal_in-range 64 1522 octets n is) e

-- or from a record
frame-row : (d : Domain) (fields : Fields) (frame : Background) → in_five (background_of_table d) fields ≡ Some frame → IsBackground d frame
frame-row d [] frame e = cc
frame-row d (a ∷ []) frame e = cc
frame-row d (a ∷ b ∷ []) frame e = cc
frame-row d (a ∷ b ∷ c ∷ []) frame e = cc
frame-row d (a ∷ b ∷ c ∷ x ∷ []) frame e = cc
frame-row d (at ∷ from ∷ to ∷ class ∷ octets ∷ []) frame e = frame-five d at from to class octets frame e
frame-row d (a ∷ b ∷ c ∷ x ∷ y ∷ z ∷ fields) frame e = cc

-- each background frame of a text may be given to a run
pub frames-good : (d : Domain) (text : List ℕ) (frames : List Background) → background_frames_of d text ≡ Ok frames → AreBackground d frames
frames-good d text frames e =
    table-each (IsBackground d) (rows_within d.limits) (in_five (background_of_table d)) background_instant (λ fields frame is. frame-row d fields frame is) background_header
    (records_of text) frames e

-- there are at most as many as the domain's limits allow
pub frames-few : (d : Domain) (text : List ℕ) (frames : List Background) → background_frames_of d text ≡ Ok frames → length frames ≤ rows_within d.limits
frames-few d text frames e = rows_under-few (rows_within d.limits) background_header (in_five (background_of_table d)) background_instant (records_of text) frames e
