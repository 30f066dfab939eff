-- Starts that are handed on one after the other.
use Rattle.std.proofs.Common.{◌≡◌, ◌+◌, ◌≤◌, ◌<◌, ℕ, List, [], ◌∷◌, ◌++◌, ◌∙◌, sym, ap, refl, arith, length, map, flat_map, drop, Option, None, Some}
use Rattle.std.proofs.Common.{get_or, append_assoc, append-nil, length-append}
use Rattle.std.proofs.Math.ListN.{drop_of_length-le}
use Rattle.std.proofs.lemmas.List.{drop_more, map-append}
use Rattle.cqf_model.specs.declared.frames.Sent.{Sent}
use Rattle.cqf_model.specs.declared.frames.Started.{Started}
use Rattle.cqf_model.specs.declared.ports.Arrival.{Arrival}
use Rattle.cqf_model.specs.declared.ports.Start.{Start}
use Rattle.cqf_model.specs.Book.{started_backed}
use Rattle.cqf_model.specs.Network.{QueuedFrame, backed_by, backed_of, sent_by, sent_of}
use Rattle.cqf_model.specs.Port.{Transmission}
use Rattle.cqf_bridge.specs.Batch.{LinkBatch}

-- the first starts are handed on
pub record HasHanded (frames : List QueuedFrame) (made : List Transmission) (count : ℕ)
    (before after : LinkBatch) (background background_after : List Started) : Type 0 where
  pub link : after.link ≡ before.link
  pub cycle : after.cycle ≡ before.cycle
  pub sent : after.frames ++ flat_map (sent_of frames) (drop count made) ≡ before.frames ++ flat_map (sent_of frames) made
  pub others : background_after ++ map (started_backed before.cycle before.link) (flat_map (backed_of frames) (drop count made))
      ≡ background ++ map (started_backed before.cycle before.link) (flat_map (backed_of frames) made)
  pub few : length after.frames + length (drop count made) ≤ length before.frames + length made

-- a start is at most one frame of the batch
one_at_most : (t : ℕ) (x : Arrival) (stream : Option ℕ) → length (sent_by t x stream) ≤ 1
one_at_most t x None = omega arith
one_at_most t x (Some s) = omega arith

module _ (frames : List QueuedFrame) (made : List Transmission) (before : LinkBatch) (background : List Started) where
  -- at first none is
  pub none_handed : HasHanded frames made 0 before before background background
  none_handed = record { link = refl; cycle = refl; sent = refl; others = refl; few = omega arith }

  -- the next is handed on, with its arrival and stream
  pub one_handed : (count : ℕ) (x e : Transmission) (arrival : Arrival) (stream : Option ℕ) (after more : LinkBatch) (following later : List Started) →
      HasHanded frames made count before after background following → count < length made → x ≡ get_or made count e →
      sent_of frames x ≡ sent_by x.1 arrival stream → backed_of frames x ≡ backed_by x.1 arrival stream →
      more ≡ record after { frames = after.frames ++ sent_by x.1 arrival stream } →
      later ≡ following ++ map (started_backed after.cycle after.link) (backed_by x.1 arrival stream) →
      HasHanded frames made (count + 1) before more background later
  one_handed count x e arrival stream after more following later h inside is_x are_sent are_backed is_more is_later =
      let rest = drop (count + 1) made in
      let sents = sent_by x.1 arrival stream in
      let backs = backed_by x.1 arrival stream in
      let first : drop count made ≡ x ∷ rest =
      drop_more made count e inside ∙ ap (λ (y : Transmission). y ∷ rest) (sym is_x) in
      let book = started_backed before.cycle before.link in
      let all_sent : flat_map (sent_of frames) (drop count made) ≡ sents ++ flat_map (sent_of frames) rest =
      ap (λ (xs : List Transmission). flat_map (sent_of frames) xs) first
      ∙ ap (λ (ys : List Sent). ys ++ flat_map (sent_of frames) rest) are_sent in
      let all_backed : flat_map (backed_of frames) (drop count made) ≡ backs ++ flat_map (backed_of frames) rest =
      ap (λ (xs : List Transmission). flat_map (backed_of frames) xs) first
      ∙ ap (λ (ys : List Start). ys ++ flat_map (backed_of frames) rest) are_backed in
      record {
        link = ap (λ (b : LinkBatch). b.link) is_more ∙ h.link;
        cycle = ap (λ (b : LinkBatch). b.cycle) is_more ∙ h.cycle;
        sent =
            ap (λ (b : LinkBatch). b.frames ++ flat_map (sent_of frames) rest) is_more
            ∙ append_assoc after.frames sents (flat_map (sent_of frames) rest)
            ∙ ap (λ (z : List Sent). after.frames ++ z) (sym all_sent) ∙ h.sent;
        others =
            ap (λ (z : List Started). z ++ map book (flat_map (backed_of frames) rest)) is_later
            ∙ (λ i. (following ++ map (started_backed (h.cycle i) (h.link i)) backs) ++ map book (flat_map (backed_of frames) rest))
            ∙ append_assoc following (map book backs) (map book (flat_map (backed_of frames) rest))
            ∙ ap (λ (z : List Started). following ++ z) (sym (map-append book backs (flat_map (backed_of frames) rest)))
            ∙ ap (λ (z : List Start). following ++ map book z) (sym all_backed) ∙ h.others;
        few = omega (
          arith,
          h.few,
          ap (λ (xs : List Transmission). length xs) first,
          ap (λ (b : LinkBatch). length b.frames) is_more,
          length-append after.frames sents,
          one_at_most x.1 arrival stream,
        );
      }

  -- in the end all are
  pub all_handed : (count : ℕ) (after : LinkBatch) (following : List Started) → HasHanded frames made count before after background following →
      length made ≤ count →
      (after ≡ record before { frames = before.frames ++ flat_map (sent_of frames) made })
      × (following ≡ background ++ map (started_backed before.cycle before.link) (flat_map (backed_of frames) made))
  all_handed count after following h past =
      let none : drop count made ≡ [] = drop_of_length-le made past in (
        (λ i. record {
          link = h.link i;
          cycle = h.cycle i;
          frames = (sym (append-nil after.frames) ∙ ap (λ (z : List Transmission). after.frames ++ flat_map (sent_of frames) z) (sym none) ∙ h.sent) i;
        }),
        sym (append-nil following)
            ∙ ap (λ (z : List Transmission). following ++ map (started_backed before.cycle before.link) (flat_map (backed_of frames) z)) (sym none) ∙ h.others,
      )
