-- Columns of equal length, side by side.
use Rattle.std.proofs.Common.{◌≡◌, ◌<◌, ◌+◌, ◌^◌, ℕ, List, [], ◌∷◌, ◌++◌, ◌∙◌, sym, ap, refl, arith, length, map, Some, sum, sum_by}
use Rattle.std.specs.Prelude.{option_map, slice_get}
use Rattle.std.specs.List.{zip}
use Rattle.std.proofs.lemmas.List.{length-append, length-map, map-append}
use Rattle.std.proofs.lemmas.List.Sums.{sum-map}
use Rattle.std.proofs.lemmas.Option.{get_or_from_slice_get, slice_get-get_or, slice_get-map, slice_get_within}
use Rattle.std.proofs.lemmas.Simd.{map-map}
use Rattle.std.proofs.lemmas.Slice.Zip.{get_or-zip, length-zip, seconds-zip}
use Rattle.cqf_units.specs.declared.timing.Nanos.{Nanos}
use Rattle.cqf_model.specs.declared.frames.Sent.{Sent}
use Rattle.cqf_bridge.specs.Batch.{AreColumns, sent_across, sents_across}

-- two equally long columns with one more element each
pub zip_more : {A B : Type 0} (xs : List A) (ys : List B) (x : A) (y : B) → length ys ≡ length xs → zip (xs ++ x ∷ []) (ys ++ y ∷ []) ≡ zip xs ys ++ (x, y) ∷ []
zip_more [] [] x y even = refl
zip_more [] (b ∷ ys) x y even = absurd (omega (arith, even))
zip_more (a ∷ xs) [] x y even = absurd (omega (arith, even))
zip_more {A} {B} (a ∷ xs) (b ∷ ys) x y even = ap (λ (zs : List (A × B)). (a, b) ∷ zs) (zip_more xs ys x y (omega (arith, even)))

-- their length together
pub zip_even : {A B : Type 0} (xs : List A) (ys : List B) → length ys ≡ length xs → length (zip xs ys) ≡ length xs
zip_even xs ys even = length-zip xs ys ∙ omega (arith, even)

-- the elements of two columns at an index
pub get_zip : {A B : Type 0} (xs : List A) (ys : List B) (index : ℕ) (x : A) (y : B) → slice_get xs index ≡ Some x → slice_get ys index ≡ Some y →
    slice_get (zip xs ys) index ≡ Some (x, y)
get_zip {A} {B} xs ys index x y here beside =
    let a = slice_get_within xs index x here in
    let b = slice_get_within ys index y beside in
    slice_get-get_or (zip xs ys) index (x, y) (omega (arith, a, b, length-zip xs ys))
    ∙ ap Some (get_or-zip xs ys index (x, y) a b
    ∙ λ i. (get_or_from_slice_get xs index x x here i, get_or_from_slice_get ys index y y beside i))

module _ (starts : List Nanos) (frames streams octets : List ℕ) (even : AreColumns starts frames streams octets) where
  ends_even : length (zip streams octets) ≡ length starts
  ends_even = zip_even streams octets (even.octets_beside ∙ sym even.streams_beside) ∙ even.streams_beside

  rest_even : length (zip frames (zip streams octets)) ≡ length starts
  rest_even = zip_even frames (zip streams octets) (ends_even ∙ sym even.frames_beside) ∙ even.frames_beside

  all_even : length (zip starts (zip frames (zip streams octets))) ≡ length starts
  all_even = zip_even starts (zip frames (zip streams octets)) rest_even

  -- there are as many frames as starts
  pub length_across : length (sents_across starts frames streams octets) ≡ length starts
  length_across = length-map (zip starts (zip frames (zip streams octets))) sent_across ∙ all_even

  -- the column of octets is that of the frames
  pub octets_across : map (λ (sent : Sent). sent.octets) (sents_across starts frames streams octets) ≡ octets
  octets_across =
      let rest = zip frames (zip streams octets) in
      map-map (λ (sent : Sent). sent.octets) sent_across (zip starts rest)
      ∙ (sym (map-map (λ (x : ℕ × (ℕ × ℕ)). x.1.1) (λ (x : Nanos × (ℕ × (ℕ × ℕ))). x.1) (zip starts rest)))
      ∙ ap (map (λ (x : ℕ × (ℕ × ℕ)). x.1.1)) (seconds-zip starts rest rest_even)
      ∙ (sym (map-map (λ (x : ℕ × ℕ). x.1) (λ (x : ℕ × (ℕ × ℕ)). x.1) rest))
      ∙ ap (map (λ (x : ℕ × ℕ). x.1)) (seconds-zip frames (zip streams octets) (ends_even ∙ sym even.frames_beside))
      ∙ seconds-zip streams octets (even.octets_beside ∙ sym even.streams_beside)

  -- so the sum over the column is that of the frames
  pub sum_across : sum octets ≡ sum_by (λ (sent : Sent). sent.octets) (sents_across starts frames streams octets)
  sum_across = ap sum (sym octets_across) ∙ sum-map (λ (sent : Sent). sent.octets) (sents_across starts frames streams octets)

  -- one more frame, in each column
  pub across_more : (sent : Sent) →
      sents_across (starts ++ sent.start ∷ []) (frames ++ sent.frame ∷ []) (streams ++ sent.stream ∷ []) (octets ++ sent.octets ∷ [])
      ≡ sents_across starts frames streams octets ++ sent ∷ []
  across_more sent =
      let last = zip_more streams octets sent.stream sent.octets (even.octets_beside ∙ sym even.streams_beside) in
      let rest = zip_more frames (zip streams octets) sent.frame (sent.stream, sent.octets) (ends_even ∙ sym even.frames_beside) in
      let whole = zip_more starts (zip frames (zip streams octets)) sent.start (sent.frame, (sent.stream, sent.octets)) rest_even in
      ap (λ (x : List (ℕ × ℕ)). map sent_across (zip (starts ++ sent.start ∷ []) (zip (frames ++ sent.frame ∷ []) x))) last
      ∙ ap (λ (x : List (ℕ × (ℕ × ℕ))). map sent_across (zip (starts ++ sent.start ∷ []) x)) rest
      ∙ ap (map sent_across) whole
      ∙ map-append sent_across (zip starts (zip frames (zip streams octets))) ((sent.start, (sent.frame, (sent.stream, sent.octets))) ∷ [])

  -- the frame at an index consists of the elements there of all columns
  pub across_at : (index : ℕ) (sent : Sent) → slice_get starts index ≡ Some sent.start → slice_get frames index ≡ Some sent.frame →
      slice_get streams index ≡ Some sent.stream → slice_get octets index ≡ Some sent.octets →
      slice_get (sents_across starts frames streams octets) index ≡ Some sent
  across_at index sent start frame stream size =
      slice_get-map sent_across (zip starts (zip frames (zip streams octets))) index
      ∙ ap (option_map sent_across) (get_zip starts (zip frames (zip streams octets)) index sent.start _ start
      (get_zip frames (zip streams octets) index sent.frame _ frame (get_zip streams octets index sent.stream sent.octets stream size)))

  module _ (sent : Sent) (starts_after : List Nanos) (frames_after streams_after octets_after : List ℕ)
      (start : starts_after ≡ starts ++ sent.start ∷ []) (frame : frames_after ≡ frames ++ sent.frame ∷ [])
      (stream : streams_after ≡ streams ++ sent.stream ∷ []) (size : octets_after ≡ octets ++ sent.octets ∷ []) where
    -- columns with one more frame
    pub columns_pushed : length starts + 1 < 2 ^ 32 → AreColumns starts_after frames_after streams_after octets_after
    columns_pushed few =
        let more = length-append starts (sent.start ∷ []) in
        let long = ap (λ (xs : List Nanos). length xs) start in
        record {
          frames_beside = omega (arith, more, long, even.frames_beside, length-append frames (sent.frame ∷ []), ap (λ (xs : List ℕ). length xs) frame);
          streams_beside = omega (arith, more, long, even.streams_beside, length-append streams (sent.stream ∷ []), ap (λ (xs : List ℕ). length xs) stream);
          octets_beside = omega (arith, more, long, even.octets_beside, length-append octets (sent.octets ∷ []), ap (λ (xs : List ℕ). length xs) size);
          few = omega (arith, more, long, few);
        }

    -- have its frames, and this one
    pub across_pushed : sents_across starts_after frames_after streams_after octets_after ≡ sents_across starts frames streams octets ++ sent ∷ []
    across_pushed =
        (λ i. sents_across (start i) (frame i) (stream i) (size i)) ∙ across_more sent
