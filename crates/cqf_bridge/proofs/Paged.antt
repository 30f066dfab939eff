-- A batch's frames are listed one by one.
use Rattle.std.proofs.Common.{◌≡◌, ℕ, ◌+◌, ◌++◌, take, List, map, sym, ap, ◌∙◌, append_assoc}
use Rattle.std.specs.Prelude.{◌∷◌, [], Some, slice_get}
use Rattle.std.proofs.lemmas.List.{map-append, take_more}
use Rattle.std.proofs.lemmas.Option.{get_or_from_slice_get, slice_get_within}
use Rattle.cqf_model.specs.declared.frames.Sent.{Sent}

-- the results for a batch's frames, and for one more
pub batch_more : {Y : Type 0} (f : Sent → Y) (index : ℕ) (frames : List Sent) (sent : Sent) (front list after : List Y) → slice_get frames index ≡ Some sent →
    list ≡ front ++ map f (take index frames) → after ≡ list ++ f sent ∷ [] → after ≡ front ++ map f (take (index + 1) frames)
batch_more {Y} f index frames sent front list after there so pushed =
    let more : take (index + 1) frames ≡ take index frames ++ sent ∷ [] =
    take_more frames index sent (slice_get_within frames index sent there)
    ∙ ap (λ (x : Sent). take index frames ++ x ∷ []) (get_or_from_slice_get frames index sent sent there) in
    pushed
    ∙ ap (λ (xs : List Y). xs ++ f sent ∷ []) so
    ∙ append_assoc front (map f (take index frames)) (f sent ∷ [])
    ∙ ap (λ (xs : List Y). front ++ xs) (sym (map-append f (take index frames) (sent ∷ [])))
    ∙ ap (λ (xs : List Sent). front ++ map f xs) (sym more)
