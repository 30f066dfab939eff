-- What was read so far.
use Rattle.std.proofs.Common.{◌≡◌, ◌≤◌, ◌+◌, ◌++◌, ◌∙◌, ℕ, List, [], Option, length, arith, sym}
use Rattle.std.proofs.Common.{ap, take, drop, length-take, subst}
use Rattle.std.proofs.Math.Seq.{take-add}
use Rattle.std.specs.Io.KnownBytes.{Consumes}
use Rattle.std.proofs.KnownBytes.{Consumes-nil, Consumes-trans}
use Rattle.std.proofs.lemmas.Grind.{common_steps}
use Rattle.std.proofs.lemmas.List.{append-nil}
use Rattle.cqf_program_engine.specs.Edge.{HasRead}

-- nothing was read
pub HasRead-nothing : (known : Option (List ℕ)) (old new : List ℕ) (most : ℕ) → new ≡ old → length old ≤ most → HasRead known known old new most
HasRead-nothing known old new most same few = record {
  given = [];
  taken = Consumes-nil known;
  kept = same ∙ sym (append-nil old);
  few = subst (λ (x : List ℕ). length x ≤ most) (sym same) few;
}

-- one read filled a part after the filled bytes; the beginning is as before
pub HasRead-filled : (before after : Option (List ℕ)) (value old made read bytes : List ℕ) (at count most : ℕ) → value ≡ take at old → at ≤ length old
    → take at made ≡ take at old → take at read ≡ take at made → Consumes before after (take count (drop at read)) → count ≤ most → bytes ≡ read
    → HasRead before after value (take (at + count) bytes) (length value + most)
HasRead-filled before after value old made read bytes at count most is inside kept front taken few same =
    let long : length value ≡ at = ap length is ∙ length-take at old ∙ grind (arith, common_steps) in
    record {
      given = take count (drop at read);
      taken = taken;
      kept = ap (take (at + count)) same ∙ take-add at count read ∙ ap (λ x. x ++ take count (drop at read)) (front ∙ kept ∙ sym is);
      few = omega (arith, length-take (at + count) bytes);
    }

-- the bytes of one more read follow those taken so far
pub Consumes-read : (before now after : Option (List ℕ)) (old new : List ℕ) (most : ℕ) → Consumes before now old → HasRead now after old new most
    → Consumes before after new
Consumes-read before now after old new most taken read =
    subst (λ (x : List ℕ). Consumes before after x) (sym read.kept) (Consumes-trans before now after old read.given taken read.taken)

-- from a reader that wasn't read, nothing was taken
pub Consumes-unread : (known : Option (List ℕ)) (bytes : List ℕ) → bytes ≡ [] → Consumes known known bytes
Consumes-unread known bytes none = subst (λ (x : List ℕ). Consumes known known x) (sym none) (Consumes-nil known)
