-- The program's edge: what was read from a reader.
use Rattle.std.specs.Prelude.{ℕ, ◌≡◌, ◌≤◌, ◌+◌, ◌-◌, ◌&&◌, ◌∷◌, ◌++◌, List, [], Bool, true, false, Option, ⊤, drop, if◌then◌else◌, length, nat_le, take}
use Rattle.std.specs.Io.KnownBytes.{Consumes}
use Rattle.std.specs.declared.io.ErrorKind.{ErrorKind}
use Rattle.std.specs.declared.io.traits.Read as read
use Rattle.cqf_output.specs.Kinds.{SomeKind}
use Rattle.cqf_program_engine.specs.declared.heard.ReadFailure.{ReadFailure}
use Rattle.cqf_program_engine.specs.declared.heard.ReadFailure.TheVariants.{Memory, Fault}
use Rattle.cqf_program_engine.specs.declared.heard.Heard.{Heard}
use Rattle.cqf_program_engine.specs.declared.sources.Source as source

-- reads returned bytes, which were appended to the earlier ones; there are at most `most` in all
pub record HasRead (before after : Option (List ℕ)) (old new : List ℕ) (most : ℕ) : Type 0 where
  pub given : List ℕ
  pub taken : Consumes before after given
  pub kept : new ≡ old ++ given
  pub few : length new ≤ most

-- whether a read has failed, after a read that ended early
abbrev pub Marks : Bool → Bool → ReadFailure → Type 0
Marks old new Memory = new ≡ old
Marks old new Fault = new ≡ true

-- what may end a read early: lack of memory, or a failure of a reader that may fail with these kinds of error
abbrev pub MayBreak : (ErrorKind → Type 0) → ReadFailure → Type 0
MayBreak fails Memory = ⊤
MayBreak fails Fault = SomeKind fails

-- a reader's use: the bytes that it is known to have before and after, those that were read, and whether a read failed
pub record Reading : Type 0 where
  pub before : Option (List ℕ)
  pub after : Option (List ℕ)
  pub bytes : List ℕ
  pub failed : Bool

-- the use of a reader between two states
abbrev pub reading : {R : Type 0} {s : source.Ghosts R} {r : read.Ghosts R} → (R → Option (List ℕ)) → Heard R s r → Heard R s r → Reading
reading remaining old new = record {
  before = remaining old.reader;
  after = remaining new.reader;
  bytes = new.bytes;
  failed = new.failed;
}

-- no read of it was tried yet, as far as it is remembered
pub record IsUnheard {R : Type 0} {s : source.Ghosts R} {r : read.Ghosts R} (heard : Heard R s r) : Type 0 where
  pub nothing : heard.bytes ≡ []
  pub sound : heard.failed ≡ false

-- exactly these bytes were taken from the reader, at most one more than `most`
pub record IsHeard (most : ℕ) (input : Reading) : Type 0 where
  pub taken : Consumes input.before input.after input.bytes
  pub few : length input.bytes ≤ most + 1

-- the bytes from one index up to another; none if there are no such indexes
abbrev pub piece_of : List ℕ → ℕ → ℕ → List ℕ
piece_of bytes start end = if nat_le start end && nat_le end (length bytes) then take (end - start) (drop start bytes) else []

-- the bytes up to each of the indexes, one piece after the other
abbrev pub pieces_of : List ℕ → ℕ → List ℕ → List (List ℕ)
pieces_of bytes start [] = []
pieces_of bytes start (end ∷ ends) = piece_of bytes start end ∷ pieces_of bytes end ends
