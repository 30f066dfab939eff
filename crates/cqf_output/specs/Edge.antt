-- The effect of writes on a writer.
use Rattle.std.specs.Prelude.{ℕ, ◌≡◌, ◌++◌, List, [], Bool, false, Option}
use Rattle.std.specs.Io.KnownBytes.{Appends}
use Rattle.std.specs.declared.io.traits.Write as write
use Rattle.cqf_output.specs.declared.sinks.Sink as sink
use Rattle.cqf_output.specs.declared.checked.CheckedSink.{CheckedSink}

-- the effect on a writer: the bytes known to be in it before and after, and whether it refused any
pub record Writing : Type 0 where
  pub before : Option (List ℕ)
  pub after : Option (List ℕ)
  pub refused : Bool

-- the effect on a writer, from its states before and after
abbrev pub writing : {W : Type 0} {s : sink.Ghosts W} {w : write.Ghosts W} → (W → Option (List ℕ)) → CheckedSink W s w → CheckedSink W s w → Writing
writing contents old new = record {
  before = contents old.writer;
  after = contents new.writer;
  refused = new.refused;
}

-- a beginning of the text was appended, and all of the text if the writer refused nothing. If the bytes before aren't known, nothing is
-- claimed of the writer
pub record IsWritten (output : Writing) (text : List ℕ) : Type 0 where
  pub front : List ℕ
  pub following : List ℕ
  pub cut : text ≡ front ++ following
  pub written : Appends output.before output.after front
  pub all : output.refused ≡ false → following ≡ []

-- the effect on a writer, since it had the given known bytes
abbrev pub since : {W : Type 0} {s : sink.Ghosts W} {w : write.Ghosts W} → (W → Option (List ℕ)) → Option (List ℕ) → CheckedSink W s w → Writing
since contents before checked = record { before = before; after = contents checked.writer; refused = checked.refused }

-- if any earlier text was written to the writer, then that text followed by this one has been written since
abbrev pub WritesOn : {W : Type 0} {s : sink.Ghosts W} {w : write.Ghosts W} → (W → Option (List ℕ)) → CheckedSink W s w → CheckedSink W s w → List ℕ → Type 0
WritesOn contents old new text =
    (before : Option (List ℕ)) (checked : List ℕ) → IsWritten (since contents before old) checked → IsWritten (since contents before new) (checked ++ text)

-- a text that was written to the writer before is still what was written to it
abbrev pub KeepsWritten : {W : Type 0} {s : sink.Ghosts W} {w : write.Ghosts W} → (W → Option (List ℕ)) → CheckedSink W s w → CheckedSink W s w → Type 0
KeepsWritten contents old new =
    (before : Option (List ℕ)) (checked : List ℕ) → IsWritten (since contents before old) checked → IsWritten (since contents before new) checked
