-- The effect of putting text on a writer.
use Rattle.std.specs.Prelude.{ℕ, ◌≡◌, ◌++◌, List, [], Option}
use Rattle.std.specs.declared.io.traits.Write as write
use Rattle.cqf_output.specs.Edge.{IsWritten, since}
use Rattle.cqf_output.specs.declared.writer.Writer.{Writer}
use Rattle.cqf_output.specs.declared.sinks.Sink as sink
use Rattle.cqf_output.specs.declared.checked.CheckedSink.{CheckedSink}

-- since its writer had these bytes, the buffered writer was given this text: it wrote the first part, and the rest is on the buffer
pub record HasWritten {W : Type 0} {s : sink.Ghosts W} {w : write.Ghosts W}
    (contents : W → Option (List ℕ)) (before : Option (List ℕ)) (writer : Writer W s w) (text : List ℕ) : Type 0 where
  pub part : List ℕ
  pub is_written : IsWritten (since contents before writer.checked.now) part
  pub cut : text ≡ part ++ writer.buffer

-- a writer on this writer, with an empty buffer
pub record Opens {W : Type 0} {s : sink.Ghosts W} {w : write.Ghosts W} (checked : CheckedSink W s w) (writer : Writer W s w) : Type 0 where
  pub now : writer.checked.now ≡ checked
  pub empty : writer.buffer ≡ []

-- the buffered writer has been given this text after any text that it was given before, and it writes to the same writer
pub record Puts {W : Type 0} {s : sink.Ghosts W} {w : write.Ghosts W}
    (contents : W → Option (List ℕ)) (old new : Writer W s w) (text : List ℕ) : Type 0 where
  pub same : new.checked.ghost_name ≡ old.checked.ghost_name
  pub following : (before : Option (List ℕ)) (given : List ℕ) → HasWritten contents before old given → HasWritten contents before new (given ++ text)

-- any text that the buffered writer was given has been written to the writer, as `IsWritten` says
abbrev pub ClosesBuffer : {W : Type 0} {s : sink.Ghosts W} {w : write.Ghosts W} → (W → Option (List ℕ)) → Writer W s w → CheckedSink W s w → Type 0
ClosesBuffer contents old checked = (before : Option (List ℕ)) (text : List ℕ) → HasWritten contents before old text → IsWritten (since contents before checked) text
