-- Text written in parts, and what a writer was given.
use Rattle.std.proofs.Common.{◌≡◌, ◌++◌, ◌∙◌, ℕ, List, [], Bool, true, false, Option, Some, Result, Ok, Err, IfOk, Vec, Global, refl, sym, ap, append_assoc, subst}
use Rattle.std.proofs.KnownBytes.{Appends-nil, Appends-trans}
use Rattle.std.proofs.lemmas.List.{append-nil}
use Rattle.std.specs.declared.io.traits.Write as write
use Rattle.cqf_output.specs.declared.writer.Writer.{Writer}
use Rattle.cqf_output.specs.declared.sinks.Sink as sink
use Rattle.cqf_output.specs.declared.checked.CheckedSink.{CheckedSink}
use Rattle.cqf_output.specs.Edge.{IsWritten, Writing, WritesOn, since, writing}
use Rattle.cqf_output.specs.Writer.{ClosesBuffer, HasWritten, Opens, Puts}
use Rattle.cqf_output.proofs.EdgeLemmas.{Appends-whole}

-- two writes in a row are one of both texts, if the first wasn't refused
pub IsWritten-joined : (before now after : Option (List ℕ)) (first refused : Bool) (a b : List ℕ) → first ≡ false
    → IsWritten (record { before = before; after = now; refused = first }) a → IsWritten (record { before = now; after = after; refused = refused }) b
    → IsWritten (record { before = before; after = after; refused = refused }) (a ++ b)
IsWritten-joined before now after first refused a b accepted one two = record {
  front = a ++ two.front;
  following = two.following;
  cut = ap (λ x. a ++ x) two.cut ∙ sym (append_assoc a two.front two.following);
  written = Appends-trans before now after a two.front (Appends-whole _ a one accepted) two.written;
  all = two.all;
}

-- after a refusal, what was written is a front of the text, regardless of what follows
pub IsWritten-refused : (output : Writing) (a b : List ℕ) → output.refused ≡ true → IsWritten output a → IsWritten output (a ++ b)
IsWritten-refused output a b refused one = record {
  front = one.front;
  following = one.following ++ b;
  cut = ap (λ x. x ++ b) one.cut ∙ append_assoc one.front one.following b;
  written = one.written;
  all = λ accepted. cc;
}

-- an empty text was written by doing nothing
pub IsWritten-nothing : (known : Option (List ℕ)) (refused : Bool) → IsWritten (record { before = known; after = known; refused = refused }) []
IsWritten-nothing known refused = record { front = []; following = []; cut = refl; written = Appends-nil known; all = λ _. refl }

module _ {W : Type 0} {s : sink.Ghosts W} {w : write.Ghosts W} (contents : W → Option (List ℕ)) where
  -- nothing was put
  pub Puts-nil : (writer : Writer W s w) → Puts contents writer writer []
  Puts-nil writer = record {
    same = refl;
    following = λ before given has. subst (λ (x : List ℕ). HasWritten contents before writer x) (sym (append-nil given)) has;
  }

  -- two texts were put in a row
  pub Puts-trans : (old mid new : Writer W s w) (a b : List ℕ) → Puts contents old mid a → Puts contents mid new b → Puts contents old new (a ++ b)
  Puts-trans old mid new a b one two = record {
    same = two.same ∙ one.same;
    following = λ before given has. subst (λ (x : List ℕ). HasWritten contents before new x) (append_assoc given a b)
        (two.following before (given ++ a) (one.following before given has));
  }

  -- the same text in another form
  pub Puts-of : (old new : Writer W s w) (a b : List ℕ) → a ≡ b → Puts contents old new a → Puts contents old new b
  Puts-of old new a b same puts = subst (λ (x : List ℕ). Puts contents old new x) same puts

  -- bytes were put on the buffer
  pub Puts-on_buffer : (old new : Writer W s w) (bytes : List ℕ) → new.checked ≡ old.checked → new.buffer ≡ old.buffer ++ bytes
      → Puts contents old new bytes
  Puts-on_buffer old new bytes checked put = record {
    same = ap (λ t. t.ghost_name) checked;
    following = λ before given has. record {
      part = has.part;
      is_written = subst (λ t. IsWritten (since contents before t.now) has.part) (sym checked) has.is_written;
      cut = ap (λ x. x ++ bytes) has.cut ∙ append_assoc has.part old.buffer bytes ∙ ap (λ x. has.part ++ x) (sym put);
    };
  }

  -- the buffer was written after what was written before
  pub Puts-turned : (old new : Writer W s w) (buffer : List ℕ) → new.checked.ghost_name ≡ old.checked.ghost_name → buffer ≡ old.buffer
      → WritesOn contents old.checked.now new.checked.now buffer → new.buffer ≡ [] → Puts contents old new []
  Puts-turned old new buffer same is on empty = record {
    same = same;
    following = λ before given has. record {
      part = has.part ++ buffer;
      is_written = on before has.part has.is_written;
      cut = append-nil given ∙ has.cut ∙ ap (λ x. has.part ++ x) (sym is) ∙ sym (append-nil (has.part ++ buffer))
          ∙ ap (λ x. (has.part ++ buffer) ++ x) (sym empty);
    };
  }

  -- bytes were written directly, with an empty buffer
  pub Puts-past : (old new : Writer W s w) (bytes : List ℕ) → new.checked.ghost_name ≡ old.checked.ghost_name → old.buffer ≡ [] → new.buffer ≡ old.buffer
      → WritesOn contents old.checked.now new.checked.now bytes → Puts contents old new bytes
  Puts-past old new bytes same empty kept on = record {
    same = same;
    following = λ before given has.
        let part : given ≡ has.part = has.cut ∙ ap (λ x. has.part ++ x) empty ∙ append-nil has.part in
        record {
          part = has.part ++ bytes;
          is_written = on before has.part has.is_written;
          cut = ap (λ x. x ++ bytes) part ∙ sym (append-nil (has.part ++ bytes)) ∙ ap (λ x. (has.part ++ bytes) ++ x) (sym (kept ∙ empty));
        };
  }

  -- the rest of the text on the buffer was written
  pub Closes-checked : (old : Writer W s w) (checked : CheckedSink W s w) (buffer : List ℕ) → buffer ≡ old.buffer → WritesOn contents old.checked.now checked buffer
      → ClosesBuffer contents old checked
  Closes-checked old checked buffer is on = λ before text has.
      subst (λ (x : List ℕ). IsWritten (since contents before checked) x) (sym (has.cut ∙ ap (λ x. has.part ++ x) (sym is))) (on before has.part has.is_written)

  -- a text that was put between opening and closing was written
  pub IsWritten-written : (old : CheckedSink W s w) (first last : Writer W s w) (new : CheckedSink W s w) (text : List ℕ) → Opens old first → Puts contents first last text
      → ClosesBuffer contents last new → IsWritten (writing contents old new) text
  IsWritten-written old first last new text opens puts closes =
      let start : HasWritten contents (contents old.writer) first [] = record {
        part = [];
        is_written = subst (λ t. IsWritten (since contents (contents old.writer) t) []) (sym opens.now) (IsWritten-nothing (contents old.writer) old.refused);
        cut = sym opens.empty;
      } in
      closes (contents old.writer) text (puts.following (contents old.writer) [] start)

-- two texts were put in a row, in the form that answers use
pub Puts-then : {W : Type 0} {s : sink.Ghosts W} {w : write.Ghosts W} {contents : W → Option (List ℕ)}
    {old mid new : Writer W s w} (a b : List ℕ) → Puts contents old mid a → Puts contents mid new b
    → Puts contents old new (a ++ b)
Puts-then {contents = contents} {old = old} {mid = mid} {new = new} a b one two = Puts-trans contents old mid new a b one two

-- nothing was put, in any form of the empty text
pub Puts-nothing : {W : Type 0} {s : sink.Ghosts W} {w : write.Ghosts W} {contents : W → Option (List ℕ)}
    {writer : Writer W s w} (text : List ℕ) → text ≡ [] → Puts contents writer writer text
Puts-nothing {contents = contents} {writer = writer} text none = Puts-of contents writer writer [] text (sym none) (Puts-nil contents writer)

-- a text was put, in another form
pub Puts-as : {W : Type 0} {s : sink.Ghosts W} {w : write.Ghosts W} {contents : W → Option (List ℕ)}
    {old new : Writer W s w} (a b : List ℕ) → a ≡ b → Puts contents old new a → Puts contents old new b
Puts-as {contents = contents} {old = old} {new = new} a b same puts = Puts-of contents old new a b same puts

-- a text that was put on a writer on an empty list was written, and is the text that is returned from the list
pub text-written : {s : sink.Ghosts (Vec ℕ Global)} {w : write.Ghosts (Vec ℕ Global)} {E : Type 0} {old : CheckedSink (Vec ℕ Global) s w}
    {first last : Writer (Vec ℕ Global) s w} {list : List ℕ} {refused : Bool} (closed : CheckedSink (Vec ℕ Global) s w) (text : List ℕ)
    (result : Result (Vec ℕ Global) E) → old.writer.items ≡ [] → Opens old first → Puts (λ list. Some list.items) first last text
    → ClosesBuffer (λ list. Some list.items) last closed
    → IfOk result (λ v. (t : List ℕ) → IsWritten (record { before = Some []; after = Some list; refused = refused }) t → v.items ≡ t)
    → list ≡ closed.writer.items → refused ≡ closed.refused → IfOk result (λ v. v.items ≡ text)
text-written closed text (Err fault) nothing opens puts closes handed same_list same_word = tt
text-written {old = old} {first = first} {last = last} {refused = refused} closed text (Ok v) nothing opens puts closes handed same_list same_word =
    let contents : Vec ℕ Global → Option (List ℕ) = λ list. Some list.items in
    let all : IsWritten (writing contents old closed) text = IsWritten-written contents old first last closed text opens puts closes in
    let from_nothing : IsWritten (since contents (Some []) closed) text =
    subst (λ (before : List ℕ). IsWritten (since contents (Some before) closed) text) nothing all in
    handed text (subst (λ (x : List ℕ). IsWritten (record { before = Some []; after = Some x; refused = refused }) text) (sym same_list)
    (subst (λ (b : Bool). IsWritten (record { before = Some []; after = Some closed.writer.items; refused = b }) text) (sym same_word) from_nothing))
