-- How variables are made: words byte by byte, which of them occur earlier, and the numbers after these.
use Rattle.std.proofs.Common.{ℕ, ◌≡◌, ◌<◌, ◌≤◌, ◌+◌, ◌++◌, ◌==◌, ◌∙◌, ◌&&◌, ◌||◌, ◌⊎◌, AllPairs, Bool, true, false, List, [], ◌∷◌, Option, Some, None}
use Rattle.std.proofs.Common.{add-one, ap, append_assoc, arith, cond, get_or, inl, inr, is_some, length, map, position, refl, subst, suc, sym, take, zero}
use Rattle.std.specs.Prelude.{if◌then◌else◌, nat_lt, slice_get}
use Rattle.std.specs.Borrow.{Bor}
use Rattle.std.specs.BTreeMap.{BTreeMap}
use Rattle.std.specs.Global.{Global}
use Rattle.std.specs.List.{list_any}
use Rattle.std.specs.Option.{option_map_or}
use Rattle.std.specs.declared.vec.Vec.{Vec}
use Rattle.std.proofs.lemmas.Bool.{cases_lt, le-ltb, lt-ltb}
use Rattle.std.proofs.lemmas.List.{get_or-map, get_or_append_left, get_or_default, get_or_push, length-append, length-map, map-append, take-map, take_more}
use Rattle.std.proofs.lemmas.Option.{slice_get_cases, slice_get_past, slice_get_read}
use Rattle.cqf_admission.specs.Names.{index_under}
use Rattle.cqf_lists.proofs.Any.{list_any-map, position_any}
use Rattle.cqf_lists.specs.ByNumber.{lists_of}
use Rattle.cqf_model.specs.declared.topology.Link.{Link}
use Rattle.cqf_model.specs.declared.topology.Row.{Row}
use Rattle.cqf_model.specs.Domain.{Domain, is_text}
use Rattle.cqf_program_tc.specs.Taken.{AreTaken, is_taken_at}
use Rattle.cqf_program_tc.specs.Variables.{has_word_before, is_link_taken, is_stream_taken, link_variable, numbered, stream_variable}
use Rattle.cqf_program_tc.specs.Variables.{variable_at, word_byte, word_of, word_of_link, word_of_stream}

-- one more byte of a name
pub word_more : (initial before after name : List ℕ) (k d byte : ℕ) → k < length name → before ≡ initial ++ word_of (take k name) →
    after ≡ before ++ byte ∷ [] → byte ≡ word_byte (get_or name k d) → after ≡ initial ++ word_of (take (k + 1) name)
word_more initial before after name k d byte inside so_far more is =
    more ∙ ap (λ (text : List ℕ). text ++ byte ∷ []) so_far ∙ append_assoc initial (word_of (take k name)) (byte ∷ [])
    ∙ ap (λ (end : ℕ). initial ++ (word_of (take k name) ++ end ∷ [])) is
    ∙ ap (λ (rest : List ℕ). initial ++ rest)
    (sym (ap word_of (take_more name k d inside) ∙ map-append word_byte (take k name) (get_or name k d ∷ [])))

-- one more word in a list of words
pub words_more : {X : Type 0} (word : X → List ℕ) (xs : List X) (k : ℕ) (d : X) (before after : List (Vec ℕ Global)) (last : Vec ℕ Global) →
    k < length xs → lists_of before ≡ map word (take k xs) → after ≡ before ++ last ∷ [] → last.items ≡ word (get_or xs k d) →
    lists_of after ≡ map word (take (k + 1) xs)
words_more {X} word xs k d before after last inside so_far more is =
    ap lists_of more ∙ map-append (λ (v : Vec ℕ Global). v.items) before (last ∷ [])
    ∙ ap (λ (front : List (List ℕ)). front ++ last.items ∷ []) so_far
    ∙ ap (λ (end : List ℕ). map word (take k xs) ++ end ∷ []) is
    ∙ sym (ap (map word) (take_more xs k d inside) ∙ map-append word (take k xs) (get_or xs k d ∷ []))

-- the index that is kept for each word so far, and which of the words are taken
pub record AreTakenUpTo (words : List (Vec ℕ Global)) (under : List ℕ → Option ℕ) (taken : List Bool) (count : ℕ) : Type 0 where
  pub leads : (name : List ℕ) → under name ≡ position (λ (word : Vec ℕ Global). is_text word.items name) (take count words)
  pub one_each : length taken ≡ count
  pub each : (index : ℕ) → index < count → get_or taken index false ≡ is_taken_at (lists_of words) index

pub taken_none : (words : List (Vec ℕ Global)) (under : List ℕ → Option ℕ) (taken : List Bool) → ((name : List ℕ) → under name ≡ None) → taken ≡ [] →
    AreTakenUpTo words under taken 0
taken_none words under taken none empty = record {
  leads = none;
  one_each = ap length empty;
  each = λ index below. absurd (omega (arith, below));
}

pub taken_all : (words : List (Vec ℕ Global)) (under : List ℕ → Option ℕ) (taken : List Bool) (count : ℕ) → count ≡ length words →
    AreTakenUpTo words under taken count → AreTaken (lists_of words) taken
taken_all words under taken count all are =
    let many : length (lists_of words) ≡ length words = length-map words (λ (w : Vec ℕ Global). w.items) in
    record { one_each = are.one_each ∙ all ∙ sym many; each = λ index below. are.each index (omega (arith, below, all, many)) }

-- a word is known if and only if it is taken
pub known_is_taken : (words : List (Vec ℕ Global)) (under : List ℕ → Option ℕ) (k : ℕ) (word : Vec ℕ Global) → k < length words →
    word ≡ get_or words k word → ((name : List ℕ) → under name ≡ position (λ (w : Vec ℕ Global). is_text w.items name) (take k words)) →
    is_some (under word.items) ≡ is_taken_at (lists_of words) k
known_is_taken words under k word inside is leads =
    let items = λ (w : Vec ℕ Global). w.items in
    let own : get_or (lists_of words) k [] ≡ word.items = get_or-map items words k word [] inside ∙ ap items (sym is) in
    ap is_some (leads word.items)
    ∙ position_any (λ (w : Vec ℕ Global). is_text w.items word.items) (take k words)
    ∙ sym (list_any-map (λ (other : List ℕ). is_text other word.items) items (take k words))
    ∙ ap (list_any (λ (other : List ℕ). is_text other word.items)) (sym (take-map items k words))
    ∙ ap (λ (text : List ℕ). list_any (λ (other : List ℕ). is_text other text) (take k (lists_of words))) (sym own)

-- one more word
pub taken_more : (words : List (Vec ℕ Global)) (under later : List ℕ → Option ℕ) (before after : List Bool) (k : ℕ) (mark : Bool) →
    AreTakenUpTo words under before k → ((name : List ℕ) → later name ≡ position (λ (w : Vec ℕ Global). is_text w.items name) (take (k + 1) words)) →
    after ≡ before ++ mark ∷ [] → mark ≡ is_taken_at (lists_of words) k → AreTakenUpTo words later after (k + 1)
taken_more words under later before after k mark so_far leads more is = record {
  leads = leads;
  one_each = ap length more ∙ length-append before (mark ∷ []) ∙ ap (λ (n : ℕ). n + 1) so_far.one_each;
  each = λ index below. ap (λ (marks : List Bool). get_or marks index false) more ∙ at index below (cases_lt index k);
}
  where
    at : (index : ℕ) → index < k + 1 → (index < k) ⊎ (k ≤ index) → get_or (before ++ mark ∷ []) index false ≡ is_taken_at (lists_of words) index
    at index below (inl low) =
        get_or_append_left before (mark ∷ []) false index (omega (arith, low, so_far.one_each)) ∙ so_far.each index low
    at index below (inr high) =
        let same : index ≡ k = omega (arith, below, high) in
        get_or_push before mark false index (omega (arith, same, so_far.one_each)) ∙ is ∙ ap (is_taken_at (lists_of words)) (sym same)

-- for mapped elements a word is taken if an earlier element has the same word
taken_of_map : {X : Type 0} (word : X → List ℕ) (xs : List X) (k : ℕ) (x : X) → k < length xs → x ≡ get_or xs k x →
    is_taken_at (map word xs) k ≡ list_any (λ (other : X). is_text (word other) (word x)) (take k xs)
taken_of_map {X} word xs k x inside is =
    let own : get_or (map word xs) k [] ≡ word x = get_or-map word xs k x [] inside ∙ ap word (sym is) in
    ap (λ (text : List ℕ). list_any (λ (other : List ℕ). is_text other text) (take k (map word xs))) own
    ∙ ap (list_any (λ (other : List ℕ). is_text other (word x))) (take-map word k xs)
    ∙ list_any-map (λ (other : List ℕ). is_text other (word x)) word (take k xs)

-- a test that fails for all from an index on, and before it agrees with another test
any_front : {X : Type 0} (p q : X → Bool) (xs : List X) (k : ℕ) →
    ((i : ℕ) (d : X) → i < length xs → i < k → p (get_or xs i d) ≡ q (get_or xs i d)) →
    ((i : ℕ) (d : X) → i < length xs → k ≤ i → p (get_or xs i d) ≡ false) → list_any p xs ≡ list_any q (take k xs)
any_front p q [] zero same none = refl
any_front p q [] (suc k) same none = refl
any_front p q (x ∷ xs) zero same none =
    ap (λ (b : Bool). b || list_any p xs) (none 0 x (omega arith) (omega arith))
    ∙ any_front p q xs zero (λ i d inside low. absurd (omega (arith, low))) (λ i d inside high. none (suc i) d (omega (arith, inside)) (omega arith))
any_front p q (x ∷ xs) (suc k) same none =
    ap (λ (b : Bool). b || list_any p xs) (same 0 x (omega arith) (omega arith))
    ∙ ap (λ (b : Bool). q x || b) (any_front p q xs k (λ i d inside low. same (suc i) d (omega (arith, inside)) (omega (arith, low)))
    (λ i d inside high. none (suc i) d (omega (arith, inside)) (omega (arith, high))))

-- among rows with ascending numbers, those with a lower number are those before
rows_before : (rows : List Row) (k : ℕ) (row : Row) → AllPairs (λ (a b : Row). a.no < b.no) rows → k < length rows → row ≡ get_or rows k row →
    is_stream_taken rows row ≡ list_any (λ (other : Row). is_text (word_of_stream other) (word_of_stream row)) (take k rows)
rows_before rows k row ascending inside is =
    any_front (has_word_before row) (λ (other : Row). is_text (word_of_stream other) (word_of_stream row)) rows k
    (λ i d below low.
    let other = get_or rows i d in
    ap (λ (b : Bool). b && is_text (word_of_stream other) (word_of_stream row)) (lt-ltb other.no row.no (lower i d low)))
    (λ i d below high.
    let other = get_or rows i d in
    ap (λ (b : Bool). b && is_text (word_of_stream other) (word_of_stream row)) (le-ltb other.no row.no (higher i d below (cases_lt k i) high)))
  where
    here : (d : Row) → get_or rows k d ≡ row
    here d = get_or_default rows k d row inside ∙ sym is

    lower : (i : ℕ) (d : Row) → i < k → (get_or rows i d).no < row.no
    lower i d low = subst (λ (r : Row). (get_or rows i d).no < r.no) (here d) (ascending i k d low inside)

    higher : (i : ℕ) (d : Row) → i < length rows → (k < i) ⊎ (i ≤ k) → k ≤ i → row.no ≤ (get_or rows i d).no
    higher i d below (inl later) high =
        let less : row.no < (get_or rows i d).no = subst (λ (r : Row). r.no < (get_or rows i d).no) (here d) (ascending k i d later below) in
        omega (arith, less)
    higher i d below (inr past) high =
        let same : i ≡ k = omega (arith, past, high) in
        let equal : (get_or rows i d).no ≡ row.no = ap (λ (n : ℕ). (get_or rows n d).no) same ∙ ap (λ (r : Row). r.no) (here d) in
        omega (arith, equal)

-- the word at an index, and the mark
pub word_there : (words : List (Vec ℕ Global)) (index : ℕ) (text : List ℕ) (word : Vec ℕ Global) → index < length words →
    text ≡ (get_or words index word).items → text ≡ get_or (lists_of words) index []
word_there words index text word inside is = is ∙ sym (get_or-map (λ (w : Vec ℕ Global). w.items) words index word [] inside)

pub mark_there : (taken : List Bool) (index : ℕ) (mark : Bool) → index < length taken → mark ≡ get_or taken index mark → mark ≡ get_or taken index false
mark_there taken index mark inside there = there ∙ get_or_default taken index mark false inside

-- there are as many words and marks as elements
pub many_words : {X : Type 0} (word : X → List ℕ) (xs : List X) (words : List (Vec ℕ Global)) → lists_of words ≡ map word xs → length words ≡ length xs
many_words word xs words are = sym (length-map words (λ (w : Vec ℕ Global). w.items)) ∙ ap length are ∙ length-map xs word

pub many_marks : (words : List (Vec ℕ Global)) (taken : List Bool) → AreTaken (lists_of words) taken → length taken ≡ length words
many_marks words taken are = are.one_each ∙ length-map words (λ (w : Vec ℕ Global). w.items)

-- the link with a number, in its list
pub link_here : (d : Domain) (k : ℕ) (link : Link) → slice_get d.links k ≡ Some link → link ≡ get_or d.links k link
link_here d k link there = elim ((slice_get_cases d.links k).1) [
  | inl h ↦
      let same : link ≡ h.0 = some_of link h.0 (sym there ∙ h.2) in
      same ∙ sym h.3 ∙ get_or_default d.links k h.0 link (below (cases_lt k (length d.links)))
  | inr past ↦ absurd (not_there (sym there ∙ slice_get_past d.links k past.0))
]
  where
    some_of : (a b : Link) → Some a ≡ Some b → a ≡ b
    some_of a b e = cc

    not_there : Some link ≡ None → ⊥
    not_there e = cc

    below : (k < length d.links) ⊎ (length d.links ≤ k) → k < length d.links
    below (inl low) = low
    below (inr high) = absurd (not_there (sym there ∙ slice_get_past d.links k high))

-- a variable that was made is that of its link
pub link_named_so : (d : Domain) (words : List (Vec ℕ Global)) (taken : List Bool) (k index : ℕ) (link : Link) (word variable : List ℕ) (mark : Bool) →
    lists_of words ≡ map (word_of_link d) d.links → AreTaken (lists_of words) taken → index ≡ k → slice_get d.links k ≡ Some link → k < length d.links →
    link ≡ get_or d.links k link → word ≡ get_or (lists_of words) index [] → mark ≡ get_or taken index false → variable ≡ numbered word mark k →
    variable ≡ link_variable d k
link_named_so d words taken k index link word variable mark are marked at there inside is named marks made =
    let own : word ≡ word_of_link d link =
    named ∙ ap (λ (n : ℕ). get_or (lists_of words) n []) at ∙ ap (λ (texts : List (List ℕ)). get_or texts k []) are
    ∙ get_or-map (word_of_link d) d.links k link [] inside ∙ ap (word_of_link d) (sym is) in
    let many : length (lists_of words) ≡ length d.links = ap length are ∙ length-map d.links (word_of_link d) in
    let written : mark ≡ is_link_taken d k link =
    marks ∙ ap (λ (n : ℕ). get_or taken n false) at ∙ marked.each k (omega (arith, inside, many))
    ∙ ap (λ (texts : List (List ℕ)). is_taken_at texts k) are ∙ taken_of_map (word_of_link d) d.links k link inside is in
    made ∙ ap (λ (text : List ℕ). numbered text mark k) own ∙ ap (λ (b : Bool). numbered (word_of_link d link) b k) written
    ∙ sym (ap (λ (found : Option Link). option_map_or (λ (l : Link). numbered (word_of_link d l) (is_link_taken d k l) k) found []) there)

-- and a variable that was made for a stream is the stream's
pub stream_named_so : (rows : List Row) (words : List (Vec ℕ Global)) (taken : List Bool) (k : ℕ) (row : Row) (word variable : List ℕ) (mark : Bool) →
    AllPairs (λ (a b : Row). a.no < b.no) rows → lists_of words ≡ map word_of_stream rows → AreTaken (lists_of words) taken → k < length rows →
    row ≡ get_or rows k row → word ≡ get_or (lists_of words) k [] → mark ≡ get_or taken k false → variable ≡ numbered word mark row.no →
    variable ≡ variable_at rows k
stream_named_so rows words taken k row word variable mark ascending are marked inside is named marks made =
    let own : word ≡ word_of_stream row =
    named ∙ ap (λ (texts : List (List ℕ)). get_or texts k []) are
    ∙ get_or-map word_of_stream rows k row [] inside ∙ ap word_of_stream (sym is) in
    let many : length (lists_of words) ≡ length rows = ap length are ∙ length-map rows word_of_stream in
    let written : mark ≡ is_stream_taken rows row =
    marks ∙ marked.each k (omega (arith, inside, many))
    ∙ ap (λ (texts : List (List ℕ)). is_taken_at texts k) are ∙ taken_of_map word_of_stream rows k row inside is
    ∙ sym (rows_before rows k row ascending inside is) in
    made ∙ ap (λ (text : List ℕ). numbered text mark row.no) own ∙ ap (λ (b : Bool). numbered (word_of_stream row) b row.no) written
    ∙ sym (ap (λ (found : Option Row). option_map_or (stream_variable rows) found []) (slice_get_read rows (length rows) k row refl inside is))
