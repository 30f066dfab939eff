-- The first of some texts that has something, and texts by the names of their files.
use Rattle.std.proofs.Common.{◌≡◌, ℕ, ◌+◌, ◌<◌, ◌≤◌, List, [], ◌++◌, Option, Some, None, true, get_or, drop, length, map, option_and_then, option_map, is_some, take, ◌-◌, ◌∙◌, arith, refl, sym, ap, inl, inr}
use Rattle.std.proofs.lemmas.Bool.{false≢true}
use Rattle.std.proofs.lemmas.List.{drop-map, drop_all, drop_more, length-drop, take_all}
use Rattle.std.specs.Option.{option_or}
use Rattle.toml.specs.Data.{Members}
use Rattle.cqf_output.specs.declared.stops.Stop.{Stop}
use Rattle.cqf_program_files.specs.Opening.{network_texts, open_refusal, open_refusal_of}
use Rattle.cqf_program_files.specs.Files.{EndsFiles, EndsTogether, IsCheckedJoint, IsNetworkText, are_several, first_refusal, first_strange_among, joint_refusal, leading}
use Rattle.cqf_program_files.specs.Files.{strange_in, tables_of, texts_refusal, toml_text, toml_texts}

-- what is found here is what is found first
pub found_here : {X Y : Type 0} (f : X → Y) (here rest : Option X) (y : Y) → Some y ≡ option_map f here → Some y ≡ option_map f (option_or here rest)
found_here f None rest y found = absurd (false≢true (sym (ap is_some found)))
found_here f (Some x) rest y found = found

-- and if nothing is found here, what is found after it
pub found_after : {X Y : Type 0} (f : X → Y) (here rest : Option X) → None ≡ option_map f here → option_or here rest ≡ rest
found_after f None rest none = refl
found_after f (Some x) rest none = absurd (false≢true (ap is_some none))

-- the texts of names and texts from an index on
pub toml_at : {A B : Type 0} (f : A → List ℕ) (g : B → List ℕ) (names : List A) (texts : List B) (i : ℕ) (name : A) (text : B)
    → i < length names → i < length texts
    → toml_texts (map f (drop i names)) (map g (drop i texts))
    ≡ toml_text (f (get_or names i name)) (g (get_or texts i text)) ++ toml_texts (map f (drop (i + 1) names)) (map g (drop (i + 1) texts))
toml_at f g names texts i name text in_names in_texts = rw (drop_more names i name in_names, drop_more texts i text in_texts) refl

-- there are none after the last
pub toml_end : {A B : Type 0} (f : A → List ℕ) (g : B → List ℕ) (names : List A) (texts : List B) (i : ℕ) → length names ≤ i
    → toml_texts (map f (drop i names)) (map g (drop i texts)) ≡ []
toml_end f g names texts i past = rw (drop_all i names past) refl

-- the first key of texts from an index on
pub strange_at : {A : Type 0} (g : A → List ℕ) (texts : List A) (i : ℕ) (text : A) → i < length texts
    → first_strange_among (map g (drop i texts)) ≡ option_or (strange_in (g (get_or texts i text))) (first_strange_among (map g (drop (i + 1) texts)))
strange_at g texts i text inside = rw (drop_more texts i text inside) refl

-- several files that are one plan
pub plan_is_good : (names texts : List (List ℕ)) (text : List ℕ) → texts_refusal (toml_texts names texts) ≡ None → first_refusal names texts ≡ None
    → are_several names ≡ true
    → joint_refusal (tables_of (take (leading names) texts)) ≡ None → IsNetworkText (take (leading names) texts) text → IsCheckedJoint names texts (Some text)
plan_is_good names texts text alone first several together is = record { sound = rw (alone, first, several, together) refl; text = rw several is }

-- and the end if they aren't
pub plan_ends : (names texts : List (List ℕ)) (stop : Stop) → texts_refusal (toml_texts names texts) ≡ None → first_refusal names texts ≡ None
    → are_several names ≡ true
    → EndsTogether (take (leading names) texts) stop → EndsFiles names texts stop
plan_ends names texts stop alone first several ends = record {
  statuses = ends.statuses;
  line = λ refused. elim (ends.line refused) [
    | inl reported ↦ inl (rw (alone, first, several) reported)
    | inr unwritable ↦ inr (rw (alone, first, several) unwritable.0, several, unwritable.1)
  ];
  memory = ends.memory;
}

-- what is open of a network's tables, where its texts are TOML
pub open_at : (names texts front : List (List ℕ)) (tables : List Members) → front ≡ network_texts names texts → Some tables ≡ tables_of front
    → open_refusal tables ≡ open_refusal_of names texts
open_at names texts front tables is at = ap (λ found. option_and_then open_refusal found) (at ∙ ap tables_of is)

-- and else nothing is known of it
pub open_nowhere : (names texts front : List (List ℕ)) → front ≡ network_texts names texts → None ≡ tables_of front → None ≡ open_refusal_of names texts
open_nowhere names texts front is at = ap (λ found. option_and_then open_refusal found) (at ∙ ap tables_of is)

-- what follows some first elements
pub after_first : {A : Type 0} (f : A → List ℕ) (xs : List A) (n : ℕ) → map f (take (length xs - n) (drop n xs)) ≡ drop n (map f xs)
after_first f xs n =
    let whole : length (drop n xs) ≤ length xs - n = omega (arith, length-drop n xs) in
    ap (map f) (take_all (length xs - n) (drop n xs) whole) ∙ sym (drop-map f n xs)
