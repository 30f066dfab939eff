-- Steps of reading and of checking that succeeded, and that did not.
use Rattle.std.proofs.Common.{◌≡◌, ◌≢◌, ℕ, ◌≤◌, ◌<◌, List, [], ◌∷◌, Bool, true, false, ◌&&◌, nat_le, cond, Option, Some, None, Result, Ok, Err, ℤ, pos, negsuc}
use Rattle.std.proofs.Common.{length, All, IsTrue, ok_or, refl, ap, sym, subst, ◌∙◌, arith}
use Rattle.std.specs.Option.{option_and_then}
use Rattle.std.specs.Prelude.{IfSome}
use Rattle.std.specs.Result.{IsErrAnd}
use Rattle.std.proofs.lemmas.Bool.{and_parts}
use Rattle.std.proofs.lemmas.Bool.Decides.{nat_tests}
use Rattle.std.proofs.lemmas.List.Elements.{All-cons, All-nil}
use Rattle.toml.specs.Data.{Data, Items, no_items, item, Members, as_integer, as_array, as_str}
use Rattle.cqf_units.specs.Name.{is_name}
use Rattle.cqf_topology.specs.declared.keys.Key.{Key}
use Rattle.cqf_topology.specs.declared.toml_faults.TomlFault.TheVariants.{BadValue}
use Rattle.cqf_lists.specs.Results.{and_then, refuse}
use Rattle.cqf_topology.specs.Fields.{Gives, and_first, value_at, read_at, each_from, within_range, number_from, number_if, number_if_by, if_name, name_from, names_at}
use Rattle.cqf_topology.specs.DomainText.{if_some}

-- two steps that succeeded
pub and_then-Ok : {A B E : Type 0} (r : Result A E) (next : A → Result B E) (y : B) → and_then r next ≡ Ok y → (x : A) × (r ≡ Ok x) × (next x ≡ Ok y)
and_then-Ok (Ok x) next y h = (x, refl, h)
and_then-Ok (Err e) next y h = absurd (cc)

-- nothing was refused
pub refuse-Ok : {A B E : Type 0} (o : Option A) (fault : A → E) (rest : Result B E) (y : B) → refuse o fault rest ≡ Ok y → (o ≡ None) × (rest ≡ Ok y)
refuse-Ok None fault rest y h = (refl, h)
refuse-Ok (Some x) fault rest y h = absurd (cc)

-- the option had the value
pub ok_or-Ok : {A E : Type 0} (o : Option A) (e : E) (x : A) → ok_or o e ≡ Ok x → o ≡ Some x
ok_or-Ok None e x h = absurd (cc)
ok_or-Ok (Some y) e x h = cc

-- the value of a step came from a value before it
pub and_then-Some : {A B : Type 0} (f : A → Option B) (o : Option A) (y : B) → option_and_then f o ≡ Some y → (x : A) × (o ≡ Some x) × (f x ≡ Some y)
and_then-Some f None y h = absurd (cc)
and_then-Some f (Some x) y h = (x, refl, h)

-- a number that was read is in its range
pub within_range-Some : (least most : ℕ) (z : ℤ) (n : ℕ) → within_range least most z ≡ Some n → (least ≤ n) × (n ≤ most)
within_range-Some least most (pos m) n h = by (nat_le least m && nat_le m most) refl h
  where
    -- what is taken because it is in the range is in it
    by : (b : Bool) → (nat_le least m && nat_le m most) ≡ b → cond b (Some m) None ≡ Some n → (least ≤ n) × (n ≤ most)
    by true e h =
        let same : m ≡ n = cc in
        let parts = and_parts (nat_le least m) (nat_le m most) e in
        let low : nat_le least m ≡ true = parts.0 in
        let high : nat_le m most ≡ true = parts.1 in
        (subst (λ k. least ≤ k) same (grind (arith, nat_tests)), subst (λ k. k ≤ most) same (grind (arith, nat_tests)))
    by false e h = absurd (cc)
within_range-Some least most (negsuc m) n h = absurd (cc)

-- a number that is read is in its range
pub number-range : (key : Key) (least most : ℕ) (table : Members) (n : ℕ) → read_at key (number_from least most) table ≡ Ok n → (least ≤ n) × (n ≤ most)
number-range key least most table n h =
    let (d, at, from) = and_then-Some (number_from least most) (value_at key table) n (ok_or-Ok _ (BadValue key) n h) in
    let (z, integer, within) = and_then-Some (within_range least most) (as_integer d) n from in
    within_range-Some least most z n within

-- and so is one that may be absent
pub number_if-range : (key : Key) (least most : ℕ) (table : Members) (found : Option ℕ) → number_if key least most table ≡ Ok found →
    IfSome found (λ n. (least ≤ n) × (n ≤ most))
number_if-range key least most table found h = by (value_at key table) h
  where
    -- the fact about the number
    InRange : Option ℕ → Type 0
    InRange = λ o. IfSome o (λ n. (least ≤ n) × (n ≤ most))

    -- whether the key is there or not
    by : (o : Option Data) → number_if_by o key least most table ≡ Ok found → InRange found
    by None h = let same : None ≡ found = cc in subst InRange same tt
    by (Some d) h =
        let (n, read, some) = and_then-Ok (read_at key (number_from least most) table) (λ n. Ok (Some n)) found h in
        let same : Some n ≡ found = cc in
        subst InRange same (number-range key least most table n read)

-- a property of each element that was read
pub each_from-All : {A E : Type 0} (P : A → Type 0) (reader : Data → Result A E) → ((d : Data) (x : A) → reader d ≡ Ok x → P x)
    → (ds : Items) (xs : List A) → each_from reader ds ≡ Ok xs → All P xs
each_from-All P reader good no_items xs h = let e : [] ≡ xs = cc in subst (All P) e (All-nil P)
each_from-All {A} {E} P reader good (item d ds) xs h = by (reader d) (each_from reader ds) refl (each_from-All P reader good ds) refl h
  where
    -- each element has the property, if the first and the rest were read
    by : (r : Result A E) (rest : Result (List A) E) → reader d ≡ r → ((ys : List A) → each_from reader ds ≡ Ok ys → All P ys)
        → each_from reader ds ≡ rest → and_first r rest ≡ Ok xs → All P xs
    by (Err e) rest here all more h = absurd (cc)
    by (Ok y) (Err e) here all more h = absurd (cc)
    by (Ok y) (Ok ys) here all more h =
        let e : (y ∷ ys) ≡ xs = cc in
        subst (All P) e (All-cons P y ys (good d y here) (all ys more))

-- each name that was read has the form of a name
if_name-Some : (text name : List ℕ) → if_name text ≡ Some name → IsTrue (is_name name)
if_name-Some text name h = by (is_name text) refl h
  where
    -- what is taken because it has the form of a name has it
    by : (b : Bool) → is_name text ≡ b → cond b (Some text) None ≡ Some name → IsTrue (is_name name)
    by true e h = let same : text ≡ name = cc in subst (λ t. IsTrue (is_name t)) same e
    by false e h = absurd (cc)

-- names that are read are names
pub names-named : (key : Key) (table : Members) (names : List (List ℕ)) → names_at key table ≡ Ok names → All (λ name. IsTrue (is_name name)) names
names-named key table names h =
    let (items, at, each) = and_then-Ok (read_at key as_array table) (each_from (λ d. ok_or (name_from d) (BadValue key))) names h in
    each_from-All (λ name. IsTrue (is_name name)) (λ d. ok_or (name_from d) (BadValue key)) good items names each
  where
    -- a name that was read has the form of a name
    good : (d : Data) (name : List ℕ) → ok_or (name_from d) (BadValue key) ≡ Ok name → IsTrue (is_name name)
    good d name h =
        let (text, is, from) = and_then-Some if_name (as_str d) name (ok_or-Ok (name_from d) (BadValue key) name h) in
        if_name-Some text name from

-- at least one name was read
pub if_some-Ok : {A : Type 0} (key : Key) (xs ys : List A) → if_some key xs ≡ Ok ys → (xs ≡ ys) × (0 < length ys)
if_some-Ok key [] ys h = absurd (cc)
if_some-Ok {A} key (x ∷ xs) ys h =
    let e : (x ∷ xs) ≡ ys = cc in (e, subst (λ zs. 0 < length zs) e (omega arith))

-- a fault that is handed on by `?` is the wanted one
pub Gives-residual : {A B E : Type 0} (memory e : E) (show : A → B) (r : Result A E) (wanted : Result B E) → IsErrAnd r (λ f. f ≡ e)
    → (e ≢ memory → wanted ≡ Err e) → Gives memory show r wanted
Gives-residual memory e show (Ok x) wanted same given = absurd same
Gives-residual memory e show (Err f) wanted same given = λ not_memory. given (λ is. not_memory (same ∙ is)) ∙ ap Err (sym same)
