-- Equal texts, and the names of nodes.
use Rattle.std.proofs.Common.{◌≡◌, ℕ, true, List, Option, Some, None, get_or, refl, sym, ap, ◌∙◌, arith}
use Rattle.std.specs.Prelude.{[], ◌∷◌, ◌==◌, ◌&&◌, nat_eq, position, slice_get}
use Rattle.std.specs.Cmp.Lexicographic.{pointwise}
use Rattle.std.proofs.lemmas.Bool.{and_from, and_parts, eqb-true, eq-eqb}
use Rattle.std.proofs.lemmas.Bool.Decides.{nat_tests}
use Rattle.std.proofs.lemmas.List.Quantifiers.{position-Some}
use Rattle.std.proofs.lemmas.Option.{same_Some, slice_get-get_or}
use Rattle.cqf_model.specs.declared.topology.Node.{Node}
use Rattle.cqf_model.specs.declared.topology.Node.TheVariants.{Bridge, Station}
use Rattle.cqf_model.specs.Domain.{Domain, is_text, node_named, node_or}

-- a text is the same as itself by the test
pub is_text_itself : (xs : List ℕ) → is_text xs xs ≡ true
is_text_itself [] = refl
is_text_itself (x ∷ xs) = and_from (x == x) (is_text xs xs) (eq-eqb x x refl) (is_text_itself xs)

-- two texts that the test calls the same are equal
pub is_text_same : (xs ys : List ℕ) → is_text xs ys ≡ true → xs ≡ ys
is_text_same [] [] h = refl
is_text_same [] (y ∷ ys) h = absurd cc
is_text_same (x ∷ xs) [] h = absurd cc
is_text_same (x ∷ xs) (y ∷ ys) h =
    let parts = and_parts (x == y) (is_text xs ys) h in
    (λ i. eqb-true x y parts.0 i ∷ is_text_same xs ys parts.1 i)

-- the comparison of two numbers is symmetric
nat_eq-sym : (x y : ℕ) → nat_eq x y ≡ (y == x)
nat_eq-sym x y = grind (arith, nat_tests)

-- the comparison of two names is that of their texts
pub pointwise-is_text : (n m : List ℕ) → pointwise nat_eq n m ≡ is_text m n
pointwise-is_text [] [] = refl
pointwise-is_text [] (y ∷ ys) = refl
pointwise-is_text (x ∷ xs) [] = refl
pointwise-is_text (x ∷ xs) (y ∷ ys) = (λ i. nat_eq-sym x y i && pointwise-is_text xs ys i)

-- the name of a node is at its number
abbrev pub HasName : Domain → Node → List ℕ → Type 0
HasName d (Bridge b) name = slice_get d.bridges b ≡ Some name
HasName d (Station s) name = slice_get d.stations s ≡ Some name

-- a name that is found is at its index
name_found : (names : List (List ℕ)) (name : List ℕ) (i : ℕ) → position (λ other. is_text other name) names ≡ Some i → slice_get names i ≡ Some name
name_found names name i e =
    let found = position-Some (λ other. is_text other name) names i [] e in
    slice_get-get_or names i [] found.0 ∙ ap (λ n. Some n) (is_text_same (get_or names i []) name found.1)

-- the number of a node
abbrev number_of : Option Node → Option ℕ
number_of None = None
number_of (Some (Bridge b)) = Some b
number_of (Some (Station s)) = Some s

-- a node that is found by a name has it
has_name : (d : Domain) (name : List ℕ) (node : Node) → node_named d name ≡ Some node → HasName d node name
has_name d name node e = by_indices (position (λ other. is_text other name) d.bridges) (position (λ other. is_text other name) d.stations) node refl refl e
  where
    -- the node has the name, whether it is found among the bridges or the stations
    by_indices : (b s : Option ℕ) (node : Node) → position (λ other. is_text other name) d.bridges ≡ b → position (λ other. is_text other name) d.stations ≡ s →
        node_or b s ≡ Some node → HasName d node name
    by_indices (Some b) s (Bridge k) f g h = name_found d.bridges name k (f ∙ ap number_of h)
    by_indices (Some b) s (Station k) f g h = absurd cc
    by_indices None (Some s) (Bridge k) f g h = absurd cc
    by_indices None (Some s) (Station k) f g h = name_found d.stations name k (g ∙ ap number_of h)
    by_indices None None node f g h = absurd cc

-- so a node has one name
pub named_once : (d : Domain) (a b : List ℕ) (node : Node) → node_named d a ≡ Some node → node_named d b ≡ Some node → a ≡ b
named_once d a b (Bridge k) e f = same_Some a b (sym (has_name d a (Bridge k) e) ∙ has_name d b (Bridge k) f)
named_once d a b (Station k) e f = same_Some a b (sym (has_name d a (Station k) e) ∙ has_name d b (Station k) f)
