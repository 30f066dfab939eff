-- A path that is admitted uses only links of the network.
use Rattle.std.proofs.Common.{◌≡◌, ◌∙◌, ◌+◌, ◌-◌, ◌<◌, ◌&&◌, ◌||◌, ◌==◌, ℕ, suc, Bool, true, false, Contains, List, [], ◌∷◌, Option, Some, None}
use Rattle.std.proofs.Common.{ap, arith, get_or, inl, inr, length, refl, subst, sym}
use Rattle.std.specs.Prelude.{is_none, slice_get}
use Rattle.std.specs.List.{list_any}
use Rattle.std.proofs.lemmas.Bool.{and_parts, cases_Bool, eqb-true, true≢false}
use Rattle.std.proofs.lemmas.List.Quantifiers.{position-Some}
use Rattle.std.proofs.lemmas.Option.{slice_get-get_or, slice_get_within}
use Rattle.cqf_units.specs.declared.timing.Rate.TheVariants.{Mb10}
use Rattle.cqf_lists.proofs.Members.{any_member, contains_at}
use Rattle.cqf_model.specs.declared.topology.Link.{Link}
use Rattle.cqf_model.specs.declared.topology.Node.{Node}
use Rattle.cqf_model.specs.declared.topology.Node.TheVariants.{Bridge, Station}
use Rattle.cqf_model.specs.declared.topology.Row.{Row}
use Rattle.cqf_model.specs.Domain.{is_text, node_named, same_node}
use Rattle.cqf_model.specs.History.{Asked, Branch, link_at, link_from, refusal_of}
use Rattle.cqf_model.proofs.Links.{same_node_true}
use Rattle.cqf_model.proofs.Texts.{is_text_same, named_once}
use Rattle.cqf_laws_history.proofs.Branches.{IsBranch, node_of_name, some_from}
use Rattle.cqf_laws_history.proofs.Granted.{branches, granted}
use Rattle.cqf_network.specs.NetworkDomain.{NetworkDomain, domain_at}
use Rattle.cqf_program_words.specs.declared.links.LinkName.{LinkName}
use Rattle.cqf_program_without.specs.Streams.{is_step, pass_any, passes}
use Rattle.cqf_program_without.proofs.LinksRead.{AreNamedBy, HasNamedLinks}

-- the two ends of a link follow each other in a branch
pub record IsStepAt (link : LinkName) (branch : Branch) (k : ℕ) : Type 0 where
  pub from_is : slice_get branch k ≡ Some link.from
  pub to_is : slice_get branch (suc k) ≡ Some link.to

step_at : (link : LinkName) (branch : Branch) → passes link branch ≡ true → (k : ℕ) × IsStepAt link branch k
step_at link [] e = absurd cc
step_at link (name ∷ []) e = absurd cc
step_at link (name ∷ next ∷ rest) e = elim (cases_Bool (is_step link name next)) [
  | inl t ↦
      let parts = and_parts (is_text link.from name) (is_text link.to next) t in
      (0, record { from_is = ap (λ n. Some n) (sym (is_text_same link.from name parts.0)); to_is = ap (λ n. Some n) (sym (is_text_same link.to next parts.1)) })
  | inr f ↦
      let later = step_at link (next ∷ rest) (sym (ap (λ b. b || passes link (next ∷ rest)) f) ∙ e) in
      (suc later.0, record { from_is = later.1.from_is; to_is = later.1.to_is })
]

-- a link to read past the end of a list
some_link : Link
some_link = record { from = 0; to = Bridge 0; rate = Mb10; delay = 0; least = 0; guard = None }

-- the names of two nodes are those that a link gives
pub same_names : (network : NetworkDomain) (cycle : ℕ) (test : LinkName → Bool) (name : LinkName) (from to : Node) →
    AreNamedBy network.bridges network.stations test from to → node_named (domain_at network cycle) name.from ≡ Some from →
    node_named (domain_at network cycle) name.to ≡ Some to → test name ≡ true
same_names network cycle test name from to named f t =
    let d = domain_at network cycle in
    let from_same : named.name.from ≡ name.from = named_once d named.name.from name.from from named.from_is f in
    let to_same : named.name.to ≡ name.to = named_once d named.name.to name.to to named.to_is t in
    let same : named.name ≡ name = λ i. record { from = from_same i; to = to_same i } in
    subst (λ (n : LinkName). test n ≡ true) same named.passes_test

module _ (network : NetworkDomain) (cycle : ℕ) (test : LinkName → Bool) (all : HasNamedLinks test network) where
  -- a link from one node to another passes the test by their names
  between : (name : LinkName) (l : ℕ) (from to : Option Node) → node_named (domain_at network cycle) name.from ≡ from →
      node_named (domain_at network cycle) name.to ≡ to → link_from (domain_at network cycle) from to ≡ Some l → test name ≡ true
  between name l None to f t e = absurd cc
  between name l (Some (Station s)) None f t e = absurd cc
  between name l (Some (Station s)) (Some n) f t e = absurd cc
  between name l (Some (Bridge b)) None f t e = absurd cc
  between name l (Some (Bridge b)) (Some n) f t e =
      let at = position-Some (λ (link : Link). (link.from == b) && same_node link.to n) network.links l some_link e in
      let link = get_or network.links l some_link in
      let ends = and_parts (link.from == b) (same_node link.to n) at.1 in
      let named = all.links link (contains_at network.links l link (slice_get-get_or network.links l some_link at.0)) in
      let from_is : Some (Bridge b) ≡ Some (Bridge link.from) = ap (λ (k : ℕ). Some (Bridge k)) (sym (eqb-true link.from b ends.0)) in
      let to_is : Some n ≡ Some link.to = ap (λ (k : Node). Some k) (sym (same_node_true link.to n ends.1)) in
      same_names network cycle test name (Bridge link.from) link.to named (f ∙ from_is) (t ∙ to_is)

  -- so does each step of a branch
  step_passes : (branch : Branch) → IsBranch (domain_at network cycle) branch → (name : LinkName) (k : ℕ) → IsStepAt name branch k → test name ≡ true
  step_passes branch good name k step =
      let d = domain_at network cycle in
      let inside : suc k < length branch = slice_get_within branch (suc k) name.to step.to_is in
      let one : suc k - 1 ≡ k = omega arith in
      let next : k + 1 ≡ suc k = omega arith in
      let linked : is_none (link_at d branch k) ≡ false =
      subst (λ (j : ℕ). is_none (link_at d branch j) ≡ false) one ((good.whole (suc k) (omega (arith, inside))).linked (omega arith) inside) in
      let (l, is) = some_from (link_at d branch k) linked in
      let from_node = node_of_name d branch k name.from step.from_is in
      let to_node = node_of_name d branch (k + 1) name.to (ap (λ j. slice_get branch j) next ∙ step.to_is) in
      between name l (node_named d name.from) (node_named d name.to) refl refl (sym (λ i. link_from d (from_node i) (to_node i)) ∙ is)

  -- so paths that are admitted use no link that doesn't
  pub none_used : (links : List LinkName) (rows : List Row) (asked : Asked) → ((name : LinkName) → Contains links name → test name ≡ false) →
      refusal_of (domain_at network cycle) rows asked ≡ None → pass_any links asked.paths ≡ false
  none_used links rows asked out admitted = by (pass_any links asked.paths) refl
    where
      by : (b : Bool) → pass_any links asked.paths ≡ b → b ≡ false
      by false e = refl
      by true e =
          let d = domain_at network cycle in
          let (link, there, some) = any_member (λ link. list_any (passes link) asked.paths) links e in
          let (path, among, passing) = any_member (passes link) asked.paths some in
          let step = step_at link path passing in
          let used = step_passes path (branches d rows asked (granted d rows asked admitted) path among) link step.0 step.1 in
          absurd (true≢false (sym used ∙ out link there))
