-- The name that is reported as taken is the first repeated one, and the link that is reported as occurring twice is the first with an
-- earlier twin.
use Rattle.std.proofs.Common.{◌≡◌, ◌<◌, ℕ, List, [], ◌∷◌, ◌++◌, Bool, true, false, ◌==◌, ◌&&◌, cond, Option, Some, None, MatchOption, length, slice_get, get_or}
use Rattle.std.proofs.Common.{refl, ap, sym, ◌∙◌, append_assoc, inl, inr, arith}
use Rattle.std.specs.List.{list_any}
use Rattle.std.proofs.lemmas.Bool.{and_parts, cases_lt, true≢false}
use Rattle.std.proofs.lemmas.Bool.Decides.{nat_tests}
use Rattle.std.proofs.lemmas.List.Quantifiers.{position-Some}
use Rattle.std.proofs.lemmas.Option.{get_or_from_slice_get, slice_get-get_or, slice_get_within}
use Rattle.cqf_lists.proofs.Indices.{slice_get_after}
use Rattle.cqf_model.proofs.Links.{same_node_itself, same_node_true}
use Rattle.cqf_model.proofs.Texts.{is_text_itself, is_text_same}
use Rattle.cqf_model.specs.declared.topology.Link.{Link}
use Rattle.cqf_model.specs.declared.topology.Node.{Node}
use Rattle.cqf_model.specs.Domain.{Domain, is_text, link_between, same_node}
use Rattle.cqf_topology.specs.DomainText.{IsOnlyLink, NoLinkTwice, is_among, first_taken, first_twice, same_ends}
use Rattle.cqf_topology.specs.FirstFaults.{HasTwin, IsFirstRepeated, IsFirstTwin, StoodEarlier, TakenIsFirstRepeated, TwiceIsFirstTwin}
use Rattle.cqf_topology.proofs.Accepted.{position-None}
use Rattle.cqf_topology.proofs.Repeats.{Repeats, first_repeat, first_repeat-None, first_repeat-Some}

-- the test on a link's ends passes if both are equal
leads-there : (from to_from : ℕ) (to to_to : Node) → from ≡ to_from → to ≡ to_to → ((from == to_from) && same_node to to_to) ≡ true
leads-there from to_from to to_to h e =
    let same : (from == to_from) ≡ true = grind (arith, nat_tests) in
    (λ i. same i && same_node to (sym e i)) ∙ same_node_itself to

-- and only then
pub leads-only : (from to_from : ℕ) (to to_to : Node) → ((from == to_from) && same_node to to_to) ≡ true → (from ≡ to_from) × (to ≡ to_to)
leads-only from to_from to to_to h =
    let parts = and_parts (from == to_from) (same_node to to_to) h in
    let first : (from == to_from) ≡ true = parts.0 in
    (grind (arith, nat_tests), same_node_true to to_to parts.1)

-- the reader's definition agrees with that of the lemmas
first_twice-repeat : (earlier links : List Link) → first_twice earlier links ≡ first_repeat same_ends earlier links
first_twice-repeat earlier [] = refl
first_twice-repeat earlier (l ∷ links) =
    ap (λ rest. cond (list_any (same_ends l) earlier) (Some (length earlier)) rest) (first_twice-repeat (earlier ++ l ∷ []) links)

-- a repeated link has a twin
has-twin : (links : List Link) (k : ℕ) → Repeats same_ends links k → HasTwin links k
has-twin links k r =
    let ends = leads-only r.b.from r.a.from r.b.to r.a.to r.equal in
    record { link = r.b; twin = r.a; before = r.twin; earlier = r.earlier; stood = r.at_twin; stands = r.at_index; same_from = ends.0; same_to = ends.1 }

-- a link with a twin is repeated
of-twin : (links : List Link) (k : ℕ) → HasTwin links k → Repeats same_ends links k
of-twin links k t = record {
  twin = t.before;
  earlier = t.earlier;
  a = t.twin;
  b = t.link;
  at_twin = t.stood;
  at_index = t.stands;
  equal = leads-there t.link.from t.twin.from t.link.to t.twin.to t.same_from t.same_to;
}

-- if none is reported, no link has a twin
twice-None : (links : List Link) → first_twice [] links ≡ None → (k : ℕ) → ¬ HasTwin links k
twice-None links none k t = first_repeat-None same_ends [] links (sym (first_twice-repeat [] links) ∙ none) k (omega arith) (of-twin links k t)

-- the link that is reported
pub twice-reported : TwiceIsFirstTwin
twice-reported links = by (first_twice [] links) refl
  where
    -- a link that is reported is the first twin, and if none is reported, there is none
    by : (o : Option ℕ) → first_twice [] links ≡ o → MatchOption o ((number : ℕ) → ¬ HasTwin links number) (λ number. IsFirstTwin links number)
    by None e = twice-None links e
    by (Some k) e =
        let f = first_repeat-Some same_ends [] links k (sym (first_twice-repeat [] links) ∙ e) in
        record { repeats = has-twin links k f.repeats; least = λ i before t. f.least i (omega arith) before (of-twin links i t) }

-- if none is reported, no link occurs twice
pub no-link-twice : (links : List Link) → first_twice [] links ≡ None → NoLinkTwice links
no-link-twice links none i j d before inside both =
    twice-None links none j (record {
      link = get_or links j d;
      twin = get_or links i d;
      before = i;
      earlier = before;
      stood = slice_get-get_or links i d (omega (arith, before, inside));
      stands = slice_get-get_or links j d inside;
      same_from = sym both.0;
      same_to = sym both.1;
    })

-- the link that is found is the one with these ends
pub only-link : (d : Domain) → NoLinkTwice d.links → (from : ℕ) (to : Node) → IsOnlyLink d from to (link_between d from to)
only-link d once from to l link at is_from is_to = by (link_between d from to) refl
  where
    -- whether a link has these ends
    leads : Link → Bool
    leads = λ (x : Link). (x.from == from) && same_node x.to to

    -- the link has these ends
    passes : leads link ≡ true
    passes = leads-there link.from from link.to to is_from is_to

    -- no earlier link has these ends
    apart : (k : ℕ) → k < l → slice_get d.links l ≡ Some link → leads (get_or d.links k link) ≡ true → ⊥
    apart k before there is =
        let ends = leads-only (get_or d.links k link).from from (get_or d.links k link).to to is in
        let last : get_or d.links l link ≡ link = get_or_from_slice_get d.links l link link there in
        once k l link before (slice_get_within d.links l link there)
        (ends.0 ∙ sym is_from ∙ ap (λ (x : Link). x.from) (sym last), ends.1 ∙ sym is_to ∙ ap (λ (x : Link). x.to) (sym last))

    -- the link that is found is this one
    by : (o : Option ℕ) → link_between d from to ≡ o → o ≡ Some l
    by None none = absurd (true≢false (sym passes ∙ position-None leads d.links none l link at))
    by (Some k) found =
        let (inside, is, least) = position-Some leads d.links k link found in
        elim (cases_lt k l) [
          | inl before ↦ absurd (apart k before at is)
          | inr not_before ↦ elim (cases_lt l k) [
            | inl later ↦
                let here : get_or d.links l link ≡ link = get_or_from_slice_get d.links l link link at in
                absurd (true≢false (sym passes ∙ ap leads (sym here) ∙ least l later))
            | inr not_later ↦ let same : k ≡ l = omega (arith, not_before, not_later) in ap Some same
          ]
        ]

-- names that are the same text, in the order in which the lemmas compare them
abbrev same_text : List ℕ → List ℕ → Bool
same_text name other = is_text other name

-- if no name is reported as taken, none repeats
taken-None : (earlier names : List (List ℕ)) → first_taken earlier names ≡ None → first_repeat same_text earlier names ≡ None
taken-None earlier [] h = refl
taken-None earlier (x ∷ names) h = by (is_among x earlier) (taken-None (earlier ++ x ∷ []) names) h
  where
    -- with one more name first that isn't taken, none repeats
    by : (b : Bool) → (first_taken (earlier ++ x ∷ []) names ≡ None → first_repeat same_text (earlier ++ x ∷ []) names ≡ None)
        → cond b (Some x) (first_taken (earlier ++ x ∷ []) names) ≡ None →
        cond b (Some (length earlier)) (first_repeat same_text (earlier ++ x ∷ []) names) ≡ None
    by true rest h = absurd (cc)
    by false rest h = rest h

-- the reported name is at the index of the first that repeats
record IsWrittenAt (earlier names : List (List ℕ)) (name : List ℕ) : Type 0 where
  index : ℕ
  first : first_repeat same_text earlier names ≡ Some index
  stands : slice_get (earlier ++ names) index ≡ Some name

-- the reported name occurred earlier, and it is the first such name
taken-Some : (earlier names : List (List ℕ)) (name : List ℕ) → first_taken earlier names ≡ Some name → IsWrittenAt earlier names name
taken-Some earlier [] name h = cc
taken-Some earlier (x ∷ names) name h = by (is_among x earlier) refl (taken-Some (earlier ++ x ∷ []) names name) h
  where
    -- the reported name is the first of the rest if it occurred earlier, and otherwise a later one
    by : (b : Bool) → is_among x earlier ≡ b → (first_taken (earlier ++ x ∷ []) names ≡ Some name → IsWrittenAt (earlier ++ x ∷ []) names name)
        → cond b (Some x) (first_taken (earlier ++ x ∷ []) names) ≡ Some name → IsWrittenAt earlier (x ∷ names) name
    by true e rest h =
        let same : x ≡ name = cc in
        record {
          index = length earlier;
          first = ap (λ b. cond b (Some (length earlier)) (first_repeat same_text (earlier ++ x ∷ []) names)) e;
          stands = slice_get_after earlier x names (length earlier) refl ∙ ap Some same;
        }
    by false e rest h =
        let reported = rest h in
        record {
          index = reported.index;
          first = ap (λ b. cond b (Some (length earlier)) (first_repeat same_text (earlier ++ x ∷ []) names)) e ∙ reported.first;
          stands = ap (λ all. slice_get all reported.index) (sym (append_assoc earlier (x ∷ []) names)) ∙ reported.stands;
        }

-- a name that occurred earlier repeats
of-earlier : (names : List (List ℕ)) (k : ℕ) → StoodEarlier names k → Repeats same_text names k
of-earlier names k s = record {
  twin = s.before;
  earlier = s.earlier;
  a = s.name;
  b = s.name;
  at_twin = s.stood;
  at_index = s.stands;
  equal =
      is_text_itself s.name;
}

-- a repeated name occurred earlier
stood-earlier : (names : List (List ℕ)) (k : ℕ) → Repeats same_text names k → StoodEarlier names k
stood-earlier names k r = record {
  name = r.b;
  before = r.twin;
  earlier = r.earlier;
  stood = r.at_twin ∙ ap Some (is_text_same r.a r.b r.equal);
  stands =
      r.at_index;
}

-- the name that is reported
pub taken-reported : TakenIsFirstRepeated
taken-reported names = by (first_taken [] names) refl
  where
    -- a name that is reported is the first repeated one, and if none is reported, none is repeated
    by : (o : Option (List ℕ)) → first_taken [] names ≡ o → MatchOption o ((index : ℕ) → ¬ StoodEarlier names index) (λ name. IsFirstRepeated names name)
    by None e = λ k s. first_repeat-None same_text [] names (taken-None [] names e) k (omega arith) (of-earlier names k s)
    by (Some name) e =
        let reported = taken-Some [] names name e in
        let f = first_repeat-Some same_text [] names reported.index reported.first in
        record {
          index = reported.index;
          stands = reported.stands;
          repeats = stood-earlier names reported.index f.repeats;
          least =
              λ i before s. f.least i (omega arith) before (of-earlier names i s);
        }
