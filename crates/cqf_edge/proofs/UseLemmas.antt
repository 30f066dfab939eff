-- What is handed to access links, stream by stream, and their bounds, link by link.
use Rattle.std.proofs.Common.{◌≡◌, ◌≢◌, ℕ, ◌+◌, ◌<◌, ◌++◌, ◌∷◌, [], ◌∙◌, Bool, true, false, List, Option, Some, None, ap, inl, inr, refl, sym}
use Rattle.std.proofs.Common.{add-one, append_assoc, append-nil, drop, drop-cons, get_or, length, map, set}
use Rattle.std.specs.Prelude.{◌==◌, if◌then◌else◌, slice_get}
use Rattle.std.specs.Option.{option_map_or}
use Rattle.std.proofs.lemmas.Bool.Decides.{eqb_tells}
use Rattle.std.proofs.lemmas.List.{flat_map_more, length-set}
use Rattle.std.proofs.lemmas.Option.{same_Some, slice_get-get_or}
use Rattle.cqf_lists.proofs.Written.{slice_get-set_other, slice_get-set_same}
use Rattle.cqf_traffic.specs.TrafficText.{promise_of}
use Rattle.cqf_network.specs.declared.domain.TalkerLink.{TalkerLink}
use Rattle.cqf_edge.specs.declared.uses.AccessBound.{AccessBound}
use Rattle.cqf_edge.specs.declared.uses.AccessUse.{AccessUse}
use Rattle.cqf_edge.specs.declared.uses.Handed.{Handed}
use Rattle.cqf_edge.specs.Uses.{AreUses, bound_for, bound_of, bounds_from, handed_to, is_handed_to, larger, other_beside, promise_in, promises_in, unpromised}

-- ---- one stream more

handed_last : (k : ℕ) (all : List (Option Handed)) (one : Option Handed) → handed_to k (all ++ one ∷ []) ≡
    handed_to k all ++ (if is_handed_to k one then option_map_or (λ handed. handed ∷ []) one [] else [])
handed_last k all one = sym (flat_map_more (λ (o : Option Handed). if is_handed_to k o then option_map_or (λ handed. handed ∷ []) o [] else []) [] all one)

handed_none : (k : ℕ) (all : List (Option Handed)) → handed_to k (all ++ None ∷ []) ≡ handed_to k all
handed_none k all = handed_last k all None ∙ append-nil (handed_to k all)

handed_here : (k : ℕ) (all : List (Option Handed)) (h : Handed) → (h.index == k) ≡ true → handed_to k (all ++ Some h ∷ []) ≡ handed_to k all ++ h ∷ []
handed_here k all h e =
    handed_last k all (Some h) ∙ ap (λ (b : Bool). handed_to k all ++ (if b then h ∷ [] else [])) e

handed_elsewhere : (k : ℕ) (all : List (Option Handed)) (h : Handed) → (h.index == k) ≡ false → handed_to k (all ++ Some h ∷ []) ≡ handed_to k all
handed_elsewhere k all h e =
    handed_last k all (Some h) ∙ ap (λ (b : Bool). handed_to k all ++ (if b then h ∷ [] else [])) e ∙ append-nil (handed_to k all)

other_last : (other : Option ℕ) (hs : List Handed) (h : Handed) → other_beside other (hs ++ h ∷ []) ≡ larger (other_beside other hs) (unpromised h)
other_last other [] h = refl
other_last other (x ∷ hs) h = other_last (larger other (unpromised x)) hs h

promises_last : (hs : List Handed) (h : Handed) → promises_in (hs ++ h ∷ []) ≡ promises_in hs ++ promise_in h
promises_last hs h = sym (flat_map_more promise_in [] hs h)

pub used_none : (links : List TalkerLink) (all : List (Option Handed)) (uses : List AccessUse) → AreUses links all uses → AreUses links (all ++ None ∷ []) uses
used_none links all uses r = record {
  each = r.each;
  others = λ k l v at there. r.others k l v at there ∙ ap (other_beside l.other) (sym (handed_none k all));
  promises = λ k v there. r.promises k v there ∙ ap promises_in (sym (handed_none k all));
}

pub used_more : (links : List TalkerLink) (all : List (Option Handed)) (uses : List AccessUse) (h : Handed) (old new : AccessUse) → AreUses links all uses →
    slice_get uses h.index ≡ Some old → h.index < length uses → new.other ≡ larger old.other (unpromised h) →
    map promise_of new.promises.items ≡ map promise_of old.promises.items ++ promise_in h → AreUses links (all ++ Some h ∷ []) (set uses h.index new)
used_more links all uses h old new r at_old inside other promises = record {
  each = length-set uses h.index new ∙ r.each;
  others = λ k l v at there. elim (eqb_tells h.index k) [
    | inl e ↦
        sym (ap (λ (w : AccessUse). w.other) (is_new k v e.1 there)) ∙ other
        ∙ ap (λ (o : Option ℕ). larger o (unpromised h)) (r.others k l old at (sym (ap (slice_get uses) e.1) ∙ at_old))
        ∙ sym (other_last l.other (handed_to k all) h)
        ∙ ap (other_beside l.other) (sym (handed_here k all h e.0))
    | inr e ↦ r.others k l v at (is_old k v e.1 there) ∙ ap (other_beside l.other) (sym (handed_elsewhere k all h e.0))
  ];
  promises = λ k v there. elim (eqb_tells h.index k) [
    | inl e ↦
        sym (ap (λ (w : AccessUse). map promise_of w.promises.items) (is_new k v e.1 there)) ∙ promises
        ∙ ap (λ (ps : List _). ps ++ promise_in h) (r.promises k old (sym (ap (slice_get uses) e.1) ∙ at_old))
        ∙ sym (promises_last (handed_to k all) h)
        ∙ ap promises_in (sym (handed_here k all h e.0))
    | inr e ↦ r.promises k v (is_old k v e.1 there) ∙ ap promises_in (sym (handed_elsewhere k all h e.0))
  ];
}
  where
    is_new : (k : ℕ) (v : AccessUse) → h.index ≡ k → slice_get (set uses h.index new) k ≡ Some v → new ≡ v
    is_new k v same there =
        same_Some new v (sym (slice_get-set_same uses h.index new inside) ∙ ap (slice_get (set uses h.index new)) same ∙ there)

    is_old : (k : ℕ) (v : AccessUse) → h.index ≢ k → slice_get (set uses h.index new) k ≡ Some v → slice_get uses k ≡ Some v
    is_old k v apart there = sym (slice_get-set_other uses h.index k new (λ same. apart (sym same))) ∙ there

-- ---- bounds

-- the bound of one link more
pub bounds_next : (links : List TalkerLink) (all : List (Option Handed)) (uses : List AccessUse) (bounds after : List AccessBound) (k : ℕ)
    (d : TalkerLink) (u : AccessUse) (found : AccessBound) → AreUses links all uses → k < length links → slice_get uses k ≡ Some u →
    after ≡ bounds ++ found ∷ [] → found ≡ bound_of (get_or links k d) u.other (map promise_of u.promises.items) →
    after ++ bounds_from all (k + 1) (drop (k + 1) links) ≡ bounds ++ bounds_from all k (drop k links)
bounds_next links all uses bounds after k d u found r inside there more e =
    ap (λ (xs : List AccessBound). xs ++ bounds_from all (k + 1) (drop (k + 1) links)) more
    ∙ append_assoc bounds (found ∷ []) (bounds_from all (k + 1) (drop (k + 1) links))
    ∙ ap (λ (x : AccessBound). bounds ++ (x ∷ bounds_from all (k + 1) (drop (k + 1) links))) right
    ∙ ap (λ (ls : List TalkerLink). bounds ++ bounds_from all k ls) (sym front)
  where
    at : slice_get links k ≡ Some (get_or links k d)
    at = slice_get-get_or links k d inside

    right : found ≡ bound_for all k (get_or links k d)
    right = e ∙ (λ i. bound_of (get_or links k d) (r.others k (get_or links k d) u at there i) (r.promises k u there i))

    front : drop k links ≡ get_or links k d ∷ drop (k + 1) links
    front = drop-cons links k d inside ∙ ap (λ (n : ℕ). get_or links k d ∷ drop n links) (sym (add-one k))
