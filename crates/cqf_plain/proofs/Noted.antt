-- The ports' next starts in order, one after the other.
use Rattle.std.proofs.Common.{◌≡◌, ℕ, ◌+◌, ◌≤◌, ◌<◌, ◌⊎◌, ◌++◌, Bool, true, false, List, [], ◌∷◌, Some, None, sym, refl}
use Rattle.std.proofs.Common.{ap, ◌∙◌, inl, inr, arith, subst, append-nil, append_assoc, get_or, length, take}
use Rattle.std.specs.Prelude.{IsSome, cond}
use Rattle.std.specs.BTreeMap.{BTreeMap, IsLowerBound, Updates, get, is_at}
use Rattle.std.specs.Cmp.{ranks}
use Rattle.std.specs.Map.{lookup}
use Rattle.std.specs.declared.cmp.Ordering.{Ordering}
use Rattle.std.specs.declared.cmp.Ordering.TheVariants.{Less, Equal, Greater}
use Rattle.std.specs.Ordering.{MatchOrdering, is_eq, is_gt, nat_cmp, ordering_then}
use Rattle.std.proofs.lemmas.Bool.{false≢true, true≢false}
use Rattle.std.proofs.lemmas.List.{take_all, take_more}
use Rattle.std.proofs.lemmas.List.Concat.{flat_map-append}
use Rattle.std.proofs.lemmas.List.Elements.{Contains-append_left, Contains-push, Contains-push_cases}
use Rattle.cqf_lists.proofs.Members.{contains_none}
use Rattle.cqf_port.specs.NextStart.{StartsNext}
use Rattle.cqf_bridge.specs.PortRecord.{PortRecord}
use Rattle.cqf_bridge.specs.Quiet.{IsNextStartOf}
use Rattle.cqf_plain.specs.declared.driven.RunBridge.{RunBridge}
use Rattle.cqf_plain.specs.Due.{AreNextStarts, HasNothing, IsAmong, IsNoted, Moment, Moments, NoneBefore, NothingComes, by_moment, ports_of}

-- what doesn't compare as greater isn't later
not_later : (a b : ℕ) (o r : Ordering) → MatchOrdering o (a < b) (a ≡ b) (b < a) → is_gt (ordering_then o r) ≡ false → a ≤ b
not_later a b Less r h e = omega (arith, h)
not_later a b Equal r h e = omega (arith, h)
not_later a b Greater r h e = absurd (true≢false e)

-- what compares as equal is equal
same_moment : (a b l m : ℕ) (o r : Ordering) → MatchOrdering o (a < b) (a ≡ b) (b < a) → MatchOrdering r (l < m) (l ≡ m) (m < l) →
    is_eq (ordering_then o r) ≡ true → (a ≡ b) × (l ≡ m)
same_moment a b l m Less r h k e = absurd (true≢false (sym e))
same_moment a b l m Equal Less h k e = absurd (true≢false (sym e))
same_moment a b l m Equal Equal h k e = (h, k)
same_moment a b l m Equal Greater h k e = absurd (true≢false (sym e))
same_moment a b l m Greater r h k e = absurd (true≢false (sym e))

-- a number compares as equal to itself
equal_itself : (a : ℕ) (o : Ordering) → MatchOrdering o (a < a) (a ≡ a) (a < a) → o ≡ Equal
equal_itself a Less h = absurd (omega (arith, h))
equal_itself a Equal h = refl
equal_itself a Greater h = absurd (omega (arith, h))

-- so does a moment
itself : (x : Moment) → is_eq (by_moment x x) ≡ true
itself x = ap (λ (o : Ordering). is_eq (ordering_then o (nat_cmp x.1 x.1))) (equal_itself x.0.0 (nat_cmp x.0.0 x.0.0) (ranks x.0.0 x.0.0))
    ∙ ap is_eq (equal_itself x.1 (nat_cmp x.1 x.1) (ranks x.1 x.1))

-- a test has one of two results
either : (b : Bool) → (b ≡ true) ⊎ (b ≡ false)
either true = inl refl
either false = inr refl

-- if the first isn't before an instant, none is
pub first_is_least : (due : BTreeMap Moment ℕ) (x : Moment) (end : ℕ) → IsLowerBound by_moment due x → end ≤ x.0.0 → NoneBefore end due.entries
first_is_least due x end least late k among =
    omega (arith, late, not_later x.0.0 k.0.0 (nat_cmp x.0.0 k.0.0) (nat_cmp x.1 k.1) (ranks x.0.0 k.0.0) (least k among))

module _ (x : Moment) (v : ℕ) (before after : BTreeMap Moment ℕ) (updates : Updates by_moment before after x (Some v)) where
  -- what is inserted is there
  puts_it : IsAmong after.entries x
  puts_it = subst IsSome (sym (updates.0 x ∙ ap (λ (b : Bool). cond b (Some v) (get by_moment before x)) (itself x))) refl

  -- and so is what was there before
  puts_beside : (k : Moment) → IsAmong before.entries k → IsAmong after.entries k
  puts_beside k among = elim (either (is_eq (by_moment x k))) [
    | inl e ↦ subst IsSome (sym (updates.0 k ∙ ap (λ (b : Bool). cond b (Some v) (get by_moment before k)) e)) refl
    | inr e ↦ subst IsSome (sym (updates.0 k ∙ ap (λ (b : Bool). cond b (Some v) (get by_moment before k)) e)) among
  ]

  -- and nothing else is
  puts_only : (k : Moment) → IsAmong after.entries k → IsAmong before.entries k ⊎ ((x.0.0 ≡ k.0.0) × (x.1 ≡ k.1))
  puts_only k among = elim (either (is_eq (by_moment x k))) [
    | inl e ↦ inr (same_moment x.0.0 k.0.0 x.1 k.1 (nat_cmp x.0.0 k.0.0) (nat_cmp x.1 k.1) (ranks x.0.0 k.0.0) (ranks x.1 k.1) e)
    | inr e ↦ inl (subst IsSome (updates.0 k ∙ ap (λ (b : Bool). cond b (Some v) (get by_moment before k)) e) among)
  ]

  -- so one more is recorded
  pub one_noted : (ports : List PortRecord) (r : PortRecord) → AreNextStarts before.entries ports → IsNextStartOf r (Some x) →
      AreNextStarts after.entries (ports ++ r ∷ [])
  one_noted ports r so next = record {
    noted = λ q held. elim (Contains-push_cases ports r q held) [
      | inl old ↦ (elim (so.noted q old) [
        | inl none ↦ inl none
        | inr some ↦ inr (some.0, some.1, puts_beside (some.0, q.link) some.2)
      ])
      | inr new ↦ subst (IsNoted after.entries) new (inr (x.0, next.0, subst (λ (l : ℕ). IsAmong after.entries (x.0, l)) next.1 puts_it))
    ];
    only = λ k among. elim (puts_only k among) [
      | inl was ↦ (let w = so.only k was in (w.0, Contains-append_left ports (r ∷ []) w.0 w.1, w.2, w.3))
      | inr same ↦ (r, Contains-push ports r, subst (λ (t : ℕ). StartsNext r.port t) same.0 next.0, sym same.1 ∙ next.1)
    ];
  }

-- a port that starts no more has nothing to record
pub none_noted : (due : Moments) (ports : List PortRecord) (r : PortRecord) → AreNextStarts due ports → IsNextStartOf r None →
    AreNextStarts due (ports ++ r ∷ [])
none_noted due ports r so never = record {
  noted = λ q held. elim (Contains-push_cases ports r q held) [
    | inl old ↦ so.noted q old
    | inr new ↦ subst (IsNoted due) new (inl never)
  ];
  only = λ k among. let w = so.only k among in (w.0, Contains-append_left ports (r ∷ []) w.0 w.1, w.2, w.3);
}

-- at first none is
pub nothing_due : (due : Moments) → due ≡ [] → AreNextStarts due []
nothing_due due none = record {
  noted = λ q held. absurd (contains_none q held);
  only = λ k among. absurd (false≢true (subst (λ (es : Moments). IsSome (lookup (is_at (by_moment k)) es)) none among));
}

-- the ports of one more bridge
pub ports_more : (xs : List RunBridge) (s : RunBridge) → ports_of (xs ++ s ∷ []) ≡ ports_of xs ++ s.bridge.ports
ports_more xs s =
    flat_map-append (λ (y : RunBridge). y.bridge.ports) xs (s ∷ []) ∙ ap (λ (rs : List PortRecord). ports_of xs ++ rs) (append-nil s.bridge.ports)

-- the first element of some
first_of : {X : Type 0} (xs : List X) → 0 < length xs → X
first_of [] none = absurd (omega (arith, none))
first_of (x ∷ xs) some = x

-- one more port of a bridge
pub next_noted : (due : Moments) (ports own : List PortRecord) (index : ℕ) → index < length own →
    ((e : PortRecord) → AreNextStarts due ((ports ++ take index own) ++ get_or own index e ∷ [])) → AreNextStarts due (ports ++ take (index + 1) own)
next_noted due ports own index inside so =
    let e = first_of own (omega (arith, inside)) in
    subst (AreNextStarts due) (append_assoc ports (take index own) (get_or own index e ∷ []) ∙ ap (λ (rs : List PortRecord). ports ++ rs)
    (sym (take_more own index e inside)))
    (so e)

-- and in the end all
pub all_noted : (due : Moments) (ports own : List PortRecord) (index : ℕ) → length own ≤ index → AreNextStarts due (ports ++ take index own) →
    AreNextStarts due (ports ++ own)
all_noted due ports own index past so = subst (λ (rs : List PortRecord). AreNextStarts due (ports ++ rs)) (take_all index own past) so

-- the ports of one more bridge
pub bridge_noted : (due : Moments) (bridges : List RunBridge) (index : ℕ) (s : RunBridge) → index < length bridges →
    AreNextStarts due (ports_of (take index bridges) ++ (get_or bridges index s).bridge.ports) → AreNextStarts due (ports_of (take (index + 1) bridges))
bridge_noted due bridges index s inside so =
    subst (AreNextStarts due)
    (sym (ap ports_of (take_more bridges index s inside) ∙ ports_more (take index bridges) (get_or bridges index s))) so

-- there is nothing for one more bridge
pub nothing_more : (cycle : ℕ) (bridges : List RunBridge) (index : ℕ) (s : RunBridge) → index < length bridges → s ≡ get_or bridges index s →
    NothingComes cycle (take index bridges) → HasNothing cycle s → NothingComes cycle (take (index + 1) bridges)
nothing_more cycle bridges index s inside is so more =
    subst (NothingComes cycle) (sym (take_more bridges index s inside ∙ ap (λ (x : RunBridge). take index bridges ++ x ∷ []) (sym is)))
    (λ x held. elim (Contains-push_cases (take index bridges) s x held) [
      | inl old ↦ so x old
      | inr new ↦ subst (HasNothing cycle) new more
    ])
