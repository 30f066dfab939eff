-- Each step on a pipe keeps its rule.
use Rattle.std.proofs.Common.{◌≡◌, ◌≢◌, ℕ, zero, suc, ◌+◌, ◌<◌, true, false, true≢false, List, [], ◌∷◌, ◌++◌, length}
use Rattle.std.proofs.Common.{set, sym, refl, ap, ◌∙◌, subst, ⊎_elim, append_assoc, append-nil, arith}
use mathlib.Core.Option.{some, some-ne-none}
use lib.ListN.{get_elem?}
use Rattle.std.proofs.lemmas.List.{length-append}
use Rattle.crossbeam_channel.specs.Fifo.{Pushes, Pops, Forks, Merges, Learns}
use Rattle.atomic_table.proofs.Lists.{at_set, at_snoc}
use Rattle.cqf_worker_loops.specs.declared.pipe_rule.Bundle.{Bundle}
use Rattle.cqf_worker_loops.specs.declared.pipe_rule.PipeLog.{PipeLog}
use Rattle.cqf_worker_loops.specs.PipeRule.{FitsPass, IsPut, IsRest, IsTaken, Piped, bundle_items, items_of, log, most_items}

module _ {T : Type 0} where
  -- an element of an extended list that wasn't in the original at the same index is at the end
  at_end : (l : List (PipeLog T)) (a b : PipeLog T) (j : ℕ) → get_elem? l j ≢ some b → get_elem? (l ++ a ∷ []) j ≡ some b → j ≡ length l
  at_end [] a b zero n e = refl
  at_end [] a b (suc j) n e = absurd (some-ne-none b (sym e))
  at_end (x ∷ xs) a b zero n e = absurd (n e)
  at_end (x ∷ xs) a b (suc j) n e = ap suc (at_end xs a b j n e)

  -- what holds of each view, by the pass's number
  abbrev Each : (ℕ → PipeLog T → Type 0) → List (PipeLog T) → Type 0
  Each F views = (pass : ℕ) (v : PipeLog T) → get_elem? views pass ≡ some v → F pass v

  -- it holds of each after one view is replaced, if it holds of the new one and held of the others
  each_set : (F : ℕ → PipeLog T → Type 0) (views : List (PipeLog T)) (pass : ℕ) (w : PipeLog T) → F pass w
      → ((j : ℕ) (u : PipeLog T) → j ≢ pass → get_elem? views j ≡ some u → F j u) → Each F (set views pass w)
  each_set F views pass w mine others j u e = ⊎_elim (λ (x : (j ≡ pass) × (w ≡ u)). subst (λ (y : ℕ × PipeLog T). F y.0 y.1) (λ i. (sym x.0 i, x.1 i)) mine)
      (λ (x : (j ≢ pass) × (get_elem? views j ≡ some u)). others j u x.0 x.1) (at_set views pass j w u e)

  -- making a pass: nothing was put
  pub begins : Piped [] (log {T = T} true true [] [] ∷ [])
  begins = record {
    putter = 0;
    taker = 0;
    put = [];
    taken = [];
    in_order = refl;
    few = omega arith;
    each = each_set (FitsPass 0 0 [] []) (log true true [] [] ∷ []) 0 (log true true [] []) ((λ _. (refl, refl)), λ _. (refl, refl))
        (λ j u other e. absurd (other (at_end [] _ u j (λ x. some-ne-none u (sym x)) e)));
  }

  -- one more bundle adds its items after those of the others
  items_snoc : (held : List (Bundle T)) (x : Bundle T) → items_of (held ++ x ∷ []) ≡ items_of held ++ bundle_items x
  items_snoc [] x = append-nil (bundle_items x)
  items_snoc (b ∷ bs) x = ap (λ l. bundle_items b ++ l) (items_snoc bs x) ∙ sym (append_assoc (bundle_items b) (items_of bs) (bundle_items x))

  -- sending: one more bundle was put, and waits after the others
  pub sends : (n pass : ℕ) (v : PipeLog T) (x : Bundle T) → v.puts ≡ true → length v.put + length x.following.items < most_items
      → Pushes Piped n pass v x (IsPut v x)
  sends n pass v x may room items views _ h at =
      let w : PipeLog T = log v.puts v.takes (v.put ++ bundle_items x) v.taken in
      let mine = h.each pass v at in
      let put = h.put ++ bundle_items x in
      let before : length v.put ≡ length h.put = ap length (mine.0 may).1 in (
        w,
        record {
          putter = h.putter;
          taker = h.taker;
          put = put;
          taken = h.taken;
          in_order = ap (λ l. l ++ bundle_items x) h.in_order ∙ append_assoc h.taken (items_of items) (bundle_items x)
              ∙ ap (λ l. h.taken ++ l) (sym (items_snoc items x));
          few = omega (arith, length-append h.put (bundle_items x), before, room);
          each = each_set (FitsPass h.putter h.taker put h.taken) views pass w
              ((λ _. ((mine.0 may).0, ap (λ l. l ++ bundle_items x) (mine.0 may).1)), mine.1)
              (λ j u other e. ((λ p. absurd (other (((h.each j u e).0 p).0 ∙ sym (mine.0 may).0))), (h.each j u e).1));
        },
        refl,
      )

  -- receiving: the first bundle of those that wait was taken
  pub receives : (pass : ℕ) (v : PipeLog T) → v.takes ≡ true → Pops Piped pass v (IsTaken v)
  receives pass v may x items views h at =
      let w : PipeLog T = log v.puts v.takes v.put (v.taken ++ bundle_items x) in
      let mine = h.each pass v at in
      let taken = h.taken ++ bundle_items x in
      let in_order : h.put ≡ taken ++ items_of items = h.in_order ∙ sym (append_assoc h.taken (bundle_items x) (items_of items)) in
      let is : w.taken ≡ taken = ap (λ l. l ++ bundle_items x) (mine.1 may).1 in (
        w,
        record {
          putter = h.putter;
          taker = h.taker;
          put = h.put;
          taken = taken;
          in_order = in_order;
          few = h.few;
          each = each_set (FitsPass h.putter h.taker h.put taken) views pass w
              (mine.0, λ _. ((mine.1 may).0, is))
              (λ j u other e. ((h.each j u e).0, λ p. absurd (other (((h.each j u e).1 p).0 ∙ sym (mine.1 may).0))));
        },
        (refl, omega (arith, ap length is, ap length in_order, length-append taken (items_of items), h.few)),
      )

  -- splitting a pass: one may put, the other may take
  pub forks : (pass : ℕ) (v : PipeLog T) → v.puts ≡ true → v.takes ≡ true → Forks Piped pass v (log true false v.put []) (log false true [] v.taken)
  forks pass v a b items views h at =
      let l : PipeLog T = log true false v.put [] in
      let r : PipeLog T = log false true [] v.taken in
      let mine = h.each pass v at in
      let vs : List (PipeLog T) = set views pass l in
      let Old : ℕ → PipeLog T → Type 0 = λ j u. (u.puts ≡ true → (j ≡ h.putter) × (u.put ≡ h.put)) × (u.takes ≢ true) in
      let old : Each Old vs = each_set Old views pass l ((λ _. mine.0 a), λ p. true≢false (sym p))
      (λ j u other e. ((h.each j u e).0, λ p. other (((h.each j u e).1 p).0 ∙ sym (mine.1 b).0))) in
      record {
        putter = h.putter;
        taker = length vs;
        put = h.put;
        taken = h.taken;
        in_order = h.in_order;
        few = h.few;
        each = λ j u e. ⊎_elim (λ x. ((old j u x).0, λ p. absurd ((old j u x).1 p)))
            (λ (is : r ≡ u). (
              (λ p. absurd (true≢false (sym (ap (λ (y : PipeLog T). y.puts) is ∙ p)))),
              λ p. (at_end vs r u j (λ x. (old j u x).1 p) e, ap (λ (y : PipeLog T). y.taken) (sym is) ∙ (mine.1 b).1),
            ))
            (at_snoc vs r u j e);
      }

  -- joining a pass: what one has put and the other has taken is in one view
  pub merges : (pass : ℕ) (v : PipeLog T) (other : ℕ) (u : PipeLog T) → v.puts ≡ true → u.takes ≡ true
      → Merges Piped pass v other u (log true true v.put u.taken) (log false false [] [])
  merges pass v other u a b items views h at two at' =
      let both : PipeLog T = log true true v.put u.taken in
      let mine = h.each pass v at in
      let vs : List (PipeLog T) = set views pass both in
      let was : get_elem? views other ≡ some u = ⊎_elim (λ x. absurd (two x.0)) (λ x. x.1) (at_set views pass other both u at') in
      let theirs = (h.each other u was).1 b in
      let Now : ℕ → PipeLog T → Type 0 = λ j y. j ≢ other → FitsPass h.putter pass h.put h.taken j y in
      let now' : Each Now vs = each_set Now views pass both (λ _. ((λ _. mine.0 a), λ _. (refl, theirs.1)))
      (λ j y _ e apart. ((h.each j y e).0, λ p. absurd (apart (((h.each j y e).1 p).0 ∙ sym theirs.0)))) in
      record {
        putter = h.putter;
        taker = pass;
        put = h.put;
        taken = h.taken;
        in_order = h.in_order;
        few = h.few;
        each = each_set (FitsPass h.putter pass h.put h.taken) vs other (log false false [] [])
            ((λ p. absurd (true≢false (sym p))), λ p. absurd (true≢false (sym p))) (λ j y apart e. now' j y e apart);
      }

  -- closing: what waits is what was put and not taken
  pub totals : (pass : ℕ) (v : PipeLog T) → v.puts ≡ true → v.takes ≡ true → Learns Piped pass v (IsRest v)
  totals pass v a b items views h at =
      let mine = h.each pass v at in
      (mine.0 a).1 ∙ h.in_order ∙ ap (λ l. l ++ items_of items) (sym (mine.1 b).1)
