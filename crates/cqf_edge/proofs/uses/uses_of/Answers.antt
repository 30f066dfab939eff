use Rattle.std.proofs.Common.{◌≡◌, ◌∙◌, ◌+◌, ◌<◌, ◌++◌, ◌∷◌, [], List, Option, Vec, ap, arith, length, refl, set, subst, sym, take}
use Rattle.std.specs.declared.alloc.Global.{Global}
use Rattle.std.proofs.lemmas.List.{take_more}
use Rattle.std.proofs.lemmas.Option.{slice_get_read}
use Rattle.cqf_edge.specs.declared.uses.AccessUse.{AccessUse}
use Rattle.cqf_edge.specs.declared.uses.Handed.{Handed}
use Rattle.cqf_edge.specs.Uses.{AreUses}
use Rattle.cqf_edge.proofs.UseLemmas.{used_more, used_none}
use Rattle.cqf_edge.proofs.uses.uses_of.Goals as goal
use Rattle.cqf_edge.proofs.uses.uses_of.Goals.{in-Some+in_ok-put, in_default}

pub loop-one-preserved : goal.loop-one-preserved
loop-one-preserved c =
    let links = c.args.links.now in
    let all = c.args.all.now in
    let k = c.loop-one.one-index in
    let uses = c.loop-one.uses.items in
    let item = c.one-item.result in
    let inside : k < length all = omega (arith, c.loop-one-test.true) in
    let next : take (k + 1) all ≡ take k all ++ item ∷ [] =
    take_more all k item inside ∙ ap (λ (x : Option Handed). take k all ++ x ∷ []) (sym c.one-item.is) in
    elim c.match-one.branch [
      | in-Some+in_ok-put w ↦
          let h = w.in-Some.handed in
          let old = w.index_mut.result.now in
          let new = w.put.new.self in
          let there : h.index < length links = c.requires k item inside h (sym c.one-item.is ∙ w.in-Some.is) in
          let within : h.index < length uses = omega (arith, there, c.loop-one.invariant.each) in
          let made = used_more links (take k all) uses h old new c.loop-one.invariant
          (slice_get_read uses (length uses) h.index old refl within w.index_mut.ensures.value) within w.in_ok-put.ensures.other w.in_ok-put.ensures.promises in
          subst (λ (v : Vec AccessUse Global). AreUses links (take (k + 1) all) v.items) (sym w.uses-is)
          (subst (λ (xs : List (Option Handed)). AreUses links xs (set uses h.index new))
          (sym (next ∙ ap (λ (x : Option Handed). take k all ++ x ∷ []) w.in-Some.is)) made)
      | in_default w ↦
          subst (λ (v : Vec AccessUse Global). AreUses links (take (k + 1) all) v.items) (sym w.uses-is)
          (subst (λ (xs : List (Option Handed)). AreUses links xs uses)
          (sym (next ∙ ap (λ (x : Option Handed). take k all ++ x ∷ []) w.in_default.is)) (used_none links (take k all) uses c.loop-one.invariant))
    ]
