-- One item more at each of several ports.
use Rattle.std.proofs.Common.{ℕ, ◌≡◌, ◌<◌, ◌≤◌, ◌++◌, List, length, get_or, ap, ◌∙◌, arith}
use Rattle.std.specs.Prelude.{drop, take}
use Rattle.std.proofs.lemmas.List.{append-nil, drop_all, take_all}
use Rattle.cqf_worker_loops.specs.declared.link_ends.LinkEnd.{LinkEnd}
use Rattle.cqf_worker_loops.specs.PipeEnds.{End}
use Rattle.cqf_worker_loops.specs.Rows.{MayHaveGot}

module _ {T : Type 0} where
  -- the first count ports may have got an item, and the others are unchanged
  pub record AreGiven (x : T) (ports now : List (LinkEnd (End T))) (index : ℕ) : Type 0 where
    pub all : length now ≡ length ports
    pub before : (k : ℕ) (d : LinkEnd (End T)) → k < index → MayHaveGot x (get_or ports k d) (get_or now k d)
    pub following : (k : ℕ) (d : LinkEnd (End T)) → index ≤ k → get_or now k d ≡ get_or ports k d

-- a list in the place of one of the same length
pub written_back : {X : Type 0} (xs ys : List X) (n : ℕ) → length xs ≡ length ys → n ≡ length ys → take n (xs ++ drop (length xs) ys) ≡ xs
written_back {X} xs ys n same is =
    ap (take n) (ap (λ (rest : List X). xs ++ rest) (drop_all (length xs) ys (omega (arith, same))) ∙ append-nil xs) ∙ take_all n xs (omega (arith, same, is))
