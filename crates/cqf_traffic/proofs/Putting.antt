-- The offers of a talker's blocks, one after the other.
use Rattle.std.proofs.Common.{◌≡◌, ◌∙◌, ℕ, suc, ◌+◌, ◌<◌, ◌++◌, ◌∷◌, [], List, Option, add-one, append_assoc, append-nil, ap, arith, get_or, length, max, subst, sym, take}
use Rattle.std.proofs.lemmas.List.{length-take-le, take_more}
use Rattle.rand_pcg.specs.Lcg.{Lcg}
use Rattle.cqf_lists.specs.Lists.{each_below}
use Rattle.cqf_model.specs.declared.frames.Offer.{Offer}
use Rattle.cqf_traffic.specs.TrafficText.{TrafficText}
use Rattle.cqf_traffic.specs.declared.senders.TalkerStream.{TalkerStream}
use Rattle.cqf_traffic.specs.declared.talkers.Talker.{Talker}
use Rattle.cqf_traffic.specs.Offering.{after_word, block_before, late_by, on_grid, reached, sent_by, sent_from, words_after}

-- the frames of a block that comes in time
abbrev pub block_at : ℕ → TalkerStream → TrafficText → Option Lcg → ℕ → List Offer
block_at until sender t words block = block_before until sender t (reached t words (suc block))

-- the offers of the first blocks come after those from before, and the talker is at its next block
pub record ArePut (until : ℕ) (sender : TalkerStream) (t : TrafficText) (words : Option Lcg) (before : List Offer) (block : ℕ) (talker : Talker) (list : List Offer) : Type 0 where
  pub traffic_is : talker.traffic ≡ t
  pub words_are : talker.words ≡ words_after words block
  pub reached_is : talker.reached ≡ reached t words block
  pub put : list ≡ before ++ each_below (block_at until sender t words) block

module _ (until : ℕ) (sender : TalkerStream) (t : TrafficText) (words : Option Lcg) (before : List Offer) where
  -- before the first block
  pub none_put : (talker : Talker) → talker ≡ record { traffic = t; words = words; reached = 0 } → ArePut until sender t words before 0 talker before
  none_put talker is = record {
    traffic_is = ap (λ (w : Talker). w.traffic) is;
    words_are = ap (λ (w : Talker). w.words) is;
    reached_is = ap (λ (w : Talker). w.reached) is;
    put = sym (append-nil before);
  }

  -- one more block
  pub one_put : (block : ℕ) (talker after : Talker) (list more : List Offer) (at : ℕ) → ArePut until sender t words before block talker list →
      at ≡ max talker.reached (on_grid talker.traffic block + late_by talker.traffic.jitter talker.words) →
      after ≡ record talker { words = after_word talker.words; reached = at } → more ≡ list ++ block_before until sender t at →
      ArePut until sender t words before (block + 1) after more
  one_put block talker after list more at p comes is put =
      let now : at ≡ reached t words (suc block) =
      comes ∙ (λ i. max (p.reached_is i) (on_grid (p.traffic_is i) block + late_by (p.traffic_is i).jitter (p.words_are i))) in
      let next : ArePut until sender t words before (suc block) after more = record {
        traffic_is = ap (λ (w : Talker). w.traffic) is ∙ p.traffic_is;
        words_are = ap (λ (w : Talker). w.words) is ∙ ap after_word p.words_are;
        reached_is = ap (λ (w : Talker). w.reached) is ∙ now;
        put = put ∙ (λ i. p.put i ++ block_before until sender t (now i))
            ∙ append_assoc before (each_below (block_at until sender t words) block) (block_at until sender t words block);
      } in
      subst (λ n. ArePut until sender t words before n after more) (sym (add-one block)) next

-- what streams offer, and what one more stream offers
sent_push : (until : ℕ) (seed : Option ℕ) (n : ℕ) (senders : List TalkerStream) (s : TalkerStream) →
    sent_from until seed n (senders ++ s ∷ []) ≡ sent_from until seed n senders ++ sent_by until seed (n + length senders) s
sent_push until seed n [] s = append-nil (sent_by until seed n s) ∙ ap (λ k. sent_by until seed k s) (omega arith)
sent_push until seed n (x ∷ senders) s =
    let on : n + 1 + length senders ≡ n + suc (length senders) = omega arith in
    ap (λ rest. sent_by until seed n x ++ rest) (sent_push until seed (n + 1) senders s ∙ ap (λ k. sent_from until seed (n + 1) senders ++ sent_by until seed k s) on)
    ∙ sym (append_assoc (sent_by until seed n x) (sent_from until seed (n + 1) senders) (sent_by until seed (n + suc (length senders)) s))

-- what the streams before an index offer, and what the stream there offers
pub sent_more : (until : ℕ) (seed : Option ℕ) (senders : List TalkerStream) (k : ℕ) (s : TalkerStream) → k < length senders → s ≡ get_or senders k s →
    (list more : List Offer) → list ≡ sent_from until seed 0 (take k senders) → more ≡ list ++ sent_by until seed k s →
    more ≡ sent_from until seed 0 (take (k + 1) senders)
sent_more until seed senders k s inside is list more before put =
    let index : 0 + length (take k senders) ≡ k = omega (arith, length-take-le k senders (omega (arith, inside))) in
    let one : take k senders ++ s ∷ [] ≡ take (k + 1) senders = ap (λ x. take k senders ++ x ∷ []) is ∙ sym (take_more senders k s inside) in
    put ∙ ap (λ (xs : List Offer). xs ++ sent_by until seed k s) before
    ∙ ap (λ n. sent_from until seed 0 (take k senders) ++ sent_by until seed n s) (sym index)
    ∙ sym (sent_push until seed 0 (take k senders) s) ∙ ap (sent_from until seed 0) one
