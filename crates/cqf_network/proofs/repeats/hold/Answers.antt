use Rattle.std.proofs.Common.{◌∙◌, ◌++◌, ◌∷◌, [], ap, cond, map}
use Rattle.std.proofs.lemmas.List.{map-append}
use Rattle.cqf_network.specs.Edges.{pair_of}
use Rattle.cqf_network.proofs.PairLemmas.{list_any-held}
use Rattle.cqf_network.proofs.repeats.hold.Goals as goal

pub returns : goal.returns
returns c =
    let keys = c.args.held.now.keys in
    let pair = c.args.pair in
    ap (map pair_of) (c.in_ok-insert.ensures.keys ∙ ap (λ b. cond b keys (keys ++ pair ∷ [])) (list_any-held pair.0 pair.1 keys ∙ c.requires))
    ∙ map-append pair_of keys (pair ∷ [])
