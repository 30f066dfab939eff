-- The kinds of elements, and the keys whose values are compared.
use Rattle.std.specs.Prelude.{ℕ, List, [], ◌∷◌, codes}
use Rattle.cqf_program_diff.specs.declared.kinds.Kind.{Kind}
use Rattle.cqf_program_diff.specs.declared.kinds.Kind.TheVariants.{Network, Bridge, Station, Link, Stream}

abbrev pub name_of_kind : Kind → List ℕ
name_of_kind Network = codes "network"
name_of_kind Bridge = codes "bridge"
name_of_kind Station = codes "station"
name_of_kind Link = codes "link"
name_of_kind Stream = codes "stream"

-- the keys of a network file, in the order of an element's values
abbrev pub keys_of : Kind → List (List ℕ)
keys_of Network = codes "cycle" ∷ codes "guard" ∷ codes "sync" ∷ codes "gate-overhead" ∷ []
keys_of Bridge = []
keys_of Station = []
keys_of Link = codes "rate" ∷ codes "delay" ∷ codes "guard" ∷ codes "other" ∷ []
keys_of Stream =
    codes "path" ∷ codes "octets" ∷ codes "every" ∷ codes "phase" ∷ codes "deadline" ∷ codes "from" ∷ codes "least-size"
    ∷ codes "interval" ∷ codes "frames" ∷ codes "size" ∷ codes "jitter" ∷ codes "offset" ∷ []
