use Rattle.std.proofs.Common.{◌≡◌, ◌<◌, ◌≤◌, List, [], ◌∷◌, None, length, refl, arith}
use Rattle.toml.specs.declared.value.Value.{Value}
use Rattle.toml.specs.View.{items_view}
use Rattle.cqf_topology.specs.LinkTimes.{delays_of_two}
use Rattle.cqf_topology.proofs.times.delays_of_two.Goals as goal

-- one value, or none, isn't two
few : (values : List Value) → length values < 2 → None ≡ delays_of_two (items_view values)
few [] below = refl
few (a ∷ []) below = refl
few (a ∷ b ∷ more) below = absurd (omega (arith, below))

-- nor are three and more
many : (values : List Value) → 3 ≤ length values → None ≡ delays_of_two (items_view values)
many [] some = absurd (omega (arith, some))
many (a ∷ []) some = absurd (omega (arith, some))
many (a ∷ b ∷ []) some = absurd (omega (arith, some))
many (a ∷ b ∷ c ∷ more) some = refl

pub returns-in_default : goal.returns-in_default
returns-in_default c = few c.args.values.now (omega (arith, c.in_default.len_below))

pub returns-in_default-2 : goal.returns-in_default-2
returns-in_default-2 c = many c.args.values.now (omega (arith, c.in_default.len_at_least))
