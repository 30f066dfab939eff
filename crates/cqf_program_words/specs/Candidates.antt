-- The candidates for a cycle time that a word names.
use Rattle.std.specs.Prelude.{ℕ, ◌≡◌, ◌⊎◌, ◌+◌, ◌-◌, ◌*◌, ◌/◌, ◌<◌, ◌≤◌, ◌++◌, List, [], ◌∷◌, Option, Some, None, codes, if◌then◌else◌, nat_le}
use Rattle.std.specs.Option.{option_and_then}
use Rattle.clap.specs.Words.{Text}
use Rattle.cqf_lists.specs.Lists.{each_below}
use Rattle.cqf_text.specs.Decimal.{decimal_in, decimal_value}
use Rattle.cqf_program_words.specs.declared.candidates.Candidates.{Candidates}

-- the cycle time that a text writes, in nanoseconds
abbrev pub cycle_time_in : Text → Option ℕ
cycle_time_in text = decimal_in 10000 10000000 text

-- a step from one candidate to the next, in nanoseconds: at least 1, of at most twenty digits. A step above the longest cycle counts as the
-- longest cycle: either leads beyond every last candidate, so only the first is left
abbrev pub step_from : ℕ → Option ℕ
step_from step = if nat_le 1 step then Some (if nat_le step 10000000 then step else 10000000) else None

abbrev pub step_in : Text → Option ℕ
step_in text = option_and_then step_from (decimal_value text)

-- candidates from the first, each a step after the one before it, up to the last, and at most 1,000 of them: by the texts of these three
-- values
pub record AreFromTo (from to step : Text) (c : Candidates) : Type 0 where
  pub first : cycle_time_in from ≡ Some c.first
  pub last : cycle_time_in to ≡ Some c.last
  pub by_step : step_in step ≡ Some c.step
  pub ordered : c.first ≤ c.last
  pub few : c.last < c.first + 1000 * c.step

-- the word FROM..TO/STEP
abbrev pub range_word : Text → Text → Text → Text
range_word from to step = from ++ (codes ".." ++ (to ++ (codes "/" ++ step)))

-- a word names candidates: one cycle time alone, or FROM..TO/STEP
abbrev pub AreNamed : Text → Candidates → Type 0
AreNamed word c = AreFromTo word word (codes "1") c
    ⊎ ((from : Text) × (to : Text) × (step : Text) × (word ≡ range_word from to step) × AreFromTo from to step c)

-- how many there are
abbrev pub count_of : Candidates → ℕ
count_of c = (c.last - c.first) / c.step + 1

-- the candidates: FROM, FROM + STEP, .. up to TO
abbrev pub times_of : Candidates → List ℕ
times_of c = each_below (λ k. (c.first + k * c.step) ∷ []) (count_of c)
