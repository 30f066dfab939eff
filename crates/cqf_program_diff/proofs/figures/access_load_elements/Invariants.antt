-- The elements so far.
use Rattle.std.proofs.Common.{◌≡◌, map, take}
use Rattle.cqf_program_diff.specs.Figures.{access_load_element}
use Rattle.cqf_program_diff.proofs.figures.access_load_elements.Given as goal

abbrev pub invariant-loop-load : goal.invariant-loop-load
invariant-loop-load l = l.elements.items ≡ map access_load_element (take l.load-index l.loads)
