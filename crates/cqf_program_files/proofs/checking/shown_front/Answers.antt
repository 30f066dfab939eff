use Rattle.std.proofs.Common.{◌≤◌, arith, length, sym}
use Rattle.std.proofs.lemmas.List.{length-take-le, take_all}
use Rattle.cqf_program_files.proofs.checking.shown_front.Goals as goal

pub slice_bounds-result-end : goal.slice_bounds-result-end
slice_bounds-result-end c =
    let long : 64 ≤ length c.args.octets.now = omega (arith, c.if-octets-le-MOST_SHOWN.false) in
    sym (length-take-le 64 c.args.octets.now long)

pub returns-then-octets-le-MOST_SHOWN : goal.returns-then-octets-le-MOST_SHOWN
returns-then-octets-le-MOST_SHOWN c = sym (take_all 64 c.args.octets.now c.if-octets-le-MOST_SHOWN.true)
