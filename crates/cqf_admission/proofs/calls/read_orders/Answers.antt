-- Each line adds its order to those read so far.
use Rattle.std.proofs.Common.{◌≡◌, ◌∙◌, ◌++◌, [], ◌∷◌, ◌+◌, ◌-◌, Ok, Err, ap, length, map, arith}
use Rattle.std.proofs.lemmas.Grind.{common_steps}
use Rattle.std.proofs.lemmas.List.{map-append}
use Rattle.std.specs.List.{after_first, before_first}
use Rattle.cqf_text.specs.Lines.{is_line_feed, lines_of}
use Rattle.cqf_admission.specs.Asking.{asked_paced}
use Rattle.cqf_admission.specs.Orders.{ordered_in}
use Rattle.cqf_admission.specs.Placed.{LineEnds}
use Rattle.cqf_admission.specs.Script.{call_of_line, script_of}
use Rattle.cqf_admission.proofs.Few.{AreFew-script}
use Rattle.cqf_admission.proofs.ReadLines.{line_at, orders-one_more, read-fault, read-one_more}
use Rattle.cqf_admission.proofs.calls.read_orders.Goals as goal

pub returns-in-Err-clause-orders : goal.returns-in-Err-clause-orders
returns-in-Err-clause-orders c = λ other.
    let requests = map asked_paced c.args.names.now in
    let text = c.args.text.now in
    let position = c.loop-line.position in
    let line = c.in-Some.line.now in
    let left = c.loop-line.left.now in
    let following = c.in-Some.following.now in
    let seat = c.administrators-seat.result in
    let so_far = c.loop-line.invariant.0 in
    let first : lines_of left ≡ line ∷ lines_of following = rw (c.in-Some.line-is, c.in-Some.following-is) c.in-Some.ensures.lines in
    let is_line : line ≡ before_first is_line_feed left = ap (λ l. l.now) c.in-Some.line-is ∙ c.in-Some.ensures.line in
    let ends : LineEnds text (length text - length left + length line) line =
    line_at text left line c.loop-line.invariant.1.rest (omega (arith, so_far.inside, so_far.counted)) is_line in
    let bad : call_of_line requests seat c.args.cycles position.line position.sealed position.called line ≡ Err c.in-Err.fault =
    c.in-Err.ensures.value text ends other in
    read-fault requests seat c.args.cycles text (map (ordered_in requests text) c.loop-line.orders.items) position.line position.sealed position.called
    left line following c.in-Err.fault so_far c.administrators-seat.ensures first bad

pub loop-line-preserved : goal.loop-line-preserved
loop-line-preserved c =
    let requests = map asked_paced c.args.names.now in
    let text = c.args.text.now in
    let show = ordered_in requests text in
    let position = c.loop-line.position in
    let next = c.following-position.result in
    let orders = c.loop-line.orders.items in
    let line = c.in-Some.line.now in
    let left = c.loop-line.left.now in
    let following = c.in-Some.following.now in
    let so_far = c.loop-line.invariant.0 in
    let stood = c.loop-line.invariant.1 in
    let first : lines_of left ≡ line ∷ lines_of following = rw (c.in-Some.line-is, c.in-Some.following-is) c.in-Some.ensures.lines in
    let seat = c.administrators-seat.result in
    let is_line : line ≡ before_first is_line_feed left = ap (λ l. l.now) c.in-Some.line-is ∙ c.in-Some.ensures.line in
    let is_after : following ≡ after_first is_line_feed left = ap (λ l. l.now) c.in-Some.following-is ∙ c.in-Some.ensures.rest in
    let ends : LineEnds text (length text - length left + length line) line =
    line_at text left line stood.rest (omega (arith, so_far.inside, so_far.counted)) is_line in
    let good : call_of_line requests seat c.args.cycles position.line position.sealed position.called line ≡ Ok (show c.in-Ok.order) =
    ap (λ l. call_of_line requests seat c.args.cycles position.line position.sealed position.called l.now) c.in-Some.line-is ∙ c.in-Ok.ensures.value text ends in
    let more : c.push.new.self.items ≡ orders ++ c.in-Ok.order ∷ [] = c.in_ok-push.ensures.items in (
      read-one_more requests seat c.args.cycles text (map show orders) (map show c.push.new.self.items) position.line next.line position.sealed position.called
          next.sealed next.called left line following (show c.in-Ok.order)
          so_far first (omega (arith, c.in-Some.ensures.shorter)) good (ap (map show) more ∙ map-append show orders (c.in-Ok.order ∷ []))
          c.following-position.ensures.line c.following-position.ensures.sealed c.following-position.ensures.called,
      orders-one_more requests text orders c.push.new.self.items left following c.in-Ok.order stood (c.in-Ok.ensures.stands text ends) more is_after,
    )

-- the orders are few
pub returns-clause-few : goal.returns-clause-few
returns-clause-few c =
    let requests = map asked_paced c.args.names.now in
    let show = ordered_in requests c.args.text.now in
    let read : script_of requests c.args.cycles c.args.text.now ≡ Ok (map show c.loop-line.orders.items) = grind (arith, common_steps) in
    AreFew-script requests c.args.cycles c.args.text.now (map show c.loop-line.orders.items) read
