use Rattle.std.proofs.Common.{◌≡◌, ◌∙◌, ◌&&◌, ◌++◌, [], Bool, ap, arith, codes, cond, length, map, not, refl, sym, true, ℕ}
use Rattle.cqf_model.specs.Domain.{leaves}
use Rattle.cqf_output.proofs.WriterLemmas.{Puts-as, Puts-nil, Puts-then}
use Rattle.cqf_program_json.specs.Arrays.{end_text, front_text, is_nil, listed}
use Rattle.cqf_program_json.specs.Text.{left_below, port_text}
use Rattle.cqf_program_json.proofs.Listing.{first_more, nil_map, ports_more}
use Rattle.cqf_program_json.proofs.ports.put_ports.Goals as goal

pub loop-link-init : goal.loop-link-init
loop-link-init g c = record { put = Puts-nil _ _; first = refl }

pub loop-link-preserved : goal.loop-link-preserved
loop-link-preserved g c =
    let d = c.args.wired.domain.now in
    let bridge = c.args.bridge in
    let text = port_text d c.args.wired.links.now in
    let link = c.loop-link.link in
    let so_far = c.loop-link.invariant in
    record {
      put = Puts-as _ _ (sym (ports_more text d bridge link)) (Puts-then _ _ so_far.put
          (Puts-as _ _ (ap (λ (b : Bool). cond (leaves d link bridge) (front_text b ++ text link) []) so_far.first)
          c.put_port_of_link-is_first.ensures.puts));
      first = c.put_port_of_link-is_first.ensures.first ∙ ap (λ (b : Bool). b && not (leaves d link bridge)) so_far.first
          ∙ sym (first_more text d bridge link);
    }

pub returns : goal.returns
returns g c =
    let d = c.args.wired.domain.now in
    let bridge = c.args.bridge in
    let text = port_text d c.args.wired.links.now in
    let so_far = c.loop-link.invariant in
    let all : c.loop-link.link ≡ length d.links = omega (arith, c.loop-link-test.false, c.loop-link.auto.link-end, c.links-link-end.ensures) in
    Puts-then _ _ c.put.ensures
    (Puts-then _ _ (Puts-as _ _ (ap (λ (n : ℕ). listed true (map text (left_below d bridge n))) all) so_far.put)
    (Puts-as _ _ (ap (end_text (codes "      ")) (so_far.first ∙ ap (λ (n : ℕ). is_nil (left_below d bridge n)) all
    ∙ sym (nil_map text (left_below d bridge (length d.links))))) c.put_end.ensures))
