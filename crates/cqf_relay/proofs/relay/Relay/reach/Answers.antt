use Rattle.std.proofs.Common.{◌≤◌, ◌+◌, ◌≡◌, ap, arith, true}
use Rattle.std.specs.Prelude.{◌==◌}
use Rattle.std.specs.List.{list_any}
use Rattle.std.proofs.lemmas.List.Elements.{All-weaker}
use Rattle.cqf_relay.specs.declared.inlet.Inlet.{Inlet}
use Rattle.cqf_relay.specs.Sending.{most_of}
use Rattle.cqf_relay.proofs.Going.{link_read}
use Rattle.cqf_relay.proofs.relay.Relay.reach.Goals as goal

pub returns : goal.returns
returns c = record {
  tables = omega (arith, c.has_come.ensures.tables);
  cycles = omega arith;
  most = λ outlet at.
      let same = ap most_of (link_read c.args.self.now.outlets.items c.args.index c.index.result.now outlet c.index.ensures at) in
      omega (arith, c.most-most.ensures, same);
  needed = λ outlet at.
      let needs = λ (it : Inlet). list_any (λ m. m == it.link) outlet.leads.needs.items ≡ true in
      All-weaker (λ (it : Inlet). needs it → c.has_come.result ≤ it.upto) (λ (it : Inlet). needs it → c.min-2.result ≤ it.upto + 1)
      (λ it come need. omega (arith, come need)) c.args.self.now.inlets.items (c.has_come.ensures.needed.needed outlet at);
}
