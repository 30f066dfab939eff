use Rattle.std.proofs.Common.{rules}
use Rattle.std.specs.Prelude.{nat_le}
use Rattle.std.proofs.lemmas.Fn.{filter_same}
use Rattle.cqf_relay.specs.declared.log.ArrivedFrame.{ArrivedFrame}
use Rattle.cqf_relay.proofs.Sources.{keeps_from}
use Rattle.cqf_relay.proofs.log.SourceLog.let_go.Goals as goal

pub returns-then-gone-len : goal.returns-then-gone-len
returns-then-gone-len c =
    keeps_from c.args.before c.args.self.now.frames.items c.retain.new.self.items
    (filter_same _ (λ (came : ArrivedFrame). nat_le c.args.before came.cycle) _ (λ x b f q. search rules) _ _ c.retain.ensures.filtered)
