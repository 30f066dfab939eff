use Rattle.std.proofs.Common.{◌∙◌, ap, codes}
use Rattle.toml.specs.View.{table_view}
use Rattle.cqf_program_without.specs.Links.{exchange}
use Rattle.cqf_program_without.proofs.links.reverse.Goals as goal

pub returns : goal.returns
returns c =
    c.in_ok-exchange-2.ensures
    ∙ ap (exchange (codes "interface") (codes "far-interface"))
    (c.in_ok-exchange.ensures ∙ (λ i. exchange (c.as_str.ensures i) (c.as_str-2.ensures i) (table_view c.args.element.now)))
