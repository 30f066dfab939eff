use Rattle.std.proofs.Common.{AllPairs, List, ap, length, subst, sym, ◌<◌}
use Rattle.cqf_lists.specs.ByNumber.{AreListsBy, lists_of}
use Rattle.cqf_model.specs.declared.topology.Row.{Row}
use Rattle.cqf_program_tc.specs.Rows.{AreByBridge, indices_in}
use Rattle.cqf_program_tc.specs.Variables.{variable_at}
use Rattle.cqf_program_tc.proofs.command.plan_ready.Goals as goal

pub stream_variables-requires : goal.stream_variables-requires
stream_variables-requires c = subst (λ (rows : List Row). AllPairs (λ (a b : Row). a.no < b.no) rows) (sym c.as_slice-2.ensures.value) c.requires.numbers

pub returns-clause-ready : goal.returns-clause-ready
returns-clause-ready c =
    let d = c.args.found.domain in
    record {
      paced = c.requires.paced;
      by_bridge = subst (λ (rows : List Row). AreByBridge d rows (indices_in c.in_ok-indices.indices.items)) c.as_slice.ensures.value c.in_ok-indices.ensures;
      named = record {
        of_links = c.in_ok-links.ensures;
        of_streams = subst (λ (rows : List Row). AreListsBy (variable_at rows) (length rows) (lists_of c.in_ok-streams.streams.items))
            c.as_slice-2.ensures.value c.in_ok-streams.ensures;
      };
    }
