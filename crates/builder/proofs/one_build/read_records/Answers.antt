use Rattle.std.proofs.Common.{[], append-nil, sym}
use Rattle.builder.proofs.one_build.read_records.Goals as goal

-- they are known of the graph for which they were read
pub returns-clause-read : goal.returns-clause-read
returns-clause-read g c =
    let read = c.in_ok-read.ensures.read in
    let graph = c.args.graph.now in (
      read.0,
      read.1,
      record { paths = graph.manifest.paths; more = []; grown = sym (append-nil graph.manifest.paths); outputs = λ e p made. c.lists_stand.ensures.outputs_within e p made; known = read.2; told = read.3 },
      read.4,
    )
