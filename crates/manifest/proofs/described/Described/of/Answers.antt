use Rattle.std.proofs.Common.{ap, length, map, ◌∙◌}
use Rattle.manifest.proofs.Describing.{name_of, named_count}
use Rattle.manifest.proofs.GraphMade.{lines_within, as_many}
use Rattle.manifest.proofs.described.Described.of.Goals as goal

pub generators-requires-clause-count : goal.generators-requires-clause-count
generators-requires-clause-count c = as_many c.args.declared.now _ c.requires.stated.1

pub generators-requires-clause-within : goal.generators-requires-clause-within
generators-requires-clause-within c = lines_within c.args.declared.now.paths c.requires.formed.paths

pub returns-clause-rules : goal.returns-clause-rules
returns-clause-rules c = c.in_ok-names.ensures ∙ ap (map name_of) c.as_slice.ensures.value

pub returns-clause-fits : goal.returns-clause-fits
returns-clause-fits c =
    let count = as_many c.args.declared.now _ c.requires.stated.1 in
    let named = named_count c.as_slice.result.now c.in_ok-names.names c.in_ok-names.rules.items c.in_ok-names.ensures in
    record { rules = named ∙ (ap length c.as_slice.ensures.value ∙ count); generators = c.in_ok-generators.ensures.count ∙ count }
