use Rattle.log_text.proofs.deps_laws.has_format.Goals as goal

pub returns : goal.returns
returns c =
    let records = c.has_reader.ensures in
    let deps = c.has_reader-2.ensures in
    (record { records = records.0; deps = deps.0 }, record { records = records.1; deps = deps.1 })
