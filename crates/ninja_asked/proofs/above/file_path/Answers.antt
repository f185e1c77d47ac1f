use Rattle.ninja_asked.proofs.Gathering.{empty_file, err_is, file_by}
use Rattle.ninja_asked.proofs.above.file_path.Goals as goal

pub returns-in-Ok : goal.returns-in-Ok
returns-in-Ok c = file_by c.args.declared.now c.args.name.now _ _ c.one_form.ensures c.in-Ok.ensures.found c.as_str.ensures.value c.number_of.result c.number_of.ensures

pub returns-in-Err-EmptyPath : goal.returns-in-Err-EmptyPath
returns-in-Err-EmptyPath c = empty_file c.args.declared.now c.args.name.now (c.canonical.ensures.empty.0 (err_is _ _ _ c.in-Err-EmptyPath.is c.in-Err-EmptyPath.field-0-is))
