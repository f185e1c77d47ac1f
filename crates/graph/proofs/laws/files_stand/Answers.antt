use Rattle.graph.proofs.FilesNamed.{files_stand_so}
use Rattle.graph.proofs.laws.files_stand.Goals as goal

pub returns : goal.returns
returns c = files_stand_so
