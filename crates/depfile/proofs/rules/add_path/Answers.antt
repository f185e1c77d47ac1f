use Rattle.std.proofs.Common.{◌∙◌, ap, map}
use Rattle.std.specs.Cow.{cow_str_bytes}
use Rattle.depfile.specs.Signs.{signs, spelled}
use Rattle.depfile.specs.Words.{front_word}
use Rattle.depfile.proofs.Once.{path_put}
use Rattle.depfile.proofs.rules.add_path.Goals as goal

pub returns-clause-adds : goal.returns-clause-adds
returns-clause-adds c all kept =
    let still = ap (map cow_str_bytes) c.make_room.ensures ∙ kept in
    path_put (spelled (front_word (signs c.args.word.now.from.now))) all c.make_room.new.paths.keys c.insert.new.self.keys c.in_ok-path.path c.in_ok-path.ensures.found c.in_ok-insert.ensures.keys still
