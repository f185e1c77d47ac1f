use Rattle.theory.proofs.Looks.{looks_then}
use Rattle.ninja_asked.proofs.processors.default_jobs.Goals as goal
use Rattle.ninja_asked.proofs.processors.default_jobs.Goals.{in-Some, in-None}

pub returns-in-2-clause-looks : goal.returns-in-2-clause-looks
returns-in-2-clause-looks g c = elim c.match-granted.branch [
  | in-Some w ↦ rw w.texts-is (looks_then g.R.Texts.tells (g.R.Texts.world c.args.texts.now) (g.R.Texts.world c.granted.new.texts) (g.R.Texts.world w.allowed.new.texts) c.granted.ensures w.allowed.ensures)
  | in-None w ↦ rw w.texts-is (looks_then g.R.Texts.tells (g.R.Texts.world c.args.texts.now) (g.R.Texts.world c.granted.new.texts) (g.R.Texts.world w.allowed-processors.new.texts) c.granted.ensures w.allowed-processors.ensures)
]

pub returns-in-0-clause-looks : goal.returns-in-0-clause-looks
returns-in-0-clause-looks g c = elim c.match-granted.branch [
  | in-Some w ↦ rw w.texts-is (looks_then g.R.Texts.tells (g.R.Texts.world c.args.texts.now) (g.R.Texts.world c.granted.new.texts) (g.R.Texts.world w.allowed.new.texts) c.granted.ensures w.allowed.ensures)
  | in-None w ↦ rw w.texts-is (looks_then g.R.Texts.tells (g.R.Texts.world c.args.texts.now) (g.R.Texts.world c.granted.new.texts) (g.R.Texts.world w.allowed-processors.new.texts) c.granted.ensures w.allowed-processors.ensures)
]

pub returns-in_default-clause-looks : goal.returns-in_default-clause-looks
returns-in_default-clause-looks g c = elim c.match-granted.branch [
  | in-Some w ↦ rw w.texts-is (looks_then g.R.Texts.tells (g.R.Texts.world c.args.texts.now) (g.R.Texts.world c.granted.new.texts) (g.R.Texts.world w.allowed.new.texts) c.granted.ensures w.allowed.ensures)
  | in-None w ↦ rw w.texts-is (looks_then g.R.Texts.tells (g.R.Texts.world c.args.texts.now) (g.R.Texts.world c.granted.new.texts) (g.R.Texts.world w.allowed-processors.new.texts) c.granted.ensures w.allowed-processors.ensures)
]
