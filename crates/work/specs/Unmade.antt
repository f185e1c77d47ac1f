-- What a run knows of paths that no command makes.
use Rattle.graph.specs.declared.graph.Graph.{Graph}
use Rattle.judge.specs.Lasting.{KeepsUnmade, AreMarked}
use Rattle.work.specs.declared.state.Work.{Work}
use Rattle.judge.specs.Summed.{AreSums}

-- of them the run still knows what was seen, and whether they were made anew
abbrev pub KnowsUnmade : Work → Work → Type 0
KnowsUnmade old new = KeepsUnmade old.graph old.plan.changed.items old.looks.seen.items new.plan.changed.items new.looks.seen.items

-- what was summed up of phony edges is right by what the run has seen and made anew so far,
abbrev pub AreSumsOf : Graph → Work → Type 0
AreSumsOf graph state = AreSums graph state.plan.changed.items state.looks.seen.items state.looks.sums

-- and so are the marks of sums that no command changes
abbrev pub AreMarkedOf : Graph → Work → Type 0
AreMarkedOf graph state = AreMarked graph state.plan.changed.items state.looks.seen.items state.looks.sums
