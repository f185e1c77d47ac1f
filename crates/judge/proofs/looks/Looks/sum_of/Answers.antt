use Rattle.std.proofs.Common.{◌∙◌, ap}
use Rattle.judge.specs.declared.sums.Sums.{Sums}
use Rattle.judge.proofs.Summing.{sums_kept, marks_kept}
use Rattle.judge.proofs.looks.Looks.sum_of.Goals as goal

pub returns-in_err-sum-clause-summed : goal.returns-in_err-sum-clause-summed
returns-in_err-sum-clause-summed g c = sums_kept c.args.graph.now c.args.changed.now c.args.self.now.seen.items c.read_by.new.self.seen.items c.read_by.ensures.looked.stays c.args.self.now.sums c.read_by.new.self.sums c.read_by.ensures.sums c.requires.summed

pub returns-in_err-sum-clause-marked : goal.returns-in_err-sum-clause-marked
returns-in_err-sum-clause-marked g c = marks_kept c.args.graph.now c.args.changed.now c.args.self.now.seen.items c.read_by.new.self.seen.items c.read_by.ensures.looked.stays c.args.self.now.sums c.read_by.new.self.sums c.read_by.ensures.sums

pub returns-in_err-note-clause-summed : goal.returns-in_err-note-clause-summed
returns-in_err-note-clause-summed g c = c.note.ensures.summed c.args.graph.now c.args.changed.now c.read_by.new.self.seen.items (sums_kept c.args.graph.now c.args.changed.now c.args.self.now.seen.items c.read_by.new.self.seen.items c.read_by.ensures.looked.stays c.args.self.now.sums c.read_by.new.self.sums c.read_by.ensures.sums c.requires.summed) c.in_ok-sum.ensures.sum

pub returns-in_err-note-clause-marked : goal.returns-in_err-note-clause-marked
returns-in_err-note-clause-marked g c marked = c.note.ensures.marked c.args.graph.now c.args.changed.now c.read_by.new.self.seen.items (marks_kept c.args.graph.now c.args.changed.now c.args.self.now.seen.items c.read_by.new.self.seen.items c.read_by.ensures.looked.stays c.args.self.now.sums c.read_by.new.self.sums c.read_by.ensures.sums marked) c.in_ok-sum.ensures.lasts

pub returns-clause-summed : goal.returns-clause-summed
returns-clause-summed g c = c.note.ensures.summed c.args.graph.now c.args.changed.now c.read_by.new.self.seen.items (sums_kept c.args.graph.now c.args.changed.now c.args.self.now.seen.items c.read_by.new.self.seen.items c.read_by.ensures.looked.stays c.args.self.now.sums c.read_by.new.self.sums c.read_by.ensures.sums c.requires.summed) c.in_ok-sum.ensures.sum

pub returns-clause-marked : goal.returns-clause-marked
returns-clause-marked g c marked = c.note.ensures.marked c.args.graph.now c.args.changed.now c.read_by.new.self.seen.items (marks_kept c.args.graph.now c.args.changed.now c.args.self.now.seen.items c.read_by.new.self.seen.items c.read_by.ensures.looked.stays c.args.self.now.sums c.read_by.new.self.sums c.read_by.ensures.sums marked) c.in_ok-sum.ensures.lasts

pub returns-in_err-sum-clause-answers : goal.returns-in_err-sum-clause-answers
returns-in_err-sum-clause-answers g c = ap (λ (s : Sums). s.answers) c.read_by.ensures.sums

pub returns-in_err-note-clause-answers : goal.returns-in_err-note-clause-answers
returns-in_err-note-clause-answers g c = c.note.ensures.answers ∙ ap (λ (s : Sums). s.answers) c.read_by.ensures.sums

pub returns-clause-answers : goal.returns-clause-answers
returns-clause-answers g c = c.note.ensures.answers ∙ ap (λ (s : Sums). s.answers) c.read_by.ensures.sums
