use Rattle.judge.proofs.Summing.{sums_stay, marks_stay, sums_last, marks_last}
use Rattle.judge.proofs.laws.sums_follow.Goals as goal

pub returns : goal.returns
returns c = record {
  sums = sums_stay;
  marks = marks_stay;
  last_sums = sums_last;
  last_marks = marks_last;
}
