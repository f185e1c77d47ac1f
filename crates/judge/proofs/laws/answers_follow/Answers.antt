use Rattle.judge.proofs.Answered.{answers_none, answers_stay, answers_told}
use Rattle.judge.proofs.LoadedAnswers.{answers_again}
use Rattle.judge.proofs.laws.answers_follow.Goals as goal

pub returns : goal.returns
returns c = record {
  none = answers_none;
  stay = answers_stay;
  told = λ graph old new same seen answers right. answers_told old new same graph seen answers right;
  loaded = λ edges old new grown both was is still seen answers left others right. answers_again edges old new grown both was is still seen answers left others right;
}
