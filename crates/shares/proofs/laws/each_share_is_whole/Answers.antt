use Rattle.shares.proofs.Telling.{each_share}
use Rattle.shares.proofs.laws.each_share_is_whole.Goals as goal

pub returns : goal.returns
returns c = each_share
