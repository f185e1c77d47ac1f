use Rattle.judge.proofs.Kept.{kept_before, kept_after, file_kept}
use Rattle.judge.proofs.LooksStay.{looked_none, looked_then}
use Rattle.judge.proofs.laws.looks_follow.Goals as goal

pub returns-clause-follow : goal.returns-clause-follow
returns-clause-follow c tells a b d = record {
  none = λ graph looks. looked_none tells graph a looks;
  looked = λ graph first second third one two. looked_then tells graph a b d first second third one two;
  earlier = λ told set one two kept. kept_before set a.history b.history d.history (one.history told).more (two.history told).more (one.history told).grows (two.history told).grows kept;
  later = λ told set one two kept. kept_after set a.history b.history d.history (one.history told).more (two.history told).more (one.history told).grows (two.history told).grows kept;
}

pub returns-clause-stay : goal.returns-clause-stay
returns-clause-stay c tells old new told set looks kept p is = file_kept set old.history new.history (looks.history told).more (looks.history told).grows kept p is
