use Rattle.std.proofs.Common.{sym, ◌∙◌}
use Rattle.std.proofs.lemmas.Bool.{false≢true}
use Rattle.judge.proofs.KeptFlags.{placed_first, kept_stay, kept_told, kept_judged, kept_clean, kept_loaded}
use Rattle.judge.proofs.laws.dues_follow.Goals as goal

pub returns : goal.returns
returns c = record {
  none = λ graph records cone plan looks off on. absurd (false≢true (sym off ∙ on));
  placed = placed_first;
  stay = kept_stay;
  told = kept_told;
  judged = kept_judged;
  clean = kept_clean;
  loaded = λ edges old new grown both was is still cone plan next store other targets others steps way way_then before after notes seen right.
      kept_loaded edges old new grown both was is cone plan next store other targets others steps way way_then before after notes still seen right;
}
