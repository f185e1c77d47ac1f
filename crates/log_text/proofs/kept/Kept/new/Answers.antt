use Rattle.std.proofs.Common.{◌∙◌, [], length, slice_get, refl, sym, ap, subst}
use Rattle.log_text.specs.Kept.{AreDistinct, AreTold}
use Rattle.log_text.proofs.KeptRecords.{none_twice}
use Rattle.log_text.proofs.kept.Kept.new.Goals as goal

pub returns : goal.returns
returns g c = record {
  once = tt;
  distinct = subst AreDistinct (sym c.new.ensures) none_twice;
  fits = ap length c.new-2.ensures.items ∙ sym (ap length c.new.ensures);
  place = λ n o is. let none = ap (λ l. slice_get l n) (sym c.new.ensures) ∙ is in absurd (cc);
  absent = λ o none. refl;
  told = subst (λ ts. AreTold c.new.result ts []) (sym c.new-3.ensures.items) tt;
  count = refl;
}
