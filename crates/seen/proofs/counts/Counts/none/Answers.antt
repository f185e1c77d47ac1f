use Rattle.std.proofs.Common.{◌≡◌, ℕ, List, [], Option, Some, None, refl, ap, sym, ◌∙◌}
use Rattle.seen.specs.Beginning.{started_by}
use Rattle.seen.proofs.counts.Counts.none.Goals as goal

none_some : {job : ℕ} → None ≡ Some job → ⊥
none_some e = cc

none_started : (maker : Option ℕ) → started_by [] maker ≡ None
none_started None = refl
none_started (Some job) = refl

pub returns : goal.returns
returns c = record {
  table = c.new-2.ensures.table;
  room = λ p job is. absurd (none_some (sym (c.new-2.ensures.none p) ∙ is));
  none = λ maker. ap (λ (starts : List (Option ℕ)). started_by starts maker) c.new-4.ensures.items ∙ none_started maker;
}
