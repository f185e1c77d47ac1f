use Rattle.std.proofs.Common.{◌≡◌, ◌<◌, ◌||◌, ◌&&◌, ◌==◌, true, false, ℕ, Bool, List, length, nat_lt, ap, ◌∙◌, arith, lit<, eq-eqb}
use Rattle.std.proofs.lemmas.Bool.{lt-ltb}
use Rattle.std.proofs.lemmas.Iterator.Splits.{YieldsList-from_str_split}
use Rattle.std.proofs.lemmas.List.Splits.{length-slice_split}
use Rattle.manifest.specs.Numbers.{is_newer, version_parts, number_of_first, behind_first, IsNumber, largest_number}
use Rattle.manifest.proofs.VersionLemmas.{first_number, second_number, above_same, equal_same, either_first, either_both, either_none}
use Rattle.manifest.proofs.numbers.is_newer.Goals as goal

newer_same : (text : List ℕ) (major minor : ℕ) → IsNumber major (number_of_first (version_parts text)) → IsNumber minor (number_of_first (behind_first (version_parts text)))
    → (nat_lt 1 major || ((major == 1) && nat_lt 12 minor)) ≡ is_newer text
newer_same text major minor first second =
    let one = above_same largest_number major (number_of_first (version_parts text)) 1 (lit< tt) first in
    let same = equal_same largest_number major (number_of_first (version_parts text)) 1 (lit< tt) first in
    let twelve = above_same largest_number minor (number_of_first (behind_first (version_parts text))) 12 (lit< tt) second in
    ap (λ (flag : Bool). flag || ((major == 1) && nat_lt 12 minor)) one
    ∙ ap (λ (flag : Bool). nat_lt 1 (number_of_first (version_parts text)) || (flag && nat_lt 12 minor)) same
    ∙ ap (λ (flag : Bool). nat_lt 1 (number_of_first (version_parts text)) || ((number_of_first (version_parts text) == 1) && flag)) twelve

some_part : (text : List ℕ) → 0 < length (version_parts text)
some_part text = omega (arith, length-slice_split (λ b. b == 46) text)

pub returns-then-major-gt1 : goal.returns-then-major-gt1
returns-then-major-gt1 c =
    let road = YieldsList-from_str_split 46 c.args.version.now (lit< tt) c.split-parts.ensures.text c.split-parts.ensures.has_more c.split-parts.ensures.pattern in
    let first = first_number road c.next.result c.next.new.self c.number_of-major.result c.next.ensures.steps c.number_of-major.ensures in
    let second = second_number road c.next.result c.next-2.result c.next.new.self c.next-2.new.self c.number_of-minor.result (some_part c.args.version.now) c.next.ensures.steps c.next-2.ensures.steps c.number_of-minor.ensures in
    let same = newer_same c.args.version.now c.number_of-major.result c.number_of-minor.result first second in
    let above : nat_lt 1 c.number_of-major.result ≡ true = lt-ltb 1 c.number_of-major.result c.if-major-gt1.true in
    either_first _ (c.number_of-major.result == 1) (nat_lt 12 c.number_of-minor.result) above ∙ same

pub returns-then-major-eq1 : goal.returns-then-major-eq1
returns-then-major-eq1 c =
    let road = YieldsList-from_str_split 46 c.args.version.now (lit< tt) c.split-parts.ensures.text c.split-parts.ensures.has_more c.split-parts.ensures.pattern in
    let first = first_number road c.next.result c.next.new.self c.number_of-major.result c.next.ensures.steps c.number_of-major.ensures in
    let second = second_number road c.next.result c.next-2.result c.next.new.self c.next-2.new.self c.number_of-minor.result (some_part c.args.version.now) c.next.ensures.steps c.next-2.ensures.steps c.number_of-minor.ensures in
    let same = newer_same c.args.version.now c.number_of-major.result c.number_of-minor.result first second in
    let below : nat_lt 1 c.number_of-major.result ≡ false = grind (arith, c.if-major-gt1.false) in
    let equal : (c.number_of-major.result == 1) ≡ true = eq-eqb c.number_of-major.result 1 c.if-major-eq1.true in
    either_both (nat_lt 1 c.number_of-major.result) (c.number_of-major.result == 1) _ below equal ∙ same

pub returns-else-major-eq1 : goal.returns-else-major-eq1
returns-else-major-eq1 c =
    let road = YieldsList-from_str_split 46 c.args.version.now (lit< tt) c.split-parts.ensures.text c.split-parts.ensures.has_more c.split-parts.ensures.pattern in
    let first = first_number road c.next.result c.next.new.self c.number_of-major.result c.next.ensures.steps c.number_of-major.ensures in
    let second = second_number road c.next.result c.next-2.result c.next.new.self c.next-2.new.self c.number_of-minor.result (some_part c.args.version.now) c.next.ensures.steps c.next-2.ensures.steps c.number_of-minor.ensures in
    let same = newer_same c.args.version.now c.number_of-major.result c.number_of-minor.result first second in
    let below : nat_lt 1 c.number_of-major.result ≡ false = grind (arith, c.if-major-gt1.false) in
    let unequal : (c.number_of-major.result == 1) ≡ false = grind (arith, c.if-major-eq1.false) in
    either_none (nat_lt 1 c.number_of-major.result) _ (nat_lt 12 c.number_of-minor.result) below unequal ∙ same
