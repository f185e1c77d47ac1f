use Rattle.std.proofs.Common.{rules, tests, ◌≡◌, Some, sym, ◌∙◌}
use Rattle.std.proofs.lemmas.Iterator.Search.{all_from_yields_List}
use Rattle.std.proofs.lemmas.Iterator.Adapters.{YieldsList-from_bytes}
use Rattle.std.specs.Char.{is_ascii_digit}
use Rattle.manifest.specs.Numbers.{all_digits}
use Rattle.manifest.proofs.DepthLemmas.{all_ascii, empty_has_none, other_has_none, larger_has_none, depth_is}
use Rattle.manifest.proofs.numbers.depth_in.Goals as goal
use Rattle.manifest.proofs.numbers.depth_in.Goals.{then-is_empty-via-then-is_empty, then-is_empty-via-else-is_empty+then-not-all}

pub returns-then-is_empty : goal.returns-then-is_empty
returns-then-is_empty c = elim c.then-is_empty.branch [
  | then-is_empty-via-then-is_empty w ↦ empty_has_none c.args.text.now (sym c.is_empty.ensures ∙ w.if-is_empty.true)
  | then-is_empty-via-else-is_empty+then-not-all w ↦
      let all : w.all.result ≡ all_digits c.args.text.now =
      all_from_yields_List is_ascii_digit _ _ w.all.result w.all.ensures.ran (YieldsList-from_bytes c.args.text.now w.bytes.ensures.rest) (λ x b q k. search (rules, tests)) ∙ all_ascii c.args.text.now in
      other_has_none c.args.text.now (sym all ∙ w.if-not-all.true)
]

pub returns-then-depth-gt-LARGEST_DEPTH : goal.returns-then-depth-gt-LARGEST_DEPTH
returns-then-depth-gt-LARGEST_DEPTH c =
    let all : c.all.result ≡ all_digits c.args.text.now =
    all_from_yields_List is_ascii_digit _ _ c.all.result c.all.ensures.ran (YieldsList-from_bytes c.args.text.now c.bytes.ensures.rest) (λ x b q k. search (rules, tests)) ∙ all_ascii c.args.text.now in
    larger_has_none c.args.text.now c.leading_number-depth.result (sym c.is_empty.ensures ∙ c.if-is_empty.false) (sym all ∙ c.if-not-all.false) c.leading_number-depth.ensures c.if-depth-gt-LARGEST_DEPTH.true

pub returns : goal.returns
returns c =
    let all : c.all.result ≡ all_digits c.args.text.now =
    all_from_yields_List is_ascii_digit _ _ c.all.result c.all.ensures.ran (YieldsList-from_bytes c.args.text.now c.bytes.ensures.rest) (λ x b q k. search (rules, tests)) ∙ all_ascii c.args.text.now in
    let fits : c.ok.result ≡ Some c.leading_number-depth.result = search rules in
    fits ∙ depth_is c.args.text.now c.leading_number-depth.result (sym c.is_empty.ensures ∙ c.if-is_empty.false) (sym all ∙ c.if-not-all.false) c.leading_number-depth.ensures c.if-depth-gt-LARGEST_DEPTH.false
