use Rattle.std.proofs.Common.{◌≡◌, ◌∷◌, ◌++◌, [], inr, List, ℕ, sym, ap, ◌∙◌, subst}
use Rattle.text.specs.Marks.{Lacks}
use Rattle.log_text.specs.Pieces.{HasRead}
use Rattle.log_text.proofs.Bytes.{Lacks-append}
use Rattle.log_text.proofs.Amid.{piece_within, piece_behind}
use Rattle.log_text.proofs.pieces.PiecesTakes.take.Goals as goal

-- it ends no line
pub returns-in_default : goal.returns-in_default
returns-in_default g c = λ text to.
    let rest = c.args.self.now.rest.items in
    let piece = c.args.piece.now in
    let items = c.in_ok-extend_from_slice.ensures.items in
    record {
      lines = to.lines;
      parts = piece_within text to.lines rest piece to.parts ∙ ap (λ (xs : List ℕ). to.lines ++ xs) (sym items);
      lacks = subst (Lacks 10) (sym items) (Lacks-append 10 rest piece to.lacks c.in_default.ensures.none);
      told = to.told;
    }

-- what stands in the rest is a line
pub add-requires : goal.add-requires
add-requires g c = inr (c.args.self.now.rest.items ++ c.in-Some.front.now, c.as_slice.ensures.value ∙ (c.in_ok-push.ensures.items ∙ ap (λ (xs : List ℕ). xs ++ 10 ∷ []) c.in_ok-extend_from_slice-2.ensures.items))

pub returns : goal.returns
returns g c = λ text to.
    let rest = c.args.self.now.rest.items in
    let front = c.in-Some.front.now in
    let more = c.split_tail.result.0.now in
    let last = c.split_tail.result.1.now in
    let line : c.as_slice.result.now ≡ (rest ++ front) ++ 10 ∷ [] = c.as_slice.ensures.value ∙ (c.in_ok-push.ensures.items ∙ ap (λ (xs : List ℕ). xs ++ 10 ∷ []) c.in_ok-extend_from_slice-2.ensures.items) in
    let end : c.extend_from_slice-3.new.self.items ≡ last = c.in_ok-extend_from_slice-3.ensures.items ∙ ap (λ (xs : List ℕ). xs ++ last) c.clear.ensures.items in
    let told = c.in_ok-add-2.ensures (to.lines ++ c.as_slice.result.now) (c.in_ok-add.ensures to.lines to.told) in
    record {
      lines = (to.lines ++ ((rest ++ front) ++ 10 ∷ [])) ++ more;
      parts = piece_behind text to.lines rest c.args.piece.now front c.in-Some.behind.now more last to.parts c.in-Some.ensures.found c.split_tail.ensures.parts ∙ ap (λ (xs : List ℕ). ((to.lines ++ ((rest ++ front) ++ 10 ∷ [])) ++ more) ++ xs) (sym end);
      lacks = subst (Lacks 10) (sym end) c.split_tail.ensures.lacks;
      told = subst (λ (xs : List ℕ). HasRead g.L.Records.forms g.L.Records.Keeps ((to.lines ++ xs) ++ more) c.add-2.new.self) line told;
    }
