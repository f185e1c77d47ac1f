use Rattle.std.proofs.Common.{sym, ◌++◌}
use Rattle.depfile.proofs.Escapes.{spelled_letters}
use Rattle.depfile.proofs.Fronts.{on_pushed, on_pushed_twice}
use Rattle.depfile.proofs.pieces.Piece.push_onto.Goals as goal

pub returns-in-Plain : goal.returns-in-Plain
returns-in-Plain c = rw c.in-Plain.is (on_pushed c.push_str.result _ _ _ _ c.push_str.ensures.bytes (sym (spelled_letters c.in-Plain.characters.now)))

pub returns-in_ok-push_str-in-Escaped : goal.returns-in_ok-push_str-in-Escaped
returns-in_ok-push_str-in-Escaped c = rw c.in-Escaped.is
    (on_pushed_twice c.push_str-in-Escaped-2.result _ _ _ _ _ _ c.in_ok-push_str-in-Escaped.ensures.bytes c.push_str-in-Escaped-2.ensures.bytes (sym (spelled_letters (c.in-Escaped.backslashes.now ++ c.in-Escaped.sign.now))))
