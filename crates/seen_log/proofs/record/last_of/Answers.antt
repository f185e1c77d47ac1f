use Rattle.std.proofs.Common.{◌+◌, ap, ◌∙◌, length, ◌≡◌, ℕ}
use Rattle.std.proofs.Math.Nat.{sub-add_cancel}
use Rattle.seen_log.proofs.LineFirst.{last_is}
use Rattle.seen_log.proofs.record.last_of.Goals as goal

pub returns : goal.returns
returns c =
    let cut = c.in_ok-before.ensures in
    let sum : c.in_ok-before.before + c.args.len ≡ length c.args.text.now = ap (λ (n : ℕ). n + c.args.len) cut.1 ∙ sub-add_cancel cut.0 in
    λ front back e len. last_is c.args.text.now c.in_ok-last.last.now front back c.in_ok-before.before c.args.len c.in_ok-last.ensures.back sum e len
