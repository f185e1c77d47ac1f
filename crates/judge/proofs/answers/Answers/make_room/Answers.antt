use Rattle.std.proofs.Common.{◌≡◌, ◌-◌, ◌++◌, List, Option, None, take, ◌∙◌, ap, arith}
use Rattle.std.proofs.Math.ListN.{replicate}
use Rattle.std.proofs.lemmas.List.{take_all}
use Rattle.judge.specs.declared.answers.Answer.{Answer}
use Rattle.judge.proofs.KeptAnswers.{at, room_filled}
use Rattle.judge.proofs.answers.Answers.make_room.Goals as goal

-- more places stand behind those that there were, or the room was refused
pub returns-in-Ok-clause-same : goal.returns-in-Ok-clause-same
returns-in-Ok-clause-same c e =
    let old = c.args.self.now.known.items in
    let more = c.args.edges - c.args.self.now.known.len in
    let whole : take c.args.edges old ≡ old = take_all c.args.edges old (omega (arith, c.if-room-edges.false, c.len-room.ensures, c.args.self.now.known.ok.0)) in
    ap (λ (l : List (Option Answer)). at l e) (c.in-Ok.ensures.items ∙ ap (λ (l : List (Option Answer)). l ++ replicate more None) whole) ∙ room_filled old more e

pub returns-in-Err-clause-same : goal.returns-in-Err-clause-same
returns-in-Err-clause-same c e = ap (λ (l : List (Option Answer)). at l e) c.in-Err.ensures.items
