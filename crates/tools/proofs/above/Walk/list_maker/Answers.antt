use Rattle.std.proofs.Common.{arith}
use Rattle.graph.specs.Links.{links_of}
use Rattle.tools.specs.Above.{Makes}
use Rattle.tools.proofs.Putting.{on_ok}
use Rattle.tools.proofs.Rises.{seen_kept}
use Rattle.tools.proofs.above.Walk.list_maker.Goals as goal

pub enter-requires-clause-needed : goal.enter-requires-clause-needed
enter-requires-clause-needed c = λ m made. Makes m c.args.path c.requires.asked made

pub enter-requires-clause-awaited : goal.enter-requires-clause-awaited
enter-requires-clause-awaited c = λ m last made is. let some = is.some in let none = c.requires.none in absurd (omega (arith, some, none))

pub returns-clause-seen : goal.returns-clause-seen
returns-clause-seen c =
    let before = c.enter.new.self.marks.items in
    let after = c.finish.new.self.marks.items in
    on_ok c.finish.result (λ keeps. seen_kept before after keeps ((links_of c.args.self.now.graph.now).maker c.args.path) c.in_ok-enter.ensures.seen) c.finish.ensures.keeps
