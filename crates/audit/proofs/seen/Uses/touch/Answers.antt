use Rattle.std.proofs.Common.{ap, sym, Bool, if◌then◌else◌}
use Rattle.audit.specs.Uses.{unused}
use Rattle.audit.specs.Seen.{put_last, sums_in}
use Rattle.audit.proofs.Members.{in_has}
use Rattle.audit.proofs.seen.Uses.touch.Goals as goal

pub returns-in-Some : goal.returns-in-Some
returns-in-Some c =
    let sums = sums_in c.args.self.now in
    sym (ap (λ (b : Bool). if b then sums else put_last sums c.args.path.now unused) (in_has c.args.self.now.paths c.in-Some.field-0 c.args.path.now c.in-Some.ensures.place))
