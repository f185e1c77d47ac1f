use Rattle.std.proofs.Common.{◌≡◌, true, false, [], Result, Ok, Err, Some}
use Rattle.std.specs.Prelude.{IfOk, OnOk}
use Rattle.text.specs.Handed.{TakesMore}
use Rattle.host.proofs.host.HostTexts.read_into.Goals as goal

of_ok : {V E P : Type 0} (done : Result V E) (value : V) → done ≡ Ok value → OnOk done P → P
of_ok (Ok found) value is on = on
of_ok (Err fault) value is on = absurd (let clash : Err fault ≡ Ok value = is in cc)

-- what is so where a call of a part went well is so where the site says that it did
handed_on : {V E F : Type 0} (P : Type 0) (done : Result V E) (r : Result V F) → IfOk r (λ value. done ≡ Ok value) → OnOk done P → OnOk r P
handed_on P done (Ok value) is on = of_ok done value is on
handed_on P done (Err fault) is on = tt

then_so : {V F P Q : Type 0} (r : Result V F) → (P → Q) → OnOk r P → OnOk r Q
then_so (Ok value) f on = f on
then_so (Err fault) f on = tt

pub returns-clause-content : goal.returns-clause-content
returns-clause-content g c = then_so c.noted.result (λ more nothing.
    let some = more ([], nothing) in
    (Some some.0, some.1, λ told. absurd (let no : false ≡ true = told in cc))) (handed_on (TakesMore g.T.Takes.Took c.args.taker.now c.read_into-handed.new.taker) c.read_into-handed.result c.noted.result c.noted.ensures.done c.read_into-handed.ensures)
