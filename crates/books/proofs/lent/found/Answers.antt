use Rattle.std.proofs.Common.{Ok, Err, refl}
use Rattle.books.proofs.Lents.{found_fits, opens_rows, opens_none, opens_once}
use Rattle.books.proofs.lent.found.Goals as goal

pub returns-in_default-clause-opened : goal.returns-in_default-clause-opened
returns-in_default-clause-opened c =
    let ws = c.args.words.now in
    let e = c.in_default.field-0 in
    let none = c.default.ensures in
    opens_once ws (Err e) _ c.in_default.ensures (opens_none ws e c.default.result none.0 none.1.0 none.1.1)

pub returns-clause-fit : goal.returns-clause-fit
returns-clause-fit c = found_fits c.args.words.now c.in-Ok.fixed _ c.in-Ok.ensures c.rows_within.ensures refl refl

pub returns-clause-opened : goal.returns-clause-opened
returns-clause-opened c =
    let ws = c.args.words.now in
    opens_once ws (Ok c.in-Ok.fixed) _ c.in-Ok.ensures (opens_rows ws c.in-Ok.fixed _ c.in-Ok.ensures c.rows_within.ensures)
