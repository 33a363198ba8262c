use Rattle.lines.proofs.Front.{decided}
use Rattle.lines.proofs.Told.{told}
use Rattle.lines.proofs.listing.values.Goals as goal

pub returns-clause-front : goal.returns-clause-front
returns-clause-front g c =
    let read = g.T.FromField.reading in
    λ whole fits e. decided read g.T.FromField.longest g.met.T.FromField.refuses_longer g.row.N 1 48 c.args.line.now whole _ fits e c.all_values.ensures

pub returns-clause-told : goal.returns-clause-told
returns-clause-told g c = told g.T.FromField.reading g.row.N _ _ c.all_values.ensures
