use Rattle.std.proofs.Common.{subst}
use Rattle.plans.specs.Rows.{Fit}
use Rattle.plans.proofs.Passing.{read_more, none_all}
use Rattle.plans.proofs.checks.first_misfit.Goals as goal

pub loop-bound-preserved : goal.loop-bound-preserved
loop-bound-preserved g c =
    let P = Fit g.D.Delay.kind c.args.points in
    read_more (g.B.Book.meaning c.args.book.now) c.loop-bound.place c.in-Some.bound c.in-Some.ensures P c.loop-bound.invariant
    (subst P c.row.ensures.value c.in_ok-check_row.ensures)

pub returns : goal.returns
returns g c =
    none_all (g.B.Book.meaning c.args.book.now) c.loop-bound.place (Fit g.D.Delay.kind c.args.points) c.in_default.ensures c.loop-bound.invariant
