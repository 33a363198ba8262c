use Rattle.std.proofs.lemmas.Bool.{ne_eqb}
use Rattle.network.specs.Edges.{time_of_point}
use Rattle.relaxation.proofs.Finishing.{taken_alone, taken_or_stopped}
use Rattle.relaxation.proofs.spreading.Spreading.take_up.Goals as goal

pub returns-then-point-eq0-clause-taken : goal.returns-then-point-eq0-clause-taken
returns-then-point-eq0-clause-taken g c =
    let after = c.take_floors.new.self in
    taken_or_stopped g.met.D.Delay.lawful c.if-take_rows.ensures.taken c.if-point-eq0.true (time_of_point g.D.Delay.kind g.D.Delay.means after.times)
    after.over after.line.waiting c.take_floors.result c.take_floors.ensures.taken

pub returns-else-point-eq0-clause-taken : goal.returns-else-point-eq0-clause-taken
returns-else-point-eq0-clause-taken g c =
    rw (ne_eqb c.args.point 0 c.if-point-eq0.false) (taken_alone c.if-take_rows.ensures.taken c.if-point-eq0.false)
