use Rattle.std.proofs.Common.{length, refl, ap, arith}
use Rattle.relaxation.proofs.Lining.{length-line_of, line_none, pop_line, pop_inside, pop_gone, pop_kept}
use Rattle.relaxation.proofs.line.Line.pop.Goals as goal

pub returns-then-self-clause-none : goal.returns-then-self-clause-none
returns-then-self-clause-none c = rw (← c.self.view_is) (line_none _ _ _ (omega arith), refl)

pub bounds-self-inside-point : goal.bounds-self-inside-point
bounds-self-inside-point c =
    let q = c.self.inside in
    pop_inside q.queue q.waits q.head q.tail c.self.invariant.1 c.self.told.1 c.from-point.result c.from-point.ensures (omega arith)

pub invariant_of-self : goal.invariant_of-self
invariant_of-self c =
    let q = c.self.inside in (
      omega arith,
      pop_kept q.queue q.waits q.head q.tail c.self.invariant.1 c.self.told.1 c.from-point.result c.from-point.ensures (omega arith),
    )

pub returns-clause-oldest : goal.returns-clause-oldest
returns-clause-oldest c =
    let q = c.self.inside in
    rw (← c.self.view_is) (pop_line q.queue q.waits q.head q.tail c.self.invariant.1 c.self.told.1 c.from-point.result c.from-point.ensures (omega arith))

pub returns-clause-inside : goal.returns-clause-inside
returns-clause-inside c =
    let q = c.self.inside in
    pop_inside q.queue q.waits q.head q.tail c.self.invariant.1 c.self.told.1 c.from-point.result c.from-point.ensures (omega arith)

pub returns-clause-gone : goal.returns-clause-gone
returns-clause-gone c =
    let q = c.self.inside in
    pop_gone q.queue q.waits q.head q.tail c.self.invariant.1 c.self.told.1 c.from-point.result c.from-point.ensures (omega arith)

pub returns-then-self-clause-few : goal.returns-then-self-clause-few
returns-then-self-clause-few c =
    let q = c.self.inside in
    omega (arith, ap (λ l. length l.waiting) c.self.view_is, length-line_of q.queue q.head q.tail, c.self.invariant.1.few)

pub returns-clause-few : goal.returns-clause-few
returns-clause-few c =
    let q = c.self.inside in
    omega (arith, ap (λ l. length l.waiting) c.self.view_is, length-line_of q.queue q.head q.tail, c.self.invariant.1.few)
