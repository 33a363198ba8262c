use Rattle.std.proofs.Common.{arith}
use Rattle.books.specs.Meaning.{bounds_of}
use Rattle.bounds.specs.Making.{row_of}
use Rattle.relaxation.proofs.Founding.{book_step, floor_step}
use Rattle.relaxation.proofs.spreading.Spreading.step_back.Goals as goal

pub returns-in-Some : goal.returns-in-Some
returns-in-Some g c =
    let rows = bounds_of (g.B.Book.meaning c.args.net.now.bounds.book.now) in
    let read = rw c.from.ensures at c.in-Some.ensures in
    let step = book_step g.D.Delay.kind rows c.args.self.now.over c.args.point (row_of c.in-Some.bound) (omega arith) read in
    rw (c.from-in-Some.ensures, c.from-in-Some-2.ensures, c.row.ensures.value) step

pub returns-in-None : goal.returns-in-None
returns-in-None g c =
    let rows = bounds_of (g.B.Book.meaning c.args.net.now.bounds.book.now) in
    floor_step g.D.Delay.kind rows c.args.self.now.over c.args.point (omega arith) (rw c.from.ensures at c.in-None.ensures)
