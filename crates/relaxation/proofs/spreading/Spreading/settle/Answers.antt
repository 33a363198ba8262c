use Rattle.std.proofs.Common.{arith}
use Rattle.books.specs.Meaning.{bounds_of}
use Rattle.relaxation.proofs.Posing.{last_times}
use Rattle.relaxation.proofs.Settling.{zero_more, zeroed_times}
use Rattle.relaxation.proofs.spreading.Spreading.settle.Goals as goal

pub loop-time-preserved : goal.loop-time-preserved
loop-time-preserved g c =
    let loop = c.loop-time in
    zero_more g.D.Delay.kind g.D.Delay.means loop.time-items loop.time-index _ (omega arith) c.zero.ensures loop.invariant

pub loop-root-init : goal.loop-root-init
loop-root-init g c =
    let bounds = c.args.bounds in
    let rows = bounds_of (g.B.Book.meaning bounds.book.now) in
    zeroed_times g.met.D.Delay.lawful bounds.some rows bounds.fit _ (λ p small. c.loop-time.invariant p (omega (arith, bounds.few)))

pub returns : goal.returns
returns g c =
    let bounds = c.args.bounds in
    let rows = bounds_of (g.B.Book.meaning bounds.book.now) in
    (last_times rows _ bounds.fit c.loop-root.root (omega arith) c.loop-root.invariant, c.list.ensures)
