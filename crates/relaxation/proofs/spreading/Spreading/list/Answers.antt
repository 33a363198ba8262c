use Rattle.std.proofs.Common.{◌<◌, length, take, arith}
use Rattle.std.proofs.lemmas.List.Elements.{All-get_or}
use Rattle.books.specs.Meaning.{bounds_of}
use Rattle.relaxation.specs.Rows.{Fit}
use Rattle.relaxation.proofs.Listing.{lefts_of, counted_rows, lists_row}
use Rattle.relaxation.proofs.spreading.Spreading.list.Goals as goal

pub loop-number-preserved : goal.loop-number-preserved
loop-number-preserved g c =
    let fitting = c.args.bounds.now in
    let rows = bounds_of (g.B.Book.meaning fitting.book.now) in
    let number = c.loop-number.number in
    let row = c.row.result in
    let low : number < length rows = omega arith in
    let room : number < 65535 = omega (arith, (g.met.B.Book.proper fitting.book.now).few) in
    let fit : Fit g.D.Delay.kind fitting.points row = rw (c.row.ensures row) (All-get_or (Fit g.D.Delay.kind fitting.points) rows number row low fitting.fit) in
    lists_row rows number low c.push.new.self row c.from.result c.row.ensures c.from.ensures
    (c.push.ensures.listed (take number (lefts_of rows)) c.loop-number.invariant (counted_rows rows number low) room (omega (arith, fit.left, fitting.few)))
