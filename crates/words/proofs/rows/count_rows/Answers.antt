use Rattle.std.proofs.Common.{◌≤◌, length, Err, rules}
use Rattle.words.specs.Reading.{RowsRead}
use Rattle.words.proofs.Readings.{passed_more, passed_broken}
use Rattle.words.proofs.rows.count_rows.Goals as goal

pub returns-in_err-read_row : goal.returns-in_err-read_row
returns-in_err-read_row c =
    let rest = c.loop-unread.unread.now in
    let three : 3 ≤ length rest = search rules in
    let told : RowsRead c.args.words.now (Err c.in_err-read_row.field-0.0) =
    passed_broken _ _ rest _ c.loop-unread.invariant.0 three (search rules) c.in_err-read_row.ensures in
    search rules

pub loop-unread-preserved : goal.loop-unread-preserved
loop-unread-preserved c =
    let rest = c.loop-unread.unread.now in
    let three : 3 ≤ length rest = search rules in
    (passed_more _ _ rest c.in_ok-read_row.field-0 c.loop-unread.invariant.0 three c.in_ok-read_row.ensures, search rules)
