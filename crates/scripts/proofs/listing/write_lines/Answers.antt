use Rattle.std.proofs.Common.{◌≡◌, ◌+◌, suc, length, drop, ap, arith}
use Rattle.std.proofs.lemmas.List.{drop_all}
use Rattle.scripts.specs.Cursor.{line_from}
use Rattle.scripts.specs.Lines.{script_lines}
use Rattle.scripts.proofs.Cursors.{ends_inside}
use Rattle.scripts.proofs.Lines.{next_lines, fewer_left}
use Rattle.scripts.specs.Sessions.{unopened}
use Rattle.scripts.proofs.Beginning.{listing_more, listing_none}
use Rattle.scripts.proofs.Progress.{goes_on, ends, ends_so, written_so}
use Rattle.scripts.proofs.listing.write_lines.Goals as goal

pub overflow_add-at : goal.overflow_add-at
overflow_add-at c = let end = c.command_at-said.ensures.ends in omega (arith, end, ends_inside c.args.script.now c.lines.at (omega arith))

pub first_answer-requires-clause-room : goal.first_answer-requires-clause-room
first_answer-requires-clause-room c =
    let s = c.args.script.now in
    let end = c.command_at-said.result.1 in
    let some : length (script_lines (drop c.lines.at s)) ≡ suc (length (script_lines (drop (end + 1) s))) =
    ap length (next_lines s c.lines.at end c.command_at-said.ensures.ends (omega arith)) in
    let room = c.lines.invariant.room in
    omega (arith, some, room)

pub returns-in-Ok-clause-written : goal.returns-in-Ok-clause-written
returns-in-Ok-clause-written c =
    let s = c.args.script.now in
    let at = c.lines.at in
    let end = c.command_at-said.result.1 in
    let is = next_lines s at end c.command_at-said.ensures.ends (omega arith) in
    let h = c.in-Ok.ensures (line_from s at) c.command_at-said.ensures.says in
    written_so s (ends_so c.lines.invariant (listing_more unopened h.1 c.lines.number (drop at s) (drop (end + 1) s) (line_from s at) h.2 h.0 is h.3 h.4) h.5)

pub put_line-written-requires-clause-room : goal.put_line-written-requires-clause-room
put_line-written-requires-clause-room c =
    let s = c.args.script.now in
    let end = c.command_at-said.result.1 in
    let some : length (script_lines (drop c.lines.at s)) ≡ suc (length (script_lines (drop (end + 1) s))) =
    ap length (next_lines s c.lines.at end c.command_at-said.ensures.ends (omega arith)) in
    let room = c.lines.invariant.room in
    omega (arith, some, room)

pub lines-preserved : goal.lines-preserved
lines-preserved c =
    let s = c.args.script.now in
    let at = c.lines.at in
    let end = c.command_at-said.result.1 in
    let is = next_lines s at end c.command_at-said.ensures.ends (omega arith) in
    let h = c.in-Err.ensures (line_from s at) c.command_at-said.ensures.says in
    goes_on c.lines.invariant c.in-Err.answer is (fewer_left s at end c.command_at-said.ensures.ends (omega arith))
    (λ text r. listing_more unopened unopened c.lines.number (drop at s) (drop (end + 1) s) (line_from s at) text c.in-Err.answer is h.0 r) h.2
    c.put_line-written.ensures.puts c.put_line-written.ensures.short

pub returns-clause-written : goal.returns-clause-written
returns-clause-written c =
    let s = c.args.script.now in
    written_so s (ends c.lines.invariant (listing_none unopened c.lines.number (script_lines (drop c.lines.at s))
    (ap script_lines (drop_all c.lines.at s (omega arith)))))
