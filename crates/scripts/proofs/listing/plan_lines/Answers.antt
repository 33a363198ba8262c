use Rattle.std.proofs.Common.{◌≡◌, ◌+◌, suc, length, drop, ap, refl, arith}
use Rattle.std.proofs.lemmas.List.{drop_all}
use Rattle.plans.specs.Plans.{state_of}
use Rattle.scripts.specs.Cursor.{line_from}
use Rattle.scripts.specs.Lines.{script_lines}
use Rattle.scripts.proofs.Cursors.{ends_inside}
use Rattle.scripts.proofs.Lines.{next_lines, fewer_left}
use Rattle.scripts.proofs.Beginning.{listing_none, plan_listing_more}
use Rattle.scripts.proofs.Progress.{begins, goes_on, ends}
use Rattle.scripts.proofs.listing.plan_lines.Goals as goal

pub lines-init : goal.lines-init
lines-init g c = record {
  progress = begins c.args.output.now c.args.start.written c.args.start.number (drop c.args.start.at c.args.script.now) _ c.requires.numbered
      c.requires.room;
  ready = c.requires.ready;
}

pub put_line-written-requires-clause-room : goal.put_line-written-requires-clause-room
put_line-written-requires-clause-room g c =
    let s = c.args.script.now in
    let end = c.command_at-said.result.1 in
    let some : length (script_lines (drop c.lines.at s)) ≡ suc (length (script_lines (drop (end + 1) s))) =
    ap length (next_lines s c.lines.at end c.command_at-said.ensures.ends (omega arith)) in
    let room = c.lines.invariant.progress.room in
    omega (arith, some, room)

pub overflow_add-at : goal.overflow_add-at
overflow_add-at g c = let end = c.command_at-said.ensures.ends in omega (arith, end, ends_inside c.args.script.now c.lines.at (omega arith))

pub lines-preserved : goal.lines-preserved
lines-preserved g c =
    let s = c.args.script.now in
    let at = c.lines.at in
    let end = c.command_at-said.result.1 in
    let ends = c.command_at-said.ensures.ends in
    let is = next_lines s at end ends (omega arith) in
    record {
      progress = goes_on c.lines.invariant.progress c.answer.result is (fewer_left s at end ends (omega arith))
          (λ text h. plan_listing_more g.D.Delay.kind (state_of c.lines.plan) (state_of c.answer.new.plan) c.lines.number (drop at s) (drop (end + 1) s)
          (line_from s at) text c.answer.result is (c.answer.ensures.answered (line_from s at) c.command_at-said.ensures.says) h) refl
          c.put_line-written.ensures.puts c.put_line-written.ensures.short;
      ready = c.answer.ensures.ready;
    }

pub returns : goal.returns
returns g c =
    ends c.lines.invariant.progress (λ session follows. listing_none (session (state_of c.lines.plan)) c.lines.number
    (script_lines (drop c.lines.at c.args.script.now)) (ap script_lines (drop_all c.lines.at c.args.script.now (omega arith))))
