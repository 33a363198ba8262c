use Rattle.std.proofs.Common.{◌≡◌, ◌≤◌, ◌-◌, length}
use Rattle.scripts.specs.Cursor.{line_end}
use Rattle.scripts.proofs.reader.line_end.Given as goal

abbrev pub invariant-line : goal.invariant-line
invariant-line l = (line_end l.script l.at ≡ line_end l.script l.from) × (l.at ≤ length l.script)

abbrev pub decreases-line : goal.decreases-line
decreases-line l = length l.script - l.at
