use Rattle.std.proofs.Common.{◌-◌, ◌%◌}
use Rattle.relaxation.specs.Line.{Kept}
use Rattle.relaxation.proofs.line.Line.clear.Given as goal

-- the points before the place are off the line
abbrev pub invariant-loop-place : goal.invariant-loop-place
invariant-loop-place l = Kept l.self-inside.queue l.self-inside.waits (l.place % 128) (l.place-end - l.place)
