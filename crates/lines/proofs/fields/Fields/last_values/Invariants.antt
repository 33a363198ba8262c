use Rattle.std.proofs.Common.{◌≡◌, ◌+◌, ◌-◌, drop, length, take}
use Rattle.lines.specs.Fields.{left_of}
use Rattle.lines.specs.Reading.{readings}
use Rattle.lines.proofs.Takes.{after}
use Rattle.lines.proofs.fields.Fields.last_values.Given as goal

-- each value so far was in one field, those after them are left, and those values and what is left read as the whole
abbrev pub invariant-loop-before : goal.invariant-loop-before
invariant-loop-before g l = record {
  places : length l.value-items ≡ g.row.N;
  fields : l.before + length (left_of l.self) ≡ length (left_of l.fn.self);
  rest : left_of l.self ≡ drop l.before (left_of l.fn.self);
  reads : after (take l.before l.value-items) (readings g.T.FromField.reading (l.before + 1) (g.row.N - l.before) (left_of l.self))
      ≡ readings g.T.FromField.reading 1 g.row.N (left_of l.fn.self);
}
