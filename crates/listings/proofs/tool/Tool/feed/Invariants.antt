use Rattle.std.proofs.Common.{take, string_bytes}
use Rattle.listings.specs.Tools.{Follows}
use Rattle.listings.proofs.tool.Tool.feed.Given as goal

abbrev pub invariant-loop-b : goal.invariant-loop-b
invariant-loop-b l = Follows l.initial.self (take l.b-index l.piece) (string_bytes l.out) l.self
