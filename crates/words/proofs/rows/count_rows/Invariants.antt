use Rattle.std.proofs.Common.{◌≡◌, ◌+◌, ◌*◌, length}
use Rattle.words.proofs.Readings.{Passed}
use Rattle.words.proofs.rows.count_rows.Given as goal

abbrev pub invariant-loop-unread : goal.invariant-loop-unread
invariant-loop-unread l = Passed l.words l.rows l.unread × (length l.words ≡ 3 * l.rows + length l.unread)

abbrev pub decreases-loop-unread : goal.decreases-loop-unread
decreases-loop-unread l = length l.unread
