use Rattle.std.proofs.Common.{◌≡◌, ◌^◌, ◌<◌, drop}
use Rattle.lines.proofs.Digits.{digits_after}
use Rattle.lines.proofs.number.digits_in.Given as goal

-- what is left goes on from n as the whole from 0, and n is as small as its digits say
abbrev pub invariant-loop-b : goal.invariant-loop-b
invariant-loop-b l = (digits_after l.base l.n (drop l.b-index l.text) ≡ digits_after l.base 0 l.text) × (l.n < l.base ^ l.b-index)
