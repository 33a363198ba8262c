use Rattle.words.proofs.Readings.{own_checked, own_read}
use Rattle.words.proofs.rows.round_trip.Goals as goal

pub returns-in_err-check : goal.returns-in_err-check
returns-in_err-check c =
    let one = own_checked c.args.bound c.from-words.result.0 c.from-words.ensures.value c.check.result c.check.ensures in
    absurd (cc (one, c.in_err-check.was))

pub returns : goal.returns
returns c = own_read c.args.bound c.from-words.result.0 c.from-words.ensures.value c.try_from.result c.try_from.ensures
