-- Ticks: one whole number of milliseconds. Assumes nothing.
use Rattle.std.specs.Prelude.{ℤ, pos}
use Rattle.delays.specs.Kind.{Kind, Row}
use Rattle.delays.specs.Sizes.{small_part}
use Rattle.delays.specs.OneNumber.{one_number, row_of, one_number_kind}

-- the row of a number of milliseconds
abbrev pub tick : ℤ → Row one_number
tick t = row_of t

-- the parts are the number and 0
abbrev pub ticks_kind : Kind
ticks_kind = one_number_kind (λ t. t) (λ t. pos 0) (λ t s. t) small_part
