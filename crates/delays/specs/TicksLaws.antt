-- Ticks keep the laws of a kind. Assumes nothing.
use Rattle.std.specs.Prelude.{pos, refl}
use Rattle.std.proofs.Common.{arith}
use Rattle.std.proofs.lemmas.Int.{ints}
use Rattle.delays.specs.Kind.{Lawful}
use Rattle.delays.specs.Sizes.{small_part}
use Rattle.delays.specs.Ticks.{ticks_kind}
use Rattle.delays.specs.OneNumberLaws.{PartsLawful, one_number_lawful}

ticks_parts : PartsLawful (λ t. t) (λ t. pos 0) (λ t s. t) small_part
ticks_parts = record {
  fit = λ n h. (omega (arith, ints), omega (arith, ints));
  tell = λ n h. refl;
  small = λ n h p q. p;
}

pub ticks_lawful : Lawful ticks_kind
ticks_lawful = one_number_lawful ticks_parts
