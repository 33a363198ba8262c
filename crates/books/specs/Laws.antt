-- That the table and the trial are books: their places, and their rows. Assumes nothing.
use Rattle.std.specs.Prelude.{◌≤◌, List, length}
use Rattle.std.specs.List.{All}
use Rattle.std.proofs.Common.{arith}
use Rattle.std.proofs.lemmas.List.{length-append, length-take}
use Rattle.std.proofs.lemmas.List.Elements.{All-append, All-take}
use Rattle.bounds.specs.declared.row.Row.{Row}
use Rattle.bounds.specs.Range.{Sound}
use Rattle.books.specs.Meaning.{Meaning, Proper, bounds_of}
use Rattle.books.specs.Layers.{table_of, trial_places, fitting, trial_over}

pub table_proper : (rows : List Row) → length rows ≤ 1024 → All Sound rows → Proper (table_of rows)
table_proper rows few sound = record { few = omega arith; sound = sound }

pub trial_proper : (below : Meaning) (own : List Row) → length own ≤ trial_places below → All Sound own → Proper below
    → Proper (trial_over below own)
trial_proper below own fits sound h = record {
  few = omega (arith, length-append (bounds_of below) own, h.few);
  sound = All-append Sound _ _ h.sound sound;
}

-- whatever rows a trial has of its own
pub fitting_proper : (below : Meaning) (own : List Row) → All Sound own → Proper below → Proper (trial_over below (fitting below own))
fitting_proper below own sound h =
    trial_proper below (fitting below own) (omega (arith, length-take (trial_places below) own)) (All-take Sound (trial_places below) own sound) h
