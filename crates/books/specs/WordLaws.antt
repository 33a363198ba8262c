-- That a word book is a book: its places, and its rows. Assumes nothing.
use Rattle.std.specs.Prelude.{ℕ, zero, suc, ◌+◌, ◌≤◌, List}
use Rattle.std.proofs.Common.{arith}
use Rattle.std.proofs.lemmas.List.{length-append}
use Rattle.std.proofs.lemmas.List.Elements.{All-append, All-nil, All-cons}
use Rattle.std.proofs.lemmas.List.FromFn.{length-map-range_with_len}
use Rattle.std.specs.List.{All}
use Rattle.bounds.specs.Range.{Sound}
use Rattle.books.specs.declared.lent.Counts.{Counts}
use Rattle.books.specs.Meaning.{Proper}
use Rattle.books.specs.Decoding.{BoundsIn, row_at, rows_from}
use Rattle.books.specs.Lent.{Fit, rows_in}

rows_sound : (ws : List ℕ) (a n m : ℕ) → a + n ≤ m → BoundsIn ws m → All Sound (rows_from ws a n)
rows_sound ws a zero m h b = All-nil Sound
rows_sound ws a (suc n) m h b = All-cons Sound (row_at ws a) (rows_from ws (a + 1) n) (b a (omega arith)).0 (rows_sound ws (a + 1) n m (omega arith) b)

pub words_proper : (ws : List ℕ) (c : Counts) → Fit ws c → Proper (rows_in ws c)
words_proper ws c fit = record {
  few = simp (length-append, length-map-range_with_len) (omega (arith, fit.held, fit.few));
  sound = All-append Sound (rows_from ws 0 c.fixed) (rows_from ws c.fixed c.added)
      (rows_sound ws 0 c.fixed _ (omega arith) fit.bounds) (rows_sound ws c.fixed c.added _ (omega arith) fit.bounds);
}
