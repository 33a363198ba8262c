-- What a contract sees of an inner table: the rows that it lists, in order. Assumes nothing.
use Rattle.std.specs.Prelude.{List}
use Rattle.bounds.specs.declared.row.Row.{Row}

pub record Listing : Type 0 where
  pub rows : List Row

abbrev pub listed : Listing → List Row
listed r = r.rows
