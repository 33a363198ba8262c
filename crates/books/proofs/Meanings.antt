-- What adding and cutting make of a table and of a trial. Assumes nothing.
use Rattle.std.proofs.Common.{◌≡◌, Bool, true, false, Ok, Err, Result, refl, ap, ◌∙◌}
use Rattle.bounds.specs.Making.{row_of}
use Rattle.books.specs.declared.fault.BookFault.{BookFault}
use Rattle.books.specs.declared.fault.BookFault.TheVariants.{Full}
use Rattle.books.specs.Calls.{Adding, Cutting, still, adding, cutting, Keeps}
use Rattle.books.specs.Meaning.{Meaning}
use Rattle.books.specs.Layers.{BelowSame}

-- a meaning is its three parts
pub same_meaning : (m n : Meaning) → m.fixed ≡ n.fixed → m.added ≡ n.added → m.free ≡ n.free → m ≡ n
same_meaning m n f a r = λ k. record { fixed = f k; added = a k; free = r k }

-- a part that each accepted call keeps is kept by every sequence of calls
module _ {S T : Type 0} (meaning : S → Meaning) (part : S → T) where
  pub keeps : Keeps meaning (BelowSame part) (BelowSame part) part
  keeps a b still = refl
  keeps a b (adding {b = m} bound r before step) = by_adding r step ∙ keeps a m before
    where
      by_adding : (r : Result (Unit {0}) BookFault) → Adding meaning (BelowSame part) m (row_of bound) b r → part b ≡ part m
      by_adding (Ok u) h = h.2
      by_adding (Err Full) h = ap part h.1
  keeps a b (cutting {b = m} k r before step) = by_cutting r step ∙ keeps a m before
    where
      by_cutting : (r : Bool) → Cutting meaning (BelowSame part) m k b r → part b ≡ part m
      by_cutting true h = h.2
      by_cutting false h = ap part h.1
