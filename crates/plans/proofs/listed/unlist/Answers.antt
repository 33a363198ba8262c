use Rattle.std.proofs.Common.{◌≡◌, ℕ, ◌+◌, ◌-◌, ◌<◌, ◌≤◌, Some, length, get_or, ap, subst, arith, length-append}
use Rattle.std.proofs.lemmas.List.{length-map}
use Rattle.books.specs.Calls.{Reads}
use Rattle.books.specs.Meaning.{bounds_of}
use Rattle.relaxation.specs.ByLeft.{Lists}
use Rattle.plans.proofs.Listing.{lefts_upto, listed_less}
use Rattle.plans.proofs.Passing.{read_is, read_within}
use Rattle.plans.proofs.listed.unlist.Goals as goal

pub loop-number-preserved : goal.loop-number-preserved
loop-number-preserved g c =
    let m = g.B.Book.meaning c.args.book.now in
    let rows = bounds_of m in
    let n = c.loop-number.number - 1 in
    let b = c.unwrap.result in
    let row = c.row-left.result in
    let read : Reads m n (Some b) = rw c.unwrap.ensures at c.read.ensures in
    let low : n < length rows = read_within m n b read in
    let is : (get_or rows n row).left ≡ c.from.result =
    omega (arith, ap (λ r. r.left) (read_is m n b read row), ap (λ r. r.left) c.row-left.ensures.value, c.from.ensures) in
    let few : length rows ≤ 65535 = omega (arith, c.requires.listed.few, length-map rows (λ r. r.left)) in (
      listed_less c.loop-number.index c.pop.new.self rows n c.loop-number.number row c.from.result (omega arith) (omega arith) few is
          (omega (arith, c.requires.lefts n row low)) c.pop.ensures.listed c.loop-number.invariant.0,
      omega (arith, c.fixed_count.ensures),
    )

pub returns : goal.returns
returns g c =
    let m = g.B.Book.meaning c.args.book.now in
    let rows = bounds_of m in
    let end : c.loop-number.number ≡ length m.fixed + c.args.added =
    omega (arith, c.fixed_count.ensures, c.count-number.ensures, c.requires.few, length-append m.fixed m.added) in
    subst (λ n. Lists c.loop-number.index (lefts_upto rows n)) end c.loop-number.invariant.0
