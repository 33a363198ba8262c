use Rattle.std.proofs.Common.{refl, arith}
use Rattle.books.proofs.Decodings.{row_count}
use Rattle.books.proofs.Lents.{cut_meaning}
use Rattle.books.proofs.lent.WordBookBook.cut.Goals as goal

pub returns : goal.returns
returns c =
    let w = c.args.self.now in
    let many = row_count w.words.now w.counts.fixed w.counts.added in
    (omega (arith, many), cut_meaning w.words.now _ w.counts w.fit c.args.k (omega arith) c.put_end.ensures, (refl, c.put_end.ensures))
