use Rattle.std.proofs.Common.{◌≡◌, ◌+◌, ◌≤◌, Some, sym, ap, ◌∙◌, subst, arith}
use Rattle.std.proofs.lemmas.List.{length-take}
use Rattle.std.specs.Option.{option_map}
use Rattle.bounds.specs.Making.{row_of}
use Rattle.books.specs.Decoding.{OfBound, taken_apart, words_at}
use Rattle.books.proofs.Decodings.{chunk_found, row_read, row_past}
use Rattle.books.proofs.lent.WordBookBook.read.Goals as goal

pub returns-in_err-row : goal.returns-in_err-row
returns-in_err-row c =
    let w = c.args.self.now in
    let none = c.in_err-row.ensures.lookup in
    let few = length-take c.rows.result c.as_chunks.result.0.now in
    let long = c.as_chunks.ensures.front_len in
    let past : w.counts.fixed + w.counts.added ≤ c.args.i = omega (arith, none.3, w.fit.room, w.fit.held) in
    ap (option_map row_of) c.from_residual.ensures ∙ sym (row_past w.words.now w.counts.fixed w.counts.added c.args.i past)

pub bound_in-requires : goal.bound_in-requires
bound_in-requires c =
    let w = c.args.self.now in
    let found = c.in_ok-row.ensures.lookup in
    let few = length-take c.rows.result c.as_chunks.result.0.now in
    let is : c.in_ok-row.row.now ≡ words_at w.words.now c.args.i
    = chunk_found _ _ _ _ _ c.as_chunks.ensures.front c.as_chunks.ensures.front_len found.3.0 found.1 in
    subst OfBound (sym is) (w.fit.bounds c.args.i (omega arith))

pub returns : goal.returns
returns c =
    let w = c.args.self.now in
    let found = c.in_ok-row.ensures.lookup in
    let few = length-take c.rows.result c.as_chunks.result.0.now in
    let is : c.in_ok-row.row.now ≡ words_at w.words.now c.args.i
    = chunk_found _ _ _ _ _ c.as_chunks.ensures.front c.as_chunks.ensures.front_len found.3.0 found.1 in
    ap Some (c.bound_in.ensures ∙ ap taken_apart is) ∙ sym (row_read w.words.now w.counts.fixed w.counts.added c.args.i (omega arith))
