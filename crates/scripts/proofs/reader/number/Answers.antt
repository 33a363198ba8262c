use Rattle.std.proofs.Common.{◌≡◌, pos, ◌-ℤ◌, neg_ℤ, Some, option_map, w64, to_z, of_z, to_z-of_z, get_or, sym, ap, ◌∙◌, arith, rules}
use Rattle.std.proofs.lemmas.Int.{ints}
use Rattle.scripts.proofs.FieldReads.{digits_natural, digits_lacking, digits_ends, plain_reads, minus_reads, minus_ends, number_there, number_lacking}
use Rattle.scripts.proofs.reader.number.Goals as goal

pub returns-then-end-first : goal.returns-then-end-first
returns-then-end-first c =
    let minus : get_or c.args.script.now c.args.first 10 ≡ 45 = sym c.byte_at.ensures ∙ c.if-byte_at-eq45.true in
    let d = c.digits-size.ensures in
    number_lacking c.args.script.now c.args.first c.digits-size.result.1 _ (minus_reads c.args.first d minus)
    (ap (option_map (λ n. neg_ℤ (pos n))) (digits_lacking d c.if-end-first.true))

pub returns-then-byte_at-eq45 : goal.returns-then-byte_at-eq45
returns-then-byte_at-eq45 c =
    let minus : get_or c.args.script.now c.args.first 10 ≡ 45 = sym c.byte_at.ensures ∙ c.if-byte_at-eq45.true in
    let d = c.digits-size.ensures in
    let size = c.digits-size.result.0 in
    let fits = d.small in
    let read : to_z w64 size ≡ pos size = first_of (search (rules, fits), grind (arith, ints, to_z-of_z)) in
    let value : neg_ℤ (pos size) ≡ to_z w64 (of_z w64 (pos 0 -ℤ to_z w64 size)) =
    first_of (search (rules, to_z-of_z, fits, read), grind (arith, ints, to_z-of_z)) in
    number_there c.args.script.now c.args.first c.digits-size.result.1 _ _ (minus_reads c.args.first d minus)
    (ap (option_map (λ n. neg_ℤ (pos n))) (digits_natural d c.if-end-first.false) ∙ ap Some value) (minus_ends c.args.first d minus)

pub returns-then-end-first-2 : goal.returns-then-end-first-2
returns-then-end-first-2 c =
    let d = c.digits-size-2.ensures in
    number_lacking c.args.script.now c.args.first c.digits-size-2.result.1 _ (plain_reads d (λ e. c.if-byte_at-eq45.false (c.byte_at.ensures ∙ e)))
    (ap (option_map pos) (digits_lacking d c.if-end-first-2.true))

pub returns : goal.returns
returns c =
    let d = c.digits-size-2.ensures in
    let size = c.digits-size-2.result.0 in
    let fits = d.small in
    let read : pos size ≡ to_z w64 size = first_of (search (rules, fits), grind (arith, ints, to_z-of_z)) in
    number_there c.args.script.now c.args.first c.digits-size-2.result.1 _ _ (plain_reads d (λ e. c.if-byte_at-eq45.false (c.byte_at.ensures ∙ e)))
    (ap (option_map pos) (digits_natural d c.if-end-first-2.false) ∙ ap Some read) (digits_ends d)
