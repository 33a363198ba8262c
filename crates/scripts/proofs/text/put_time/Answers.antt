use Rattle.std.proofs.Common.{◌≡◌, ◌≤◌, ℕ, ℤ, w64, to_z, of_z, to_z-of_z, length, sym, ap, ◌∙◌, subst, arith, rules}
use Rattle.std.specs.Fmt.{signed_decimal}
use Rattle.std.proofs.lemmas.List.{length-append}
use Rattle.scripts.specs.Texts.{hundredths}
use Rattle.scripts.proofs.Putting.{puts_same, puts_more}
use Rattle.scripts.proofs.Widths.{number_width, part_width, hundredths_width}
use Rattle.scripts.proofs.text.put_time.Goals as goal

-- the width of a number that is read back
width : (y z : ℤ) → y ≡ z → length (signed_decimal z) ≤ 14 → length (signed_decimal y) ≤ 14
width y z e h = subst (λ (x : ℤ). length (signed_decimal x) ≤ 14) (sym e) h

pub put_number-requires : goal.put_number-requires
put_number-requires c =
    let t : to_z w64 (of_z w64 c.args.t) ≡ c.args.t = search (rules, to_z-of_z) in
    let s : to_z w64 (of_z w64 c.args.s) ≡ c.args.s = search (rules, to_z-of_z) in
    let r : to_z w64 (of_z w64 c.hundredths.result) ≡ c.hundredths.result = search (rules, to_z-of_z) in
    let h : to_z w64 (of_z w64 c.hundredths.result) ≡ hundredths c.args.t = r ∙ c.hundredths.ensures.tenth ∙ ap hundredths t in
    let wide_t = width _ _ t (part_width c.args.t c.requires.t_short) in
    let wide_s = width _ _ s (part_width c.args.s c.requires.s_short) in
    let wide_h = width _ _ h (hundredths_width c.args.t c.requires.t_short) in
    let wide_p = number_width c.from.result (omega (arith, c.from.ensures)) in
    record { room = omega (arith, wide_t, wide_s, wide_h, wide_p) }

pub returns-clause-puts : goal.returns-clause-puts
returns-clause-puts c =
    let t : to_z w64 (of_z w64 c.args.t) ≡ c.args.t = search (rules, to_z-of_z) in
    let s : to_z w64 (of_z w64 c.args.s) ≡ c.args.s = search (rules, to_z-of_z) in
    let r : to_z w64 (of_z w64 c.hundredths.result) ≡ c.hundredths.result = search (rules, to_z-of_z) in
    let h : to_z w64 (of_z w64 c.hundredths.result) ≡ hundredths c.args.t = r ∙ c.hundredths.ensures.tenth ∙ ap hundredths t in
    puts_same
    (puts_more c.put_byte-at.ensures (puts_more c.put_count-at.ensures
    (puts_more c.put_number-at.ensures (puts_more c.put_number-at-2.ensures c.put_number.ensures))))
    (cc (t, s, h, c.from.ensures))

pub returns-clause-short : goal.returns-clause-short
returns-clause-short c =
    let all = returns-clause-puts c in
    omega (
      arith,
      all.ends,
      length-append {A = ℕ},
      number_width c.args.point (omega arith),
      part_width c.args.t c.requires.t_short,
      part_width c.args.s c.requires.s_short,
      hundredths_width c.args.t c.requires.t_short,
    )
