use Rattle.std.proofs.Common.{◌∷◌, [], length, sym, ap, ◌∙◌, ◌<◌, ◌++◌, drop, get_or, arith}
use Rattle.std.proofs.lemmas.List.{length-set, length-take-le}
use Rattle.plans.proofs.Marking.{length-marks_in, marks_opened}
use Rattle.plans.proofs.Tallies.{front_copied}
use Rattle.plans.proofs.mark.Marks.open.Goals as goal

pub bounds-self-inside-depth : goal.bounds-self-inside-depth
bounds-self-inside-depth g c =
    let m = c.self.inside in
    omega (arith, length-marks_in m.depth m.added m.times, ap length c.self.view_is, c.requires.room)

pub bounds-self-inside-depth-2 : goal.bounds-self-inside-depth-2
bounds-self-inside-depth-2 g c =
    let m = c.self.inside in
    omega (arith, length-marks_in m.depth m.added m.times, ap length c.self.view_is, c.requires.room)

pub invariant_of-self : goal.invariant_of-self
invariant_of-self g c =
    let m = c.self.inside in (
      omega (arith, length-marks_in m.depth m.added m.times, ap length c.self.view_is, c.requires.room),
      length-set m.times m.depth _ ∙ c.self.invariant.1,
    )

pub returns : goal.returns
returns g c =
    let m = c.self.inside in
    let low : m.depth < 8 = omega (arith, length-marks_in m.depth m.added m.times, ap length c.self.view_is, c.requires.room) in
    let old = drop c.args.points (get_or m.times m.depth []) in
    let noted = c.copy_from_slice.new.self ++ old in (
      noted,
      marks_opened m.depth m.added m.times c.args.added noted (omega (arith, c.self.told)) (omega (arith, c.self.invariant.1))
          ∙ ap (λ l. l ++ record { added = c.args.added; times = noted } ∷ []) c.self.view_is,
      front_copied g.D.Delay.kind g.D.Delay.means c.args.times.now old c.copy_from_slice.new.self c.args.points c.copy_from_slice.ensures.after
          (ap length c.copy_from_slice.ensures.after ∙ length-take-le c.args.points c.args.times.now (omega (arith, c.told-times, c.requires.points))),
    )
