use Rattle.std.proofs.Common.{◌≡◌, ℕ, ◌∷◌, [], ◌++◌, ◌+◌, ◌<◌, ◌≤◌, true, map, take, drop, length, refl, sym, ap, ◌∙◌, subst, inr, arith}
use Rattle.std.proofs.lemmas.Bool.{both_ways}
use Rattle.std.proofs.lemmas.List.{length-map, length-take-le}
use Rattle.std.proofs.Math.Seq.{take-append-add}
use Rattle.books.specs.Meaning.{bounds_of, cut_to}
use Rattle.books.specs.Calls.{Cutting}
use Rattle.relaxation.specs.ByLeft.{Lists}
use Rattle.plans.specs.Plans.{counts}
use Rattle.plans.proofs.Sounds.{sound_restored, noted_youngest, counts_left, cut_is, youngest_added, youngest_of, state_same}
use Rattle.plans.proofs.Tallies.{front_copied}
use Rattle.plans.proofs.plan.Plan.back.Goals as goal

pub unlist-requires-clause-few : goal.unlist-requires-clause-few
unlist-requires-clause-few g c =
    let present = c.in_ok-present.ensures {u = tt} in
    let marks = c.args.self.now.marks in
    let some : 0 < length marks = omega (arith, present.is_open, present.depth_is, length-map marks (λ m. m.added)) in
    let y = youngest_of marks some in
    rw (c.added-added.ensures y.0 y.1 y.2) (youngest_added y.0 y.1 y.2 (c.in_ok-check_settled.ensures {u = tt}) c.args.self.now.sound)

pub invariant_of-self : goal.invariant_of-self
invariant_of-self g c =
    let b = g.B.Book in
    let d = g.D.Delay in
    let plan = c.args.self.now in
    let book = b.meaning plan.book in
    let rest = c.close.new.self in
    let m = c.close.ensures.0 in
    let split = c.close.ensures.1 in
    let on = c.in_ok-check_settled.ensures {u = tt} in
    let e = c.added-added.ensures rest m split in
    let few = youngest_added rest m split on plan.sound in
    let same : b.meaning c.cut.new.self ≡ cut_to book m.added =
    (cut_is b.meaning b.cuts c.cut.result (rw e at c.cut.ensures) few).1 in
    let listed : Lists c.unlist.new.index (map (λ r. r.left) (bounds_of (cut_to book m.added))) =
    rw (e, take-append-add book.fixed book.added m.added) at c.unlist.ensures in
    let copied = rw (c.times-times.ensures rest m split) at c.copy_from_slice.ensures.after in
    record {
      sound = sound_restored m (c.copy_from_slice.new.self ++ drop plan.points plan.times) c.unlist.new.index on
          (front_copied d.kind d.means m.times (drop plan.points plan.times) c.copy_from_slice.new.self plan.points copied
          (omega (arith, c.copy_from_slice.ensures.len, length-take-le plan.points plan.times (omega (arith, (plan.sound.settled_times on).few)))))
          split same listed plan.sound;
    }

pub returns-clause-step : goal.returns-clause-step
returns-clause-step g c =
    let b = g.B.Book in
    let rest = c.close.new.self in
    let m = c.close.ensures.0 in
    let split = c.close.ensures.1 in
    let on = c.in_ok-check_settled.ensures {u = tt} in
    let present = c.in_ok-present.ensures {u = tt} in
    let e = c.added-added.ensures rest m split in
    let few = youngest_added rest m split on c.args.self.now.sound in
    let same = (cut_is b.meaning b.cuts c.cut.result (rw e at c.cut.ensures) few).1 in
    let noted = noted_youngest rest m split c.args.slip.depth present.depth_is in
    let left = counts_left rest m split c.args.slip.depth present.depth_is in
    inr (λ off. both_ways c.args.self.now.settled off on, inr (λ no. no present, (refl, state_same (rw noted same) refl refl refl left)))

pub returns-clause-book : goal.returns-clause-book
returns-clause-book g c =
    let b = g.B.Book in
    let rest = c.close.new.self in
    let m = c.close.ensures.0 in
    let split = c.close.ensures.1 in
    let e = c.added-added.ensures rest m split in
    let few = youngest_added rest m split (c.in_ok-check_settled.ensures {u = tt}) c.args.self.now.sound in
    rw (noted_youngest rest m split c.args.slip.depth (c.in_ok-present.ensures {u = tt}).depth_is)
    (cut_is b.meaning b.cuts c.cut.result (rw e at c.cut.ensures) few)
