use Rattle.std.proofs.Common.{◌≡◌, ℕ, ◌++◌, ◌∷◌, [], length, drop, refl, sym, ap, ◌∙◌, arith}
use Rattle.std.proofs.lemmas.Bool.{both_ways}
use Rattle.std.proofs.lemmas.List.{length-take-le}
use Rattle.bounds.specs.Making.{row_of}
use Rattle.books.specs.Meaning.{bounds_of}
use Rattle.network.specs.Edges.{time_of_point}
use Rattle.relaxation.proofs.Rows.{least_times}
use Rattle.plans.specs.States.{rows}
use Rattle.plans.specs.Plans.{state_of}
use Rattle.plans.proofs.Chaining.{found_copied}
use Rattle.plans.proofs.Sounds.{state_same}
use Rattle.plans.proofs.Tallies.{front_copied, moved_none}
use Rattle.plans.proofs.Solving.{post_refused, list_kept, post_covered, post_conflict, post_full, post_moved, sound_posted, sound_relisted, sound_kept, adding_full, same_book}
use Rattle.plans.proofs.plan.Plan.post.Goals as goal

pub returns-in_err-delay-clause-step : goal.returns-in_err-delay-clause-step
returns-in_err-delay-clause-step g c =
    rw (← c.row-row.ensures.value) (post_refused c.from_residual.result c.in_err-delay.field-0.0 c.from_residual.ensures.1 (c.in_err-delay.ensures {u = tt}))

pub returns-in_err-delay-clause-list : goal.returns-in_err-delay-clause-list
returns-in_err-delay-clause-list g c =
    list_kept c.from_residual.result c.in_err-delay.field-0.0 c.from_residual.ensures.1 (c.in_err-delay.ensures {u = tt})
    c.args.self.now.points (rows (state_of c.args.self.now)) (row_of c.args.bound ∷ []) c.args.list.now

pub invariant_of-bounds : goal.invariant_of-bounds
invariant_of-bounds g c =
    let s = c.args.self.now.sound.settled_times (c.in_ok-delay.ensures {u = tt}).0.0 in record { some = s.some; few = s.few; fit = s.fit }

pub invariant_of-question : goal.invariant_of-question
invariant_of-question g c =
    let passed = c.in_ok-delay.ensures {u = tt} in
    let s = c.args.self.now.sound.settled_times passed.0.0 in
    record { earliest = s.least; fits = passed.0.1; sound = c.row-row.ensures.range; means = passed.1 }

pub returns-then-is_covered-clause-step : goal.returns-then-is_covered-clause-step
returns-then-is_covered-clause-step g c =
    rw (← c.row-row.ensures.value) (post_covered g.D.Delay.kind (state_of c.args.self.now) (c.in_ok-delay.ensures {u = tt}).0 (c.is_covered.ensures.0 c.if-is_covered.true))

pub invariant_of-self-in-Met : goal.invariant_of-self-in-Met
invariant_of-self-in-Met g c =
    let d = g.D.Delay in
    let b = g.B.Book in
    let plan = c.args.self.now in
    let state = state_of plan in
    let row = c.row-row.result in
    let passed = c.in_ok-delay.ensures {u = tt} in
    let tries = passed.0 in
    let s = plan.sound.settled_times tries.0 in
    let added = rw (← c.row-row.ensures.value) at c.add.ensures.added in
    record {
      sound = sound_kept g.met.D.Delay.lawful s b.meaning b.adds refl plan.sound.marks_few row c.add.new.index tries.0 tries.1 c.in-Met.ensures
          c.add.result added c.add.ensures.listed;
    }

pub returns-in_err-add-in-Met-clause-step : goal.returns-in_err-add-in-Met-clause-step
returns-in_err-add-in-Met-clause-step g c =
    let d = g.D.Delay in
    let b = g.B.Book in
    let plan = c.args.self.now in
    let state = state_of plan in
    let row = c.row-row.result in
    let passed = c.in_ok-delay.ensures {u = tt} in
    let tries = passed.0 in
    let s = plan.sound.settled_times tries.0 in
    let full = adding_full b.meaning b.adds (row_of c.args.bound) (Unit {0}) c.in_err-add-in-Met.field-0.0 c.in_err-add-in-Met.ensures.added in
    rw (← c.row-row.ensures.value) (post_full d.kind state tries (λ has. both_ways c.is_covered.result c.if-is_covered.false (c.is_covered.ensures.1 has))
    c.from_residual-in_err-add-in-Met.result c.in_err-add-in-Met.field-0.0 c.from_residual-in_err-add-in-Met.ensures.1 c.in-Met.ensures full.0
    (state_same (ap b.meaning full.1) refl refl refl refl))

pub returns-in_err-add-in-Met-clause-book : goal.returns-in_err-add-in-Met-clause-book
returns-in_err-add-in-Met-clause-book g c =
    let b = g.B.Book in
    let full = adding_full b.meaning b.adds (row_of c.args.bound) (Unit {0}) c.in_err-add-in-Met.field-0.0 c.in_err-add-in-Met.ensures.added in
    same_book b.meaning b.adds (row_of c.args.bound) c.from_residual-in_err-add-in-Met.result _ c.from_residual-in_err-add-in-Met.ensures.1 full.1

pub returns-in_ok-add-in-Met-clause-step : goal.returns-in_ok-add-in-Met-clause-step
returns-in_ok-add-in-Met-clause-step g c =
    let d = g.D.Delay in
    let b = g.B.Book in
    let plan = c.args.self.now in
    let state = state_of plan in
    let row = c.row-row.result in
    let passed = c.in_ok-delay.ensures {u = tt} in
    let tries = passed.0 in
    let s = plan.sound.settled_times tries.0 in
    let added = rw (← c.row-row.ensures.value) at c.in_ok-add-in-Met.ensures.added in
    let time = time_of_point d.kind d.means plan.times in
    rw (← c.row-row.ensures.value) (post_moved d.kind state tries (λ has. both_ways c.is_covered.result c.if-is_covered.false (c.is_covered.ensures.1 has))
    c.in-Met.ensures (least_times g.met.D.Delay.lawful plan.points (bounds_of (b.meaning plan.book)) time s.some s.fit s.least)
    (λ full. omega (arith, full, added.0)) (sym (moved_none g.met.D.Delay.lawful plan.points time)) (state_same added.1 refl refl refl refl))

pub invariant_of-self-in-Break-branch-3 : goal.invariant_of-self-in-Break-branch-3
invariant_of-self-in-Break-branch-3 g c =
    let d = g.D.Delay in
    let b = g.B.Book in
    let plan = c.args.self.now in
    let state = state_of plan in
    let row = c.row-row.result in
    let passed = c.in_ok-delay.ensures {u = tt} in
    let tries = passed.0 in
    let s = plan.sound.settled_times tries.0 in
    let full = adding_full b.meaning b.adds (row_of c.args.bound) (Unit {0}) c.in_err-add-in-Raised.field-0.0 c.in_err-add-in-Raised.ensures.added in
    record {
      sound = sound_relisted g.met.D.Delay.lawful s plan.sound.marks_few c.add-in-Raised.new.index tries.0 (ap b.meaning full.1) c.add-in-Raised.ensures.listed;
    }

pub returns-in_err-add-in-Raised-clause-step : goal.returns-in_err-add-in-Raised-clause-step
returns-in_err-add-in-Raised-clause-step g c =
    let d = g.D.Delay in
    let b = g.B.Book in
    let plan = c.args.self.now in
    let state = state_of plan in
    let row = c.row-row.result in
    let passed = c.in_ok-delay.ensures {u = tt} in
    let tries = passed.0 in
    let s = plan.sound.settled_times tries.0 in
    let full = adding_full b.meaning b.adds (row_of c.args.bound) (Unit {0}) c.in_err-add-in-Raised.field-0.0 c.in_err-add-in-Raised.ensures.added in
    let found = c.in-Raised.ensures in
    rw (← c.row-row.ensures.value) (post_full d.kind state tries found.1 c.from_residual-in_err-add-in-Raised.result c.in_err-add-in-Raised.field-0.0
    c.from_residual-in_err-add-in-Raised.ensures.1 found.0 full.0 (state_same (ap b.meaning full.1) refl refl refl refl))

pub returns-in_err-add-in-Raised-clause-book : goal.returns-in_err-add-in-Raised-clause-book
returns-in_err-add-in-Raised-clause-book g c =
    let b = g.B.Book in
    let full = adding_full b.meaning b.adds (row_of c.args.bound) (Unit {0}) c.in_err-add-in-Raised.field-0.0 c.in_err-add-in-Raised.ensures.added in
    same_book b.meaning b.adds (row_of c.args.bound) c.from_residual-in_err-add-in-Raised.result _ c.from_residual-in_err-add-in-Raised.ensures.1 full.1

pub invariant_of-self-in-Raised : goal.invariant_of-self-in-Raised
invariant_of-self-in-Raised g c =
    let d = g.D.Delay in
    let b = g.B.Book in
    let plan = c.args.self.now in
    let state = state_of plan in
    let row = c.row-row.result in
    let passed = c.in_ok-delay.ensures {u = tt} in
    let tries = passed.0 in
    let s = plan.sound.settled_times tries.0 in
    let added = rw (← c.row-row.ensures.value) at c.in_ok-add-in-Raised.ensures.added in
    let old = drop plan.points plan.times in
    let copied = rw c.times-times.ensures at c.copy_from_slice.ensures.after in
    let whole : length c.copy_from_slice.new.self ≡ plan.points =
    omega (arith, c.copy_from_slice.ensures.len, length-take-le plan.points plan.times (omega (arith, s.few))) in
    record {
      sound = sound_posted g.met.D.Delay.lawful s plan.sound.marks_few row (c.copy_from_slice.new.self ++ old) c.add-in-Raised.new.index tries.0 tries.1
          c.in-Raised.ensures.0 (front_copied d.kind d.means c.post.new.self.times old c.copy_from_slice.new.self plan.points copied whole) added.1
          c.add-in-Raised.ensures.listed;
    }

pub returns-in_ok-add-in-Raised-clause-step : goal.returns-in_ok-add-in-Raised-clause-step
returns-in_ok-add-in-Raised-clause-step g c =
    let d = g.D.Delay in
    let b = g.B.Book in
    let plan = c.args.self.now in
    let state = state_of plan in
    let row = c.row-row.result in
    let passed = c.in_ok-delay.ensures {u = tt} in
    let tries = passed.0 in
    let s = plan.sound.settled_times tries.0 in
    let added = rw (← c.row-row.ensures.value) at c.in_ok-add-in-Raised.ensures.added in
    let found = c.in-Raised.ensures in
    let time = time_of_point d.kind d.means plan.times in
    rw (← c.row-row.ensures.value) (post_moved d.kind state tries found.1 found.0
    (least_times g.met.D.Delay.lawful plan.points (bounds_of (b.meaning plan.book)) time s.some s.fit s.least) (λ full. omega (arith, full, added.0))
    (rw c.times-times.ensures at c.moved-count.ensures) (state_same added.1 refl refl refl refl))

pub returns-in-Conflict-clause-step : goal.returns-in-Conflict-clause-step
returns-in-Conflict-clause-step g c =
    let tries = (c.in_ok-delay.ensures {u = tt}).0 in
    let found = c.in-Conflict.ensures in
    rw (← c.row-row.ensures.value) (post_conflict g.D.Delay.kind (state_of c.args.self.now) tries found.1
    (found_copied found.0 c.args.list.now c.chain.result.now c.copy_from_slice-in-Conflict.new.self c.chain.ensures c.copy_from_slice-in-Conflict.ensures.after tries.2))

pub returns-in-Conflict-clause-list : goal.returns-in-Conflict-clause-list
returns-in-Conflict-clause-list g c =
    rw (← c.row-row.ensures.value) (found_copied c.in-Conflict.ensures.0 c.args.list.now c.chain.result.now c.copy_from_slice-in-Conflict.new.self c.chain.ensures
    c.copy_from_slice-in-Conflict.ensures.after (c.in_ok-delay.ensures {u = tt}).0.2)
