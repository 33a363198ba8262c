use Rattle.std.proofs.Common.{refl, arith, rules}
use Rattle.relaxation.proofs.Founding.{going_room, going_on, going_ends}
use Rattle.relaxation.proofs.spreading.Spreading.go_back.Goals as goal

pub step_back-word-requires : goal.step_back-word-requires
step_back-word-requires g c = let room = going_room c.loop-point.invariant.1 c.loop-point-test.true in (search rules, room.0)

pub overflow_sub-self : goal.overflow_sub-self
overflow_sub-self g c = let room = going_room c.loop-point.invariant.1 c.loop-point-test.true in omega arith

pub overflow_add-length : goal.overflow_add-length
overflow_add-length g c = let room = going_room c.loop-point.invariant.1 c.loop-point-test.true in omega arith

pub loop-point-init : goal.loop-point-init
loop-point-init g c = (
  refl,
  record {
    room = c.requires;
    done = λ root steps way begun. (steps, refl, way, begun);
  },
)

pub loop-point-preserved : goal.loop-point-preserved
loop-point-preserved g c =
    let step = rw c.loop-point.invariant.0 at c.step_back-word.ensures in
    (c.loop-point.invariant.0, going_on c.loop-point.invariant.1 c.step_back-word.result.0 c.step_back-word.result.1 c.loop-point-test.true step)

pub loop-point-smaller : goal.loop-point-smaller
loop-point-smaller g c = let room = going_room c.loop-point.invariant.1 c.loop-point-test.true in omega arith

pub returns : goal.returns
returns g c = going_ends c.loop-point.invariant.1 c.loop-point-test.false
