use Rattle.std.proofs.Common.{◌<◌, length, refl, ◌∙◌, arith, rules}
use Rattle.relaxation.proofs.Cursors.{falls}
use Rattle.relaxation.proofs.Taking.{rows_begin, rows_end, row_in, row_listed, row_near, row_stops, rows_go, taken_inside, row_inside}
use Rattle.relaxation.proofs.Writing.{time_read}
use Rattle.relaxation.proofs.spreading.Spreading.take_rows.Goals as goal

pub newest-at-requires : goal.newest-at-requires
newest-at-requires g c =
    omega (arith, taken_inside c.requires.working, c.args.net.now.bounds.few)

pub offset_bounds-self-point : goal.offset_bounds-self-point
offset_bounds-self-point g c =
    omega (arith, taken_inside c.requires.working, c.args.net.now.bounds.few)

pub bounds-self-point : goal.bounds-self-point
bounds-self-point g c =
    omega (arith, taken_inside c.requires.working, c.args.net.now.bounds.few)

pub listed : goal.listed
listed g c =
    omega (arith, taken_inside c.requires.working, c.args.net.now.bounds.few)

pub loop-at-init : goal.loop-at-init
loop-at-init g c = (
  rows_begin g.met.D.Delay.lawful c.requires.working
      (record { listed = c.newest-at.ensures.listed _ c.args.net.now.listed; few = c.newest-at.ensures.few }),
  refl,
)

pub row-row-requires : goal.row-row-requires
row-row-requires g c =
    row_in c.loop-at.invariant.0 c.in-Some.is

pub overflow_cast-number : goal.overflow_cast-number
overflow_cast-number g c =
    omega (arith, row_in c.loop-at.invariant.0 c.in-Some.is, (g.met.B.Book.proper c.args.net.now.bounds.book.now).few)

pub older-at-requires : goal.older-at-requires
older-at-requires g c =
    omega (arith, row_in c.loop-at.invariant.0 c.in-Some.is, (g.met.B.Book.proper c.args.net.now.bounds.book.now).few)

pub relax-requires : goal.relax-requires
relax-requires g c =
    let room : c.args.point < length c.args.self.now.times = omega (arith, taken_inside c.requires.working, c.args.net.now.bounds.few) in
    let from = time_read g.D.Delay.kind g.D.Delay.means c.args.self.now.times c.args.point room c.index-self-point.result in
    let inside : c.from.result < 128 =
    omega (arith, row_inside c.loop-at.invariant.0 c.in-Some.is c.args.net.now.bounds.fit c.row-row.ensures, c.from.ensures, c.args.net.now.bounds.few) in (
      search rules,
      (
        inside,
        (
          row_near g.met.D.Delay.lawful c.loop-at.invariant.0 c.in-Some.is c.row-row.ensures c.from.ensures from
              c.opposite-change.ensures c.delay_of.ensures g.met.D.Delay.room,
          omega (arith, c.loop-at.invariant.1, c.requires.turns),
        ),
      ),
    )

pub returns-then-relax-clause-taken : goal.returns-then-relax-clause-taken
returns-then-relax-clause-taken g c =
    let room : c.args.point < length c.args.self.now.times = omega (arith, taken_inside c.requires.working, c.args.net.now.bounds.few) in
    let from = time_read g.D.Delay.kind g.D.Delay.means c.args.self.now.times c.args.point room c.index-self-point.result in
    row_stops g.met.D.Delay.lawful c.loop-at.invariant.0 c.in-Some.is c.row-row.ensures c.from.ensures from
    c.opposite-change.ensures c.delay_of.ensures c.if-relax.ensures.asked

pub loop-at-smaller : goal.loop-at-smaller
loop-at-smaller g c =
    falls c.in-Some.is c.older-at.result
    (record { listed = c.older-at.ensures.listed _ c.args.net.now.listed (row_listed c.loop-at.invariant.0 c.in-Some.is); few = c.older-at.ensures.few })

pub loop-at-preserved : goal.loop-at-preserved
loop-at-preserved g c =
    let room : c.args.point < length c.args.self.now.times = omega (arith, taken_inside c.requires.working, c.args.net.now.bounds.few) in
    let from = time_read g.D.Delay.kind g.D.Delay.means c.args.self.now.times c.args.point room c.index-self-point.result in (
      rows_go g.met.D.Delay.lawful c.loop-at.invariant.0 c.in-Some.is c.row-row.ensures c.from.ensures from
          c.opposite-change.ensures c.delay_of.ensures c.if-relax.ensures.asked
          (record { listed = c.older-at.ensures.listed _ c.args.net.now.listed (row_listed c.loop-at.invariant.0 c.in-Some.is); few = c.older-at.ensures.few }),
      c.relax.ensures.turns ∙ c.loop-at.invariant.1,
    )

pub returns-clause-taken : goal.returns-clause-taken
returns-clause-taken g c =
    rows_end c.loop-at.invariant.0 c.in_default.is
