use Rattle.std.proofs.Common.{◌<◌, ◌≤◌, length, refl, ◌∙◌, arith, rules}
use Rattle.books.specs.Meaning.{bounds_of}
use Rattle.relaxation.proofs.Flooring.{floors_begin, floors_end, floor_near, floor_stops, floors_go}
use Rattle.relaxation.proofs.Writing.{time_read}
use Rattle.relaxation.proofs.spreading.Spreading.take_floors.Goals as goal

pub loop-right-init : goal.loop-right-init
loop-right-init g c =
    (floors_begin g.met.D.Delay.lawful c.requires.working, refl)

pub relax-requires : goal.relax-requires
relax-requires g c =
    let few : length (bounds_of (g.B.Book.meaning c.args.net.now.bounds.book.now)) ≤ 65535 =
    omega (arith, (g.met.B.Book.proper c.args.net.now.bounds.book.now).few) in
    let room : 0 < length c.args.self.now.times = omega arith in
    let from = time_read g.D.Delay.kind g.D.Delay.means c.args.self.now.times 0 room c.index-self-0.result in
    let low : c.loop-right.right < c.args.net.now.bounds.points = omega arith in
    let inside : c.loop-right.right < 128 = omega (arith, c.args.net.now.bounds.few) in (
      search rules,
      (
        inside,
        (
          floor_near g.met.D.Delay.lawful c.loop-right.invariant.0 low few from c.zero.ensures g.met.D.Delay.room,
          omega (arith, c.loop-right.invariant.1, c.requires.turns),
        ),
      ),
    )

pub returns-then-relax-clause-taken : goal.returns-then-relax-clause-taken
returns-then-relax-clause-taken g c =
    let few : length (bounds_of (g.B.Book.meaning c.args.net.now.bounds.book.now)) ≤ 65535 =
    omega (arith, (g.met.B.Book.proper c.args.net.now.bounds.book.now).few) in
    let room : 0 < length c.args.self.now.times = omega arith in
    let from = time_read g.D.Delay.kind g.D.Delay.means c.args.self.now.times 0 room c.index-self-0.result in
    let low : c.loop-right.right < c.args.net.now.bounds.points = omega arith in
    floor_stops g.met.D.Delay.lawful c.loop-right.invariant.0 low few from c.zero.ensures c.if-relax.ensures.asked

pub loop-right-preserved : goal.loop-right-preserved
loop-right-preserved g c =
    let few : length (bounds_of (g.B.Book.meaning c.args.net.now.bounds.book.now)) ≤ 65535 =
    omega (arith, (g.met.B.Book.proper c.args.net.now.bounds.book.now).few) in
    let room : 0 < length c.args.self.now.times = omega arith in
    let from = time_read g.D.Delay.kind g.D.Delay.means c.args.self.now.times 0 room c.index-self-0.result in
    let low : c.loop-right.right < c.args.net.now.bounds.points = omega arith in (
      floors_go g.met.D.Delay.lawful c.loop-right.invariant.0 low few from c.zero.ensures c.if-relax.ensures.asked,
      c.relax.ensures.turns ∙ c.loop-right.invariant.1,
    )

pub returns-clause-taken : goal.returns-clause-taken
returns-clause-taken g c =
    let high : c.args.net.now.bounds.points ≤ c.loop-right.right = omega arith in
    floors_end c.loop-right.invariant.0 high
