use Rattle.std.proofs.Common.{rules, ◌≡◌, ℕ, ◌<◌, ◌≤◌, ◌++◌, length, drop, slice_index_or, ap, ◌∙◌, arith}
use Rattle.std.proofs.lemmas.Bool.Decides.{not_from_Decides}
use Rattle.books.specs.Meaning.{bounds_of}
use Rattle.network.specs.Edges.{time_of_point}
use Rattle.relaxation.proofs.Posting.{Posts, Compared, compared, compared_copied, times_copied, posts, posts_copied}
use Rattle.relaxation.proofs.Posting.{post_met, post_bare, post_near, post_stopped, post_ready, post_ended}
use Rattle.relaxation.proofs.spreading.Spreading.post.Goals.{Start, After-sum_exceeds, After-copy_from_slice}
use Rattle.relaxation.proofs.spreading.Spreading.post.Goals.{then-relax-via-then-relax, then-relax-via-else-relax+then-spread}
use Rattle.relaxation.proofs.spreading.Spreading.post.Goals as goal

-- a bound that fits is posted to a book with its earliest times
posed : (g : _) (c : Start g) → let q = c.args.question.now in let d = g.D.Delay in
    Posts d.kind q.net.bounds.points (bounds_of (g.B.Book.meaning q.net.bounds.book.now)) q.row (time_of_point d.kind d.means q.times.now)
posed g c =
    let q = c.args.question.now in
    let bounds = q.net.bounds in
    posts g.met.D.Delay.lawful bounds.some bounds.few bounds.fit (g.met.B.Book.proper bounds.book.now).sound q.fits q.sound q.earliest

-- what it asks is compared with the time of its right point
read : (g : _) (c : After-sum_exceeds g) → let q = c.args.question.now in let d = g.D.Delay in
    Compared d.kind q.row (time_of_point d.kind d.means q.times.now)
    (d.kind.sum (d.means (slice_index_or q.times.now c.from-left.result c.index-times-left.result)) (d.means c.opposite-change.result)) c.sum_exceeds.result
read g c =
    let q = c.args.question.now in
    let d = g.D.Delay in
    compared d.kind d.means q.times.now q.row c.from-left.result c.from-right.result c.index-times-left.result c.index-times-right.result
    c.opposite-change.result q.delay c.sum_exceeds.result c.from-left.ensures c.from-right.ensures
    (omega (arith, c.type_inv.times, q.fits.left, q.net.bounds.few)) (omega (arith, c.type_inv.times, q.fits.right, q.net.bounds.few))
    c.opposite-change.ensures q.means c.sum_exceeds.ensures

-- each point has a place among the times
long : (g : _) (c : After-sum_exceeds g) → c.args.question.now.net.bounds.points ≤ length c.args.question.now.times.now
long g c = omega (arith, c.type_inv.times, c.args.question.now.net.bounds.few)

-- where they were copied, the points have their old times
copied : (g : _) (c : After-copy_from_slice g) → let q = c.args.question.now in let d = g.D.Delay in let n = q.net.bounds.points in
    n ≤ length q.times.now → (p : ℕ) → p < n
    → time_of_point d.kind d.means (c.copy_from_slice.new.self ++ drop n c.args.self.now.times) p ≡ time_of_point d.kind d.means q.times.now p
copied g c long =
    let q = c.args.question.now in
    let n = q.net.bounds.points in
    times_copied g.D.Delay.kind g.D.Delay.means n c.copy_from_slice.new.self (drop n c.args.self.now.times) q.times.now c.copy_from_slice.ensures.after long

pub returns-then-not-sum_exceeds : goal.returns-then-not-sum_exceeds
returns-then-not-sum_exceeds g c =
    let r = read g (goal.at.returns-then-not-sum_exceeds g c).After-sum_exceeds in
    post_met g.met.D.Delay.lawful (posed g (goal.at.returns-then-not-sum_exceeds g c).Start)
    (not_from_Decides c.sum_exceeds.result r.exceeds c.if-not-sum_exceeds.true)

pub relax-requires : goal.relax-requires
relax-requires g c =
    let q = c.args.question.now in
    let r = read g (goal.at.relax-requires g c).After-sum_exceeds in
    let near = post_near g.met.D.Delay.lawful (posed g (goal.at.relax-requires g c).Start) in (
      search rules,
      (
        omega (arith, c.from-right.ensures, q.fits.right, q.net.bounds.few),
        (omega (arith, ap g.D.Delay.kind.size r.asks, near, g.met.D.Delay.room), omega (arith, ap (λ l. l.taken) c.clear.ensures)),
      ),
    )

pub spread-requires : goal.spread-requires
spread-requires g c =
    let at = goal.at.spread-requires g c in
    let laws = g.met.D.Delay.lawful in
    let same = copied g at.After-copy_from_slice (long g at.After-sum_exceeds) in
    let p = posts_copied laws _ (posed g at.Start) same in
    let r = compared_copied _ c.args.question.now.fits (read g at.After-sum_exceeds) same in
    let ready = post_ready laws p (r.exceeds.0 c.if-not-sum_exceeds.false) (ap (λ l. l.waiting) c.clear.ensures)
    (rw (r.asks, c.from-left.ensures, c.from-right.ensures) at c.if-relax.ensures.asked) in
    (search rules, (rw c.from-left.ensures ready, c.relax.ensures.turns ∙ ap (λ l. l.taken) c.clear.ensures))

pub write_chain-requires : goal.write_chain-requires
write_chain-requires g c =
    let at = goal.at.write_chain-requires g c in
    let laws = g.met.D.Delay.lawful in
    let same = copied g at.After-copy_from_slice (long g at.After-sum_exceeds) in
    let p = posts_copied laws _ (posed g at.Start) same in
    let r = compared_copied _ c.args.question.now.fits (read g at.After-sum_exceeds) same in (
      search rules,
      elim c.then-relax.branch [
        | then-relax-via-then-relax w ↦ rw (w.self-is, c.from-left.ensures)
            (post_stopped laws p (rw (r.asks, c.from-left.ensures, c.from-right.ensures) at w.if-relax.ensures.asked))
        | then-relax-via-else-relax+then-spread w ↦ rw w.self-is w.if-spread.ensures
      ],
    )

pub returns-then-relax : goal.returns-then-relax
returns-then-relax g c =
    let r = read g (goal.at.returns-then-relax g c).After-sum_exceeds in
    let above = r.exceeds.0 c.if-not-sum_exceeds.false in
    (c.write_chain.ensures, post_bare g.met.D.Delay.lawful (posed g (goal.at.returns-then-relax g c).Start) above)

pub returns : goal.returns
returns g c =
    let laws = g.met.D.Delay.lawful in
    let p = posed g (goal.at.returns g c).Start in
    let r = read g (goal.at.returns g c).After-sum_exceeds in
    (post_ended laws p (rw c.from-left.ensures at c.if-spread.ensures), post_bare laws p (r.exceeds.0 c.if-not-sum_exceeds.false))
