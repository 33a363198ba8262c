use Rattle.std.proofs.Common.{rules, ap, ◌∙◌}
use Rattle.books.specs.Meaning.{bounds_of}
use Rattle.relaxation.proofs.Settling.{alone, star_ready, star_ended}
use Rattle.relaxation.proofs.spreading.Spreading.settle_star.Goals as goal

pub spread-requires : goal.spread-requires
spread-requires g c =
    let net = c.args.net.now.bounds in
    let rows = bounds_of (g.B.Book.meaning net.book.now) in
    let only = alone c.clear.new.self.waiting c.args.root c.push.new.self.waiting (ap (λ q. q.waiting) c.clear.ensures) c.push.ensures.joined in
    let ready = star_ready g.met.D.Delay.lawful net.some rows net.few net.fit (g.met.B.Book.proper net.book.now).sound
    c.args.root c.requires.inside _ c.requires.times c.args.self.now.over c.push.new.self.waiting only in
    (search rules, (ready, c.push.ensures.taken ∙ ap (λ q. q.taken) c.clear.ensures))

pub returns : goal.returns
returns g c =
    let rows = bounds_of (g.B.Book.meaning c.args.net.now.bounds.book.now) in
    star_ended g.met.D.Delay.lawful c.args.net.now.bounds.some rows c.args.root _ _ (rw c.if-spread.false at c.spread.ensures)
