use Rattle.std.proofs.Common.{◌≡◌, refl, subst}
use Rattle.std.proofs.lemmas.Bool.{false≢true}
use Rattle.books.specs.Meaning.{bounds_of}
use Rattle.network.specs.Assignments.{Le}
use Rattle.relaxation.proofs.Listing.{lefts_of}
use Rattle.relaxation.proofs.Covering.{Uncovered, covered_here, uncovered_goes, none_covers}
use Rattle.relaxation.proofs.question.Question.is_covered.Goals.{else-row-self-via-then-row-self+else-le, else-row-self-via-else-row-self}
use Rattle.relaxation.proofs.question.Question.is_covered.Goals as goal

pub returns-then-le : goal.returns-then-le
returns-then-le g c =
    let k = g.D.Delay.kind in
    let q = c.args.self.now in
    let rows = bounds_of (g.B.Book.meaning q.net.bounds.book.now) in
    let here = subst (Uncovered k rows q.row) c.in-Some.is c.loop-at.invariant in
    let told = g.met.D.Delay.ordered c.delay_of.result q.delay in
    (λ _. covered_here k rows q.row here c.row-row.result c.row-row.ensures c.if-row-self.true (cc (told, q.means, c.if-le.ensures)), λ _. refl)

pub loop-at-preserved : goal.loop-at-preserved
loop-at-preserved g c =
    let k = g.D.Delay.kind in
    let q = c.args.self.now in
    let row = c.row-row.result in
    let rows = bounds_of (g.B.Book.meaning q.net.bounds.book.now) in
    let here = subst (Uncovered k rows q.row) c.in-Some.is c.loop-at.invariant in
    let not : row.right ≡ q.row.right → Le k (k.value row.t row.s) (k.value q.row.t q.row.s) → ⊥ = λ e le. elim c.else-row-self.branch [
      | else-row-self-via-then-row-self+else-le w ↦
          let told = g.met.D.Delay.ordered w.delay_of.result q.delay in
          cc (told, q.means, w.if-le.ensures)
      | else-row-self-via-else-row-self w ↦ w.if-row-self.false e
    ] in
    uncovered_goes k rows q.row here row c.row-row.ensures not
    (record { listed = c.older-at.ensures.listed (lefts_of rows) q.net.listed here.here.0; few = c.older-at.ensures.few })

pub returns : goal.returns
returns g c =
    let k = g.D.Delay.kind in
    let q = c.args.self.now in
    let rows = bounds_of (g.B.Book.meaning q.net.bounds.book.now) in
    (λ e. absurd (false≢true e), λ h. absurd (none_covers k rows q.row (subst (Uncovered k rows q.row) c.in_default.is c.loop-at.invariant) h))
