use Rattle.std.proofs.Common.{◌≡◌, eqb, ℕ, Bool, count_by, take, drop, ap, arith}
use Rattle.std.proofs.lemmas.List.Sums.{count_by-le-length}
use Rattle.scripts.proofs.Counting.{counted_apart}
use Rattle.scripts.proofs.script.feed_count.Goals as goal

pub parts-preserved : goal.parts-preserved
parts-preserved c =
    let feed : ℕ → Bool = λ b. eqb b 10 in
    let left = c.parts.left.now in
    let front : count_by feed c.split_at.result.0.now ≡ count_by feed (take 128 left) = ap (count_by feed) c.split_at.ensures.front in
    let back : count_by feed c.split_at.result.1.now ≡ count_by feed (drop 128 left) = ap (count_by feed) c.split_at.ensures.back in
    let here : c.feeds.result ≡ count_by feed c.split_at.result.0.now = c.feeds.ensures in
    record {
      counted = omega (arith, counted_apart 128 left, front, back, here);
      few = omega (arith, count_by-le-length feed c.split_at.result.0.now, here);
    }
