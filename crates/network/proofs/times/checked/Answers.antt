use Rattle.std.proofs.Common.{rules, ◌≡◌, subst}
use Rattle.std.specs.List.{All}
use Rattle.std.proofs.lemmas.List.Elements.{All-more, All-map, All-weaker}
use Rattle.std.proofs.lemmas.List.{take_all}
use Rattle.delays.specs.Kind.{Within}
use Rattle.network.specs.Assignments.{Meets}
use Rattle.network.specs.Edges.{bound_of, time_of_point}
use Rattle.network.specs.Checks.{limit_at, Met, MetWithin}
use Rattle.network.proofs.times.checked.Goals as goal

pub loop-number-preserved : goal.loop-number-preserved
loop-number-preserved g c =
    let P = MetWithin g.D.Quantity.kind g.D.Quantity.means c.args.times.now in
    let edge = c.index-edges-number in
    let met = c.in-Some-true.ensures in
    All-more P c.args.edges.now c.loop-number.number edge.result c.loop-number-test.true c.loop-number.invariant
    (subst P edge.is (met.0, met.1.0 c.in-Some-true.field-0-test))

pub returns : goal.returns
returns g c =
    let k = g.D.Quantity.kind in
    let means = g.D.Quantity.means in
    let edges = c.args.edges.now in
    let times = c.args.times.now in
    let P = MetWithin k means times in
    let first : time_of_point k means times 0 ≡ k.zero = search rules in
    let met : All P edges = subst (All P) (take_all _ edges c.loop-number-test.false) c.loop-number.invariant in (
      record {
        zero_first = first;
        meets = All-map (Meets k (time_of_point k means times)) (bound_of k means) edges (All-weaker P (Met k means times) (λ e h. h.1) edges met);
      },
      All-weaker P (λ e. Within k (limit_at k means times e)) (λ e h. h.0) edges met,
    )
