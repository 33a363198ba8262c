use Rattle.std.proofs.Common.{◌≡◌, w64, to_z, of_z, to_z-of_z, ap, ◌∙◌, arith, rules}
use Rattle.delays.specs.Ticks.{ticks_kind}
use Rattle.plans.specs.Plans.{state_of}
use Rattle.scripts.specs.declared.command.Command.TheVariants.{Ticks}
use Rattle.scripts.specs.Sessions.{in_ticks, points_of, new_plan}
use Rattle.scripts.proofs.Beginning.{begun, ticks_follow}
use Rattle.scripts.proofs.Remaining.{opened_empty}
use Rattle.scripts.proofs.listing.in_ticks.Goals as goal

pub planned-requires : goal.planned-requires
planned-requires c =
    let read : to_z w64 (of_z w64 c.args.points) ≡ c.args.points = search (rules, to_z-of_z) in
    let first : state_of c.open-plan.result ≡ new_plan c.args.points =
    opened_empty _ _ _ _ c.open-plan.ensures.opened c.new.ensures (c.point_count.ensures ∙ ap points_of read) in
    (omega arith, (search rules, ((c.args.points, first), (c.requires.numbered, c.requires.room))))

pub returns : goal.returns
returns c =
    let read : to_z w64 (of_z w64 c.args.points) ≡ c.args.points = search (rules, to_z-of_z) in
    let first : state_of c.open-plan.result ≡ new_plan c.args.points =
    opened_empty _ _ _ _ c.open-plan.ensures.opened c.new.ensures (c.point_count.ensures ∙ ap points_of read) in
    begun ticks_kind in_ticks ticks_follow (state_of c.open-plan.result) c.args.points first (Ticks c.args.points) (λ a t h. h) c.args.script.now
    c.args.place c.args.output.now c.planned.new.output c.planned.result c.planned.ensures
