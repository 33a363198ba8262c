use Rattle.std.proofs.Common.{◌≡◌, w64, to_z, of_z, to_z-of_z, ap, ◌∙◌, sym, subst, rules}
use Rattle.scripts.specs.declared.command.Command.{Command}
use Rattle.scripts.specs.declared.command.Command.TheVariants.{Ticks, Ranked}
use Rattle.scripts.specs.Planned.{Begun}
use Rattle.scripts.proofs.listing.begin.Goals as goal

pub returns-in-Ticks : goal.returns-in-Ticks
returns-in-Ticks c =
    let read : to_z w64 (of_z w64 c.in-Ticks.points) ≡ c.in-Ticks.points = search (rules, to_z-of_z) in
    subst (λ (x : Command). Begun x c.args.script.now c.args.place c.args.output.now c.in_ticks.new.output c.in_ticks.result)
    (ap Ticks read ∙ sym c.in-Ticks.is) c.in_ticks.ensures

pub returns-in-Ranked : goal.returns-in-Ranked
returns-in-Ranked c =
    let read : to_z w64 (of_z w64 c.in-Ranked.points) ≡ c.in-Ranked.points = search (rules, to_z-of_z) in
    subst (λ (x : Command). Begun x c.args.script.now c.args.place c.args.output.now c.in_ranked.new.output c.in_ranked.result)
    (ap Ranked read ∙ sym c.in-Ranked.is) c.in_ranked.ensures
