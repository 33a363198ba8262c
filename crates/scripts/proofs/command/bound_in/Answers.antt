use Rattle.std.proofs.Common.{rules, ◌≡◌, Err, ap, inl}
use Rattle.std.specs.Result.{result_map_both}
use Rattle.lines.specs.Fields.{left_of}
use Rattle.scripts.specs.declared.fault.ScriptFault.TheVariants.{Line, Bound}
use Rattle.scripts.specs.Commands.{BoundCommand}
use Rattle.scripts.proofs.Numbers.{unreadable, four_make, four_refuse}
use Rattle.scripts.proofs.command.bound_in.Goals as goal

pub returns-in_err-left : goal.returns-in_err-left
returns-in_err-left c make =
    let is : c.from_residual.result ≡ Err (Line c.in_err-left.field-0.0) = search rules in
    unreadable 4 (BoundCommand make) (left_of c.args.fields.now) c.in_err-left.field-0.0 _ c.in_err-left.ensures.reads (ap (result_map_both make (λ e. e)) is)

pub returns-in_err-new : goal.returns-in_err-new
returns-in_err-new c make =
    let is : c.from_residual-in_err-new.result ≡ Err (Bound c.in_err-new.field-0.0) = search rules in
    inl (
      c.in_ok-left.field-0,
      c.in_ok-left.ensures.reads,
      four_refuse make c.in_ok-left.field-0 c.in_err-new.field-0.0 _ (search rules) (ap (result_map_both make (λ e. e)) is)
          (search (rules, c.in_err-new.ensures)),
    )

pub returns : goal.returns
returns c make =
    inl (
      c.in_ok-left.field-0,
      c.in_ok-left.ensures.reads,
      four_make make c.in_ok-left.field-0 c.in_ok-new.field-0 (search rules) (search (rules, c.in_ok-new.ensures)),
    )
