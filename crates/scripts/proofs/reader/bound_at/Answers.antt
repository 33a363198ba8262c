use Rattle.std.proofs.Common.{rules, ◌≡◌, Err, ap, inl}
use Rattle.std.specs.Result.{result_map_both}
use Rattle.scripts.specs.declared.fault.ScriptFault.TheVariants.{Bound}
use Rattle.scripts.proofs.Numbers.{four_make, four_refuse}
use Rattle.scripts.proofs.reader.bound_at.Goals as goal

pub returns-in_err-new-clause-says : goal.returns-in_err-new-clause-says
returns-in_err-new-clause-says c make =
    let is : c.from_residual-in_err-new.result ≡ Err (Bound c.in_err-new.field-0.0) = search rules in
    inl (
      c.in_ok-left.field-0-0,
      c.in_ok-left.ensures.0,
      four_refuse make c.in_ok-left.field-0-0 c.in_err-new.field-0.0 _ (search rules) (ap (result_map_both (λ p. make p.0) (λ e. e)) is)
          (search (rules, c.in_err-new.ensures)),
    )

pub returns-clause-says : goal.returns-clause-says
returns-clause-says c make =
    inl (
      c.in_ok-left.field-0-0,
      c.in_ok-left.ensures.0,
      four_make make c.in_ok-left.field-0-0 c.in_ok-new.field-0 (search rules) (search (rules, c.in_ok-new.ensures)),
    )
