use Rattle.std.proofs.Common.{rules, ◌≡◌, ◌+◌, ℤ, w64, to_z, of_z, to_z-of_z, get_or, Ok, Err, refl, sym, ap, ◌∙◌, subst, inl, inr, arith}
use Rattle.std.specs.Result.{result_map_both}
use Rattle.std.proofs.lemmas.List.{get_or_default}
use Rattle.scripts.specs.declared.command.Command.TheVariants.{Ticks, Ranked, Post, Try}
use Rattle.scripts.specs.Commands.{OpenCommand, BoundCommand}
use Rattle.scripts.specs.Cursor.{line_from, NumbersAfter}
use Rattle.scripts.proofs.Saying.{says, after_refused, after_one}
use Rattle.scripts.proofs.reader.said_at.Goals as goal

pub returns-in_err-points-in-84-clause-says : goal.returns-in_err-points-in-84-clause-says
returns-in_err-points-in-84-clause-says c =
    let s = c.args.script.now in
    let first = c.args.first in
    let letter : get_or s first 10 ≡ 84 = get_or_default s first 10 0 c.requires ∙ c.in-84.is in
    let is : c.from_residual.result ≡ Err c.in_err-points-in-84.field-0.0 = search rules in
    let told = ap (result_map_both (λ p. p.0) (λ e. e)) is in
    says s first 84 1 (OpenCommand Ticks) _ (λ rest n. inl (refl, n)) letter (omega arith)
    (after_refused 1 (OpenCommand Ticks) s (first + 1) c.in_err-points-in-84.field-0.0 _ c.in_err-points-in-84.ensures told)

pub returns-in_ok-points-in-84-clause-says : goal.returns-in_ok-points-in-84-clause-says
returns-in_ok-points-in-84-clause-says c =
    let s = c.args.script.now in
    let first = c.args.first in
    let letter : get_or s first 10 ≡ 84 = get_or_default s first 10 0 c.requires ∙ c.in-84.is in
    let read : to_z w64 (of_z w64 c.in_ok-points-in-84.points) ≡ c.in_ok-points-in-84.points = search (rules, to_z-of_z) in
    says s first 84 1 (OpenCommand Ticks) _ (λ rest n. inl (refl, n)) letter (omega arith)
    (after_one Ticks s (first + 1) c.in_ok-points-in-84.points c.in_ok-points-in-84.end _ c.in_ok-points-in-84.ensures (ap (λ (z : ℤ). Ok (Ticks z)) read))

pub returns-in_err-points-in-82-clause-says : goal.returns-in_err-points-in-82-clause-says
returns-in_err-points-in-82-clause-says c =
    let s = c.args.script.now in
    let first = c.args.first in
    let letter : get_or s first 10 ≡ 82 = get_or_default s first 10 0 c.requires ∙ c.in-82.is in
    let is : c.from_residual-in_err-points-in-82.result ≡ Err c.in_err-points-in-82.field-0.0 = search rules in
    let told = ap (result_map_both (λ p. p.0) (λ e. e)) is in
    says s first 82 1 (OpenCommand Ranked) _ (λ rest n. inr (inl (refl, n))) letter (omega arith)
    (after_refused 1 (OpenCommand Ranked) s (first + 1) c.in_err-points-in-82.field-0.0 _ c.in_err-points-in-82.ensures told)

pub returns-in_ok-points-in-82-clause-says : goal.returns-in_ok-points-in-82-clause-says
returns-in_ok-points-in-82-clause-says c =
    let s = c.args.script.now in
    let first = c.args.first in
    let letter : get_or s first 10 ≡ 82 = get_or_default s first 10 0 c.requires ∙ c.in-82.is in
    let read : to_z w64 (of_z w64 c.in_ok-points-in-82.points) ≡ c.in_ok-points-in-82.points = search (rules, to_z-of_z) in
    says s first 82 1 (OpenCommand Ranked) _ (λ rest n. inr (inl (refl, n))) letter (omega arith)
    (after_one Ranked s (first + 1) c.in_ok-points-in-82.points c.in_ok-points-in-82.end _ c.in_ok-points-in-82.ensures (ap (λ (z : ℤ). Ok (Ranked z)) read))

pub returns-in_err-bound-in-80-clause-says : goal.returns-in_err-bound-in-80-clause-says
returns-in_err-bound-in-80-clause-says c =
    let s = c.args.script.now in
    let first = c.args.first in
    let letter : get_or s first 10 ≡ 80 = get_or_default s first 10 0 c.requires ∙ c.in-80.is in
    let is : c.from_residual-in_err-bound-in-80.result ≡ Err c.in_err-bound-in-80.field-0.0 = search rules in
    let told = ap (result_map_both (λ p. p.0) (λ e. e)) is in
    says s first 80 4 (BoundCommand Post) _ (λ rest n. inr (inr (inl (refl, n)))) letter (omega arith)
    (subst (NumbersAfter 4 (BoundCommand Post) (line_from s (first + 1))) (sym told) (c.in_err-bound-in-80.ensures.says Post))

pub returns-in_ok-bound-in-80-clause-says : goal.returns-in_ok-bound-in-80-clause-says
returns-in_ok-bound-in-80-clause-says c =
    let s = c.args.script.now in
    let first = c.args.first in
    let letter : get_or s first 10 ≡ 80 = get_or_default s first 10 0 c.requires ∙ c.in-80.is in
    says s first 80 4 (BoundCommand Post) _ (λ rest n. inr (inr (inl (refl, n)))) letter (omega arith) (c.in_ok-bound-in-80.ensures.says Post)

pub returns-in_err-bound-in-81-clause-says : goal.returns-in_err-bound-in-81-clause-says
returns-in_err-bound-in-81-clause-says c =
    let s = c.args.script.now in
    let first = c.args.first in
    let letter : get_or s first 10 ≡ 81 = get_or_default s first 10 0 c.requires ∙ c.in-81.is in
    let is : c.from_residual-in_err-bound-in-81.result ≡ Err c.in_err-bound-in-81.field-0.0 = search rules in
    let told = ap (result_map_both (λ p. p.0) (λ e. e)) is in
    says s first 81 4 (BoundCommand Try) _ (λ rest n. inr (inr (inr (inl (refl, n))))) letter (omega arith)
    (subst (NumbersAfter 4 (BoundCommand Try) (line_from s (first + 1))) (sym told) (c.in_err-bound-in-81.ensures.says Try))

pub returns-in_ok-bound-in-81-clause-says : goal.returns-in_ok-bound-in-81-clause-says
returns-in_ok-bound-in-81-clause-says c =
    let s = c.args.script.now in
    let first = c.args.first in
    let letter : get_or s first 10 ≡ 81 = get_or_default s first 10 0 c.requires ∙ c.in-81.is in
    says s first 81 4 (BoundCommand Try) _ (λ rest n. inr (inr (inr (inl (refl, n))))) letter (omega arith) (c.in_ok-bound-in-81.ensures.says Try)
