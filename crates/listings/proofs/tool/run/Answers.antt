use Rattle.std.proofs.Common.{◌++◌, string_bytes, sym, refl, ap, ◌∙◌, subst}
use Rattle.std.proofs.lemmas.Slice.{pushed}
use Rattle.listings.specs.Sessions.{Prints}
use Rattle.listings.proofs.tool.run.Goals as goal

pub returns : goal.returns
returns c =
    let answers = string_bytes c.in_ok-tool.text in
    let text = pushed c.as_str.result.now refl c.in_ok-push_str.was c.push_str.ensures.bytes
    ∙ ap (λ x. answers ++ x) c.as_str.ensures.value in
    subst (λ x. Prints c.args.task c.args.input.now x c.in_ok-ending.ending.tally) (sym text)
    (c.new.ensures.law.whole_prints c.args.task c.new.result c.in_ok-tool.tool c.args.input.now answers _ _
    c.new.ensures.fresh c.in_ok-tool.ensures c.in_ok-ending.ensures)
