use Rattle.std.proofs.Common.{◌++◌, string_bytes, refl, ap, ◌∙◌}
use Rattle.std.proofs.lemmas.Slice.{pushed}
use Rattle.listings.proofs.Pieces.{ends}
use Rattle.listings.proofs.tool.Tool.finish.Goals as goal

pub returns : goal.returns
returns c =
    let last = string_bytes c.in_ok-text.text in
    let printed = pushed c.as_str.result.now refl c.in_ok-push_str.was c.push_str.ensures.bytes
    ∙ ap (λ x. last ++ x) (c.as_str.ensures.value ∙ c.in_ok-summary.ensures) in
    ends c.args.self c.last_line.new.self last _ c.last_line.ensures.task c.in_ok-text.ensures.empty c.in_ok-text.ensures.tells printed
