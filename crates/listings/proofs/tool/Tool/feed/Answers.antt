use Rattle.std.proofs.Common.{◌++◌, string_bytes, refl, ap, ◌∙◌, subst}
use Rattle.std.proofs.lemmas.List.{take_all}
use Rattle.std.proofs.lemmas.Slice.{pushed}
use Rattle.listings.specs.Tools.{Follows}
use Rattle.listings.proofs.Pieces.{follows_none, follows_push}
use Rattle.listings.proofs.tool.Tool.feed.Goals as goal

pub loop-b-init : goal.loop-b-init
loop-b-init c = follows_none c.args.self _ c.new-out.ensures.bytes

pub loop-b-preserved : goal.loop-b-preserved
loop-b-preserved c =
    let out = string_bytes c.loop-b.out in
    let more = pushed c.as_str.result.now refl c.in_ok-push_str.was c.push_str.ensures.bytes ∙ ap (λ x. out ++ x) c.as_str.ensures.value in
    follows_push c.args.self c.loop-b.self c.step.new.self c.args.piece.now c.loop-b.b-index out _ _ c.loop-b-test.true
    c.loop-b.invariant c.in_ok-text.ensures more

pub returns : goal.returns
returns c =
    subst (λ x. Follows c.args.self x (string_bytes c.loop-b.out) c.loop-b.self)
    (take_all c.loop-b.b-index c.args.piece.now c.loop-b-test.false) c.loop-b.invariant
