use Rattle.std.proofs.Common.{◌≡◌, get_or, rules}
use Rattle.words.specs.Reading.{IsHead, IsPart, BreaksAt}
use Rattle.words.specs.Words.{head_word, part_word}
use Rattle.words.proofs.Readings.{third_breaks, three_words}
use Rattle.words.proofs.bound_words.read_row.Goals as goal

pub returns-in_err-s : goal.returns-in_err-s
returns-in_err-s c =
    let head : IsHead (get_or c.args.words.0 0 0) = search rules in
    let t : IsPart 2 (get_or c.args.words.0 1 0) = search rules in
    let broken : BreaksAt c.args.words.0 2 = third_breaks c.args.words.0 head t (search rules) in
    search rules

pub returns : goal.returns
returns c =
    let head : get_or c.args.words.0 0 0 ≡ head_word c.in_ok-left.left c.in_ok-left.right = search rules in
    let t : get_or c.args.words.0 1 0 ≡ part_word 2 c.in_ok-t.t = search rules in
    let s : get_or c.args.words.0 2 0 ≡ part_word 3 c.in_ok-s.s = search rules in
    search (rules, three_words)
