-- What is wrong, in words. Assumes nothing.
use Rattle.std.specs.Prelude.{ℕ, List, ◌++◌, codes, decimal}
use Rattle.network.specs.declared.times.Mismatch.{Mismatch}
use Rattle.network.specs.declared.times.Mismatch.TheVariants.{Start, Reach, Unmet}

-- why times are no assignment that meets the edges
abbrev pub mismatch_reason : Mismatch → List ℕ
mismatch_reason Start = codes "the time of point 0 is not zero"
mismatch_reason (Reach i) = codes "the limit of edge " ++ (decimal i ++ codes " is past the reach")
mismatch_reason (Unmet i) = codes "edge " ++ (decimal i ++ codes " is not met")

-- why a link has no word, and a word no link
abbrev pub no_word_reason : List ℕ
no_word_reason = codes "the number of the link is 2^30 or more"

abbrev pub no_link_reason : List ℕ
no_link_reason = codes "no link has this word"
