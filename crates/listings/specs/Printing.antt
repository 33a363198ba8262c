-- The bytes that the tool prints. Assumes nothing.
use Rattle.std.specs.Prelude.{ℕ, cond, List, [], ◌∷◌, ◌++◌, codes, decimal, ◌==◌}
use Rattle.faults.specs.Faults.{fault_text}
use Rattle.bounds.specs.declared.row.Row.{Row}
use Rattle.bounds.specs.Making.{row_of}
use Rattle.bounds.specs.Text.{row_text}
use Rattle.words.specs.Text.{words_text}
use Rattle.words.specs.Words.{row_words}
use Rattle.listings.specs.declared.entry.Entry.{Entry}
use Rattle.listings.specs.declared.entry.Entry.TheVariants.{Note, Bound, Refused}
use Rattle.listings.specs.declared.fault.ListingFault.{ListingFault}
use Rattle.listings.specs.declared.task.Tally.{Tally}
use Rattle.listings.specs.declared.task.Task.{Task}
use Rattle.listings.specs.declared.task.Task.TheVariants.{Write, Read, RoundTrip}
use Rattle.listings.specs.Faults.{fault_of, reason_of}

-- the end of a line
abbrev pub line_feed : List ℕ
line_feed = 10 ∷ []

-- the line for a bound: its words, its numbers, or its words and the numbers that they were read back as
abbrev pub text_of_bound : Task → Row → List ℕ
text_of_bound Write r = words_text (row_words r) ++ line_feed
text_of_bound Read r = row_text r ++ line_feed
text_of_bound RoundTrip r = words_text (row_words r) ++ (codes " -> " ++ (row_text r ++ line_feed))

-- the line for a refusal: the refused line's number, what is wrong, and the fault
abbrev pub text_of_refusal : ℕ → ListingFault → List ℕ
text_of_refusal n e =
    codes "line " ++ (decimal n ++ (codes " refused: " ++ (reason_of e ++ (codes " (" ++ (fault_text (fault_of e) ++ (codes ")" ++ line_feed))))))

-- what is printed for the line with the number n: nothing for a note
abbrev pub text_of_entry : Task → ℕ → Entry → List ℕ
text_of_entry task n Note = []
text_of_entry task n (Bound b) = text_of_bound task (row_of b)
text_of_entry task n (Refused e) = text_of_refusal n e

-- what the task did with the bounds
abbrev pub done_of : Task → List ℕ
done_of Write = codes "written"
done_of Read = codes "read"
done_of RoundTrip = codes "written and read back"

-- the end of a round trip's last line: the listing came back whole where nothing was refused
abbrev pub verdict_of : Task → ℕ → List ℕ
verdict_of Write n = []
verdict_of Read n = []
verdict_of RoundTrip n = cond (n == 0) (codes ". The listing came back whole.") (codes ". The listing did not come back whole.")

-- the last line: a note that says how many lines were read, and how many were refused
abbrev pub text_of_summary : Task → Tally → List ℕ
text_of_summary task c =
    codes "# lines read: " ++ (decimal c.lines ++ (codes ", bounds " ++ (done_of task ++ (codes ": " ++ (decimal c.bounds ++ (codes ", notes: "
    ++ (decimal c.notes ++ (codes ", refused: " ++ (decimal c.refused ++ (verdict_of task c.refused ++ line_feed))))))))))
