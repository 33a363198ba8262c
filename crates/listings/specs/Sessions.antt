-- What the tool prints for an input, whatever the pieces in which the input comes. Assumes nothing.
use Rattle.std.specs.Prelude.{◌≡◌, ℕ, List, [], ◌∷◌, ◌++◌, ◌≢◌}
use Rattle.std.specs.List.{flat_map, All}
use Rattle.listings.specs.declared.entry.Entry.{Entry}
use Rattle.listings.specs.declared.task.Tally.{Tally}
use Rattle.listings.specs.declared.task.Task.{Task}
use Rattle.listings.specs.Counts.{counted, none_yet}
use Rattle.listings.specs.Lines.{EntryOf}
use Rattle.listings.specs.Printing.{text_of_entry, text_of_summary}

-- a byte that is no line feed, which is byte 10
abbrev pub Plain : ℕ → Type 0
Plain b = b ≢ 10

-- the bytes of a line have no line feed among them
abbrev pub OneLine : List ℕ → Type 0
OneLine line = All Plain line

-- lines, each with the line feed that ends it
abbrev pub ended : List (List ℕ) → List ℕ
ended lines = flat_map (λ line. line ++ (10 ∷ [])) lines

-- where the counts stand at c, the line is answered by the text, and they stand at d: the line's number is the new count of lines
pub record Tells (task : Task) (c : Tally) (line text : List ℕ) (d : Tally) : Type 0 where
  pub entry : Entry
  pub holds : EntryOf task line entry
  pub counts : d ≡ counted entry c
  pub prints : text ≡ text_of_entry task d.lines entry

-- the lines are answered one after another, and the text is what is printed for them
abbrev pub Answered : Task → Tally → List (List ℕ) → List ℕ → Tally → Type 0
Answered task c [] text d = (text ≡ []) × (d ≡ c)
Answered task c (line ∷ lines) text d =
    (first : List ℕ) × (more : List ℕ) × (between : Tally) × (text ≡ first ++ more) × Tells task c line first between × Answered task between lines more d

-- after a part of a line comes more input: the lines that it ends are answered, and a part of the next is left
pub record Session (task : Task) (c : Tally) (part input text : List ℕ) (d : Tally) (left : List ℕ) : Type 0 where
  pub lines : List (List ℕ)
  pub cut : part ++ input ≡ ended lines ++ left
  pub whole : All OneLine lines
  pub answers : Answered task c lines text d

-- at the end of the input a part that is left is a line too, and the last line printed says how many were read and refused
abbrev pub Closes : Task → Tally → List ℕ → List ℕ → Tally → Type 0
Closes task c [] text d = (d ≡ c) × (text ≡ text_of_summary task c)
Closes task c (b ∷ bs) text d = (last : List ℕ) × Tells task c (b ∷ bs) last d × (text ≡ last ++ text_of_summary task d)

-- what the tool prints for a whole input
pub record Prints (task : Task) (input text : List ℕ) (d : Tally) : Type 0 where
  pub answers : List ℕ
  pub counts : Tally
  pub left : List ℕ
  pub part : OneLine left
  pub session : Session task none_yet [] input answers counts left
  pub ending : List ℕ
  pub closes : Closes task counts left ending d
  pub text_is : text ≡ answers ++ ending

-- an input has one printing, and one tally
abbrev pub OnePrinting : Type 0
OnePrinting = (task : Task) (input a b : List ℕ) (c d : Tally) → Prints task input a c → Prints task input b d → (a ≡ b) × (c ≡ d)
