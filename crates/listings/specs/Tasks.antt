-- Which words name a task. Assumes nothing.
use Rattle.std.specs.Prelude.{◌≡◌, ◌≢◌, ℕ, List, codes, Ok, Err, Result}
use Rattle.listings.specs.declared.task.Task.{Task}
use Rattle.listings.specs.declared.task.Task.TheVariants.{Write, Read, RoundTrip}
use Rattle.listings.specs.declared.task.UnknownTask.{UnknownTask}

-- "write" and "read" name the tasks of one direction, and no other word names a task
abbrev pub Names : List ℕ → Result Task UnknownTask → Type 0
Names word (Ok Write) = word ≡ codes "write"
Names word (Ok Read) = word ≡ codes "read"
Names word (Ok RoundTrip) = ⊥
Names word (Err e) = (word ≢ codes "write") × (word ≢ codes "read")

-- what is said of a word that names none
abbrev pub unknown_text : List ℕ
unknown_text = codes "unknown argument: write, read, or none for both"
