-- The listing of a script, and where it is written. Assumes nothing.
use Rattle.std.specs.Prelude.{◌≡◌, ℕ, ◌*◌, ◌<◌, ◌≤◌, ◌⊎◌, List, ◌++◌, length, drop, ℤ, pos, negsuc, Ok, Err, Result}
use Rattle.scripts.specs.declared.fault.ScriptFault.{ScriptFault}
use Rattle.scripts.specs.declared.fault.ScriptFault.TheVariants.{Room}
use Rattle.scripts.specs.Lines.{script_lines}
use Rattle.scripts.specs.Sessions.{unopened, Listing}

-- the text is the listing of the script
abbrev pub ListingOf : List ℕ → List ℕ → Type 0
ListingOf script text = Listing unopened 1 (script_lines script) text

-- the most bytes that a script has
abbrev pub script_bytes : ℕ
script_bytes = 32768

-- the bytes that an output has for each line
abbrev pub line_bytes : ℕ
line_bytes = 64

-- the output begins with the listing, of the length that is answered, and is otherwise as it was
abbrev pub Written : List ℕ → List ℕ → List ℕ → ℕ → Type 0
Written script before after n = (text : List ℕ) × ListingOf script text × (n ≡ length text) × (after ≡ text ++ drop n before)

-- the listing is written; or the script is too long, or the output too short for it, and nothing is written
abbrev pub Listed : List ℕ → List ℕ → List ℕ → Result ℕ ScriptFault → Type 0
Listed script before after (Ok n) =
    (length script ≤ script_bytes) × (line_bytes * length (script_lines script) ≤ length before) × Written script before after n
Listed script before after (Err e) =
    (e ≡ Room) × ((script_bytes < length script) ⊎ (length before < line_bytes * length (script_lines script))) × (after ≡ before)

-- the same for a call from C, which answers the length, or -14 for a refusal (`negsuc n` is -1 - n)
abbrev pub ListedInC : List ℕ → List ℕ → List ℕ → ℤ → Type 0
ListedInC script before after (pos n) = Listed script before after (Ok n)
ListedInC script before after (negsuc n) = (n ≡ 13) × Listed script before after (Err Room)

-- a script has one listing
abbrev pub OneListing : List ℕ → Type 0
OneListing script = (x y : List ℕ) → ListingOf script x → ListingOf script y → x ≡ y
