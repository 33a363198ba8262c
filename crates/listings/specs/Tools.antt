-- How a tool stands between two pieces of its input, and the law of its printing. Assumes nothing.
use Rattle.std.specs.Prelude.{◌≡◌, ℕ, List, [], ◌++◌, take}
use Rattle.lines.specs.Kept.{kept}
use Rattle.listings.specs.declared.task.Tally.{Tally}
use Rattle.listings.specs.declared.task.Task.{Task}
use Rattle.listings.specs.declared.tool.Tool.{Tool}
use Rattle.listings.specs.Counts.{none_yet}
use Rattle.listings.specs.Sessions.{OneLine, Session, Closes, Prints, OnePrinting}

-- the tool has read this part of a line, of which it keeps the first 48 bytes
abbrev pub HasRead : Tool → List ℕ → Type 0
HasRead tool part = OneLine part × (kept tool.line ≡ take 48 part)

-- after whatever part of a line, the input is answered by the text, and the tool stands at the part that is left
pub record Follows (before : Tool) (input text : List ℕ) (after : Tool) : Type 0 where
  pub task : after.task ≡ before.task
  pub goes : (part : List ℕ) → HasRead before part
      → (left : List ℕ) × HasRead after left × Session before.task before.tally part input text after.tally left

-- after whatever part of a line, the input ends, and the text is printed
abbrev pub EndsWith : Tool → List ℕ → Tally → Type 0
EndsWith tool text d = (part : List ℕ) → HasRead tool part → Closes tool.task tool.tally part text d

-- a tool that has read nothing
pub record Fresh (task : Task) (tool : Tool) : Type 0 where
  pub task_is : tool.task ≡ task
  pub tally_is : tool.tally ≡ none_yet
  pub line_is : kept tool.line ≡ []

-- two pieces of input are answered as one
abbrev pub PiecesJoin : Type 0
PiecesJoin = (a b z : Tool) (x y o p : List ℕ) → Follows a x o b → Follows b y p z → Follows a (x ++ y) (o ++ p) z

-- what a fresh tool answers to an input, and then prints at its end, is what the tool prints for that input
abbrev pub WholePrints : Type 0
WholePrints = (task : Task) (tool after : Tool) (input o p : List ℕ) (d : Tally)
    → Fresh task tool → Follows tool input o after → EndsWith after p d → Prints task input (o ++ p) d

-- the law of the tool: what is printed for an input does not depend on its pieces, and an input has one printing
pub record Law : Type 0 where
  pub pieces_join : PiecesJoin
  pub whole_prints : WholePrints
  pub one_printing : OnePrinting
