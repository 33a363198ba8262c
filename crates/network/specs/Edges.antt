-- What edges and lists of times mean, and which edge a number or a link stands for. Assumes nothing.
use Rattle.std.specs.Prelude.{ℕ, ◌≤◌, List, [], ◌∷◌, map, length, Some, None, Option, slice_index_or}
use Rattle.delays.specs.Kind.{Kind, Exact}
use Rattle.network.specs.declared.edge.Edge.{Edge}
use Rattle.network.specs.declared.link.Link.{Link}
use Rattle.network.specs.Bounds.{ExactBound, Bounds, Numbered, bounds_in_force}
use Rattle.network.specs.Links.{Names}

module _ {X : Type 0} (k : Kind) (means : X → Exact k) where
  -- the bound that an edge means
  abbrev pub bound_of : Edge X → ExactBound k
  bound_of e = record { left = e.left; right = e.right; delay = means e.delay }

  abbrev pub bounds_of : List (Edge X) → Bounds k
  bounds_of edges = map bound_of edges

  -- the assignment that a list of times means: points past the list are at zero
  abbrev pub time_of_point : List X → ℕ → Exact k
  time_of_point times p = slice_index_or (map means times) p k.zero

  -- the edge in force with the number i over n points, or nothing where none has it
  abbrev pub InForceRead : List (Edge X) → ℕ → ℕ → Option (Edge X) → Type 0
  InForceRead book n i None = length (bounds_in_force k n (bounds_of book)) ≤ i
  InForceRead book n i (Some e) = Numbered (bounds_in_force k n (bounds_of book)) i (bound_of e)

  -- the edge that the link names, or nothing where it names none
  abbrev pub LinkRead : List (Edge X) → Edge X → Link → Option (Edge X) → Type 0
  LinkRead book posted l None = (b : ExactBound k) → Names k (bounds_of book) (bound_of posted ∷ []) l b → ⊥
  LinkRead book posted l (Some e) = Names k (bounds_of book) (bound_of posted ∷ []) l (bound_of e)
