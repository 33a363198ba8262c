-- Listings of lines that are about a plan, and of those that open one. Assumes nothing.
use Rattle.std.proofs.Common.{◌≡◌, ℕ, ◌+◌, ℤ, List, [], ◌∷◌, ◌++◌, Ok, Err, Result, sym, refl, subst, inl}
use Rattle.delays.specs.Kind.{Kind}
use Rattle.delays.specs.Ticks.{ticks_kind}
use Rattle.delays.specs.Ranked.{ranked_kind}
use Rattle.plans.specs.States.{State}
use Rattle.scripts.specs.declared.answer.Answer.{Answer}
use Rattle.scripts.specs.declared.command.Command.{Command}
use Rattle.scripts.specs.declared.listing.Place.{Place}
use Rattle.scripts.specs.Commands.{CommandOf}
use Rattle.scripts.specs.Lines.{script_lines}
use Rattle.scripts.specs.Planned.{Follows, PlanAnswered, PlanListing, Planned, Begun, LineBegun}
use Rattle.scripts.specs.Sessions.{Session, unopened, in_ticks, in_ranked, new_plan, Opens, CommandAnswered, LineAnswered, Listing}
use Rattle.scripts.specs.Texts.{line_text}

pub ticks_follow : Follows ticks_kind in_ticks
ticks_follow s t c a h = (t, h, refl)

pub ranked_follow : Follows ranked_kind in_ranked
ranked_follow s t c a h = (t, h, refl)

-- a line before others
pub listing_more : (s t : Session) (number : ℕ) (left rest line text : List ℕ) (a : Answer) → script_lines left ≡ line ∷ script_lines rest
    → LineAnswered s line a t → Listing t (number + 1) (script_lines rest) text → Listing s number (script_lines left) (line_text number a ++ text)
listing_more s t number left rest line text a is answered h =
    subst (λ lines. Listing s number lines (line_text number a ++ text)) (sym is) (a, t, text, answered, h, refl)

-- no line
pub listing_none : (s : Session) (number : ℕ) (lines : List (List ℕ)) → lines ≡ [] → Listing s number lines []
listing_none s number lines none = subst (λ lines. Listing s number lines []) (sym none) refl

pub plan_listing_more : (k : Kind) (s t : State) (number : ℕ) (left rest line text : List ℕ) (a : Answer) → script_lines left ≡ line ∷ script_lines rest
    → PlanAnswered k s line a t → PlanListing k t (number + 1) (script_lines rest) text
    → PlanListing k s number (script_lines left) (line_text number a ++ text)
plan_listing_more k s t number left rest line text a is answered h session follows =
    listing_more (session s) (session t) number left rest line text a is (answered session follows) (h session follows)

-- a plan that is opened opens the session that a command opens
pub begun : (k : Kind) (session : State → Session) → Follows k session → (s : State) (points : ℤ) → s ≡ new_plan points → (c : Command)
    → ((a : Answer) (t : Session) → Opens k session points a t → CommandAnswered unopened c a t)
    → (script : List ℕ) (p : Place) (before after : List ℕ) (r : Result ℕ Answer) → Planned k s script p before after r → Begun c script p before after r
begun k session follows s points new c opens script p before after (Ok n) h =
    (h.0, session h.1, h.2, opens h.0 (session h.1) (h.3 points new session), h.4 session follows, h.5)
begun k session follows s points new c opens script p before after (Err a) h = (opens a unopened (h.0 points new session), h.1, h.2)

-- and so does the line that says it
pub line_begun : (line : List ℕ) (c : Command) → CommandOf line (Ok c) → (script : List ℕ) (p : Place) (before after : List ℕ) (r : Result ℕ Answer)
    → Begun c script p before after r → LineBegun line script p before after r
line_begun line c says script p before after (Ok n) h = (h.0, h.1, h.2, inl (c, says, h.3), h.4, h.5)
line_begun line c says script p before after (Err a) h = (inl (c, says, h.0), h.1, h.2)
