-- A script has one listing. Assumes nothing.
use Rattle.std.proofs.Common.{◌≡◌, ℕ, ◌+◌, true, ◌⊎◌, List, [], ◌∷◌, ◌++◌, ℤ, Ok, Err, Result, sym, refl, ap, ◌∙◌, subst, inl, inr}
use Rattle.delays.specs.Kind.{Kind, Lawful}
use Rattle.delays.specs.TicksLaws.{ticks_lawful}
use Rattle.delays.specs.RankedLaws.{ranked_lawful}
use Rattle.bounds.specs.Making.{row_of}
use Rattle.plans.specs.declared.fault.PlanFault.{PlanFault}
use Rattle.plans.specs.declared.fault.PlanFault.TheVariants.{Conflict}
use Rattle.plans.specs.Answers as plans
use Rattle.plans.specs.States.{State}
use Rattle.plans.specs.Steps.{Step}
use Rattle.plans.proofs.Agreeing.{steps_agree}
use Rattle.scripts.specs.declared.command.Command.{Command}
use Rattle.scripts.specs.declared.command.Command.TheVariants.{Ticks, Ranked, Post, Try, Read}
use Rattle.scripts.specs.declared.fault.ScriptFault.{ScriptFault}
use Rattle.scripts.specs.declared.answer.Answer.{Answer}
use Rattle.scripts.specs.declared.answer.Answer.TheVariants.{Refused}
use Rattle.scripts.specs.Faults.{fault_of}
use Rattle.scripts.specs.Lines.{script_lines}
use Rattle.scripts.specs.Listings.{OneListing}
use Rattle.scripts.specs.Sessions.{Session, unopened, in_ticks, in_ranked, of_fault, Told, list_length, new_plan, Obeys, Opens}
use Rattle.scripts.specs.Sessions.{CommandAnswered, LineAnswered, Listing}
use Rattle.scripts.specs.Texts.{line_text}
use Rattle.scripts.proofs.Readings.{command_once}
use Rattle.scripts.proofs.Trying.{tried_leaves, tried_posts}

-- a conflict is told without its length
of_fault_aside : (e : PlanFault) → of_fault e ≡ of_fault (plans.fault_aside e)
of_fault_aside (Conflict length) = refl
of_fault_aside fault = refl

module _ {k : Kind} (p : ℕ) where
  -- so the plan's answer is told, chains aside
  answers_aside : (x : plans.Answer k) (a : Answer) → Told k p x a → Told k p (plans.aside x) a
  answers_aside (plans.settled count) a h = h
  answers_aside plans.covered a h = h
  answers_aside (plans.moved count) a h = h
  answers_aside (plans.time x) a h = h
  answers_aside (plans.slip number depth) a h = h
  answers_aside plans.done a h = h
  answers_aside (plans.refused e) a h = h ∙ of_fault_aside e

  -- and in one way
  told_once : (x : plans.Answer k) (a b : Answer) → Told k p x a → Told k p x b → a ≡ b
  told_once (plans.settled count) a b h g = h ∙ sym g
  told_once plans.covered a b h g = h ∙ sym g
  told_once (plans.moved count) a b h g = h ∙ sym g
  told_once (plans.time x) a b h g = h ∙ sym g
  told_once (plans.slip number depth) a b h g = absurd h
  told_once plans.done a b h g = absurd h
  told_once (plans.refused e) a b h g = h ∙ sym g

  -- plans' answers that are the same, chains aside, are told alike
  answers_once : (x y : plans.Answer k) (a b : Answer) → plans.aside x ≡ plans.aside y → Told k p x a → Told k p y b → a ≡ b
  answers_once x y a b e h g = told_once (plans.aside y) a b (subst (λ z. Told k p z a) e (answers_aside x a h)) (answers_aside y b g)

module _ {k : Kind} (laws : Lawful k) where
  -- a call on a plan is answered in one way
  call_once : (s : State) (c : plans.Call) (p : ℕ) (x y : plans.Answer k) (a b : Answer) (t u : State) → Step k s c x t → Step k s c y u
      → Told k p x a → Told k p y b → (a ≡ b) × (t ≡ u)
  call_once s c p x y a b t u m n h g =
      let both = steps_agree laws s c x y t u m n in
      (answers_once p x y a b both.0 h g, both.1)

  obeys_once : (s : State) (c : Command) (a b : Answer) (t u : State) → Obeys k s c a t → Obeys k s c b u → (a ≡ b) × (t ≡ u)
  obeys_once s (Ticks n) a b t u h g = (h.0 ∙ sym g.0, h.1 ∙ sym g.1)
  obeys_once s (Ranked n) a b t u h g = (h.0 ∙ sym g.0, h.1 ∙ sym g.1)
  obeys_once s (Post r) a b t u h g = call_once s (plans.post list_length (row_of r)) 0 h.0 g.0 a b t u h.1 g.1 h.2 g.2
  obeys_once s (Read p) a b t u h g = call_once s (plans.read p) p h.0 g.0 a b t u h.1 g.1 h.2 g.2
  obeys_once s (Try r) a b t u h g =
      let one = tried_posts s (row_of r) h.0 t h.1 in
      let other = tried_posts s (row_of r) g.0 u g.1 in (
        (call_once s (plans.post list_length (row_of r)) 0 h.0 g.0 a b one.0 other.0 one.1 other.1 h.2 g.2).0,
        tried_leaves s (row_of r) h.0 t h.1 ∙ sym (tried_leaves s (row_of r) g.0 u g.1),
      )

  opens_once : (session : State → Session) (n : ℤ) (a b : Answer) (after then : Session) → Opens k session n a after → Opens k session n b then
      → (a ≡ b) × (after ≡ then)
  opens_once session n a b after then h g =
      let both = call_once (new_plan n) (plans.settle list_length) 0 h.0 g.0 a b h.1 g.1 h.2 g.2 h.3 g.3 in
      (both.0, go h.1 g.1 both.1 h.4 g.4)
    where
      go : (t u : State) → t ≡ u → (((t.settled ≡ true) × (after ≡ session t)) ⊎ ((t.settled ≡ true → ⊥) × (after ≡ unopened)))
          → (((u.settled ≡ true) × (then ≡ session u)) ⊎ ((u.settled ≡ true → ⊥) × (then ≡ unopened))) → after ≡ then
      go t u e (inl x) (inl y) = x.1 ∙ ap session e ∙ sym y.1
      go t u e (inl x) (inr y) = absurd (y.0 (sym (ap (λ (s : State). s.settled) e) ∙ x.0))
      go t u e (inr x) (inl y) = absurd (x.0 (ap (λ (s : State). s.settled) e ∙ y.0))
      go t u e (inr x) (inr y) = x.1 ∙ sym y.1

-- a command is answered in one way
command_answered_once : (s : Session) (c : Command) (a b : Answer) (t u : Session) → CommandAnswered s c a t → CommandAnswered s c b u → (a ≡ b) × (t ≡ u)
command_answered_once unopened (Ticks n) a b t u h g = opens_once ticks_lawful in_ticks n a b t u h g
command_answered_once unopened (Ranked n) a b t u h g = opens_once ranked_lawful in_ranked n a b t u h g
command_answered_once unopened (Post r) a b t u h g = (h.0 ∙ sym g.0, h.1 ∙ sym g.1)
command_answered_once unopened (Try r) a b t u h g = (h.0 ∙ sym g.0, h.1 ∙ sym g.1)
command_answered_once unopened (Read p) a b t u h g = (h.0 ∙ sym g.0, h.1 ∙ sym g.1)
command_answered_once (in_ticks s) c a b t u h g =
    let both = obeys_once ticks_lawful s c a b h.0 g.0 h.1 g.1 in (both.0, h.2 ∙ ap in_ticks both.1 ∙ sym g.2)
command_answered_once (in_ranked s) c a b t u h g =
    let both = obeys_once ranked_lawful s c a b h.0 g.0 h.1 g.1 in (both.0, h.2 ∙ ap in_ranked both.1 ∙ sym g.2)

-- and so is a line
line_answered_once : (s : Session) (line : List ℕ) (a b : Answer) (t u : Session) → LineAnswered s line a t → LineAnswered s line b u → (a ≡ b) × (t ≡ u)
line_answered_once s line a b t u (inl h) (inl g) =
    let both : ◌≡◌ {A = Result Command ScriptFault} (Ok h.0) (Ok g.0) = command_once line (Ok h.0) (Ok g.0) h.1 g.1 in
    let same : h.0 ≡ g.0 = cc in
    command_answered_once s g.0 a b t u (subst (λ c. CommandAnswered s c a t) same h.2) g.2
line_answered_once s line a b t u (inl h) (inr g) =
    let both : ◌≡◌ {A = Result Command ScriptFault} (Ok h.0) (Err g.0) = command_once line (Ok h.0) (Err g.0) h.1 g.1 in absurd (cc)
line_answered_once s line a b t u (inr h) (inl g) =
    let both : ◌≡◌ {A = Result Command ScriptFault} (Err h.0) (Ok g.0) = command_once line (Err h.0) (Ok g.0) h.1 g.1 in absurd (cc)
line_answered_once s line a b t u (inr h) (inr g) =
    let both : ◌≡◌ {A = Result Command ScriptFault} (Err h.0) (Err g.0) = command_once line (Err h.0) (Err g.0) h.1 g.1 in
    let same : h.0 ≡ g.0 = cc in
    (h.2 ∙ ap (λ e. Refused (fault_of e)) same ∙ sym g.2, h.3 ∙ sym g.3)

listing_once : (s : Session) (number : ℕ) (lines : List (List ℕ)) (x y : List ℕ) → Listing s number lines x → Listing s number lines y → x ≡ y
listing_once s number [] x y h g = h ∙ sym g
listing_once s number (line ∷ lines) x y h g =
    let both = line_answered_once s line h.0 g.0 h.1 g.1 h.3 g.3 in
    let rest = listing_once g.1 (number + 1) lines h.2 g.2 (subst (λ (t : Session). Listing t (number + 1) lines h.2) both.1 h.4) g.4 in
    h.5 ∙ ap (λ a. line_text number a ++ h.2) both.0 ∙ ap (λ xs. line_text number g.0 ++ xs) rest ∙ sym g.5

-- a script has one listing
pub one_listing : (script : List ℕ) → OneListing script
one_listing script = listing_once unopened 1 (script_lines script)
