-- A try leaves its plan as it was, and is answered as the post would be in its place. Assumes nothing.
use Rattle.std.proofs.Common.{◌≡◌, ℕ, List, [], ◌∷◌, ◌++◌, ap, refl, ◌∙◌, subst, inl, inr}
use Rattle.std.proofs.lemmas.List.Elements.{All-nil, All-cons}
use Rattle.bounds.specs.declared.bound.Bound.{Bound}
use Rattle.bounds.specs.declared.row.Row.{Row}
use Rattle.bounds.specs.Making.{row_of}
use Rattle.delays.specs.Kind.{Kind, Exact}
use Rattle.plans.specs.Answers.{Answer, post, mark, slip}
use Rattle.plans.specs.States.{State, rows, posting, marking}
use Rattle.plans.specs.Steps.{Ending, Unless, Conflicts, Step}
use Rattle.plans.specs.Runs.{Said, Run, rests, goes, OpensNone}
use Rattle.plans.proofs.Changing.{change, opens}
use Rattle.plans.proofs.TakingBack.{unwind}
use Rattle.scripts.specs.declared.answer.Answer.{Answer as LineAnswer}
use Rattle.scripts.specs.declared.command.Command.TheVariants.{Post, Try}
use Rattle.scripts.specs.Sessions.{unopened, in_ticks, in_ranked, list_length, Tried, Obeys, TriesLeave}

module _ {k : Kind} where
  -- each answer of the first is one of the second too
  abbrev Leads : Ending k → Ending k → Type 0
  Leads P Q = (x : Answer k) (v : State) → P x v → (w : State) × Q x w

  leads_check : {s u : State} {bad : Type 0} {y : Answer k} {P Q : Ending k} → Leads P Q → Leads (Unless s bad y P) (Unless u bad y Q)
  leads_check {u = u} h x v (inl p) = (u, inl (p.0, (p.1.0, refl)))
  leads_check h x v (inr p) = let g = h x v p.1 in (g.0, inr (p.0, g.1))

  leads_judge : (s : State) (bounds : List Row) (next then : (ℕ → Exact k) → Ending k) → ((x : ℕ → Exact k) → Leads (next x) (then x))
      → Leads (Conflicts k (marking s) bounds next) (Conflicts k s bounds then)
  leads_judge s bounds next then h x v (inl p) = (s, inl (p.0, p.1, (p.2.0, refl)))
  leads_judge s bounds next then h x v (inr p) = let g = h p.0 x v p.2 in (g.0, inr (p.0, p.1, g.1))

  -- a post is answered the same with a mark more
  post_leads : (s : State) (l : ℕ) (b : Row) → Leads (Step k (marking s) (post l b)) (Step k s (post l b))
  post_leads s l b =
      leads_check (leads_check (leads_check (leads_check (leads_check (leads_check (leads_judge s (rows s ++ b ∷ []) _ _ (λ y.
      leads_check (λ x v p. (posting b s, (p.0, p.1, (p.2.0, refl)))))))))))

  run_ends : {s t : State} → Run k s [] t → t ≡ s
  run_ends rests = refl

  -- the plan after a try is the one before it
  pub tried_leaves : (s : State) (b : Row) (x : Answer k) (t : State) → Tried k s b x t → t ≡ s
  tried_leaves s b x t h =
      run_ends (unwind h.2 h.3 ((post list_length b, x) ∷ []) [] (goes h.4 (goes h.5 (goes h.6 rests)))
      (All-cons (OpensNone h.3) (post list_length b, x) [] (λ number e. let bad = ap (λ (y : Said k). y.0) e in cc) (All-nil (OpensNone h.3))))

  -- and the post has its answer without the mark too
  pub tried_posts : (s : State) (b : Row) (x : Answer k) (t : State) → Tried k s b x t → (w : State) × Step k s (post list_length b) x w
  tried_posts s b x t h =
      let marked : h.0 ≡ marking s = (opens (change mark (slip h.2 h.3) h.0 h.4)).after in
      post_leads s list_length b x h.1 (subst (λ (w : State). Step k w (post list_length b) x h.1) marked h.5)

  obeys_leaves : (s : State) (b : Bound) (a : LineAnswer) (t : State) → Obeys k s (Try b) a t → (t ≡ s) × ((w : State) × Obeys k s (Post b) a w)
  obeys_leaves s b a t h =
      let w = tried_posts s (row_of b) h.0 t h.1 in
      (tried_leaves s (row_of b) h.0 t h.1, (w.0, (h.0, w.1, h.2)))

pub tries_leave : TriesLeave
tries_leave unopened t b a h = (h.1, (unopened, (h.0, refl)))
tries_leave (in_ticks s) t b a h = let g = obeys_leaves s b a h.0 h.1 in (h.2 ∙ ap in_ticks g.0, (in_ticks g.1.0, (g.1.0, g.1.1, refl)))
tries_leave (in_ranked s) t b a h = let g = obeys_leaves s b a h.0 h.1 in (h.2 ∙ ap in_ranked g.0, (in_ranked g.1.0, (g.1.0, g.1.1, refl)))
