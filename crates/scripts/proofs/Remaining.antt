-- What the calls on a plan leave of it. Assumes nothing.
use Rattle.std.proofs.Common.{◌≡◌, ℕ, ◌+◌, ◌-◌, true, false, ◌⊎◌, List, [], ◌∷◌, ◌++◌, length, take}
use Rattle.std.proofs.Common.{sym, refl, ap, ◌∙◌, subst, inl, inr, arith, ℤ}
use Rattle.bounds.specs.declared.row.Row.{Row}
use Rattle.books.specs.Layers.{table_of}
use Rattle.books.specs.Meaning.{Meaning}
use Rattle.delays.specs.Kind.{Kind, Exact}
use Rattle.plans.specs.declared.fault.PlanFault.{PlanFault}
use Rattle.plans.specs.Answers.{settle, post, mark, back, Answer, settled, slip, done, refused}
use Rattle.plans.specs.States.{State, rows, opened, settling, posting, marking, closing, cutting, noted}
use Rattle.plans.specs.Steps.{Ending, Becomes, Unless, Check, EachBound, Conflicts, Present, Step}
use Rattle.scripts.specs.declared.answer.Answer.{Answer as LineAnswer}
use Rattle.scripts.specs.declared.answer.Answer.TheVariants.{Settled}
use Rattle.scripts.specs.Sessions.{Session, unopened, Opens, of_fault, list_length, new_plan, SettledNew}
use Rattle.scripts.specs.Ready.{Ready}

-- the plan is settled as it was, with its number and its open marks
pub record Kept (s t : State) : Type 0 where
  pub settled : t.settled ≡ s.settled
  pub number : t.number ≡ s.number
  pub marks : t.marks ≡ s.marks

kept_same : {s t : State} → t ≡ s → Kept s t
kept_same e = record { settled = ap (λ (s : State). s.settled) e; number = ap (λ (s : State). s.number) e; marks = ap (λ (s : State). s.marks) e }

module _ {k : Kind} where
  abbrev Keeps : State → Ending k → Type 0
  Keeps s P = (a : Answer k) (t : State) → P a t → Kept s t

  keeps_check : {s : State} {bad : Type 0} {x : Answer k} {P : Ending k} → Keeps s P → Keeps s (Unless s bad x P)
  keeps_check h a t (inl p) = kept_same p.1.1
  keeps_check h a t (inr p) = h a t p.1

  keeps_judge : (s : State) (bounds : List Row) (next : (ℕ → Exact k) → Ending k) → ((x : ℕ → Exact k) → Keeps s (next x)) → Keeps s (Conflicts k s bounds next)
  keeps_judge s bounds next h a t (inl p) = kept_same p.2.1
  keeps_judge s bounds next h a t (inr p) = h p.0 a t p.2

  -- a post
  pub post_keeps : (s : State) (l : ℕ) (b : Row) → Keeps s (Step k s (post l b))
  post_keeps s l b =
      keeps_check (keeps_check (keeps_check (keeps_check (keeps_check (keeps_check (keeps_judge s (rows s ++ b ∷ []) _ (λ x.
      keeps_check (λ a t p. let e : t ≡ posting b s = p.2.1 in
      record { settled = ap (λ (s : State). s.settled) e; number = ap (λ (s : State). s.number) e; marks = ap (λ (s : State). s.marks) e }))))))))

  -- a post leaves a plan ready
  pub post_ready : (s : State) (l : ℕ) (b : Row) (a : Answer k) (t : State) → Step k s (post l b) a t → Ready s → Ready t
  post_ready s l b a t p r =
      let h = post_keeps s l b a t p in
      record { settled = h.settled ∙ r.settled; unmarked = h.marks ∙ r.unmarked }

  -- a plan that is ready opens its first mark
  pub mark_opens : (s : State) (a : Answer k) (t : State) → Step k s mark a t → Ready s → (a ≡ slip s.number 1) × (t ≡ marking s)
  mark_opens s a t (inl p) r = let one : s.settled ≡ false = p.0 in let two : s.settled ≡ true = r.settled in cc
  mark_opens s a t (inr (n, inl p)) r =
      let one : length s.marks ≡ 8 = p.0 in let two : length s.marks ≡ 0 = ap length r.unmarked in absurd (omega (arith, one, two))
  mark_opens s a t (inr (n, inr (m, p))) r =
      let two : length s.marks ≡ 0 = ap length r.unmarked in
      (p.0 ∙ ap (λ d. slip s.number (d + 1)) two, p.1)

  -- a settled plan takes its slip
  pub back_closes : (s : State) (number d : ℕ) (a : Answer k) (t : State) → Step k s (back number d) a t → s.settled ≡ true → Present s number d
      → (a ≡ done) × (t ≡ cutting (noted s d) (closing d s))
  back_closes s number d a t (inl p) e h = let one : s.settled ≡ false = p.0 in cc
  back_closes s number d a t (inr (n, inl p)) e h = absurd (p.0 h)
  back_closes s number d a t (inr (n, inr (m, p))) e h = p

  -- a mark, a post and a back on a plan that is ready
  pub tried : (s u v t : State) (number d l : ℕ) (b : Row) (x y : Answer k) → Step k s mark (slip number d) u → Step k u (post l b) x v
      → Step k v (back number d) y t → Ready s → (y ≡ done) × Ready t
  tried s u v t number d l b x y p q o r =
      let first = mark_opens s (slip number d) u p r in
      let kept = post_keeps u l b x v q in
      let same : ◌≡◌ {A = Answer k} (slip number d) (slip s.number 1) = first.0 in
      let one : d ≡ 1 = cc in
      let its : number ≡ s.number = cc in
      let marked : u ≡ marking s = first.1 in
      let settled_before : u.settled ≡ true = ap (λ (s : State). s.settled) marked ∙ r.settled in
      let number_before : u.number ≡ s.number = ap (λ (s : State). s.number) marked in
      let marks_before : u.marks ≡ length s.book.added ∷ [] = ap (λ (s : State). s.marks) marked ∙ ap (λ m. m ++ length s.book.added ∷ []) r.unmarked in
      let settled_after : v.settled ≡ true = kept.settled ∙ settled_before in
      let depth_after : length v.marks ≡ 1 = ap length (kept.marks ∙ marks_before) in
      let present : Present v number d =
      record { number_is = its ∙ sym (kept.number ∙ number_before); depth_is = one ∙ sym depth_after; is_open = omega (arith, one) } in
      let last = back_closes v number d y t o settled_after present in
      let closed : t ≡ cutting (noted v d) (closing d v) = last.1 in (
        last.0,
        record {
          settled = ap (λ (s : State). s.settled) closed ∙ settled_after;
          unmarked = ap (λ (s : State). s.marks) closed ∙ ap (λ (d : ℕ). take (d - 1) v.marks) one;
        },
      )

  -- the call is refused and the plan stays, or it ends so
  abbrev Ends : State → Ending k → Ending k → Type 0
  Ends s Q P = (a : Answer k) (t : State) → P a t → ((e : PlanFault) × (a ≡ refused e) × (t ≡ s)) ⊎ Q a t

  ends_check : {s : State} {bad : Type 0} {e : PlanFault} {P Q : Ending k} → Ends s Q P → Ends s Q (Check s bad e P)
  ends_check h a t (inl p) = inl (_, p.1.0, p.1.1)
  ends_check h a t (inr p) = h a t p.1

  ends_bounds : (s : State) (i : ℕ) (bounds : List Row) {P Q : Ending k} → Ends s Q P → Ends s Q (EachBound k s i bounds P)
  ends_bounds s i [] h = h
  ends_bounds s i (b ∷ bounds) h = ends_check (ends_check (ends_bounds s (i + 1) bounds h))

  ends_judge : (s : State) (bounds : List Row) (next : (ℕ → Exact k) → Ending k) {Q : Ending k} → ((x : ℕ → Exact k) → Ends s Q (next x))
      → Ends s Q (Conflicts k s bounds next)
  ends_judge s bounds next h a t (inl p) = inl (_, p.2.0, p.2.1)
  ends_judge s bounds next h a t (inr p) = h p.0 a t p.2

  abbrev Settling : State → Ending k
  Settling s a t = (count : ℕ) × Becomes (settled count) (settling s) a t

  -- a settle
  settle_ends : (s : State) (l : ℕ) → Ends s (Settling s) (Step k s (settle l))
  settle_ends s l = ends_check (ends_check (ends_check (ends_bounds s 0 (rows s) (ends_judge s (rows s) _ (λ x a t p. inr (_, p))))))

  -- a settle that is accepted makes a plan ready that has no mark
  pub settle_ready : (s : State) (l count : ℕ) (t : State) → Step k s (settle l) (settled count) t → s.marks ≡ [] → Ready t
  settle_ready s l count t p none = go (settle_ends s l (settled count) t p)
    where
      go : (((e : PlanFault) × (◌≡◌ {A = Answer k} (settled count) (refused e)) × (t ≡ s)) ⊎ Settling s (settled count) t) → Ready t
      go (inl q) = let bad : ◌≡◌ {A = Answer k} (settled count) (refused q.0) = q.1 in cc
      go (inr q) =
          let same : t ≡ settling s = q.1.1 in
          record { settled = ap (λ (s : State). s.settled) same; unmarked = ap (λ (s : State). s.marks) same ∙ none }

  -- a settle that is refused leaves the plan unsettled
  settle_stays : (s : State) (l : ℕ) (e : PlanFault) (t : State) → Step k s (settle l) (refused e) t → s.settled ≡ false → t.settled ≡ true → ⊥
  settle_stays s l e t p before after = go (settle_ends s l (refused e) t p)
    where
      go : (((f : PlanFault) × (◌≡◌ {A = Answer k} (refused e) (refused f)) × (t ≡ s)) ⊎ Settling s (refused e) t) → ⊥
      go (inl q) = let same : t.settled ≡ s.settled = ap (λ (s : State). s.settled) q.2 in cc
      go (inr q) = let bad : ◌≡◌ {A = Answer k} (refused e) (settled q.0) = q.1.0 in cc

-- the plan that a script opens
pub opened_empty : (s : State) (m : Meaning) (given points : ℕ) → s ≡ opened m given 0 → m ≡ table_of [] → given ≡ points → s ≡ opened (table_of []) points 0
opened_empty s m given points is empty same = cc

module _ {k : Kind} (n : ℤ) (s t : State) (new : s ≡ new_plan n) (session : State → Session) where
  -- a new plan that is settled opens a session
  pub opens_settled : (count : ℕ) → Step k s (settle list_length) (settled count) t → Ready t → Opens k session n (Settled count) (session t)
  opens_settled count step ready =
      (settled count, t, subst (λ (s : State). Step k s (settle list_length) (settled count) t) new step, refl, inl (ready.settled, refl))

  -- and a refused one opens none
  pub opens_none : (e : PlanFault) (a : LineAnswer) → a ≡ of_fault e → Step k s (settle list_length) (refused e) t → Opens k session n a unopened
  opens_none e a says step =
      let first : SettledNew k n (refused e) t = subst (λ (s : State). Step k s (settle list_length) (refused e) t) new step in
      (refused e, t, first, says, inr (settle_stays (new_plan n) list_length e t first refl, refl))
