-- An accepted back takes back each call from its mark through itself. Assumes nothing.
use Rattle.std.proofs.Common.{ap, length, ◌≡◌, ℕ, ◌+◌, ◌<◌, ◌≤◌, true, ◌⊎◌, List, [], ◌∷◌, ◌++◌, ◌∙◌, subst, inl, inr, append-nil, arith}
use mathlib.Core.Path.{subst⁻¹}
use Rattle.delays.specs.Kind.{Kind, Lawful}
use Rattle.plans.specs.Answers.{Call, Answer, mark, back, slip, done}
use Rattle.plans.specs.States.{State, depth, closing, cutting, noted}
use Rattle.plans.specs.Runs.{Said, Run, goes, Unmarked, MarkOf, Opened, BacksRestore, Remaining, start, further, taken}
use Rattle.plans.proofs.Agreeing.{runs_agree}
use Rattle.plans.proofs.Changing.{Change, change, opens, shuts}
use Rattle.plans.proofs.Parting.{split, join, opened_mark}
use Rattle.plans.proofs.Enclosing.{Enclosed, enclosed_first, enclosed_run, back_restores}

module _ {k : Kind} where
  -- the plan after the back is the one before the mark
  restored : {s v w t : State} {number d : ℕ} (inner : List (Said k)) → Change k s mark (slip number d) v → Run k v inner w
      → Change k w (back number d) done t → Unmarked d inner → t ≡ s
  restored {s} {v} {w} {t} {number} {d} inner p r q n =
      let o = opens p in
      let c = shuts q in
      c.after ∙ go o.settled o.depth_is c.open_there
      (enclosed_run inner (subst (λ (z : State). Run k z inner w) o.after r) (subst (λ (j : ℕ). Unmarked j inner) o.depth_is n)
      (inl (enclosed_first o.settled)))
    where
      go : s.settled ≡ true → d ≡ depth s + 1 → d ≤ depth w → Enclosed s w ⊎ (depth w < depth s + 1) → cutting (noted w d) (closing d w) ≡ s
      go f e g (inl i) = back_restores i f d e
      go f e g (inr l) = absurd (omega arith)

  resume : {s v w t : State} {number d : ℕ} (inner later : List (Said k)) → Change k s mark (slip number d) v → Run k v inner w
      → Run k w ((back number d, done) ∷ later) t → Unmarked d inner → Run k s later t
  resume {t = t} {number = number} {d = d} inner later p r (goes {t = x} q rest) n =
      subst (λ (z : State). Run k z later t) (restored inner p r (change (back number d) done x q) n) rest

  -- the calls after the back go on from the plan before the mark
  pub unwind : {s t : State} (number d : ℕ) (inner later : List (Said k))
      → Run k s ((mark, slip number d) ∷ (inner ++ ((back number d, done) ∷ later))) t → Unmarked d inner → Run k s later t
  unwind number d inner later (goes {t = v} p r) n =
      let h = split inner ((back number d, done) ∷ later) r in
      resume inner later (change mark (slip number d) v p) h.1 h.2 n

  -- an accepted back has its mark among the calls before it
  mark_before : {s u v : State} {number d : ℕ} (earlier : List (Said k)) → depth s ≡ 0 → Run k s earlier u → Change k u (back number d) done v
      → MarkOf number d earlier
  mark_before {d = d} earlier none r q =
      let c = shuts q in subst⁻¹ (λ (j : ℕ). MarkOf j d earlier) c.number_is (opened_mark d earlier none r c.is_open c.open_there)

  -- the change that the first call of a run makes
  first_step : {s t : State} {c : Call} {a : Answer k} {xs : List (Said k)} → Run k s ((c, a) ∷ xs) t → (v : State) × Change k s c a v
  first_step (goes {t = v} {c = c} {a = a} p _) = (v, change c a v p)

  -- the run without the calls, and by it the answers
  pub backs_restore : Lawful k → (s : State) → Opened s → BacksRestore k s
  backs_restore laws s o t number d earlier later r =
      let h = split earlier ((back number d, done) ∷ later) r in
      let m = mark_before earlier (ap length o.unmarked) h.1 (first_step h.2).1 in
      let parts = split m.before ((mark, slip number d) ∷ m.inner) (subst (λ (z : List (Said k)). Run k s z h.0) m.split h.1) in
      let short : Run k s (m.before ++ later) t = join parts.1 (unwind number d m.inner later (join parts.2 h.2) m.unmarked) in
      (m, short, λ u ys q e. runs_agree laws s u t ys (m.before ++ later) q short e)

  -- what remains of a run is a run to the same plan
  pub remaining_run : {s : State} {xs ys : List (Said k)} → Remaining xs ys → (t : State) → Run k s xs t → Run k s ys t
  remaining_run start t r = r
  remaining_run (further {xs} {ys} {x} l n) t r = let h = split xs (x ∷ []) r in join (remaining_run l h.0 h.1) h.2
  remaining_run {s} (taken {xs} {ys} inner number d l n) t r =
      let h = split xs ((back number d, done) ∷ []) r in
      let i = split ys ((mark, slip number d) ∷ inner) (remaining_run l h.0 h.1) in
      subst (λ (z : List (Said k)). Run k s z t) (append-nil ys) (join i.1 (unwind number d inner [] (join i.2 h.2) n))
