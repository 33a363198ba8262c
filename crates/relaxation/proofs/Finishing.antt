-- A point was taken up: its rows are met, and the floors where it is point 0, and no other bound leaves it. Assumes nothing.
use Rattle.std.proofs.Common.{◌≡◌, ℕ, ◌<◌, Bool, true, false, MatchBool, ◌⊎◌, List, [], ◌++◌, length, get_or}
use Rattle.std.proofs.Common.{sym, ap, ◌∙◌, subst, inl, inr, ⊎_elim, append_assoc, arith}
use Rattle.std.specs.List.{Contains}
use Rattle.std.proofs.lemmas.List.Elements.{All-head, All-tail, All-contains, Contains-append_left, Contains-append_cases}
use Rattle.bounds.specs.declared.row.Row.{Row}
use Rattle.delays.specs.Kind.{Kind, Exact, Lawful}
use Rattle.network.specs.Bounds.{floor_of}
use Rattle.network.specs.Assignments.{Le}
use Rattle.network.proofs.Orders.{le_lt_trans, lt_le_trans}
use Rattle.relaxation.specs.declared.star.Star.{Star}
use Rattle.relaxation.specs.Rows.{exact_of}
use Rattle.relaxation.specs.Spreads.{asked}
use Rattle.relaxation.specs.Workings.{posted_rows, MayBeTaken, Stopped, Going, RowsTaken, FloorsTaken, Taken}
use Rattle.relaxation.proofs.Stars.{question_each}
use Rattle.relaxation.proofs.Trails.{not_root}
use Rattle.relaxation.proofs.Taking.{met_kept}

-- times that rose, and rose further, while one point was being taken up
going_on : {k : Kind} (laws : Lawful k) {n : ℕ} {rows : List Row} {star : Star} {u : ℕ} {before mid after : ℕ → Exact k}
    {over over' line_before line_mid line : List ℕ} → Going k n rows star u before mid over line_before line_mid
    → Going k n rows star u mid after over' line_mid line → Going k n rows star u before after over' line_before line
going_on {k} laws {star = star} {u = u} {before = before} {mid = mid} {after = after} {line_before = line_before} {line_mid = line_mid} {line = line}
    f g = record {
      more = f.more ++ g.more;
      joined = joined;
      made = record {
        itself = g.made.itself ∙ f.made.itself;
        grown = λ q. laws.transitive (before q) (mid q) (after q) (f.made.grown q) (g.made.grown q);
        waits = λ q low. ⊎_elim (λ e. ⊎_elim (λ e'. inl (e' ∙ e)) (λ h. inr (now q h)) (g.made.waits q low))
            (λ h. inr (rw (append_assoc line_before f.more g.more) at (Contains-append_left (line_before ++ f.more) g.more q h))) (f.made.waits q low);
        new = λ q has. ⊎_elim (λ h. lt_le_trans laws (before q) (mid q) (after q) (f.made.new q h) (g.made.grown q))
            (λ h. le_lt_trans laws (before q) (mid q) (after q) (f.made.grown q) (g.made.new q h)) (Contains-append_cases f.more g.more q has);
      };
      working = g.working;
    }
  where
    joined : line ≡ line_before ++ (f.more ++ g.more)
    joined = g.joined ∙ (ap (λ l. l ++ g.more) f.joined ∙ append_assoc line_before f.more g.more)

    now : (q : ℕ) → Contains (line_mid ++ g.more) q → Contains (line_before ++ (f.more ++ g.more)) q
    now q = subst (λ l. Contains l q) (sym g.joined ∙ joined)

module _ {k : Kind} {n : ℕ} {rows : List Row} {star : Star} {u : ℕ} {before after : ℕ → Exact k} {over line_before line : List ℕ}
    (g : Going k n rows star u before after over line_before line) where
  -- the posted bound leaves the root, which is not taken up where a bound is posted
  posted_elsewhere : (r : Row) → Contains (posted_rows star.posted) r → r.left ≡ u → ⊥
  posted_elsewhere r has left =
      ⊎_elim (λ h. nothing (subst (λ p. Contains (posted_rows p) r) h.1 has)) (λ up. not_root g.working.spread u up (sym left ∙ root))
      (All-head (MayBeTaken k n rows star g.working.risen) u line g.working.begun).begun
    where
      nothing : Contains [] r → ⊥
      nothing h = omega (arith, h.1)

      root : r.left ≡ star.root
      root = All-contains (λ b. b.left ≡ star.root) (posted_rows star.posted) r g.working.leaves has

  finished : ((i : ℕ) (r : Row) → i < length rows → (get_or rows i r).left ≡ u
      → Le k (asked k after (exact_of k (get_or rows i r))) (after (get_or rows i r).right))
      → (u ≡ 0 → (p : ℕ) → p < n → Le k (asked k after (floor_of k p)) (after p)) → Taken k n rows star u before after over line_before line
  finished of_rows of_floors = record {
    more = g.more;
    joined = g.joined;
    taken = record {
      made = g.made;
      met = question_each k n star.limit rows (posted_rows star.posted) (λ b. b.left ≡ u → Le k (asked k after b) (after b.right))
          (λ i r low left e. of_rows i r low e) (λ r has e. absurd (posted_elsewhere r has e)) (λ p low e. of_floors (sym e) p low);
    };
    working = record {
      met = g.working.met;
      start = g.working.start;
      risen = g.working.risen;
      limit = g.working.limit;
      leaves = g.working.leaves;
      posed = g.working.posed;
      spread = g.working.spread;
      begun = All-tail (MayBeTaken k n rows star g.working.risen) u line g.working.begun;
    };
  }

-- another point than 0 was taken up when its rows are met
pub taken_alone : {k : Kind} {n : ℕ} {rows : List Row} {star : Star} {u : ℕ} {before after : ℕ → Exact k} {over line_before line : List ℕ}
    → RowsTaken k n rows star u before after over line_before line → (u ≡ 0 → ⊥) → Taken k n rows star u before after over line_before line
taken_alone t ne = finished t.going t.met (λ e. absurd (ne e))

-- point 0 was taken up when the floors are met too
taken_with_floors : {k : Kind} (laws : Lawful k) {n : ℕ} {rows : List Row} {star : Star} {u : ℕ} {before mid after : ℕ → Exact k}
    {over over' line_before line_mid line : List ℕ} → RowsTaken k n rows star u before mid over line_before line_mid → u ≡ 0
    → FloorsTaken k n rows star mid after over' line_mid line → Taken k n rows star u before after over' line_before line
taken_with_floors {k} laws {n} {rows} {star} {u} {mid = mid} {after = after} {over' = over'} {line_mid = line_mid} {line = line} t zero f =
    finished (going_on laws t.going going)
    (λ i r low left. met_kept laws going.made.itself going.made.grown (exact_of k (get_or rows i r)) left (t.met i r low left)) (λ e. f.met)
  where
    going : Going k n rows star u mid after over' line_mid line
    going = subst (λ u. Going k n rows star u mid after over' line_mid line) (sym zero) f.going

-- so heeding the floors too answers whether the root would rise
pub taken_or_stopped : {k : Kind} (laws : Lawful k) {n : ℕ} {rows : List Row} {star : Star} {u : ℕ} {before mid : ℕ → Exact k}
    {over line_before line_mid : List ℕ} → RowsTaken k n rows star u before mid over line_before line_mid → u ≡ 0
    → (after : ℕ → Exact k) (over' line : List ℕ) (result : Bool)
    → MatchBool result (Stopped k n rows star after over') (FloorsTaken k n rows star mid after over' line_mid line)
    → MatchBool result (Stopped k n rows star after over') (Taken k n rows star u before after over' line_before line)
taken_or_stopped laws t zero after over' line true s = s
taken_or_stopped laws t zero after over' line false f = taken_with_floors laws t zero f
