-- Where spreadings begin and end over rows: one from each point in turn, and one from the left point of a posted row. Assumes nothing.
use Rattle.std.proofs.Common.{◌≡◌, ℕ, ◌+◌, ◌<◌, ◌≤◌, List, [], ◌∷◌, ◌++◌, map, sym, refl, ap, ◌∙◌, subst, ⊎_elim, append-nil, arith}
use Rattle.std.specs.List.{All, Contains}
use Rattle.std.proofs.lemmas.Bool.{cases_eq}
use Rattle.std.proofs.lemmas.List.Elements.{All-append, All-cons, All-nil, All-contains, All-filter, Contains-get_or}
use Rattle.bounds.specs.declared.row.Row.{Row}
use Rattle.bounds.specs.Range.{Sound}
use Rattle.delays.specs.Kind.{Kind, Exact, Lawful}
use Rattle.delays.proofs.TheoryLaws.{theory}
use Rattle.network.specs.Bounds.{ExactBound, Bounds, floor_of}
use Rattle.network.specs.Assignments.{Le, Lt, Meets, Solution}
use Rattle.network.specs.Earliest.{Earliest}
use Rattle.network.specs.Rounds.{carry}
use Rattle.network.proofs.Counting.{all_counting}
use Rattle.network.proofs.Existing.{reached_floor}
use Rattle.network.proofs.InForce.{floor_held}
use Rattle.network.proofs.Orders.{lt_le}
use Rattle.network.proofs.Shortening.{earliest_reached}
use Rattle.relaxation.specs.Rows.{exact_of, force, Fit, Times}
use Rattle.relaxation.specs.Spreads.{Posed, asked, Quiet}
use Rattle.relaxation.specs.Stars.{below, in_question}
use Rattle.relaxation.proofs.Rows.{edges_inside, edges_small}
use Rattle.relaxation.proofs.Stars.{below_none, below_all, question_row, question_floor, question_each, force_holds}
use Rattle.relaxation.proofs.Members.{only_one}

-- times that meet a bound have what it asks
pub meets_asked : {k : Kind} (laws : Lawful k) (t : ℕ → Exact k) (b : ExactBound k) → Meets k t b → Le k (asked k t b) (t b.right)
meets_asked laws t b h = (theory laws).move_right (t b.left) (t b.right) b.delay h

-- at first only the bounds that leave the root may not be met
pub posed_quiet : {k : Kind} (laws : Lawful k) {n : ℕ} {met all : Bounds k} {root : ℕ} {start : ℕ → Exact k} (first : ExactBound k → Type 0)
    → Posed k n met all root start → Quiet k n all root first start (root ∷ [])
posed_quiet {k} laws {met = met} {root = root} {start = start} first posed b has out =
    meets_asked laws start b (All-contains (Meets k start) met b posed.solution.meets (posed.others b has (λ e. out (0, omega arith, sym e))))

-- where no row is posted the bounds in question are those of the rows below the limit
question_none : (k : Kind) (n limit : ℕ) (rows : List Row) → in_question k n limit rows [] ≡ force k n (below limit rows)
question_none k n limit rows = ap (force k n) (append-nil (below limit rows))

-- a higher limit, or posted rows, leave no bound out
question_more : (k : Kind) (n low high : ℕ) (rows posted : List Row) → low ≤ high → (e : ExactBound k) → Contains (in_question k n low rows []) e
    → Contains (in_question k n high rows posted) e
question_more k n low high rows posted le =
    question_each k n low rows [] (Contains (in_question k n high rows posted)) (λ i r small left. question_row k n high rows posted i r small (omega arith))
    (λ r has. absurd (omega (arith, has.1))) (question_floor k n high rows posted)

-- the left points of bounds in question are below the limit, where those of posted rows are
question_limit : (k : Kind) (n limit : ℕ) (rows posted : List Row) → 0 < limit → ((r : Row) → Contains posted r → r.left < limit)
    → (e : ExactBound k) → Contains (in_question k n limit rows posted) e → e.left < limit
question_limit k n limit rows posted some lefts =
    question_each k n limit rows posted (λ e. e.left < limit) (λ i r small left. left) lefts (λ p small. some)

pub star_limit : (k : Kind) (n p : ℕ) (rows : List Row) (e : ExactBound k) → Contains (in_question k n (p + 1) rows []) e → e.left < p + 1
star_limit k n p rows = question_limit k n (p + 1) rows [] (omega arith) (λ r has. absurd (omega (arith, has.1)))

pub post_limit : (k : Kind) (n : ℕ) (rows : List Row) (b : Row) → Fit k n b → (e : ExactBound k) → Contains (in_question k n n rows (b ∷ [])) e → e.left < n
post_limit k n rows b fit =
    question_limit k n n rows (b ∷ []) (omega (arith, fit.left)) (λ r has. subst (λ r. r.left < n) (only_one b r has) fit.left)

module _ {k : Kind} (laws : Lawful k) {n : ℕ} (some : 0 < n) where
  -- over floors alone each time is zero
  pub zero_times : (rows : List Row) → Times k n (below 0 rows) (λ p. k.zero)
  zero_times rows = subst (λ rs. Times k n rs (λ p. k.zero)) (sym (below_none rows)) floor_times
    where
      solution : Solution k (force k n []) (λ p. k.zero)
      solution = record {
        zero_first = refl;
        meets = all_counting (Meets k (λ p. k.zero)) (floor_of k) 0 n
            (λ p l u. subst (Le k k.zero) (sym (laws.zero_adds_nothing k.zero)) (laws.reflexive k.zero));
      }

      floor_times : Times k n [] (λ p. k.zero)
      floor_times = record {
        solution = solution;
        earliest = λ p small. earliest_reached laws (force k n []) (λ p. k.zero) solution p
            (reached_floor laws (force k n []) p (floor_held k n [] p small));
      }

  module _ (few : n ≤ 128) (rows : List Row) (fit : All (Fit k n) rows) (sound : All Sound rows) where
    -- The times that rows below the one limit have are posed to those below the other and the posted ones, where what comes in leaves the root.
    question_posed : (low high root : ℕ) (posted : List Row) (t : ℕ → Exact k) → root < n → low ≤ high
        → ((q : ℕ) → q < high → (q ≡ root → ⊥) → q < low) → All (Fit k n) posted → All Sound posted → ((r : Row) → Contains posted r → r.left ≡ root)
        → Times k n (below low rows) t → Posed k n (in_question k n low rows []) (in_question k n high rows posted) root t
    question_posed low high root posted t inside le back fits sounds leaves times = record {
      some = inside;
      few = few;
      inside = edges_inside laws n all some all_fit;
      small = edges_small laws n all some all_fit (All-append Sound (below high rows) posted (All-filter _ Sound rows sound) sounds);
      among = question_more k n low high rows posted le;
      others = question_each k n high rows posted (λ e. (e.left ≡ root → ⊥) → Contains (in_question k n low rows []) e)
          (λ i r small left ne. question_row k n low rows [] i r small (back _ left ne)) (λ r has ne. absurd (ne (leaves r has)))
          (λ p small ne. question_floor k n low rows [] p small);
      solution = subst (λ edges. Solution k edges t) (sym (question_none k n low rows)) times.solution;
      earliest = λ p small. subst (λ edges. Earliest k edges p (t p)) (sym (question_none k n low rows)) (times.earliest p small);
    }
      where
        all : List Row
        all = below high rows ++ posted

        all_fit : All (Fit k n) all
        all_fit = All-append (Fit k n) (below high rows) posted (All-filter _ (Fit k n) rows fit) fits

    -- the next point's rows come in
    pub star_posed : (p : ℕ) → p < n → (t : ℕ → Exact k) → Times k n (below p rows) t
        → Posed k n (in_question k n p rows []) (in_question k n (p + 1) rows []) p t
    star_posed p small t times =
        question_posed p (p + 1) p [] t small (omega arith) (λ q low ne. omega (arith, ne)) (All-nil (Fit k n)) (All-nil Sound)
        (λ r has. absurd (omega (arith, has.1))) times

    pub star_quiet : (p : ℕ) → p < n → (t : ℕ → Exact k) → Times k n (below p rows) t → (first : ExactBound k → Type 0)
        → Quiet k n (in_question k n (p + 1) rows []) p first t (p ∷ [])
    star_quiet p small t times first = posed_quiet laws first (star_posed p small t times)

    -- a posted row comes in
    pub post_posed : (b : Row) → Fit k n b → Sound b → (t : ℕ → Exact k) → Times k n rows t
        → Posed k n (force k n rows) (in_question k n n rows (b ∷ [])) b.left t
    post_posed b fit_b sound_b t times =
        let same = below_all k n rows fit in
        subst (λ met. Posed k n met (in_question k n n rows (b ∷ [])) b.left t) (question_none k n n rows ∙ ap (force k n) same)
        (question_posed n n b.left (b ∷ []) t fit_b.left (omega arith) (λ q low ne. low) (All-cons (Fit k n) b [] fit_b (All-nil (Fit k n)))
        (All-cons Sound b [] sound_b (All-nil Sound)) (λ r has. ap (λ r. r.left) (sym (only_one b r has)))
        (subst (λ rs. Times k n rs t) (sym same) times))

module _ {k : Kind} (laws : Lawful k) (n : ℕ) (rows : List Row) (b : Row) (t : ℕ → Exact k) (solution : Solution k (force k n rows) t) where
  -- Where the right point of a posted row has risen to what the row asks, the bounds that leave other points are met.
  pub post_quiet : (time : ℕ → Exact k) → time b.right ≡ asked k t (exact_of k b) → ((q : ℕ) → (q ≡ b.right → ⊥) → time q ≡ t q)
      → Lt k (t b.right) (asked k t (exact_of k b)) → (first : ExactBound k → Type 0)
      → Quiet k n (in_question k n n rows (b ∷ [])) b.left first time (b.right ∷ [])
  post_quiet time risen still up first =
      question_each k n n rows (b ∷ []) Heeded (λ i r small left. old _ (force_holds k n rows _ (Contains-get_or rows i r small)))
      (λ r has. subst (λ r. Heeded (exact_of k r)) (only_one b r has) own) (λ p small. old _ (floor_held k n (map (exact_of k) rows) p small))
    where
      Heeded : ExactBound k → Type 0
      Heeded e = (Contains (b.right ∷ []) e.left → ⊥) → Le k (asked k time e) (time e.right)

      -- what leaves another point asks what it asked
      as_before : (e : ExactBound k) → (Contains (b.right ∷ []) e.left → ⊥) → asked k time e ≡ asked k t e
      as_before e out = ap (λ x. carry k x e.delay) (still e.left (λ h. out (0, omega arith, sym h)))

      grown : (q : ℕ) → Le k (t q) (time q)
      grown q = ⊎_elim (λ e. subst (λ q. Le k (t q) (time q)) (sym e) (rw risen (lt_le laws _ _ up))) (λ ne. rw (still q ne) (laws.reflexive (t q)))
          (cases_eq q b.right)

      old : (e : ExactBound k) → Contains (force k n rows) e → Heeded e
      old e has out =
          let met = meets_asked laws t e (All-contains (Meets k t) (force k n rows) e solution.meets has) in
          rw (as_before e out) (laws.transitive _ _ _ met (grown e.right))

      own : Heeded (exact_of k b)
      own out = rw (as_before (exact_of k b) out, risen) (laws.reflexive _)

module _ {k : Kind} {n : ℕ} (rows : List Row) (t : ℕ → Exact k) where
  -- the earliest times over the bounds in question, which meet them, are those of the rows
  question_times : (limit : ℕ) (posted : List Row)
      → Solution k (in_question k n limit rows posted) t × ((p : ℕ) → p < n → Earliest k (in_question k n limit rows posted) p (t p))
      → Times k n (below limit rows ++ posted) t
  question_times limit posted ends = record { solution = ends.0; earliest = ends.1 }

  pub star_times : (limit : ℕ) → Solution k (in_question k n limit rows []) t × ((p : ℕ) → p < n → Earliest k (in_question k n limit rows []) p (t p))
      → Times k n (below limit rows) t
  star_times limit ends = subst (λ rs. Times k n rs t) (append-nil (below limit rows)) (question_times limit [] ends)

  module _ (fit : All (Fit k n) rows) where
    pub post_times : (b : Row) → Solution k (in_question k n n rows (b ∷ [])) t × ((p : ℕ) → p < n → Earliest k (in_question k n n rows (b ∷ [])) p (t p))
        → Times k n (rows ++ b ∷ []) t
    post_times b ends = subst (λ rs. Times k n (rs ++ b ∷ []) t) (below_all k n rows fit) (question_times n (b ∷ []) ends)

    -- after the last point no row is left out
    pub last_times : (limit : ℕ) → limit ≡ n → Times k n (below limit rows) t → Times k n rows t
    last_times limit last times = subst (λ rs. Times k n rs t) (ap (λ m. below m rows) last ∙ below_all k n rows fit) times
