-- The chain that a spreading found: the way back from the root over the bounds noted for the points, and the words along it. Assumes nothing.
use Rattle.std.proofs.Common.{◌≡◌, ℕ, zero, suc, ◌+◌, ◌-◌, ◌*◌, ◌^◌, ◌<◌, ◌≤◌, ◌⊎◌, Bool, List, [], ◌∷◌, ◌++◌, Option, Some, None, map, length, drop}
use Rattle.std.proofs.Common.{get_or, set, refl, sym, ap, ◌∙◌, subst, inl, inr, arith, get_or-set_same, get_or-set_other, length-drop}
use Rattle.std.specs.List.{slice_get}
use Rattle.std.specs.Option.{option_map, unwrap_or}
use Rattle.std.proofs.lemmas.Bool.{cases_eq, eq-eqb, ne_eqb}
use Rattle.std.proofs.lemmas.List.{length-map, length-set, get_or-drop, get_or_default}
use Rattle.std.proofs.lemmas.List.Elements.{All-head}
use Rattle.std.proofs.lemmas.Option.{slice_get_within, slice_get-map, unwrap_or-slice_get}
use Rattle.bounds.specs.declared.row.Row.{Row}
use Rattle.delays.specs.Kind.{Kind, Exact, Lawful}
use Rattle.network.specs.declared.link.Link.TheVariants.{Book, Floor, Posted}
use Rattle.network.specs.Bounds.{ExactBound, Bounds, floor_of}
use Rattle.network.specs.Chains.{ChainIn}
use Rattle.relaxation.specs.declared.star.Star.{Star}
use Rattle.relaxation.specs.Rows.{exact_of, force}
use Rattle.relaxation.specs.Spreads.{LeadsBack, back, trail, Spread}
use Rattle.relaxation.specs.Stars.{in_question, over_of, Leads}
use Rattle.relaxation.specs.Workings.{Stopped, posted_rows}
use Rattle.relaxation.specs.Founds.{IsWordOf, ChainFound, noted, StepBack, WayBack, Written, WentBack}
use Rattle.relaxation.proofs.Trails.{back_first, trail_length, trail_at, not_root, ClosedChain, closed}
use Rattle.relaxation.proofs.Stars.{question_chain}

module _ (k : Kind) (rows : List Row) (over : List ℕ) where
  -- the bound noted for a point, by what reading its number in the book gives
  noted_read : (p : ℕ) (r : Option Row) → r ≡ slice_get rows (get_or over p 0) → noted k rows over p ≡ unwrap_or (option_map (exact_of k) r) (floor_of k p)
  noted_read p r read =
      let number = get_or over p 0 in
      let floor = floor_of k p in
      sym (unwrap_or-slice_get (map (exact_of k) rows) number floor)
      ∙ ap (λ (o : Option (ExactBound k)). unwrap_or o floor) (slice_get-map (exact_of k) rows number ∙ ap (option_map (exact_of k)) (sym read))

  -- a step back over a bound of the book
  pub book_step : (p : ℕ) (r : Row) → get_or over p 0 < 65536 → Some r ≡ slice_get rows (get_or over p 0)
      → StepBack k rows over p (2 ^ 30 + get_or over p 0) r.left
  book_step p r room read =
      let number = get_or over p 0 in
      let book = map (exact_of k) rows in
      let low = slice_get_within rows number r (sym read) in
      let inside : number < length book = omega (arith, low, length-map rows (exact_of k)) in
      record {
        named = λ posted. (
          Book number,
          record { room = omega arith; value = omega arith },
          (inside, get_or_default book number (floor_of k p) (noted k rows over p) inside),
        );
        left = ap (λ (b : ExactBound k). b.left) (sym (noted_read p (Some r) read));
      }

  -- and over the floor of the point, where the book has not the number
  pub floor_step : (p : ℕ) → p < 2 ^ 30 → None ≡ slice_get rows (get_or over p 0) → StepBack k rows over p (2 ^ 31 + p) 0
  floor_step p room read =
      let at = noted_read p None read in
      record {
        named = λ posted. (Floor p, record { room = room; value = omega arith }, at);
        left = ap (λ (b : ExactBound k). b.left) (sym at);
      }

  -- before the first step no word is written
  written_none : (root : ℕ) (places : List ℕ) → length places ≡ 128 → Written k rows over root places 0 root
  written_none root places long = record { long = long; named = λ posted j h. absurd (omega arith); reached = refl }

  -- a word more
  written_more : {root : ℕ} {places : List ℕ} {i p : ℕ} (word q : ℕ) → i < 128 → StepBack k rows over p word q
      → Written k rows over root places i p → Written k rows over root (set places (127 - i) word) (i + 1) q
  written_more {root} {places} {i} {p} word q room step done =
      let there = noted k rows over in
      let next : suc i ≡ i + 1 = omega arith in
      record {
        long = length-set places (127 - i) word ∙ done.long;
        named = λ posted j h. named posted j h (cases_eq j i);
        reached = step.left ∙ (ap (λ a. (there a).left) done.reached ∙ ap (λ a. back there a root) next);
      }
    where
      named : (posted : List Row) (j : ℕ) → j < i + 1 → (j ≡ i) ⊎ (j ≡ i → ⊥)
          → IsWordOf k rows posted (get_or (set places (127 - i) word) (127 - j) 0) (noted k rows over (back (noted k rows over) j root))
      named posted j h (inl e) =
          rw (e, get_or-set_same places (127 - i) word 0 (omega (arith, done.long)), ← done.reached) (step.named posted)
      named posted j h (inr e) =
          rw (get_or-set_other places (127 - i) (127 - j) word 0 (λ s. e (omega arith))) (done.named posted j (omega arith))

  -- Where other bounds differ from the noted ones at the end of a way alone, they are the same along it.
  same_along : (other : ℕ → ExactBound k) (end : ℕ) → ((q : ℕ) → (q ≡ end → ⊥) → other q ≡ noted k rows over q)
      → (steps j q : ℕ) → j < steps → WayBack k rows over end steps q → other (back other j q) ≡ noted k rows over (back (noted k rows over) j q)
  same_along other end same zero j q h way = absurd (omega arith)
  same_along other end same (suc steps) zero q h way = same q way.1
  same_along other end same (suc steps) (suc j) q h way =
      let there = noted k rows over in
      ap other (sym (back_first other j q))
      ∙ (ap (λ (b : ExactBound k). other (back other j b.left)) (same q way.1)
      ∙ (same_along other end same steps j (there q).left (omega arith) way.2 ∙ ap there (back_first there j q)))

-- On the way from a point to the end, with some words written before: the steps back have come to p, and so many words are in the places.
pub record GoingBack (k : Kind) (rows : List Row) (over : List ℕ) (end from written : ℕ) (before : List ℕ) (p count : ℕ) (places : List ℕ) : Type 0 where
  pub room : (steps : ℕ) × (count + steps ≤ 128) × WayBack k rows over end steps p
  pub done : (root steps : ℕ) → WayBack k rows over end steps from → Written k rows over root before written from
      → (left : ℕ) × (count + left ≡ written + steps) × WayBack k rows over end left p × Written k rows over root places count p

module _ {k : Kind} {rows : List Row} {over : List ℕ} {end from written : ℕ} {before : List ℕ} {p count : ℕ} {places : List ℕ}
    (going : GoingBack k rows over end from written before p count places) where
  -- short of the end there is a step, and a place for its word
  pub going_room : (p ≡ end → ⊥) → (p < 128) × (count < 128)
  going_room ne = go going.room.0 going.room.1 going.room.2
    where
      go : (steps : ℕ) → count + steps ≤ 128 → WayBack k rows over end steps p → (p < 128) × (count < 128)
      go zero room way = absurd (ne way)
      go (suc steps) room way = (way.0, omega arith)

  pub going_on : (word q : ℕ) → (p ≡ end → ⊥) → StepBack k rows over p word q
      → GoingBack k rows over end from written before q (count + 1) (set places (127 - count) word)
  going_on word q ne step = record {
    room = let on = further going.room.0 going.room.2 in (on.0, let same = on.1 in omega (arith, going.room.1), on.2);
    done = λ root steps way begun.
        let so_far = going.done root steps way begun in
        let on = further so_far.0 so_far.2 in
        (on.0, let same = on.1 in omega (arith, so_far.1), on.2, written_more k rows over word q (going_room ne).1 step so_far.3);
  }
    where
      further : (steps : ℕ) → WayBack k rows over end steps p → (left : ℕ) × (steps ≡ suc left) × WayBack k rows over end left q
      further zero way = absurd (ne way)
      further (suc steps) way = (steps, refl, rw step.left way.2)

  pub going_ends : p ≡ end → WentBack k rows over end from written before places count
  going_ends e root steps way begun =
      let so_far = going.done root steps way begun in
      let none_left = ends so_far.0 so_far.2 in
      (omega (arith, so_far.1, none_left), rw e at so_far.3)
    where
      ends : (steps : ℕ) → WayBack k rows over end steps p → steps ≡ 0
      ends zero way = refl
      ends (suc steps) way = absurd (way.1 e)

-- where no bound is posted, the way back from a point that rose leads over noted bounds to the root
module _ {k : Kind} (rows : List Row) (over : List ℕ) {n : ℕ} {all : Bounds k} {root : ℕ} {first : ExactBound k → Type 0} {start : ℕ → Exact k}
    {risen : ℕ → Bool} {time : ℕ → Exact k} (few : n ≤ 128) (s : Spread k n all root first start risen time (noted k rows over)) where
  star_way : (j q : ℕ) → LeadsBack k risen (noted k rows over) root j q → WayBack k rows over root j q
  star_way zero q l = l
  star_way (suc j) q l = let small = s.inside q l.0 in (omega (arith, small), not_root s q l.0, star_way j (noted k rows over q).left l.1)

-- the word of a posted bound
posted_word : (k : Kind) (rows : List Row) (b : Row) → IsWordOf k rows (b ∷ []) (3 * 2 ^ 30) (exact_of k b)
posted_word k rows b = (Posted, record { room = omega arith; value = omega arith }, refl)

module _ (k : Kind) (rows : List Row) (b : Row) (over : List ℕ) where
  -- where a bound is posted, it is the one over which its right point rose, and each other point has the bound that is noted
  posted_here : over_of k rows (b ∷ []) over b.right ≡ exact_of k b
  posted_here = rw (eq-eqb b.right b.right refl)

  posted_off : (q : ℕ) → (q ≡ b.right → ⊥) → over_of k rows (b ∷ []) over q ≡ noted k rows over q
  posted_off q ne = rw (ne_eqb q b.right ne)

-- and then the way back leads over noted bounds to its right point
module _ {k : Kind} (rows : List Row) (b : Row) (over : List ℕ) {n : ℕ} {all : Bounds k} {root : ℕ} {start : ℕ → Exact k}
    {risen : ℕ → Bool} {time : ℕ → Exact k} (few : n ≤ 128) (leaves : b.left ≡ root)
    (s : Spread k n all root (Leads k (b ∷ [])) start risen time (over_of k rows (b ∷ []) over)) where
  post_way : let over' = over_of k rows (b ∷ []) over in (j q : ℕ) → q < 128 → (over' q).right ≡ q
      → ((over' q).left ≡ root → over' q ≡ exact_of k b) → LeadsBack k risen over' root j (over' q).left → WayBack k rows over b.right j q
  post_way zero q low right begins l = sym right ∙ ap (λ (e : ExactBound k). e.right) (begins l)
  post_way (suc j) q low right begins l =
      let over' = over_of k rows (b ∷ []) over in
      let p = (over' q).left in
      let rose = s.raised p l.0 in
      let small = s.inside p l.0 in
      let here = posted_here k rows b over in
      let off : q ≡ b.right → ⊥ = λ e. not_root s p l.0 (ap (λ (e : ExactBound k). e.left) (ap over' e ∙ here) ∙ leaves) in
      let rest = post_way j p (omega (arith, small)) rose.right rose.begins l.1 in
      (low, off, subst (λ (e : ExactBound k). WayBack k rows over b.right j e.left) (posted_off k rows b over q off) rest)

-- the words of a closed chain, the last one first, from the end of the places on
module _ {k : Kind} {n : ℕ} {rows posted : List Row} {all : Bounds k} {root : ℕ} {first : ExactBound k → Type 0} {risen : ℕ → Bool}
    {over : ℕ → ExactBound k} (closed : ClosedChain k n all root first risen over) {places : List ℕ} {count : ℕ} where
  chain_found : n ≤ 128 → length places ≡ 128 → count ≡ closed.steps + 1
      → ((row : Bounds k) → ChainIn k all row → ChainIn k (force k n (rows ++ posted)) row)
      → ((j : ℕ) → j < count → IsWordOf k rows posted (get_or places (127 - j) 0) (over (back over j root)))
      → (posted ≡ []) ⊎ (get_or places (127 - closed.steps) 0 ≡ 3 * 2 ^ 30) → ChainFound k n rows posted places count
  chain_found few long steps in_force named headed =
      let row = trail k over (suc closed.steps) root in
      let upto : count ≤ n = let short = closed.short in omega (arith, steps) in
      let words = drop (128 - count) places in
      let size : length words ≡ count = omega (arith, length-drop (128 - count) places) in
      record {
        few = upto;
        size = size;
        named = record {
          row = row;
          chain = in_force row closed.chain;
          count = omega (arith, size, trail_length over (suc closed.steps) root);
          upto = omega (arith, size);
          named = λ i h.
              let j = closed.steps - i in
              let inside : j < count = omega (arith, size) in
              let whole : j + suc i ≡ suc closed.steps = omega (arith, size) in
              let place : 128 - count + i ≡ 127 - j = omega (arith, size) in
              rw (get_or-drop (128 - count) places i 0, place, trail_at over j i (suc closed.steps) root (floor_of k 0) whole) (named j inside);
          first =
              let place : 128 - count + 0 ≡ 127 - closed.steps = omega arith in
              rw (get_or-drop (128 - count) places 0 0, place) headed;
        };
      }

module _ {k : Kind} (laws : Lawful k) {n : ℕ} {rows : List Row} {star : Star} {time : ℕ → Exact k} {over : List ℕ}
    (stopped : Stopped k n rows star time over) where
  -- Where a spreading stopped and no bound is posted, the bounds noted for the root and the points behind it close a chain.
  module _ (none : star.posted ≡ None) where
    star_closed : ClosedChain k n (in_question k n star.limit rows []) star.root (Leads k []) stopped.risen (noted k rows over)
    star_closed = rw none at (closed laws stopped.posed stopped.spread stopped.closed)

    module _ (word q : ℕ) (step : StepBack k rows over star.root word q) where
      -- after the step back from the root the way leads to it,
      star_leads : WayBack k rows over star.root star_closed.steps q
      star_leads = rw step.left (star_way rows over stopped.posed.few (rw none at stopped.spread) star_closed.steps _ star_closed.leads)

      pub star_back : (steps : ℕ) × (1 + steps ≤ 128) × WayBack k rows over star.root steps q
      star_back = let short = star_closed.short in let few = stopped.posed.few in (star_closed.steps, omega arith, star_leads)

      -- and the words on it are those of the chain
      pub star_found : (before places : List ℕ) (count : ℕ) → length before ≡ 128 → WentBack k rows over star.root q 1 (set before 127 word) places count
          → ChainFound k n rows (posted_rows star.posted) places count
      star_found before places count long went =
          let begun = written_more k rows over word q (omega arith) step (written_none k rows over star.root before long) in
          let gone = went star.root star_closed.steps star_leads begun in
          let all : count ≡ star_closed.steps + 1 = omega (arith, gone.0) in
          let in_force = question_chain k n star.limit rows [] in
          rw none (chain_found star_closed stopped.posed.few gone.1.long all in_force (gone.1.named []) (inl refl))

  -- Where a bound is posted, the chain is closed by it.
  module _ (b : Row) (posted : star.posted ≡ Some b) where
    abbrev Over : ℕ → ExactBound k
    Over = over_of k rows (b ∷ []) over

    post_closed : ClosedChain k n (in_question k n star.limit rows (b ∷ [])) star.root (Leads k (b ∷ [])) stopped.risen Over
    post_closed = rw posted at (closed laws stopped.posed stopped.spread stopped.closed)

    -- the way back from the root leads to the right point of the posted bound,
    post_leads : WayBack k rows over b.right post_closed.steps star.root
    post_leads =
        let few = stopped.posed.few in
        let some = stopped.posed.some in
        let leaves = All-head (λ (r : Row). r.left ≡ star.root) b [] (rw posted at stopped.leaves) in
        let spread = rw posted at stopped.spread in
        let root = rw posted at stopped.closed in
        post_way rows b over few leaves spread post_closed.steps star.root (omega arith) root.right root.raises.begins post_closed.leads

    pub post_back : (end : ℕ) → end ≡ b.right → (steps : ℕ) × (0 + steps ≤ 128) × WayBack k rows over end steps star.root
    post_back end e = let short = post_closed.short in let few = stopped.posed.few in (post_closed.steps, omega arith, rw e post_leads)

    -- over which that bound is the last on the way
    last_posted : Over (back Over post_closed.steps star.root) ≡ exact_of k b
    last_posted =
        let s = post_closed.steps in
        let d = floor_of k 0 in
        let whole : s + suc 0 ≡ suc s = omega arith in
        sym (trail_at Over s 0 (suc s) star.root d whole) ∙ (ap (λ (row : Bounds k). get_or row 0 d) post_closed.row ∙ post_closed.begins)

    -- with the word of that bound in front, the words on it are those of the chain
    words_posted : (places : List ℕ) (count : ℕ) → count < 128 → count ≡ post_closed.steps → Written k rows over star.root places count b.right
        → ChainFound k n rows (posted_rows star.posted) (set places (127 - count) (3 * 2 ^ 30)) (count + 1)
    words_posted places count low size written =
        let after = set places (127 - count) (3 * 2 ^ 30) in
        let still : length after ≡ 128 = length-set places (127 - count) (3 * 2 ^ 30) ∙ written.long in
        let all : count + 1 ≡ post_closed.steps + 1 = omega (arith, size) in
        let in_force = question_chain k n star.limit rows (b ∷ []) in
        rw posted (chain_found post_closed stopped.posed.few still all in_force (λ j h. named j h (cases_eq j count)) (inr (rw (← size) here)))
      where
        here : get_or (set places (127 - count) (3 * 2 ^ 30)) (127 - count) 0 ≡ 3 * 2 ^ 30
        here = get_or-set_same places (127 - count) (3 * 2 ^ 30) 0 (omega (arith, written.long))

        named : (j : ℕ) → j < count + 1 → (j ≡ count) ⊎ (j ≡ count → ⊥)
            → IsWordOf k rows (b ∷ []) (get_or (set places (127 - count) (3 * 2 ^ 30)) (127 - j) 0) (Over (back Over j star.root))
        named j h (inl e) =
            let last : Over (back Over j star.root) ≡ exact_of k b = ap (λ i. Over (back Over i star.root)) (e ∙ size) ∙ last_posted in
            rw (ap (λ i. get_or (set places (127 - count) (3 * 2 ^ 30)) (127 - i) 0) e ∙ here, last) (posted_word k rows b)
        named j h (inr e) =
            let along = same_along k rows over Over b.right (posted_off k rows b over) post_closed.steps j star.root (omega (arith, size)) post_leads in
            rw (get_or-set_other places (127 - count) (127 - j) (3 * 2 ^ 30) 0 (λ s. e (omega arith)), along) (written.named (b ∷ []) j (omega arith))

    pub post_found : (end : ℕ) → end ≡ b.right → (before places : List ℕ) (count : ℕ) → length before ≡ 128
        → WentBack k rows over end star.root 0 before places count
        → (count < 128) × ChainFound k n rows (posted_rows star.posted) (set places (127 - count) (3 * 2 ^ 30)) (count + 1)
    post_found end e before places count long went =
        let gone = went star.root post_closed.steps (rw e post_leads) (written_none k rows over star.root before long) in
        let few = stopped.posed.few in
        let short = post_closed.short in
        let low : count < 128 = omega (arith, gone.0) in
        (low, words_posted places count low (omega (arith, gone.0)) (rw e at gone.1))
