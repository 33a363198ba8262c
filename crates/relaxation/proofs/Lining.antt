-- The line of waiting points: what a point put behind the last one, and the first one taken off, leave of it. Assumes nothing.
use Rattle.std.proofs.Common.{◌≡◌, ◌≢◌, ℕ, zero, suc, ◌+◌, ◌-◌, ◌%◌, ◌<◌, ◌≤◌, Bool, true, false, List, [], ◌∷◌, ◌++◌, length, get_or, set, replicate}
use Rattle.std.proofs.Common.{refl, sym, ap, ◌∙◌, subst, inl, inr, arith, get_or-set_other}
use Rattle.std.specs.Prelude.{IsTrue, ◌↔◌}
use Rattle.std.specs.List.{Contains}
use Rattle.std.proofs.lemmas.Bool.{cases_eq, false≢true}
use Rattle.std.proofs.lemmas.Grind.{common_steps, get_or-set_at}
use Rattle.std.proofs.lemmas.List.{same_lists, length_push, get_or-replicate}
use Rattle.std.proofs.lemmas.List.Elements.{All-nil, All-push, All-head, All-tail}
use Rattle.std.proofs.lemmas.List.Elements.{Contains-append_left, Contains-append_right, Contains-get_or, Contains-push, Contains-push_cases}
use Rattle.std.proofs.lemmas.List.FromFn.{length-map-range_with_len, get_or-map-range_with_len}
use Rattle.std.proofs.lemmas.List.Quantifiers.{all_pairs_push}
use Rattle.std.proofs.lemmas.Map.Made.{Contains-tail}
use Rattle.network.specs.Walks.{Apart}
use Rattle.network.proofs.Counting.{apart_nil, apart_head, apart_tail, apart_length}
use Rattle.relaxation.specs.Line.{places_from, Waiting, Kept, Queue, Joined}

-- the line that stands in a ring from the place `head` on, before `tail`
abbrev pub line_of : List ℕ → (head tail : ℕ) → List ℕ
line_of ring head tail = places_from ring (head % 128) (tail - head)

module _ (ring : List ℕ) (head tail : ℕ) where
  pub length-line_of : length (line_of ring head tail) ≡ tail - head
  unfolding places_from
  length-line_of = length-map-range_with_len (λ i. get_or ring ((head % 128 + i) % 128) 0) 0 (tail - head)

  get_or-line_of : (i d : ℕ) → i < tail - head → get_or (line_of ring head tail) i d ≡ get_or ring ((head + i) % 128) 0
  unfolding places_from
  get_or-line_of i d h =
      let same : (head % 128 + i) % 128 ≡ (head + i) % 128 = omega arith in
      get_or-map-range_with_len (λ i. get_or ring ((head % 128 + i) % 128) 0) 0 (tail - head) i i d h (omega arith) ∙ ap (λ j. get_or ring j 0) same

  pub line_none : tail ≤ head → line_of ring head tail ≡ []
  line_none e = same_lists _ _ (omega (arith, length-line_of)) (λ i d h. absurd (omega (arith, length-line_of)))

module _ (ring : List ℕ) (head tail : ℕ) where
  -- the place behind the last one is none of theirs, as long as there are fewer than 128
  line_push : (point : ℕ) → length ring ≡ 128 → head ≤ tail → tail - head < 128
      → line_of (set ring (tail % 128) point) head (tail + 1) ≡ line_of ring head tail ++ point ∷ []
  line_push point whole low room =
      let after = set ring (tail % 128) point in
      let old = length-line_of ring head tail in
      let new = length-line_of after head (tail + 1) in
      same_lists _ _ (omega (arith, length_push (line_of ring head tail) point)) (λ i d h. grind (
        arith,
        common_steps,
        get_or-line_of ring head tail i d,
        get_or-line_of after head (tail + 1) i d,
      ))

  get_or-line_pop : head < tail → (i d : ℕ) → i < tail - head
      → get_or (line_of ring head tail) i d ≡ get_or (get_or ring (head % 128) 0 ∷ line_of ring (head + 1) tail) i d
  get_or-line_pop some zero d h = get_or-line_of ring head tail 0 d (omega arith) ∙ ap (λ j. get_or ring (j % 128) 0) (omega arith)
  get_or-line_pop some (suc i) d h =
      get_or-line_of ring head tail (suc i) d h
      ∙ (ap (λ j. get_or ring (j % 128) 0) (omega arith) ∙ sym (get_or-line_of ring (head + 1) tail i d (omega arith)))

  -- after the first place, those from the next one on are left
  line_pop : head < tail → line_of ring head tail ≡ get_or ring (head % 128) 0 ∷ line_of ring (head + 1) tail
  line_pop some =
      let old = length-line_of ring head tail in
      let new = length-line_of ring (head + 1) tail in
      same_lists _ _ (omega arith) (λ i d h. get_or-line_pop some i d (omega arith))

-- for each point below 128 it is told whether it waits in the line
abbrev Told : List Bool → List ℕ → Type 0
Told waits line = (point : ℕ) → point < 128 → IsTrue (get_or waits point false) ↔ Contains line point

-- a ring keeps the line that stands in it
kept : (ring : List ℕ) (waits : List Bool) (head tail : ℕ) (line : List ℕ) → line_of ring head tail ≡ line → Waiting line → Told waits line
    → Kept ring waits (head % 128) (tail - head)
kept ring waits head tail line e w told = record {
  few = omega (arith, ap length e, length-line_of ring head tail, apart_length 128 line w.apart w.inside);
  waiting = subst Waiting (sym e) w;
  told = λ point h. rw e (told point h);
}

waiting_none : Waiting []
waiting_none = record { inside = All-nil _; apart = apart_nil }

pub kept_none : (ring : List ℕ) → Kept ring (replicate 128 false) (0 % 128) (0 - 0)
kept_none ring =
    kept _ _ 0 0 [] (line_none ring 0 0 (omega arith)) waiting_none
    (λ point h. (λ t. absurd (false≢true (sym (get_or-replicate 128 point false false h) ∙ t)), λ c. absurd (omega (arith, c.1))))

module _ (line : List ℕ) (point : ℕ) where
  waiting_push : Waiting line → point < 128 → (Contains line point → ⊥) → Waiting (line ++ point ∷ [])
  unfolding Apart
  waiting_push w h new = record {
    inside = All-push (λ p. p < 128) line point w.inside h;
    apart = all_pairs_push ◌≢◌ line point w.apart (λ i d low e. new (subst (Contains line) e (Contains-get_or line i d low)));
  }

  waiting_pop : Waiting (point ∷ line) → Waiting line
  waiting_pop w = record { inside = All-tail (λ p. p < 128) point line w.inside; apart = apart_tail point line w.apart }

  gone : Waiting (point ∷ line) → Contains line point → ⊥
  gone w c = apart_head point line w.apart c.0 point c.1 (sym c.2)

  module _ (waits : List Bool) (whole : length waits ≡ 128) (h : point < 128) where
    told_push : Told waits line → Told (set waits point true) (line ++ point ∷ [])
    told_push told q u = elim (cases_eq q point) [
      | inl e ↦ (
        λ t. subst (Contains (line ++ point ∷ [])) (sym e) (Contains-push line point),
        λ c. get_or-set_at waits point q true false e (omega arith),
      )
      | inr ne ↦
          let same = get_or-set_other waits point q true false ne in (
            λ t. Contains-append_left line (point ∷ []) q ((told q u).0 (sym same ∙ t)),
            λ c. same ∙ (told q u).1 (elim (Contains-push_cases line point q c) [ inl old ↦ old | inr e ↦ absurd (ne (sym e)) ]),
          )
    ]

    told_pop : Waiting (point ∷ line) → Told waits (point ∷ line) → Told (set waits point false) line
    told_pop w told q u = elim (cases_eq q point) [
      | inl e ↦ (
        λ t. absurd (false≢true (sym (get_or-set_at waits point q false false e (omega arith)) ∙ t)),
        λ c. absurd (gone w (subst (Contains line) e c)),
      )
      | inr ne ↦
          let same = get_or-set_other waits point q false false ne in (
            λ t. Contains-tail point line q (λ e. ne (sym e)) ((told q u).0 (sym same ∙ t)),
            λ c. same ∙ (told q u).1 (Contains-append_right (point ∷ []) line q c),
          )
    ]

-- a line of which nobody was taken off
abbrev pub untaken : List ℕ → Queue
untaken line = record { waiting = line; taken = 0 }

pub untaken_none : (ring : List ℕ) → untaken (line_of ring 0 0) ≡ untaken []
untaken_none ring = ap untaken (line_none ring 0 0 (omega arith))

-- The calls, by the fields of a line.
module _ (ring : List ℕ) (waits : List Bool) (head tail : ℕ) (k : Kept ring waits (head % 128) (tail - head)) where
  -- a line in which no point waits may begin anew
  pub clear_kept : tail ≤ head → Kept ring waits (0 % 128) (0 - 0)
  clear_kept none =
      kept ring waits 0 0 [] (line_none ring 0 0 (omega arith)) waiting_none (subst (Told waits) (line_none ring head tail none) k.told)

  module _ (marked : length waits ≡ 128) where
    module _ (whole : length ring ≡ 128) (low : head ≤ tail) (point : ℕ) (h : point < 128) (off : get_or waits point false ≡ false) where
      push_new : Contains (line_of ring head tail) point → ⊥
      push_new c = false≢true (sym off ∙ (k.told point h).1 c)

      push_waiting : Waiting (line_of ring head tail ++ point ∷ [])
      push_waiting = waiting_push (line_of ring head tail) point k.waiting h push_new

      -- with the point, there are at most 128: so there was room
      push_line : line_of (set ring (tail % 128) point) head (tail + 1) ≡ line_of ring head tail ++ point ∷ []
      push_line =
          let line = line_of ring head tail in
          let few = apart_length 128 (line ++ point ∷ []) push_waiting.apart push_waiting.inside in
          line_push ring head tail point whole low (omega (arith, few, length_push line point, length-line_of ring head tail))

      pub push_joined : Joined (line_of ring head tail) point (line_of (set ring (tail % 128) point) head (tail + 1))
      push_joined = inr (push_new, push_line)

      pub push_kept : Kept (set ring (tail % 128) point) (set waits point true) (head % 128) (tail + 1 - head)
      push_kept = kept _ _ _ _ _ push_line push_waiting (told_push (line_of ring head tail) point waits marked h k.told)

    module _ (point : ℕ) (e : point ≡ get_or ring (head % 128) 0) (some : head < tail) where
      abbrev pub rest : List ℕ
      rest = line_of ring (head + 1) tail

      pub pop_line : line_of ring head tail ≡ point ∷ rest
      pop_line = line_pop ring head tail some ∙ ap (λ x. x ∷ rest) (sym e)

      pop_waiting : Waiting (point ∷ rest)
      pop_waiting = subst Waiting pop_line k.waiting

      pub pop_inside : point < 128
      pop_inside = All-head (λ p. p < 128) point rest pop_waiting.inside

      pub pop_gone : Contains rest point → ⊥
      pop_gone = gone rest point pop_waiting

      pub pop_kept : Kept ring (set waits point false) ((head + 1) % 128) (tail - (head + 1))
      pop_kept =
          let told = told_pop rest point waits marked pop_inside pop_waiting (subst (Told waits) pop_line k.told) in
          kept ring _ (head + 1) tail rest refl (waiting_pop rest point pop_waiting) told
