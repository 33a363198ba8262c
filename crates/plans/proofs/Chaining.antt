-- The chain that the relaxation names, on the caller's list. Assumes nothing.
use Rattle.std.proofs.Common.{◌≡◌, ℕ, ◌*◌, ◌^◌, ◌+◌, ◌<◌, ◌≤◌, ◌⊎◌, List, [], ◌∷◌, ◌++◌, length, drop, get_or, refl, sym, ap, ◌∙◌, subst, inl, inr, arith, length-append, length-drop}
use Rattle.std.proofs.Math.Seq.{drop-append_seam}
use Rattle.std.proofs.lemmas.List.{get_or_append_left}
use Rattle.bounds.specs.declared.row.Row.{Row}
use Rattle.delays.specs.Kind.{Kind}
use Rattle.network.specs.Bounds.{floor_of}
use Rattle.relaxation.specs.Founds.{ChainNamed, ChainFound, last_words}
use Rattle.plans.specs.Conflicts.{Named, ChainWritten}

-- the first of the words stays the first
first_kept : (words old : List ℕ) → get_or words 0 0 ≡ 3 * 2 ^ 30 → get_or (words ++ old) 0 0 ≡ 3 * 2 ^ 30
first_kept [] old e = absurd (omega (arith, e))
first_kept (w ∷ ws) old e = e

module _ {k : Kind} {n : ℕ} {book posted : List Row} {words : List ℕ} (found : ChainNamed k n book posted words) where
  -- the words, copied to the start of a list, are those of a chain there
  pub chain_written : (c : ℕ) (before : List ℕ) → length words ≡ c → c ≤ length before → ChainWritten k n book posted before (words ++ drop c before) c
  chain_written c before size room = record {
    row = found.row;
    chain = found.chain;
    count = found.count ∙ size;
    upto = omega (arith, size, found.upto);
    words = λ i h.
        let low : i < length words = omega (arith, size) in
        let named = found.named i low in
        rw (get_or_append_left words (drop c before) 0 i low) (record { link = named.0; word = named.1; names = named.2 });
    first = first found.first;
    long = omega (arith, size, length-append words (drop c before), length-drop c before);
    others = subst (λ m. drop m (words ++ drop c before) ≡ drop c before) size (drop-append_seam words (drop c before));
  }
    where
      first : (posted ≡ []) ⊎ (get_or words 0 0 ≡ 3 * 2 ^ 30) → (posted ≡ []) ⊎ (get_or (words ++ drop c before) 0 0 ≡ 3 * 2 ^ 30)
      first (inl none) = inl none
      first (inr e) = inr (first_kept words (drop c before) e)

-- the words of a chain that was found, copied to the start of a list
pub found_copied : {k : Kind} {n : ℕ} {book posted : List Row} {places : List ℕ} {c : ℕ} → ChainFound k n book posted places c
    → (before shown copy : List ℕ) → shown ≡ last_words places c → copy ≡ shown → n ≤ length before
    → ChainWritten k n book posted before (copy ++ drop c before) c
found_copied {k = k} {n = n} {book = book} {posted = posted} {c = c} found before shown copy shows copies room =
    subst (λ w. ChainWritten k n book posted before (w ++ drop c before) c) (sym (copies ∙ shows))
    (chain_written found.named c before found.size (omega (arith, found.few)))
