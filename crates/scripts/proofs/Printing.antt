-- What is printed of a text is known from its first bytes, where they are more than a script may have. Assumes nothing.
use Rattle.std.proofs.Common.{◌≡◌, ℕ, ◌*◌, ◌<◌, ◌≤◌, ◌⊎◌, List, length, take, drop, ap, sym, ◌∙◌, subst, inl, inr, Ok, Err, arith}
use Rattle.std.proofs.lemmas.List.{length-take-le, take_all, take_at}
use Rattle.std.proofs.lemmas.Bool.{cases_lt}
use Rattle.scripts.specs.declared.fault.ScriptFault.{ScriptFault}
use Rattle.scripts.specs.Lines.{script_lines}
use Rattle.scripts.specs.Listings.{ListingOf, Listed}
use Rattle.scripts.specs.Prints.{Printed, refusal_line}

module _ (n : ℕ) (text input : List ℕ) (read : take n input ≡ take n text) (enough : 32768 < n) where
  -- a text with fewer bytes than are read is read whole
  whole : length text < n → input ≡ text
  whole few = go (cases_lt (length input) n)
    where
      known : take n input ≡ text
      known = read ∙ take_all n text (omega (arith, few))

      go : (length input < n) ⊎ (n ≤ length input) → input ≡ text
      go (inl short) = sym (take_all n input (omega (arith, short))) ∙ known
      go (inr many) = let same = ap length known in let all = length-take-le n input many in absurd (omega (arith, few, same, all))

  -- of a longer one so many are read, or more
  longer : n ≤ length text → n ≤ length input
  longer many = go (cases_lt (length input) n)
    where
      known : length (take n input) ≡ n
      known = ap length read ∙ length-take-le n text many

      go : (length input < n) ⊎ (n ≤ length input) → n ≤ length input
      go (inl short) = let same = ap length (take_all n input (omega (arith, short))) in omega (arith, known, same)
      go (inr much) = much

  -- the listing
  pub prints_listing : (before after : List ℕ) (m : ℕ) → length before ≡ 65536 → Listed input before after (Ok m) → Printed text (take m after)
  prints_listing before after m room h = inl (go (cases_lt (length text) n))
    where
      shown : take m after ≡ h.2.0
      shown = ap (take m) h.2.3 ∙ take_at h.2.0 (drop m before) m (sym h.2.2)

      go : (length text < n) ⊎ (n ≤ length text) → (length text ≤ 32768) × (length (script_lines text) ≤ 1024) × ListingOf text (take m after)
      go (inl few) =
          let same : input ≡ text = whole few in (
            subst (λ (t : List ℕ). length t ≤ 32768) same h.0,
            subst (λ (t : List ℕ). length (script_lines t) ≤ 1024) same (omega (arith, h.1, room)),
            subst (λ (t : List ℕ). ListingOf t (take m after)) same (subst (ListingOf input) (sym shown) h.2.1),
          )
      go (inr many) = absurd (omega (arith, enough, h.0, longer many))

  -- or the refusal
  pub prints_refusal : (before after out : List ℕ) (e : ScriptFault) → length before ≡ 65536 → Listed input before after (Err e) → out ≡ refusal_line
      → Printed text out
  prints_refusal before after out e room h is = inr (go (cases_lt (length text) n) h.1, is)
    where
      go : (length text < n) ⊎ (n ≤ length text) → (32768 < length input) ⊎ (length before < 64 * length (script_lines input))
          → (32768 < length text) ⊎ (1024 < length (script_lines text))
      go (inl few) (inl long) = inl (subst (λ (t : List ℕ). 32768 < length t) (whole few) long)
      go (inl few) (inr lines) =
          inr (subst (λ (t : List ℕ). 1024 < length (script_lines t)) (whole few) (omega (arith, lines, room)))
      go (inr many) h = inl (omega (arith, enough, many))
