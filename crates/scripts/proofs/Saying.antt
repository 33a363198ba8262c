-- What is read at a place of a script is the command of the line there. Assumes nothing.
use Rattle.std.proofs.Common.{◌≡◌, ℕ, ◌+◌, ◌<◌, ◌⊎◌, eqb, List, [], ◌∷◌, get_or, ℤ, Ok, Err, Result, refl, sym, ap, ◌∙◌, subst, inl, inr, arith}
use Rattle.std.specs.List.{onto_first}
use Rattle.std.proofs.lemmas.Bool.{cases_eq, eq-eqb, ne_eqb, cond-false}
use Rattle.std.proofs.lemmas.List.Splits.{slice_split-cons_yes, slice_split-cons_no}
use Rattle.lines.specs.declared.fault.LineFault.TheVariants.{Unreadable}
use Rattle.lines.specs.Fields.{fields}
use Rattle.lines.specs.Decimal.{number}
use Rattle.lines.specs.Reading.{readings}
use Rattle.lines.proofs.Cuts.{Solid, solid_more, fields_last, fields_cut}
use Rattle.scripts.specs.declared.command.Command.{Command}
use Rattle.scripts.specs.declared.fault.ScriptFault.{ScriptFault}
use Rattle.scripts.specs.declared.fault.ScriptFault.TheVariants.{Line}
use Rattle.scripts.specs.Commands.{Is, OpenCommand, Numbers, FieldsSay, CommandOf}
use Rattle.scripts.specs.Cursor.{line_from, line_end, readings_after, NumbersAt, NumbersAfter}
use Rattle.scripts.proofs.Lines.{some_part}
use Rattle.scripts.proofs.Cursors.{at_feed, at_byte, ends_on}
use Rattle.scripts.proofs.FieldReads.{longer}

abbrev Reading : Type 0
Reading = Result Command ScriptFault

-- a field that is no letter of a command
unlettered : (first : List ℕ) (rest : List (List ℕ)) (r : Reading) → ((c : ℕ) → ((c ≡ 84) ⊎ ((c ≡ 82) ⊎ ((c ≡ 80) ⊎ ((c ≡ 81) ⊎ (c ≡ 87))))) → Is first c → ⊥)
    → r ≡ Err (Line (Unreadable 0)) → FieldsSay (first ∷ rest) r
unlettered first rest r none is =
    inr (inr (inr (inr (inr (
      none 84 (inl refl),
      none 82 (inr (inl refl)),
      none 80 (inr (inr (inl refl))),
      none 81 (inr (inr (inr (inl refl)))),
      none 87 (inr (inr (inr (inr refl)))),
      is,
    )))))

-- numbers after a letter, in the words of its fields
module _ (letter count : ℕ) (makes : List ℤ → Reading → Type 0) (r : Reading) (solid : letter ≡ 32 → ⊥)
    (wrap : (rest : List (List ℕ)) → Numbers count makes rest r → FieldsSay ((letter ∷ []) ∷ rest) r) where
  alone : Solid (letter ∷ [])
  alone = solid_more letter [] solid (λ k l e. omega arith)

  says_line : (left : List ℕ) → NumbersAfter count makes left r → FieldsSay (fields (letter ∷ left)) r
  says_line [] h = subst (λ fs. FieldsSay fs r) (sym (fields_last (letter ∷ []) alone)) (wrap [] h)
  says_line (b ∷ bs) h = go (cases_eq b 32)
    where
      go : (b ≡ 32) ⊎ (b ≡ 32 → ⊥) → FieldsSay (fields (letter ∷ (b ∷ bs))) r
      go (inl space) =
          let cut : fields (letter ∷ (b ∷ bs)) ≡ (letter ∷ []) ∷ fields bs =
          ap (λ x. fields (letter ∷ (x ∷ bs))) space ∙ fields_cut (letter ∷ []) bs alone in
          subst (λ fs. FieldsSay fs r) (sym cut) (wrap (fields bs) (subst (λ x. NumbersAfter count makes (x ∷ bs) r) space h))
      go (inr other) =
          let (g, gs, is) = longer (letter ∷ []) b bs alone other in
          let bad : readings_after 0 count (b ∷ bs) ≡ Err 0 = cond-false (eqb b 32) (readings number 1 count (fields bs)) (Err 0) (ne_eqb b 32 other) in
          let fault : r ≡ Err (Line (Unreadable 0)) =
          elim h [
            | inl (ns, e, m) ↦ let no : ◌≡◌ {A = Result (List ℤ) ℕ} (Err 0) (Ok ns) = sym bad ∙ e in absurd (cc)
            | inr (q, e, told) ↦
                let same : ◌≡◌ {A = Result (List ℤ) ℕ} (Err 0) (Err q) = sym bad ∙ e in
                let here : 0 ≡ q = cc in
                told ∙ ap (λ p. Err (Line (Unreadable p))) (sym here)
          ] in
          subst (λ fs. FieldsSay fs r) (sym is)
          (unlettered (letter ∷ (b ∷ g)) gs r (λ c _ e. let no : letter ∷ (b ∷ g) ≡ c ∷ [] = e in absurd (cc)) fault)

-- the command of a letter and of the numbers after it
pub says : (s : List ℕ) (first letter count : ℕ) (makes : List ℤ → Reading → Type 0) (r : Reading)
    → (wrap : (rest : List (List ℕ)) → Numbers count makes rest r → FieldsSay ((letter ∷ []) ∷ rest) r)
    → get_or s first 10 ≡ letter → 32 < letter → NumbersAfter count makes (line_from s (first + 1)) r → CommandOf (line_from s first) r
says s first letter count makes r wrap is large h =
    let line : line_from s first ≡ letter ∷ line_from s (first + 1) =
    at_byte s first (λ feed. let no : letter ≡ 10 = sym is ∙ feed in omega (arith, no, large)) ∙ ap (λ b. b ∷ line_from s (first + 1)) is in
    subst (λ l. FieldsSay (fields l) r) (sym line) (says_line letter count makes r (λ e. omega (arith, e, large)) wrap (line_from s (first + 1)) h)

-- such a line ends where it does after the letter
pub says_ends : (s : List ℕ) (first letter : ℕ) → get_or s first 10 ≡ letter → 32 < letter → line_end s (first + 1) ≡ line_end s first
says_ends s first letter is large = ends_on s first (λ feed. let no : letter ≡ 10 = sym is ∙ feed in omega (arith, no, large))

-- a field of one byte begins its line
first_byte : (xs : List ℕ) (f : List ℕ) (fs : List (List ℕ)) (c : ℕ) → fields xs ≡ f ∷ fs → f ≡ c ∷ [] → (tail : List ℕ) × (xs ≡ c ∷ tail)
first_byte [] f fs c e is = let no : ◌≡◌ {A = List (List ℕ)} ([] ∷ []) ((c ∷ []) ∷ fs) = e ∙ ap (λ x. x ∷ fs) is in absurd (cc)
first_byte (x ∷ xs) f fs c e is = go (cases_eq x 32)
  where
    front : (parts : List (List ℕ)) → (parts ≡ [] → ⊥) → onto_first x parts ≡ (c ∷ []) ∷ fs → x ≡ c
    front [] some e = absurd (some refl)
    front (p ∷ ps) some e = cc

    go : (x ≡ 32) ⊎ (x ≡ 32 → ⊥) → (tail : List ℕ) × (x ∷ xs ≡ c ∷ tail)
    go (inl space) =
        let no : ◌≡◌ {A = List (List ℕ)} ([] ∷ fields xs) ((c ∷ []) ∷ fs) =
        sym (slice_split-cons_yes (λ c. eqb c 32) x xs (eq-eqb x 32 space)) ∙ (e ∙ ap (λ y. y ∷ fs) is) in absurd (cc)
    go (inr other) =
        let whole : onto_first x (fields xs) ≡ (c ∷ []) ∷ fs = sym (slice_split-cons_no (λ c. eqb c 32) x xs (ne_eqb x 32 other)) ∙ (e ∙ ap (λ y. y ∷ fs) is) in
        (xs, ap (λ y. y ∷ xs) (front (fields xs) (some_part (λ c. eqb c 32) xs) whole))

some_fields : (xs : List ℕ) → (f : List ℕ) × (fs : List (List ℕ)) × (fields xs ≡ f ∷ fs)
some_fields xs = go (fields xs) (some_part (λ c. eqb c 32) xs)
  where
    go : (parts : List (List ℕ)) → (parts ≡ [] → ⊥) → (f : List ℕ) × (fs : List (List ℕ)) × (parts ≡ f ∷ fs)
    go [] some = absurd (some refl)
    go (f ∷ fs) some = (f, fs, refl)

-- a line that begins with no letter of a command
pub says_none : (s : List ℕ) (first byte : ℕ) (r : Reading) → get_or s first 10 ≡ byte
    → ((byte ≡ 84) ⊎ ((byte ≡ 82) ⊎ ((byte ≡ 80) ⊎ ((byte ≡ 81) ⊎ (byte ≡ 87)))) → ⊥) → r ≡ Err (Line (Unreadable 0)) → CommandOf (line_from s first) r
says_none s first byte r here none is =
    let (f, fs, cut) = some_fields (line_from s first) in
    subst (λ fs. FieldsSay fs r) (sym cut) (unlettered f fs r (λ c letter e.
    let (tail, begins) = first_byte (line_from s first) f fs c cut e in none (go c letter (same c tail begins (cases_eq (get_or s first 10) 10)))) is)
  where
    same : (c : ℕ) (tail : List ℕ) → line_from s first ≡ c ∷ tail → (get_or s first 10 ≡ 10) ⊎ (get_or s first 10 ≡ 10 → ⊥) → c ≡ byte
    same c tail begins (inl feed) = let no : ◌≡◌ {A = List ℕ} [] (c ∷ tail) = sym (at_feed s first feed) ∙ begins in absurd (cc)
    same c tail begins (inr more) =
        let both : get_or s first 10 ∷ line_from s (first + 1) ≡ c ∷ tail = sym (at_byte s first more) ∙ begins in
        let same : get_or s first 10 ≡ c = cc in
        sym same ∙ here

    go : (c : ℕ) → ((c ≡ 84) ⊎ ((c ≡ 82) ⊎ ((c ≡ 80) ⊎ ((c ≡ 81) ⊎ (c ≡ 87))))) → c ≡ byte
        → (byte ≡ 84) ⊎ ((byte ≡ 82) ⊎ ((byte ≡ 80) ⊎ ((byte ≡ 81) ⊎ (byte ≡ 87))))
    go c letter e = subst (λ b. (b ≡ 84) ⊎ ((b ≡ 82) ⊎ ((b ≡ 80) ⊎ ((b ≡ 81) ⊎ (b ≡ 87))))) e letter

-- numbers that can't be read
pub after_refused : (count : ℕ) (makes : List ℤ → Reading → Type 0) (s : List ℕ) (at : ℕ) (e : ScriptFault) (r : Reading)
    → NumbersAt count s at (Err e) → r ≡ Err e → NumbersAfter count makes (line_from s at) r
after_refused count makes s at e r h is = inr (h.0, h.1, is ∙ ap Err h.2)

-- a command of one number
pub after_one : (make : ℤ → Command) (s : List ℕ) (at : ℕ) (n : ℤ) (end : ℕ) (r : Reading) → NumbersAt 1 s at (Ok (n ∷ [], end)) → r ≡ Ok (make n)
    → NumbersAfter 1 (OpenCommand make) (line_from s at) r
after_one make s at n end r h is = inl (n ∷ [], h.0, is)
