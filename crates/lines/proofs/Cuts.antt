-- Where a line is cut into fields. Assumes nothing.
use Rattle.std.proofs.Common.{◌≡◌, ℕ, zero, suc, ◌+◌, ◌^◌, ◌<◌, ◌≤◌, ◌⊎◌, Bool, eqb, true, false, List, [], ◌∷◌, ◌++◌, length, get_or, Some, None, Option, Bor}
use Rattle.std.proofs.Common.{ap, subst, ◌∙◌, inl, inr, arith, cond, refl}
use Rattle.std.proofs.lemmas.Bool.{ne_eqb, cases_eq}
use Rattle.std.proofs.lemmas.Grind.{common_steps}
use Rattle.std.proofs.lemmas.List.{get_or_default}
use Rattle.std.proofs.lemmas.List.Splits.{slice_split_none, slice_split_at, length-slice_split}
use Rattle.std.proofs.lemmas.List.Sums.{count_by-le-length}
use Rattle.std.specs.Bool.{MatchBool}
use Rattle.std.specs.List.{All, IsFirstMatchOrLen}
use Rattle.std.specs.Option.{MatchOption}
use Rattle.lines.specs.Fields.{fields, left_in}

-- no byte is a space
abbrev pub Solid : List ℕ → Type 0
Solid bs = (k : ℕ) → k < length bs → get_or bs k 0 ≡ 32 → ⊥

-- a byte that is no space may stand in front
pub solid_more : (b : ℕ) (bs : List ℕ) → (b ≡ 32 → ⊥) → Solid bs → Solid (b ∷ bs)
solid_more b bs other h zero l e = other e
solid_more b bs other h (suc k) l e = h k (omega arith) e

-- the same in the words of `slice_split`
all_solid : (bs : List ℕ) → Solid bs → All (λ b. eqb b 32 ≡ false) bs
all_solid bs h k d l = ne_eqb _ 32 (λ e. h k l (get_or_default bs k 0 d l ∙ e))

-- bytes with no space are one field
pub fields_last : (bs : List ℕ) → Solid bs → fields bs ≡ bs ∷ []
fields_last bs h = slice_split_none _ bs (all_solid bs h)

-- bytes up to a space are the first field
pub fields_cut : (bs rest : List ℕ) → Solid bs → fields (bs ++ (32 ∷ rest)) ≡ bs ∷ fields rest
fields_cut bs rest h = slice_split_at _ bs 32 rest (all_solid bs h) refl

-- a line has no space, or it is cut at the first
pub cut : (bs : List ℕ) → Solid bs ⊎ ((f : List ℕ) × (rest : List ℕ) × Solid f × (bs ≡ f ++ (32 ∷ rest)))
cut [] = inl (λ k l e. omega arith)
cut (b ∷ bs) =
    elim (cases_eq b 32) [
      | inl space ↦ inr ([], bs, λ k l e. omega arith, ap (λ x. x ∷ bs) space)
      | inr other ↦
          elim (cut bs) [
            | inl solid ↦ inl (solid_more b bs other solid)
            | inr (f, rest, solid, e) ↦ inr (b ∷ f, rest, solid_more b f other solid, ap (λ x. b ∷ x) e)
          ]
    ]

-- the part that ends at the first space, or where the line is done, is the first field
first_part : (line x rest : List ℕ) (done : Bool) → MatchBool done (line ≡ x) ((y : ℕ) × (line ≡ x ++ (y ∷ rest)))
    → IsFirstMatchOrLen (λ b. eqb b 32) line (length x) → fields line ≡ x ∷ cond done [] (fields rest)
first_part line x rest true e h = ap fields e ∙ slice_split_none _ x (λ k d l. subst (λ s. eqb (get_or s k d) 32 ≡ false) e (h.0 k d (omega arith) l))
first_part line x rest false e h =
    let front : All (λ b. eqb b 32 ≡ false) x = λ k d l. let a = h.0 k d (omega arith) l in let b = e.1 in grind (arith, common_steps) in
    let hit : eqb e.0 32 ≡ true = let b = e.1 in let a = h.1 (grind (arith, common_steps)) e.0 in grind (arith, common_steps) in
    ap fields e.1 ∙ slice_split_at _ x e.0 rest front hit

-- What the first of two parts tells, and the second: the first field, and what is left after it.
pub two_parts : (line rest : List ℕ) (done : Bool) (a b : Option (Bor (List ℕ)))
    → MatchOption a ⊥ (λ x. MatchBool done (line ≡ x.now) ((y : ℕ) × (line ≡ x.now ++ (y ∷ rest))) × IsFirstMatchOrLen (λ b. eqb b 32) line (length x.now))
    → MatchOption b (done ≡ true) (λ y. (done ≡ false) × (rest ≡ y.now))
    → MatchOption a ((fields line ≡ []) × (left_in b ≡ [])) (λ x. fields line ≡ x.now ∷ left_in b)
two_parts line rest done None b h k = absurd h
two_parts line rest done (Some x) None h k = first_part line x.now rest done h.0 h.1 ∙ ap (λ d. x.now ∷ cond d [] (fields rest)) k
two_parts line rest done (Some x) (Some y) h k =
    first_part line x.now rest done h.0 h.1 ∙ (ap (λ d. x.now ∷ cond d [] (fields rest)) k.0 ∙ ap (λ s. x.now ∷ fields s) k.1)

-- what is known of an answer, said otherwise
pub said : {A : Type 0} {B C : Type 0} {P Q : A → Type 0} (o : Option A) → (B → C) → ((x : A) → P x → Q x) → MatchOption o B P → MatchOption o C Q
said None f g h = f h
said (Some x) f g h = g x h

-- a line has at most one field more than bytes
fields_few : (bs : List ℕ) → length (fields bs) ≤ length bs + 1
fields_few bs = omega (arith, length-slice_split (λ c. eqb c 32) bs, count_by-le-length (λ c. eqb c 32) bs)

-- and so has what is left of one, which is shorter than 2 ^ 63 bytes
pub left_few : (o : Option (Bor (List ℕ))) → ((line : Bor (List ℕ)) → o ≡ Some line → length line.now < 2 ^ 63) → length (left_in o) ≤ 2 ^ 63
left_few None h = omega arith
left_few (Some r) h = omega (arith, fields_few r.now, h r refl)
