-- A line says one command, or one fault. Assumes nothing.
use Rattle.std.proofs.Common.{◌≡◌, ℕ, ◌≤◌, ◌⊎◌, List, [], ◌∷◌, ℤ, pos, negsuc, ◌≤ℤ◌, Ok, Err, Result, sym, ap, ◌∙◌, subst, inl, inr, arith}
use Rattle.std.proofs.Math.Bridge.{le_prop}
use Rattle.std.proofs.Math.Dec.{T_prop}
use Rattle.bounds.specs.declared.bound.Bound.{Bound}
use Rattle.bounds.specs.declared.row.Row.{Row}
use Rattle.bounds.specs.Making.{row_of}
use Rattle.bounds.specs.Range.{Part, Sound}
use Rattle.bounds.proofs.Makes.{made_once}
use Rattle.lines.specs.Fields.{fields}
use Rattle.lines.specs.declared.fault.LineFault.TheVariants.{Unreadable}
use Rattle.scripts.specs.declared.command.Command.{Command}
use Rattle.scripts.specs.declared.command.Command.TheVariants.{Ticks, Ranked, Post, Try, Read}
use Rattle.scripts.specs.declared.fault.ScriptFault.{ScriptFault}
use Rattle.scripts.specs.declared.fault.ScriptFault.TheVariants.{Line, Bound as BoundRefused}
use Rattle.scripts.specs.Commands.{Is, BoundCommand, OpenCommand, ReadCommand, Numbers, FieldsSay, CommandOf}

-- a bound is its row: that its numbers are in range is said in one way
le_z_once : {a b : ℤ} (p q : a ≤ℤ b) → p ≡ q
le_z_once p q = ap (λ t. record { le = t }) (T_prop _ p.le q.le)

part_at : {z : ℤ} → negsuc 499999999 ≤ℤ z → z ≤ℤ pos 500000000 → Part z
part_at low high = (low, high)

part_once : {z : ℤ} (p q : Part z) → p ≡ q
unfolding part_at
part_once p q = ap (λ low. part_at low p.1) (le_z_once p.0 q.0) ∙ ap (part_at q.0) (le_z_once p.1 q.1)

sound_at : {r : Row} → r.left ≤ 4095 → r.right ≤ 4095 → Part r.t → Part r.s → Sound r
sound_at left right t s = (left, right, t, s)

sound_once : {r : Row} (p q : Sound r) → p ≡ q
unfolding sound_at
sound_once {r} p q =
    ap (λ left. sound_at {r = r} left p.1 p.2 p.3) (le_prop p.0 q.0) ∙ ap (λ right. sound_at {r = r} q.0 right p.2 p.3) (le_prop p.1 q.1)
    ∙ ap (λ t. sound_at {r = r} q.0 q.1 t p.3) (part_once p.2 q.2) ∙ ap (sound_at {r = r} q.0 q.1 q.2) (part_once p.3 q.3)

bound_at : (r : Row) → Sound r → Bound
bound_at r s = record { row = r; sound = s }

bound_once : (b d : Bound) → row_of b ≡ row_of d → b ≡ d
unfolding bound_at
bound_once b d e = subst (λ r. (s : Sound r) → b ≡ bound_at r s) e (λ s. ap (bound_at b.row) (sound_once b.sound s)) d.sound

-- what is said once
abbrev Reading : Type 0
Reading = Result Command ScriptFault

abbrev Once : (Reading → Type 0) → Type 0
Once P = (q r : Reading) → P q → P r → q ≡ r

module _ (make : Bound → Command) where
  bound_command_once : (ns : List ℤ) → Once (BoundCommand make ns)
  bound_command_once [] q r h g = absurd h
  bound_command_once (left ∷ []) q r h g = absurd h
  bound_command_once (left ∷ (right ∷ [])) q r h g = absurd h
  bound_command_once (left ∷ (right ∷ (t ∷ []))) q r h g = absurd h
  bound_command_once (left ∷ (right ∷ (t ∷ (s ∷ [])))) (Ok c) (Ok d) h g =
      ap Ok (h.2 ∙ ap make (bound_once h.0 g.0 (made_once left right t s (Ok h.0) (Ok g.0) h.1 g.1)) ∙ sym g.2)
  bound_command_once (left ∷ (right ∷ (t ∷ (s ∷ [])))) (Ok c) (Err f) h g = absurd (made_once left right t s (Ok h.0) (Err g.0) h.1 g.1)
  bound_command_once (left ∷ (right ∷ (t ∷ (s ∷ [])))) (Err e) (Ok d) h g = absurd (made_once left right t s (Err h.0) (Ok g.0) h.1 g.1)
  bound_command_once (left ∷ (right ∷ (t ∷ (s ∷ [])))) (Err e) (Err f) h g =
      ap Err (h.2 ∙ ap BoundRefused (made_once left right t s (Err h.0) (Err g.0) h.1 g.1) ∙ sym g.2)
  bound_command_once (left ∷ (right ∷ (t ∷ (s ∷ (n ∷ ns))))) q r h g = absurd h

open_command_once : (make : ℤ → Command) (ns : List ℤ) → Once (OpenCommand make ns)
open_command_once make [] q r h g = absurd h
open_command_once make (n ∷ []) q r h g = h ∙ sym g
open_command_once make (n ∷ (m ∷ ns)) q r h g = absurd h

read_command_once : (ns : List ℤ) → Once (ReadCommand ns)
read_command_once [] q r h g = absurd h
read_command_once (n ∷ []) (Ok c) (Ok d) h g =
    let same : pos h.0 ≡ pos g.0 = sym h.2 ∙ g.2 in
    let point : h.0 ≡ g.0 = cc in
    ap Ok (h.3 ∙ ap Read point ∙ sym g.3)
read_command_once (n ∷ []) (Ok c) (Err f) h g = absurd (g.0 h.1)
read_command_once (n ∷ []) (Err e) (Ok d) h g = absurd (h.0 g.1)
read_command_once (n ∷ []) (Err e) (Err f) h g = ap Err (h.1 ∙ sym g.1)
read_command_once (n ∷ (m ∷ ns)) q r h g = absurd h

module _ (count : ℕ) (makes : List ℤ → Reading → Type 0) (once : (ns : List ℤ) → Once (makes ns)) (rest : List (List ℕ)) where
  numbers_once : Once (Numbers count makes rest)
  numbers_once q r (inl h) (inl g) =
      let both : ◌≡◌ {A = Result (List ℤ) ℕ} (Ok h.0) (Ok g.0) = sym h.1 ∙ g.1 in
      let same : h.0 ≡ g.0 = cc in
      once g.0 q r (subst (λ ns. makes ns q) same h.2) g.2
  numbers_once q r (inl h) (inr g) = let both : ◌≡◌ {A = Result (List ℤ) ℕ} (Ok h.0) (Err g.0) = sym h.1 ∙ g.1 in absurd (cc)
  numbers_once q r (inr h) (inl g) = let both : ◌≡◌ {A = Result (List ℤ) ℕ} (Err h.0) (Ok g.0) = sym h.1 ∙ g.1 in absurd (cc)
  numbers_once q r (inr h) (inr g) =
      let both : ◌≡◌ {A = Result (List ℤ) ℕ} (Err h.0) (Err g.0) = sym h.1 ∙ g.1 in
      let same : h.0 ≡ g.0 = cc in
      h.2 ∙ ap (λ place. Err (Line (Unreadable place))) same ∙ sym g.2

-- the first of two ways is for what `is` tells, which the second is not for
abbrev Avoids : Type 0 → (Reading → Type 0) → Type 0
Avoids is P = (r : Reading) → P r → is → ⊥

either_once : {is : Type 0} {P Q : Reading → Type 0} → Once P → Once Q → Avoids is Q → Once (λ r. (is × P r) ⊎ Q r)
either_once p q avoids x y (inl h) (inl g) = p x y h.1 g.1
either_once p q avoids x y (inl h) (inr g) = absurd (avoids y g h.0)
either_once p q avoids x y (inr h) (inl g) = absurd (avoids x h g.0)
either_once p q avoids x y (inr h) (inr g) = q x y h g

either_avoids : {is other : Type 0} (P : Reading → Type 0) {Q : Reading → Type 0} → (is → other → ⊥) → Avoids other Q → Avoids other (λ r. (is × P r) ⊎ Q r)
either_avoids P differ avoids x (inl h) o = differ h.0 o
either_avoids P differ avoids x (inr h) o = avoids x h o

module _ (first : List ℕ) (rest : List (List ℕ)) where
  apart : (a b : ℕ) → (a ≡ b → ⊥) → Is first a → Is first b → ⊥
  apart a b differ h g = differ (let same : a ∷ [] ≡ b ∷ [] = sym h ∙ g in cc)

  fields_once : Once (FieldsSay (first ∷ rest))
  fields_once =
      either_once (numbers_once 1 (OpenCommand Ticks) (open_command_once Ticks) rest)
      (either_once (numbers_once 1 (OpenCommand Ranked) (open_command_once Ranked) rest)
      (either_once (numbers_once 4 (BoundCommand Post) (bound_command_once Post) rest)
      (either_once (numbers_once 4 (BoundCommand Try) (bound_command_once Try) rest)
      (either_once (numbers_once 1 ReadCommand read_command_once rest)
      (λ x y h g. h.5 ∙ sym g.5)
      (λ x h. h.4))
      (either_avoids _ (apart 87 81 (λ e. omega (arith, e))) (λ x h. h.3)))
      (either_avoids _ (apart 81 80 (λ e. omega (arith, e))) (either_avoids _ (apart 87 80 (λ e. omega (arith, e))) (λ x h. h.2))))
      (either_avoids _ (apart 80 82 (λ e. omega (arith, e))) (either_avoids _ (apart 81 82 (λ e. omega (arith, e)))
      (either_avoids _ (apart 87 82 (λ e. omega (arith, e))) (λ x h. h.1)))))
      (either_avoids _ (apart 82 84 (λ e. omega (arith, e))) (either_avoids _ (apart 80 84 (λ e. omega (arith, e)))
      (either_avoids _ (apart 81 84 (λ e. omega (arith, e))) (either_avoids _ (apart 87 84 (λ e. omega (arith, e))) (λ x h. h.0)))))

-- whatever its fields are, they say one command or one fault
says_once : (fs : List (List ℕ)) → Once (FieldsSay fs)
says_once [] q r h g = absurd h
says_once (first ∷ rest) q r h g = fields_once first rest q r h g

pub command_once : (line : List ℕ) → Once (CommandOf line)
command_once line = says_once (fields line)
