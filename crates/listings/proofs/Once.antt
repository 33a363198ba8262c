-- An input has one printing: each line tells one text and one count, and the line feeds cut the input in one way. Assumes nothing.
use Rattle.std.proofs.Common.{◌≡◌, ℕ, ◌⊎◌, List, [], ◌∷◌, ◌++◌, Ok, Err, Result, sym, refl, ap, ◌∙◌, subst, inl, inr, append_assoc, arith}
use Rattle.std.proofs.lemmas.List.Elements.{All-head, All-tail}
use Rattle.std.specs.List.{All}
use Rattle.bounds.specs.declared.bound.Bound.{Bound as BoundT}
use Rattle.bounds.specs.Making.{row_of}
use Rattle.bounds.proofs.Makes.{SameBound, made_once}
use Rattle.lines.specs.declared.fault.LineFault.{LineFault}
use Rattle.lines.specs.declared.fault.LineFault.TheVariants.{Unreadable}
use Rattle.lines.specs.Decimal.{number}
use Rattle.lines.specs.Hex.{word}
use Rattle.lines.specs.Reading.{readings, listed}
use Rattle.lines.specs.Fields.{fields}
use Rattle.lines.specs.Listing.{FourNumbers, ThreeWords}
use Rattle.words.specs.Words.{row_words}
use Rattle.words.specs.Reading.{BoundRead}
use Rattle.words.proofs.Readings.{bound_read_once}
use Rattle.listings.specs.declared.entry.Entry.{Entry}
use Rattle.listings.specs.declared.entry.Entry.TheVariants as entries
use Rattle.listings.specs.declared.fault.ListingFault.{ListingFault}
use Rattle.listings.specs.declared.fault.ListingFault.TheVariants.{Line, Bound, Word}
use Rattle.listings.specs.declared.task.Tally.{Tally}
use Rattle.listings.specs.declared.task.Task.{Task}
use Rattle.listings.specs.declared.task.Task.TheVariants.{Write, Read, RoundTrip}
use Rattle.listings.specs.Faults.{of_bound, of_word}
use Rattle.listings.specs.Counts.{counted, none_yet}
use Rattle.listings.specs.Lines.{at, FourMake, BoundLine, WordsLine, LineOf, EntryOf}
use Rattle.listings.specs.Printing.{text_of_bound, text_of_refusal, text_of_entry}
use Rattle.listings.specs.Sessions.{Plain, OneLine, ended, Tells, Answered, Session, Closes, OnePrinting}

-- a fault of the layer below goes up, and a bound stays
abbrev raised : {F : Type 0} → (F → ListingFault) → Result BoundT F → Result BoundT ListingFault
raised up (Ok b) = Ok b
raised up (Err e) = Err (up e)

-- answers that tell the same tell the same further up
raised_same : {F : Type 0} (up : F → ListingFault) (a b : Result BoundT F) → SameBound a b → SameBound (raised up a) (raised up b)
raised_same up (Ok b) (Ok d) e = e
raised_same up (Ok b) (Err f) never = never
raised_same up (Err e) (Ok d) never = never
raised_same up (Err e) (Err f) same = ap up same

-- an answer by way of the fields: one of them is unreadable, or they have a value, and that is answered
abbrev Through : {V F : Type 0} → (Result V LineFault → Type 0) → (V → Result BoundT F → Type 0) → (F → ListingFault) → Result BoundT ListingFault → Type 0
Through {V} {F} Reads Answers up q =
    ((e : LineFault) × Reads (Err e) × (q ≡ Err (Line e))) ⊎ ((v : V) × (a : Result BoundT F) × Reads (Ok v) × Answers v a × (q ≡ raised up a))

-- Where the fields read in one way and a value has one answer, the line has one too.
-- Lines of numbers and lines of words are both answered so, and this is said of both at once.
module _ {V F : Type 0} (Reads : Result V LineFault → Type 0) (Answers : V → Result BoundT F → Type 0) (up : F → ListingFault)
    (reads_once : (n m : Result V LineFault) → Reads n → Reads m → n ≡ m)
    (answers_once : (v : V) (a b : Result BoundT F) → Answers v a → Answers v b → SameBound a b) where
  -- the fields are not both read and refused
  either_way : (e : LineFault) (v : V) → Reads (Err e) → Reads (Ok v) → ⊥
  either_way e v p q = let same = reads_once (Err e) (Ok v) p q in let z : ◌≡◌ {A = ℕ} 0 1 = cc in omega arith

  -- the line has one answer
  through_once : (q r : Result BoundT ListingFault) → Through Reads Answers up q → Through Reads Answers up r → SameBound q r
  through_once q r (inl (d, p, i)) (inl (e, o, j)) =
      let same = reads_once (Err d) (Err e) p o in
      let fault : d ≡ e = cc in
      rw (i, j) (ap (λ x. Line x) fault)
  through_once q r (inl (d, p, i)) (inr (v, a, o, m, j)) = absurd (either_way d v p o)
  through_once q r (inr (v, a, o, m, i)) (inl (e, p, j)) = absurd (either_way e v p o)
  through_once q r (inr (v, a, p, m, i)) (inr (w, b, o, n, j)) =
      let same = reads_once (Ok v) (Ok w) p o in
      let value : w ≡ v = cc in
      rw (i, j) (raised_same up a b (answers_once v a b m (subst (λ x. Answers x b) value n)))

-- fields are read in one way
listed_once : {X : Type 0} (r : Result (List X) ℕ) (n m : Result (List X) LineFault) → r ≡ listed n → r ≡ listed m → n ≡ m
listed_once r (Ok x) (Ok y) p q = cc
listed_once r (Ok x) (Err e) p q = cc
listed_once r (Err d) (Ok y) p q = cc
listed_once r (Err (Unreadable j)) (Err (Unreadable k)) p q = cc

-- what one line holds
module _ (line : List ℕ) where
  -- a line of numbers is answered by way of its fields
  bound_through : (q : Result BoundT ListingFault) → BoundLine line q → Through (FourNumbers (fields line)) FourMake of_bound q
  bound_through (Ok b) (f, reads, made) = inr (f, Ok b, reads, made, refl)
  bound_through (Err (Line e)) reads = inl (e, reads, refl)
  bound_through (Err (Bound e)) (f, reads, out) = inr (f, Err e, reads, out, refl)
  bound_through (Err (Word e)) never = absurd never

  -- and so is a line of words
  words_through : (q : Result BoundT ListingFault) → WordsLine line q → Through (ThreeWords (fields line)) BoundRead of_word q
  words_through (Ok b) reads = inr (row_words (row_of b), Ok b, reads, refl, refl)
  words_through (Err (Line e)) reads = inl (e, reads, refl)
  words_through (Err (Bound e)) never = absurd never
  words_through (Err (Word e)) (ws, reads, broken) = inr (ws, Err e, reads, broken, refl)

  -- a line of numbers has one answer
  bound_line_once : (q r : Result BoundT ListingFault) → BoundLine line q → BoundLine line r → SameBound q r
  bound_line_once q r h g =
      through_once (FourNumbers (fields line)) FourMake of_bound (listed_once (readings number 1 4 (fields line)))
      (λ ns. made_once (at ns 0) (at ns 1) (at ns 2) (at ns 3)) q r (bound_through q h) (bound_through r g)

  -- a line of words has one answer
  words_line_once : (q r : Result BoundT ListingFault) → WordsLine line q → WordsLine line r → SameBound q r
  words_line_once q r h g =
      through_once (ThreeWords (fields line)) BoundRead of_word (listed_once (readings word 1 3 (fields line)))
      bound_read_once q r (words_through q h) (words_through r g)

  -- a line holds one bound for a task, or is refused for one fault
  line_once : (task : Task) (q r : Result BoundT ListingFault) → LineOf task line q → LineOf task line r → SameBound q r
  line_once Write q r h g = bound_line_once q r h g
  line_once Read q r h g = words_line_once q r h g
  line_once RoundTrip q r h g = bound_line_once q r h g

  -- What a line holds is printed as one text and counted in one way: a bound's text is that of its four numbers, and
  -- its count does not depend on it.
  entry_once : (task : Task) (n : ℕ) (c : Tally) (e f : Entry) → EntryOf task line e → EntryOf task line f
      → (text_of_entry task n e ≡ text_of_entry task n f) × (counted e c ≡ counted f c)
  entry_once task n c entries.Note entries.Note h g = (refl, refl)
  entry_once task n c entries.Note (entries.Bound b) h g = absurd (g.0 h)
  entry_once task n c entries.Note (entries.Refused e) h g = absurd (g.0 h)
  entry_once task n c (entries.Bound b) entries.Note h g = absurd (h.0 g)
  entry_once task n c (entries.Bound b) (entries.Bound d) h g = (ap (λ r. text_of_bound task r) (line_once task (Ok b) (Ok d) h.1 g.1), refl)
  entry_once task n c (entries.Bound b) (entries.Refused e) h g = absurd (line_once task (Ok b) (Err e) h.1 g.1)
  entry_once task n c (entries.Refused e) entries.Note h g = absurd (h.0 g)
  entry_once task n c (entries.Refused e) (entries.Bound b) h g = absurd (line_once task (Err e) (Ok b) h.1 g.1)
  entry_once task n c (entries.Refused e) (entries.Refused f) h g = (ap (λ x. text_of_refusal n x) (line_once task (Err e) (Err f) h.1 g.1), refl)

  -- a line is answered by one text, and then the counts stand in one way
  tells_once : (task : Task) (c d e : Tally) (x y : List ℕ) → Tells task c line x d → Tells task c line y e → (x ≡ y) × (d ≡ e)
  tells_once task c d e x y h g =
      let one = entry_once task d.lines c h.entry g.entry h.holds g.holds in
      let counts : d ≡ e = cc in
      (cc, counts)

-- lines one after another are answered by one text
answered_once : (task : Task) (lines : List (List ℕ)) (c d e : Tally) (x y : List ℕ) → Answered task c lines x d → Answered task c lines y e → (x ≡ y) × (d ≡ e)
answered_once task [] c d e x y (none, same) (none', same') = (cc, cc)
answered_once task (line ∷ lines) c d e x y (first, more, between, cut, tells, rest) (first', more', between', cut', tells', rest') =
    let one = tells_once line task c between between' first first' tells tells' in
    let others = answered_once task lines between d e more more' rest (subst (λ t. Answered task t lines more' e) (sym one.1) rest') in
    (cc, others.1)

-- the first line feed ends the line
first_cut : (a b u v : List ℕ) → OneLine a → OneLine b → a ++ (10 ∷ u) ≡ b ++ (10 ∷ v) → (a ≡ b) × (u ≡ v)
first_cut [] [] u v p q e = (refl, cc)
first_cut [] (y ∷ b) u v p q e = absurd (All-head Plain y b q (cc))
first_cut (x ∷ a) [] u v p q e = absurd (All-head Plain x a p (cc))
first_cut (x ∷ a) (y ∷ b) u v p q e =
    let rest : a ++ (10 ∷ u) ≡ b ++ (10 ∷ v) = cc in
    let more = first_cut a b u v (All-tail Plain x a p) (All-tail Plain y b q) rest in
    (cc, more.1)

-- a part of a line has no line feed
no_feed : (a u x : List ℕ) → OneLine x → a ++ (10 ∷ u) ≡ x → ⊥
no_feed [] u [] p e = let z : ◌≡◌ {A = ℕ} 0 1 = cc in omega arith
no_feed [] u (y ∷ x) p e = All-head Plain y x p (cc)
no_feed (b ∷ a) u [] p e = let z : ◌≡◌ {A = ℕ} 0 1 = cc in omega arith
no_feed (b ∷ a) u (y ∷ x) p e = no_feed a u x (All-tail Plain y x p) (cc)

-- lines are the first line, its line feed, and the others
opens : (line : List ℕ) (lines : List (List ℕ)) (x : List ℕ) → ended (line ∷ lines) ++ x ≡ line ++ (10 ∷ (ended lines ++ x))
opens line lines x = append_assoc (line ++ (10 ∷ [])) (ended lines) x ∙ append_assoc line (10 ∷ []) (ended lines ++ x)

-- The line feeds cut bytes into lines and a part of one in one way: the first line ends at the first line feed, and so
-- do the others in what comes after it.
ended_once : (ls ms : List (List ℕ)) (x y : List ℕ) → All OneLine ls → All OneLine ms → OneLine x → OneLine y
    → ended ls ++ x ≡ ended ms ++ y → (ls ≡ ms) × (x ≡ y)
ended_once [] [] x y p q i j e = (refl, e)
ended_once [] (m ∷ ms) x y p q i j e = absurd (no_feed m (ended ms ++ y) x i (sym (e ∙ opens m ms y)))
ended_once (l ∷ ls) [] x y p q i j e = absurd (no_feed l (ended ls ++ x) y j (sym (opens l ls x) ∙ e))
ended_once (l ∷ ls) (m ∷ ms) x y p q i j e =
    let cut = sym (opens l ls x) ∙ (e ∙ opens m ms y) in
    let first = first_cut l m (ended ls ++ x) (ended ms ++ y) (All-head OneLine l ls p) (All-head OneLine m ms q) cut in
    let others = ended_once ls ms x y (All-tail OneLine l ls p) (All-tail OneLine m ms q) i j first.1 in
    (cc, others.1)

-- an input from the start of a line has one text before its end, and one part is left
session_once : (task : Task) (c d e : Tally) (input o p x y : List ℕ) → OneLine x → OneLine y
    → Session task c [] input o d x → Session task c [] input p e y → (o ≡ p) × (d ≡ e) × (x ≡ y)
session_once task c d e input o p x y i j s t =
    let cuts = ended_once s.lines t.lines x y s.whole t.whole i j (sym s.cut ∙ t.cut) in
    let same = answered_once task t.lines c d e o p (subst (λ ls. Answered task c ls o d) cuts.0 s.answers) t.answers in
    (same.0, same.1, cuts.1)

-- a part that is left is closed by one text
closes_once : (task : Task) (c d e : Tally) (left x y : List ℕ) → Closes task c left x d → Closes task c left y e → (x ≡ y) × (d ≡ e)
closes_once task c d e [] x y (same, text) (same', text') = (cc, cc)
closes_once task c d e (b ∷ bs) x y (last, tells, text) (last', tells', text') =
    let one = tells_once (b ∷ bs) task c d e last last' tells tells' in
    (cc, one.1)

-- an input has one printing, and one tally
pub one_printing : OnePrinting
one_printing task input a b c d p q =
    let s = session_once task none_yet p.counts q.counts input p.answers q.answers p.left q.left p.part q.part p.session q.session in
    let ends = closes_once task p.counts c d p.left p.ending q.ending p.closes (rw (s.1, s.2) q.closes) in
    (cc, ends.1)
