-- The input in pieces: what one byte does, and how two pieces join. Assumes nothing.
use Rattle.std.proofs.Common.{◌≡◌, ℕ, ◌+◌, ◌<◌, List, [], ◌∷◌, ◌++◌, length, get_or, take, Ok, Err, Result, sym, refl, ap, ◌∙◌, subst, append_assoc}
use Rattle.std.proofs.Common.{append-nil, arith, lit≤}
use Rattle.std.proofs.lemmas.List.Elements.{All-nil, All-cons, All-append, All-push}
use Rattle.std.proofs.lemmas.List.{get_or-take, take_more}
use Rattle.bounds.specs.declared.bound.Bound.{Bound as BoundT}
use Rattle.lines.specs.Decimal.{number}
use Rattle.lines.specs.Hex.{word}
use Rattle.lines.specs.Kept.{kept}
use Rattle.lines.proofs.Front.{decided}
use Rattle.lines.specs.Lengths.{number_long, word_long}
use Rattle.listings.specs.declared.entry.Entry.{Entry}
use Rattle.listings.specs.declared.entry.Entry.TheVariants as entries
use Rattle.listings.specs.declared.fault.ListingFault.{ListingFault}
use Rattle.listings.specs.declared.fault.ListingFault.TheVariants.{Line, Bound, Word}
use Rattle.listings.specs.declared.task.Tally.{Tally}
use Rattle.listings.specs.declared.task.Task.{Task}
use Rattle.listings.specs.declared.task.Task.TheVariants.{Write, Read, RoundTrip}
use Rattle.listings.specs.declared.tool.Tool.{Tool}
use Rattle.listings.specs.Lines.{BoundLine, WordsLine, LineOf, EntryOf}
use Rattle.listings.specs.Printing.{text_of_summary}
use Rattle.listings.specs.Counts.{none_yet}
use Rattle.listings.specs.Sessions.{Plain, OneLine, ended, Tells, Answered, Session, Closes}
use Rattle.listings.specs.Tools.{Follows, EndsWith, PiecesJoin, WholePrints}

-- the first 48 bytes of a line decide what it holds
module _ (whole : List ℕ) where
  bound_front : (r : Result BoundT ListingFault) → BoundLine (take 48 whole) r → BoundLine whole r
  bound_front (Ok b) (f, reads, says) = (f, decided number 11 number_long 4 1 48 (take 48 whole) whole _ (lit≤ tt) refl reads, says)
  bound_front (Err (Line e)) reads = decided number 11 number_long 4 1 48 (take 48 whole) whole _ (lit≤ tt) refl reads
  bound_front (Err (Bound e)) (f, reads, out) = (f, decided number 11 number_long 4 1 48 (take 48 whole) whole _ (lit≤ tt) refl reads, out)
  bound_front (Err (Word e)) never = never

  words_front : (r : Result BoundT ListingFault) → WordsLine (take 48 whole) r → WordsLine whole r
  words_front (Ok b) reads = decided word 8 word_long 3 1 48 (take 48 whole) whole _ (lit≤ tt) refl reads
  words_front (Err (Line e)) reads = decided word 8 word_long 3 1 48 (take 48 whole) whole _ (lit≤ tt) refl reads
  words_front (Err (Bound e)) never = never
  words_front (Err (Word e)) (ws, reads, broken) = (ws, decided word 8 word_long 3 1 48 (take 48 whole) whole _ (lit≤ tt) refl reads, broken)

  line_front : (task : Task) (r : Result BoundT ListingFault) → LineOf task (take 48 whole) r → LineOf task whole r
  line_front Write r h = bound_front r h
  line_front Read r h = words_front r h
  line_front RoundTrip r h = bound_front r h

  entry_front : (task : Task) (e : Entry) → EntryOf task (take 48 whole) e → EntryOf task whole e
  entry_front task entries.Note h = sym (get_or-take 48 whole 0 0 (omega arith)) ∙ h
  entry_front task (entries.Bound b) (other, h) = ((λ n. other (get_or-take 48 whole 0 0 (omega arith) ∙ n)), line_front task (Ok b) h)
  entry_front task (entries.Refused e) (other, h) = ((λ n. other (get_or-take 48 whole 0 0 (omega arith) ∙ n)), line_front task (Err e) h)

-- what is told of the bytes that are kept is told of the line
tells_whole : (task : Task) (c d : Tally) (front whole text : List ℕ) → front ≡ take 48 whole → Tells task c front text d → Tells task c whole text d
tells_whole task c d front whole text e t = record {
  entry = t.entry;
  counts = t.counts;
  prints = t.prints;
  holds = entry_front whole task t.entry (subst (λ l. EntryOf task l t.entry) e t.holds);
}

ended-append : (lines more : List (List ℕ)) → ended (lines ++ more) ≡ ended lines ++ ended more
ended-append [] more = refl
ended-append (l ∷ lines) more = ap (λ x. (l ++ (10 ∷ [])) ++ x) (ended-append lines more) ∙ sym (append_assoc (l ++ (10 ∷ [])) (ended lines) (ended more))

Answered-append : (task : Task) (lines more : List (List ℕ)) (c d e : Tally) (o p : List ℕ)
    → Answered task c lines o d → Answered task d more p e → Answered task c (lines ++ more) (o ++ p) e
Answered-append task [] more c d e o p (none, same) q =
    subst (λ x. Answered task c more (x ++ p) e) (sym none) (subst (λ x. Answered task x more p e) same q)
Answered-append task (l ∷ lines) more c d e o p (first, rest, between, cut, tells, h) q =
    (first, rest ++ p, between, ap (λ x. x ++ p) cut ∙ append_assoc first rest p, tells, Answered-append task lines more between d e rest p h q)

Session-append : (task : Task) (c d e : Tally) (part x y o p middle left : List ℕ)
    → Session task c part x o d middle → Session task d middle y p e left → Session task c part (x ++ y) (o ++ p) e left
Session-append task c d e part x y o p middle left s t = record {
  lines = s.lines ++ t.lines;
  cut = sym (append_assoc part x y) ∙ (ap (λ z. z ++ y) s.cut ∙ (append_assoc (ended s.lines) middle y
      ∙ (ap (λ z. ended s.lines ++ z) t.cut ∙ (sym (append_assoc (ended s.lines) (ended t.lines) left)
      ∙ ap (λ z. z ++ left) (sym (ended-append s.lines t.lines))))));
  whole = All-append OneLine s.lines t.lines s.whole t.whole;
  answers = Answered-append task s.lines t.lines c d e o p s.answers t.answers;
}

-- no input changes nothing
pub follows_none : (tool : Tool) (text : List ℕ) → text ≡ [] → Follows tool [] text tool
follows_none tool text none = record {
  task = refl;
  goes = λ part h. (part, h, record { lines = []; cut = append-nil part; whole = All-nil OneLine; answers = (none, refl) });
}

-- two pieces are answered as one
pub Follows-append : PiecesJoin
Follows-append a b z x y o p f g = record {
  task = g.task ∙ f.task;
  goes = λ part h.
      let first = f.goes part h in
      let then = g.goes first.0 first.1 in
      let session = subst (λ t. Session t b.tally first.0 y p z.tally then.0) f.task then.2 in
      (then.0, then.1, Session-append a.task a.tally b.tally z.tally part x y o p first.0 then.0 first.2 session);
}

-- a byte that ends no line
pub follows_byte : (before after : Tool) (b : ℕ) (text : List ℕ) → (b ≡ 10 → ⊥) → text ≡ [] → after.task ≡ before.task → after.tally ≡ before.tally
    → ((whole : List ℕ) → kept before.line ≡ take 48 whole → kept after.line ≡ take 48 (whole ++ (b ∷ []))) → Follows before (b ∷ []) text after
follows_byte before after b text other none task tally front = record {
  task = task;
  goes = λ part h. (
    part ++ (b ∷ []),
    (All-push Plain part b h.0 other, front part h.1),
    record { lines = []; cut = refl; whole = All-nil OneLine; answers = (none, tally) },
  );
}

-- a line feed, which ends the line
pub follows_line : (before after : Tool) (b : ℕ) (text : List ℕ) → b ≡ 10 → after.task ≡ before.task → kept after.line ≡ []
    → Tells before.task before.tally (kept before.line) text after.tally → Follows before (b ∷ []) text after
follows_line before after b text feed task none tells = record {
  task = task;
  goes = λ part h. (
    [],
    (All-nil Plain, none),
    record {
      lines = part ∷ [];
      cut = ap (λ x. part ++ (x ∷ [])) feed ∙ (sym (append-nil (part ++ (10 ∷ []))) ∙ sym (append-nil ((part ++ (10 ∷ [])) ++ [])));
      whole = All-cons OneLine part [] h.0 (All-nil OneLine);
      answers = (
        text,
        [],
        after.tally,
        sym (append-nil text),
        tells_whole before.task before.tally after.tally (kept before.line) part text h.1 tells,
        (refl, refl),
      );
    },
  );
}

-- the end of the input, with or without a line that no line feed ended
pub ends : (tool after : Tool) (last text : List ℕ) → after.task ≡ tool.task
    → (kept tool.line ≡ [] → (last ≡ []) × (after.tally ≡ tool.tally))
    → ((kept tool.line ≡ [] → ⊥) → Tells tool.task tool.tally (kept tool.line) last after.tally)
    → text ≡ last ++ text_of_summary after.task after.tally → EndsWith tool text after.tally
ends tool after last text task none some printed [] (one, keeps) =
    let same = none keeps in (
      same.1,
      printed ∙ (ap (λ x. x ++ text_of_summary after.task after.tally) same.0
          ∙ (ap (λ t. text_of_summary t after.tally) task ∙ ap (λ c. text_of_summary tool.task c) same.1)),
    )
ends tool after last text task none some printed (b ∷ bs) (one, keeps) =
    let begun : kept tool.line ≡ [] → ⊥ = λ e. let z : ◌≡◌ {A = ℕ} 0 1 = cc (sym e ∙ keeps) in omega arith in (
      last,
      tells_whole tool.task tool.tally after.tally (kept tool.line) (b ∷ bs) last keeps (some begun),
      printed ∙ ap (λ t. last ++ text_of_summary t after.tally) task,
    )

-- one byte more of a piece
pub follows_push : (a b z : Tool) (piece : List ℕ) (i : ℕ) (out text more : List ℕ) → i < length piece
    → Follows a (take i piece) out b → Follows b (get_or piece i 0 ∷ []) text z → more ≡ out ++ text → Follows a (take (i + 1) piece) more z
follows_push a b z piece i out text more within f g e =
    subst (λ o. Follows a (take (i + 1) piece) o z) (sym e)
    (subst (λ x. Follows a x (out ++ text) z) (sym (take_more piece i 0 within)) (Follows-append a b z (take i piece) (get_or piece i 0 ∷ []) out text f g))

-- a fresh tool, the whole input, and its end
pub whole_prints : WholePrints
whole_prints task tool after input o p d fresh f closes =
    let first = f.goes [] (All-nil Plain, fresh.line_is) in
    record {
      answers = o;
      counts = after.tally;
      left = first.0;
      part = first.1.0;
      ending = p;
      text_is = refl;
      session = subst (λ t. Session t none_yet [] input o after.tally first.0) fresh.task_is
          (subst (λ z. Session tool.task z [] input o after.tally first.0) fresh.tally_is first.2);
      closes = subst (λ t. Closes t after.tally first.0 p d) (f.task ∙ fresh.task_is) (closes first.0 first.1);
    }
