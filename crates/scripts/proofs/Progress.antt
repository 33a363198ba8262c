-- How far a listing is written. Assumes nothing.
use Rattle.std.proofs.Common.{◌≡◌, ℕ, suc, ◌+◌, ◌*◌, ◌≤◌, ◌<◌, List, [], ◌∷◌, ◌++◌, length, sym, ap, subst, arith}
use Rattle.std.proofs.lemmas.List.{append_assoc, append-nil, take-append-drop}
use Rattle.scripts.specs.declared.answer.Answer.{Answer}
use Rattle.scripts.specs.Lines.{script_lines}
use Rattle.scripts.specs.Listings.{ListingOf, Written}
use Rattle.scripts.specs.Puts.{Puts}
use Rattle.scripts.specs.Texts.{line_text}
use Rattle.scripts.proofs.Putting.{puts_more}

-- the answers to the lines before are put where they belong, and with the listing of what is left they make the whole; the lines that are left have
-- numbers that are told, and room for their answers
pub record Progress (before after : List ℕ) (from written number : ℕ) (left : List ℕ) (Whole Rest : List ℕ → Type 0) : Type 0 where
  pub front : List ℕ
  pub puts : Puts before from front after written
  pub goes : (text : List ℕ) → Rest text → Whole (front ++ text)
  pub numbered : number + length left ≤ 32769
  pub room : written + 64 * length (script_lines left) ≤ length before

-- a text that is put where it belongs is one of these
abbrev pub Put : (List ℕ → Type 0) → List ℕ → ℕ → List ℕ → ℕ → Type 0
Put Whole before from after to = (text : List ℕ) × Whole text × Puts before from text after to

-- nothing is written
pub begins : (before : List ℕ) (from number : ℕ) (left : List ℕ) (Whole : List ℕ → Type 0) → number + length left ≤ 32769
    → from + 64 * length (script_lines left) ≤ length before → Progress before before from from number left Whole Whole
begins before from number left Whole numbered room = record {
  front = [];
  puts = record { output = sym (take-append-drop from before); ends = omega arith; inside = omega (arith, room) };
  goes = λ text h. h;
  numbered = numbered;
  room = room;
}

module _ {before after : List ℕ} {from written number : ℕ} {left : List ℕ} {Whole Rest : List ℕ → Type 0}
    (p : Progress before after from written number left Whole Rest) where
  -- one line more is answered
  pub goes_on : (a : Answer) {middle next rest line : List ℕ} {more : ℕ} {Next : List ℕ → Type 0} → script_lines left ≡ line ∷ script_lines rest
      → length rest < length left → ((text : List ℕ) → Next text → Rest (line_text number a ++ text)) → middle ≡ after
      → Puts middle written (line_text number a) next more → more ≤ written + 64 → Progress before next from more (number + 1) rest Whole Next
  goes_on a {middle} {next} {rest} {line} {more} {Next} is shorter step same put fits =
      let text = line_text number a in
      let front = p.front in record {
        front = front ++ text;
        puts = puts_more p.puts (subst (λ (xs : List ℕ). Puts xs written text next more) same put);
        goes = λ last h. subst Whole (sym (append_assoc front text last)) (p.goes (text ++ last) (step last h));
        numbered = omega (arith, p.numbered, shorter);
        room = (let e : length (script_lines left) ≡ suc (length (script_lines rest)) = ap length is in omega (arith, p.room, e, fits));
      }

  -- all is written
  pub ends : Rest [] → Put Whole before from after written
  ends h = (p.front, subst Whole (append-nil p.front) (p.goes [] h), p.puts)

  -- all that is left is written at once
  pub ends_so : {next text : List ℕ} {to : ℕ} → Rest text → Puts after written text next to → Put Whole before from next to
  ends_so {next} {text} {to} h put = (p.front ++ text, p.goes text h, puts_more p.puts put)

-- a listing that is put at the start is written
pub written_so : (script : List ℕ) {before after : List ℕ} {n : ℕ} → Put (ListingOf script) before 0 after n → Written script before after n
written_so script h = (h.0, h.1, omega (arith, h.2.ends), h.2.output)
