-- The words of single bounds with known outcomes. Assumes nothing.
use Rattle.std.proofs.Common.{ℕ, zero, suc, ◌<◌, List, [], ◌∷◌, get_or, pos, negsuc, refl, arith, Ok, Err, Result}
use Rattle.std.proofs.lemmas.Int.{ints}
use Rattle.std.proofs.lemmas.List.Elements.{All-nil, All-cons}
use Rattle.bounds.specs.Range.{Sound}
use Rattle.words.specs.declared.fault.WordFault.{WordFault}
use Rattle.words.specs.declared.fault.WordFault.TheVariants.{Word}
use Rattle.words.specs.Reading.{FitsAt, IsPart, BreaksAt, Holds, Breaks, Checked}
use Rattle.words.proofs.Readings.{law}
use Rattle.plans.specs.Known.{bound, with_t, CheckedOnly}

-- a buffer that is answered so is answered no otherwise
checked_only : (ws : List ℕ) (r : Result ℕ WordFault) → Checked ws r → CheckedOnly ws r
checked_only ws r c = (c, λ q h. law.one_answer ws q r h c)

pub greatest_holds : Holds (bound 0 1 (pos 500_000_000) (pos 0) ∷ []) (with_t 0x9DCD6500)
greatest_holds = record { sound = All-cons Sound _ [] fits (All-nil Sound); after = []; cut = refl; ends = refl }
  where
    fits : Sound (bound 0 1 (pos 500_000_000) (pos 0))
    fits = (omega arith, omega arith, (omega (arith, ints), omega (arith, ints)), (omega (arith, ints), omega (arith, ints)))

pub greatest_checked : CheckedOnly (with_t 0x9DCD6500) (Ok 1)
greatest_checked = checked_only (with_t 0x9DCD6500) (Ok 1) (refl, (bound 0 1 (pos 500_000_000) (pos 0) ∷ [], refl, greatest_holds))

-- no t from -500,000,000 to 500,000,000 has the word after that of the greatest
no_part : IsPart 2 0x9DCD6501 → ⊥
no_part (pos n, part, e) = absurd (omega (arith, ints, part.1, e))
no_part (negsuc n, part, e) = absurd (omega (arith, ints, part.0, e))

past_breaks : BreaksAt (with_t 0x9DCD6501) 1
past_breaks = (omega arith, heads, no_part)
  where
    heads : (j : ℕ) → j < 1 → FitsAt j (get_or (with_t 0x9DCD6501) j 0)
    heads zero l = (0, 1, omega arith, omega arith, refl)
    heads (suc j) l = absurd (omega arith)

pub past_refused : CheckedOnly (with_t 0x9DCD6501) (Err (Word 1))
past_refused = checked_only (with_t 0x9DCD6501) (Err (Word 1)) (refl, broken)
  where
    broken : Breaks (with_t 0x9DCD6501) 1
    broken = record {
      before = [];
      sound = All-nil Sound;
      after = with_t 0x9DCD6501;
      cut = refl;
      begins = λ e. omega arith;
      k = 1;
      within = omega arith;
      breaks = past_breaks;
      place = refl;
    }
