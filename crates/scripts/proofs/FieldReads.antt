-- Numbers that are read one after another at a place of a script are those in the fields of its line. Assumes nothing.
use Rattle.std.proofs.Common.{◌≡◌, ℕ, zero, suc, ◌+◌, ◌*◌, ◌^◌, ◌<◌, ◌≤◌, ◌⊎◌, Bool, eqb, ltb, leb, cond, ◌&&◌, List, [], ◌∷◌, ◌++◌, length, get_or}
use Rattle.std.proofs.Common.{ℤ, pos, neg_ℤ, Some, None, Ok, Err, Option, option_map, option_and_then, refl, sym, ap, ◌∙◌, inl, inr, add-one, arith}
use Rattle.std.specs.List.{onto_first}
use Rattle.std.proofs.lemmas.Bool.{cases_eq, eq-eqb, ne_eqb, cond-true, cond-false, lt-leb, lt-ltb, le-leb, and_right, and_from}
use Rattle.std.proofs.lemmas.List.{length-append, append-nil}
use Rattle.std.proofs.lemmas.List.Splits.{slice_split-cons_no}
use Rattle.lines.specs.Digits.{digit, digits_value}
use Rattle.lines.specs.Decimal.{natural, number}
use Rattle.lines.specs.Fields.{fields}
use Rattle.lines.specs.Reading.{with_first, readings}
use Rattle.lines.proofs.Cuts.{Solid, solid_more, fields_last, fields_cut}
use Rattle.scripts.specs.declared.reader.Read.{Read}
use Rattle.scripts.specs.declared.fault.ScriptFault.{ScriptFault}
use Rattle.scripts.specs.declared.fault.ScriptFault.TheVariants.{Line}
use Rattle.lines.specs.declared.fault.LineFault.TheVariants.{Unreadable}
use Rattle.scripts.specs.Cursor.{line_from, line_end, readings_after, DigitsAt, NumberAt, NextAt, LastAt}
use Rattle.scripts.proofs.Lines.{some_part}
use Rattle.scripts.proofs.Cursors.{at_feed, at_byte, ends_on}

-- a result of two steps is there where both are
both_there : (f : ℕ → ℕ → ℕ) (o q : Option ℕ) (v : ℕ) → option_and_then (λ d. option_map (f d) q) o ≡ Some v
    → ((d : ℕ) × (o ≡ Some d)) × ((n : ℕ) × (q ≡ Some n))
both_there f None q v e = absurd (cc)
both_there f (Some d) None v e = absurd (cc)
both_there f (Some d) (Some n) v e = ((d, refl), (n, refl))

none_there : (f : ℕ → ℕ → ℕ) (o : Option ℕ) → option_and_then (λ d. option_map (f d) None) o ≡ None
none_there f None = refl
none_there f (Some d) = refl

-- digits that write a number have no byte that is none
lacks : (b : ℕ) → digit 10 b ≡ None → (ds : List ℕ) (v : ℕ) → digits_value 10 ds ≡ Some v → (k : ℕ) → k < length ds → get_or ds k 0 ≡ b → ⊥
lacks b none [] v e k less is = let no : ⊥ = omega (arith, less) in no
lacks b none (c ∷ cs) v e zero less is =
    let parts = both_there (λ d n. d * 10 ^ length cs + n) (digit 10 c) (digits_value 10 cs) v e in
    let no : ◌≡◌ {A = Option ℕ} (Some parts.0.0) None = sym parts.0.1 ∙ ap (digit 10) is ∙ none in
    absurd (cc)
lacks b none (c ∷ cs) v e (suc k) less is =
    let parts = both_there (λ d n. d * 10 ^ length cs + n) (digit 10 c) (digits_value 10 cs) v e in
    lacks b none cs parts.1.0 parts.1.1 k (omega arith) is

-- and with such a byte they write none
spoilt : (ds : List ℕ) (b : ℕ) (g : List ℕ) → digit 10 b ≡ None → digits_value 10 (ds ++ (b ∷ g)) ≡ None
spoilt [] b g none = ap (option_and_then (λ d. option_map (λ n. d * 10 ^ length g + n) (digits_value 10 g))) none
spoilt (c ∷ cs) b g none =
    ap (λ q. option_and_then (λ d. option_map (λ n. d * 10 ^ length (cs ++ (b ∷ g)) + n) q) (digit 10 c)) (spoilt cs b g none)
    ∙ none_there (λ d n. d * 10 ^ length (cs ++ (b ∷ g)) + n) (digit 10 c)

either_none : (t : Bool) (o : Option ℕ) → o ≡ None → cond t o None ≡ None
either_none Bool.true o e = e
either_none Bool.false o e = refl

natural_spoilt : (ds : List ℕ) → digits_value 10 ds ≡ None → natural ds ≡ None
natural_spoilt ds none = either_none (ltb 0 (length ds) && leb (length ds) 10) (digits_value 10 ds) none

natural_long : (ds : List ℕ) → 10 < length ds → natural ds ≡ None
natural_long ds h = cond-false _ _ _ (and_right _ _ (lt-leb (length ds) 10 h))

natural_short : (ds : List ℕ) (v : ℕ) → 0 < length ds → length ds ≤ 10 → digits_value 10 ds ≡ Some v → natural ds ≡ Some v
natural_short ds v some few e = cond-true _ _ _ (and_from _ _ (lt-ltb 0 _ some) (le-leb _ 10 few)) ∙ e

-- a field stands there, and where it ends at no space it goes on as no number
pub record Field (f left : List ℕ) : Type 0 where
  pub solid : Solid f
  pub stops : (b : ℕ) (bs g : List ℕ) → left ≡ b ∷ bs → number (f ++ (b ∷ g)) ≡ None

-- a byte that is no space goes on with the field before it
onto : (f : List ℕ) (b : ℕ) (parts : List (List ℕ)) → (parts ≡ [] → ⊥) → (g : List ℕ) × (gs : List (List ℕ)) × (onto_first b parts ≡ (b ∷ g) ∷ gs)
onto f b [] some = absurd (some refl)
onto f b (p ∷ ps) some = (p, ps, refl)

pub longer : (f : List ℕ) (b : ℕ) (bs : List ℕ) → Solid f → (b ≡ 32 → ⊥) → (g : List ℕ) × (gs : List (List ℕ)) × (fields (f ++ (b ∷ bs)) ≡ (f ++ (b ∷ g)) ∷ gs)
longer [] b bs solid other =
    let (g, gs, is) = onto [] b (fields bs) (some_part (λ c. eqb c 32) bs) in
    (g, gs, slice_split-cons_no (λ c. eqb c 32) b bs (ne_eqb b 32 other) ∙ is)
longer (c ∷ cs) b bs solid other =
    let (g, gs, is) = longer cs b bs (λ k l e. solid (suc k) (omega arith) e) other in
    (g, gs, slice_split-cons_no (λ c. eqb c 32) c (cs ++ (b ∷ bs)) (ne_eqb c 32 (λ e. solid 0 (omega arith) e)) ∙ ap (onto_first c) is)

with_bad : (p q : ℕ) (o : Option ℤ) → with_first p o (Err p) ≡ Err p
with_bad p q None = refl
with_bad p q (Some x) = refl

-- the field is read, and then those after it
pub field_read : (f left : List ℕ) → Field f left → (p k : ℕ)
    → readings number p (suc k) (fields (f ++ left)) ≡ with_first p (number f) (readings_after p k left)
field_read f [] h p k =
    ap (λ x. readings number p (suc k) (fields x)) (append-nil f) ∙ ap (readings number p (suc k)) (fields_last f h.solid)
field_read f (b ∷ bs) h p k = go (cases_eq b 32)
  where
    go : (b ≡ 32) ⊎ (b ≡ 32 → ⊥) → readings number p (suc k) (fields (f ++ (b ∷ bs))) ≡ with_first p (number f) (readings_after p k (b ∷ bs))
    go (inl space) =
        let cut : fields (f ++ (b ∷ bs)) ≡ f ∷ fields bs = ap (λ x. fields (f ++ (x ∷ bs))) space ∙ fields_cut f bs h.solid in
        ap (readings number p (suc k)) cut
        ∙ ap (with_first p (number f)) (sym (cond-true (eqb b 32) (readings number (suc p) k (fields bs)) (Err p) (eq-eqb b 32 space)))
    go (inr other) =
        let (g, gs, is) = longer f b bs h.solid other in
        ap (readings number p (suc k)) is ∙ ap (λ o. with_first p o (readings number (suc p) k gs)) (h.stops b bs g refl)
        ∙ sym (ap (with_first p (number f)) (cond-false (eqb b 32) (readings number (suc p) k (fields bs)) (Err p) (ne_eqb b 32 other))
        ∙ with_bad p p (number f))

module _ {s : List ℕ} {first value end : ℕ} (d : DigitsAt s first value end) where
  -- what goes on after the digits is no number with them
  stopped : (b : ℕ) (bs g : List ℕ) → line_from s end ≡ b ∷ bs → natural (d.digits ++ (b ∷ g)) ≡ None
  stopped b bs g e =
      elim d.stops [
        | inl ten ↦ natural_long (d.digits ++ (b ∷ g)) (omega (arith, ten, length-append d.digits (b ∷ g)))
        | inr other ↦ natural_spoilt (d.digits ++ (b ∷ g)) (spoilt d.digits b g (other b bs e))
      ]

  digits_solid : Solid d.digits
  digits_solid = lacks 32 refl d.digits value d.reads

  pub digits_natural : first < end → natural d.digits ≡ Some value
  digits_natural some =
      let size : end ≡ first + length d.digits = d.ends in
      let few : length d.digits ≤ 10 = d.few in
      natural_short d.digits value (omega (arith, size, some)) few d.reads

  pub digits_lacking : end ≤ first → natural d.digits ≡ None
  digits_lacking none =
      let size : end ≡ first + length d.digits = d.ends in
      let zero_is : length d.digits ≡ 0 = omega (arith, size, none) in
      cond-false _ _ _ (ap (λ n. ltb 0 n && leb n 10) zero_is)

  pub digits_ends : line_end s end ≡ line_end s first
  digits_ends =
      let size : end ≡ first + length d.digits = d.ends in
      let both : length (line_from s first) ≡ length d.digits + length (line_from s end) = ap length d.line ∙ length-append d.digits (line_from s end) in
      omega (arith, size, both)

  -- with a minus in front
  minus_field : Field (45 ∷ d.digits) (line_from s end)
  minus_field = record {
    solid = solid_more 45 d.digits (λ e. omega (arith, e)) digits_solid;
    stops = λ b bs g e. ap (option_map (λ n. neg_ℤ (pos n))) (stopped b bs g e);
  }

  -- and without
  Plain : Type 0
  Plain = (c : ℕ) (cs : List ℕ) → line_from s first ≡ c ∷ cs → c ≡ 45 → ⊥

  plain_more : (ds : List ℕ) (b : ℕ) (bs g : List ℕ) → Plain → line_from s first ≡ ds ++ (b ∷ bs)
      → number (ds ++ (b ∷ g)) ≡ option_map pos (natural (ds ++ (b ∷ g)))
  unfolding Plain
  plain_more [] b bs g plain is = cond-false _ _ _ (ne_eqb b 45 (plain b bs is))
  plain_more (c ∷ cs) b bs g plain is = cond-false _ _ _ (ne_eqb c 45 (plain c (cs ++ (b ∷ bs)) is))

  plain_all : (ds left : List ℕ) → Plain → line_from s first ≡ ds ++ left → number ds ≡ option_map pos (natural ds)
  unfolding Plain
  plain_all [] left plain is = refl
  plain_all (c ∷ cs) left plain is = cond-false _ _ _ (ne_eqb c 45 (plain c (cs ++ left) is))

  plain_field : Plain → Field d.digits (line_from s end)
  plain_field plain = record {
    solid = digits_solid;
    stops = λ b bs g e. plain_more d.digits b bs g plain (d.line ∙ ap (λ l. d.digits ++ l) e) ∙ ap (option_map pos) (stopped b bs g e);
  }

  unminus : (get_or s first 10 ≡ 45 → ⊥) → Plain
  unfolding Plain
  unminus other c cs e minus = go (cases_eq (get_or s first 10) 10)
    where
      go : (get_or s first 10 ≡ 10) ⊎ (get_or s first 10 ≡ 10 → ⊥) → ⊥
      go (inl feed) = let no : ◌≡◌ {A = List ℕ} [] (c ∷ cs) = sym (at_feed s first feed) ∙ e in absurd (cc)
      go (inr more) =
          let same : get_or s first 10 ∷ line_from s (first + 1) ≡ c ∷ cs = sym (at_byte s first more) ∙ e in
          let here : get_or s first 10 ≡ c = cc in
          other (here ∙ minus)

  -- what the field holds, with no minus in front
  pub plain_reads : (get_or s first 10 ≡ 45 → ⊥) → (p k : ℕ)
      → readings number p (suc k) (fields (line_from s first)) ≡ with_first p (option_map pos (natural d.digits)) (readings_after p k (line_from s end))
  plain_reads other p k =
      let plain = unminus other in
      ap (λ l. readings number p (suc k) (fields l)) d.line ∙ field_read d.digits (line_from s end) (plain_field plain) p k
      ∙ ap (λ o. with_first p o (readings_after p k (line_from s end))) (plain_all d.digits (line_from s end) plain d.line)

-- and with one
module _ {s : List ℕ} (first : ℕ) {value end : ℕ} (d : DigitsAt s (first + 1) value end) (minus : get_or s first 10 ≡ 45) where
  goes_on : get_or s first 10 ≡ 10 → ⊥
  goes_on feed = let no : 45 ≡ 10 = sym minus ∙ feed in omega (arith, no)

  pub minus_reads : (p k : ℕ) → readings number p (suc k) (fields (line_from s first))
      ≡ with_first p (option_map (λ n. neg_ℤ (pos n)) (natural d.digits)) (readings_after p k (line_from s end))
  minus_reads p k =
      let line : line_from s first ≡ (45 ∷ d.digits) ++ line_from s end =
      at_byte s first goes_on ∙ ap (λ b. b ∷ line_from s (first + 1)) minus ∙ ap (λ l. 45 ∷ l) d.line in
      ap (λ l. readings number p (suc k) (fields l)) line ∙ field_read (45 ∷ d.digits) (line_from s end) (minus_field d) p k

  pub minus_ends : line_end s end ≡ line_end s first
  minus_ends = digits_ends d ∙ ends_on s first goes_on

-- a number that is read there, or none
module _ (s : List ℕ) (first end : ℕ) where
  abbrev ReadsAs : Option ℤ → Type 0
  ReadsAs o = (p k : ℕ) → readings number p (suc k) (fields (line_from s first)) ≡ with_first p o (readings_after p k (line_from s end))

  pub number_there : (o : Option ℤ) (value : ℤ) → ReadsAs o → o ≡ Some value → line_end s end ≡ line_end s first
      → (line_end s end ≡ line_end s first) × ReadsAs (Some value)
  number_there o value reads is ends = (ends, λ p k. reads p k ∙ ap (λ o. with_first p o (readings_after p k (line_from s end))) is)

  pub number_lacking : (o : Option ℤ) → ReadsAs o → o ≡ None → NumberAt s first None
  number_lacking o reads is p k = reads p k ∙ ap (λ o. with_first p o (readings_after p k (line_from s end))) is

extra : (q : ℕ) (fs : List (List ℕ)) → (fs ≡ [] → ⊥) → readings number q zero fs ≡ Err q
extra q [] some = absurd (some refl)
extra q (f ∷ fs) some = refl

-- what comes after a field that ends at the place
module _ (s : List ℕ) (at p : ℕ) where
  after_feed : get_or s at 10 ≡ 10 → (k : ℕ) → readings_after p k (line_from s at) ≡ readings number (suc p) k []
  after_feed feed k = ap (readings_after p k) (at_feed s at feed)

  after_space : get_or s at 10 ≡ 32 → (k : ℕ) → readings_after p k (line_from s at) ≡ readings number (suc p) k (fields (line_from s (at + 1)))
  after_space space k =
      ap (readings_after p k) (at_byte s at (λ feed. let no : 32 ≡ 10 = sym space ∙ feed in omega (arith, no)))
      ∙ cond-true (eqb (get_or s at 10) 32) (readings number (suc p) k (fields (line_from s (at + 1)))) (Err p) (eq-eqb _ 32 space)

  after_other : (get_or s at 10 ≡ 32 → ⊥) → (get_or s at 10 ≡ 10 → ⊥) → (k : ℕ) → readings_after p k (line_from s at) ≡ Err p
  after_other other more k =
      ap (readings_after p k) (at_byte s at more)
      ∙ cond-false (eqb (get_or s at 10) 32) (readings number (suc p) k (fields (line_from s (at + 1)))) (Err p) (ne_eqb _ 32 other)

  -- the next number
  pub next_there : (r : Read) → get_or s at 10 ≡ 32 → NumberAt s (at + 1) (Some r) → NextAt s at p (Ok r)
  next_there r space there = (
    there.0 ∙ ends_on s at (λ feed. let no : 32 ≡ 10 = sym space ∙ feed in omega (arith, no)),
    λ k. after_space space (suc k) ∙ there.1 (suc p) k,
  )

  pub next_lacking : (e : ScriptFault) → get_or s at 10 ≡ 32 → NumberAt s (at + 1) None → e ≡ Line (Unreadable (p + 1)) → NextAt s at p (Err e)
  next_lacking e space none is = (suc p, is ∙ ap (λ q. Line (Unreadable q)) (add-one p), λ k. after_space space (suc k) ∙ none (suc p) k)

  pub next_ended : (e : ScriptFault) → get_or s at 10 ≡ 10 → e ≡ Line (Unreadable (p + 1)) → NextAt s at p (Err e)
  next_ended e feed is = (suc p, is ∙ ap (λ q. Line (Unreadable q)) (add-one p), λ k. after_feed feed (suc k))

  pub next_bad : (e : ScriptFault) → (get_or s at 10 ≡ 32 → ⊥) → (get_or s at 10 ≡ 10 → ⊥) → e ≡ Line (Unreadable p) → NextAt s at p (Err e)
  next_bad e other more is = (p, is, λ k. after_other other more (suc k))

  -- or the last
  pub last_extra : (e : ScriptFault) → get_or s at 10 ≡ 32 → e ≡ Line (Unreadable (p + 1)) → LastAt s at p (Err e)
  last_extra e space is = (
    suc p,
    is ∙ ap (λ q. Line (Unreadable q)) (add-one p),
    after_space space 0 ∙ extra (suc p) (fields (line_from s (at + 1))) (some_part (λ c. eqb c 32) (line_from s (at + 1))),
  )

  pub last_bad : (e : ScriptFault) → (get_or s at 10 ≡ 32 → ⊥) → (get_or s at 10 ≡ 10 → ⊥) → e ≡ Line (Unreadable p) → LastAt s at p (Err e)
  last_bad e other more is = (p, is, after_other other more 0)
