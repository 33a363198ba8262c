use Rattle.std.proofs.Common.{◌≡◌, ◌+◌, ◌-◌, suc, [], drop, take, subst, Ok, Err, ap, sym, ◌∙◌, append-nil, arith, rules}
use Rattle.std.proofs.lemmas.List.{take_all, length-set}
use Rattle.lines.specs.declared.fault.LineFault.TheVariants.{Unreadable}
use Rattle.lines.specs.Fields.{left_of}
use Rattle.lines.specs.Reading.{Taken, Ended, TakenUpto, readings, listed}
use Rattle.lines.proofs.Cuts.{left_few}
use Rattle.lines.proofs.Takes.{after, one_less, left_after, left_after_fault, bad_taken, taken, refused}
use Rattle.lines.proofs.fields.Fields.last_values.Goals as goal

pub overflow_add-end : goal.overflow_add-end
overflow_add-end g c = let few = left_few c.args.self.now.rest c.args.self.now.short in omega arith

pub loop-before-preserved : goal.loop-before-preserved
loop-before-preserved g c =
    let read = g.T.FromField.reading in
    let i = c.loop-before.before in
    let fs = left_of c.loop-before.self in
    let gs = left_of c.value.new.self in
    let x = c.in_ok-value.field-0 in
    let t : Taken read (i + 1) fs (Ok x) gs = c.in_ok-value.ensures in
    record {
      places = length-set _ _ _ ∙ c.loop-before.invariant.places;
      fields = omega (arith, one_less read (i + 1) fs gs x t);
      rest = left_after i (left_of c.args.self.now) fs gs c.loop-before.invariant.rest (sym (ap (drop 1) t.1));
      reads = sym (taken read g.row.N i c.loop-before.value-items fs gs x c.loop-before-test.true (omega arith) t) ∙ c.loop-before.invariant.reads;
    }

pub returns-in_err-value : goal.returns-in_err-value
returns-in_err-value g c =
    let read = g.T.FromField.reading in
    let i = c.loop-before.before in
    let xs = take i c.loop-before.value-items in
    let fs = left_of c.loop-before.self in
    let gs = left_of c.value.new.self in
    let e = c.in_err-value.field-0.0 in
    let t : Taken read (i + 1) fs (Err e) gs = c.in_err-value.ensures in
    let left : g.row.N - i ≡ suc (g.row.N - (i + 1)) = omega arith in
    let bad = ap (λ k. after xs (readings read (i + 1) k fs)) left ∙ ap (after xs) (refused read (i + 1) _ fs gs e t) in
    let answer : c.from_residual.result ≡ Err e = search rules in
    record {
      reads = sym c.loop-before.invariant.reads ∙ (bad ∙ ap listed (sym answer));
      takes = subst (λ r. TakenUpto (left_of c.args.self.now) r gs) (sym answer)
          (left_after_fault i (left_of c.args.self.now) fs gs e c.loop-before.invariant.rest (bad_taken read (i + 1) fs gs e t) t.0);
    }

pub returns-in_err-end-clause-takes : goal.returns-in_err-end-clause-takes
returns-in_err-end-clause-takes g c =
    let i = c.loop-before.before in
    let every = left_of c.args.self.now in
    let fs = left_of c.loop-before.self in
    let gs = left_of c.end.new.self in
    let e = c.in_err-end.field-0.0 in
    let t : Ended (g.row.N + 1) fs (Err e) gs = c.in_err-end.ensures in
    let answer : c.from_residual-in_err-end.result ≡ Err e = search rules in
    let place : e ≡ Unreadable (i + 1) = t.0 ∙ ap (λ n. Unreadable (n + 1)) (omega arith) in
    subst (λ r. TakenUpto every r gs) (sym answer) (left_after_fault i every fs gs e c.loop-before.invariant.rest (sym (ap (drop 1) t.1.1)) place)

pub returns-clause-takes : goal.returns-clause-takes
returns-clause-takes g c = c.in_ok-end.ensures.1

pub returns-clause-reads : goal.returns-clause-reads
returns-clause-reads g c =
    let read = g.T.FromField.reading in
    let i = c.loop-before.before in
    let xs = c.loop-before.value-items in
    let left : g.row.N - i ≡ 0 = omega arith in
    let none : left_of c.loop-before.self ≡ [] = c.in_ok-end.ensures.0 in
    sym c.loop-before.invariant.reads
    ∙ (ap (λ k. after (take i xs) (readings read (i + 1) k (left_of c.loop-before.self))) left
    ∙ (ap (λ l. after (take i xs) (readings read (i + 1) 0 l)) none
    ∙ (ap Ok (append-nil (take i xs)) ∙ ap Ok (take_all i xs (omega arith)))))
