use Rattle.std.proofs.Common.{Ok, refl, arith, rules}
use Rattle.std.proofs.lemmas.List.{length-map}
use Rattle.bounds.specs.Making.{row_of}
use Rattle.books.specs.Calls.{still}
use Rattle.books.proofs.Bulks.{went_all, added_none, added_more, never_full, added_all}
use Rattle.books.proofs.bulk.add_all.Goals as goal

pub returns-then-free_count-bounds : goal.returns-then-free_count-bounds
returns-then-free_count-bounds g c = record { adds = (omega (arith, length-map c.args.bounds.now row_of), refl); went = still }

pub loop-bound-init : goal.loop-bound-init
loop-bound-init g c = added_none _ _ _ _ (omega arith)

pub loop-bound-preserved : goal.loop-bound-preserved
loop-bound-preserved g c =
    let added = c.in_ok-add.ensures in
    let is = c.bound-item.is in
    search (rules, added_more)

pub returns-in_err-add : goal.returns-in_err-add
returns-in_err-add g c =
    absurd (never_full _ _ _ _ _ _ _ (row_of c.bound-item.result) _ c.loop-bound-test.true c.loop-bound.invariant c.in_err-add.ensures)

pub returns : goal.returns
returns g c =
    let all = added_all _ _ _ _ _ _ c.loop-bound-test.false c.loop-bound.invariant in
    record { adds = all; went = went_all _ _ _ _ _ c.args.bounds.now (Ok (tt {0})) all }
