use Rattle.books.specs.Layers.{fitting, trial_over}
use Rattle.books.specs.Listed.{listed}
use Rattle.books.proofs.Meanings.{keeps}
use Rattle.books.proofs.trial.Trial.lay.Goals as goal

pub returns-clause-kept : goal.returns-clause-kept
returns-clause-kept g c =
    let meaning = g.B.Book.meaning in
    keeps (λ t. trial_over (meaning t.below) (fitting (meaning t.below) (listed t.own.rows))) (λ t. t.below)
