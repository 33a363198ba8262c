use Rattle.std.proofs.Common.{◌≡◌, [], ◌∷◌, eqb, subst, arith, rules}
use Rattle.std.proofs.lemmas.Fn.{always_returns_same}
use Rattle.std.proofs.lemmas.Bool.{MatchBool-at_true}
use Rattle.std.specs.Option.{MatchOption}
use Rattle.lines.specs.Fields.{fields, left_in, left_of}
use Rattle.lines.proofs.Cuts.{two_parts, said}
use Rattle.lines.proofs.fields.FieldsIterator.next.Goals as goal

pub returns-clause-steps : goal.returns-clause-steps
returns-clause-steps c =
    let whole = c.splitn-parts.result.parts in
    let first = c.next-field.new.self in
    let one : first.count ≡ 1 = omega arith in
    let start : fields whole.rest.now ≡ left_of c.args.self.now = search rules in
    subst (λ fs. MatchOption c.next-field.result ((fs ≡ []) × (left_in c.next-self.result ≡ [])) (λ x. fs ≡ x.now ∷ left_in c.next-self.result)) start
    (two_parts whole.rest.now first.parts.rest.now first.parts.done c.next-field.result c.next-self.result
    (said c.next-field.result
    (λ none. search rules)
    (λ x h. (h.2, (h.4 (omega arith) (λ b. eqb b 32) (always_returns_same _ _ _ (λ a r q k. search rules))).1))
    c.next-field.ensures.steps.1)
    (said c.next-self.result
    (λ none. search rules)
    (λ x h. (h.3, MatchBool-at_true _ _ (h.1 one) h.2))
    c.next-self.ensures.steps.1))

pub returns-clause-goes : goal.returns-clause-goes
returns-clause-goes c = let s = returns-clause-steps c in search rules
