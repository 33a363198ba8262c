use Rattle.std.proofs.Common.{arith, rules}
use Rattle.relaxation.proofs.Founding.{star_back, star_found, post_back, post_found}
use Rattle.relaxation.proofs.spreading.Spreading.write_chain.Goals as goal

pub go_back-length-requires : goal.go_back-length-requires
go_back-length-requires g c = (search rules, post_back g.met.D.Delay.lawful c.requires c.in-Some.row c.in-Some.is c.from.result c.from.ensures)

pub overflow_sub-self : goal.overflow_sub-self
overflow_sub-self g c =
    let found =
    post_found g.met.D.Delay.lawful c.requires c.in-Some.row c.in-Some.is c.from.result c.from.ensures c.args.self.now.chain
    c.go_back-length.new.self.chain c.go_back-length.result (omega arith) c.go_back-length.ensures in
    omega (arith, found.0)

pub overflow_add-result : goal.overflow_add-result
overflow_add-result g c =
    let found =
    post_found g.met.D.Delay.lawful c.requires c.in-Some.row c.in-Some.is c.from.result c.from.ensures c.args.self.now.chain
    c.go_back-length.new.self.chain c.go_back-length.result (omega arith) c.go_back-length.ensures in
    omega (arith, found.0)

pub go_back-requires : goal.go_back-requires
go_back-requires g c = (search rules, star_back g.met.D.Delay.lawful c.requires c.in-None.is _ _ c.step_back-word.ensures)

pub returns-in-Some : goal.returns-in-Some
returns-in-Some g c =
    let found =
    post_found g.met.D.Delay.lawful c.requires c.in-Some.row c.in-Some.is c.from.result c.from.ensures c.args.self.now.chain
    c.go_back-length.new.self.chain c.go_back-length.result (omega arith) c.go_back-length.ensures in
    found.1

pub returns-in-None : goal.returns-in-None
returns-in-None g c =
    star_found g.met.D.Delay.lawful c.requires c.in-None.is c.step_back-word.result.0 c.step_back-word.result.1 c.step_back-word.ensures
    c.args.self.now.chain c.go_back.new.self.chain c.go_back.result (omega arith) c.go_back.ensures
